-- How many audits a core of a run has.
use Rattle.std.proofs.Common.{◌≡◌, ◌≢◌, ℕ, suc, ◌+◌, ◌<◌, ◌≤◌, Bool, true, false, ◌||◌, cond, eqb, leb, List, [], ◌∷◌, Option, Some, None, length, reverse, refl, sym, ap, ◌∙◌, arith, inl, inr}
use Rattle.std.specs.Prelude.{All, AllPairs, IsTrue, filter_map, find, option_map, zip}
use Rattle.std.specs.List.{cons_option, flat_map}
use Rattle.std.proofs.lemmas.Bool.{and_from, eq-eqb, le-leb}
use Rattle.std.proofs.lemmas.Bool.Decides.{eqb_tells}
use Rattle.std.proofs.lemmas.List.{length-append, length-reverse}
use Rattle.umem_options.specs.Flags.{bits_of, has_audit}
use Rattle.umem_options.specs.declared.flags.DebugFlags.{DebugFlags}
use Rattle.umem_options.specs.declared.options.Options.{Options}
use Rattle.trans_log.specs.declared.record.Trans.{Trans}
use Rattle.core_format.specs.declared.items.AuditItem.{AuditItem}
use Rattle.core_format.specs.declared.limits.TheConstants.{MOST_AUDITS}
use Rattle.core_format.specs.declared.whole.Core.{Core}
use Rattle.core_format.specs.Header.{has_audits}
use Rattle.plain_heap.specs.declared.entry.Body.{Body}
use Rattle.plain_heap.specs.declared.entry.Body.TheVariants as body
use Rattle.plain_heap.specs.declared.entry.Entry.{Entry}
use Rattle.plain_heap.specs.Calls.{turns_in_body, turns_made}
use Rattle.heap_ledger.specs.Ledger.{Ledger, run_setting, run_state}
use Rattle.heap_ledger.proofs.PlanLemmas.{made_few}
use Rattle.heap_logs.specs.declared.act.Act.{Act}
use Rattle.heap_logs.specs.Acts.{acts_of}
use Rattle.heap_logs.specs.Audits.{audit_record, chunks_in, standing_chunks}
use Rattle.heap_logs.specs.Transactions.{transaction_of, transaction_of_body, transaction_record, transactions_of}
use Rattle.heap_logs.proofs.AuditLemmas.{no_audits, without_audit}
use Rattle.heap_accounts.proofs.GrownLemmas.{most_few}
use Rattle.heap_accounts.specs.Places.{Places}
use Rattle.heap_pictures.specs.Laws.{CanBePictured}
use Rattle.heap_pictures.specs.Pictures.{TellsPlaces}
use Rattle.heap_pictures.proofs.AuditLemmas.{run_chunks_rise}

-- ---- one item more, or none

one_longer : {T : Type 0} (o : Option T) (items : List T)
    → length (cons_option o items) ≡ length (cons_option o []) + length items
one_longer None items = omega arith
one_longer (Some t) items = omega arith

at_most_one : {T : Type 0} (o : Option T) → length (cons_option o []) ≤ 1
at_most_one None = omega arith
at_most_one (Some t) = omega arith

-- ---- numbers that give an item

-- two that agree above a number give as many above it
same_above : {T : Type 0} (f g : ℕ → Option T) (c : ℕ) (ns : List ℕ) → ((n : ℕ) → n ≢ c → f n ≡ g n)
    → All (λ n. c < n) ns → length (filter_map f ns) ≡ length (filter_map g ns)
same_above f g c [] same above = refl
same_above {T} f g c (n ∷ ns) same above =
    let here : c < n = above 0 n (omega arith) in
    let rest = same_above f g c ns same (λ k d lt. above (suc k) d (omega arith)) in
    let its = ap (λ (o : Option T). length (cons_option o [])) (same n (omega (arith, here))) in
    omega (arith, rest, its, one_longer (f n) (filter_map f ns), one_longer (g n) (filter_map g ns))

-- two that agree but at one number differ by one at most, over rising numbers
one_apart : {T : Type 0} (f g : ℕ → Option T) (c : ℕ) (ns : List ℕ) → ((n : ℕ) → n ≢ c → f n ≡ g n)
    → AllPairs (λ a b. a < b) ns → length (filter_map f ns) ≤ suc (length (filter_map g ns))
one_apart f g c [] same rising = omega arith
one_apart {T} f g c (n ∷ ns) same rising =
    let long = one_longer (f n) (filter_map f ns) in
    let other = one_longer (g n) (filter_map g ns) in
    elim (eqb_tells n c) [
      | inl is ↦
          let it = is.1 in
          let rest = same_above f g c ns same
          (λ k d lt. let past = rising 0 (suc k) d (omega arith) (omega arith) in omega (arith, past, it)) in
          let one = at_most_one (f n) in
          omega (arith, rest, long, other, one)
      | inr isnt ↦
          let rest = one_apart f g c ns same (λ i j d less lt. rising (suc i) (suc j) d (omega arith) (omega arith)) in
          let its = ap (λ (o : Option T). length (cons_option o [])) (same n isnt.1) in
          omega (arith, rest, its, long, other)
    ]

-- the audit of the first transaction of a list that is of a chunk
abbrev audit_in : List Trans → ℕ → Option AuditItem
audit_in ts chunk = option_map audit_record (find (λ (t : Trans). eqb t.chunk chunk) ts)

-- rising chunks have no more audits than there are transactions
few_audits : (ts : List Trans) (ns : List ℕ) → AllPairs (λ a b. a < b) ns
    → length (filter_map (audit_in ts) ns) ≤ length ts
few_audits [] ns rising =
    let none : length (filter_map (audit_in []) ns) ≡ 0 = ap length (no_audits ns) in
    omega (arith, none)
few_audits (t ∷ ts) ns rising =
    let rest = few_audits ts ns rising in
    let one = one_apart (audit_in (t ∷ ts)) (audit_in ts) t.chunk ns others rising in
    omega (arith, rest, one)
  where
    others : (n : ℕ) → n ≢ t.chunk → audit_in (t ∷ ts) n ≡ audit_in ts n
    others n apart = elim (eqb_tells t.chunk n) [
      | inl is ↦ absurd (apart (sym is.1))
      | inr isnt ↦
          ap (λ (b : Bool). option_map audit_record (cond b (Some t) (find (λ (t : Trans). eqb t.chunk n) ts)))
          isnt.0
    ]

-- ---- transactions and calls

one_a_call : (options : Options) (cpus number thread : ℕ) (content : Body) (act : Option Act)
    → length (cons_option (transaction_of_body options cpus number thread content act) [])
    ≤ length (turns_in_body thread content)
one_a_call options cpus number thread (body.Call op frames answer) act =
    at_most_one (option_map (transaction_record options cpus number thread op frames) act)
one_a_call options cpus number thread (body.Grow cache base) act = omega arith
one_a_call options cpus number thread (body.Shrink cache base) act = omega arith

-- there are no more transactions than calls
trans_by_calls : (options : Options) (cpus : ℕ) (entries : List Entry) (acts : List (Option Act))
    → length (filter_map (transaction_of options cpus) (zip entries acts)) ≤ length (turns_made entries)
trans_by_calls options cpus [] acts = omega arith
trans_by_calls options cpus (entry ∷ entries) [] = omega arith
trans_by_calls options cpus (entry ∷ entries) (act ∷ acts) =
    let f = transaction_of options cpus in
    let rest = trans_by_calls options cpus entries acts in
    let one = one_a_call options cpus entry.number entry.thread entry.body act in
    let long = one_longer (f (entry, act)) (filter_map f (zip entries acts)) in
    let calls = length-append (turns_in_body entry.thread entry.body) (turns_made entries) in
    omega (arith, rest, one, long, calls)

-- ---- a core that tells a run

module _ (ledger : Ledger) (places : Places) (core : Core) (can : CanBePictured ledger places)
    (tells : TellsPlaces ledger places core) where
  transactions_few : length (transactions_of ledger.options (run_setting ledger) ledger.entries) ≤ 131072
  transactions_few = by_test (has_audit ledger.options)
    where
      by_test : (b : Bool)
          → length (cond b (filter_map (transaction_of ledger.options ledger.plan.header.cpus)
          (zip ledger.entries (acts_of (run_setting ledger) ledger.entries))) []) ≤ 131072
      by_test true =
          let few = trans_by_calls ledger.options ledger.plan.header.cpus ledger.entries
          (acts_of (run_setting ledger) ledger.entries) in
          let made = made_few ledger.plan ledger.entries can.legal.plan can.legal.follows in
          let calls = can.legal.plan.calls in
          omega (arith, few, made, calls, most_few ledger.plan.header.version)
      by_test false = omega arith

  audits_few : length core.audits ≤ MOST_AUDITS
  audits_few =
      let all = transactions_of ledger.options (run_setting ledger) ledger.entries in
      let chunks = flat_map chunks_in (standing_chunks (run_setting ledger) (run_state ledger)) in
      let few = few_audits (reverse all) chunks (run_chunks_rise ledger places core can tells) in
      omega (arith, ap length tells.tells.logs.audits, few, length-reverse all, transactions_few)

  -- without audit there are none
  none_without : has_audit ledger.options ≡ false → length core.audits ≡ 0
  none_without off =
      let setting = run_setting ledger in
      ap length tells.tells.logs.audits
      ∙ ap length (without_audit ledger.options ledger.plan.header.cpus ledger.entries (acts_of setting ledger.entries)
      (standing_chunks setting (run_state ledger)) off)

  -- a core has no more audits than it may, and none without audit
  pub audits_counted : IsTrue (has_audits (bits_of core.flags) (length core.audits))
  audits_counted =
      ap (λ (flags : DebugFlags). has_audits (bits_of flags) (length core.audits)) tells.tells.numbers.flags
      ∙ and_from (leb (length core.audits) MOST_AUDITS) (eqb (length core.audits) 0 || has_audit ledger.options)
      (le-leb (length core.audits) MOST_AUDITS audits_few) (by_test (has_audit ledger.options) refl)
    where
      or_right : (a : Bool) → (a || true) ≡ true
      or_right true = refl
      or_right false = refl

      by_test : (b : Bool) → has_audit ledger.options ≡ b → (eqb (length core.audits) 0 || b) ≡ true
      by_test true on = or_right (eqb (length core.audits) 0)
      by_test false off = ap (λ (a : Bool). a || false) (eq-eqb (length core.audits) 0 (none_without off))
