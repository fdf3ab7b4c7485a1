-- How many bytes the transaction log of a run has: no more than one transaction a call.
use Rattle.std.proofs.Common.{◌≡◌, ℕ, ◌+◌, ◌*◌, ◌-◌, ◌≤◌, Bool, true, false, cond, List, [], ◌∷◌, Option, Some, None, length, get_or, refl, sym, ap, subst, arith}
use Rattle.std.specs.Prelude.{All, filter_map, option_map, zip}
use Rattle.std.specs.List.{cons_option, flat_map}
use Rattle.std.proofs.lemmas.List.{length-append, length-drop, length-take}
use Rattle.std.proofs.lemmas.List.Elements.{All-cons, All-drop, All-nil}
use Rattle.umem_options.specs.Capacity.{transaction_capacity}
use Rattle.umem_options.specs.Flags.{has_audit}
use Rattle.umem_options.specs.Limits.{IsOptions}
use Rattle.umem_options.specs.declared.options.Options.{Options}
use Rattle.trans_log.specs.declared.record.Trans.{Trans}
use Rattle.case_table.specs.Record.{spelling}
use Rattle.core_format.specs.declared.whole.Core.{Core}
use Rattle.core_format.specs.Logs.{trans_widths}
use Rattle.core_format.specs.Spelling.{spelled_trans, spelled_words}
use Rattle.plain_heap.specs.declared.entry.Body.{Body}
use Rattle.plain_heap.specs.declared.entry.Body.TheVariants as body
use Rattle.plain_heap.specs.declared.entry.Entry.{Entry}
use Rattle.plain_heap.specs.Calls.{turns_in_body, turns_made}
use Rattle.heap_ledger.specs.Ledger.{IsLedger, Ledger, run_setting}
use Rattle.heap_ledger.proofs.PlanLemmas.{made_few}
use Rattle.heap_logs.specs.declared.act.Act.{Act}
use Rattle.heap_logs.specs.Acts.{acts_of}
use Rattle.heap_logs.specs.Transactions.{transaction_of, transaction_of_body, transaction_record, transactions_of}
use Rattle.heap_accounts.proofs.GrownLemmas.{most_few}
use Rattle.heap_pictures.specs.Pictures.{Pictures}
use Rattle.core_sizes.proofs.LengthLemmas.{items_long, numbers_long, record_long}

-- one of 36 bytes and 32 frames a call
abbrev pub most_trans : ℕ
most_trans = 131072 * 292

-- ---- how many there are

one_longer : {T : Type 0} (o : Option T) (items : List T)
    → length (cons_option o items) ≡ length (cons_option o []) + length items
one_longer None items = omega arith
one_longer (Some t) items = omega arith

at_most_one : {T : Type 0} (o : Option T) → length (cons_option o []) ≤ 1
at_most_one None = omega arith
at_most_one (Some t) = omega arith

one_a_call : (options : Options) (cpus number thread : ℕ) (content : Body) (act : Option Act)
    → length (cons_option (transaction_of_body options cpus number thread content act) [])
    ≤ length (turns_in_body thread content)
one_a_call options cpus number thread (body.Call op frames answer) act =
    at_most_one (option_map (transaction_record options cpus number thread op frames) act)
one_a_call options cpus number thread (body.Grow cache base) act = omega arith
one_a_call options cpus number thread (body.Shrink cache base) act = omega arith

by_calls : (options : Options) (cpus : ℕ) (entries : List Entry) (acts : List (Option Act))
    → length (filter_map (transaction_of options cpus) (zip entries acts)) ≤ length (turns_made entries)
by_calls options cpus [] acts = omega arith
by_calls options cpus (entry ∷ entries) [] = omega arith
by_calls options cpus (entry ∷ entries) (act ∷ acts) =
    let f = transaction_of options cpus in
    let rest = by_calls options cpus entries acts in
    let one = one_a_call options cpus entry.number entry.thread entry.body act in
    let long = one_longer (f (entry, act)) (filter_map f (zip entries acts)) in
    let calls = length-append (turns_in_body entry.thread entry.body) (turns_made entries) in
    omega (arith, rest, one, long, calls)

-- ---- how deep they are

-- the items that are made keep what each of them keeps
pub all_made : {X Y : Type 0} (P : Y → Type 0) (f : X → Option Y) (xs : List X)
    → ((x : X) (y : Y) → f x ≡ Some y → P y) → All P (filter_map f xs)
all_made P f [] each = All-nil P
all_made {X} {Y} P f (x ∷ xs) each = by_first (f x) refl (all_made P f xs each)
  where
    by_first : (o : Option Y) → f x ≡ o → All P (filter_map f xs) → All P (cons_option o (filter_map f xs))
    by_first None is rest = rest
    by_first (Some y) is rest = All-cons P y (filter_map f xs) (each x y is) rest

-- it has no more frames than a transaction may have
abbrev pub IsShallow : Trans → Type 0
IsShallow t = length t.stack ≤ 32

body_shallow : (options : Options) (cpus number thread : ℕ) (content : Body) (act : Option Act) (t : Trans)
    → options.frames ≤ 32 → transaction_of_body options cpus number thread content act ≡ Some t → IsShallow t
body_shallow options cpus number thread (body.Call op frames answer) None t few e = absurd (cc e)
body_shallow options cpus number thread (body.Call op frames answer) (Some act) t few e =
    let made : transaction_record options cpus number thread op frames act ≡ t = cc in
    subst IsShallow made (omega (arith, few, length-take options.frames frames))
body_shallow options cpus number thread (body.Grow cache base) act t few e = absurd (cc e)
body_shallow options cpus number thread (body.Shrink cache base) act t few e = absurd (cc e)

-- ---- those of a run

item_long : (t : Trans) → IsShallow t → length (spelled_trans t) ≤ 292
item_long t shallow =
    let fields = t.kind ∷ t.cpu ∷ t.thread ∷ t.chunk ∷ t.address ∷ t.time ∷ length t.stack ∷ [] in
    let head : length (spelling trans_widths fields) ≡ 36 = record_long trans_widths fields refl in
    let joined = length-append (spelling trans_widths fields) (spelled_words t.stack) in
    omega (arith, head, shallow, numbers_long 8 t.stack, joined)

module _ (ledger : Ledger) (legal : IsLedger ledger) (within : IsOptions ledger.options) where
  -- its transactions, if audit is on
  abbrev transactions_if : Bool → List Trans
  transactions_if audit =
      let acts = acts_of (run_setting ledger) ledger.entries in
      cond audit (filter_map (transaction_of ledger.options ledger.plan.header.cpus) (zip ledger.entries acts)) []

  abbrev run_transactions : List Trans
  run_transactions = transactions_of ledger.options (run_setting ledger) ledger.entries

  pub transactions_few : length run_transactions ≤ 131072
  transactions_few = by_audit (has_audit ledger.options)
    where
      by_audit : (b : Bool) → length (transactions_if b) ≤ 131072
      by_audit true =
          let acts = acts_of (run_setting ledger) ledger.entries in
          let few = by_calls ledger.options ledger.plan.header.cpus ledger.entries acts in
          let made = made_few ledger.plan ledger.entries legal.plan legal.follows in
          omega (arith, few, made, legal.plan.calls, most_few ledger.plan.header.version)
      by_audit false = omega arith

  pub transactions_shallow : All IsShallow run_transactions
  transactions_shallow = by_audit (has_audit ledger.options)
    where
      by_audit : (b : Bool) → All IsShallow (transactions_if b)
      by_audit true =
          let cpus = ledger.plan.header.cpus in
          let acted = zip ledger.entries (acts_of (run_setting ledger) ledger.entries) in
          all_made IsShallow (transaction_of ledger.options cpus) acted (λ x t is.
          body_shallow ledger.options cpus x.0.number x.0.thread x.0.body x.1 t within.frames is)
      by_audit false = All-nil IsShallow

  pub trans_long : (core : Core) → Pictures ledger core → length (flat_map spelled_trans core.trans) ≤ most_trans
  trans_long core is =
      let all = run_transactions in
      let dropped = length all - transaction_capacity ledger.logging ledger.options in
      let shallow : All IsShallow core.trans =
      subst (All IsShallow) (sym is.tells.logs.trans) (All-drop IsShallow dropped all transactions_shallow) in
      let each = items_long spelled_trans 292 core.trans (λ k d lt.
      item_long (get_or core.trans k d) (shallow k d lt)) in
      omega (arith, each, length-drop dropped all, ap length is.tells.logs.trans, transactions_few)
