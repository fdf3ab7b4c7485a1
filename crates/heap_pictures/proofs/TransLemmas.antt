-- The transactions of a run keep the rules of cores.
use Rattle.std.proofs.Common.{◌≡◌, ℕ, suc, ◌-◌, ◌%◌, ◌^◌, ◌<◌, ◌≤◌, ◌⊎◌, inl, inr, Bool, true, false, cond, leb, ltb, List, [], ◌∷◌, Option, Some, None, length, take, refl, sym, ap, ◌∙◌, subst, arith}
use Rattle.std.specs.Prelude.{filter_map, option_map, zip}
use Rattle.std.proofs.lemmas.Bool.{and_from, le-leb, lt-ltb}
use Rattle.std.proofs.lemmas.List.{length-take}
use Rattle.std.proofs.lemmas.List.Elements.{All-from_recursion, All-take}
use Rattle.std.proofs.Math.Nat.{mod-lt}
use Rattle.umem_base.specs.declared.arena.TheConstants.{ARENA_BASE}
use Rattle.umem_base.specs.Roots.{arena_end}
use Rattle.umem_options.specs.Capacity.{transaction_capacity}
use Rattle.umem_options.specs.Flags.{has_audit}
use Rattle.trans_log.specs.declared.kinds.TheConstants.{ALLOCATION, FREE}
use Rattle.trans_log.specs.declared.record.Trans.{Trans}
use Rattle.core_format.specs.declared.whole.Core.{Core}
use Rattle.core_format.specs.Logs.{is_in_arena}
use Rattle.core_rules.specs.LogRules.{KeepsTransRules}
use Rattle.script.specs.Rules.{IsTurn}
use Rattle.script.specs.declared.operation.Op.{Op}
use Rattle.script.specs.declared.operation.Op.TheVariants.{Alloc, Zalloc, Free, CacheAlloc, CacheFree, Copy, Clear, Store, Link, Load, Reap}
use Rattle.plain_heap.specs.declared.entry.Body.{Body}
use Rattle.plain_heap.specs.declared.entry.Body.TheVariants as body
use Rattle.plain_heap.specs.declared.entry.Entry.{Entry}
use Rattle.plain_heap.specs.declared.reply.Reply.{Reply}
use Rattle.plain_heap.specs.declared.reply.Reply.TheVariants as reply
use Rattle.plain_heap.specs.Setting.{Setting}
use Rattle.plain_heap.specs.State.{HeapSlab, State, after_entry, chunk_number, next_chunk, slab_with_chunk, start_state, word_of_slot}
use Rattle.heap_ledger.specs.Ledger.{Ledger, run_setting}
use Rattle.heap_logs.specs.declared.act.Act.{Act}
use Rattle.heap_logs.specs.Acts.{act_at, act_of, act_of_alloc, act_of_body, act_of_call, act_of_free, acts_from, acts_of}
use Rattle.heap_logs.specs.Transactions.{is_allocation, transaction_kind, transaction_of, transaction_of_body, transaction_record, transactions_of}
use Rattle.heap_accounts.proofs.FreeRoundLemmas.{IsGood}
use Rattle.heap_accounts.specs.Places.{Places}
use Rattle.heap_pictures.specs.Laws.{CanBePictured}
use Rattle.heap_pictures.specs.Pictures.{TellsPlaces}
use Rattle.heap_pictures.proofs.ByteLemmas.{IsTurnBody}
use Rattle.heap_pictures.proofs.EntryLemmas.{AreGoodFrom, IsGoodEntry, all_good, own_chunk}
use Rattle.heap_pictures.proofs.KeptLemmas.{AreKept, last_kept, none_kept, one_more}

-- ---- lists

take_few : (n : ℕ) (xs : List ℕ) → length (take n xs) ≤ n
take_few n xs = omega (arith, length-take n xs)

-- ---- acts

-- the chunk of an act has a number below the next, and its address is in the arena
pub record IsActIn (setting : Setting) (state : State) (act : Act) : Type 0 where
  pub below : act.chunk < next_chunk setting state
  pub low : ARENA_BASE ≤ act.address
  pub high : act.address < arena_end setting.header.version

module _ (setting : Setting) (state : State) (good : IsGood setting state) (act : Act) where
  of_address : (address : ℕ) → act_at setting state address ≡ Some act → IsActIn setting state act
  of_address address same = by_slab (slab_with_chunk setting state.slabs address) refl same
    where
      by_slab : (o : Option HeapSlab) → slab_with_chunk setting state.slabs address ≡ o
          → option_map (λ (slab : HeapSlab). record { chunk = chunk_number setting slab address; address = address }) o
          ≡ Some act
          → IsActIn setting state act
      by_slab None is here = absurd (cc here)
      by_slab (Some slab) is here =
          let own = own_chunk setting state address slab good is in
          let one : Act = record { chunk = chunk_number setting slab address; address = address } in
          let it : one ≡ act = cc in
          subst (IsActIn setting state) it (record { below = own.below; low = own.low; high = own.high })

  of_alloc : (answer : Reply) → act_of_alloc setting state answer ≡ Some act → IsActIn setting state act
  of_alloc (reply.At address report) same = of_address address same
  of_alloc answer same = absurd (cc same)

  of_free : (word : ℕ) (answer : Reply) → act_of_free setting state word answer ≡ Some act → IsActIn setting state act
  of_free word reply.Ok same = of_address word same
  of_free word answer same = absurd (cc same)

  -- so it is with the act of each call
  pub of_call : (thread : ℕ) (op : Op) (answer : Reply) → act_of_call setting state thread op answer ≡ Some act
      → IsActIn setting state act
  of_call thread (Alloc slot size) answer same = of_alloc answer same
  of_call thread (Zalloc slot size) answer same = of_alloc answer same
  of_call thread (CacheAlloc slot cache) answer same = of_alloc answer same
  of_call thread (Free slot size) answer same = of_free (word_of_slot state thread slot) answer same
  of_call thread (CacheFree slot cache) answer same = of_free (word_of_slot state thread slot) answer same
  of_call thread (Copy to from) answer same = absurd (cc same)
  of_call thread (Clear slot) answer same = absurd (cc same)
  of_call thread (Store slot offset stored) answer same = absurd (cc same)
  of_call thread (Link slot offset value) answer same = absurd (cc same)
  of_call thread (Load to slot offset) answer same = absurd (cc same)
  of_call thread Reap answer same = absurd (cc same)

-- ---- transactions

kind_known : (op : Op) → (transaction_kind op ≡ ALLOCATION) ⊎ (transaction_kind op ≡ FREE)
kind_known op = by_test (is_allocation op)
  where
    by_test : (b : Bool) → (cond b ALLOCATION FREE ≡ ALLOCATION) ⊎ (cond b ALLOCATION FREE ≡ FREE)
    by_test true = inl refl
    by_test false = inr refl

in_arena_of : (version address : ℕ) → ARENA_BASE ≤ address → address < arena_end version
    → is_in_arena version address ≡ true
in_arena_of version address low high =
    and_from (leb ARENA_BASE address) (ltb address (arena_end version)) (le-leb ARENA_BASE address low)
    (lt-ltb address (arena_end version) high)

module _ (ledger : Ledger) (places : Places) (core : Core) (can : CanBePictured ledger places)
    (tells : TellsPlaces ledger places core) where
  -- the transaction of an act of an entry
  one_trans : (state : State) (n : ℕ) (entry : Entry) (op : Op) (frames : List ℕ) (act : Act)
      → IsGoodEntry ledger state n entry
      → IsTurn ledger.plan.header (record { thread = entry.thread; call = record { op = op; frames = frames } })
      → IsActIn (run_setting ledger) state act
      → KeepsTransRules core
      (transaction_record ledger.options ledger.plan.header.cpus entry.number entry.thread op frames act)
  one_trans state n entry op frames act good turn in' =
      let told = tells.tells.numbers in
      let header = can.legal.plan.header in
      let cpu : entry.thread % ledger.plan.header.cpus < ledger.plan.header.cpus =
      mod-lt entry.thread (omega (arith, header.cpus.0)) in
      let depth = take_few ledger.options.frames frames in
      let thread : entry.thread < ledger.plan.header.threads = turn.thread in
      let below = in'.below in
      let grows = good.grows in
      let number = good.number_is in
      let within = good.within in
      record {
        kind = kind_known op;
        cpu = omega (arith, cpu, told.cpus);
        thread = omega (arith, thread, header.threads.1);
        chunk = omega (arith, below, grows, told.next_chunk);
        address = ap (λ version. is_in_arena version act.address) told.version
            ∙ in_arena_of ledger.plan.header.version act.address in'.low in'.high;
        time = omega (arith, number, within, told.entries);
        depth = omega (arith, depth, told.frames);
        frames = All-take (λ (word : ℕ). word < 2 ^ 64) ledger.options.frames frames
            (All-from_recursion (λ (word : ℕ). word < 2 ^ 64) frames turn.frames);
      }

  -- the transaction of an entry keeps the rules
  pub trans_keeps : (state : State) (n : ℕ) (entry : Entry) (t : Trans) → IsGoodEntry ledger state n entry
      → transaction_of ledger.options ledger.plan.header.cpus (entry, act_of (run_setting ledger) state entry) ≡ Some t
      → KeepsTransRules core t × (t.time ≡ n)
  trans_keeps state n entry t good same = by_body entry.body good.turn same
    where
      by_act : (op : Op) (frames : List ℕ) (answer : Reply) (o : Option Act)
          → IsTurn ledger.plan.header (record { thread = entry.thread; call = record { op = op; frames = frames } })
          → act_of_call (run_setting ledger) state entry.thread op answer ≡ o
          → option_map (transaction_record ledger.options ledger.plan.header.cpus entry.number entry.thread op frames) o
          ≡ Some t
          → KeepsTransRules core t × (t.time ≡ n)
      by_act op frames answer None turn is here = absurd (cc here)
      by_act op frames answer (Some act) turn is here =
          let in' = of_call (run_setting ledger) state good.good act entry.thread op answer is in
          let one = transaction_record ledger.options ledger.plan.header.cpus entry.number entry.thread op frames act in
          let it : one ≡ t = cc in (
            subst (KeepsTransRules core) it (one_trans state n entry op frames act good turn in'),
            sym (ap (λ (x : Trans). x.time) it) ∙ good.number_is,
          )

      by_body : (content : Body) → IsTurnBody ledger.plan.header entry.thread content
          → transaction_of_body ledger.options ledger.plan.header.cpus entry.number entry.thread content
          (act_of_body (run_setting ledger) state entry.thread content) ≡ Some t
          → KeepsTransRules core t × (t.time ≡ n)
      by_body (body.Call op frames answer) turn here =
          by_act op frames answer (act_of_call (run_setting ledger) state entry.thread op answer) turn refl here
      by_body (body.Grow cache base) turn here = absurd (cc here)
      by_body (body.Shrink cache base) turn here = absurd (cc here)

  trans_from : (rest : List Entry) (state : State) (n : ℕ) → AreGoodFrom ledger state n rest
      → AreKept (λ (t : Trans). t.time) (KeepsTransRules core) n
      (filter_map (transaction_of ledger.options ledger.plan.header.cpus)
      (zip rest (acts_from (run_setting ledger) state rest)))
  trans_from [] state n are = none_kept (λ (t : Trans). t.time) (KeepsTransRules core) n
  trans_from (entry ∷ rest) state n are =
      let setting = run_setting ledger in
      let f = transaction_of ledger.options ledger.plan.header.cpus in
      let after = after_entry setting state entry in
      one_more (λ (t : Trans). t.time) (KeepsTransRules core) n (f (entry, act_of setting state entry))
      (filter_map f (zip rest (acts_from setting after rest)))
      (λ t same. trans_keeps state n entry t are.0 same) (trans_from rest after (suc n) are.1)

  -- so do all transactions, and their times rise
  pub all_trans : AreKept (λ (t : Trans). t.time) (KeepsTransRules core) 0
      (transactions_of ledger.options (run_setting ledger) ledger.entries)
  all_trans = by_test (has_audit ledger.options)
    where
      by_test : (b : Bool)
          → AreKept (λ (t : Trans). t.time) (KeepsTransRules core) 0
          (cond b (filter_map (transaction_of ledger.options ledger.plan.header.cpus)
          (zip ledger.entries (acts_of (run_setting ledger) ledger.entries))) [])
      by_test true = trans_from ledger.entries start_state 0 (all_good ledger can.legal)
      by_test false = none_kept (λ (t : Trans). t.time) (KeepsTransRules core) 0

  -- those of the log
  pub log_trans : AreKept (λ (t : Trans). t.time) (KeepsTransRules core) 0 core.trans
  log_trans =
      let all = transactions_of ledger.options (run_setting ledger) ledger.entries in
      let capacity = transaction_capacity ledger.logging ledger.options in
      subst (AreKept (λ (t : Trans). t.time) (KeepsTransRules core) 0) (sym tells.tells.logs.trans)
      (last_kept (λ (t : Trans). t.time) (KeepsTransRules core) (length all - capacity) 0 all all_trans)
