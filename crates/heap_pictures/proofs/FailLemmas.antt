-- The fails of a run keep the rules of cores.
use Rattle.std.proofs.Common.{◌≡◌, ℕ, suc, ◌+◌, ◌-◌, ◌<◌, ◌≤◌, ◌⊎◌, inl, inr, List, [], ◌∷◌, Option, Some, None, length, refl, sym, ap, ◌∙◌, subst, arith}
use Rattle.std.specs.Prelude.{filter_map, option_map}
use Rattle.std.proofs.lemmas.Bool.{cases_lt}
use Rattle.std.proofs.lemmas.List.Elements.{All-from_recursion}
use Rattle.umem_options.specs.Capacity.{fail_capacity}
use Rattle.case_table.specs.declared.cache_def.CacheDef.{CacheDef}
use Rattle.case_table.specs.declared.limits.TheConstants.{CLASS_COUNT, MOST_CACHE_BYTES}
use Rattle.case_table.specs.CacheDef.{class_def}
use Rattle.case_table.specs.Sizes.{class_for}
use Rattle.case_table.proofs.SizesLemmas.{class_for-large, least_from_class}
use Rattle.trans_log.specs.declared.record.Fail.{Fail}
use Rattle.core_format.specs.declared.whole.Core.{Core}
use Rattle.core_rules.specs.LogRules.{KeepsFailRules}
use Rattle.script.specs.Rules.{IsDeclarable, IsTurn}
use Rattle.script.specs.declared.operation.Op.{Op}
use Rattle.script.specs.declared.operation.Op.TheVariants.{Alloc, Zalloc, Free, CacheAlloc, CacheFree, Copy, Clear, Store, Link, Load, Reap}
use Rattle.plain_heap.specs.declared.entry.Body.{Body}
use Rattle.plain_heap.specs.declared.entry.Body.TheVariants as body
use Rattle.plain_heap.specs.declared.entry.Entry.{Entry}
use Rattle.plain_heap.specs.declared.reply.Reply.{Reply}
use Rattle.plain_heap.specs.declared.reply.Reply.TheVariants as reply
use Rattle.plain_heap.specs.Setting.{def_of}
use Rattle.plain_heap.specs.State.{State, after_entry, start_state}
use Rattle.plain_heap.proofs.SettingLemmas.{def_of-declared}
use Rattle.heap_ledger.specs.Ledger.{Ledger, run_setting, run_state}
use Rattle.heap_logs.specs.Fails.{fail_of_body, fail_of_call, fail_of_entry, fail_of_op, fail_record, fails_of}
use Rattle.heap_accounts.specs.Places.{Places, cache_count}
use Rattle.heap_pictures.specs.Items.{grows_by_cache}
use Rattle.heap_pictures.specs.Laws.{CanBePictured}
use Rattle.heap_pictures.specs.Pictures.{TellsPlaces}
use Rattle.heap_pictures.proofs.ByteLemmas.{IsTurnBody}
use Rattle.heap_pictures.proofs.EntryLemmas.{AreGoodFrom, IsGoodEntry, all_good}
use Rattle.heap_pictures.proofs.KeptLemmas.{AreKept, last_kept, none_kept, one_more}
use Rattle.heap_pictures.proofs.ShapeLemmas.{caches_counted}

-- ---- sizes

-- a size that a class serves
served : (size class : ℕ) → class_for size ≡ Some class → (1 ≤ size) × (size ≤ MOST_CACHE_BYTES) × (class < CLASS_COUNT)
served size class is =
    let least = least_from_class size class is in
    let some = least.some in
    let its = least.is_class in
    (omega (arith, some), fits size is, its)
  where
    past : (size : ℕ) → 4096 < size → class_for size ≡ Some class → ⊥
    past size large is = let none = class_for-large size large in cc

    fits : (size : ℕ) → class_for size ≡ Some class → size ≤ MOST_CACHE_BYTES
    fits size is = by_order (cases_lt 4096 size)
      where
        by_order : (4096 < size) ⊎ (size ≤ 4096) → size ≤ MOST_CACHE_BYTES
        by_order (inl large) = absurd (past size large is)
        by_order (inr small) = omega (arith, small)

-- ---- fails

module _ (ledger : Ledger) (places : Places) (core : Core) (can : CanBePictured ledger places)
    (tells : TellsPlaces ledger places core) where
  -- the fail of an entry that asked a cache for some bytes
  one_fail : (state : State) (n : ℕ) (entry : Entry) (size cache : ℕ) → IsGoodEntry ledger state n entry
      → entry.thread < ledger.plan.header.threads → 1 ≤ size → size ≤ MOST_CACHE_BYTES
      → cache < cache_count (run_setting ledger)
      → KeepsFailRules core (fail_record entry.number entry.thread size cache)
  one_fail state n entry size cache good thread some fits known =
      let told = tells.tells.numbers in
      let setting = run_setting ledger in
      let header = can.legal.plan.header in
      let count = caches_counted setting (grows_by_cache setting (run_state ledger)) core.caches tells.tells.caches in
      let number = good.number_is in
      let within = good.within in
      record {
        thread = omega (arith, thread, header.threads.1);
        cache = omega (arith, known, count);
        some = some;
        fits = fits;
        time = omega (arith, number, within, told.entries);
      }

  -- the fail of an entry keeps the rules
  pub fail_keeps : (state : State) (n : ℕ) (entry : Entry) (f : Fail) → IsGoodEntry ledger state n entry
      → fail_of_entry ledger.plan.header.caches entry ≡ Some f → KeepsFailRules core f × (f.time ≡ n)
  fail_keeps state n entry f good same = by_body entry.body good.turn same
    where
      kept : (size cache : ℕ) → fail_record entry.number entry.thread size cache ≡ f
          → entry.thread < ledger.plan.header.threads → 1 ≤ size → size ≤ MOST_CACHE_BYTES
          → cache < cache_count (run_setting ledger) → KeepsFailRules core f × (f.time ≡ n)
      kept size cache it thread some fits known = (
        subst (KeepsFailRules core) it (one_fail state n entry size cache good thread some fits known),
        sym (ap (λ (x : Fail). x.time) it) ∙ good.number_is,
      )

      by_class : (size : ℕ) (o : Option ℕ) → class_for size ≡ o
          → option_map (fail_record entry.number entry.thread size) o ≡ Some f
          → entry.thread < ledger.plan.header.threads → KeepsFailRules core f × (f.time ≡ n)
      by_class size None is here thread = absurd (cc here)
      by_class size (Some class) is here thread =
          let its = served size class is in
          let it : fail_record entry.number entry.thread size class ≡ f = cc in
          kept size class it thread its.0 its.1 (omega (arith, its.2))

      by_op : (op : Op) (frames : List ℕ)
          → IsTurn ledger.plan.header (record { thread = entry.thread; call = record { op = op; frames = frames } })
          → fail_of_op ledger.plan.header.caches entry.number entry.thread op ≡ Some f
          → KeepsFailRules core f × (f.time ≡ n)
      by_op (Alloc slot size) frames turn here = by_class size (class_for size) refl here turn.thread
      by_op (Zalloc slot size) frames turn here = by_class size (class_for size) refl here turn.thread
      by_op (CacheAlloc slot cache) frames turn here =
          let header = can.legal.plan.header in
          let caches = ledger.plan.header.caches in
          let low : CLASS_COUNT ≤ cache = turn.op.1.0 in
          let high : cache < CLASS_COUNT + length caches = turn.op.1.1 in
          let is = def_of-declared caches cache low in
          let size = ap (λ (d : CacheDef). d.size) is in
          let declared = All-from_recursion (IsDeclarable ledger.plan.header.version) caches header.caches
          (cache - CLASS_COUNT) (class_def 0) (omega (arith, low, high)) in
          let its = declared.size in
          let it : fail_record entry.number entry.thread (def_of caches cache).size cache ≡ f = cc in
          kept (def_of caches cache).size cache it turn.thread (omega (arith, size, its.0)) (omega (arith, size, its.1))
          (omega (arith, high))
      by_op (Free slot size) frames turn here = absurd (cc here)
      by_op (CacheFree slot cache) frames turn here = absurd (cc here)
      by_op (Copy to from) frames turn here = absurd (cc here)
      by_op (Clear slot) frames turn here = absurd (cc here)
      by_op (Store slot offset stored) frames turn here = absurd (cc here)
      by_op (Link slot offset value) frames turn here = absurd (cc here)
      by_op (Load to slot offset) frames turn here = absurd (cc here)
      by_op Reap frames turn here = absurd (cc here)

      by_call : (op : Op) (frames : List ℕ) (answer : Reply)
          → IsTurn ledger.plan.header (record { thread = entry.thread; call = record { op = op; frames = frames } })
          → fail_of_call ledger.plan.header.caches entry.number entry.thread op answer ≡ Some f
          → KeepsFailRules core f × (f.time ≡ n)
      by_call op frames reply.NoSpace turn here = by_op op frames turn here
      by_call op frames answer turn here = absurd (cc here)

      by_body : (content : Body) → IsTurnBody ledger.plan.header entry.thread content
          → fail_of_body ledger.plan.header.caches entry.number entry.thread content ≡ Some f
          → KeepsFailRules core f × (f.time ≡ n)
      by_body (body.Call op frames answer) turn here = by_call op frames answer turn here
      by_body (body.Grow cache base) turn here = absurd (cc here)
      by_body (body.Shrink cache base) turn here = absurd (cc here)

  fails_from : (rest : List Entry) (state : State) (n : ℕ) → AreGoodFrom ledger state n rest
      → AreKept (λ (f : Fail). f.time) (KeepsFailRules core) n
      (filter_map (fail_of_entry ledger.plan.header.caches) rest)
  fails_from [] state n are = none_kept (λ (f : Fail). f.time) (KeepsFailRules core) n
  fails_from (entry ∷ rest) state n are =
      let setting = run_setting ledger in
      let fail_of = fail_of_entry ledger.plan.header.caches in
      one_more (λ (f : Fail). f.time) (KeepsFailRules core) n (fail_of entry) (filter_map fail_of rest)
      (λ f same. fail_keeps state n entry f are.0 same)
      (fails_from rest (after_entry setting state entry) (suc n) are.1)

  -- so do those of the log, and their times rise
  pub log_fails : AreKept (λ (f : Fail). f.time) (KeepsFailRules core) 0 core.fails
  log_fails =
      let all = fails_of ledger.plan.header.caches ledger.entries in
      let capacity = fail_capacity ledger.logging in
      subst (AreKept (λ (f : Fail). f.time) (KeepsFailRules core) 0) (sym tells.tells.logs.fails)
      (last_kept (λ (f : Fail). f.time) (KeepsFailRules core) (length all - capacity) 0 all
      (fails_from ledger.entries start_state 0 (all_good ledger can.legal)))
