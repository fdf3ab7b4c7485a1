-- What the contents log of a run keeps, keeps the rules of cores.
use Rattle.std.proofs.Common.{◌≡◌, ℕ, suc, ◌-◌, Bool, true, false, cond, List, [], ◌∷◌, Option, Some, None, length, refl, sym, ap, ◌∙◌, subst, arith}
use Rattle.std.specs.Prelude.{option_map}
use Rattle.std.specs.List.{cons_option}
use Rattle.umem_options.specs.Capacity.{contents_count}
use Rattle.umem_options.specs.Flags.{has_audit, has_flag}
use Rattle.umem_options.specs.declared.flags.DebugFlags.{DebugFlags}
use Rattle.umem_options.specs.declared.flags.TheConstants.DebugFlags.{CONTENTS}
use Rattle.umem_options.specs.declared.limits.TheConstants.{DEFAULT_CONTENTS}
use Rattle.trans_log.specs.declared.record.Saved.{Saved}
use Rattle.core_format.specs.declared.whole.Core.{Core}
use Rattle.core_rules.specs.LogRules.{KeepsSavedRules, most_kept}
use Rattle.script.specs.declared.operation.Op.{Op}
use Rattle.script.specs.declared.operation.Op.TheVariants.{Alloc, Zalloc, Free, CacheAlloc, CacheFree, Copy, Clear, Store, Link, Load, Reap}
use Rattle.plain_heap.specs.declared.entry.Body.{Body}
use Rattle.plain_heap.specs.declared.entry.Body.TheVariants as body
use Rattle.plain_heap.specs.declared.entry.Entry.{Entry}
use Rattle.plain_heap.specs.declared.reply.Reply.{Reply}
use Rattle.plain_heap.specs.declared.reply.Reply.TheVariants as reply
use Rattle.plain_heap.specs.Setting.{cache_def_in}
use Rattle.plain_heap.specs.State.{HeapSlab, State, after_entry, slab_with_chunk, start_state, word_of_slot}
use Rattle.heap_ledger.specs.Ledger.{Ledger, run_setting}
use Rattle.heap_logs.specs.Saved.{behind_item, saved_capacity, saved_from, saved_items, saved_length, saved_of_body, saved_of_call, saved_of_chunk, saved_of_entry, saved_of_free}
use Rattle.heap_accounts.specs.Places.{Places}
use Rattle.heap_pictures.specs.Laws.{CanBePictured}
use Rattle.heap_pictures.specs.Pictures.{TellsPlaces}
use Rattle.heap_pictures.proofs.EntryLemmas.{AreGoodFrom, IsGoodEntry, all_good, own_chunk}
use Rattle.heap_pictures.proofs.KeptLemmas.{AreKept, last_kept, none_kept, one_more}
use Rattle.heap_pictures.proofs.ToldLemmas.{bytes_are_small, bytes_counted}

behind_is : (item : Option Saved) (items : List Saved) → cons_option item items ≡ behind_item item items
behind_is None items = refl
behind_is (Some item) items = refl

module _ (ledger : Ledger) (places : Places) (core : Core) (can : CanBePictured ledger places)
    (tells : TellsPlaces ledger places core) where
  -- as many bytes are kept as the options say
  most_told : most_kept core ≡ contents_count ledger.options
  most_told =
      let told = tells.tells.numbers in
      ap (λ (flags : DebugFlags). cond (has_flag flags CONTENTS) core.contents DEFAULT_CONTENTS) told.flags
      ∙ ap (λ contents. cond (has_flag ledger.options.flags CONTENTS) contents DEFAULT_CONTENTS) told.contents

  -- what is kept of a chunk at an address
  one_saved : (state : State) (n : ℕ) (entry : Entry) (address : ℕ) (slab : HeapSlab) → IsGoodEntry ledger state n entry
      → slab_with_chunk (run_setting ledger) state.slabs address ≡ Some slab
      → KeepsSavedRules core (saved_of_chunk ledger.options (run_setting ledger) state entry.number address slab)
  one_saved state n entry address slab good is =
      let setting = run_setting ledger in
      let told = tells.tells.numbers in
      let own = own_chunk setting state address slab good.good is in
      let size = (cache_def_in setting slab.cache).size in
      let count = bytes_counted state.bytes address (saved_length ledger.options size) in
      let below = own.below in
      let grows = good.grows in
      let number = good.number_is in
      let within = good.within in
      record {
        time = omega (arith, number, within, told.entries);
        chunk = omega (arith, below, grows, told.next_chunk);
        kept = omega (arith, count, most_told);
        bytes = bytes_are_small state.bytes address (saved_length ledger.options size) good.bytes;
      }

  -- what is kept of an entry keeps the rules
  pub saved_keeps : (state : State) (n : ℕ) (entry : Entry) (s : Saved) → IsGoodEntry ledger state n entry
      → saved_of_entry ledger.options (run_setting ledger) state entry ≡ Some s
      → KeepsSavedRules core s × (s.time ≡ n)
  saved_keeps state n entry s good same = by_audit (has_audit ledger.options) same
    where
      by_slab : (address : ℕ) (o : Option HeapSlab) → slab_with_chunk (run_setting ledger) state.slabs address ≡ o
          → option_map (saved_of_chunk ledger.options (run_setting ledger) state entry.number address) o ≡ Some s
          → KeepsSavedRules core s × (s.time ≡ n)
      by_slab address None is here = absurd (cc here)
      by_slab address (Some slab) is here =
          let one = saved_of_chunk ledger.options (run_setting ledger) state entry.number address slab in
          let it : one ≡ s = cc in (
            subst (KeepsSavedRules core) it (one_saved state n entry address slab good is),
            sym (ap (λ (x : Saved). x.time) it) ∙ good.number_is,
          )

      by_free : (word : ℕ) (answer : Reply)
          → saved_of_free ledger.options (run_setting ledger) state entry.number word answer ≡ Some s
          → KeepsSavedRules core s × (s.time ≡ n)
      by_free word reply.Ok here = by_slab word (slab_with_chunk (run_setting ledger) state.slabs word) refl here
      by_free word answer here = absurd (cc here)

      by_call : (op : Op) (answer : Reply)
          → saved_of_call ledger.options (run_setting ledger) state entry.number entry.thread op answer ≡ Some s
          → KeepsSavedRules core s × (s.time ≡ n)
      by_call (Free slot size) answer here = by_free (word_of_slot state entry.thread slot) answer here
      by_call (CacheFree slot cache) answer here = by_free (word_of_slot state entry.thread slot) answer here
      by_call (Alloc slot size) answer here = absurd (cc here)
      by_call (Zalloc slot size) answer here = absurd (cc here)
      by_call (CacheAlloc slot cache) answer here = absurd (cc here)
      by_call (Copy to from) answer here = absurd (cc here)
      by_call (Clear slot) answer here = absurd (cc here)
      by_call (Store slot offset stored) answer here = absurd (cc here)
      by_call (Link slot offset value) answer here = absurd (cc here)
      by_call (Load to slot offset) answer here = absurd (cc here)
      by_call Reap answer here = absurd (cc here)

      by_body : (content : Body)
          → saved_of_body ledger.options (run_setting ledger) state entry.number entry.thread content ≡ Some s
          → KeepsSavedRules core s × (s.time ≡ n)
      by_body (body.Call op frames answer) here = by_call op answer here
      by_body (body.Grow cache base) here = absurd (cc here)
      by_body (body.Shrink cache base) here = absurd (cc here)

      by_audit : (b : Bool)
          → cond b (saved_of_body ledger.options (run_setting ledger) state entry.number entry.thread entry.body) None
          ≡ Some s
          → KeepsSavedRules core s × (s.time ≡ n)
      by_audit true here = by_body entry.body here
      by_audit false here = absurd (cc here)

  saved_kept_from : (rest : List Entry) (state : State) (n : ℕ) → AreGoodFrom ledger state n rest
      → AreKept (λ (s : Saved). s.time) (KeepsSavedRules core) n
      (saved_from ledger.options (run_setting ledger) state rest)
  saved_kept_from [] state n are = none_kept (λ (s : Saved). s.time) (KeepsSavedRules core) n
  saved_kept_from (entry ∷ rest) state n are =
      let setting = run_setting ledger in
      let item = saved_of_entry ledger.options setting state entry in
      let after = after_entry setting state entry in
      let items = saved_from ledger.options setting after rest in
      subst (AreKept (λ (s : Saved). s.time) (KeepsSavedRules core) n) (behind_is item items)
      (one_more (λ (s : Saved). s.time) (KeepsSavedRules core) n item items
      (λ s same. saved_keeps state n entry s are.0 same) (saved_kept_from rest after (suc n) are.1))

  -- so does the log, and its times rise
  pub log_saved : AreKept (λ (s : Saved). s.time) (KeepsSavedRules core) 0 core.saved
  log_saved =
      let all = saved_items ledger.options (run_setting ledger) ledger.entries in
      let capacity = saved_capacity ledger.options ledger.logging (run_setting ledger) in
      subst (AreKept (λ (s : Saved). s.time) (KeepsSavedRules core) 0) (sym tells.tells.logs.saved)
      (last_kept (λ (s : Saved). s.time) (KeepsSavedRules core) (length all - capacity) 0 all
      (saved_kept_from ledger.entries start_state 0 (all_good ledger can.legal)))
