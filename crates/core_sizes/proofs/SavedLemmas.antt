-- How many bytes the contents log of a run has: no more than its log was given.
use Rattle.std.proofs.Common.{◌≡◌, ℕ, ◌+◌, ◌*◌, ◌-◌, ◌/◌, ◌≤◌, Bool, true, false, cond, eqb, List, [], ◌∷◌, Option, Some, None, length, get_or, refl, sym, ap, subst, arith}
use Rattle.std.specs.Prelude.{All, option_map}
use Rattle.std.specs.List.{flat_map}
use Rattle.std.proofs.Math.Nat.{div-mul-le_self, mul-le-mul_right}
use Rattle.std.proofs.lemmas.List.{length-append, length-drop}
use Rattle.std.proofs.lemmas.List.Elements.{All-cons, All-drop, All-nil}
use Rattle.std.proofs.lemmas.List.FromFn.{length-map-range_with_len}
use Rattle.umem_options.specs.Capacity.{contents_count}
use Rattle.umem_options.specs.Flags.{has_audit}
use Rattle.umem_options.specs.Limits.{IsLogging}
use Rattle.umem_options.specs.declared.options.Logging.{Logging}
use Rattle.umem_options.specs.declared.options.Options.{Options}
use Rattle.trans_log.specs.declared.record.Saved.{Saved}
use Rattle.case_table.specs.Record.{spelling}
use Rattle.core_format.specs.declared.whole.Core.{Core}
use Rattle.core_format.specs.Logs.{saved_widths}
use Rattle.core_format.specs.Spelling.{spelled_saved}
use Rattle.script.specs.declared.operation.Op.{Op}
use Rattle.script.specs.declared.operation.Op.TheVariants.{Alloc, Zalloc, Free, CacheAlloc, CacheFree, Copy, Clear, Store, Link, Load, Reap}
use Rattle.plain_heap.specs.declared.entry.Body.{Body}
use Rattle.plain_heap.specs.declared.entry.Body.TheVariants as body
use Rattle.plain_heap.specs.declared.entry.Entry.{Entry}
use Rattle.plain_heap.specs.declared.reply.Reply.{Reply}
use Rattle.plain_heap.specs.declared.reply.Reply.TheVariants as reply
use Rattle.plain_heap.specs.Setting.{Setting, cache_def_in}
use Rattle.plain_heap.specs.State.{HeapSlab, State, after_entry, slab_with_chunk, start_state, word_of_slot}
use Rattle.heap_ledger.specs.Ledger.{Ledger, run_setting}
use Rattle.heap_logs.specs.Saved.{behind_item, saved_capacity, saved_from, saved_items, saved_length, saved_of_body, saved_of_call, saved_of_chunk, saved_of_entry, saved_of_free}
use Rattle.heap_pictures.specs.Pictures.{Pictures}
use Rattle.core_sizes.proofs.FailLemmas.{most_log}
use Rattle.core_sizes.proofs.LengthLemmas.{items_long, record_long}

-- ---- how much is kept of a free

module _ (options : Options) (setting : Setting) where
  -- no more bytes are kept than the options say
  abbrev IsShort : Saved → Type 0
  IsShort s = length s.bytes ≤ contents_count options

  -- so it is of what is kept, if anything is
  abbrev Short : Option Saved → Type 0
  Short None = Unit {0}
  Short (Some s) = IsShort s

  chunk_short : (state : State) (number address : ℕ) (o : Option HeapSlab)
      → Short (option_map (saved_of_chunk options setting state number address) o)
  chunk_short state number address None = tt
  chunk_short state number address (Some slab) =
      let most = saved_length options (cache_def_in setting slab.cache).size in
      omega (arith, length-map-range_with_len (λ k. state.bytes (address + k)) 0 most)

  free_short : (state : State) (number word : ℕ) (answer : Reply)
      → Short (saved_of_free options setting state number word answer)
  free_short state number word reply.Ok =
      chunk_short state number word (slab_with_chunk setting state.slabs word)
  free_short state number word answer = tt

  call_short : (state : State) (number thread : ℕ) (op : Op) (answer : Reply)
      → Short (saved_of_call options setting state number thread op answer)
  call_short state number thread (Free slot size) answer =
      free_short state number (word_of_slot state thread slot) answer
  call_short state number thread (CacheFree slot cache) answer =
      free_short state number (word_of_slot state thread slot) answer
  call_short state number thread (Alloc slot size) answer = tt
  call_short state number thread (Zalloc slot size) answer = tt
  call_short state number thread (CacheAlloc slot cache) answer = tt
  call_short state number thread (Copy to from) answer = tt
  call_short state number thread (Clear slot) answer = tt
  call_short state number thread (Store slot offset stored) answer = tt
  call_short state number thread (Link slot offset value) answer = tt
  call_short state number thread (Load to slot offset) answer = tt
  call_short state number thread Reap answer = tt

  body_short : (state : State) (number thread : ℕ) (content : Body)
      → Short (saved_of_body options setting state number thread content)
  body_short state number thread (body.Call op frames answer) = call_short state number thread op answer
  body_short state number thread (body.Grow cache base) = tt
  body_short state number thread (body.Shrink cache base) = tt

  entry_short : (state : State) (entry : Entry) → Short (saved_of_entry options setting state entry)
  entry_short state entry = by_audit (has_audit options)
    where
      by_audit : (b : Bool)
          → Short (cond b (saved_of_body options setting state entry.number entry.thread entry.body) None)
      by_audit true = body_short state entry.number entry.thread entry.body
      by_audit false = tt

  behind_short : (item : Option Saved) (items : List Saved) → Short item → All IsShort items
      → All IsShort (behind_item item items)
  behind_short None items one rest = rest
  behind_short (Some s) items one rest = All-cons IsShort s items one rest

  all_short : (entries : List Entry) (state : State) → All IsShort (saved_from options setting state entries)
  all_short [] state = All-nil IsShort
  all_short (entry ∷ entries) state =
      let after = after_entry setting state entry in
      behind_short (saved_of_entry options setting state entry) (saved_from options setting after entries)
      (entry_short state entry) (all_short entries after)

-- ---- how many items the log has

-- what the log keeps of a buffer at most
abbrev most_item : Options → ℕ
most_item options = 24 + contents_count options

capacity_fits : (options : Options) (logging : Logging) (setting : Setting) → IsLogging logging
    → saved_capacity options logging setting * most_item options ≤ most_log
capacity_fits options logging setting within = by_version (eqb setting.header.version 2)
  where
    by_audit : (b : Bool) → cond b (logging.contents / most_item options) 0 * most_item options ≤ most_log
    by_audit true = omega (arith, div-mul-le_self logging.contents (most_item options), within.contents)
    by_audit false = omega arith

    by_version : (b : Bool)
        → cond b (cond (has_audit options) (logging.contents / most_item options) 0) 0 * most_item options ≤ most_log
    by_version true = by_audit (has_audit options)
    by_version false = omega arith

-- ---- the log of a run

item_long : (options : Options) (setting : Setting) (s : Saved) → IsShort options setting s
    → length (spelled_saved s) ≤ most_item options
item_long options setting s short =
    let fields = s.time ∷ s.chunk ∷ length s.bytes ∷ [] in
    let head : length (spelling saved_widths fields) ≡ 16 = record_long saved_widths fields refl in
    omega (arith, head, short, length-append (spelling saved_widths fields) s.bytes)

pub saved_long : (ledger : Ledger) (core : Core) → IsLogging ledger.logging → Pictures ledger core
    → length (flat_map spelled_saved core.saved) ≤ most_log
saved_long ledger core within is =
    let options = ledger.options in
    let setting = run_setting ledger in
    let all = saved_items options setting ledger.entries in
    let capacity = saved_capacity options ledger.logging setting in
    let dropped = length all - capacity in
    let kept = All-drop (IsShort options setting) dropped all (all_short options setting ledger.entries start_state) in
    let short : All (IsShort options setting) core.saved =
    subst (All (IsShort options setting)) (sym is.tells.logs.saved) kept in
    let few : length core.saved ≤ capacity =
    omega (arith, ap length is.tells.logs.saved, length-drop dropped all) in
    let each = items_long spelled_saved (most_item options) core.saved (λ k d lt.
    item_long options setting (get_or core.saved k d) (short k d lt)) in
    let product = mul-le-mul_right (most_item options) few in
    omega (arith, each, product, capacity_fits options ledger.logging setting within)
