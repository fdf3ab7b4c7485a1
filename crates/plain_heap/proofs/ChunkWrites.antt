-- Which entries change the bytes of a chunk of a slab that stands.
use Rattle.std.proofs.Common.{◌≡◌, ℕ, zero, suc, ◌+◌, ◌-◌, ◌*◌, ◌/◌, ◌<◌, ◌≤◌, inl, inr, Bool, true, false, cond, eqb, ltb, List, [], ◌∷◌, drop, length, replicate, Option, Some, None, refl, sym, ap, ◌∙◌, subst, arith, length-append, length-drop}
use Rattle.std.specs.Prelude.{Contains, find, slice_index}
use Rattle.std.specs.Int as int
use Rattle.std.specs.Int.{to_le_bytes}
use Rattle.std.specs.Option.{option_map_or}
use Rattle.std.proofs.lemmas.Bool.{and_parts, cases_lt, eqb-true, le-ltb, leb-true, lt-ltb, ltb-true, false≢true}
use Rattle.std.proofs.lemmas.List.{length-replicate}
use Rattle.std.proofs.lemmas.List.Elements.{All-contains}
use Rattle.std.proofs.Math.Nat.{div-lt_iff_lt-mul}
use Rattle.umem_base.specs.declared.arena.TheConstants.{ARENA_BASE}
use Rattle.umem_base.specs.declared.roots.TheConstants.{SHARED_ROOT}
use Rattle.umem_base.specs.declared.span.Span.{Span}
use Rattle.umem_base.specs.Pages.{IsFreeRun, pages_for}
use Rattle.umem_base.specs.Roots.{own_root}
use Rattle.umem_base.specs.Span.{span_end}
use Rattle.umem_base.proofs.Lists.{Contains-here, Contains-there}
use Rattle.case_table.specs.Addresses.{bufctl_address}
use Rattle.case_table.specs.declared.cache_def.CacheDef.{CacheDef}
use Rattle.case_table.specs.Geometry.{geometry_of, tag_of}
use Rattle.case_table.specs.Sizes.{class_for}
use Rattle.case_table.proofs.SizesLemmas.{least_from_class, size_of-small, size_of-some, size_of-words}
use Rattle.buftag.specs.declared.shape.Shape.{Shape}
use Rattle.buftag.specs.Shape.{IsRequest, IsShape, shape_of_cache, shape_of_class}
use Rattle.buftag.specs.Written.{allocated_chunk, free_chunk}
use Rattle.buftag.proofs.WrittenLemmas.{length-allocated_chunk, length-free_chunk}
use Rattle.script.specs.declared.operation.Op.{Op}
use Rattle.script.specs.declared.operation.Op.TheVariants.{Alloc, Zalloc, Free, CacheAlloc, CacheFree, Copy, Clear, Store, Link, Load, Reap}
use Rattle.script.specs.declared.tree.Header.{Header}
use Rattle.script.specs.Rules.{IsHeader, IsOp, IsSlot}
use Rattle.plain_heap.specs.declared.entry.Body.{Body}
use Rattle.plain_heap.specs.declared.entry.Body.TheVariants.{Call, Grow, Shrink}
use Rattle.plain_heap.specs.declared.entry.Entry.{Entry}
use Rattle.plain_heap.specs.declared.reply.Reply.{Reply}
use Rattle.plain_heap.specs.declared.reply.Reply.TheVariants as reply
use Rattle.plain_heap.specs.declared.reply.Report.{Report}
use Rattle.plain_heap.specs.Bytes.{Bytes, is_within, with_stored, with_word, with_zeros}
use Rattle.plain_heap.specs.Laws.{ChunksKeepTheirBytes, IsAnsweredAt, IsOver, KeepsLimits, StandApart, TouchesByBody, TouchesByCall}
use Rattle.plain_heap.specs.Legal.{IsLegalBody}
use Rattle.plain_heap.specs.Replies.{IsAllocReply, IsCacheReply, IsChoice, IsReply, IsSomeReply}
use Rattle.plain_heap.specs.Setting.{IsCache, Setting, cache_def_in, geometry_in, shape_in, slab_bytes, slot_address}
use Rattle.plain_heap.specs.State.{HeapSlab, IsChunkOf, IsChunkOfCache, IsFreePage, State, after_alloc, after_body, after_call, after_free, after_grow, after_link, after_store, after_word, begins_chunk, chunk_number, chunk_start, constructed, freed_chunk, handed_bytes, handed_chunk, made_byte, new_slab, request_from, request_of, slab_with_chunk, span_of_slab, state_of, with_chunk_at, word_of_slot}
use Rattle.plain_heap.proofs.FreedLemmas.{false_since}
use Rattle.plain_heap.proofs.PairsLemmas.{pair_of}
use Rattle.plain_heap.proofs.PlacesLemmas.{AreInPlace, IsInArena, chunk_in_slab, chunks_apart, is_cache_of}
use Rattle.plain_heap.proofs.RunsLemmas.{new_run}
use Rattle.plain_heap.proofs.SeparateLemmas.{history_in_place}
use Rattle.plain_heap.proofs.SlabOfChunk.{begun, find_found, one_slab}
use Rattle.plain_heap.proofs.SettingLemmas.{cache_has_shape, def_of-class, geometry_in-sound}

-- ---- writes beside an address

outside : (at count address : ℕ) → (IsOver at count address → ⊥) → is_within at count address ≡ false
outside at count address none = false_since _ (λ h.
    let both = and_parts _ _ h in
    none (leb-true at address both.0, ltb-true address (at + count) both.1))

word_beside : (bytes : Bytes) (at word address : ℕ) → (IsOver at 8 address → ⊥) → with_word bytes at word address ≡ bytes address
word_beside bytes at word address none = ap (λ b. cond b (slice_index (to_le_bytes int.w64 word) (address - at)) (bytes address)) (outside at 8 address none)

zeros_beside : (bytes : Bytes) (at count address : ℕ) → (IsOver at count address → ⊥) → with_zeros bytes at count address ≡ bytes address
zeros_beside bytes at count address none = ap (λ b. cond b 0 (bytes address)) (outside at count address none)

stored_beside : (bytes : Bytes) (at : ℕ) (stored : List ℕ) (address : ℕ) → (IsOver at (length stored) address → ⊥) → with_stored bytes at stored address ≡ bytes address
stored_beside bytes at stored address none = ap (λ b. cond b (slice_index stored (address - at)) (bytes address)) (outside at (length stored) address none)

-- ---- slots

slot_small : (header : Header) (slot : ℕ) → IsSlot header slot → slot < 1024
slot_small header slot (inl low) = omega arith
slot_small header slot (inr high) = omega (arith, high.1)

slot_below : (header : Header) (thread slot : ℕ) → IsHeader header → thread < header.threads → IsSlot header slot → slot_address thread slot + 8 ≤ ARENA_BASE
slot_below header thread slot is below there = either (ltb slot 512)
  where
    either : (b : Bool) → cond b (SHARED_ROOT + 8 * slot) (own_root thread + 8 * (slot - 512)) + 8 ≤ ARENA_BASE
    either true = omega (arith, slot_small header slot there)
    either false = omega (arith, slot_small header slot there, is.threads)

-- ---- what is written to a chunk fits it

content_is : (setting : Setting) (cache number : ℕ) → IsCache setting.header.caches cache → (shape_in setting cache number).content ≡ (geometry_in setting cache).content
unfolding geometry_of
content_is setting cache number is = elim (cases_lt cache 32) [
  | inl lt ↦ rw (lt-ltb cache 32 lt) (sym (size_of-words cache lt))
  | inr le ↦ rw (le-ltb cache 32 le) refl
]

freed_fits : (setting : Setting) (cache number : ℕ) → IsHeader setting.header → IsCache setting.header.caches cache → length (freed_chunk setting cache number) ≤ (geometry_in setting cache).chunk
freed_fits setting cache number header is = go setting.guards refl
  where
    go : (b : Bool) → setting.guards ≡ b → length (cond b (free_chunk (shape_in setting cache number)) []) ≤ (geometry_in setting cache).chunk
    go false guards = omega arith
    go true guards =
        let fits = (geometry_in-sound setting cache header is).tag_fits in
        let tag : tag_of setting.guards ≡ 24 = ap tag_of guards in
        omega (arith, length-free_chunk (shape_in setting cache number), content_is setting cache number is, fits, tag)

-- the size is one that a cache serves: a class by its size, a declared cache by its own
record IsServed (setting : Setting) (cache size : ℕ) : Type 0 where
  class : cache < 32 → class_for size ≡ Some cache
  own : 32 ≤ cache → size ≡ (cache_def_in setting cache).size
  small : size ≤ (cache_def_in setting cache).size

declared_shape : (setting : Setting) (cache number : ℕ) → 32 ≤ cache → shape_in setting cache number ≡ shape_of_cache (cache_def_in setting cache).size (bufctl_address number)
declared_shape setting cache number le =
    ap (λ b. cond b (shape_of_class cache (bufctl_address number)) (shape_of_cache (cache_def_in setting cache).size (bufctl_address number))) (le-ltb cache 32 le)

class_shape : (setting : Setting) (cache number : ℕ) → cache < 32 → shape_in setting cache number ≡ shape_of_class cache (bufctl_address number)
class_shape setting cache number lt =
    ap (λ b. cond b (shape_of_class cache (bufctl_address number)) (shape_of_cache (cache_def_in setting cache).size (bufctl_address number))) (lt-ltb cache 32 lt)

shape_is : (setting : Setting) (cache number : ℕ) → IsHeader setting.header → IsCache setting.header.caches cache → IsShape (shape_in setting cache number)
shape_is setting cache number header is = elim (cases_lt cache 32) [
  | inl lt ↦
      subst IsShape (sym (class_shape setting cache number lt)) (record { some = size_of-some cache lt; small = size_of-small cache; words = sym (size_of-words cache lt); class = (lt, refl) })
  | inr le ↦
      let has = cache_has_shape setting cache header is in
      subst IsShape (sym (declared_shape setting cache number le)) (record { some = has.some; small = has.fits; words = refl; class = tt })
]

request_is : (setting : Setting) (cache number size : ℕ) → IsServed setting cache size → IsRequest (shape_in setting cache number) size
request_is setting cache number size served = elim (cases_lt cache 32) [
  | inl lt ↦ subst (λ (shape : Shape). IsRequest shape size) (sym (class_shape setting cache number lt)) (served.class lt)
  | inr le ↦ subst (λ (shape : Shape). IsRequest shape size) (sym (declared_shape setting cache number le)) (served.own le)
]

constructed_length : (ctor : Option ℕ) (size : ℕ) (bytes : List ℕ) → size ≤ length bytes → length (constructed ctor size bytes) ≡ length bytes
constructed_length None size bytes fits = refl
constructed_length (Some byte) size bytes fits =
    omega (arith, length-append (replicate size byte) (drop size bytes), length-replicate {A = ℕ} size byte, length-drop size bytes)

handed_fits : (setting : Setting) (cache number size : ℕ) (zeroed : Bool) → IsHeader setting.header → IsCache setting.header.caches cache → IsServed setting cache size
    → length (handed_chunk setting cache number size zeroed) ≤ (geometry_in setting cache).chunk
handed_fits setting cache number size zeroed header is served = go setting.guards refl
  where
    blank : (b : Bool) → length {A = ℕ} (cond b (replicate size 0) []) ≤ size
    blank true = omega (arith, length-replicate {A = ℕ} size 0)
    blank false = omega arith

    go : (b : Bool) → setting.guards ≡ b
        → length {A = ℕ} (cond b (constructed (cache_def_in setting cache).ctor (cache_def_in setting cache).size (allocated_chunk (shape_in setting cache number) size zeroed)) (cond zeroed (replicate size 0) []))
        ≤ (geometry_in setting cache).chunk
    go false guards = let sound = geometry_in-sound setting cache header is in omega (arith, blank zeroed, served.small, sound.content_holds, sound.tag_fits)
    go true guards =
        let sound = geometry_in-sound setting cache header is in
        let shape = shape_in setting cache number in
        let def = cache_def_in setting cache in
        let tag : tag_of setting.guards ≡ 24 = ap tag_of guards in
        let long = length-allocated_chunk shape size zeroed (shape_is setting cache number header is) (request_is setting cache number size served) in
        let whole : def.size ≤ length (allocated_chunk shape size zeroed) = omega (arith, long, content_is setting cache number is, sound.content_holds) in
        omega (arith, constructed_length def.ctor def.size (allocated_chunk shape size zeroed) whole, long, content_is setting cache number is, sound.tag_fits, tag)

-- ---- one chunk and what is written beside it

module _ (setting : Setting) (state : State) (header : IsHeader setting.header) (places : AreInPlace setting state.live state.slabs) where
  module _ (cache at k : ℕ) (chunk : IsChunkOfCache setting state cache at) (inside : k < (geometry_in setting cache).chunk) where
    is_of : IsCache setting.header.caches chunk.slab.cache
    is_of = is_cache_of setting state.live state.slabs header places chunk.slab chunk.stands

    inside_its : k < (geometry_in setting chunk.slab.cache).chunk
    inside_its = subst (λ c. k < (geometry_in setting c).chunk) (sym chunk.its) inside

    lies : (chunk.slab.base ≤ at) × (at + (geometry_in setting chunk.slab.cache).chunk ≤ span_end (span_of_slab setting chunk.slab))
    lies = chunk_in_slab setting chunk.slab at header is_of chunk.chunk

    above : ARENA_BASE ≤ at
    above =
        let in_arena = All-contains (λ (s : HeapSlab). IsInArena setting (span_of_slab setting s)) state.slabs chunk.slab places.slabs_in chunk.stands in
        omega (arith, in_arena.low, lies.0)

    -- a slot's word is none of its bytes
    slot_beside : (bytes : Bytes) (thread slot word : ℕ) → thread < setting.header.threads → IsSlot setting.header slot → with_word bytes (slot_address thread slot) word (at + k) ≡ bytes (at + k)
    slot_beside bytes thread slot word below there =
        word_beside bytes (slot_address thread slot) word (at + k) (λ over. absurd (omega (arith, over.1, above, slot_below setting.header thread slot header below there)))

    -- nor is a byte of a run of pages apart from its slab
    run_beside : (run : Span) → StandApart run (span_of_slab setting chunk.slab) → IsOver run.base (4096 * run.pages) (at + k) → ⊥
    run_beside run (inl below) over = absurd (omega (arith, below, over.1, lies.0))
    run_beside run (inr over_it) over = absurd (omega (arith, over_it, over.0, lies.1, inside_its))

    -- nor is a byte of another chunk
    chunk_beside : (f : HeapSlab) (x : ℕ) → Contains state.slabs f → IsChunkOf setting f x → (x ≡ at → ⊥) → IsOver x (geometry_in setting f.cache).chunk (at + k) → ⊥
    chunk_beside f x stands begins differ over =
        let f_is = is_cache_of setting state.live state.slabs header places f stands in
        let f_lies = chunk_in_slab setting f x header f_is begins in
        elim (pair_of (λ (a b : HeapSlab). StandApart (span_of_slab setting a) (span_of_slab setting b)) state.slabs f chunk.slab places.slabs_apart stands chunk.stands) [
          | inl same ↦
              let size = subst (λ (s : HeapSlab). k < (geometry_in setting s.cache).chunk) (sym same) inside_its in
              let mine = subst (λ (s : HeapSlab). IsChunkOf setting s at) (sym same) chunk.chunk in
              elim (chunks_apart setting f x at header f_is differ begins mine) [ inl low ↦ absurd (omega (arith, low, over.1)) | inr high ↦ absurd (omega (arith, high, over.0, size)) ]
          | inr apart ↦ elim apart [
            | inl before ↦ elim before [
              | inl below ↦ absurd (omega (arith, below, over.1, f_lies.1, lies.0))
              | inr higher ↦ absurd (omega (arith, higher, over.0, f_lies.0, lies.1, inside_its))
            ]
            | inr behind ↦ elim behind [
              | inl below ↦ absurd (omega (arith, below, over.0, f_lies.0, lies.1, inside_its))
              | inr higher ↦ absurd (omega (arith, higher, over.1, f_lies.1, lies.0))
            ]
          ]
        ]

    written_beside : (x : ℕ) (written : ℕ → ℕ → List ℕ) → (x ≡ at → ⊥)
        → ((f : HeapSlab) → Contains state.slabs f → IsChunkOf setting f x → length (written f.cache (chunk_number setting f x)) ≤ (geometry_in setting f.cache).chunk)
        → with_chunk_at setting state x written (at + k) ≡ state.bytes (at + k)
    written_beside x written differ fits = go (slab_with_chunk setting state.slabs x) refl
      where
        go : (o : Option HeapSlab) → slab_with_chunk setting state.slabs x ≡ o
            → option_map_or (λ slab. with_stored state.bytes x (written slab.cache (chunk_number setting slab x))) o state.bytes (at + k) ≡ state.bytes (at + k)
        go None is = refl
        go (Some f) is =
            let found = find_found (λ (s : HeapSlab). begins_chunk setting s x) state.slabs f is in
            let some = (geometry_in-sound setting f.cache header (is_cache_of setting state.live state.slabs header places f found.0)).chunk_some in
            let begins = begun setting f x (omega (arith, some)) found.1 in
            let short = fits f found.0 begins in
            stored_beside state.bytes x (written f.cache (chunk_number setting f x)) (at + k) (λ over. chunk_beside f x found.0 begins differ (over.0, omega (arith, over.1, short)))

    -- ---- calls

    grow_beside : (grown base : ℕ) → IsCache setting.header.caches grown → IsFreeRun (IsFreePage setting state) (geometry_in setting grown).pages base
        → (after_grow setting state grown base).bytes (at + k) ≡ state.bytes (at + k)
    grow_beside grown base is free =
        let some = (geometry_in-sound setting grown header is).pages_some in
        let run = new_run setting state base (geometry_in setting grown).pages places free some in
        let span : Span = record { base = base; pages = (geometry_in setting grown).pages } in
        let apart = All-contains (λ (s : HeapSlab). StandApart span (span_of_slab setting s)) state.slabs chunk.slab run.slabs_apart chunk.stands in
        let slab = new_slab setting state grown base in
        ap (λ b. cond b (made_byte setting slab (at + k)) (state.bytes (at + k))) (outside base (slab_bytes setting grown) (at + k) (run_beside span apart))

    choice_beside : (x class size : ℕ) (zeroed : Bool) → IsChoice setting state class x → IsServed setting class size → (x ≡ at → ⊥)
        → with_chunk_at setting state x (λ c number. handed_chunk setting c number size zeroed) (at + k) ≡ state.bytes (at + k)
    choice_beside x class size zeroed choice served differ =
        written_beside x (λ c number. handed_chunk setting c number size zeroed) differ
        (λ f stands begins.
        let same = one_slab setting state header places f choice.chunk.slab x stands choice.chunk.stands begins choice.chunk.chunk in
        let its : class ≡ f.cache = sym choice.chunk.its ∙ ap (λ (s : HeapSlab). s.cache) (sym same) in
        let f_is = is_cache_of setting state.live state.slabs header places f stands in
        handed_fits setting f.cache (chunk_number setting f x) size zeroed header f_is (subst (λ c. IsServed setting c size) its served))

    handed_beside : (x size : ℕ) (found : Report) (class : Option ℕ) (zeroed : Bool) → 0 < size → class_for size ≡ class → IsSomeReply setting state size class (reply.At x found) → (x ≡ at → ⊥)
        → handed_bytes setting state x (record { size = size; cache = class }) zeroed (at + k) ≡ state.bytes (at + k)
    handed_beside x size found (Some class) zeroed some is legal differ =
        let least = least_from_class size class is in
        let small : size ≤ (cache_def_in setting class).size = subst (λ (def : CacheDef). size ≤ def.size) (sym (def_of-class setting.header.caches class least.is_class)) least.holds in
        choice_beside x class size zeroed legal.0 (record { class = λ lt. is; own = λ le. absurd (omega (arith, least.is_class)); small = small }) differ
    handed_beside x size found None zeroed some is legal differ =
        let run = new_run setting state x (pages_for size) places legal.0 (omega arith) in
        let span : Span = record { base = x; pages = pages_for size } in
        let apart = All-contains (λ (s : HeapSlab). StandApart span (span_of_slab setting s)) state.slabs chunk.slab run.slabs_apart chunk.stands in
        zeros_beside state.bytes x (4096 * pages_for size) (at + k) (run_beside span apart)

    alloc_beside : (thread slot size : ℕ) (zeroed : Bool) (answer : Reply) → thread < setting.header.threads → IsSlot setting.header slot → IsAllocReply setting state size answer → (IsAnsweredAt answer at → ⊥)
        → (after_alloc setting state thread slot (request_of size) zeroed answer).bytes (at + k) ≡ state.bytes (at + k)
    alloc_beside thread slot zero zeroed (reply.At x found) below there legal differ = absurd (cc legal)
    alloc_beside thread slot (suc size) zeroed (reply.At x found) below there legal differ =
        slot_beside (handed_bytes setting state x (request_of (suc size)) zeroed) thread slot x below there ∙ handed_beside x (suc size) found (class_for (suc size)) zeroed (omega arith) refl legal differ
    alloc_beside thread slot size zeroed reply.Null below there legal differ = slot_beside state.bytes thread slot 0 below there
    alloc_beside thread slot size zeroed reply.NoSpace below there legal differ = slot_beside state.bytes thread slot 0 below there
    alloc_beside thread slot size zeroed answer below there legal differ = refl

    cache_alloc_beside : (thread slot held_by : ℕ) (answer : Reply) → thread < setting.header.threads → IsSlot setting.header slot → 32 ≤ held_by → IsCacheReply setting state held_by answer → (IsAnsweredAt answer at → ⊥)
        → (after_alloc setting state thread slot (request_from setting held_by) false answer).bytes (at + k) ≡ state.bytes (at + k)
    cache_alloc_beside thread slot held_by (reply.At x found) below there declared legal differ =
        slot_beside (handed_bytes setting state x (request_from setting held_by) false) thread slot x below there
        ∙ choice_beside x held_by (cache_def_in setting held_by).size false legal.0 (record { class = λ lt. absurd (omega arith); own = λ le. refl; small = omega arith }) differ
    cache_alloc_beside thread slot held_by reply.Null below there declared legal differ = slot_beside state.bytes thread slot 0 below there
    cache_alloc_beside thread slot held_by reply.NoSpace below there declared legal differ = slot_beside state.bytes thread slot 0 below there
    cache_alloc_beside thread slot held_by answer below there declared legal differ = refl

    free_beside : (thread slot : ℕ) (answer : Reply) → thread < setting.header.threads → IsSlot setting.header slot → ((answer ≡ reply.Ok) × (word_of_slot state thread slot ≡ at) → ⊥)
        → (after_free setting state thread slot answer).bytes (at + k) ≡ state.bytes (at + k)
    free_beside thread slot reply.Ok below there differ =
        let word = word_of_slot state thread slot in
        slot_beside (with_chunk_at setting state word (freed_chunk setting)) thread slot 0 below there
        ∙ written_beside word (freed_chunk setting) (λ e. differ (refl, e)) (λ f stands begins. freed_fits setting f.cache (chunk_number setting f word) header (is_cache_of setting state.live state.slabs header places f stands))
    free_beside thread slot answer below there differ = refl

    store_beside : (from : ℕ) (stored : List ℕ) (answer : Reply) → ((answer ≡ reply.Ok) × IsOver from (length stored) (at + k) → ⊥) → (after_store state from stored answer).bytes (at + k) ≡ state.bytes (at + k)
    store_beside from stored reply.Ok none = stored_beside state.bytes from stored (at + k) (λ over. none (refl, over))
    store_beside from stored answer none = refl

    link_beside : (from word : ℕ) (answer : Reply) → ((answer ≡ reply.Ok) × IsOver from 8 (at + k) → ⊥) → (after_link state from word answer).bytes (at + k) ≡ state.bytes (at + k)
    link_beside from word reply.Ok none = word_beside state.bytes from word (at + k) (λ over. none (refl, over))
    link_beside from word answer none = refl

    word_read_beside : (thread slot : ℕ) (answer : Reply) → thread < setting.header.threads → IsSlot setting.header slot → (after_word state thread slot answer).bytes (at + k) ≡ state.bytes (at + k)
    word_read_beside thread slot (reply.Word word) below there = slot_beside state.bytes thread slot word below there
    word_read_beside thread slot answer below there = refl

    call_beside : (thread : ℕ) (op : Op) (answer : Reply) → thread < setting.header.threads → IsOp setting.header op → IsReply setting state thread op answer → (TouchesByCall state thread op answer at k → ⊥)
        → (after_call setting state thread op answer).bytes (at + k) ≡ state.bytes (at + k)
    call_beside thread (Alloc slot size) answer below keeps legal none = alloc_beside thread slot size false answer below keeps.0 legal none
    call_beside thread (Zalloc slot size) answer below keeps legal none = alloc_beside thread slot size true answer below keeps.0 legal none
    call_beside thread (CacheAlloc slot held_by) answer below keeps legal none = cache_alloc_beside thread slot held_by answer below keeps.0 keeps.1.0 legal none
    call_beside thread (Free slot size) answer below keeps legal none = free_beside thread slot answer below keeps.0 none
    call_beside thread (CacheFree slot held_by) answer below keeps legal none = free_beside thread slot answer below keeps.0 none
    call_beside thread (Copy to from) answer below keeps legal none = slot_beside state.bytes thread to (word_of_slot state thread from) below keeps.0
    call_beside thread (Clear slot) answer below keeps legal none = slot_beside state.bytes thread slot 0 below keeps
    call_beside thread (Store slot offset stored) answer below keeps legal none = store_beside (word_of_slot state thread slot + offset) stored answer none
    call_beside thread (Link slot offset value) answer below keeps legal none = link_beside (word_of_slot state thread slot + offset) (word_of_slot state thread value) answer none
    call_beside thread (Load to slot offset) answer below keeps legal none = word_read_beside thread to answer below keeps.0
    call_beside thread Reap answer below keeps legal none = refl

    body_beside : (thread : ℕ) (body : Body) (next : Option Entry) → KeepsLimits setting.header thread body → IsLegalBody setting state thread body next → (TouchesByBody state thread body at k → ⊥)
        → (after_body setting state thread body).bytes (at + k) ≡ state.bytes (at + k)
    body_beside thread (Call op frames answer) next keeps legal none = call_beside thread op answer keeps.0 keeps.1 legal none
    body_beside thread (Grow grown base) next keeps legal none = grow_beside grown base legal.is_cache legal.free
    body_beside thread (Shrink shrunk base) next keeps legal none = refl

pub chunks_keep : ChunksKeepTheirBytes
chunks_keep setting entries entry next cache at k header legal keeps allowed chunk inside none =
    let state = state_of setting entries in
    body_beside setting state header (history_in_place setting entries header legal) cache at k chunk inside entry.thread entry.body next keeps allowed none
