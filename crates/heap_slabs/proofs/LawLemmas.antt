-- What whoever keeps a table needs of it: free pages are no slab's, and large buffers leave a table.
use Rattle.std.proofs.Common.{◌≡◌, ◌≢◌, ℕ, ◌+◌, ◌-◌, ◌*◌, ◌/◌, ◌<◌, ◌≤◌, ◌⊎◌, inl, inr, Bool, true, false, not, cond, eqb, List, [], ◌∷◌, ◌++◌, get_or, length, map, Option, Some, None, refl, sym, ap, ◌∙◌, subst, arith, length-append}
use Rattle.std.specs.Prelude.{◌^◌, All, AllPairs, Contains, filter, find, is_none, option_map}
use Rattle.std.proofs.lemmas.Bool.{and_from, cases_Bool, cases_lt, eqb-true, false≢true, le-leb, lt-ltb, ne_eqb}
use Rattle.std.proofs.lemmas.List.{get_or-append-add, get_or_append_left, get_or_default}
use Rattle.std.proofs.lemmas.List.Elements.{All-contains, Contains-append_left, Contains-append_right}
use Rattle.std.proofs.lemmas.List.Folds.{list_any_at}
use Rattle.umem_base.specs.declared.arena.TheConstants.{ARENA_BASE}
use Rattle.umem_base.specs.declared.pages.TheConstants.{PAGE_BYTES}
use Rattle.umem_base.specs.declared.span.Span.{Span}
use Rattle.umem_base.specs.Pages.{IsFreeRun, IsPage, pages_for}
use Rattle.umem_base.specs.Roots.{arena_end}
use Rattle.umem_base.specs.Span.{IsSpanWithin, span_end}
use Rattle.umem_base.proofs.Lists.{Contains-here, Contains-there}
use Rattle.case_table.specs.declared.slab_quantities.Geometry.{Geometry}
use Rattle.case_table.specs.Geometry.{colour_of}
use Rattle.script.specs.Rules.{IsHeader}
use Rattle.plain_heap.specs.declared.held.Held.{Held}
use Rattle.plain_heap.specs.Laws.{AreSeparate, LiesInPlace, StandApart, large}
use Rattle.plain_heap.specs.Setting.{Setting, cache_def_in, geometry_in}
use Rattle.plain_heap.specs.State.{HeapSlab, IsFreePage, LiveBuffer, State, begins_chunk, chunk_number, chunk_start, give_back, hand_out, held_at, is_in_span, is_live, is_taken, new_slab, slab_with_chunk, span_of_large, span_of_slab, spans_of}
use Rattle.plain_heap.proofs.LiveLemmas.{held_lives}
use Rattle.plain_heap.proofs.PairsLemmas.{Contains-passing, Contains-seen}
use Rattle.heap_memory.specs.declared.chunk.Chunk.{Chunk}
use Rattle.heap_slabs.specs.declared.placed.Placed.{Placed}
use Rattle.heap_slabs.specs.declared.standing.Standing.{Standing}
use Rattle.heap_slabs.specs.Chunks.{IsAtItsPlace}
use Rattle.heap_slabs.specs.Laws.{FoundChunksArePlaced, FreeRunsArePlaces, FreedLargeBuffersLeaveTheTable, LargeBuffersLeaveTheTable, NewSlabsAreUnused, OtherCountsAreInUse, TablesLookAtSlabs}
use Rattle.heap_slabs.specs.Standing.{chunks_end}
use Rattle.heap_slabs.specs.HeapSlabs.{quantities_of, slabs_of, standing_in}
use Rattle.heap_slabs.proofs.Lists.{found_passes, tally-some}
use Rattle.heap_slabs.proofs.ReapLemmas.{quantities_are}
use Rattle.heap_slabs.proofs.StandingLemmas.{begins-index, index_told}
use Rattle.heap_slabs.proofs.StateLemmas.{any_chunks, any_geometry, begins_is, chunk_some, live_first, live_without, of_table, rounds_some, start_along, stays}

pub looks_at_slabs : TablesLookAtSlabs
looks_at_slabs setting state next table is same slabs grown = stays setting state next table is slabs grown (λ h index stands less. same (chunk_start setting h index))

-- ---- where chunks lie

pub chunk_lies : (setting : Setting) (slab : HeapSlab) (index : ℕ) → IsHeader setting.header → index < (geometry_in setting slab.cache).rounds
    → (slab.base ≤ chunk_start setting slab index) × (chunk_start setting slab index < span_end (span_of_slab setting slab))
chunk_lies setting slab index header less =
    let g = geometry_in setting slab.cache in
    let inside = (any_chunks setting slab.cache slab.made header).inside index less in
    let some = chunk_some setting slab.cache header in
    (omega arith, omega (arith, inside, some))

-- the chunks of a slab end in its pages
ends_inside : (setting : Setting) (state : State) (slab : HeapSlab) → IsHeader setting.header → chunks_end (standing_in setting state slab) ≤ span_end (span_of_slab setting slab)
ends_inside setting state slab header =
    let g = geometry_in setting slab.cache in
    let some = rounds_some setting slab.cache header in
    let inside = (any_chunks setting slab.cache slab.made header).inside (g.rounds - 1) (omega (arith, some)) in
    let colour = colour_of (cache_def_in setting slab.cache).align g.leftover slab.made in
    let last : g.rounds - 1 + 1 ≡ g.rounds = omega (arith, some) in
    subst (λ (n : ℕ). (slab.base + (colour + 0 * g.chunk)) + n * g.chunk ≤ slab.base + PAGE_BYTES * g.pages) last (at_end slab.base colour (g.rounds - 1) g.chunk g.pages inside)
  where
    at_end : (base colour last chunk pages : ℕ) → colour + last * chunk + chunk ≤ pages * PAGE_BYTES → (base + (colour + 0 * chunk)) + (last + 1) * chunk ≤ base + PAGE_BYTES * pages
    at_end base colour last chunk pages inside = omega arith

in_span : (address : ℕ) (span : Span) → span.base ≤ address → address < span_end span → is_in_span address span ≡ true
in_span address span low high = and_from _ _ (le-leb span.base address low) (lt-ltb address (span.base + PAGE_BYTES * span.pages) high)

-- no address of free pages is one of a run
module _ (setting : Setting) (state : State) (separate : AreSeparate setting state) (base pages : ℕ) (free : IsFreeRun (IsFreePage setting state) pages base) where
  pub not_in_run : (span : Span) (address : ℕ) → Contains (spans_of setting state) span → base ≤ address → address < base + PAGE_BYTES * pages → span.base ≤ address → address < span_end span → ⊥
  not_in_run span address there from to low high =
      let k : ℕ = (address - base) / PAGE_BYTES in
      let less : k < pages = omega arith in
      let page = free k less in
      let its = (All-contains (IsSpanWithin ARENA_BASE (arena_end setting.header.version)) (spans_of setting state) span separate.within there).page in
      let at : IsPage (base + PAGE_BYTES * k) = page.page in
      let has_start : span.base ≤ base + PAGE_BYTES * k = whole_pages span.base (base + PAGE_BYTES * k) address its at low (omega arith) in
      let taken : is_taken setting state (base + PAGE_BYTES * k) ≡ true = list_any_at (is_in_span (base + PAGE_BYTES * k)) (spans_of setting state) there.0 span there.1
      (ap (is_in_span (base + PAGE_BYTES * k)) there.2 ∙ in_span (base + PAGE_BYTES * k) span has_start (omega (arith, high))) in
      not_free (is_taken setting state (base + PAGE_BYTES * k)) taken page.untaken
    where
      not_free : (b : Bool) → b ≡ true → not b ≡ true → ⊥
      not_free true is isnt = false≢true isnt
      not_free false is isnt = false≢true is

      whole_pages : (lower upper address : ℕ) → IsPage lower → IsPage upper → lower ≤ address → address < upper + PAGE_BYTES → lower ≤ upper
      whole_pages lower upper address low high le less = omega arith

  -- the pages of a slab are none of them
  slab_there : (slab : HeapSlab) → Contains state.slabs slab → Contains (spans_of setting state) (span_of_slab setting slab)
  slab_there slab stands = Contains-append_left (map (span_of_slab setting) state.slabs) _ (span_of_slab setting slab) (Contains-seen (span_of_slab setting) state.slabs slab stands)

  pub not_in_slab : (slab : HeapSlab) (address : ℕ) → Contains state.slabs slab → base ≤ address → address < base + PAGE_BYTES * pages → slab.base ≤ address → address < span_end (span_of_slab setting slab) → ⊥
  not_in_slab slab address stands = not_in_run (span_of_slab setting slab) address (slab_there slab stands)

-- ---- large buffers

pub large_leaves : LargeBuffersLeaveTheTable
large_leaves table size base zeroed setting state header is separate some free =
    stays setting state (hand_out setting state base (large size) zeroed) table is refl refl (λ h index stands less.
    let lies = chunk_lies setting h index header less in
    live_first (record { address = base; held = large size }) state.live (chunk_start setting h index)
    ∙ ap (λ (b : Bool). cond b true (is_live state (chunk_start setting h index))) (ne_eqb base (chunk_start setting h index) (λ e.
    not_in_slab setting state separate base (pages_for size) free h base stands (omega arith) (omega arith) (omega (arith, lies.0, e)) (omega (arith, lies.1, e)))))

-- of two joined lists each item of the first stands in the relation to each of the second
pair_across : {X : Type 0} (R : X → X → Type 0) (xs ys : List X) (x y : X) → AllPairs R (xs ++ ys) → Contains xs x → Contains ys y → R x y
pair_across {X} R xs ys x y h in_first in_second =
    let less = in_first.1 in
    let more = in_second.1 in
    let first : get_or (xs ++ ys) in_first.0 y ≡ x = get_or_append_left xs ys y in_first.0 less ∙ get_or_default xs in_first.0 y x less ∙ in_first.2 in
    let second : get_or (xs ++ ys) (length xs + in_second.0) y ≡ y = get_or-append-add xs ys in_second.0 y ∙ in_second.2 in
    subst (λ (z : X). R x z) second (subst (λ (z : X). R z (get_or (xs ++ ys) (length xs + in_second.0) y)) first
    (h in_first.0 (length xs + in_second.0) y (omega arith) (omega (arith, length-append xs ys))))

pub freed_leaves : FreedLargeBuffersLeaveTheTable
freed_leaves table base setting state header is at =
    stays setting state (give_back setting state base) table is refl refl (λ h index stands less.
    live_without state.live base (chunk_start setting h index)
    ∙ ap (λ (b : Bool). cond b false (is_live state (chunk_start setting h index))) (ne_eqb base (chunk_start setting h index) (apart h index stands less)))
  where
    apart : (h : HeapSlab) (index : ℕ) → Contains state.slabs h → index < (geometry_in setting h.cache).rounds → base ≢ chunk_start setting h index
    apart h index stands less e =
        let lies = chunk_lies setting h index header less in
        let buffer : LiveBuffer = record { address = base; held = large at.size } in
        let own : Contains (map span_of_large (filter (λ (b : LiveBuffer). is_none b.held.cache) state.live)) (record { base = base; pages = pages_for at.size }) =
        Contains-seen span_of_large (filter (λ (b : LiveBuffer). is_none b.held.cache) state.live) buffer (Contains-passing (λ (b : LiveBuffer). is_none b.held.cache) state.live buffer refl (held_lives state.live base (large at.size) at.lives)) in
        let some = (All-contains (IsSpanWithin ARENA_BASE (arena_end setting.header.version)) (spans_of setting state) (record { base = base; pages = pages_for at.size }) at.separate.within
        (Contains-append_right (map (span_of_slab setting) state.slabs) _ (record { base = base; pages = pages_for at.size }) own)).some in
        elim (pair_across StandApart (map (span_of_slab setting) state.slabs) _ (span_of_slab setting h) (record { base = base; pages = pages_for at.size }) at.separate.apart (Contains-seen (span_of_slab setting) state.slabs h stands) own) [
          | inl below ↦ omega (arith, below, lies.1, e)
          | inr above ↦ omega (arith, above, lies.0, e, some)
        ]

-- ---- new slabs

pub new_unused : NewSlabsAreUnused
new_unused setting state cache base header separate free address chunk = go (held_at state.live address) refl
  where
    low : base ≤ address
    low = omega (arith, (chunk_lies setting (new_slab setting state cache base) chunk.index header chunk.within).0, chunk.there)

    high : address < base + PAGE_BYTES * (geometry_in setting cache).pages
    high = omega (arith, (chunk_lies setting (new_slab setting state cache base) chunk.index header chunk.within).1, chunk.there)

    not_placed : (size : ℕ) (its : Option ℕ) → LiesInPlace setting state address size its → ⊥
    not_placed size (Some other) place =
        let of = place.0 in
        let lies = chunk_lies setting of.slab of.chunk.index header of.chunk.within in
        let there = of.chunk.there in
        not_in_slab setting state separate base (geometry_in setting cache).pages free of.slab address of.stands low high (omega (arith, lies.0, there)) (omega (arith, lies.1, there))
    not_placed size None place =
        let span : Span = record { base = address; pages = pages_for size } in
        let some = (All-contains (IsSpanWithin ARENA_BASE (arena_end setting.header.version)) (spans_of setting state) span separate.within place).some in
        not_in_run setting state separate base (geometry_in setting cache).pages free span address place low high (omega arith) (omega (arith, some))

    go : (held : Option Held) → held_at state.live address ≡ held → held_at state.live address ≡ None
    go None is = is
    go (Some held) is =
        let there = held_lives state.live address held is in
        absurd (not_placed held.size held.cache (All-contains (λ (b : LiveBuffer). LiesInPlace setting state b.address b.held.size b.held.cache) state.live (record { address = address; held = held }) separate.inside there))

pub free_places : FreeRunsArePlaces
free_places table cache base lt numbers setting state header is separate free = record {
  below = subst (λ (n : ℕ). base + PAGE_BYTES * n < 2 ^ 64) (sym pages) small;
  clear = subst (λ (n : ℕ). All (λ (s : Standing). (base + PAGE_BYTES * n ≤ s.base) ⊎ (chunks_end s ≤ base)) table.slabs) (sym pages) (λ k d less. clear (get_or table.slabs k d) (k, less, get_or_default table.slabs k (get_or table.slabs k d) d less));
  numbers = numbers;
}
  where
    pages : (quantities_of (slabs_of table.caches cache)).pages ≡ (geometry_in setting cache).pages
    pages = ap (λ (g : Geometry). g.pages) (quantities_are setting state table cache is lt)

    arena_small : (version : ℕ) → arena_end version < 2 ^ 64
    arena_small version = elim (cases_Bool (eqb version 1)) [ inl one ↦ rw one (omega arith) | inr other ↦ rw other (omega arith) ]

    small : base + PAGE_BYTES * (geometry_in setting cache).pages < 2 ^ 64
    small =
        let some = (any_geometry setting cache header).pages_some in
        let last = (free ((geometry_in setting cache).pages - 1) (omega (arith, some))).to in
        omega (arith, some, last, arena_small setting.header.version)

    clear_of : (h : HeapSlab) → Contains state.slabs h → (base + PAGE_BYTES * (geometry_in setting cache).pages ≤ h.base) ⊎ (chunks_end (standing_in setting state h) ≤ base)
    clear_of h stands = elim (cases_lt h.base (base + PAGE_BYTES * (geometry_in setting cache).pages)) [
      | inr below ↦ inl below
      | inl meets ↦ elim (cases_lt base (chunks_end (standing_in setting state h))) [
        | inr behind ↦ inr behind
        | inl over ↦
            let ends = ends_inside setting state h header in
            let some = (any_geometry setting cache header).pages_some in
            let mine = (any_geometry setting h.cache header).pages_some in
            elim (cases_lt base h.base) [
              | inl before ↦ absurd (not_in_slab setting state separate base (geometry_in setting cache).pages free h h.base stands (omega arith) meets (omega arith) (omega (arith, mine)))
              | inr from ↦ absurd (not_in_slab setting state separate base (geometry_in setting cache).pages free h base stands (omega arith) (omega (arith, some)) from (omega (arith, ends, over)))
            ]
      ]
    ]

    clear : (s : Standing) → Contains table.slabs s → (base + PAGE_BYTES * (geometry_in setting cache).pages ≤ s.base) ⊎ (chunks_end s ≤ base)
    clear s there =
        let h = of_table setting state table is s there in
        subst (λ (x : Standing). (base + PAGE_BYTES * (geometry_in setting cache).pages ≤ x.base) ⊎ (chunks_end x ≤ base)) h.2 (clear_of h.0 h.1)

-- ---- counts and places

pub in_use : OtherCountsAreInUse
in_use setting state slab some =
    let found = tally-some (λ i. is_live state (chunk_start setting slab i)) 0 (geometry_in setting slab.cache).rounds some in
    record { address = chunk_start setting slab found.0; chunk = record { index = found.0; within = omega (arith, found.2); there = refl }; live = found.3 }

pub found_is_placed : FoundChunksArePlaced
found_is_placed setting state address placed header found = go (slab_with_chunk setting state.slabs address) refl found
  where
    go : (o : Option HeapSlab) → slab_with_chunk setting state.slabs address ≡ o → option_map (λ (slab : HeapSlab). let p : Placed = record { chunk = record { address = address; number = chunk_number setting slab address }; cache = slab.cache } in p) o ≡ Some placed → IsAtItsPlace setting state placed
    go None is e = absurd (cc e)
    go (Some h) is e =
        let there = found_passes (λ (g : HeapSlab). begins_chunk setting g address) state.slabs h is in
        let passes = begins_is setting state h address ∙ there.1 in
        let at = begins-index address (standing_in setting state h) (chunk_some setting h.cache header) passes in
        let p : Placed = record { chunk = record { address = address; number = chunk_number setting h address }; cache = h.cache } in
        let same : p ≡ placed = cc in
        let told : (address - chunk_start setting h 0) / (geometry_in setting h.cache).chunk ≡ at.0 = index_told address at.0 (standing_in setting state h) (chunk_some setting h.cache header) at.1 in
        subst (IsAtItsPlace setting state) same (record {
          slab = h;
          stands = there.0;
          index = at.0;
          within = at.1.0;
          chunk =
              ap (λ (n : ℕ). let c : Chunk = record { address = address; number = h.first + n } in c) told
              ∙ ap (λ (a : ℕ). let c : Chunk = record { address = a; number = h.first + at.0 } in c) (at.1.1 ∙ start_along setting h at.0);
          cache = refl;
        })
