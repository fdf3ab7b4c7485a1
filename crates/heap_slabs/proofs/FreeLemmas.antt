-- The free chunks of a cache, by the counts of a table and a book of live buffers.
use Rattle.std.proofs.Common.{◌≡◌, ℕ, ◌+◌, ◌*◌, ◌<◌, ◌≤◌, inl, inr, Option, None, Some, sym, ap, ◌∙◌, subst, arith}
use Rattle.std.specs.Prelude.{All, Contains, MatchOption}
use Rattle.std.proofs.lemmas.Bool.{cases_lt}
use Rattle.std.proofs.lemmas.List.Elements.{All-contains}
use Rattle.plain_heap.specs.Live.{HeldByAddress, TellsLive, live_at}
use Rattle.plain_heap.specs.Setting.{Setting, geometry_in}
use Rattle.plain_heap.specs.State.{HeapSlab, State, chunk_start, held_at, is_live}
use Rattle.plain_heap.proofs.PairsLemmas.{pair_of}
use Rattle.heap_memory.specs.declared.chunk.Chunk.{Chunk}
use Rattle.heap_memory.specs.Laws.{chunk_of_slab}
use Rattle.heap_slabs.specs.declared.standing.Standing.{Standing}
use Rattle.heap_slabs.specs.Chunks.{HasNoFreeChunk, IsFreeChunk, IsLowestFreeChunk}
use Rattle.heap_slabs.specs.Standing.{AreLive, AreStanding, HasFree, HaveOtherNumbers, IsFirstFree, IsLowestOf}
use Rattle.heap_slabs.specs.HeapSlabs.{IsTableOf, HeapSlabs, live_chunks, standing_in}
use Rattle.heap_slabs.proofs.Lists.{tally-fewer, tally-less}
use Rattle.heap_slabs.proofs.StateLemmas.{none_held, none_lives, of_state, of_table, start_along}

module _ (setting : Setting) (state : State) (table : HeapSlabs) (is : IsTableOf setting state table) (cache : ℕ) where
  -- the slab of a free chunk has one by its count
  has_free : (chunk : Chunk) (free : IsFreeChunk cache chunk setting state) → HasFree cache (standing_in setting state free.0.slab)
  has_free chunk free =
      let slab = free.0.slab in
      let address : chunk.address ≡ chunk_start setting slab free.0.index = ap (λ (c : Chunk). c.address) free.0.chunk in
      let off = none_lives (held_at state.live (chunk_start setting slab free.0.index)) (ap (held_at state.live) (sym address) ∙ free.1) in
      (sym free.0.cache, tally-fewer (λ i. is_live state (chunk_start setting slab i)) 0 (geometry_in setting slab.cache).rounds free.0.index (omega arith) (omega (arith, free.0.within)) off)

  pub none_free : All (λ slab. ¬ HasFree cache slab) table.slabs → HasNoFreeChunk cache setting state
  none_free none chunk free =
      All-contains (λ (s : Standing). ¬ HasFree cache s) table.slabs (standing_in setting state free.0.slab) none (of_state setting state table is free.0.slab free.0.stands) (has_free chunk free)

  module _ (buffers : HeldByAddress) (tells : TellsLive buffers state) where
    all_live : (h : HeapSlab) → live_chunks setting state h < (geometry_in setting h.cache).rounds → AreLive buffers (standing_in setting state h) (geometry_in setting h.cache).rounds → ⊥
    all_live h less live =
        let off = tally-less (λ i. is_live state (chunk_start setting h i)) 0 (geometry_in setting h.cache).rounds less in
        let none = none_held (held_at state.live (chunk_start setting h off.0)) off.3 in
        live off.0 (omega (arith, off.2)) (ap (live_at buffers) (start_along setting h off.0) ∙ tells.live (chunk_start setting h off.0) ∙ none)

    -- a slab that has a free chunk by its count, has one by the book
    pub some_free : (slab : Standing) → Contains table.slabs slab → HasFree cache slab → AreLive buffers slab slab.rounds → ⊥
    some_free slab there free live =
        let h = of_table setting state table is slab there in
        all_live h.0 (subst (λ (s : Standing). s.live < s.rounds) (sym h.2) free.1) (subst (λ (s : Standing). AreLive buffers s s.rounds) (sym h.2) live)

    lowest_of : (h : HeapSlab) (chunk : Chunk) → Contains state.slabs h → AreStanding table.slabs → IsLowestOf cache table.slabs (standing_in setting state h) → IsFirstFree buffers (standing_in setting state h) chunk
        → IsLowestFreeChunk cache chunk setting state
    lowest_of h chunk stands sound low first = record {
      free = (record { slab = h; stands = stands; index = first.index; within = first.within; chunk = placed; cache = sym low.0.0 }, sym (tells.live chunk.address) ∙ first.free);
      lowest = λ other free.
          let t = standing_in setting state free.0.slab in
          let there = of_state setting state table is free.0.slab free.0.stands in
          let le = All-contains (λ (s : Standing). HasFree cache s → h.first ≤ s.first) table.slabs t low.1 there (has_free other free) in
          let number : other.number ≡ free.0.slab.first + free.0.index = ap (λ (c : Chunk). c.number) free.0.chunk in
          let within = free.0.within in
          let mine = first.number in
          let less = first.within in
          elim (pair_of HaveOtherNumbers table.slabs (standing_in setting state h) t sound.numbers (of_state setting state table is h stands) there) [
            | inl same ↦
                let at = not_before other free same in
                let firsts : h.first ≡ free.0.slab.first = ap (λ (s : Standing). s.first) same in
                omega (arith, mine, number, at, firsts)
            | inr (inl (inl below)) ↦ omega (arith, below, mine, number, less)
            | inr (inl (inr above)) ↦ absurd (omega (arith, above, le, within))
            | inr (inr (inl below)) ↦ absurd (omega (arith, below, le, within))
            | inr (inr (inr above)) ↦ omega (arith, above, mine, number, less)
          ];
    }
      where
        placed : chunk ≡ chunk_of_slab setting h first.index
        placed = ap (λ (a : ℕ). let c : Chunk = record { address = a; number = chunk.number } in c) (first.address ∙ start_along setting h first.index) ∙ ap (λ (n : ℕ). let c : Chunk = record { address = chunk_start setting h first.index; number = n } in c) first.number

        not_before : (other : Chunk) (free : IsFreeChunk cache other setting state) → standing_in setting state h ≡ standing_in setting state free.0.slab → first.index ≤ free.0.index
        not_before other free same = elim (cases_lt free.0.index first.index) [
          | inr le ↦ le
          | inl before ↦
              let address : other.address ≡ chunk_start setting free.0.slab free.0.index = ap (λ (c : Chunk). c.address) free.0.chunk in
              let where_is : chunk_start setting h 0 + free.0.index * (geometry_in setting h.cache).chunk ≡ other.address =
              ap (λ (s : Standing). s.start + free.0.index * s.chunk) same ∙ start_along setting free.0.slab free.0.index ∙ sym address in
              absurd (first.first free.0.index before (ap (live_at buffers) where_is ∙ tells.live other.address ∙ free.1))
        ]

    pub lowest_free : (slab : Standing) (chunk : Chunk) → Contains table.slabs slab → AreStanding table.slabs → IsLowestOf cache table.slabs slab → IsFirstFree buffers slab chunk → IsLowestFreeChunk cache chunk setting state
    lowest_free slab chunk there sound low first =
        let h = of_table setting state table is slab there in
        lowest_of h.0 chunk h.1 sound (subst (IsLowestOf cache table.slabs) (sym h.2) low) (subst (λ (s : Standing). IsFirstFree buffers s chunk) (sym h.2) first)

    -- the first free chunk of that slab, as it is looked for
    pub lowest_told : (slab : Standing) (chunk : Option Chunk) → Contains table.slabs slab → AreStanding table.slabs → IsLowestOf cache table.slabs slab → MatchOption chunk (AreLive buffers slab slab.rounds) (IsFirstFree buffers slab)
        → MatchOption chunk (HasNoFreeChunk cache setting state) (λ chunk. IsLowestFreeChunk cache chunk setting state)
    lowest_told slab None there sound low live = absurd (some_free slab there low.0 live)
    lowest_told slab (Some chunk) there sound low first = lowest_free slab chunk there sound low first
