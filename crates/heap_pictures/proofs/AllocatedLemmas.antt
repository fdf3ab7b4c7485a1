-- The chunks that are allocated in a core that tells a run are those that live.
use Rattle.std.proofs.Common.{◌≡◌, ℕ, ◌+◌, ◌||◌, ◌++◌, true, false, not, Option, Some, None, refl, sym, ap, ◌∙◌, subst, arith, inl, inr}
use Rattle.std.specs.Prelude.{Contains, is_some}
use Rattle.std.specs.List.{flat_map}
use Rattle.std.proofs.lemmas.Bool.{and_from, and_parts, false_from_ne_true, not-true, not_from_false, or_cases, or_left, or_right, false≢true}
use Rattle.std.proofs.lemmas.List.Elements.{Contains-append_cases, Contains-append_left, Contains-append_right}
use Rattle.core_format.specs.declared.whole.Core.{Core}
use Rattle.core_format.specs.Chunks.{is_chunk_in, is_held}
use Rattle.core_format.specs.Items.{has_number}
use Rattle.core_format.specs.Magazines.{depot_rounds_of, is_listed, place_rounds}
use Rattle.slab_layer.specs.Slabs.{listed_rounds}
use Rattle.shelf.specs.Stock.{held_rounds, magazine_rounds}
use Rattle.plain_heap.specs.declared.held.Held.{Held}
use Rattle.plain_heap.specs.Setting.{Setting}
use Rattle.plain_heap.specs.State.{HeapSlab, State, chunk_start, held_at, is_live}
use Rattle.heap_ledger.specs.Ledger.{Ledger, run_setting, run_state}
use Rattle.heap_accounts.specs.FreeChunks.{IsFreeRound}
use Rattle.heap_accounts.specs.Places.{Places, stock_at}
use Rattle.heap_accounts.proofs.FreeRoundLemmas.{IsSeat, number_one, seat_of}
use Rattle.heap_pictures.specs.Laws.{CanBePictured}
use Rattle.heap_pictures.specs.Pictures.{AreAllocated, TellsPlaces}
use Rattle.heap_pictures.proofs.HeldLemmas.{AreTold, are_told, held_in, in_lists, in_magazines, is_free_round, is_in_list, is_there, known, listed_in, magazines_there}
use Rattle.heap_pictures.proofs.PieceLemmas.{number_there, there_by_number}

module _ (setting : Setting) (state : State) (places : Places) (core : Core)
    (told : AreTold setting state places core) where
  -- ---- what is held in the core

  -- what a stock holds is held in the core
  held_there : (cache chunk : ℕ) → Contains (held_rounds (stock_at places cache)) chunk → is_held core chunk ≡ true
  held_there cache chunk held =
      let stock = stock_at places cache in
      let at = flat_map place_rounds core.cpu_places in
      let in' = flat_map depot_rounds_of core.depots in
      let listed = is_listed core.slabs chunk in
      elim (Contains-append_cases (magazine_rounds stock) (listed_rounds stock.slabs) chunk held) [
        | inr list ↦
            or_left (listed || has_number at chunk) (has_number in' chunk)
            (or_left listed (has_number at chunk) (is_in_list setting state places core told cache chunk list))
        | inl magazine ↦
            let there = magazines_there setting state places core told cache chunk magazine in
            elim (Contains-append_cases at in' chunk there) [
              | inl cpu ↦
                  or_left (listed || has_number at chunk) (has_number in' chunk)
                  (or_right listed (has_number at chunk) (number_there at chunk cpu))
              | inr depot ↦
                  or_right (listed || has_number at chunk) (has_number in' chunk) (number_there in' chunk depot)
            ]
      ]

  -- and what is held in the core, a stock holds
  held_somewhere : (chunk : ℕ) → is_held core chunk ≡ true
      → (cache : ℕ) × Contains (held_rounds (stock_at places cache)) chunk
  held_somewhere chunk held =
      let at = flat_map place_rounds core.cpu_places in
      let in' = flat_map depot_rounds_of core.depots in
      let listed = is_listed core.slabs chunk in
      elim (or_cases (listed || has_number at chunk) (has_number in' chunk) held) [
        | inr depot ↦ in_some (Contains-append_right at in' chunk (there_by_number in' chunk depot))
        | inl other ↦ elim (or_cases listed (has_number at chunk) other) [
          | inl list ↦
              let found = in_lists setting state places core told chunk list in
              (found.0, listed_in (stock_at places found.0) chunk found.1)
          | inr cpu ↦ in_some (Contains-append_left at in' chunk (there_by_number at chunk cpu))
        ]
      ]
    where
      in_some : Contains (flat_map place_rounds core.cpu_places ++ flat_map depot_rounds_of core.depots) chunk
          → (cache : ℕ) × Contains (held_rounds (stock_at places cache)) chunk
      in_some there =
          let found = in_magazines setting state places core told chunk there in
          (found.0, held_in (stock_at places found.0) chunk found.1)

  -- ---- chunks of slabs that stand

  -- what is held in the core does not live
  held_is_free : (slab : HeapSlab) (index : ℕ) → IsSeat setting state slab index
      → is_held core (slab.first + index) ≡ true → held_at state.live (chunk_start setting slab index) ≡ None
  held_is_free slab index seat held =
      let chunk = slab.first + index in
      let found = held_somewhere chunk held in
      let free = is_free_round setting state places core told found.0 chunk found.1 in
      let same : slab ≡ free.slab =
      number_one setting state told.good slab free.slab index free.index seat
      (seat_of setting state found.0 chunk free) free.number in
      let first : slab.first ≡ free.slab.first = ap (λ (s : HeapSlab). s.first) same in
      let its : free.index ≡ index = omega (arith, free.number, first) in
      subst (λ (s : HeapSlab). held_at state.live (chunk_start setting s index) ≡ None) (sym same)
      (subst (λ (i : ℕ). held_at state.live (chunk_start setting free.slab i) ≡ None) its free.free)

  -- and what does not live is held
  free_is_held : (slab : HeapSlab) (index : ℕ) → IsSeat setting state slab index
      → held_at state.live (chunk_start setting slab index) ≡ None → is_held core (slab.first + index) ≡ true
  free_is_held slab index seat free =
      let chunk = slab.first + index in
      let lt = known setting state places core told slab seat.stands in
      let round : IsFreeRound setting state slab.cache chunk = record {
        slab = slab;
        stands = seat.stands;
        its = refl;
        index = index;
        within = seat.within;
        number = refl;
        free = free;
      } in
      held_there slab.cache chunk (((told.stocks.each slab.cache lt).held chunk).1 round)

  -- a chunk that is allocated lives
  lives : (slab : HeapSlab) (index : ℕ) → IsSeat setting state slab index → is_held core (slab.first + index) ≡ false
      → is_live state (chunk_start setting slab index) ≡ true
  lives slab index seat out = go (held_at state.live (chunk_start setting slab index)) refl
    where
      go : (held : Option Held) → held_at state.live (chunk_start setting slab index) ≡ held → is_some held ≡ true
      go None is = absurd (false≢true (sym out ∙ free_is_held slab index seat is))
      go (Some held) is = refl

  -- and one that lives is allocated
  is_out : (slab : HeapSlab) (index : ℕ) → IsSeat setting state slab index
      → is_live state (chunk_start setting slab index) ≡ true → is_held core (slab.first + index) ≡ false
  is_out slab index seat live =
      false_from_ne_true (is_held core (slab.first + index)) (λ held.
      let free = held_is_free slab index seat held in
      false≢true (sym (ap (λ (o : Option Held). is_some o) free) ∙ live))

  pub allocated : AreAllocated setting state core
  allocated slab index stands within =
      let seat : IsSeat setting state slab index = record { stands = stands; within = within } in
      let chunk = slab.first + index in
      let there = is_there setting state places core told slab index seat in (
        λ is. lives slab index seat
            (not-true (is_held core chunk) (and_parts (is_chunk_in core chunk) (not (is_held core chunk)) is).1),
        λ live. and_from (is_chunk_in core chunk) (not (is_held core chunk)) there
            (not_from_false (is_held core chunk) (is_out slab index seat live)),
      )

-- the allocated chunks of a core that tells a run and its places are those that live
pub are_allocated : (ledger : Ledger) (places : Places) (core : Core) → CanBePictured ledger places
    → TellsPlaces ledger places core → AreAllocated (run_setting ledger) (run_state ledger) core
are_allocated ledger places core can tells =
    allocated (run_setting ledger) (run_state ledger) places core
    (are_told ledger places core can.legal can.places tells)
