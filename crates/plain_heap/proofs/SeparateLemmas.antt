-- The live buffers of a legal history are separate.
use Rattle.std.proofs.Common.{◌≡◌, ℕ, zero, suc, ◌+◌, ◌<◌, ◌≤◌, true, List, [], ◌∷◌, length, get_or, map, take, take-suc, take_all, drop, Option, Some, None, refl, sym, ap, subst, ◌∙◌, arith, inl, inr}
use Rattle.std.specs.Prelude.{All, AllPairs, Contains, filter, is_none}
use Rattle.std.proofs.lemmas.List.Elements.{All-append, All-contains_itself, All-map}
use Rattle.std.proofs.lemmas.List.Sums.{fold-append}
use Rattle.std.proofs.lemmas.Option.{slice_get_cases}
use Rattle.umem_base.specs.declared.span.Span.{Span}
use Rattle.script.specs.Rules.{IsHeader}
use Rattle.plain_heap.specs.declared.entry.Entry.{Entry}
use Rattle.plain_heap.specs.Setting.{Setting}
use Rattle.plain_heap.specs.State.{LiveBuffer, State, after_entry, span_of_large, span_of_slab, spans_of, start_state, state_of}
use Rattle.plain_heap.specs.Legal.{IsLegal, next_of_thread}
use Rattle.plain_heap.specs.Laws.{AreSeparate, LiesInPlace, LiveBuffersAreDisjoint, StandApart}
use Rattle.plain_heap.proofs.PairsLemmas.{AllPairs-append, AllPairs-map, AllPairs-passing, All-passing, Contains-behind, Contains-passing, Contains-seen}
use Rattle.plain_heap.proofs.PlacesLemmas.{AreInPlace, IsInArena, IsSeated, is_large, seats_apart}
use Rattle.plain_heap.proofs.StepsLemmas.{IsInPlace, body_keeps}

-- ---- each prefix of a legal history

pub start_in_place : (setting : Setting) → IsInPlace setting start_state
start_in_place setting = record {
  caches = λ k d lt. absurd (omega arith);
  slabs_in = λ k d lt. absurd (omega arith);
  slabs_apart = λ i j d less lt. absurd (omega arith);
  large_in = λ k d lt. absurd (omega arith);
  large_apart = λ i j d less lt. absurd (omega arith);
  across = λ k d lt. absurd (omega arith);
  addresses = λ i j d less lt. absurd (omega arith);
  seated = λ k d lt. absurd (omega arith);
}

-- one entry more of a history
state_of-more : (setting : Setting) (entries : List Entry) (n : ℕ) (entry : Entry) → n < length entries → get_or entries n entry ≡ entry
    → state_of setting (take (suc n) entries) ≡ after_entry setting (state_of setting (take n entries)) entry
state_of-more setting entries n entry lt is =
    ap (state_of setting) (take-suc entries n entry lt) ∙ fold-append (after_entry setting) start_state (take n entries) (get_or entries n entry ∷ [])
    ∙ ap (after_entry setting (state_of setting (take n entries))) is

-- what the first entries of a legal history leave is in its place
prefix_in_place : (setting : Setting) (entries : List Entry) → IsHeader setting.header → IsLegal setting entries → (n : ℕ) → n ≤ length entries → IsInPlace setting (state_of setting (take n entries))
prefix_in_place setting entries header legal zero le = start_in_place setting
prefix_in_place setting entries header legal (suc n) le =
    let before = prefix_in_place setting entries header legal n (omega arith) in
    let state = state_of setting (take n entries) in
    let cases = slice_get_cases entries n in
    elim cases.1 [
      | inl found ↦
          let entry : Entry = found.0 in
          let is_legal = legal n entry found.2 in
          subst (IsInPlace setting) (sym (state_of-more setting entries n entry found.1 found.3)) (body_keeps setting state header before entry.thread entry.body (next_of_thread entry.thread (drop (n + 1) entries)) is_legal.body)
      | inr past ↦ absurd (omega (arith, past.0))
    ]

pub history_in_place : (setting : Setting) (entries : List Entry) → IsHeader setting.header → IsLegal setting entries → IsInPlace setting (state_of setting entries)
history_in_place setting entries header legal =
    subst (λ (all : List Entry). IsInPlace setting (state_of setting all)) (take_all (length entries) entries (omega arith)) (prefix_in_place setting entries header legal (length entries) (omega arith))

-- ---- what stands in place is separate

module _ (setting : Setting) (state : State) (header : IsHeader setting.header) (places : AreInPlace setting state.live state.slabs) where
  spans_within : All (IsInArena setting) (spans_of setting state)
  spans_within =
      All-append (IsInArena setting) (map (span_of_slab setting) state.slabs) (map span_of_large (filter is_large state.live)) (All-map (IsInArena setting) (span_of_slab setting) state.slabs places.slabs_in)
      (All-map (IsInArena setting) span_of_large (filter is_large state.live) (All-passing (λ (b : LiveBuffer). IsInArena setting (span_of_large b)) is_large state.live places.large_in))

  apart_across : All (λ s. All (StandApart s) (map span_of_large (filter is_large state.live))) (map (span_of_slab setting) state.slabs)
  apart_across =
      All-map (λ (s : Span). All (StandApart s) (map span_of_large (filter is_large state.live))) (span_of_slab setting) state.slabs
      (λ k d lt.
      let slab = span_of_slab setting (get_or state.slabs k d) in
      All-map (StandApart slab) span_of_large (filter is_large state.live)
      (All-passing (λ (b : LiveBuffer). StandApart slab (span_of_large b)) is_large state.live (λ j e less large. places.across j e less large k d lt)))

  spans_apart : AllPairs StandApart (spans_of setting state)
  spans_apart =
      AllPairs-append StandApart (map (span_of_slab setting) state.slabs) (map span_of_large (filter is_large state.live)) (AllPairs-map StandApart (span_of_slab setting) state.slabs places.slabs_apart)
      (AllPairs-map StandApart span_of_large (filter is_large state.live) (AllPairs-passing (λ (a b : LiveBuffer). StandApart (span_of_large a) (span_of_large b)) is_large state.live places.large_apart))
      apart_across

  -- the run of a large buffer is one of the runs
  run_is_there : (k : ℕ) (d : LiveBuffer) → k < length state.live → is_large (get_or state.live k d) ≡ true → Contains (spans_of setting state) (span_of_large (get_or state.live k d))
  run_is_there k d lt large =
      let b = get_or state.live k d in
      let large_ones = filter is_large state.live in
      Contains-behind (map (span_of_slab setting) state.slabs) (map span_of_large large_ones) (span_of_large b)
      (Contains-seen span_of_large large_ones b (Contains-passing is_large state.live b large (All-contains_itself state.live k d lt)))

  lies_in_place : (address size : ℕ) (cache : Option ℕ) → IsSeated setting state.slabs address size cache
      → (is_none cache ≡ true → Contains (spans_of setting state) (span_of_large (record { address = address; held = record { size = size; cache = None } })))
      → LiesInPlace setting state address size cache
  lies_in_place address size (Some cache) seat own = (record { slab = seat.0.slab; stands = seat.0.stands; its = seat.0.its; chunk = seat.0.chunk }, seat.1)
  lies_in_place address size None seat own = own refl

  pub separate : AreSeparate setting state
  separate = record {
    within = spans_within;
    apart = spans_apart;
    addresses = places.addresses;
    inside = λ k d lt.
        let b = get_or state.live k d in lies_in_place b.address b.held.size b.held.cache (places.seated k d lt) (run_is_there k d lt);
    buffers = λ i j d less lt.
        let a = get_or state.live i d in
        let b = get_or state.live j d in
        let il : i < length state.live = omega arith in
        seats_apart setting state.live state.slabs header places a.address b.address a.held.size b.held.size a.held.cache b.held.cache (places.addresses i j d less lt) (places.seated i d il) (places.seated j d lt)
        (places.across i d il) (places.across j d lt) (places.large_apart i j d less lt);
  }

pub history_is_separate : LiveBuffersAreDisjoint
history_is_separate setting entries header legal = separate setting (state_of setting entries) header (history_in_place setting entries header legal)
