-- The stock of a cache as slabs come.
use Rattle.std.proofs.Common.{◌≡◌, ◌≢◌, ℕ, ◌+◌, ◌-◌, ◌^◌, ◌<◌, ◌≤◌, ◌⊎◌, Bool, true, false, cond, eqb, List, [], ◌∷◌, ◌++◌, length, map, reverse, get_or, Option, Some, None, refl, sym, ap, ◌∙◌, subst, arith, inl, inr}
use Rattle.std.specs.Prelude.{All, Contains, filter, find, is_none, option_map, slice_index}
use Rattle.std.specs.List.{range_with_len}
use Rattle.std.proofs.lemmas.Bool.Decides.{eqb_tells}
use Rattle.std.proofs.lemmas.List.{map-append, reverse-append}
use Rattle.std.proofs.lemmas.List.Elements.{All-contains, Contains-append_cases, Contains-append_left, Contains-append_right, Contains-get_or}
use Rattle.std.proofs.lemmas.List.FromFn.{get_or-range_with_len, length-range_with_len}
use Rattle.std.proofs.lemmas.List.Sorted.{Contains-permutation, IsPermutation-reverse, IsPermutation-sym}
use Rattle.umem_base.specs.Pages.{pages_for}
use Rattle.umem_base.proofs.Lists.{Contains-here, Contains-there}
use Rattle.umem_base.proofs.OrderedLemmas.{Contains-cases, Contains-nil}
use Rattle.slab_layer.specs.Slab.{IsApartBelow, IsSlab, Slab, slab_of}
use Rattle.slab_layer.proofs.RoundsLemmas.{AreConsecutive-range}
use Rattle.slab_layer.proofs.SlabLemmas.{IsSlab-slab_of}
use Rattle.shelf.specs.Laws.{AddsSlab}
use Rattle.shelf.specs.Steps.{opened_slab, with_slab_of}
use Rattle.shelf.specs.Stock.{Stock, bare_slab, held_rounds, standing}
use Rattle.shelf.proofs.StandingLemmas.{with_slab_of_is}
use Rattle.plain_heap.specs.declared.held.Held.{Held}
use Rattle.plain_heap.specs.Laws.{StandApart}
use Rattle.plain_heap.specs.Setting.{IsCache, Setting, geometry_in}
use Rattle.plain_heap.specs.State.{HeapSlab, LiveBuffer, State, after_grow, chunk_start, held_at, new_slab, span_of_slab}
use Rattle.plain_heap.proofs.PlacesLemmas.{IsInArena, IsSeated, apart_bases, chunk_in_slab, is_cache_of, pages_at}
use Rattle.plain_heap.proofs.RunsLemmas.{IsNewRun}
use Rattle.plain_heap.proofs.SettingLemmas.{geometry_in-sound}
use Rattle.plain_heap.proofs.SlabOfChunk.{find_found}
use Rattle.heap_accounts.specs.FreeChunks.{IsFreeRound, IsStockOf, bare_of, slabs_of_cache}
use Rattle.heap_accounts.specs.Places.{rounds_of}
use Rattle.heap_accounts.proofs.FreeRoundLemmas.{HandsOutAt, IsGood, took_free, was_other}

-- ---- lists

pub Contains-mapped : {X Y : Type 0} (f : X → Y) (xs : List X) (x : X) → Contains xs x → Contains (map f xs) (f x)
Contains-mapped f [] x there = Contains-nil x there
Contains-mapped {X} {Y} f (y ∷ xs) x there = elim (Contains-cases y x xs there) [
  | inl is ↦ subst (λ (z : X). Contains (f y ∷ map f xs) (f z)) is (Contains-here (f y) (map f xs))
  | inr later ↦ Contains-there (f y) (f x) (map f xs) (Contains-mapped f xs x later)
]

-- an item of a mapped list comes from one of the list
pub record ComesFrom {X Y : Type 0} (f : X → Y) (xs : List X) (y : Y) : Type 0 where
  pub item : X
  pub there : Contains xs item
  pub is : f item ≡ y

pub Contains-from_mapped : {X Y : Type 0} (f : X → Y) (xs : List X) (y : Y) → Contains (map f xs) y → ComesFrom f xs y
Contains-from_mapped f [] y there = Contains-nil y there
Contains-from_mapped f (x ∷ xs) y there = elim (Contains-cases (f x) y (map f xs) there) [
  | inl is ↦ record { item = x; there = Contains-here x xs; is = is }
  | inr later ↦ let from = Contains-from_mapped f xs y later in record { item = from.item; there = Contains-there x from.item xs from.there; is = from.is }
]

pub Contains-filtered : {X : Type 0} (p : X → Bool) (xs : List X) (x : X) → p x ≡ true → Contains xs x → Contains (filter p xs) x
Contains-filtered p [] x passes there = there
Contains-filtered {X} p (y ∷ xs) x passes there = by_first (p y) refl (Contains-cases y x xs there) (Contains-filtered p xs x passes)
  where
    by_first : (b : Bool) → p y ≡ b → (y ≡ x) ⊎ Contains xs x → (Contains xs x → Contains (filter p xs) x) → Contains (cond b (y ∷ filter p xs) (filter p xs)) x
    by_first true is (inl same) later = subst (Contains (y ∷ filter p xs)) same (Contains-here y (filter p xs))
    by_first true is (inr behind) later = Contains-there y x (filter p xs) (later behind)
    by_first false is (inl same) later = absurd (true_false (sym passes ∙ ap p (sym same) ∙ is))
      where
        true_false : true ≡ false → ⊥
        true_false e = cc e
    by_first false is (inr behind) later = later behind

pub Contains-from_filtered : {X : Type 0} (p : X → Bool) (xs : List X) (x : X) → Contains (filter p xs) x → Contains xs x × (p x ≡ true)
Contains-from_filtered p [] x there = Contains-nil x there
Contains-from_filtered {X} p (y ∷ xs) x there = by_first (p y) refl there (Contains-from_filtered p xs x)
  where
    by_first : (b : Bool) → p y ≡ b → Contains (cond b (y ∷ filter p xs) (filter p xs)) x → (Contains (filter p xs) x → Contains xs x × (p x ≡ true)) → Contains (y ∷ xs) x × (p x ≡ true)
    by_first true is found later = elim (Contains-cases y x (filter p xs) found) [
      | inl same ↦ (subst (Contains (y ∷ xs)) same (Contains-here y xs), ap p (sym same) ∙ is)
      | inr behind ↦ let rest = later behind in (Contains-there y x xs rest.0, rest.1)
    ]
    by_first false is found later = let rest = later found in (Contains-there y x xs rest.0, rest.1)

-- ---- slabs of a stock and of a history

eqb_same : (n : ℕ) → eqb n n ≡ true
eqb_same n = elim (eqb_tells n n) [ inl is ↦ is.0 | inr isnt ↦ absurd (isnt.1 refl) ]

-- the slab of a stock that stands for one of a history
pub record StandsFor (setting : Setting) (ss : List Slab) (h : HeapSlab) : Type 0 where
  pub slab : Slab
  pub there : Contains ss slab
  pub is : bare_slab slab ≡ bare_of setting h

pub stands_for : (setting : Setting) (cache : ℕ) (slabs : List HeapSlab) (ss : List Slab) → standing ss ≡ slabs_of_cache setting cache slabs → (h : HeapSlab) → Contains slabs h → h.cache ≡ cache → StandsFor setting ss h
stands_for setting cache slabs ss same h there its =
    let test : HeapSlab → Bool = λ s. eqb s.cache cache in
    let kept = Contains-filtered test slabs h (ap (λ c. eqb c cache) its ∙ eqb_same cache) there in
    let turned = Contains-permutation (filter test slabs) (reverse (filter test slabs)) h (IsPermutation-reverse (filter test slabs)) kept in
    let bare = subst (λ (l : List Slab). Contains l (bare_of setting h)) (sym same) (Contains-mapped (bare_of setting) (reverse (filter test slabs)) h turned) in
    let from = Contains-from_mapped bare_slab ss (bare_of setting h) bare in
    record { slab = from.item; there = from.there; is = from.is }

-- the slab of a history for which one of a stock stands
pub record CameFrom (setting : Setting) (cache : ℕ) (slabs : List HeapSlab) (s : Slab) : Type 0 where
  pub slab : HeapSlab
  pub stands : Contains slabs slab
  pub its : slab.cache ≡ cache
  pub is : bare_of setting slab ≡ bare_slab s

pub came_from : (setting : Setting) (cache : ℕ) (slabs : List HeapSlab) (ss : List Slab) → standing ss ≡ slabs_of_cache setting cache slabs → (s : Slab) → Contains ss s → CameFrom setting cache slabs s
came_from setting cache slabs ss same s there =
    let test : HeapSlab → Bool = λ s. eqb s.cache cache in
    let bare = subst (λ (l : List Slab). Contains l (bare_slab s)) same (Contains-mapped bare_slab ss s there) in
    let from = Contains-from_mapped (bare_of setting) (reverse (filter test slabs)) (bare_slab s) bare in
    let turned = Contains-permutation (reverse (filter test slabs)) (filter test slabs) from.item (IsPermutation-sym (filter test slabs) (reverse (filter test slabs)) (IsPermutation-reverse (filter test slabs))) from.there in
    let kept = Contains-from_filtered test slabs from.item turned in
    record { slab = from.item; stands = kept.0; its = equal from.item.cache kept.1; is = from.is }
  where
    equal : (c : ℕ) → eqb c cache ≡ true → c ≡ cache
    equal c e = elim (eqb_tells c cache) [ inl is ↦ is.1 | inr isnt ↦ absurd (true_false (sym e ∙ isnt.0)) ]
      where
        true_false : true ≡ false → ⊥
        true_false e = cc e

-- ---- rounds of a slab

pub in_range : (first count chunk : ℕ) → first ≤ chunk → chunk < first + count → Contains (range_with_len first count) chunk
in_range first count chunk low high =
    let within : chunk - first < count = omega arith in
    let there : first + (chunk - first) ≡ chunk = omega arith in
    (chunk - first, omega (arith, length-range_with_len first count), get_or-range_with_len first count (chunk - first) chunk within ∙ there)

pub from_range : (first count chunk : ℕ) → Contains (range_with_len first count) chunk → (index : ℕ) × (index < count) × (chunk ≡ first + index)
from_range first count chunk there =
    let within : there.0 < count = omega (arith, there.1, length-range_with_len first count) in
    (there.0, within, sym there.2 ∙ get_or-range_with_len first count there.0 chunk within)

-- ---- nothing lives in a run that is free

alive : (live : List LiveBuffer) (address : ℕ) (held : Held) → held_at live address ≡ Some held → (b : LiveBuffer) × Contains live b × (b.address ≡ address)
alive live address held is = by_found (find (λ (b : LiveBuffer). eqb b.address address) live) refl is
  where
    by_found : (o : Option LiveBuffer) → find (λ (b : LiveBuffer). eqb b.address address) live ≡ o → option_map (λ (b : LiveBuffer). b.held) o ≡ Some held → (b : LiveBuffer) × Contains live b × (b.address ≡ address)
    by_found None found is = absurd (cc is)
    by_found (Some b) found is =
        let both = find_found (λ (b : LiveBuffer). eqb b.address address) live b found in
        (b, both.0, equal both.1)
      where
        equal : eqb b.address address ≡ true → b.address ≡ address
        equal e = elim (eqb_tells b.address address) [ inl is ↦ is.1 | inr isnt ↦ absurd (true_false (sym e ∙ isnt.0)) ]
          where
            true_false : true ≡ false → ⊥
            true_false e = cc e

module _ (setting : Setting) (state : State) (good : IsGood setting state) (slab : HeapSlab) (run : IsNewRun setting state.live state.slabs (span_of_slab setting slab)) (is_cache : IsCache setting.header.caches slab.cache) where
  -- a buffer stands apart from the run
  seat_apart : (address size : ℕ) (cache : Option ℕ) (index : ℕ) → index < (geometry_in setting slab.cache).rounds → IsSeated setting state.slabs address size cache
      → (is_none cache ≡ true → StandApart (span_of_slab setting slab) (pages_at address size) × (1 ≤ pages_for size)) → address ≡ chunk_start setting slab index → ⊥
  seat_apart address size (Some cache) index within seat apart same =
      let its = seat.0.slab in
      let its_cache = is_cache_of setting state.live state.slabs good.header good.places its seat.0.stands in
      let lies = chunk_in_slab setting its address good.header its_cache seat.0.chunk in
      let mine = chunk_in_slab setting slab address good.header is_cache (record { index = index; within = within; there = same }) in
      let some = (geometry_in-sound setting its.cache good.header its_cache).chunk_some in
      let more = (geometry_in-sound setting slab.cache good.header is_cache).chunk_some in
      elim (All-contains (λ (s : HeapSlab). StandApart (span_of_slab setting slab) (span_of_slab setting s)) state.slabs its run.slabs_apart seat.0.stands) [
        | inl below ↦ omega (arith, below, lies, mine, some, more)
        | inr above ↦ omega (arith, above, lies, mine, some, more)
      ]
  seat_apart address size None index within seat apart same =
      let mine = chunk_in_slab setting slab address good.header is_cache (record { index = index; within = within; there = same }) in
      let more = (geometry_in-sound setting slab.cache good.header is_cache).chunk_some in
      elim (apart refl).0 [
        | inl below ↦ omega (arith, below, mine, more, (apart refl).1)
        | inr above ↦ omega (arith, above, mine, more, (apart refl).1)
      ]

  pub nothing_lives : (index : ℕ) → index < (geometry_in setting slab.cache).rounds → held_at state.live (chunk_start setting slab index) ≡ None
  nothing_lives index within = by_held (held_at state.live (chunk_start setting slab index)) refl
    where
      by_held : (o : Option Held) → held_at state.live (chunk_start setting slab index) ≡ o → o ≡ None
      by_held None is = refl
      by_held (Some held) is =
          let found = alive state.live (chunk_start setting slab index) held is in
          let k = found.1.0 in
          let lt = found.1.1 in
          let b = get_or state.live k found.0 in
          let here : b.address ≡ chunk_start setting slab index = ap (λ (x : LiveBuffer). x.address) found.1.2 ∙ found.2 in
          absurd (seat_apart b.address b.held.size b.held.cache index within (good.places.seated k found.0 lt)
          (λ large. (run.large_apart k found.0 lt large, (good.places.large_in k found.0 lt large).some)) here)

-- ---- a slab comes, and its first chunk is handed out

module _ (setting : Setting) (state after : State) (good : IsGood setting state) (cache base : ℕ) (is_cache : IsCache setting.header.caches cache)
    (run : IsNewRun setting state.live state.slabs (span_of_slab setting (new_slab setting state cache base))) (good_then : IsGood setting (after_grow setting state cache base))
    (out : HandsOutAt setting (new_slab setting state cache base) 0 (after_grow setting state cache base) after) where
  abbrev slab : HeapSlab
  slab = new_slab setting state cache base

  abbrev then : State
  then = after_grow setting state cache base

  abbrev count : ℕ
  count = (geometry_in setting cache).rounds

  abbrev rounds : List ℕ
  rounds = rounds_of setting (new_slab setting state cache base)

  first_is : slice_index rounds 0 ≡ slab.first
  first_is =
      let some : 0 < count = out.seat.within in
      let zero_more : slab.first + 0 ≡ slab.first = omega arith in
      get_or-range_with_len slab.first count 0 0 some ∙ zero_more

  -- what was free is free beside the new slab
  then_free : (other chunk : ℕ) → IsFreeRound setting state other chunk → IsFreeRound setting then other chunk
  then_free other chunk f = record { slab = f.slab; stands = Contains-there slab f.slab state.slabs f.stands; its = f.its; index = f.index; within = f.within; number = f.number; free = f.free }

  new_free : (chunk : ℕ) → Contains rounds chunk → IsFreeRound setting then cache chunk
  new_free chunk there =
      let at = from_range slab.first count chunk there in
      record { slab = slab; stands = Contains-here slab state.slabs; its = refl; index = at.0; within = at.1; number = at.2; free = nothing_lives setting state good slab run is_cache at.0 at.1 }

  from_either : (other chunk : ℕ) → IsFreeRound setting then other chunk → (Contains rounds chunk × (cache ≡ other)) ⊎ IsFreeRound setting state other chunk
  from_either other chunk f = elim (Contains-cases slab f.slab state.slabs f.stands) [
    | inl is ↦
        let firsts = ap (λ (s : HeapSlab). s.first) is in
        let within = subst (λ (s : HeapSlab). f.index < (geometry_in setting s.cache).rounds) (sym is) f.within in
        inl (in_range slab.first count chunk (omega (arith, f.number, firsts)) (omega (arith, f.number, firsts, within)), ap (λ (s : HeapSlab). s.cache) is ∙ f.its)
    | inr later ↦ inr (record { slab = f.slab; stands = later; its = f.its; index = f.index; within = f.within; number = f.number; free = f.free })
  ]

  apart_below : (stock : Stock) → IsStockOf setting state cache stock → All (IsApartBelow (slab_of base rounds)) stock.slabs
  apart_below stock is k d lt =
      let from = came_from setting cache state.slabs stock.slabs is.slabs (get_or stock.slabs k d) (Contains-get_or stock.slabs k d lt) in
      let h = from.slab in
      let bases : h.base ≡ (get_or stock.slabs k d).base = ap (λ (s : Slab). s.base) from.is in
      let firsts : h.first ≡ (get_or stock.slabs k d).first = ap (λ (s : Slab). s.first) from.is in
      let counts : (geometry_in setting h.cache).rounds ≡ (get_or stock.slabs k d).count = ap (λ (s : Slab). s.count) from.is in
      let below = All-contains (λ (s : HeapSlab). s.first + (geometry_in setting s.cache).rounds ≤ slab.first) state.slabs h good.rising.below from.stands in
      let some = (All-contains (λ (s : HeapSlab). IsInArena setting (span_of_slab setting s)) state.slabs h good.places.slabs_in from.stands).some in
      let apart = All-contains (λ (s : HeapSlab). StandApart (span_of_slab setting slab) (span_of_slab setting s)) state.slabs h run.slabs_apart from.stands in (
        λ same. apart_bases (span_of_slab setting slab) (span_of_slab setting h) run.within.some some apart (sym (bases ∙ same)),
        omega (arith, below, firsts, counts, first_is),
      )

  slabs_are : (stock : Stock) → IsStockOf setting state cache stock → standing (with_slab_of stock base rounds).slabs ≡ slabs_of_cache setting cache (slab ∷ state.slabs)
  slabs_are stock is =
      let test : HeapSlab → Bool = λ s. eqb s.cache cache in
      let old = filter test state.slabs in
      let opened : bare_slab (opened_slab base rounds) ≡ bare_of setting slab =
      ap (λ n. record { base = base; first = n; count = length rounds; list = [] }) first_is ∙ ap (λ n. record { base = base; first = slab.first; count = n; list = [] }) (length-range_with_len slab.first count) in
      map-append bare_slab stock.slabs (opened_slab base rounds ∷ []) ∙ ap (λ (s : Slab). standing stock.slabs ++ s ∷ []) opened
      ∙ ap (λ (l : List Slab). l ++ bare_of setting slab ∷ []) is.slabs
      ∙ sym (map-append (bare_of setting) (reverse old) (slab ∷ []))
      ∙ ap (map (bare_of setting)) (sym (reverse-append (slab ∷ []) old))
      ∙ ap (λ b. map (bare_of setting) (reverse (cond b (slab ∷ old) old))) (sym (eqb_same cache))

  pub grew_stock : (stock : Stock) → slab.first + count ≤ 2 ^ 32 → IsStockOf setting state cache stock → IsStockOf setting after cache (with_slab_of stock base rounds)
  grew_stock stock fits is =
      let some : 0 < count = out.seat.within in
      let length_is = length-range_with_len slab.first count in
      let its : IsSlab (slab_of base rounds) = IsSlab-slab_of base rounds (omega (arith, length_is)) (omega (arith, length_is, first_is, fits)) (AreConsecutive-range slab.first count) in
      let adds = with_slab_of_is stock base rounds is.sound its (apart_below stock is) in
      record {
        size = is.size;
        cpus = is.cpus;
        sound = adds.sound;
        slabs = slabs_are stock is ∙ ap (slabs_of_cache setting cache) (sym out.slabs);
        held = λ chunk. (to stock is adds chunk, from stock is adds chunk);
      }
    where
      to : (stock : Stock) → IsStockOf setting state cache stock → AddsSlab stock rounds (with_slab_of stock base rounds) → (chunk : ℕ) → Contains (held_rounds (with_slab_of stock base rounds)) chunk → IsFreeRound setting after cache chunk
      to stock is adds chunk there =
          let now = held_rounds (with_slab_of stock base rounds) in
          let first = slice_index rounds 0 in
          let zero_more : slab.first + 0 ≡ slab.first = omega arith in
          let was = Contains-permutation (first ∷ now) (rounds ++ held_rounds stock) chunk (IsPermutation-sym (rounds ++ held_rounds stock) (first ∷ now) adds.holds) (Contains-there first chunk now there) in
          let other : chunk ≢ slab.first + 0 = λ same. adds.out.out (subst (Contains now) (same ∙ zero_more ∙ sym first_is) there) in
          took_free setting slab 0 then after good_then out cache chunk other (elim (Contains-append_cases rounds (held_rounds stock) chunk was) [
            | inl new ↦ new_free chunk new
            | inr old ↦ then_free cache chunk ((is.held chunk).0 old)
          ])

      from : (stock : Stock) → IsStockOf setting state cache stock → AddsSlab stock rounds (with_slab_of stock base rounds) → (chunk : ℕ) → IsFreeRound setting after cache chunk → Contains (held_rounds (with_slab_of stock base rounds)) chunk
      from stock is adds chunk f =
          let now = held_rounds (with_slab_of stock base rounds) in
          let first = slice_index rounds 0 in
          let zero_more : slab.first + 0 ≡ slab.first = omega arith in
          let was = was_other setting slab 0 then after good_then out cache chunk f in
          let either : Contains (rounds ++ held_rounds stock) chunk = elim (from_either cache chunk was.0) [
            | inl new ↦ Contains-append_left rounds (held_rounds stock) chunk new.0
            | inr old ↦ Contains-append_right rounds (held_rounds stock) chunk ((is.held chunk).1 old)
          ] in
          elim (Contains-cases first chunk now (Contains-permutation (rounds ++ held_rounds stock) (first ∷ now) chunk adds.holds either)) [
            | inl same ↦ absurd (was.1 (sym same ∙ first_is ∙ sym zero_more))
            | inr later ↦ later
          ]

  -- another cache has the same slabs and the same free chunks
  pub grew_elsewhere : (other : ℕ) (stock : Stock) → other ≢ cache → IsStockOf setting state other stock → IsStockOf setting after other stock
  grew_elsewhere other stock apart is =
      let test : HeapSlab → Bool = λ s. eqb s.cache other in
      let old = filter test state.slabs in
      let differs : eqb cache other ≡ false = elim (eqb_tells cache other) [ inl same ↦ absurd (apart (sym same.1)) | inr isnt ↦ isnt.0 ] in
      record {
        size = is.size;
        cpus = is.cpus;
        sound = is.sound;
        slabs = is.slabs ∙ ap (λ b. map (bare_of setting) (reverse (cond b (slab ∷ old) old))) (sym differs) ∙ ap (slabs_of_cache setting other) (sym out.slabs);
        held = λ chunk. (to chunk, from chunk);
      }
    where
      to : (chunk : ℕ) → Contains (held_rounds stock) chunk → IsFreeRound setting after other chunk
      to chunk there =
          let f = (is.held chunk).0 there in
          took_free setting slab 0 then after good_then out other chunk
          (λ same. omega (arith, same, f.number, f.within, All-contains (λ (s : HeapSlab). s.first + (geometry_in setting s.cache).rounds ≤ slab.first) state.slabs f.slab good.rising.below f.stands)) (then_free other chunk f)

      from : (chunk : ℕ) → IsFreeRound setting after other chunk → Contains (held_rounds stock) chunk
      from chunk f =
          let was = was_other setting slab 0 then after good_then out other chunk f in
          elim (from_either other chunk was.0) [
            | inl new ↦ absurd (apart (sym new.1))
            | inr old ↦ (is.held chunk).1 old
          ]
