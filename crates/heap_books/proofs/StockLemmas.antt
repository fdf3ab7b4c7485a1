-- Places that fit a run are those of stocks, one for each cache.
use Rattle.std.proofs.Common.{◌≡◌, ◌≢◌, ℕ, ◌+◌, ◌-◌, ◌*◌, ◌/◌, ◌%◌, ◌^◌, ◌<◌, ◌≤◌, Bool, eqb, List, [], ◌∷◌, length, map, reverse, get_or, Option, Some, None, refl, sym, ap, ◌∙◌, subst, arith, inl, inr}
use Rattle.std.specs.Prelude.{Any, Contains, filter, find, option_map}
use Rattle.std.specs.List.{flat_map, range_with_len}
use Rattle.std.specs.Option.{option_map_or}
use Rattle.std.proofs.lemmas.Bool.{and_parts, eq-eqb, eqb-true, leb-true, ltb-true}
use Rattle.std.proofs.lemmas.List.{get_or_default}
use Rattle.std.proofs.lemmas.List.Elements.{All-contains, All-map, All-weaker, Contains-append_cases, Contains-append_left, Contains-append_right, Contains-get_or}
use Rattle.std.proofs.lemmas.List.FromFn.{get_or-map-range_with_len, length-map-range_with_len}
use Rattle.std.proofs.lemmas.List.Kept.{AllPairs-filter, AllPairs-from_increasing}
use Rattle.std.proofs.lemmas.List.Sorted.{Contains-permutation, IsPermutation-reverse, IsPermutation-sym}
use Rattle.std.proofs.lemmas.Nat.{div-add-mod', div_below, mod-mul-add, mul-add-lt}
use Rattle.std.proofs.Math.Nat.{mul-lt-mul_of_pos_right, mul_comm}
use Rattle.umem_base.proofs.OrderedLemmas.{Contains-nil}
use Rattle.core_format.specs.declared.items.CpuPlace.{CpuPlace}
use Rattle.core_format.specs.declared.items.DepotItem.{DepotItem}
use Rattle.core_format.specs.Magazines.{all_rounds, depot_rounds_of, place_rounds}
use Rattle.slab_layer.specs.Slab.{HasChunk, IsSlab, Slab}
use Rattle.slab_layer.specs.Slabs.{AreSlabs, listed_rounds}
use Rattle.shelf.specs.Stock.{CpuStock, FitsCpu, IsStock, Stock, empty_stock, held_rounds, magazine_rounds, rounds_of_cpu, standing}
use Rattle.shelf.proofs.Lists.{AreDistinct, AreDistinct-append, AreDistinct-behind, AreDistinct-front, apart_in_distinct}
use Rattle.plain_heap.specs.Setting.{Setting, geometry_in}
use Rattle.plain_heap.specs.State.{HeapSlab, State, next_chunk, span_of_slab}
use Rattle.plain_heap.proofs.PairsLemmas.{AllPairs-map}
use Rattle.plain_heap.proofs.PlacesLemmas.{IsInArena, apart_bases, is_cache_of}
use Rattle.plain_heap.proofs.SettingLemmas.{geometry_in-sound}
use Rattle.plain_heap.proofs.SlabOfChunk.{find_found}
use Rattle.heap_accounts.specs.FreeChunks.{ArePlacesOf, IsFreeRound, IsStockOf, bare_of}
use Rattle.heap_accounts.specs.Places.{Places, cache_count, has_chunk_number, slab_with_number, stock_at}
use Rattle.heap_accounts.proofs.FreeRoundLemmas.{IsGood, number_one}
use Rattle.heap_accounts.proofs.SlabLemmas.{Contains-filtered, Contains-from_filtered, Contains-from_mapped, Contains-mapped, from_range, in_range}
use Rattle.heap_pictures.specs.declared.free_list.FreeList.{FreeList}
use Rattle.heap_pictures.specs.declared.free_places.FreePlaces.{FreePlaces}
use Rattle.heap_pictures.specs.Drawn.{list_at}
use Rattle.heap_books.proofs.PieceLemmas.{AreApart, All-standing, distinct_piece, distinct_whole, in_piece, in_whole, pieces_apart}
use Rattle.heap_books.specs.Fit.{AreOfCache, FitRun, IsFreeNumber, IsFullFor, listed_in, in_magazines, numbers_in}
use Rattle.heap_books.proofs.StandingLemmas.{list_found}
use Rattle.heap_books.proofs.TurnedLemmas.{AllPairs-turned, pair_by_index}

-- ---- the stocks

-- what is looked up where nothing stands
abbrev pub no_place : CpuPlace
no_place = record { cpu = 0; cache = 0; loaded = []; previous = [] }

abbrev pub no_depot : DepotItem
no_depot = record { full = [] }

-- the slabs of a cache, the oldest first
abbrev pub its_slabs : State → ℕ → List HeapSlab
its_slabs state cache = reverse (filter (λ (slab : HeapSlab). eqb slab.cache cache) state.slabs)

module _ (setting : Setting) (state : State) (places : FreePlaces) where
  -- the magazines of a CPU for a cache
  abbrev pub place_at : ℕ → ℕ → CpuPlace
  place_at cache cpu = get_or places.cpu_places (cpu * cache_count setting + cache) no_place

  abbrev pub cpu_at : ℕ → ℕ → CpuStock
  cpu_at cache cpu = record { loaded = (place_at cache cpu).loaded; previous = (place_at cache cpu).previous }

  -- a slab with its list
  abbrev pub slab_at : HeapSlab → Slab
  slab_at slab = record {
    base = slab.base;
    first = slab.first;
    count = (geometry_in setting slab.cache).rounds;
    list = list_at places.lists slab.base;
  }

  -- the stock of a cache
  abbrev pub stock_for : ℕ → Stock
  stock_for cache = record {
    size = (geometry_in setting cache).magazine;
    cpus = map (cpu_at cache) (range_with_len 0 setting.header.cpus);
    depot = (get_or places.depots cache no_depot).full;
    slabs = map slab_at (its_slabs state cache);
  }

  -- those of all caches
  abbrev pub stocks_for : Places
  stocks_for = map stock_for (range_with_len 0 (cache_count setting))

  pub stocks_many : length stocks_for ≡ cache_count setting
  stocks_many = length-map-range_with_len stock_for 0 (cache_count setting)

  pub stock_is : (cache : ℕ) → cache < cache_count setting → stock_at stocks_for cache ≡ stock_for cache
  stock_is cache lt =
      get_or-map-range_with_len stock_for 0 (cache_count setting) cache cache (empty_stock 0 0) lt (omega arith)

-- ---- slabs

-- a slab of a cache that stands is among those of the cache, and the other way round
pub in_slabs : (state : State) (slab : HeapSlab) (cache : ℕ) → Contains state.slabs slab → slab.cache ≡ cache
    → Contains (its_slabs state cache) slab
in_slabs state slab cache stands its =
    let test : HeapSlab → Bool = λ s. eqb s.cache cache in
    Contains-permutation (filter test state.slabs) (reverse (filter test state.slabs)) slab
    (IsPermutation-reverse (filter test state.slabs))
    (Contains-filtered test state.slabs slab (eq-eqb slab.cache cache its) stands)

pub from_slabs : (state : State) (slab : HeapSlab) (cache : ℕ) → Contains (its_slabs state cache) slab
    → Contains state.slabs slab × (slab.cache ≡ cache)
from_slabs state slab cache there =
    let test : HeapSlab → Bool = λ s. eqb s.cache cache in
    let kept =
    Contains-from_filtered test state.slabs slab
    (Contains-permutation (reverse (filter test state.slabs)) (filter test state.slabs) slab
    (IsPermutation-sym (filter test state.slabs) (reverse (filter test state.slabs))
    (IsPermutation-reverse (filter test state.slabs))) there)
    in
    (kept.0, eqb-true slab.cache cache kept.1)

-- what stands in the list at a base stands in a list
in_listed : (lists : List FreeList) (base chunk : ℕ) → Contains (list_at lists base) chunk
    → Contains (listed_in lists) chunk
in_listed lists base chunk held = go (find (λ (list : FreeList). eqb list.base base) lists) refl held
  where
    go : (found : Option FreeList) → find (λ (list : FreeList). eqb list.base base) lists ≡ found
        → Contains (option_map_or (λ (list : FreeList). list.chunks) found []) chunk → Contains (listed_in lists) chunk
    go None is there = Contains-nil chunk there
    go (Some list) is there =
        let its = find_found (λ (l : FreeList). eqb l.base base) lists list is in
        in_whole (λ (l : FreeList). l.chunks) lists list chunk its.0 there

-- slabs whose lists are sound have no number twice
slabs_once : (slabs : List Slab) → AreSlabs slabs → AreDistinct (listed_rounds slabs)
slabs_once slabs are =
    distinct_whole (λ (slab : Slab). slab.list) slabs
    (λ k d lt i j e less within.
    let up = AllPairs-from_increasing (get_or slabs k d).list (are.each k d lt).rising i j e less within in
    λ same. omega (arith, up, same))
    (λ i j d less lt n here there.
    let low = All-contains (λ c. HasChunk c (get_or slabs i d)) (get_or slabs i d).list n (are.each i d (omega arith)).own here in
    let high = All-contains (λ c. HasChunk c (get_or slabs j d)) (get_or slabs j d).list n (are.each j d lt).own there in
    omega (arith, low, high, are.apart i j d less lt))

-- ---- chunks by number

-- a number is that of a chunk of a slab of a cache that stands
record IsOwn (setting : Setting) (state : State) (cache chunk : ℕ) : Type 0 where
  slab : HeapSlab
  stands : Contains state.slabs slab
  its : slab.cache ≡ cache
  low : slab.first ≤ chunk
  high : chunk < slab.first + (geometry_in setting slab.cache).rounds

by_number : (setting : Setting) (state : State) (cache chunk : ℕ)
    → option_map (λ (slab : HeapSlab). slab.cache) (slab_with_number setting state.slabs chunk) ≡ Some cache
    → IsOwn setting state cache chunk
by_number setting state cache chunk is = go (slab_with_number setting state.slabs chunk) refl is
  where
    go : (found : Option HeapSlab) → slab_with_number setting state.slabs chunk ≡ found
        → option_map (λ (slab : HeapSlab). slab.cache) found ≡ Some cache → IsOwn setting state cache chunk
    go None found same = absurd (cc same)
    go (Some slab) found same =
        let both = find_found (has_chunk_number setting chunk) state.slabs slab found in
        let parts = and_parts _ _ both.1 in
        record {
          slab = slab;
          stands = both.0;
          its = cc same;
          low = leb-true slab.first chunk parts.0;
          high = ltb-true chunk (slab.first + (geometry_in setting slab.cache).rounds) parts.1;
        }

-- each of the numbers of a cache is
own_in : (setting : Setting) (state : State) (cache : ℕ) (chunks : List ℕ) (chunk : ℕ)
    → AreOfCache setting state cache chunks → Contains chunks chunk → IsOwn setting state cache chunk
own_in setting state cache chunks chunk all there =
    by_number setting state cache chunk
    (All-contains (λ (c : ℕ). option_map (λ (slab : HeapSlab). slab.cache) (slab_with_number setting state.slabs c) ≡ Some cache)
    chunks chunk all there)

module _ (setting : Setting) (state : State) (places : FreePlaces) (good : IsGood setting state)
    (fit : FitRun setting state places) where
  -- two slabs that have a number are one
  one_slab : (s t : HeapSlab) (n : ℕ) → Contains state.slabs s → Contains state.slabs t → s.first ≤ n
      → n < s.first + (geometry_in setting s.cache).rounds → t.first ≤ n
      → n < t.first + (geometry_in setting t.cache).rounds → s ≡ t
  one_slab s t n one other low high from to =
      number_one setting state good s t (n - s.first) (n - t.first)
      (record { stands = one; within = omega arith }) (record { stands = other; within = omega arith }) (omega arith)

  -- where a free number is also that of a chunk of a cache, it is free of that cache
  as_cache : (cache chunk : ℕ) → IsOwn setting state cache chunk → IsFreeNumber setting state chunk
      → IsFreeRound setting state cache chunk
  as_cache cache chunk own free =
      let f = free.1 in
      let same = one_slab f.slab own.slab chunk f.stands own.stands (omega (arith, f.number))
      (omega (arith, f.number, f.within)) own.low own.high in
      record {
        slab = f.slab;
        stands = f.stands;
        its = ap (λ (s : HeapSlab). s.cache) same ∙ own.its;
        index = f.index;
        within = f.within;
        number = f.number;
        free = f.free;
      }

  -- the cache of a free round is that of each slab which has its number
  same_cache : (cache other chunk : ℕ) → IsFreeRound setting state cache chunk → IsOwn setting state other chunk
      → other ≡ cache
  same_cache cache other chunk f own =
      let same = one_slab f.slab own.slab chunk f.stands own.stands (omega (arith, f.number))
      (omega (arith, f.number, f.within)) own.low own.high in
      sym own.its ∙ sym (ap (λ (s : HeapSlab). s.cache) same) ∙ f.its

  -- ---- what stands at a place

  -- among all numbers
  in_places : (chunk : ℕ) → Contains (flat_map place_rounds places.cpu_places) chunk → Contains (numbers_in places) chunk
  in_places chunk there =
      Contains-append_left (in_magazines places.cpu_places places.depots) (listed_in places.lists) chunk
      (Contains-append_left (flat_map place_rounds places.cpu_places) (flat_map depot_rounds_of places.depots) chunk there)

  in_depots : (chunk : ℕ) → Contains (flat_map depot_rounds_of places.depots) chunk → Contains (numbers_in places) chunk
  in_depots chunk there =
      Contains-append_left (in_magazines places.cpu_places places.depots) (listed_in places.lists) chunk
      (Contains-append_right (flat_map place_rounds places.cpu_places) (flat_map depot_rounds_of places.depots) chunk there)

  in_lists : (chunk : ℕ) → Contains (listed_in places.lists) chunk → Contains (numbers_in places) chunk
  in_lists chunk there =
      Contains-append_right (in_magazines places.cpu_places places.depots) (listed_in places.lists) chunk there

  -- the magazines at an index are of the cache of that index
  place_own : (index : ℕ) (d : CpuPlace) (chunk : ℕ) → index < length places.cpu_places
      → Contains (place_rounds (get_or places.cpu_places index d)) chunk
      → IsOwn setting state (index % cache_count setting) chunk
  place_own index d chunk lt there =
      let place = get_or places.cpu_places index d in
      let its = fit.cpu_places.each index d lt in
      subst (λ (c : ℕ). IsOwn setting state c chunk) its.cache
      (elim (Contains-append_cases place.loaded place.previous chunk there) [
        | inl at ↦ own_in setting state place.cache place.loaded chunk its.loaded.own at
        | inr at ↦ own_in setting state place.cache place.previous chunk its.previous.own at
      ])

  -- a depot is of its cache
  depot_own : (cache : ℕ) (d : DepotItem) (chunk : ℕ) → cache < length places.depots
      → Contains (depot_rounds_of (get_or places.depots cache d)) chunk → IsOwn setting state cache chunk
  depot_own cache d chunk lt there =
      let depot = get_or places.depots cache d in
      let piece = in_piece (λ (rounds : List ℕ). rounds) depot.full chunk there in
      let full = All-contains (IsFullFor setting state cache) depot.full piece.0 (fit.depots.each cache d lt).full piece.1 in
      own_in setting state cache piece.0 chunk full.own piece.2

  -- a list is of its slab
  list_own : (slab : HeapSlab) (chunk : ℕ) → Contains state.slabs slab → Contains (list_at places.lists slab.base) chunk
      → IsOwn setting state slab.cache chunk
  list_own slab chunk stands there =
      let rounds = (geometry_in setting slab.cache).rounds in
      let both = All-contains (λ c. (slab.first ≤ c) × (c < slab.first + rounds)) (list_at places.lists slab.base) chunk
      (fit.lists.each slab stands).own there in
      record { slab = slab; stands = stands; its = refl; low = both.0; high = both.1 }

  -- ---- what a stock holds

  -- the index of a CPU and a cache
  index_within : (cache cpu : ℕ) → cache < cache_count setting → cpu < setting.header.cpus
      → cpu * cache_count setting + cache < length places.cpu_places
  index_within cache cpu lt below =
      let many = fit.cpu_places.many in
      let within =
      subst (λ (n : ℕ). cpu * cache_count setting + cache < n) (mul_comm (cache_count setting) setting.header.cpus)
      (mul-add-lt cpu (cache_count setting) cache setting.header.cpus below lt) in
      subst (λ (n : ℕ). cpu * cache_count setting + cache < n) (sym many) within

  -- a number of the CPUs stands at one
  at_cpu : (cache chunk : ℕ)
      → Contains (flat_map rounds_of_cpu (map (cpu_at setting state places cache) (range_with_len 0 setting.header.cpus))) chunk
      → (cpu : ℕ) × (cpu < setting.header.cpus) × Contains (place_rounds (place_at setting state places cache cpu)) chunk
  at_cpu cache chunk held =
      let cpus = range_with_len 0 setting.header.cpus in
      let piece = in_piece rounds_of_cpu (map (cpu_at setting state places cache) cpus) chunk held in
      let from = Contains-from_mapped (cpu_at setting state places cache) cpus piece.0 piece.1 in
      let number = from_range 0 setting.header.cpus from.item from.there in (
        from.item,
        omega (arith, number.1, number.2),
        subst (λ (c : CpuStock). Contains (rounds_of_cpu c) chunk) (sym from.is) piece.2,
      )

  cpu_own : (cache chunk : ℕ) → cache < cache_count setting
      → Contains (flat_map rounds_of_cpu (map (cpu_at setting state places cache) (range_with_len 0 setting.header.cpus))) chunk
      → IsOwn setting state cache chunk × Contains (flat_map place_rounds places.cpu_places) chunk
  cpu_own cache chunk lt held =
      let at = at_cpu cache chunk held in
      let index = at.0 * cache_count setting + cache in
      let within = index_within cache at.0 lt at.1 in (
        subst (λ (c : ℕ). IsOwn setting state c chunk) (mod-mul-add at.0 (cache_count setting) cache lt)
            (place_own index no_place chunk within at.2),
        in_whole place_rounds places.cpu_places (get_or places.cpu_places index no_place) chunk
            (Contains-get_or places.cpu_places index no_place within) at.2,
      )

  depot_there : (cache : ℕ) → cache < cache_count setting → cache < length places.depots
  depot_there cache lt = omega (arith, lt, fit.depots.many)

  depot_held : (cache chunk : ℕ) → cache < cache_count setting
      → Contains (all_rounds (get_or places.depots cache no_depot).full) chunk
      → IsOwn setting state cache chunk × Contains (flat_map depot_rounds_of places.depots) chunk
  depot_held cache chunk lt held = (
    depot_own cache no_depot chunk (depot_there cache lt) held,
    in_whole depot_rounds_of places.depots (get_or places.depots cache no_depot) chunk
        (Contains-get_or places.depots cache no_depot (depot_there cache lt)) held,
  )

  list_held : (cache chunk : ℕ) → Contains (listed_rounds (map (slab_at setting state places) (its_slabs state cache))) chunk
      → IsOwn setting state cache chunk × Contains (listed_in places.lists) chunk
  list_held cache chunk held =
      let piece = in_piece (λ (slab : Slab). slab.list) (map (slab_at setting state places) (its_slabs state cache)) chunk held in
      let from = Contains-from_mapped (slab_at setting state places) (its_slabs state cache) piece.0 piece.1 in
      let stands = from_slabs state from.item cache from.there in
      let there : Contains (list_at places.lists from.item.base) chunk =
      subst (λ (s : Slab). Contains s.list chunk) (sym from.is) piece.2 in (
        subst (λ (c : ℕ). IsOwn setting state c chunk) stands.1 (list_own from.item chunk stands.0 there),
        in_listed places.lists from.item.base chunk there,
      )

  -- what it holds is free of the cache
  held_free : (cache chunk : ℕ) → cache < cache_count setting
      → Contains (held_rounds (stock_for setting state places cache)) chunk → IsFreeRound setting state cache chunk
  held_free cache chunk lt held =
      let stock = stock_for setting state places cache in
      elim (Contains-append_cases (magazine_rounds stock) (listed_rounds stock.slabs) chunk held) [
        | inl magazine ↦ elim (Contains-append_cases (flat_map rounds_of_cpu stock.cpus) (all_rounds stock.depot) chunk magazine) [
          | inl cpu ↦
              let its = cpu_own cache chunk lt cpu in
              as_cache cache chunk its.0 ((fit.free chunk).0 (in_places chunk its.1))
          | inr depot ↦
              let its = depot_held cache chunk lt depot in
              as_cache cache chunk its.0 ((fit.free chunk).0 (in_depots chunk its.1))
        ]
        | inr list ↦
            let its = list_held cache chunk list in
            as_cache cache chunk its.0 ((fit.free chunk).0 (in_lists chunk its.1))
      ]

  -- ---- what is free stands in it

  some_caches : 0 < cache_count setting
  some_caches = omega arith

  free_at_cpu : (cache chunk : ℕ) → IsFreeRound setting state cache chunk
      → Contains (flat_map place_rounds places.cpu_places) chunk
      → Contains (flat_map rounds_of_cpu (stock_for setting state places cache).cpus) chunk
  free_at_cpu cache chunk f there =
      let piece = in_piece place_rounds places.cpu_places chunk there in
      let index = piece.1.0 in
      let within : index < length places.cpu_places = piece.1.1 in
      let is : get_or places.cpu_places index no_place ≡ piece.0 =
      get_or_default places.cpu_places index no_place piece.0 within ∙ piece.1.2 in
      let at : Contains (place_rounds (get_or places.cpu_places index no_place)) chunk =
      subst (λ (p : CpuPlace). Contains (place_rounds p) chunk) (sym is) piece.2 in
      let same = same_cache cache (index % cache_count setting) chunk f (place_own index no_place chunk within at) in
      let cpu = index / cache_count setting in
      let many = fit.cpu_places.many in
      let below : cpu < setting.header.cpus =
      div_below index (cache_count setting) setting.header.cpus some_caches (subst (λ (n : ℕ). index < n) many within) in
      let where_is : index ≡ cpu * cache_count setting + cache =
      sym (div-add-mod' index (cache_count setting)) ∙ ap (λ (c : ℕ). cpu * cache_count setting + c) same in
      let cpus = range_with_len 0 setting.header.cpus in
      in_whole rounds_of_cpu (map (cpu_at setting state places cache) cpus) (cpu_at setting state places cache cpu) chunk
      (Contains-mapped (cpu_at setting state places cache) cpus cpu
      (in_range 0 setting.header.cpus cpu (omega arith) (omega (arith, below))))
      (subst (λ (k : ℕ). Contains (place_rounds (get_or places.cpu_places k no_place)) chunk) where_is at)

  free_in_depot : (cache chunk : ℕ) → IsFreeRound setting state cache chunk
      → Contains (flat_map depot_rounds_of places.depots) chunk
      → Contains (all_rounds (stock_for setting state places cache).depot) chunk
  free_in_depot cache chunk f there =
      let piece = in_piece depot_rounds_of places.depots chunk there in
      let other = piece.1.0 in
      let is : get_or places.depots other no_depot ≡ piece.0 =
      get_or_default places.depots other no_depot piece.0 piece.1.1 ∙ piece.1.2 in
      let at : Contains (depot_rounds_of (get_or places.depots other no_depot)) chunk =
      subst (λ (p : DepotItem). Contains (depot_rounds_of p) chunk) (sym is) piece.2 in
      let same = same_cache cache other chunk f (depot_own other no_depot chunk piece.1.1 at) in
      subst (λ (c : ℕ). Contains (depot_rounds_of (get_or places.depots c no_depot)) chunk) same at

  -- the list of an item is the one at its base
  list_is : (list : FreeList) → Contains places.lists list → list_at places.lists list.base ≡ list.chunks
  list_is list there = list_found places.lists fit.lists.are.rising list there

  free_in_list : (cache chunk : ℕ) → IsFreeRound setting state cache chunk → Contains (listed_in places.lists) chunk
      → Contains (listed_rounds (stock_for setting state places cache).slabs) chunk
  free_in_list cache chunk f there =
      let piece = in_piece (λ (l : FreeList). l.chunks) places.lists chunk there in
      let list = piece.0 in
      let based = (fit.lists.are.exactly list.base).0 (Contains-mapped (λ (l : FreeList). l.base) places.lists list piece.1) in
      let from = Contains-from_mapped (λ (s : HeapSlab). s.base) state.slabs list.base based in
      let slab = from.item in
      let at : Contains (list_at places.lists slab.base) chunk =
      subst (λ (b : ℕ). Contains (list_at places.lists b) chunk) (sym from.is)
      (subst (λ (l : List ℕ). Contains l chunk) (sym (list_is list piece.1)) piece.2) in
      let same = same_cache cache slab.cache chunk f (list_own slab chunk from.there at) in
      in_whole (λ (s : Slab). s.list) (map (slab_at setting state places) (its_slabs state cache))
      (slab_at setting state places slab) chunk
      (Contains-mapped (slab_at setting state places) (its_slabs state cache) slab (in_slabs state slab cache from.there same))
      at

  free_held : (cache chunk : ℕ) → IsFreeRound setting state cache chunk
      → Contains (held_rounds (stock_for setting state places cache)) chunk
  free_held cache chunk f =
      let stock = stock_for setting state places cache in
      let there = (fit.free chunk).1 (cache, f) in
      elim (Contains-append_cases (in_magazines places.cpu_places places.depots) (listed_in places.lists) chunk there) [
        | inl loaded ↦
            Contains-append_left (magazine_rounds stock) (listed_rounds stock.slabs) chunk
            (elim (Contains-append_cases (flat_map place_rounds places.cpu_places) (flat_map depot_rounds_of places.depots) chunk loaded) [
              | inl cpu ↦
                  Contains-append_left (flat_map rounds_of_cpu stock.cpus) (all_rounds stock.depot) chunk
                  (free_at_cpu cache chunk f cpu)
              | inr depot ↦
                  Contains-append_right (flat_map rounds_of_cpu stock.cpus) (all_rounds stock.depot) chunk
                  (free_in_depot cache chunk f depot)
            ])
        | inr list ↦
            Contains-append_right (magazine_rounds stock) (listed_rounds stock.slabs) chunk (free_in_list cache chunk f list)
      ]

  -- ---- no number twice

  loaded_once : AreDistinct (in_magazines places.cpu_places places.depots)
  loaded_once = AreDistinct-front (in_magazines places.cpu_places places.depots) (listed_in places.lists) fit.once

  places_once : AreDistinct (flat_map place_rounds places.cpu_places)
  places_once = AreDistinct-front (flat_map place_rounds places.cpu_places) (flat_map depot_rounds_of places.depots) loaded_once

  depots_once : AreDistinct (flat_map depot_rounds_of places.depots)
  depots_once = AreDistinct-behind (flat_map place_rounds places.cpu_places) (flat_map depot_rounds_of places.depots) loaded_once

  cpus_once : (cache : ℕ) → cache < cache_count setting
      → AreDistinct (flat_map rounds_of_cpu (stock_for setting state places cache).cpus)
  cpus_once cache lt =
      let cpus = range_with_len 0 setting.header.cpus in
      distinct_whole rounds_of_cpu (map (cpu_at setting state places cache) cpus)
      (All-map (λ (c : CpuStock). AreDistinct (rounds_of_cpu c)) (cpu_at setting state places cache) cpus
      (All-standing (λ (cpu : ℕ). AreDistinct (place_rounds (place_at setting state places cache cpu))) cpus (λ cpu there.
      let number = from_range 0 setting.header.cpus cpu there in
      let below : cpu < setting.header.cpus = omega (arith, number.1, number.2) in
      let index = cpu * cache_count setting + cache in
      distinct_piece place_rounds places.cpu_places (get_or places.cpu_places index no_place) places_once
      (Contains-get_or places.cpu_places index no_place (index_within cache cpu lt below)))))
      (AllPairs-map (λ (a b : CpuStock). AreApart (rounds_of_cpu a) (rounds_of_cpu b)) (cpu_at setting state places cache) cpus
      (pair_by_index (λ (a b : ℕ). AreApart (place_rounds (place_at setting state places cache a)) (place_rounds (place_at setting state places cache b)))
      setting.header.cpus (λ a b less below.
      let count = cache_count setting in
      let more : a * count < b * count = mul-lt-mul_of_pos_right less some_caches in
      pieces_apart place_rounds places.cpu_places (a * count + cache) (b * count + cache) no_place places_once
      (omega (arith, more)) (index_within cache b lt below))))

  magazines_once : (cache : ℕ) → cache < cache_count setting
      → AreDistinct (magazine_rounds (stock_for setting state places cache))
  magazines_once cache lt =
      let stock = stock_for setting state places cache in
      AreDistinct-append (flat_map rounds_of_cpu stock.cpus) (all_rounds stock.depot) (cpus_once cache lt)
      (distinct_piece depot_rounds_of places.depots (get_or places.depots cache no_depot) depots_once
      (Contains-get_or places.depots cache no_depot (depot_there cache lt)))
      (λ n here there.
      apart_in_distinct (flat_map place_rounds places.cpu_places) (flat_map depot_rounds_of places.depots) n loaded_once
      (cpu_own cache n lt here).1 (depot_held cache n lt there).1)

  held_once : (cache : ℕ) → cache < cache_count setting → AreSlabs (stock_for setting state places cache).slabs
      → AreDistinct (held_rounds (stock_for setting state places cache))
  held_once cache lt are =
      let stock = stock_for setting state places cache in
      AreDistinct-append (magazine_rounds stock) (listed_rounds stock.slabs) (magazines_once cache lt)
      (slabs_once stock.slabs are)
      (λ n here there.
      apart_in_distinct (in_magazines places.cpu_places places.depots) (listed_in places.lists) n fit.once
      (elim (Contains-append_cases (flat_map rounds_of_cpu stock.cpus) (all_rounds stock.depot) n here) [
        | inl cpu ↦
            Contains-append_left (flat_map place_rounds places.cpu_places) (flat_map depot_rounds_of places.depots) n
            (cpu_own cache n lt cpu).1
        | inr depot ↦
            Contains-append_right (flat_map place_rounds places.cpu_places) (flat_map depot_rounds_of places.depots) n
            (depot_held cache n lt depot).1
      ]) (list_held cache n there).1)

  -- ---- the slabs

  module _ (few : next_chunk setting state ≤ 2 ^ 32) where
    sound_slab : (slab : HeapSlab) → Contains state.slabs slab → IsSlab (slab_at setting state places slab)
    sound_slab slab stands =
        let known = is_cache_of setting state.live state.slabs good.header good.places slab stands in
        let some = (geometry_in-sound setting slab.cache good.header known).rounds_many in
        let below =
        All-contains (λ (s : HeapSlab). s.first + (geometry_in setting s.cache).rounds ≤ next_chunk setting state)
        state.slabs slab good.rising.below stands in
        let its = fit.lists.each slab stands in
        record { some = omega (arith, some); fits = omega (arith, below, few); rising = its.rising; own = its.own }

    slabs_sound : (cache : ℕ) → AreSlabs (stock_for setting state places cache).slabs
    slabs_sound cache =
        let test : HeapSlab → Bool = λ s. eqb s.cache cache in
        let arena : (s : HeapSlab) → Contains state.slabs s → IsInArena setting (span_of_slab setting s) =
        λ s. All-contains (λ (s : HeapSlab). IsInArena setting (span_of_slab setting s)) state.slabs s good.places.slabs_in in
        record {
          each =
              All-map IsSlab (slab_at setting state places) (its_slabs state cache)
              (All-standing (λ (s : HeapSlab). IsSlab (slab_at setting state places s)) (its_slabs state cache)
              (λ slab there. sound_slab slab (from_slabs state slab cache there).0));
          apart =
              AllPairs-map (λ (a b : Slab). a.first + a.count ≤ b.first) (slab_at setting state places) (its_slabs state cache)
              (AllPairs-turned (λ (a b : HeapSlab). b.first + (geometry_in setting b.cache).rounds ≤ a.first) (filter test state.slabs)
              (AllPairs-filter (λ (a b : HeapSlab). b.first + (geometry_in setting b.cache).rounds ≤ a.first) test state.slabs good.rising.apart));
          bases =
              AllPairs-map (λ (a b : Slab). a.base ≢ b.base) (slab_at setting state places) (its_slabs state cache)
              (AllPairs-turned (λ (a b : HeapSlab). b.base ≢ a.base) (filter test state.slabs)
              (AllPairs-filter (λ (a b : HeapSlab). b.base ≢ a.base) test state.slabs
              (λ i j d less lt same.
              apart_bases (span_of_slab setting (get_or state.slabs i d)) (span_of_slab setting (get_or state.slabs j d))
              (arena (get_or state.slabs i d) (Contains-get_or state.slabs i d (omega arith))).some
              (arena (get_or state.slabs j d) (Contains-get_or state.slabs j d lt)).some
              (good.places.slabs_apart i j d less lt) (sym same))));
        }

    -- each number held is that of a slab of the stock
    own_chunk : (cache chunk : ℕ) → IsFreeRound setting state cache chunk
        → Any (HasChunk chunk) (stock_for setting state places cache).slabs
    own_chunk cache chunk f =
        let its = Contains-mapped (slab_at setting state places) (its_slabs state cache) f.slab (in_slabs state f.slab cache f.stands f.its) in
        (its.0, slab_at setting state places f.slab, its.1, its.2, (omega (arith, f.number), omega (arith, f.number, f.within)))

    stock_sound : (cache : ℕ) → cache < cache_count setting → IsStock (stock_for setting state places cache)
    stock_sound cache lt =
        let stock = stock_for setting state places cache in
        let cpus = range_with_len 0 setting.header.cpus in
        let depot = fit.depots.each cache no_depot (depot_there cache lt) in
        let some = (geometry_in-sound setting cache good.header lt).magazine_some in
        record {
          some = omega (arith, some);
          cpus =
              All-map (FitsCpu stock.size) (cpu_at setting state places cache) cpus
              (All-standing (λ (cpu : ℕ). FitsCpu stock.size (cpu_at setting state places cache cpu)) cpus (λ cpu there.
              let number = from_range 0 setting.header.cpus cpu there in
              let below : cpu < setting.header.cpus = omega (arith, number.1, number.2) in
              let index = cpu * cache_count setting + cache in
              let its = fit.cpu_places.each index no_place (index_within cache cpu lt below) in
              let same : (get_or places.cpu_places index no_place).cache ≡ cache =
              its.cache ∙ mod-mul-add cpu (cache_count setting) cache lt in
              let size = ap (λ (c : ℕ). (geometry_in setting c).magazine) same in
              record {
                loaded = omega (arith, its.loaded.few, size);
                previous = omega (arith, its.previous.few, size);
              }));
          few = depot.few;
          filled =
              All-weaker (IsFullFor setting state cache) (λ (rounds : List ℕ). length rounds ≡ stock.size)
              (λ rounds is. is.full) stock.depot depot.full;
          slabs = slabs_sound cache;
          distinct = held_once cache lt (slabs_sound cache);
          own =
              All-standing (λ (chunk : ℕ). Any (HasChunk chunk) stock.slabs) (held_rounds stock)
              (λ chunk there. own_chunk cache chunk (held_free cache chunk lt there));
        }

    standing_bare : (slabs : List HeapSlab) → standing (map (slab_at setting state places) slabs) ≡ map (bare_of setting) slabs
    standing_bare [] = refl
    standing_bare (slab ∷ slabs) = ap (λ (l : List Slab). bare_of setting slab ∷ l) (standing_bare slabs)

    stock_fits : (cache : ℕ) → cache < cache_count setting
        → IsStockOf setting state cache (stock_for setting state places cache)
    stock_fits cache lt = record {
      size = refl;
      cpus = length-map-range_with_len (cpu_at setting state places cache) 0 setting.header.cpus;
      sound = stock_sound cache lt;
      slabs = standing_bare (its_slabs state cache);
      held = λ chunk. (held_free cache chunk lt, free_held cache chunk);
    }

    -- the stocks are those of the state
    pub stocks_fit : ArePlacesOf setting state (stocks_for setting state places)
    stocks_fit = record {
      count = stocks_many setting state places;
      each = λ cache lt.
          subst (IsStockOf setting state cache) (sym (stock_is setting state places cache lt)) (stock_fits cache lt);
    }
