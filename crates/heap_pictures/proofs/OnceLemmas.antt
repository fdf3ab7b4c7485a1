-- No round of a core stands in two places.
use Rattle.std.proofs.Common.{◌≡◌, ◌≢◌, ℕ, ◌+◌, ◌*◌, ◌/◌, ◌%◌, ◌<◌, false, List, ◌++◌, length, get_or, map, sym, ap, ◌∙◌, subst, arith, inl, inr}
use Rattle.std.specs.Prelude.{All, AllPairs, Contains}
use Rattle.std.specs.List.{flat_map, range_with_len}
use Rattle.std.proofs.lemmas.Bool.{cases_lt, cases_order, false_from_ne_true}
use Rattle.std.proofs.lemmas.List.{get_or_default, get_or_past}
use Rattle.std.proofs.lemmas.List.Elements.{All-map, Contains-get_or}
use Rattle.std.proofs.lemmas.List.FromFn.{get_or-range_with_len, length-range_with_len}
use Rattle.std.proofs.lemmas.Nat.{div-add-mod', mod_below}
use Rattle.core_format.specs.declared.items.CpuPlace.{CpuPlace}
use Rattle.core_format.specs.declared.items.DepotItem.{DepotItem}
use Rattle.core_format.specs.declared.whole.Core.{Core}
use Rattle.core_format.specs.Magazines.{all_rounds, depot_rounds_of, is_listed, place_rounds}
use Rattle.core_rules.specs.PlaceRules.{all_rounds_of}
use Rattle.slab_layer.specs.Slabs.{listed_rounds}
use Rattle.shelf.specs.Stock.{CpuStock, Stock, empty_cpu, empty_stock, magazine_rounds, rounds_of_cpu}
use Rattle.shelf.proofs.Lists.{AreDistinct, AreDistinct-append, AreDistinct-behind, AreDistinct-front, apart_in_distinct}
use Rattle.plain_heap.specs.Setting.{Setting}
use Rattle.plain_heap.specs.State.{State}
use Rattle.plain_heap.proofs.PairsLemmas.{AllPairs-map}
use Rattle.heap_accounts.specs.Places.{Places, cache_count, stock_at}
use Rattle.heap_pictures.specs.Items.{depot_items, place_item, place_items}
use Rattle.heap_pictures.proofs.HeldLemmas.{AreTold, at_cpu, at_place, cache_known, cpu_within, depot_in, depot_of, held_in, in_depot, in_lists, in_magazines, listed_in, one_cache, place_in}
use Rattle.heap_pictures.proofs.PieceLemmas.{All-standing, AreApart, distinct_piece, distinct_whole, pieces_apart}

-- the rounds of some places and depots
abbrev rounds_in : List CpuPlace → List DepotItem → List ℕ
rounds_in cpus depots = flat_map place_rounds cpus ++ flat_map depot_rounds_of depots

module _ (setting : Setting) (state : State) (places : Places) (core : Core)
    (told : AreTold setting state places core) where
  -- ---- one stock

  -- no round stands twice in its magazines
  magazines_once : (cache : ℕ) → cache < length places → AreDistinct (magazine_rounds (stock_at places cache))
  magazines_once cache lt =
      let stock = stock_at places cache in
      let known : cache < cache_count setting = omega (arith, lt, told.stocks.count) in
      AreDistinct-front (magazine_rounds stock) (listed_rounds stock.slabs)
      (told.stocks.each cache known).sound.distinct

  -- in those of its CPUs
  cpus_once : (cache : ℕ) → cache < length places → AreDistinct (flat_map rounds_of_cpu (stock_at places cache).cpus)
  cpus_once cache lt =
      let stock = stock_at places cache in
      AreDistinct-front (flat_map rounds_of_cpu stock.cpus) (all_rounds stock.depot) (magazines_once cache lt)

  -- and in those of its depot
  depot_once : (cache : ℕ) → cache < length places → AreDistinct (all_rounds (stock_at places cache).depot)
  depot_once cache lt =
      let stock = stock_at places cache in
      AreDistinct-behind (flat_map rounds_of_cpu stock.cpus) (all_rounds stock.depot) (magazines_once cache lt)

  -- ---- the magazines of the CPUs

  -- an index is that of a cache
  cache_below : (index : ℕ) → index % length places < length places
  cache_below index = mod_below index (length places) (omega (arith, told.stocks.count))

  -- no round stands twice in the two magazines of a place
  place_once : (index : ℕ) → AreDistinct (place_rounds (place_item places index))
  place_once index =
      let stock = stock_at places (index % length places) in
      let cpu = index / length places in
      elim (cases_lt cpu (length stock.cpus)) [
        | inl lt ↦
            distinct_piece rounds_of_cpu stock.cpus (get_or stock.cpus cpu empty_cpu)
            (cpus_once (index % length places) (cache_below index))
            (Contains-get_or stock.cpus cpu empty_cpu lt)
        | inr past ↦
            subst (λ (its : CpuStock). AreDistinct (rounds_of_cpu its))
            (sym (get_or_past stock.cpus cpu empty_cpu past)) (λ i j d less lt. absurd (omega arith))
      ]

  -- a round stands at one place
  places_apart : (one other : ℕ) → one ≢ other
      → AreApart (place_rounds (place_item places one)) (place_rounds (place_item places other))
  places_apart one other differ n here there =
      let caches = length places in
      let same : one % caches ≡ other % caches =
      one_cache setting state places core told (one % caches) (other % caches) n
      (held_in (stock_at places (one % caches)) n (place_in places one n here))
      (held_in (stock_at places (other % caches)) n (place_in places other n there)) in
      let stock = stock_at places (other % caches) in
      let once = cpus_once (other % caches) (cache_below other) in
      let moved : Contains (rounds_of_cpu (get_or stock.cpus (one / caches) empty_cpu)) n =
      subst (λ (c : ℕ). Contains (rounds_of_cpu (get_or (stock_at places c).cpus (one / caches) empty_cpu)) n)
      same here in
      elim (cases_order (one / caches) (other / caches)) [
        | inl equal ↦
            differ
            (sym (div-add-mod' one caches)
            ∙ ap (λ (cpu : ℕ). cpu * caches + one % caches) equal
            ∙ ap (λ (cache : ℕ). (other / caches) * caches + cache) same
            ∙ div-add-mod' other caches)
        | inr (inl less) ↦
            pieces_apart rounds_of_cpu stock.cpus (one / caches) (other / caches) empty_cpu once less
            (cpu_within stock (other / caches) n there) n moved there
        | inr (inr more) ↦
            pieces_apart rounds_of_cpu stock.cpus (other / caches) (one / caches) empty_cpu once more
            (cpu_within stock (one / caches) n moved) n there moved
      ]

  -- so no round stands twice in the magazines of the CPUs
  places_once : (many : ℕ) → AreDistinct (flat_map place_rounds (map (place_item places) (range_with_len 0 many)))
  places_once many =
      distinct_whole place_rounds (map (place_item places) (range_with_len 0 many))
      (All-map (λ (place : CpuPlace). AreDistinct (place_rounds place)) (place_item places) (range_with_len 0 many)
      (λ k d lt. place_once (get_or (range_with_len 0 many) k d)))
      (AllPairs-map (λ (one other : CpuPlace). AreApart (place_rounds one) (place_rounds other)) (place_item places)
      (range_with_len 0 many) (λ i j d less lt.
      let long = length-range_with_len 0 many in
      let first = get_or-range_with_len 0 many i d (omega arith) in
      let second = get_or-range_with_len 0 many j d (omega arith) in
      places_apart (get_or (range_with_len 0 many) i d) (get_or (range_with_len 0 many) j d) (λ e. omega arith)))

  -- ---- the depots

  -- the stock at an index, whatever stands past the end
  stock_there : (k : ℕ) (d : Stock) → k < length places → stock_at places k ≡ get_or places k d
  stock_there k d lt = get_or_default places k (empty_stock 0 0) d lt

  -- a round stands in one depot
  depots_apart : (i j : ℕ) → i < j
      → AreApart (all_rounds (stock_at places i).depot) (all_rounds (stock_at places j).depot)
  depots_apart i j less n here there =
      let same : i ≡ j =
      one_cache setting state places core told i j n
      (held_in (stock_at places i) n (depot_in (stock_at places i) n here))
      (held_in (stock_at places j) n (depot_in (stock_at places j) n there)) in
      omega arith

  -- no round stands twice in the depots
  depots_once : AreDistinct (flat_map depot_rounds_of (depot_items places))
  depots_once =
      distinct_whole depot_rounds_of (depot_items places)
      (All-map (λ (depot : DepotItem). AreDistinct (depot_rounds_of depot)) depot_of places (λ k d lt.
      subst (λ (stock : Stock). AreDistinct (all_rounds stock.depot)) (stock_there k d lt) (depot_once k lt)))
      (AllPairs-map (λ (one other : DepotItem). AreApart (depot_rounds_of one) (depot_rounds_of other)) depot_of places
      (λ i j d less lt.
      subst (λ (stock : Stock). AreApart (all_rounds stock.depot) (all_rounds (get_or places j d).depot))
      (stock_there i d (omega arith))
      (subst (λ (stock : Stock). AreApart (all_rounds (stock_at places i).depot) (all_rounds stock.depot))
      (stock_there j d lt) (depots_apart i j less))))

  -- ---- all magazines

  -- none stands in those of a CPU and in a depot
  cpus_and_depots : (n : ℕ) → Contains (flat_map place_rounds (place_items setting.header.cpus places)) n
      → Contains (flat_map depot_rounds_of (depot_items places)) n → ⊥
  cpus_and_depots n at in' =
      let place = at_place places setting.header.cpus n at in
      let depot = in_depot places n in' in
      let cache = place.index % length places in
      let same : cache ≡ depot.cache =
      one_cache setting state places core told cache depot.cache n
      (held_in (stock_at places cache) n (place_in places place.index n place.there))
      (held_in (stock_at places depot.cache) n (depot_in (stock_at places depot.cache) n depot.there)) in
      let stock = stock_at places cache in
      apart_in_distinct (flat_map rounds_of_cpu stock.cpus) (all_rounds stock.depot) n
      (magazines_once cache (cache_below place.index))
      (at_cpu stock (place.index / length places) n place.there)
      (subst (λ (c : ℕ). Contains (all_rounds (stock_at places c).depot) n) (sym same) depot.there)

  -- no round stands twice
  pub rounds_once : AllPairs (λ chunk later. chunk ≢ later) (all_rounds_of core)
  rounds_once =
      let cpus = place_items setting.header.cpus places in
      let once : AreDistinct (rounds_in cpus (depot_items places)) =
      AreDistinct-append (flat_map place_rounds cpus) (flat_map depot_rounds_of (depot_items places))
      (places_once (setting.header.cpus * length places)) depots_once cpus_and_depots in
      subst (λ (all : List CpuPlace). AreDistinct (rounds_in all core.depots)) (sym told.cpu_places)
      (subst (λ (all : List DepotItem). AreDistinct (rounds_in cpus all)) (sym told.depots) once)

  -- and none stands in a slab's list
  pub rounds_unlisted : All (λ chunk. is_listed core.slabs chunk ≡ false) (all_rounds_of core)
  rounds_unlisted =
      All-standing (λ (chunk : ℕ). is_listed core.slabs chunk ≡ false) (all_rounds_of core) (λ chunk held.
      false_from_ne_true (is_listed core.slabs chunk) (λ listed.
      let magazine = in_magazines setting state places core told chunk held in
      let list = in_lists setting state places core told chunk listed in
      let stock = stock_at places magazine.0 in
      let same : magazine.0 ≡ list.0 =
      one_cache setting state places core told magazine.0 list.0 chunk (held_in stock chunk magazine.1)
      (listed_in (stock_at places list.0) chunk list.1) in
      let free = subst (λ (c : ℕ). Contains (listed_rounds (stock_at places c).slabs) chunk) (sym same) list.1 in
      let known = cache_known setting state places core told magazine.0 chunk (held_in stock chunk magazine.1) in
      apart_in_distinct (magazine_rounds stock) (listed_rounds stock.slabs) chunk
      (told.stocks.each magazine.0 known).sound.distinct magazine.1 free))
