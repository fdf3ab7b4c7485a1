-- What stands in a core that tells a run: its slabs are those that stand, and its lists and magazines hold what the
-- places hold.
use Rattle.std.proofs.Common.{◌≡◌, ℕ, ◌+◌, ◌*◌, ◌/◌, ◌%◌, ◌<◌, ◌≤◌, ◌↔◌, true, ◌&&◌, List, [], length, get_or, Option, Some, None, eqb, refl, sym, ap, ◌∙◌, subst, arith, inl, inr}
use Rattle.std.specs.Prelude.{Contains, find}
use Rattle.std.specs.List.{flat_map, range_with_len}
use Rattle.std.specs.Option.{option_map_or}
use Rattle.std.proofs.lemmas.Bool.{and_from, cases_lt, eq-eqb, eqb-true, le-leb, lt-ltb}
use Rattle.std.proofs.lemmas.List.{get_or_default, get_or_past}
use Rattle.std.proofs.lemmas.List.Elements.{All-contains, Contains-append_cases, Contains-append_left, Contains-append_right, Contains-get_or}
use Rattle.std.proofs.lemmas.Nat.{div-mul-add, mod-mul-add, mul-add-lt}
use Rattle.std.proofs.Math.Nat.{mul_comm}
use Rattle.umem_base.proofs.OrderedLemmas.{Contains-nil}
use Rattle.core_format.specs.declared.cache_shape.CacheShape.{CacheShape}
use Rattle.core_format.specs.declared.items.CpuPlace.{CpuPlace}
use Rattle.core_format.specs.declared.items.DepotItem.{DepotItem}
use Rattle.core_format.specs.declared.items.SlabItem.{SlabItem}
use Rattle.core_format.specs.declared.whole.Core.{Core}
use Rattle.core_format.specs.Chunks.{core_shapes, is_chunk_in}
use Rattle.core_format.specs.Items.{has_number}
use Rattle.core_format.specs.Magazines.{all_rounds, depot_rounds_of, is_chunk_of, is_listed, place_rounds}
use Rattle.core_format.specs.Slabs.{holds_chunk, shape_at}
use Rattle.core_rules.specs.PlaceRules.{all_rounds_of}
use Rattle.slab_layer.specs.Slab.{Slab}
use Rattle.slab_layer.specs.Slabs.{AreSlabs, listed_rounds}
use Rattle.shelf.specs.Stock.{CpuStock, Stock, empty_cpu, empty_stock, held_rounds, magazine_rounds, rounds_of_cpu}
use Rattle.plain_heap.specs.Setting.{Setting, geometry_in}
use Rattle.plain_heap.specs.State.{HeapSlab, State, start_state}
use Rattle.plain_heap.proofs.PairsLemmas.{pair_of}
use Rattle.plain_heap.proofs.PlacesLemmas.{is_cache_of}
use Rattle.plain_heap.proofs.RisingLemmas.{all_rising}
use Rattle.plain_heap.proofs.SeparateLemmas.{history_in_place}
use Rattle.plain_heap.proofs.SlabOfChunk.{find_alone, find_found}
use Rattle.heap_ledger.specs.Ledger.{IsLedger, Ledger, run_setting, run_state}
use Rattle.heap_accounts.specs.FreeChunks.{ArePlacesOf, IsFreeRound}
use Rattle.heap_accounts.specs.Places.{Places, cache_count, stock_at}
use Rattle.heap_accounts.proofs.FreeRoundLemmas.{IsGood, IsSeat, number_one, seat_of}
use Rattle.heap_accounts.proofs.SlabLemmas.{ComesFrom, Contains-from_mapped, Contains-mapped, came_from, from_range, in_range}
use Rattle.heap_pictures.specs.Items.{depot_items, grows_by_cache, list_in, place_item, place_items, slab_item, slab_items}
use Rattle.heap_pictures.specs.Pictures.{TellsPlaces}
use Rattle.heap_pictures.proofs.PieceLemmas.{in_piece, in_whole, number_there, passes_there, some_passes, there_by_number}
use Rattle.heap_pictures.proofs.ShapeLemmas.{caches_counted, shape_told}

-- ---- lists of slabs

-- the list of a slab, if there is one
abbrev list_of : Option Slab → List ℕ
list_of slab = option_map_or (λ (its : Slab). its.list) slab []

-- what stands in the list of the slab that is found by its first chunk, stands in one
from_list : (slabs : List Slab) (first chunk : ℕ)
    → Contains (list_of (find (λ (its : Slab). eqb its.first first) slabs)) chunk
    → Contains (listed_rounds slabs) chunk
from_list slabs first chunk held = go (find (λ (its : Slab). eqb its.first first) slabs) refl held
  where
    go : (found : Option Slab) → find (λ (its : Slab). eqb its.first first) slabs ≡ found
        → Contains (list_of found) chunk → Contains (listed_rounds slabs) chunk
    go None is there = Contains-nil chunk there
    go (Some slab) is there =
        let its = find_found (λ (its : Slab). eqb its.first first) slabs slab is in
        in_whole (λ (its : Slab). its.list) slabs slab chunk its.0 there

-- a slab of a cache is found by its first chunk
found_first : (slabs : List Slab) (slab : Slab) (first : ℕ) → AreSlabs slabs → Contains slabs slab
    → slab.first ≡ first → find (λ (its : Slab). eqb its.first first) slabs ≡ Some slab
found_first slabs slab first are there is =
    find_alone (λ (its : Slab). eqb its.first first) slabs slab there (eq-eqb slab.first first is)
    (λ other stands passes.
    let same : other.first ≡ first = eqb-true other.first first passes in
    let some : (s : Slab) → Contains slabs s → 0 < s.count =
    λ s stood. All-contains (λ (s : Slab). 0 < s.count) slabs s (λ k d lt. (are.each k d lt).some) stood in
    let one = some slab there in
    let two = some other stands in
    elim (pair_of (λ (a b : Slab). a.first + a.count ≤ b.first) slabs other slab are.apart stands there) [
      | inl equal ↦ equal
      | inr (inl below) ↦ absurd (omega (arith, below, same, is, two))
      | inr (inr above) ↦ absurd (omega (arith, above, same, is, one))
    ])

-- ---- magazines

-- a CPU that holds a chunk is one of the stock
pub cpu_within : (stock : Stock) (cpu chunk : ℕ) → Contains (rounds_of_cpu (get_or stock.cpus cpu empty_cpu)) chunk
    → cpu < length stock.cpus
cpu_within stock cpu chunk held = elim (cases_lt cpu (length stock.cpus)) [
  | inl lt ↦ lt
  | inr past ↦
      Contains-nil chunk
      (subst (λ (its : CpuStock). Contains (rounds_of_cpu its) chunk) (get_or_past stock.cpus cpu empty_cpu past) held)
]

-- what it holds stands among what the CPUs hold
pub at_cpu : (stock : Stock) (cpu chunk : ℕ) → Contains (rounds_of_cpu (get_or stock.cpus cpu empty_cpu)) chunk
    → Contains (flat_map rounds_of_cpu stock.cpus) chunk
at_cpu stock cpu chunk held =
    in_whole rounds_of_cpu stock.cpus (get_or stock.cpus cpu empty_cpu) chunk
    (Contains-get_or stock.cpus cpu empty_cpu (cpu_within stock cpu chunk held)) held

-- a chunk at a place stands in a magazine of the stock of the place's cache
pub place_in : (places : Places) (index chunk : ℕ) → Contains (place_rounds (place_item places index)) chunk
    → Contains (magazine_rounds (stock_at places (index % length places))) chunk
place_in places index chunk there =
    let stock = stock_at places (index % length places) in
    Contains-append_left (flat_map rounds_of_cpu stock.cpus) (all_rounds stock.depot) chunk
    (at_cpu stock (index / length places) chunk there)

-- and so does one in a depot
pub depot_in : (stock : Stock) (chunk : ℕ) → Contains (all_rounds stock.depot) chunk
    → Contains (magazine_rounds stock) chunk
depot_in stock chunk there =
    Contains-append_right (flat_map rounds_of_cpu stock.cpus) (all_rounds stock.depot) chunk there

-- what stands in magazines and lists is held
pub held_in : (stock : Stock) (chunk : ℕ) → Contains (magazine_rounds stock) chunk → Contains (held_rounds stock) chunk
held_in stock chunk there = Contains-append_left (magazine_rounds stock) (listed_rounds stock.slabs) chunk there

pub listed_in : (stock : Stock) (chunk : ℕ) → Contains (listed_rounds stock.slabs) chunk
    → Contains (held_rounds stock) chunk
listed_in stock chunk there = Contains-append_right (magazine_rounds stock) (listed_rounds stock.slabs) chunk there

-- a chunk stands in the magazines of the place of an index
pub record IsAtPlace (places : Places) (cpus chunk : ℕ) : Type 0 where
  pub index : ℕ
  pub within : index < cpus * length places
  pub there : Contains (place_rounds (place_item places index)) chunk

-- what stands in the magazines of the CPUs of the core stands at a place
pub at_place : (places : Places) (cpus chunk : ℕ) → Contains (flat_map place_rounds (place_items cpus places)) chunk
    → IsAtPlace places cpus chunk
at_place places cpus chunk held =
    let many = cpus * length places in
    let piece = in_piece place_rounds (place_items cpus places) chunk held in
    let from = Contains-from_mapped (place_item places) (range_with_len 0 many) piece.0 piece.1 in
    let number = from_range 0 many from.item from.there in
    record {
      index = from.item;
      within = omega (arith, number.1, number.2);
      there = subst (λ (place : CpuPlace). Contains (place_rounds place) chunk) (sym from.is) piece.2;
    }

-- a chunk stands in the depot of a cache
pub record IsInDepot (places : Places) (chunk : ℕ) : Type 0 where
  pub cache : ℕ
  pub within : cache < length places
  pub there : Contains (all_rounds (stock_at places cache).depot) chunk

-- the depot of a stock in a core
abbrev pub depot_of : Stock → DepotItem
depot_of stock = record { full = stock.depot }

-- what stands in the depots of the core stands in one
pub in_depot : (places : Places) (chunk : ℕ) → Contains (flat_map depot_rounds_of (depot_items places)) chunk
    → IsInDepot places chunk
in_depot places chunk held =
    let piece = in_piece depot_rounds_of (depot_items places) chunk held in
    let from = Contains-from_mapped depot_of places piece.0 piece.1 in
    let its : stock_at places from.there.0 ≡ from.item =
    get_or_default places from.there.0 (empty_stock 0 0) from.item from.there.1 ∙ from.there.2 in
    record {
      cache = from.there.0;
      within = from.there.1;
      there =
          subst (λ (stock : Stock). Contains (all_rounds stock.depot) chunk) (sym its)
          (subst (λ (depot : DepotItem). Contains (depot_rounds_of depot) chunk) (sym from.is) piece.2);
    }

-- ---- a core that tells

-- a core tells what stands, and where the places hold what is free of it
pub record AreTold (setting : Setting) (state : State) (places : Places) (core : Core) : Type 0 where
  pub good : IsGood setting state
  pub stocks : ArePlacesOf setting state places
  pub items : (item : SlabItem) → Contains core.slabs item ↔ Contains (slab_items setting state (list_in places)) item
  pub cpus : core.cpus ≡ setting.header.cpus
  pub cpu_places : core.cpu_places ≡ place_items setting.header.cpus places
  pub depots : core.depots ≡ depot_items places
  pub count : length core.caches ≡ cache_count setting
  pub rounds : (cache : ℕ) → cache < cache_count setting
      → (shape_at (core_shapes core) cache).rounds ≡ (geometry_in setting cache).rounds
  pub magazine : (cache : ℕ) → cache < cache_count setting
      → (shape_at (core_shapes core) cache).magazine ≡ (geometry_in setting cache).magazine

module _ (setting : Setting) (state : State) (places : Places) (core : Core)
    (told : AreTold setting state places core) where
  -- the item of a slab
  abbrev its_item : HeapSlab → SlabItem
  its_item slab = slab_item setting state slab (list_in places slab)

  -- ---- slabs

  -- a slab that stands has an item
  pub stands_in : (slab : HeapSlab) → Contains state.slabs slab
      → Contains core.slabs (slab_item setting state slab (list_in places slab))
  stands_in slab stands = (told.items (its_item slab)).1 (Contains-mapped its_item state.slabs slab stands)

  -- and each item is that of one
  pub from_slab : (item : SlabItem) → Contains core.slabs item
      → ComesFrom (λ (slab : HeapSlab). slab_item setting state slab (list_in places slab)) state.slabs item
  from_slab item there = Contains-from_mapped its_item state.slabs item ((told.items item).0 there)

  -- its cache is one of the run
  pub known : (slab : HeapSlab) → Contains state.slabs slab → slab.cache < cache_count setting
  known slab stands = is_cache_of setting state.live state.slabs told.good.header told.good.places slab stands

  -- its item holds its chunks
  holds_own : (slab : HeapSlab) (index : ℕ) → IsSeat setting state slab index
      → holds_chunk (core_shapes core) (slab.first + index) (slab_item setting state slab (list_in places slab)) ≡ true
  holds_own slab index seat =
      let rounds = told.rounds slab.cache (known slab seat.stands) in
      and_from _ _ (le-leb slab.first (slab.first + index) (omega arith))
      (lt-ltb (slab.first + index) (slab.first + (shape_at (core_shapes core) slab.cache).rounds)
      (omega (arith, rounds, seat.within)))

  -- so they are chunks of its cache
  pub is_own : (slab : HeapSlab) (index : ℕ) → IsSeat setting state slab index
      → is_chunk_of (core_shapes core) core.slabs slab.cache (slab.first + index) ≡ true
  is_own slab index seat =
      let chunk = slab.first + index in
      passes_there (λ (item : SlabItem). eqb item.cache slab.cache && holds_chunk (core_shapes core) chunk item)
      core.slabs (its_item slab) (stands_in slab seat.stands)
      (and_from _ _ (eq-eqb slab.cache slab.cache refl) (holds_own slab index seat))

  -- and chunks of the core
  pub is_there : (slab : HeapSlab) (index : ℕ) → IsSeat setting state slab index
      → is_chunk_in core (slab.first + index) ≡ true
  is_there slab index seat =
      passes_there (λ (item : SlabItem). holds_chunk (core_shapes core) (slab.first + index) item) core.slabs
      (its_item slab) (stands_in slab seat.stands) (holds_own slab index seat)

  -- ---- rounds of a stock

  -- a cache that holds a round is one of the run
  pub cache_known : (cache chunk : ℕ) → Contains (held_rounds (stock_at places cache)) chunk
      → cache < cache_count setting
  cache_known cache chunk held = elim (cases_lt cache (cache_count setting)) [
    | inl lt ↦ lt
    | inr past ↦
        Contains-nil chunk
        (subst (λ (stock : Stock). Contains (held_rounds stock) chunk)
        (get_or_past places cache (empty_stock 0 0) (omega (arith, past, told.stocks.count))) held)
  ]

  -- the round is that of a free chunk of the cache
  pub is_free_round : (cache chunk : ℕ) → Contains (held_rounds (stock_at places cache)) chunk
      → IsFreeRound setting state cache chunk
  is_free_round cache chunk held = ((told.stocks.each cache (cache_known cache chunk held)).held chunk).0 held

  -- so it is a chunk of the cache in the core
  pub is_round_of : (cache chunk : ℕ) → Contains (held_rounds (stock_at places cache)) chunk
      → is_chunk_of (core_shapes core) core.slabs cache chunk ≡ true
  is_round_of cache chunk held =
      let free = is_free_round cache chunk held in
      let own = is_own free.slab free.index (seat_of setting state cache chunk free) in
      subst (λ (c : ℕ). is_chunk_of (core_shapes core) core.slabs c chunk ≡ true) free.its
      (subst (λ (n : ℕ). is_chunk_of (core_shapes core) core.slabs free.slab.cache n ≡ true) (sym free.number) own)

  -- no round stands in two caches
  pub one_cache : (one other chunk : ℕ) → Contains (held_rounds (stock_at places one)) chunk
      → Contains (held_rounds (stock_at places other)) chunk → one ≡ other
  one_cache one other chunk here there =
      let f = is_free_round one chunk here in
      let g = is_free_round other chunk there in
      let same : f.slab ≡ g.slab =
      number_one setting state told.good f.slab g.slab f.index g.index (seat_of setting state one chunk f)
      (seat_of setting state other chunk g) (sym f.number ∙ g.number) in
      sym f.its ∙ ap (λ (slab : HeapSlab). slab.cache) same ∙ g.its

  -- ---- what stands in a list

  -- what stands in a list of the core stands in one of a stock
  pub in_lists : (chunk : ℕ) → is_listed core.slabs chunk ≡ true
      → (cache : ℕ) × Contains (listed_rounds (stock_at places cache).slabs) chunk
  in_lists chunk listed =
      let found = some_passes (λ (item : SlabItem). has_number item.free chunk) core.slabs listed in
      let from = from_slab found.0 found.1 in
      let held : Contains (list_in places from.item) chunk =
      subst (λ (item : SlabItem). Contains item.free chunk) (sym from.is)
      (there_by_number found.0.free chunk found.2) in
      (from.item.cache, from_list (stock_at places from.item.cache).slabs from.item.first chunk held)

  -- and what stands in one of a stock stands in one of the core
  pub is_in_list : (cache chunk : ℕ) → Contains (listed_rounds (stock_at places cache).slabs) chunk
      → is_listed core.slabs chunk ≡ true
  is_in_list cache chunk held =
      let stock = stock_at places cache in
      let lt = cache_known cache chunk (listed_in stock chunk held) in
      let its = told.stocks.each cache lt in
      let piece = in_piece (λ (slab : Slab). slab.list) stock.slabs chunk held in
      let from = came_from setting cache state.slabs stock.slabs its.slabs piece.0 piece.1 in
      let first : piece.0.first ≡ from.slab.first = sym (ap (λ (slab : Slab). slab.first) from.is) in
      let found = found_first stock.slabs piece.0 from.slab.first its.sound.slabs piece.1 first in
      let list : list_in places from.slab ≡ piece.0.list =
      ap (λ (c : ℕ). list_of (find (λ (s : Slab). eqb s.first from.slab.first) (stock_at places c).slabs)) from.its
      ∙ ap list_of found in
      passes_there (λ (item : SlabItem). has_number item.free chunk) core.slabs (its_item from.slab)
      (stands_in from.slab from.stands)
      (number_there (list_in places from.slab) chunk (subst (λ (l : List ℕ). Contains l chunk) (sym list) piece.2))

  -- ---- what stands in a magazine

  -- a round of the core stands in a magazine of a stock
  pub in_magazines : (chunk : ℕ) → Contains (all_rounds_of core) chunk
      → (cache : ℕ) × Contains (magazine_rounds (stock_at places cache)) chunk
  in_magazines chunk held =
      let cpus = flat_map place_rounds core.cpu_places in
      elim (Contains-append_cases cpus (flat_map depot_rounds_of core.depots) chunk held) [
        | inl at ↦
            let its = subst (λ (l : List CpuPlace). Contains (flat_map place_rounds l) chunk) told.cpu_places at in
            let place = at_place places setting.header.cpus chunk its in
            (place.index % length places, place_in places place.index chunk place.there)
        | inr in' ↦
            let its = subst (λ (l : List DepotItem). Contains (flat_map depot_rounds_of l) chunk) told.depots in' in
            let depot = in_depot places chunk its in
            (depot.cache, depot_in (stock_at places depot.cache) chunk depot.there)
      ]

  -- what the magazines of the CPUs hold stands in the core
  cpus_there : (cache chunk : ℕ) → cache < cache_count setting
      → Contains (flat_map rounds_of_cpu (stock_at places cache).cpus) chunk
      → Contains (flat_map place_rounds core.cpu_places) chunk
  cpus_there cache chunk lt held =
      let stock = stock_at places cache in
      let caches = length places in
      let piece = in_piece rounds_of_cpu stock.cpus chunk held in
      let cpu = piece.1.0 in
      let below : cache < caches = omega (arith, lt, told.stocks.count) in
      let cpu_lt : cpu < setting.header.cpus = omega (arith, piece.1.1, (told.stocks.each cache lt).cpus) in
      let index = cpu * caches + cache in
      let its : get_or stock.cpus cpu empty_cpu ≡ piece.0 =
      get_or_default stock.cpus cpu empty_cpu piece.0 piece.1.1 ∙ piece.1.2 in
      let there : Contains (rounds_of_cpu (get_or stock.cpus cpu empty_cpu)) chunk =
      subst (λ (c : CpuStock). Contains (rounds_of_cpu c) chunk) (sym its) piece.2 in
      let placed : Contains (place_rounds (place_item places index)) chunk =
      subst (λ (k : ℕ). Contains (rounds_of_cpu (get_or (stock_at places k).cpus (index / caches) empty_cpu)) chunk)
      (sym (mod-mul-add cpu caches cache below))
      (subst (λ (k : ℕ). Contains (rounds_of_cpu (get_or stock.cpus k empty_cpu)) chunk)
      (sym (div-mul-add cpu caches cache below)) there) in
      let many = setting.header.cpus * caches in
      let within : index < many =
      subst (λ (n : ℕ). index < n) (mul_comm caches setting.header.cpus)
      (mul-add-lt cpu caches cache setting.header.cpus cpu_lt below) in
      let its_index = in_range 0 many index (omega arith) (omega arith) in
      let stands = Contains-mapped (place_item places) (range_with_len 0 many) index its_index in
      subst (λ (l : List CpuPlace). Contains (flat_map place_rounds l) chunk) (sym told.cpu_places)
      (in_whole place_rounds (place_items setting.header.cpus places) (place_item places index) chunk stands placed)

  -- and so does what the depots hold
  depots_there : (cache chunk : ℕ) → cache < cache_count setting
      → Contains (all_rounds (stock_at places cache).depot) chunk
      → Contains (flat_map depot_rounds_of core.depots) chunk
  depots_there cache chunk lt held =
      let below : cache < length places = omega (arith, lt, told.stocks.count) in
      let stands =
      Contains-mapped depot_of places (stock_at places cache) (Contains-get_or places cache (empty_stock 0 0) below) in
      subst (λ (l : List DepotItem). Contains (flat_map depot_rounds_of l) chunk) (sym told.depots)
      (in_whole depot_rounds_of (depot_items places) (depot_of (stock_at places cache)) chunk stands held)

  -- what the magazines of a stock hold stands in the core
  pub magazines_there : (cache chunk : ℕ) → Contains (magazine_rounds (stock_at places cache)) chunk
      → Contains (all_rounds_of core) chunk
  magazines_there cache chunk held =
      let stock = stock_at places cache in
      let lt = cache_known cache chunk (held_in stock chunk held) in
      elim (Contains-append_cases (flat_map rounds_of_cpu stock.cpus) (all_rounds stock.depot) chunk held) [
        | inl at ↦
            Contains-append_left (flat_map place_rounds core.cpu_places) (flat_map depot_rounds_of core.depots) chunk
            (cpus_there cache chunk lt at)
        | inr in' ↦
            Contains-append_right (flat_map place_rounds core.cpu_places) (flat_map depot_rounds_of core.depots) chunk
            (depots_there cache chunk lt in')
      ]

-- ---- a run and its places

-- what a core tells of a run and its places
pub are_told : (ledger : Ledger) (places : Places) (core : Core) → IsLedger ledger
    → ArePlacesOf (run_setting ledger) (run_state ledger) places → TellsPlaces ledger places core
    → AreTold (run_setting ledger) (run_state ledger) places core
are_told ledger places core is stocks tells =
    let setting = run_setting ledger in
    let header = is.plan.header in
    record {
      good = record {
        header = header;
        places = history_in_place setting ledger.entries header is.legal;
        rising =
            all_rising setting ledger.entries start_state
            (record { apart = λ i j d less lt. absurd (omega arith); below = λ k d lt. absurd (omega arith) });
      };
      stocks = stocks;
      items = tells.tells.slabs.exactly;
      cpus = tells.tells.numbers.cpus;
      cpu_places = tells.cpu_places;
      depots = tells.depots;
      count = caches_counted setting (grows_by_cache setting (run_state ledger)) core.caches tells.tells.caches;
      rounds =
          λ cache lt. ap (λ (shape : CacheShape). shape.rounds)
          (shape_told ledger core cache tells.tells.caches tells.tells.numbers.flags lt);
      magazine =
          λ cache lt. ap (λ (shape : CacheShape). shape.magazine)
          (shape_told ledger core cache tells.tells.caches tells.tells.numbers.flags lt);
    }
