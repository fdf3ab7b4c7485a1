-- A core with places that fit tells the stocks which these are of, and so it pictures the run.
use Rattle.std.proofs.Common.{◌≡◌, ℕ, ◌*◌, ◌/◌, ◌%◌, ◌^◌, ◌<◌, eqb, List, [], ◌∷◌, length, map, get_or, Option, refl, sym, ap, ◌∙◌, subst, arith}
use Rattle.std.specs.Prelude.{Contains, find}
use Rattle.std.specs.Option.{option_map_or}
use Rattle.std.proofs.lemmas.Bool.{eq-eqb, eqb-true}
use Rattle.std.proofs.lemmas.List.{get_or-map, length-map, ext_get_or}
use Rattle.std.proofs.lemmas.List.FromFn.{fill_by_all, get_or-map-range_with_len}
use Rattle.std.proofs.lemmas.Nat.{div-add-mod', div_below, mod_below}
use Rattle.umem_base.proofs.Lists.{Contains-here, Contains-there}
use Rattle.core_format.specs.declared.items.CpuPlace.{CpuPlace}
use Rattle.core_format.specs.declared.items.DepotItem.{DepotItem}
use Rattle.core_format.specs.declared.items.SlabItem.{SlabItem}
use Rattle.core_format.specs.declared.whole.Core.{Core}
use Rattle.slab_layer.specs.Slab.{Slab}
use Rattle.shelf.specs.Stock.{CpuStock, Stock, empty_cpu, empty_stock}
use Rattle.plain_heap.specs.Setting.{Setting}
use Rattle.plain_heap.specs.State.{HeapSlab, State, next_chunk}
use Rattle.plain_heap.proofs.PlacesLemmas.{is_cache_of}
use Rattle.plain_heap.proofs.SettingLemmas.{geometry_in-sound}
use Rattle.plain_heap.proofs.SlabOfChunk.{find_alone}
use Rattle.heap_ledger.specs.Ledger.{IsLedger, Ledger, run_setting, run_state}
use Rattle.heap_accounts.specs.Places.{Places, cache_count, stock_at}
use Rattle.heap_accounts.proofs.FreeRoundLemmas.{IsGood, number_one}
use Rattle.heap_accounts.proofs.SlabLemmas.{Contains-from_mapped, Contains-mapped}
use Rattle.heap_pictures.specs.declared.free_places.FreePlaces.{FreePlaces}
use Rattle.heap_pictures.specs.Drawn.{list_at}
use Rattle.heap_pictures.specs.Items.{depot_items, list_in, place_item, place_items, slab_item}
use Rattle.heap_pictures.specs.Pictures.{AreSlabItems, DrawnWith, TellsPlaces}
use Rattle.heap_books.proofs.RunLemmas.{good_run}
use Rattle.heap_pictures.proofs.WholeLemmas.{pictures}
use Rattle.heap_books.specs.Fit.{FitRun, FittingPlacesPicture}
use Rattle.heap_books.proofs.StockLemmas.{cpu_at, from_slabs, in_slabs, its_slabs, no_depot, no_place, slab_at, stock_is, stocks_fit, stocks_for, stocks_many}

-- ---- lists of slabs

-- two functions that agree on the items of a list map it to one list
maps_agree : {X Y : Type 0} (f g : X → Y) (xs : List X) → ((x : X) → Contains xs x → f x ≡ g x) → map f xs ≡ map g xs
maps_agree f g [] agree = refl
maps_agree {X} {Y} f g (x ∷ xs) agree =
    ap (λ (y : Y). y ∷ map f xs) (agree x (Contains-here x xs))
    ∙ ap (λ (ys : List Y). g x ∷ ys) (maps_agree f g xs (λ y there. agree y (Contains-there x y xs there)))

-- where two functions give each slab that stands one list, the items of the slabs are one
pub slabs_agree : (setting : Setting) (state : State) (f g : HeapSlab → List ℕ) (items : List SlabItem)
    → ((slab : HeapSlab) → Contains state.slabs slab → f slab ≡ g slab)
    → AreSlabItems setting state f items → AreSlabItems setting state g items
slabs_agree setting state f g items agree are = record {
  rising = are.rising;
  exactly =
      subst (λ (l : List SlabItem). (item : SlabItem) → (Contains items item → Contains l item) × (Contains l item → Contains items item))
      (maps_agree (λ slab. slab_item setting state slab (f slab)) (λ slab. slab_item setting state slab (g slab)) state.slabs
      (λ slab stands. ap (slab_item setting state slab) (agree slab stands)))
      are.exactly;
}

-- ---- places

-- magazines by their parts
place_is : (place : CpuPlace) (cpu cache : ℕ) (its : CpuStock) → place.cpu ≡ cpu → place.cache ≡ cache
    → its ≡ record { loaded = place.loaded; previous = place.previous }
    → place ≡ record { cpu = cpu; cache = cache; loaded = its.loaded; previous = its.previous }
place_is place cpu cache its cpu_is cache_is is =
    ap {B = CpuPlace} (λ (n : ℕ). record { cpu = n; cache = place.cache; loaded = place.loaded; previous = place.previous }) cpu_is
    ∙ ap {B = CpuPlace} (λ (n : ℕ). record { cpu = cpu; cache = n; loaded = place.loaded; previous = place.previous }) cache_is
    ∙ ap {B = CpuPlace} (λ (s : CpuStock). record { cpu = cpu; cache = cache; loaded = s.loaded; previous = s.previous }) (sym is)

module _ (setting : Setting) (state : State) (places : FreePlaces) (good : IsGood setting state)
    (fit : FitRun setting state places) where
  -- ---- the list of a slab

  abbrev stocks : Places
  stocks = stocks_for setting state places

  -- a slab of the stock that begins with the first chunk of one is that one
  one_first : (slab : HeapSlab) (other : Slab) → Contains state.slabs slab
      → Contains (map (slab_at setting state places) (its_slabs state slab.cache)) other → other.first ≡ slab.first
      → other ≡ slab_at setting state places slab
  one_first slab other stands there same =
      let from = Contains-from_mapped (slab_at setting state places) (its_slabs state slab.cache) other there in
      let its = from_slabs state from.item slab.cache from.there in
      let some = λ (s : HeapSlab) (stood : Contains state.slabs s).
      (geometry_in-sound setting s.cache good.header (is_cache_of setting state.live state.slabs good.header good.places s stood)).rounds_many in
      let firsts : from.item.first ≡ slab.first = ap (λ (s : Slab). s.first) from.is ∙ same in
      let one : from.item ≡ slab =
      number_one setting state good from.item slab 0 0
      (record { stands = its.0; within = omega (arith, some from.item its.0) })
      (record { stands = stands; within = omega (arith, some slab stands) }) (omega (arith, firsts)) in
      sym from.is ∙ ap (slab_at setting state places) one

  list_same : (slab : HeapSlab) → Contains state.slabs slab → list_at places.lists slab.base ≡ list_in stocks slab
  list_same slab stands =
      let known = is_cache_of setting state.live state.slabs good.header good.places slab stands in
      let its = map (slab_at setting state places) (its_slabs state slab.cache) in
      let found =
      find_alone (λ (s : Slab). eqb s.first slab.first) its (slab_at setting state places slab)
      (Contains-mapped (slab_at setting state places) (its_slabs state slab.cache) slab (in_slabs state slab slab.cache stands refl))
      (eq-eqb slab.first slab.first refl)
      (λ other there passes. one_first slab other stands there (eqb-true other.first slab.first passes)) in
      sym (ap (λ (o : Option Slab). option_map_or (λ (s : Slab). s.list) o []) found)
      ∙ ap (λ (stock : Stock). option_map_or (λ (s : Slab). s.list) (find (λ (s : Slab). eqb s.first slab.first) stock.slabs) [])
      (sym (stock_is setting state places slab.cache known))

  -- ---- magazines

  -- the magazines at an index, by how many caches there are
  abbrev item_by : ℕ → ℕ → CpuPlace
  item_by caches index =
      let its = get_or (stock_at stocks (index % caches)).cpus (index / caches) empty_cpu in
      record { cpu = index / caches; cache = index % caches; loaded = its.loaded; previous = its.previous }

  item_is : (index : ℕ) → index < length places.cpu_places
      → get_or places.cpu_places index no_place ≡ item_by (cache_count setting) index
  item_is index lt =
      let caches = cache_count setting in
      let cache = index % caches in
      let cpu = index / caches in
      let some : 0 < caches = omega arith in
      let its = fit.cpu_places.each index no_place lt in
      let below : cpu < setting.header.cpus =
      div_below index caches setting.header.cpus some (subst (λ (n : ℕ). index < n) fit.cpu_places.many lt) in
      let held : get_or (stock_at stocks cache).cpus cpu empty_cpu ≡ cpu_at setting state places cache cpu =
      ap (λ (stock : Stock). get_or stock.cpus cpu empty_cpu) (stock_is setting state places cache (mod_below index caches some))
      ∙ get_or-map-range_with_len (cpu_at setting state places cache) 0 setting.header.cpus cpu cpu empty_cpu below (omega arith) in
      place_is (get_or places.cpu_places index no_place) cpu cache (get_or (stock_at stocks cache).cpus cpu empty_cpu) its.cpu its.cache
      (held
      ∙ ap {B = CpuStock} (λ (k : ℕ). record {
        loaded = (get_or places.cpu_places k no_place).loaded;
        previous = (get_or places.cpu_places k no_place).previous;
      }) (div-add-mod' index caches))

  cpu_places_same : places.cpu_places ≡ place_items setting.header.cpus stocks
  cpu_places_same =
      let count = stocks_many setting state places in
      let many : length places.cpu_places ≡ setting.header.cpus * length stocks =
      fit.cpu_places.many ∙ ap (λ (n : ℕ). setting.header.cpus * n) (sym count) in
      fill_by_all (place_item stocks) places.cpu_places (setting.header.cpus * length stocks) no_place many
      (λ k lt.
      subst (λ (n : ℕ). get_or places.cpu_places k no_place ≡ item_by n k) (sym count)
      (item_is k (subst (λ (n : ℕ). k < n) (sym many) lt)))

  -- ---- depots

  abbrev depot_of : Stock → DepotItem
  depot_of stock = record { full = stock.depot }

  depots_same : places.depots ≡ depot_items stocks
  depots_same =
      let count = stocks_many setting state places in
      let long : length places.depots ≡ length (depot_items stocks) = fit.depots.many ∙ sym count ∙ sym (length-map stocks depot_of) in
      ext_get_or no_depot places.depots (depot_items stocks) long (λ k lt.
      let known : k < cache_count setting = omega (arith, lt, fit.depots.many) in
      let within : k < length stocks = omega (arith, known, count) in
      sym (get_or-map depot_of stocks k (empty_stock 0 0) no_depot within ∙ ap depot_of (stock_is setting state places k known)))

-- ---- a run

-- a core that is drawn with the places tells their stocks
drawn_tells : (ledger : Ledger) (places : FreePlaces) (core : Core) → IsLedger ledger
    → FitRun (run_setting ledger) (run_state ledger) places → DrawnWith ledger places core
    → TellsPlaces ledger (stocks_for (run_setting ledger) (run_state ledger) places) core
drawn_tells ledger places core legal fit drawn =
    let setting = run_setting ledger in
    let state = run_state ledger in
    let good = good_run ledger legal in
    record {
      tells = record {
        numbers = drawn.tells.numbers;
        roots = drawn.tells.roots;
        caches = drawn.tells.caches;
        slabs =
            slabs_agree setting state (λ slab. list_at places.lists slab.base) (list_in (stocks_for setting state places))
            core.slabs (list_same setting state places good fit) drawn.tells.slabs;
        large = drawn.tells.large;
        logs = drawn.tells.logs;
      };
      cpu_places = drawn.cpu_places ∙ cpu_places_same setting state places good fit;
      depots = drawn.depots ∙ depots_same setting state places good fit;
    }

-- so it pictures the run
pub fitting_picture : FittingPlacesPicture
fitting_picture ledger places core legal options logging fit drawn =
    let setting = run_setting ledger in
    let state = run_state ledger in
    let small : next_chunk setting state < 2 ^ 32 = subst (λ (n : ℕ). n < 2 ^ 32) drawn.tells.numbers.next_chunk drawn.chunks in
    pictures ledger (stocks_for setting state places) core (record {
      legal = legal;
      options = options;
      logging = logging;
      entries = subst (λ (n : ℕ). n < 2 ^ 64) drawn.tells.numbers.entries drawn.entries;
      chunks = small;
      places = stocks_fit setting state places (good_run ledger legal) fit (omega (arith, small));
    }) (drawn_tells ledger places core legal fit drawn)
