-- What is read from the shelves of a heap gives a core the places of its history.
use Rattle.std.proofs.Common.{◌≡◌, ℕ, ◌^◌, ◌<◌, ◌↔◌, true, List, [], ◌∷◌, length, map, Option, eqb, refl, sym, ap, ◌∙◌, subst, arith, inl, inr}
use Rattle.std.specs.Prelude.{AllPairs, Contains}
use Rattle.std.specs.Option.{option_map_or}
use Rattle.std.proofs.lemmas.Bool.{eq-eqb, eqb-true}
use Rattle.std.proofs.lemmas.List.Elements.{All-contains_itself, All-from_get_or, All-weaker}
use Rattle.umem_base.proofs.Lists.{Contains-here, Contains-there}
use Rattle.umem_options.specs.Limits.{IsLogging, IsOptions}
use Rattle.script.specs.declared.tree.Header.{Header}
use Rattle.core_format.specs.declared.items.SlabItem.{SlabItem}
use Rattle.core_format.specs.declared.whole.Core.{Core}
use Rattle.slab_layer.specs.Slab.{Slab}
use Rattle.shelf.specs.Shelf.{Shelf}
use Rattle.shelf.specs.Stock.{Stock, empty_stock}
use Rattle.plain_heap.specs.Setting.{Setting}
use Rattle.plain_heap.specs.State.{HeapSlab, State}
use Rattle.plain_heap.proofs.PairsLemmas.{AllPairs-map, pair_of}
use Rattle.plain_heap.proofs.PlacesLemmas.{is_cache_of}
use Rattle.plain_heap.proofs.SeparateLemmas.{history_in_place}
use Rattle.plain_heap.proofs.SlabOfChunk.{find_alone}
use Rattle.heap_ledger.specs.declared.slab_at.SlabAt.{SlabAt}
use Rattle.heap_ledger.specs.Ledger.{Ledger, run_setting, run_state}
use Rattle.heap_slabs.specs.HeapSlabs.{AreStandingIn, heap_slab_at}
use Rattle.heap_accounts.specs.FreeChunks.{IsStockOf}
use Rattle.heap_accounts.specs.Places.{Places, cache_count, stock_at}
use Rattle.heap_accounts.proofs.SlabLemmas.{Contains-from_mapped, Contains-mapped, stands_for}
use Rattle.heap_pictures.specs.declared.free_list.FreeList.{FreeList}
use Rattle.heap_pictures.specs.declared.free_places.FreePlaces.{FreePlaces}
use Rattle.heap_pictures.specs.Drawn.{AreListsOf, list_at}
use Rattle.heap_pictures.specs.Items.{depot_items, list_in, place_items, slab_item}
use Rattle.heap_pictures.specs.Laws.{CanBePictured}
use Rattle.heap_pictures.specs.Pictures.{AreSlabItems, DrawnWith, TellsPlaces}
use Rattle.heap_core.specs.FreePlaces.{CanBeRead, free_list_in, list_from}
use Rattle.heap_core.specs.Heap.{IsHeap, run_places}
use Rattle.heap_core.specs.Shelves.{stocks_of}
use Rattle.heap_core.proofs.ReadLemmas.{base_alone, first_alone}
use Rattle.heap_core.proofs.ShelvesLemmas.{heap_places}

-- ---- lists of slabs

-- two functions that agree on the items of a list map it to one list
maps_agree : {X Y : Type 0} (f g : X → Y) (xs : List X) → ((x : X) → Contains xs x → f x ≡ g x) → map f xs ≡ map g xs
maps_agree f g [] agree = refl
maps_agree {X} {Y} f g (x ∷ xs) agree =
    ap (λ (y : Y). y ∷ map f xs) (agree x (Contains-here x xs))
    ∙ ap (λ (ys : List Y). g x ∷ ys) (maps_agree f g xs (λ y there. agree y (Contains-there x y xs there)))

-- where two functions give each slab that stands one list, the items of the slabs are one
slabs_agree : (setting : Setting) (state : State) (f g : HeapSlab → List ℕ) (items : List SlabItem)
    → ((slab : HeapSlab) → Contains state.slabs slab → f slab ≡ g slab)
    → AreSlabItems setting state f items → AreSlabItems setting state g items
slabs_agree setting state f g items agree are = record {
  rising = are.rising;
  exactly =
      subst (λ (l : List SlabItem). (item : SlabItem) → Contains items item ↔ Contains l item)
      (maps_agree (items_by f) (items_by g) state.slabs (λ slab stands. ap (slab_item setting state slab) (agree slab stands)))
      are.exactly;
}
  where
    items_by : (HeapSlab → List ℕ) → HeapSlab → SlabItem
    items_by lists slab = slab_item setting state slab (lists slab)

-- the lists of slabs by rising base rise by their bases, so the one of a slab is found at its base
list_there : (stocks : Places) (slabs : List SlabAt) (slab : SlabAt)
    → AllPairs (λ one other. one.base < other.base) slabs → Contains slabs slab
    → list_at (map (free_list_in stocks) slabs) slab.base ≡ list_from (stock_at stocks slab.cache) slab.base
list_there stocks slabs slab rising there =
    ap (λ (o : Option FreeList). option_map_or (λ (l : FreeList). l.chunks) o [])
    (find_alone (λ (l : FreeList). eqb l.base slab.base) lists its stands (eq-eqb slab.base slab.base refl) alone)
  where
    lists : List FreeList
    lists = map (free_list_in stocks) slabs

    its : FreeList
    its = free_list_in stocks slab

    stands : Contains lists its
    stands = Contains-mapped (free_list_in stocks) slabs slab there

    by_base : AllPairs (λ (a b : FreeList). a.base < b.base) lists
    by_base = AllPairs-map (λ (a b : FreeList). a.base < b.base) (free_list_in stocks) slabs rising

    alone : (other : FreeList) → Contains lists other → eqb other.base slab.base ≡ true → other ≡ its
    alone other found same =
        let equal : other.base ≡ slab.base = eqb-true other.base slab.base same in
        elim (pair_of (λ (a b : FreeList). a.base < b.base) lists other its by_base found stands) [
          | inl one ↦ one
          | inr (inl below) ↦ absurd (omega (arith, below, equal))
          | inr (inr above) ↦ absurd (omega (arith, above, equal))
        ]

-- in the stock of a cache, the slab at the base of one that stands is the one with its first chunk
list_by_first : (setting : Setting) (state : State) (stocks : Places) (slab : HeapSlab)
    → IsStockOf setting state slab.cache (stock_at stocks slab.cache) → Contains state.slabs slab
    → list_from (stock_at stocks slab.cache) slab.base ≡ list_in stocks slab
list_by_first setting state stocks slab is stands =
    let stock : Stock = stock_at stocks slab.cache in
    let its = stands_for setting slab.cache state.slabs stock.slabs is.slabs slab stands refl in
    let list : Option Slab → List ℕ = λ o. option_map_or (λ (s : Slab). s.list) o [] in
    let base : its.slab.base ≡ slab.base = ap (λ (s : Slab). s.base) its.is in
    let first : its.slab.first ≡ slab.first = ap (λ (s : Slab). s.first) its.is in
    let by_base = base_alone stock.slabs its.slab slab.base is.sound.slabs.bases its.there base in
    let by_first = first_alone stock.slabs its.slab slab.first is.sound.slabs its.there first in
    ap list by_base ∙ sym (ap list by_first)

-- ---- what is read of a heap

module _ (ledger : Ledger) (shelves : List Shelf) (slabs : List SlabAt) (heap : IsHeap ledger shelves)
    (rising : AllPairs (λ one other. one.base < other.base) slabs) (exactly : AreStandingIn (run_state ledger) slabs) where
  -- a slab of the list is one that stands, and of a cache that has a stock
  cache_known : (slab : SlabAt) → Contains slabs slab → slab.cache < length (run_places ledger)
  cache_known slab there =
      let from = Contains-from_mapped heap_slab_at (run_state ledger).slabs slab ((exactly slab).0 there) in
      let header = heap.legal.plan.header in
      let state = run_state ledger in
      let in_place = history_in_place (run_setting ledger) ledger.entries header heap.legal.legal in
      let known : from.item.cache < cache_count (run_setting ledger) =
      is_cache_of (run_setting ledger) state.live state.slabs header in_place from.item from.there in
      let same : from.item.cache ≡ slab.cache = ap (λ (s : SlabAt). s.cache) from.is in
      omega (arith, known, same, (heap_places ledger shelves heap).count)

  -- so its free places can be read
  pub can_be_read : CanBeRead ledger.plan.header.cpus (stocks_of shelves) slabs
  can_be_read =
      let places = heap_places ledger shelves heap in
      let none : Stock = empty_stock 0 0 in
      subst (λ (stocks : Places). CanBeRead ledger.plan.header.cpus stocks slabs) (sym heap.are) (record {
        few = omega (arith, places.count, heap.legal.plan.header.count);
        cpus =
            All-from_get_or (λ (s : Stock). length s.cpus ≡ ledger.plan.header.cpus) (run_places ledger) none
            (λ cache within. (places.each cache (omega (arith, within, places.count))).cpus);
        caches =
            All-weaker (Contains slabs) (λ (s : SlabAt). s.cache < length (run_places ledger)) cache_known slabs
            (All-contains_itself slabs);
      })

  -- there is one list for each slab that stands
  pub are_lists : (stocks : Places) → AreListsOf (run_state ledger) (map (free_list_in stocks) slabs)
  are_lists stocks = record {
    rising = AllPairs-map (λ (a b : FreeList). a.base < b.base) (free_list_in stocks) slabs rising;
    exactly = λ base. (stands base, listed base);
  }
    where
      base_of : FreeList → ℕ
      base_of list = list.base

      stands : (base : ℕ) → Contains (map (λ (l : FreeList). l.base) (map (free_list_in stocks) slabs)) base
          → Contains (map (λ (s : HeapSlab). s.base) (run_state ledger).slabs) base
      stands base there =
          let list = Contains-from_mapped (λ (l : FreeList). l.base) (map (free_list_in stocks) slabs) base there in
          let at = Contains-from_mapped (free_list_in stocks) slabs list.item list.there in
          let slab = Contains-from_mapped heap_slab_at (run_state ledger).slabs at.item ((exactly at.item).0 at.there) in
          let same : slab.item.base ≡ base =
          ap (λ (s : SlabAt). s.base) slab.is ∙ ap (λ (l : FreeList). l.base) at.is ∙ list.is in
          subst (Contains (map (λ (s : HeapSlab). s.base) (run_state ledger).slabs)) same
          (Contains-mapped (λ (s : HeapSlab). s.base) (run_state ledger).slabs slab.item slab.there)

      listed : (base : ℕ) → Contains (map (λ (s : HeapSlab). s.base) (run_state ledger).slabs) base
          → Contains (map (λ (l : FreeList). l.base) (map (free_list_in stocks) slabs)) base
      listed base there =
          let slab = Contains-from_mapped (λ (s : HeapSlab). s.base) (run_state ledger).slabs base there in
          let at : SlabAt = heap_slab_at slab.item in
          let known = (exactly at).1 (Contains-mapped heap_slab_at (run_state ledger).slabs slab.item slab.there) in
          subst (Contains (map (λ (l : FreeList). l.base) (map (free_list_in stocks) slabs))) slab.is
          (Contains-mapped (λ (l : FreeList). l.base) (map (free_list_in stocks) slabs) (free_list_in stocks at)
          (Contains-mapped (free_list_in stocks) slabs at known))

  -- the list at the base of a slab that stands is the one that the places of the run have
  pub list_is : (slab : HeapSlab) → Contains (run_state ledger).slabs slab
      → list_at (map (free_list_in (run_places ledger)) slabs) slab.base ≡ list_in (run_places ledger) slab
  list_is slab stands =
      let places = heap_places ledger shelves heap in
      let at : SlabAt = heap_slab_at slab in
      let there = (exactly at).1 (Contains-mapped heap_slab_at (run_state ledger).slabs slab stands) in
      let stock = places.each slab.cache (omega (arith, cache_known at there, places.count)) in
      list_there (run_places ledger) slabs at rising there
      ∙ list_by_first (run_setting ledger) (run_state ledger) (run_places ledger) slab stock stands

-- what is read of stocks, for so many CPUs and these slabs
pub record AreRead (cpus : ℕ) (stocks : Places) (slabs : List SlabAt) (places : FreePlaces) : Type 0 where
  pub cpu_places : places.cpu_places ≡ place_items cpus stocks
  pub depots : places.depots ≡ depot_items stocks
  pub lists : places.lists ≡ map (free_list_in stocks) slabs

-- what is read of the shelves that a heap shows, for the CPUs of the header that its books show
pub shown_read : (ledger : Ledger) (shelves shown : List Shelf) (header : Header) (slabs : List SlabAt) (places : FreePlaces)
    → header ≡ ledger.plan.header → shown ≡ shelves → AreRead header.cpus (stocks_of shown) slabs places
    → AreRead ledger.plan.header.cpus (stocks_of shelves) slabs places
shown_read ledger shelves shown header slabs places header_is shown_is read =
    subst (λ (h : Header). AreRead h.cpus (stocks_of shelves) slabs places) header_is
    (subst (λ (s : List Shelf). AreRead header.cpus (stocks_of s) slabs places) shown_is read)

module _ (ledger : Ledger) (shelves : List Shelf) (slabs : List SlabAt) (places : FreePlaces)
    (heap : IsHeap ledger shelves) (rising : AllPairs (λ one other. one.base < other.base) slabs)
    (exactly : AreStandingIn (run_state ledger) slabs)
    (read : AreRead ledger.plan.header.cpus (stocks_of shelves) slabs places) where
  lists_are : places.lists ≡ map (free_list_in (run_places ledger)) slabs
  lists_are = read.lists ∙ ap (λ (s : Places). map (free_list_in s) slabs) heap.are

  -- there is one list for each slab that stands
  pub lists_read : AreListsOf (run_state ledger) places.lists
  lists_read =
      subst (AreListsOf (run_state ledger)) (sym read.lists)
      (are_lists ledger shelves slabs heap rising exactly (stocks_of shelves))

  -- a core that is drawn with them tells the places of the run
  pub drawn_tells : (core : Core) → DrawnWith ledger places core → TellsPlaces ledger (run_places ledger) core
  drawn_tells core drawn = record {
    tells = record {
      numbers = drawn.tells.numbers;
      roots = drawn.tells.roots;
      caches = drawn.tells.caches;
      slabs =
          slabs_agree (run_setting ledger) (run_state ledger) list_of (list_in (run_places ledger)) core.slabs agree
          drawn.tells.slabs;
      large = drawn.tells.large;
      logs = drawn.tells.logs;
    };
    cpu_places = drawn.cpu_places ∙ read.cpu_places ∙ ap (place_items ledger.plan.header.cpus) heap.are;
    depots = drawn.depots ∙ read.depots ∙ ap depot_items heap.are;
  }
    where
      list_of : HeapSlab → List ℕ
      list_of slab = list_at places.lists slab.base

      agree : (slab : HeapSlab) → Contains (run_state ledger).slabs slab
          → list_of slab ≡ list_in (run_places ledger) slab
      agree slab stands =
          ap (λ (l : List FreeList). list_at l slab.base) lists_are
          ∙ list_is ledger shelves slabs heap rising exactly slab stands

  -- and the run can be pictured with them
  pub drawn_can : (core : Core) → IsOptions ledger.options → IsLogging ledger.logging → DrawnWith ledger places core
      → CanBePictured ledger (run_places ledger)
  drawn_can core options logging drawn = record {
    legal = heap.legal;
    options = options;
    logging = logging;
    entries = subst (λ (n : ℕ). n < 2 ^ 64) drawn.tells.numbers.entries drawn.entries;
    chunks = subst (λ (n : ℕ). n < 2 ^ 32) drawn.tells.numbers.next_chunk drawn.chunks;
    places = heap_places ledger shelves heap;
  }
