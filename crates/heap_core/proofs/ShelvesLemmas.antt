-- The shelves of a heap as a list: one a cache, with the stock that the history leaves the cache.
use Rattle.std.proofs.Common.{◌≡◌, ℕ, suc, ◌%◌, ◌<◌, List, ◌++◌, drop, length, get_or, map, set, take, sym, ap, ◌∙◌, subst, arith}
use Rattle.std.proofs.lemmas.List.{get_or-map, get_or_default, length-map, map-set}
use Rattle.shelf.specs.Shelf.{Shelf}
use Rattle.shelf.specs.Steps.{put_on}
use Rattle.shelf.specs.Stock.{Stock, empty_stock}
use Rattle.shelf.proofs.Lists.{get_mapped, set_mapped}
use Rattle.heap_ledger.specs.Ledger.{Ledger, run_setting, run_state}
use Rattle.heap_accounts.specs.FreeChunks.{ArePlacesOf, IsStockOf}
use Rattle.heap_accounts.specs.Laws.{IsDecided}
use Rattle.heap_accounts.specs.Places.{Places, cache_count, stock_at, with_stock}
use Rattle.heap_accounts.proofs.HoldLemmas.{places_hold}
use Rattle.heap_core.specs.Heap.{AreShelvesOf, IsHeap, run_places}
use Rattle.heap_core.specs.Shelves.{HasCpus, reaped_shelf, stocks_of, with_round_back}

-- ---- a list of shelves

-- the stock of a cache is that of its shelf
pub stock_there : (shelves : List Shelf) (cache : ℕ) (shelf : Shelf) → cache < length shelves → shelf ≡ get_or shelves cache shelf → stock_at (stocks_of shelves) cache ≡ shelf.stock
stock_there shelves cache shelf within is =
    get_or-map (λ (s : Shelf). s.stock) shelves cache shelf (empty_stock 0 0) within ∙ ap (λ (s : Shelf). s.stock) (sym is)

-- one shelf in another's place changes the stock of its cache
pub stocks_set : (shelves : List Shelf) (cache : ℕ) (shelf : Shelf) → stocks_of (set shelves cache shelf) ≡ with_stock (stocks_of shelves) cache shelf.stock
stocks_set shelves cache shelf = map-set (λ (s : Shelf). s.stock) shelves cache shelf

-- a round was put on the shelf of a cache
pub shelf_put : (shelves : List Shelf) (cache thread round cpu : ℕ) (d now : Shelf) → cache < length shelves → cpu ≡ thread % length (get_or shelves cache d).stock.cpus
    → now.stock ≡ put_on (get_or shelves cache d).stock cpu round → stocks_of (set shelves cache now) ≡ with_round_back (stocks_of shelves) cache thread round
shelf_put shelves cache thread round cpu d now within runs is =
    let places = stocks_of shelves in
    let was = (get_or shelves cache d).stock in
    let there : stock_at places cache ≡ was = get_or-map (λ (s : Shelf). s.stock) shelves cache d (empty_stock 0 0) within in
    stocks_set shelves cache now
    ∙ ap (λ (s : Stock). with_stock places cache s)
    (is ∙ ap (λ c. put_on was c round) runs ∙ ap (λ (s : Stock). put_on s (thread % length s.cpus) round) (sym there))

-- one shelf more of those that a reap goes over
pub reaped_more : (shelves items : List Shelf) (i k : ℕ) (d now : Shelf) → items ≡ map reaped_shelf (take i shelves) ++ drop i shelves → k ≡ suc i → i < length shelves → now ≡ reaped_shelf (get_or items i d)
    → set items i now ≡ map reaped_shelf (take k shelves) ++ drop k shelves
reaped_more shelves items i k d now so_far next within is =
    let was = get_or shelves i d in
    let at : get_or items i d ≡ was = ap (λ (l : List Shelf). get_or l i d) so_far ∙ get_mapped reaped_shelf shelves i d in
    let there : was ≡ get_or shelves i was = get_or_default shelves i d was within in
    ap (λ (l : List Shelf). set l i now) so_far
    ∙ ap (set (map reaped_shelf (take i shelves) ++ drop i shelves) i) (is ∙ ap reaped_shelf at)
    ∙ set_mapped reaped_shelf shelves i k was next within there

-- ---- the shelves of a heap

-- the places of a heap hold the free chunks
pub heap_places : (ledger : Ledger) (shelves : List Shelf) → IsHeap ledger shelves → ArePlacesOf (run_setting ledger) (run_state ledger) (run_places ledger)
heap_places ledger shelves heap =
    let decided : IsDecided (run_setting ledger) ledger.entries = record { legal = heap.legal.legal; tidy = heap.legal.tidy; placed = heap.placed } in
    places_hold (run_setting ledger) ledger.entries heap.legal.plan.header decided heap.few

-- it has a shelf for each cache
pub shelf_count : (ledger : Ledger) (shelves : List Shelf) → IsHeap ledger shelves → length shelves ≡ cache_count (run_setting ledger)
shelf_count ledger shelves heap =
    sym (length-map shelves (λ (s : Shelf). s.stock)) ∙ ap (λ (l : Places). length l) heap.are ∙ (heap_places ledger shelves heap).count

-- which has the stock of the places
pub shelf_stock : (ledger : Ledger) (shelves : List Shelf) (cache : ℕ) (shelf : Shelf) → AreShelvesOf ledger shelves → cache < length shelves → shelf ≡ get_or shelves cache shelf → shelf.stock ≡ stock_at (run_places ledger) cache
shelf_stock ledger shelves cache shelf are within is =
    sym (stock_there shelves cache shelf within is) ∙ ap (λ (l : Places). stock_at l cache) are

-- so the shelf of a cache is sound, has its CPUs, and holds the free chunks of the cache
pub shelf_holds : (ledger : Ledger) (shelves : List Shelf) (cache : ℕ) (shelf : Shelf) → IsHeap ledger shelves → cache < length shelves → shelf ≡ get_or shelves cache shelf → IsStockOf (run_setting ledger) (run_state ledger) cache shelf.stock
shelf_holds ledger shelves cache shelf heap within is =
    let is_cache : cache < cache_count (run_setting ledger) = omega (arith, within, shelf_count ledger shelves heap) in
    subst (IsStockOf (run_setting ledger) (run_state ledger) cache) (sym (shelf_stock ledger shelves cache shelf heap.are within is))
    ((heap_places ledger shelves heap).each cache is_cache)

-- the shelves after one of them was changed are those of the places with its stock
pub shelves_set : (ledger : Ledger) (shelves : List Shelf) (cache : ℕ) (shelf : Shelf) → AreShelvesOf ledger shelves → stocks_of (set shelves cache shelf) ≡ with_stock (run_places ledger) cache shelf.stock
shelves_set ledger shelves cache shelf are =
    stocks_set shelves cache shelf ∙ ap (λ (l : Places). with_stock l cache shelf.stock) are

-- and it has CPUs, as many as the header says
pub cpus_there : (ledger : Ledger) (shelves : List Shelf) (cache : ℕ) → IsHeap ledger shelves → cache < cache_count (run_setting ledger)
    → (length (stock_at (run_places ledger) cache).cpus ≡ (run_setting ledger).header.cpus) × HasCpus (stock_at (run_places ledger) cache)
cpus_there ledger shelves cache heap known =
    let is = ((heap_places ledger shelves heap).each cache known).cpus in
    let few = heap.legal.plan.header.cpus in
    (is, record { some = omega (arith, is, few); few = omega (arith, is, few) })
