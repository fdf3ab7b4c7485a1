-- What calls do to the shelves of a heap.
use Rattle.std.specs.Prelude.{◌≡◌, ℕ, ◌%◌, ◌^◌, ◌<◌, ◌≤◌, List, length, map}
use Rattle.shelf.specs.Shelf.{Shelf}
use Rattle.shelf.specs.Steps.{put_on}
use Rattle.shelf.specs.Stock.{IsOut, Stock, empty_stock}
use Rattle.plain_heap.specs.Setting.{Setting, geometry_in}
use Rattle.heap_ledger.specs.Ledger.{Ledger}
use Rattle.heap_accounts.specs.Places.{Places, reaped, stock_at, with_stock}
use Rattle.heap_core.specs.Heap.{IsHeap}

-- the stocks of some shelves, by the number of the cache
abbrev pub stocks_of : List Shelf → Places
stocks_of shelves = map (λ shelf. shelf.stock) shelves

-- each of these shelves is one of the caches of a setting, and holds nothing
abbrev pub AreFirstShelves : Setting → List Shelf → Type 0
AreFirstShelves setting shelves =
    (cache : ℕ) → cache < length shelves
    → stock_at (stocks_of shelves) cache ≡ empty_stock (geometry_in setting cache).magazine setting.header.cpus

-- a shelf has CPUs, and few of them
pub record HasCpus (stock : Stock) : Type 0 where
  pub some : 1 ≤ length stock.cpus
  pub few : length stock.cpus < 2 ^ 32

-- the round of a chunk may be put on the shelf of a cache
pub record CanPut (shelves : List Shelf) (cache round : ℕ) : Type 0 where
  pub there : cache < length shelves
  pub cpus : HasCpus (stock_at (stocks_of shelves) cache)
  pub out : IsOut (stock_at (stocks_of shelves) cache) round

-- the places with a round more in the stock of a cache, after a free of a thread
abbrev pub with_round_back : Places → ℕ → ℕ → ℕ → Places
with_round_back places cache thread round =
    let stock = stock_at places cache in
    with_stock places cache (put_on stock (thread % length stock.cpus) round)

-- the shelf of a cache after a reap
abbrev pub reaped_shelf : Shelf → Shelf
reaped_shelf shelf = record shelf { stock = reaped shelf.stock }

-- what is a heap with some shelves, is one with the same afterwards
abbrev pub KeepsHeap : Ledger → Ledger → Type 0
KeepsHeap old new = (shelves : List Shelf) → IsHeap old shelves → IsHeap new shelves
