-- Where the free chunks of a heap stand, as it reads them from its shelves.
use Rattle.std.specs.Prelude.{◌≡◌, ℕ, ◌^◌, ◌<◌, ◌==◌, List, [], All, find, length, slice_index_or}
use Rattle.std.specs.Option.{option_map_or}
use Rattle.core_format.specs.declared.items.CpuPlace.{CpuPlace}
use Rattle.shelf.specs.Stock.{Stock, empty_cpu}
use Rattle.heap_ledger.specs.declared.slab_at.SlabAt.{SlabAt}
use Rattle.heap_accounts.specs.Places.{Places, stock_at}
use Rattle.heap_pictures.specs.declared.free_list.FreeList.{FreeList}

-- the stocks are few, each has so many CPUs, and there is one for the cache of each of these slabs
pub record CanBeRead (count : ℕ) (places : Places) (slabs : List SlabAt) : Type 0 where
  pub few : length places < 2 ^ 32
  pub cpus : All (λ stock. length stock.cpus ≡ count) places
  pub caches : All (λ slab. slab.cache < length places) slabs

-- the magazines of a CPU in the stock of a cache
abbrev pub magazines_in : ℕ → ℕ → Stock → CpuPlace
magazines_in cpu cache stock =
    let its = slice_index_or stock.cpus cpu empty_cpu in
    record { cpu = cpu; cache = cache; loaded = its.loaded; previous = its.previous }

-- the list of the slab at a base in a stock; it is empty where no slab begins there
abbrev pub list_from : Stock → ℕ → List ℕ
list_from stock base = option_map_or (λ its. its.list) (find (λ its. its.base == base) stock.slabs) []

-- the list of a slab in the stock of its cache, with the base of the slab
abbrev pub free_list_in : Places → SlabAt → FreeList
free_list_in places slab = record { base = slab.base; chunks = list_from (stock_at places slab.cache) slab.base }
