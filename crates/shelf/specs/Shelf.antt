-- A shelf, and how its parts are seen.
use Rattle.std.specs.Prelude.{◌≡◌, ℕ, List, [], All, map}
use Rattle.slab_layer.specs.Slab.{Slab}
use Rattle.slab_layer.specs.Slabs.{Slabs}
use Rattle.magazine.specs.CpuCache.{CpuCache}
use Rattle.depot.specs.Depot.{Depot}
use Rattle.shelf.specs.Steps.{Reach}
use Rattle.shelf.specs.Stock.{CpuStock, IsStock, Stock}

-- the number of the cache, its rounds, and the spare: how many rounds one more slab may bring
pub record Shelf : Type 0 where
  pub cache : ℕ
  pub spare : ℕ
  pub stock : Stock

-- the rounds of a CPU's magazines
abbrev pub cpu_stock : CpuCache → CpuStock
cpu_stock cpu = record { loaded = cpu.loaded; previous = cpu.previous }

-- the magazines of the CPUs, each with its size
abbrev pub cpu_caches : Stock → List CpuCache
cpu_caches stock =
    map (λ cpu. record { size = stock.size; loaded = cpu.loaded; previous = cpu.previous }) stock.cpus

-- the stock that the parts of a shelf hold
abbrev pub stock_of : List CpuCache → Depot → List Slab → Stock
stock_of cpus depot slabs =
    record { size = depot.size; cpus = map cpu_stock cpus; depot = depot.full; slabs = slabs }

-- the magazines of a CPU without their rounds
abbrev pub emptied : CpuCache → CpuCache
emptied cpu = record { size = cpu.size; loaded = []; previous = [] }

-- all magazines have one size, and the stock is sound
pub record AreParts (cpus : List CpuCache) (depot : Depot) (slabs : List Slab) : Type 0 where
  pub sizes : All (λ cpu. cpu.size ≡ depot.size) cpus
  pub stock : IsStock (stock_of cpus depot slabs)

-- what a CPU reaches of them
abbrev pub reach_in : CpuCache → Depot → Slabs → Reach
reach_in cpu depot slabs = record { cpu = cpu_stock cpu; depot = depot.full; slabs = slabs.slabs }

-- the parts are as they were, but for the rounds in them
pub record KeepsSizes (was_cpu new_cpu : CpuCache) (was_depot new_depot : Depot) (was new : Slabs) : Type 0 where
  pub cpu : new_cpu.size ≡ was_cpu.size
  pub depot : new_depot.size ≡ was_depot.size
  pub slabs : new ≡ record was { slabs = new.slabs }
