-- The rounds of a cache as plain lists of chunk numbers, each in the place that holds it.
use Rattle.std.specs.Prelude.{◌≡◌, ◌≢◌, ℕ, ◌≤◌, Bool, List, [], ◌++◌, All, AllPairs, Any, Contains, length, map, replicate, ◌==◌}
use Rattle.std.specs.List.{flat_map, list_any}
use Rattle.slab_layer.specs.Slab.{HasChunk, Slab}
use Rattle.slab_layer.specs.Slabs.{AreSlabs, listed_rounds}
use Rattle.depot.specs.declared.depot.TheConstants.{MAGAZINES}

-- the rounds in the two magazines of a CPU, oldest first
pub record CpuStock : Type 0 where
  pub loaded : List ℕ
  pub previous : List ℕ

-- how many rounds fit into a magazine; what each CPU holds; the full magazines of the depot, oldest there first, the
-- others of the eight being empty; and the slabs in the order of their chunks
pub record Stock : Type 0 where
  pub size : ℕ
  pub cpus : List CpuStock
  pub depot : List (List ℕ)
  pub slabs : List Slab

-- a CPU that holds none
abbrev pub empty_cpu : CpuStock
empty_cpu = record { loaded = []; previous = [] }

-- so many CPUs, and no round anywhere
abbrev pub empty_stock : ℕ → ℕ → Stock
empty_stock size cpus = record { size = size; cpus = replicate cpus empty_cpu; depot = []; slabs = [] }

-- the rounds that a CPU holds
abbrev pub rounds_of_cpu : CpuStock → List ℕ
rounds_of_cpu cpu = cpu.loaded ++ cpu.previous

-- the rounds in magazines, those of the CPUs and those of the depot
abbrev pub magazine_rounds : Stock → List ℕ
magazine_rounds stock = flat_map rounds_of_cpu stock.cpus ++ flat_map (λ rounds. rounds) stock.depot

-- all rounds that stand anywhere
abbrev pub held_rounds : Stock → List ℕ
held_rounds stock = magazine_rounds stock ++ listed_rounds stock.slabs

-- whether the chunk's round stands anywhere
abbrev pub has_round : Stock → ℕ → Bool
has_round stock chunk = list_any (λ other. other == chunk) (held_rounds stock)

-- the chunk is one of a slab's, and its round stands nowhere
pub record IsOut (stock : Stock) (chunk : ℕ) : Type 0 where
  pub known : Any (HasChunk chunk) stock.slabs
  pub out : ¬ Contains (held_rounds stock) chunk

-- rounds in hand: each is that of a chunk of a slab, and none stands anywhere or is there twice
pub record AreOut (stock : Stock) (rounds : List ℕ) : Type 0 where
  pub known : All (λ chunk. Any (HasChunk chunk) stock.slabs) rounds
  pub distinct : AllPairs (λ one other. one ≢ other) (rounds ++ held_rounds stock)

-- a slab as it stands, whatever is in its list
abbrev pub bare_slab : Slab → Slab
bare_slab slab = record slab { list = [] }

-- the slabs as they stand
abbrev pub standing : List Slab → List Slab
standing slabs = map bare_slab slabs

-- there are as many CPUs, magazines have their size, and the same slabs stand
pub record KeepsShape (old new : Stock) : Type 0 where
  pub size : new.size ≡ old.size
  pub cpus : length new.cpus ≡ length old.cpus
  pub slabs : standing new.slabs ≡ standing old.slabs

-- no more rounds are in the magazines of a CPU than fit
pub record FitsCpu (size : ℕ) (cpu : CpuStock) : Type 0 where
  pub loaded : length cpu.loaded ≤ size
  pub previous : length cpu.previous ≤ size

-- magazines have room and no more rounds than fit; at most eight are full in the depot, each to its last round; the
-- slabs are sound; and each round is that of a chunk of theirs and stands once
pub record IsStock (stock : Stock) : Type 0 where
  pub some : 1 ≤ stock.size
  pub cpus : All (FitsCpu stock.size) stock.cpus
  pub few : length stock.depot ≤ MAGAZINES
  pub filled : All (λ rounds. length rounds ≡ stock.size) stock.depot
  pub slabs : AreSlabs stock.slabs
  pub distinct : AllPairs (λ one other. one ≢ other) (held_rounds stock)
  pub own : All (λ chunk. Any (HasChunk chunk) stock.slabs) (held_rounds stock)
