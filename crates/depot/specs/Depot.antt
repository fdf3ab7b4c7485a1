-- The full magazines of a depot, and its trades.
use Rattle.std.specs.Prelude.{◌≡◌, ◌≢◌, ℕ, ◌+◌, ◌≤◌, ◌⊎◌, List, [], ◌∷◌, ◌++◌, All, length, map}
use Rattle.std.specs.List.{flat_map}
use Rattle.std.specs.List.Sorted.{IsPermutation}
use Rattle.magazine.specs.CpuCache.{CpuCache, cpu_rounds}
use Rattle.magazine.specs.Magazine.{Magazine}
use Rattle.depot.specs.declared.depot.TheConstants.{MAGAZINES}

-- the size of its eight magazines, and the rounds of each full one, oldest in the depot first; the others are empty
pub record Depot : Type 0 where
  pub size : ℕ
  pub full : List (List ℕ)

-- at most eight are full, each of them to its last round
pub record IsDepot (depot : Depot) : Type 0 where
  pub some : 1 ≤ depot.size
  pub few : length depot.full ≤ MAGAZINES
  pub filled : All (λ rounds. length rounds ≡ depot.size) depot.full

-- the rounds of magazines
abbrev pub rounds_of_each : List Magazine → List (List ℕ)
rounds_of_each magazines = map (λ magazine. magazine.rounds) magazines

-- the full magazines
abbrev pub full_magazines : Depot → List Magazine
full_magazines depot = map (λ rounds. record { size = depot.size; rounds = rounds }) depot.full

-- a full magazine of a size
abbrev pub IsFullOf : ℕ → Magazine → Type 0
IsFullOf size magazine = (magazine.size ≡ size) × (length magazine.rounds ≡ size)

-- an empty magazine of a size
abbrev pub IsEmptyOf : ℕ → Magazine → Type 0
IsEmptyOf size magazine = (magazine.size ≡ size) × (magazine.rounds ≡ [])

-- eight magazines stand in two lists, the full and the empty ones, and each list has room for so many more
pub record AreMagazines (size : ℕ) (full : List Magazine) (room : ℕ) (empty : List Magazine) (spare : ℕ) : Type 0 where
  pub some : 1 ≤ size
  pub count : length full + length empty ≡ MAGAZINES
  pub room_is : length full + room ≡ MAGAZINES
  pub spare_is : length empty + spare ≡ MAGAZINES
  pub filled : All (IsFullOf size) full
  pub emptied : All (IsEmptyOf size) empty

-- the newest full magazine goes to the CPU, whose two are empty, and an empty one comes back
pub record TradesForFull (old new : Depot) (before after : CpuCache) : Type 0 where
  pub size : new.size ≡ old.size
  pub full : old.full ≡ new.full ++ after.loaded ∷ []
  pub cpu_size : after.size ≡ before.size
  pub previous : after.previous ≡ before.loaded

-- an empty magazine goes to the CPU, whose two are full, and its previous one comes back as the newest
pub record TradesForEmpty (old new : Depot) (before after : CpuCache) : Type 0 where
  pub size : new.size ≡ old.size
  pub full : new.full ≡ old.full ++ before.previous ∷ []
  pub cpu_size : after.size ≡ before.size
  pub loaded : after.loaded ≡ []
  pub previous : after.previous ≡ before.loaded

-- there is no full magazine to trade: none is full, or they have another size
abbrev pub HasNoFull : Depot → CpuCache → Type 0
HasNoFull depot cpu = (depot.full ≡ []) ⊎ (depot.size ≢ cpu.size)

-- there is no empty magazine to trade: all are full, or they have another size
abbrev pub HasNoEmpty : Depot → CpuCache → Type 0
HasNoEmpty depot cpu = (length depot.full ≡ MAGAZINES) ⊎ (depot.size ≢ cpu.size)

-- the rounds that the full magazines hold
abbrev pub depot_rounds : Depot → List ℕ
depot_rounds depot = flat_map (λ rounds. rounds) depot.full

-- a trade loses no round and makes none up
abbrev pub TradesRounds : Depot → Depot → CpuCache → CpuCache → Type 0
TradesRounds old new before after =
    IsPermutation (depot_rounds old ++ cpu_rounds before) (depot_rounds new ++ cpu_rounds after)
