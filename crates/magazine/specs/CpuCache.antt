-- The two magazines of a CPU, and what the calls on them look at and leave.
use Rattle.std.specs.Prelude.{◌≡◌, ℕ, ◌<◌, ◌≤◌, List, [], ◌∷◌, ◌++◌, length, reverse}
use Rattle.std.specs.List.Sorted.{IsPermutation}
use Rattle.magazine.specs.Magazine.{Magazine}

-- their one size, and the rounds of the loaded and of the previous one, oldest first
pub record CpuCache : Type 0 where
  pub size : ℕ
  pub loaded : List ℕ
  pub previous : List ℕ

-- at least one round fits into each, and those in it do
pub record IsCpuCache (cpu : CpuCache) : Type 0 where
  pub some : 1 ≤ cpu.size
  pub loaded : length cpu.loaded ≤ cpu.size
  pub previous : length cpu.previous ≤ cpu.size

-- both magazines are empty
pub record AreEmpty (cpu : CpuCache) : Type 0 where
  pub loaded : cpu.loaded ≡ []
  pub previous : cpu.previous ≡ []

-- both magazines are full
pub record AreFull (cpu : CpuCache) : Type 0 where
  pub loaded : length cpu.loaded ≡ cpu.size
  pub previous : length cpu.previous ≡ cpu.size

-- the loaded magazine
abbrev pub loaded_magazine : CpuCache → Magazine
loaded_magazine cpu = record { size = cpu.size; rounds = cpu.loaded }

-- the previous magazine
abbrev pub previous_magazine : CpuCache → Magazine
previous_magazine cpu = record { size = cpu.size; rounds = cpu.previous }

-- another magazine is loaded, and the loaded one becomes the previous one
abbrev pub after_load : CpuCache → Magazine → CpuCache
after_load cpu magazine = record cpu { loaded = magazine.rounds; previous = cpu.loaded }

-- the newest round of the loaded magazine is taken
pub record TakesLoaded (old new : CpuCache) (round : ℕ) : Type 0 where
  pub size : new.size ≡ old.size
  pub loaded : old.loaded ≡ new.loaded ++ round ∷ []
  pub previous : new.previous ≡ old.previous

-- the loaded magazine is empty, so the two are exchanged, and the newest round of the other one is taken
pub record TakesExchanged (old new : CpuCache) (round : ℕ) : Type 0 where
  pub size : new.size ≡ old.size
  pub empty : old.loaded ≡ []
  pub loaded : old.previous ≡ new.loaded ++ round ∷ []
  pub previous : new.previous ≡ []

-- the loaded magazine is empty, and the newest round of the previous one is taken
pub record TakesPrevious (old new : CpuCache) (round : ℕ) : Type 0 where
  pub size : new.size ≡ old.size
  pub empty : old.loaded ≡ []
  pub loaded : new.loaded ≡ []
  pub previous : old.previous ≡ new.previous ++ round ∷ []

-- the round is pushed on the loaded magazine, where it fits
pub record PutsLoaded (old new : CpuCache) (round : ℕ) : Type 0 where
  pub size : new.size ≡ old.size
  pub fits : length old.loaded < old.size
  pub loaded : new.loaded ≡ old.loaded ++ round ∷ []
  pub previous : new.previous ≡ old.previous

-- the loaded magazine is full, so the two are exchanged, and the round is pushed on the other one, where it fits
pub record PutsExchanged (old new : CpuCache) (round : ℕ) : Type 0 where
  pub size : new.size ≡ old.size
  pub full : length old.loaded ≡ old.size
  pub fits : length old.previous < old.size
  pub loaded : new.loaded ≡ old.previous ++ round ∷ []
  pub previous : new.previous ≡ old.loaded

-- the rounds that a CPU holds
abbrev pub cpu_rounds : CpuCache → List ℕ
cpu_rounds cpu = cpu.loaded ++ cpu.previous

-- a round that the CPU held is taken, and it holds the others
abbrev pub LosesRound : CpuCache → CpuCache → ℕ → Type 0
LosesRound old new round = IsPermutation (cpu_rounds old) (round ∷ cpu_rounds new)

-- the CPU holds a round more
abbrev pub GainsRound : CpuCache → CpuCache → ℕ → Type 0
GainsRound old new round = IsPermutation (round ∷ cpu_rounds old) (cpu_rounds new)

-- the order in which the magazines are emptied: the loaded one first, and the newest round of each first
abbrev pub drain_order : CpuCache → List ℕ
drain_order cpu = reverse cpu.loaded ++ reverse cpu.previous
