-- What the calls on the magazines of all CPUs do, as steps on lists.
use Rattle.std.proofs.Common.{◌≡◌, ℕ, zero, suc, ◌<◌, ◌⊎◌, List, [], ◌∷◌, Option, Some, None, length, get_or, map, set, refl, ap, arith, inl, inr}
use Rattle.std.specs.Prelude.{All}
use Rattle.magazine.specs.CpuCache.{AreEmpty, CpuCache, TakesLoaded, TakesPrevious}
use Rattle.shelf.specs.Shelf.{cpu_stock}
use Rattle.shelf.specs.Steps.{InHand, from_cpu, from_cpus}
use Rattle.shelf.specs.Stock.{CpuStock}
use Rattle.shelf.proofs.StepsLemmas.{newest_of-push}

-- a round in hand, and what is left of a CPU's, or of all CPUs'
abbrev pub cpu_hand : ℕ → CpuStock → InHand CpuStock
cpu_hand chunk left = record { chunk = chunk; left = left }

abbrev pub cpus_hand : ℕ → List CpuStock → InHand (List CpuStock)
cpus_hand chunk left = record { chunk = chunk; left = left }

pub from_cpu-taken : (old new : CpuCache) (chunk : ℕ) → TakesLoaded old new chunk ⊎ TakesPrevious old new chunk → from_cpu (cpu_stock old) ≡ Some (cpu_hand chunk (cpu_stock new))
from_cpu-taken old new chunk takes =
    elim takes [
      | inl loaded ↦ rw (loaded.loaded, newest_of-push new.loaded chunk, loaded.previous) refl
      | inr previous ↦ rw (previous.empty, previous.previous, newest_of-push new.previous chunk, previous.loaded) refl
    ]

pub from_cpu-empty : (cpu : CpuCache) → AreEmpty cpu → from_cpu (cpu_stock cpu) ≡ None
from_cpu-empty cpu empty = rw (empty.loaded, empty.previous) refl

-- the CPUs before one hold none
pub from_cpus-at : (cpus : List CpuCache) (i : ℕ) (old new : CpuCache) (chunk : ℕ) → i < length cpus → old ≡ get_or cpus i old → ((k : ℕ) (d : CpuCache) → k < i → AreEmpty (get_or cpus k d)) → from_cpu (cpu_stock old) ≡ Some (cpu_hand chunk (cpu_stock new)) → from_cpus (map cpu_stock cpus) ≡ Some (cpus_hand chunk (map cpu_stock (set cpus i new)))
from_cpus-at [] i old new chunk lt is empty found = absurd (omega arith)
from_cpus-at (cpu ∷ cpus) zero old new chunk lt is empty found =
    let here : from_cpu (cpu_stock cpu) ≡ Some (cpu_hand chunk (cpu_stock new)) = rw is at found in
    rw here refl
from_cpus-at (cpu ∷ cpus) (suc i) old new chunk lt is empty found =
    rw (from_cpu-empty cpu (empty 0 cpu (omega arith)), from_cpus-at cpus i old new chunk (omega arith) is (λ k d less. empty (suc k) d (omega arith)) found) refl

pub from_cpus-none : (cpus : List CpuCache) → All AreEmpty cpus → from_cpus (map cpu_stock cpus) ≡ None
from_cpus-none [] empty = refl
from_cpus-none (cpu ∷ cpus) empty =
    rw (from_cpu-empty cpu (empty 0 cpu (omega arith)), from_cpus-none cpus (λ k d lt. empty (suc k) d (omega arith))) refl

pub size-taken : (old new : CpuCache) (chunk : ℕ) → TakesLoaded old new chunk ⊎ TakesPrevious old new chunk → new.size ≡ old.size
size-taken old new chunk takes = elim takes [ inl loaded ↦ loaded.size | inr previous ↦ previous.size ]
