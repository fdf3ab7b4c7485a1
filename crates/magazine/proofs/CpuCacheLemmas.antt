-- A round that comes or goes leaves the others as they were, in some order.
use Rattle.std.proofs.Common.{◌≡◌, ℕ, ◌⊎◌, List, [], ◌∷◌, ◌++◌, Option, Some, None, IfSome, MatchOption, ⊎_elim, append_assoc}
use Rattle.std.specs.List.Sorted.{IsPermutation}
use Rattle.std.proofs.lemmas.List.{append-nil}
use Rattle.std.proofs.lemmas.List.Sorted.{IsPermutation-append_comm, IsPermutation-cons, IsPermutation-middle, IsPermutation-sym, IsPermutation-to_front, IsPermutation-trans}
use Rattle.magazine.specs.CpuCache.{AreEmpty, AreFull, CpuCache, GainsRound, LosesRound, PutsExchanged, PutsLoaded, TakesExchanged, TakesLoaded, TakesPrevious}
use Rattle.magazine.specs.Need.{MatchNeed}
use Rattle.magazine.specs.Room.{MatchRoom}
use Rattle.magazine.specs.declared.need.Need.{Need}
use Rattle.magazine.specs.declared.need.Need.TheVariants.{Got, WantFull}
use Rattle.magazine.specs.declared.room.Room.{Room}
use Rattle.magazine.specs.declared.room.Room.TheVariants.{Kept, WantEmpty}

-- the last element of the first of two lists comes to the front
last_to_front : (xs ys : List ℕ) (x : ℕ) → IsPermutation ((xs ++ x ∷ []) ++ ys) (x ∷ (xs ++ ys))
last_to_front xs ys x = rw append_assoc (IsPermutation-middle xs x ys)

pub IsPermutation-TakesLoaded : {old new : CpuCache} {round : ℕ} → TakesLoaded old new round → LosesRound old new round
IsPermutation-TakesLoaded {old} {new} {round} takes = rw (takes.loaded, takes.previous) (last_to_front new.loaded old.previous round)

pub IsPermutation-TakesExchanged : {old new : CpuCache} {round : ℕ} → TakesExchanged old new round → LosesRound old new round
IsPermutation-TakesExchanged {old} {new} {round} takes =
    rw (takes.empty, takes.loaded, takes.previous, append-nil) (IsPermutation-to_front new.loaded round)

pub IsPermutation-TakesPrevious : {old new : CpuCache} {round : ℕ} → TakesPrevious old new round → LosesRound old new round
IsPermutation-TakesPrevious {old} {new} {round} takes =
    rw (takes.empty, takes.previous, takes.loaded) (IsPermutation-to_front new.previous round)

pub IsPermutation-PutsLoaded : {old new : CpuCache} {round : ℕ} → PutsLoaded old new round → GainsRound old new round
IsPermutation-PutsLoaded {old} {new} {round} puts =
    rw (puts.loaded, puts.previous) (IsPermutation-sym _ _ (last_to_front old.loaded old.previous round))

pub IsPermutation-PutsExchanged : {old new : CpuCache} {round : ℕ} → PutsExchanged old new round → GainsRound old new round
IsPermutation-PutsExchanged {old} {new} {round} puts =
    rw (puts.loaded, puts.previous)
    (IsPermutation-trans _ _ _
    (IsPermutation-cons round _ _ (IsPermutation-append_comm old.loaded old.previous))
    (IsPermutation-sym _ _ (last_to_front old.previous old.loaded round)))

-- the same by the answers of `alloc`, `free` and `take_any`
pub holds_for_need : (need : Need) (old new : CpuCache) → MatchNeed need (λ round. TakesLoaded old new round ⊎ TakesExchanged old new round) (AreEmpty old × (new ≡ old)) → MatchNeed need (LosesRound old new) (new ≡ old)
holds_for_need (Got round) old new takes = ⊎_elim IsPermutation-TakesLoaded IsPermutation-TakesExchanged takes
holds_for_need WantFull old new empty = empty.1

pub holds_for_room : (room : Room) (old new : CpuCache) (round : ℕ) → MatchRoom room (PutsLoaded old new round ⊎ PutsExchanged old new round) (λ back. AreFull old × (back ≡ round) × (new ≡ old)) → MatchRoom room (GainsRound old new round) (λ _. new ≡ old)
holds_for_room Kept old new round puts = ⊎_elim IsPermutation-PutsLoaded IsPermutation-PutsExchanged puts
holds_for_room (WantEmpty back) old new round full = full.2

pub holds_for_option : (taken : Option ℕ) (old new : CpuCache) → MatchOption taken (AreEmpty old × (new ≡ old)) (λ round. TakesLoaded old new round ⊎ TakesPrevious old new round) → IfSome taken (LosesRound old new)
holds_for_option (Some round) old new takes = ⊎_elim IsPermutation-TakesLoaded IsPermutation-TakesPrevious takes
holds_for_option None old new empty = tt
