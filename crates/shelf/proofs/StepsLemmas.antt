-- What the calls on magazines, depot and slabs do, as steps on lists.
use Rattle.std.proofs.Common.{◌≡◌, ℕ, suc, false, ◌≤◌, ◌⊎◌, List, [], ◌∷◌, ◌++◌, Option, Some, None, MatchOption, length, min, refl, sym, ap, ◌∙◌, arith, ⊎_elim, inl, inr}
use Rattle.std.specs.Prelude.{All, IfSome, is_some}
use Rattle.std.specs.Option.{option_map_or}
use Rattle.std.proofs.lemmas.List.Elements.{All-pop}
use Rattle.umem_base.specs.Ordered.{split_newest}
use Rattle.umem_base.proofs.OrderedLemmas.{split_newest-push}
use Rattle.slab_layer.specs.Slabs.{IsLowestRound, Slabs, listed_rounds, without_round}
use Rattle.magazine.specs.CpuCache.{AreEmpty, CpuCache, TakesExchanged, TakesLoaded, TakesPrevious}
use Rattle.depot.specs.Depot.{Depot, HasNoFull, IsDepot, TradesForFull}
use Rattle.shelf.specs.Shelf.{reach_in}
use Rattle.shelf.specs.Steps.{InHand, Reach, chunk_in, exchanged, from_behind, from_loaded, from_slabs, left_in, lowest_of, newest_of, taken_in, traded_full}
use Rattle.shelf.specs.Stock.{CpuStock}

-- a round in hand, and what is left of what a CPU reaches
abbrev pub hand : ℕ → Reach → InHand Reach
hand chunk left = record { chunk = chunk; left = left }

-- ---- the newest and the lowest

pub newest_of-push : (rounds : List ℕ) (chunk : ℕ) → newest_of (rounds ++ chunk ∷ []) ≡ Some (record { chunk = chunk; left = rounds })
newest_of-push rounds chunk = rw (split_newest-push rounds chunk) refl

lowest_bound : (low first : ℕ) (chunks : List ℕ) → low ≤ first → All (λ other. low ≤ other) chunks → low ≤ option_map_or (λ other. min first other) (lowest_of chunks) first
lowest_bound low first [] le all = le
lowest_bound low first (chunk ∷ chunks) le all =
    let rest = lowest_bound low chunk chunks (all 0 chunk (omega arith)) (λ k d lt. all (suc k) d (omega arith)) in
    omega arith

-- the first of numbers of which none is lower
pub lowest_is_first : (first : ℕ) (chunks : List ℕ) → All (λ other. first ≤ other) chunks → option_map_or (λ other. min first other) (lowest_of chunks) first ≡ first
lowest_is_first first [] all = refl
lowest_is_first first (chunk ∷ chunks) all =
    let bound = lowest_bound first chunk chunks (all 0 chunk (omega arith)) (λ k d lt. all (suc k) d (omega arith)) in
    omega arith

pub lowest_of-first : (first : ℕ) (chunks : List ℕ) → All (λ other. first ≤ other) chunks → lowest_of (first ∷ chunks) ≡ Some first
lowest_of-first first chunks all = ap (λ (n : ℕ). let o : Option ℕ = Some n in o) (lowest_is_first first chunks all)

-- ---- from the magazines of a CPU

pub from_loaded-newest : (reach : Reach) (rest : List ℕ) (chunk : ℕ) → reach.cpu.loaded ≡ rest ++ chunk ∷ [] → from_loaded reach ≡ Some (hand chunk (record reach { cpu = record { loaded = rest; previous = reach.cpu.previous } }))
from_loaded-newest reach rest chunk last = rw (last, newest_of-push rest chunk) refl

pub from_loaded-empty : (reach : Reach) → reach.cpu.loaded ≡ [] → from_loaded reach ≡ None
from_loaded-empty reach empty = rw empty refl

taken_in-loaded : (old new : CpuCache) (depot : Depot) (slabs : Slabs) (chunk : ℕ) → TakesLoaded old new chunk → taken_in (reach_in old depot slabs) ≡ Some (hand chunk (reach_in new depot slabs))
taken_in-loaded old new depot slabs chunk takes =
    rw (from_loaded-newest (reach_in old depot slabs) new.loaded chunk takes.loaded, takes.previous) refl

taken_in-exchanged : (old new : CpuCache) (depot : Depot) (slabs : Slabs) (chunk : ℕ) → TakesExchanged old new chunk → taken_in (reach_in old depot slabs) ≡ Some (hand chunk (reach_in new depot slabs))
taken_in-exchanged old new depot slabs chunk takes =
    rw (from_loaded-empty (reach_in old depot slabs) takes.empty, from_loaded-newest (exchanged (reach_in old depot slabs)) new.loaded chunk takes.loaded, takes.empty, takes.previous) refl

pub taken_in-got : (old new : CpuCache) (depot : Depot) (slabs : Slabs) (chunk : ℕ) → TakesLoaded old new chunk ⊎ TakesExchanged old new chunk → taken_in (reach_in old depot slabs) ≡ Some (hand chunk (reach_in new depot slabs))
taken_in-got old new depot slabs chunk takes =
    elim takes [
      | inl loaded ↦ taken_in-loaded old new depot slabs chunk loaded
      | inr previous ↦ taken_in-exchanged old new depot slabs chunk previous
    ]

-- ---- from behind the CPU

-- what a call gave and left is what a step says
pub record IsStep (all : Reach) (taken : Option (InHand Reach)) (result : Option ℕ) (left : Reach) : Type 0 where
  pub round : result ≡ chunk_in taken
  pub now : left ≡ left_in all taken

traded_full-trade : (old new : Depot) (before after : CpuCache) (slabs : Slabs) → TradesForFull old new before after → traded_full (reach_in before old slabs) ≡ reach_in after new slabs
traded_full-trade old new before after slabs trade =
    rw (trade.full, split_newest-push new.full after.loaded, trade.previous) refl

-- a magazine that came from the depot has rounds
not_empty : (old new : Depot) (before after : CpuCache) → IsDepot old → TradesForFull old new before after → after.loaded ≡ [] → ⊥
not_empty old new before after sound trade empty =
    let filled = All-pop (λ (rounds : List ℕ). length rounds ≡ old.size) old.full new.full (Some after.loaded) trade.full sound.filled in
    let size : length after.loaded ≡ old.size = filled.1 in
    omega (arith, size, ap length empty, sound.some)

pub from_behind-traded : (old new : Depot) (before after left : CpuCache) (slabs : Slabs) (result : Option ℕ) → IsDepot old → TradesForFull old new before after → MatchOption result (AreEmpty after × (left ≡ after)) (λ chunk. TakesLoaded after left chunk ⊎ TakesPrevious after left chunk) → IsStep (reach_in before old slabs) (from_behind (reach_in before old slabs)) result (reach_in left new slabs)
from_behind-traded old new before after left slabs None sound trade none = absurd (not_empty old new before after sound trade none.0.loaded)
from_behind-traded old new before after left slabs (Some chunk) sound trade takes =
    elim takes [
      | inl loaded ↦
          let found : from_behind (reach_in before old slabs) ≡ Some (hand chunk (reach_in left new slabs)) =
          rw (traded_full-trade old new before after slabs trade, from_loaded-newest (reach_in after new slabs) left.loaded chunk loaded.loaded, loaded.previous) refl in
          record { round = rw found refl; now = rw found refl }
      | inr previous ↦ absurd (not_empty old new before after sound trade previous.empty)
    ]

pub traded_full-none : (reach : Reach) → reach.depot ≡ [] → traded_full reach ≡ reach
traded_full-none reach none = rw none refl

pub from_behind-slabs : (cpu : CpuCache) (depot : Depot) (old new : Slabs) (result : Option ℕ) → AreEmpty cpu → depot.full ≡ [] → (is_some result ≡ false → listed_rounds old.slabs ≡ []) → IfSome result (IsLowestRound old.slabs) → IfSome result (λ chunk. listed_rounds old.slabs ≡ chunk ∷ listed_rounds new.slabs) → MatchOption result (new ≡ old) (λ chunk. new ≡ record old { slabs = without_round old.slabs chunk }) → IsStep (reach_in cpu depot old) (from_behind (reach_in cpu depot old)) result (reach_in cpu depot new)
from_behind-slabs cpu depot old new None empty full none lowest first same =
    let nothing : from_behind (reach_in cpu depot old) ≡ None =
    rw (traded_full-none (reach_in cpu depot old) full, from_loaded-empty (reach_in cpu depot old) empty.loaded, none refl) refl in
    record { round = rw nothing refl; now = rw (nothing, same) refl }
from_behind-slabs cpu depot old new (Some chunk) empty full none lowest first taken =
    let is : lowest_of (listed_rounds old.slabs) ≡ Some chunk =
    ap lowest_of first ∙ lowest_of-first chunk (listed_rounds new.slabs) (λ k d lt. (rw first at lowest.lowest) (suc k) d (omega arith)) in
    let found : from_behind (reach_in cpu depot old) ≡ Some (hand chunk (reach_in cpu depot new)) =
    rw (traded_full-none (reach_in cpu depot old) full, from_loaded-empty (reach_in cpu depot old) empty.loaded, is, taken) refl in
    record { round = rw found refl; now = rw found refl }
