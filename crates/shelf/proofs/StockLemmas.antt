-- The calls on a stock lose no round and make none up, and leave it sound.
use Rattle.std.proofs.Common.{◌≡◌, ℕ, zero, suc, ◌+◌, ◌<◌, ◌≤◌, List, [], ◌∷◌, ◌++◌, Option, Some, None, length, length-append, get_or, set, refl, sym, ap, ◌∙◌, append_assoc, subst, arith, inl, inr}
use Rattle.std.specs.Prelude.{All, Any, Contains, IfSome, remove}
use Rattle.std.specs.List.{flat_map}
use Rattle.std.specs.List.Sorted.{IsPermutation}
use Rattle.std.specs.Option.{option_or}
use Rattle.std.proofs.lemmas.List.{length-set, set-get_or}
use Rattle.std.proofs.lemmas.List.Elements.{All-cons, All-set, All-tail, Contains-append_right}
use Rattle.std.proofs.lemmas.List.Sorted.{All-permutation, IsPermutation-append_left, IsPermutation-append_right, IsPermutation-cons, IsPermutation-middle, IsPermutation-sym, IsPermutation-to_front, IsPermutation-trans}
use Rattle.std.proofs.lemmas.Option.{IfSome_then}
use Rattle.slab_layer.specs.Slab.{HasChunk, Slab}
use Rattle.slab_layer.specs.Slabs.{IsMissing, listed_rounds}
use Rattle.shelf.specs.Laws.{PutsOne, TakesOne}
use Rattle.shelf.specs.Steps.{InHand, IsBare, Reach, from_behind, from_cpu, from_cpus, newest_of, put_in, put_on, reach_of, taken_any, taken_from, taken_in, with_reach}
use Rattle.shelf.specs.Stock.{CpuStock, FitsCpu, IsOut, IsStock, Stock, empty_cpu, held_rounds, rounds_of_cpu, standing}
use Rattle.shelf.proofs.Lists.{AreDistinct, AreDistinct-cons, AreDistinct-permutation, AreDistinct-tail, IfSome-in_whole, IfSome-or, exchange, flat_map-set, nil_of_append, none_in_whole, none_of_both, not_in_rest}
use Rattle.shelf.proofs.HeldLemmas.{Any-standing, IsBare-none, IsLess, IsMore, IsReach, behind_none, from_behind_is, newest_is, newest_none, none_behind, none_taken, put_in_is, reach_rounds, taken_in_is}

-- ---- what one CPU reaches, within all

pub same_stock : (stock : Stock) (i : ℕ) → with_reach stock i (reach_of stock i) ≡ stock
same_stock stock i = ap (λ (cpus : List CpuStock). let s : Stock = record stock { cpus = cpus } in s) (set-get_or stock.cpus i empty_cpu)

pub IsReach-of : (stock : Stock) (i : ℕ) → i < length stock.cpus → IsStock stock → IsReach stock.size (reach_of stock i)
IsReach-of stock i lt h = record {
  cpu = h.cpus i empty_cpu lt;
  few = h.few;
  filled = h.filled;
  slabs = h.slabs;
}

moved_back : (rounds others depot listed : List ℕ) → IsPermutation (((rounds ++ others) ++ depot) ++ listed) (others ++ ((rounds ++ depot) ++ listed))
moved_back rounds others depot listed = simp append_assoc (exchange rounds others (depot ++ listed))

-- the rounds of the other CPUs stand before those that one reaches
held_with : (stock : Stock) (i : ℕ) (reach : Reach) → i < length stock.cpus → IsPermutation (held_rounds (with_reach stock i reach)) (flat_map rounds_of_cpu (remove stock.cpus i) ++ reach_rounds reach)
held_with stock i reach lt =
    let others = flat_map rounds_of_cpu (remove stock.cpus i) in
    let depot = flat_map (λ (rounds : List ℕ). rounds) reach.depot in
    let listed = listed_rounds reach.slabs in
    IsPermutation-trans _ _ _
    (IsPermutation-append_left listed _ _ (IsPermutation-append_left depot _ _ (flat_map-set rounds_of_cpu stock.cpus i reach.cpu lt)))
    (moved_back (rounds_of_cpu reach.cpu) others depot listed)

held_split : (stock : Stock) (i : ℕ) → i < length stock.cpus → IsPermutation (held_rounds stock) (flat_map rounds_of_cpu (remove stock.cpus i) ++ reach_rounds (reach_of stock i))
held_split stock i lt =
    let P : Stock → Type 0 = λ s. IsPermutation (held_rounds s) (flat_map rounds_of_cpu (remove stock.cpus i) ++ reach_rounds (reach_of stock i)) in
    subst P (same_stock stock i) (held_with stock i (reach_of stock i) lt)

-- ---- a sound stock afterwards

-- the rounds that are left of those that stood once, each of a slab
pub own_after : (ss ns : List Slab) (xs ys : List ℕ) → standing ns ≡ standing ss → IsPermutation xs ys → All (λ c. Any (HasChunk c) ss) xs → All (λ c. Any (HasChunk c) ns) ys
own_after ss ns xs ys same moved own k d lt =
    Any-standing ss ns (get_or ys k d) same (All-permutation (λ c. Any (HasChunk c) ss) xs ys moved own k d lt)

IsStock-with : (stock : Stock) (i : ℕ) (reach : Reach) → i < length stock.cpus → IsStock stock → IsReach stock.size reach → standing reach.slabs ≡ standing stock.slabs → AreDistinct (held_rounds (with_reach stock i reach)) → All (λ c. Any (HasChunk c) reach.slabs) (held_rounds (with_reach stock i reach)) → IsStock (with_reach stock i reach)
IsStock-with stock i reach lt h sound same distinct own = record {
  some = h.some;
  cpus = All-set (FitsCpu stock.size) stock.cpus i reach.cpu sound.cpu h.cpus;
  few = sound.few;
  filled = sound.filled;
  slabs = sound.slabs;
  distinct = distinct;
  own = own;
}

-- a round is taken from what a CPU reaches
pub TakesOne-less : (stock : Stock) (i : ℕ) (hand : InHand Reach) → i < length stock.cpus → IsStock stock → IsLess stock.size (reach_of stock i) hand → TakesOne stock (record { chunk = hand.chunk; left = with_reach stock i hand.left })
TakesOne-less stock i hand lt h less =
    let others = flat_map rounds_of_cpu (remove stock.cpus i) in
    let holds : IsPermutation (held_rounds stock) (hand.chunk ∷ held_rounds (with_reach stock i hand.left)) =
    IsPermutation-trans _ _ _ (held_split stock i lt)
    (IsPermutation-trans _ _ _ (IsPermutation-append_right others _ _ less.holds)
    (IsPermutation-trans _ _ _ (IsPermutation-middle others hand.chunk (reach_rounds hand.left))
    (IsPermutation-cons hand.chunk _ _ (IsPermutation-sym _ _ (held_with stock i hand.left lt))))) in
    let distinct = AreDistinct-permutation _ _ holds h.distinct in
    let own = own_after stock.slabs hand.left.slabs _ _ less.slabs holds h.own in
    record {
      holds = holds;
      out = record { known = own 0 hand.chunk (omega arith); out = not_in_rest hand.chunk _ distinct };
      sound = IsStock-with stock i hand.left lt h less.sound less.slabs (AreDistinct-tail hand.chunk _ distinct) (All-tail (λ c. Any (HasChunk c) hand.left.slabs) hand.chunk _ own);
      shape = record { size = refl; cpus = length-set stock.cpus i hand.left.cpu; slabs = less.slabs };
    }

-- a round is put into what a CPU reaches
pub PutsOne-more : (stock : Stock) (i chunk : ℕ) (now : Reach) → i < length stock.cpus → IsStock stock → IsOut stock chunk → IsMore stock.size (reach_of stock i) chunk now → PutsOne stock chunk (with_reach stock i now)
PutsOne-more stock i chunk now lt h out more =
    let others = flat_map rounds_of_cpu (remove stock.cpus i) in
    let holds : IsPermutation (chunk ∷ held_rounds stock) (held_rounds (with_reach stock i now)) =
    IsPermutation-trans _ _ _ (IsPermutation-cons chunk _ _ (held_split stock i lt))
    (IsPermutation-trans _ _ _ (IsPermutation-sym _ _ (IsPermutation-middle others chunk (reach_rounds (reach_of stock i))))
    (IsPermutation-trans _ _ _ (IsPermutation-append_right others _ _ more.holds)
    (IsPermutation-sym _ _ (held_with stock i now lt)))) in
    let distinct = AreDistinct-cons chunk (held_rounds stock) out.out h.distinct in
    let own = All-cons (λ c. Any (HasChunk c) stock.slabs) chunk (held_rounds stock) out.known h.own in
    record {
      holds = holds;
      sound = IsStock-with stock i now lt h more.sound more.slabs (AreDistinct-permutation _ _ holds distinct) (own_after stock.slabs now.slabs _ _ more.slabs holds own);
      shape = record { size = refl; cpus = length-set stock.cpus i now.cpu; slabs = more.slabs };
    }

-- ---- the calls

pub taken_from_is : (stock : Stock) (i : ℕ) → i < length stock.cpus → IsStock stock → IfSome (taken_from stock i) (TakesOne stock)
taken_from_is stock i lt h =
    IfSome-in_whole (TakesOne stock) (with_reach stock i) (taken_in (reach_of stock i))
    (IfSome_then (taken_in (reach_of stock i)) (taken_in_is stock.size (reach_of stock i) (IsReach-of stock i lt h)) (λ hand less. TakesOne-less stock i hand lt h less))

pub missing_from_out : (stock : Stock) (chunk : ℕ) → IsOut stock chunk → IsMissing stock.slabs chunk
missing_from_out stock chunk out = record {
  known = out.known;
  missing = λ held. out.out (Contains-append_right _ (listed_rounds stock.slabs) chunk held);
}

pub put_on_is : (stock : Stock) (i chunk : ℕ) → i < length stock.cpus → IsStock stock → IsOut stock chunk → PutsOne stock chunk (put_on stock i chunk)
put_on_is stock i chunk lt h out =
    PutsOne-more stock i chunk (put_in stock.size (reach_of stock i) chunk) lt h out
    (put_in_is stock.size (reach_of stock i) chunk h.some (IsReach-of stock i lt h) (missing_from_out stock chunk out))

-- ---- all CPUs

-- a round of a CPU is in hand
pub record IsLessCpu (size : ℕ) (cpu : CpuStock) (hand : InHand CpuStock) : Type 0 where
  pub holds : IsPermutation (rounds_of_cpu cpu) (hand.chunk ∷ rounds_of_cpu hand.left)
  pub fits : FitsCpu size hand.left

from_cpu_is : (size : ℕ) (cpu : CpuStock) → FitsCpu size cpu → IfSome (from_cpu cpu) (IsLessCpu size cpu)
from_cpu_is size cpu h =
    IfSome-or (IsLessCpu size cpu) _ _
    (IfSome-in_whole (IsLessCpu size cpu) _ (newest_of cpu.loaded)
    (IfSome_then (newest_of cpu.loaded) (newest_is cpu.loaded) (λ hand last. record {
      holds = rw (last, append_assoc) (IsPermutation-middle hand.left hand.chunk cpu.previous);
      fits = record { loaded = omega (arith, h.loaded, ap length last, length-append hand.left (hand.chunk ∷ [])); previous = h.previous };
    })))
    (λ e. IfSome-in_whole (IsLessCpu size cpu) _ (newest_of cpu.previous)
    (IfSome_then (newest_of cpu.previous) (newest_is cpu.previous) (λ hand last. record {
      holds = rw (last, ← append_assoc cpu.loaded hand.left (hand.chunk ∷ [])) (IsPermutation-to_front (cpu.loaded ++ hand.left) hand.chunk);
      fits = record { loaded = h.loaded; previous = omega (arith, h.previous, ap length last, length-append hand.left (hand.chunk ∷ [])) };
    })))

-- a round of one of them is in hand
pub record IsLessCpus (size : ℕ) (cpus : List CpuStock) (hand : InHand (List CpuStock)) : Type 0 where
  pub holds : IsPermutation (flat_map rounds_of_cpu cpus) (hand.chunk ∷ flat_map rounds_of_cpu hand.left)
  pub fits : All (FitsCpu size) hand.left
  pub long : length hand.left ≡ length cpus

pub from_cpus_is : (size : ℕ) (cpus : List CpuStock) → All (FitsCpu size) cpus → IfSome (from_cpus cpus) (IsLessCpus size cpus)
from_cpus_is size [] h = tt
from_cpus_is size (cpu ∷ cpus) h =
    let rest : All (FitsCpu size) cpus = All-tail (FitsCpu size) cpu cpus h in
    let here : FitsCpu size cpu = h 0 cpu (omega arith) in
    IfSome-or (IsLessCpus size (cpu ∷ cpus)) _ _
    (IfSome-in_whole (IsLessCpus size (cpu ∷ cpus)) _ (from_cpu cpu)
    (IfSome_then (from_cpu cpu) (from_cpu_is size cpu here) (λ hand less. record {
      holds = IsPermutation-append_left (flat_map rounds_of_cpu cpus) _ _ less.holds;
      fits = All-cons (FitsCpu size) hand.left cpus less.fits rest;
      long = refl;
    })))
    (λ e. IfSome-in_whole (IsLessCpus size (cpu ∷ cpus)) _ (from_cpus cpus)
    (IfSome_then (from_cpus cpus) (from_cpus_is size cpus rest) (λ hand less. record {
      holds =
          IsPermutation-trans _ _ _
          (IsPermutation-append_right (rounds_of_cpu cpu) _ _ less.holds)
          (IsPermutation-middle (rounds_of_cpu cpu) hand.chunk (flat_map rounds_of_cpu hand.left));
      fits = All-cons (FitsCpu size) cpu hand.left here less.fits;
      long = ap suc less.long;
    })))

-- it holds no round
abbrev pub IsEmptyCpu : CpuStock → Type 0
IsEmptyCpu cpu = (cpu.loaded ≡ []) × (cpu.previous ≡ [])

cpu_none : (cpu : CpuStock) → from_cpu cpu ≡ None → IsEmptyCpu cpu
cpu_none cpu e =
    let parts = none_of_both _ _ e in
    (newest_none cpu.loaded (none_in_whole _ (newest_of cpu.loaded) parts.0), newest_none cpu.previous (none_in_whole _ (newest_of cpu.previous) parts.1))

pub cpus_none : (cpus : List CpuStock) → from_cpus cpus ≡ None → All IsEmptyCpu cpus
cpus_none [] e = λ k d lt. absurd (omega arith)
cpus_none (cpu ∷ cpus) e =
    let parts = none_of_both _ _ e in
    All-cons IsEmptyCpu cpu cpus
    (cpu_none cpu (none_in_whole _ (from_cpu cpu) parts.0))
    (cpus_none cpus (none_in_whole _ (from_cpus cpus) parts.1))

pub none_at_cpus : (cpus : List CpuStock) → All IsEmptyCpu cpus → flat_map rounds_of_cpu cpus ≡ []
none_at_cpus [] h = refl
none_at_cpus (cpu ∷ cpus) h =
    let here = h 0 cpu (omega arith) in
    let rest = none_at_cpus cpus (All-tail IsEmptyCpu cpu cpus h) in
    rw (here.0, here.1, rest) refl

none_from_cpus : (cpus : List CpuStock) → flat_map rounds_of_cpu cpus ≡ [] → from_cpus cpus ≡ None
none_from_cpus [] e = refl
none_from_cpus (cpu ∷ cpus) e =
    let parts = nil_of_append (rounds_of_cpu cpu) (flat_map rounds_of_cpu cpus) e in
    let here = nil_of_append cpu.loaded cpu.previous parts.0 in
    rw (here.0, here.1, none_from_cpus cpus parts.1) refl

-- an allocation that looks at all CPUs
TakesOne-cpus : (stock : Stock) (hand : InHand (List CpuStock)) → IsStock stock → IsLessCpus stock.size stock.cpus hand → TakesOne stock (record { chunk = hand.chunk; left = record stock { cpus = hand.left } })
TakesOne-cpus stock hand h less =
    let depot = flat_map (λ (rounds : List ℕ). rounds) stock.depot in
    let listed = listed_rounds stock.slabs in
    let holds : IsPermutation (held_rounds stock) (hand.chunk ∷ ((flat_map rounds_of_cpu hand.left ++ depot) ++ listed)) =
    IsPermutation-append_left listed _ _ (IsPermutation-append_left depot _ _ less.holds) in
    let distinct = AreDistinct-permutation _ _ holds h.distinct in
    let own = All-permutation (λ c. Any (HasChunk c) stock.slabs) _ _ holds h.own in
    record {
      holds = holds;
      out = record { known = own 0 hand.chunk (omega arith); out = not_in_rest hand.chunk _ distinct };
      sound = record {
        some = h.some;
        cpus = less.fits;
        few = h.few;
        filled = h.filled;
        slabs = h.slabs;
        distinct = AreDistinct-tail hand.chunk _ distinct;
        own = All-tail (λ c. Any (HasChunk c) stock.slabs) hand.chunk _ own;
      };
      shape = record { size = refl; cpus = less.long; slabs = refl };
    }

pub taken_any_is : (stock : Stock) (i : ℕ) → i < length stock.cpus → IsStock stock → IfSome (taken_any stock i) (TakesOne stock)
taken_any_is stock i lt h =
    IfSome-or (TakesOne stock) _ _
    (IfSome-in_whole (TakesOne stock) _ (from_cpus stock.cpus)
    (IfSome_then (from_cpus stock.cpus) (from_cpus_is stock.size stock.cpus h.cpus) (λ hand less. TakesOne-cpus stock hand h less)))
    (λ e.
    let empty : IsEmptyCpu (get_or stock.cpus i empty_cpu) = cpus_none stock.cpus (none_in_whole _ (from_cpus stock.cpus) e) i empty_cpu lt in
    IfSome-in_whole (TakesOne stock) (with_reach stock i) (from_behind (reach_of stock i))
    (IfSome_then (from_behind (reach_of stock i)) (from_behind_is stock.size (reach_of stock i) (IsReach-of stock i lt h) empty.1) (λ hand less. TakesOne-less stock i hand lt h less)))

-- ---- where none is found

pub IsBare-taken_from : (stock : Stock) (i : ℕ) → i < length stock.cpus → IsStock stock → taken_from stock i ≡ None → IsBare (reach_of stock i)
IsBare-taken_from stock i lt h e =
    IsBare-none stock.size (reach_of stock i) h.some (IsReach-of stock i lt h) (none_in_whole (with_reach stock i) (taken_in (reach_of stock i)) e)

pub taken_from-none : (stock : Stock) (i : ℕ) → IsBare (reach_of stock i) → taken_from stock i ≡ None
taken_from-none stock i bare = rw (none_taken (reach_of stock i) bare) refl

pub held_none : (stock : Stock) (i : ℕ) → i < length stock.cpus → IsStock stock → taken_any stock i ≡ None → held_rounds stock ≡ []
held_none stock i lt h e =
    let parts = none_of_both _ _ e in
    let cpus = none_at_cpus stock.cpus (cpus_none stock.cpus (none_in_whole _ (from_cpus stock.cpus) parts.0)) in
    let behind = behind_none stock.size (reach_of stock i) h.some (IsReach-of stock i lt h) (none_in_whole (with_reach stock i) (from_behind (reach_of stock i)) parts.1) in
    rw (cpus, behind.0, behind.1) refl

no_magazines : (size : ℕ) (depot : List (List ℕ)) → 1 ≤ size → All (λ rounds. length rounds ≡ size) depot → flat_map (λ (rounds : List ℕ). rounds) depot ≡ [] → depot ≡ []
no_magazines size [] some filled e = refl
no_magazines size (rounds ∷ depot) some filled e =
    let first : rounds ≡ [] = (nil_of_append rounds _ e).0 in
    let full : length rounds ≡ size = filled 0 rounds (omega arith) in
    absurd (omega (arith, full, ap length first))

pub taken_any-none : (stock : Stock) (i : ℕ) → i < length stock.cpus → IsStock stock → held_rounds stock ≡ [] → taken_any stock i ≡ None
taken_any-none stock i lt h e =
    let all = nil_of_append _ (listed_rounds stock.slabs) e in
    let magazines = nil_of_append (flat_map rounds_of_cpu stock.cpus) _ all.0 in
    let cpus = none_from_cpus stock.cpus magazines.0 in
    let empty : IsEmptyCpu (get_or stock.cpus i empty_cpu) = cpus_none stock.cpus cpus i empty_cpu lt in
    let depot = no_magazines stock.size stock.depot h.some h.filled magazines.1 in
    rw (cpus, none_behind (reach_of stock i) empty.0 depot all.1) refl
