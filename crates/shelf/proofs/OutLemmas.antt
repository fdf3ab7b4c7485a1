-- Rounds in hand, which stand nowhere.
use Rattle.std.proofs.Common.{◌≡◌, ℕ, List, [], ◌∷◌, ◌++◌, append_assoc, arith, get_or}
use Rattle.std.specs.Prelude.{All, Any}
use Rattle.std.specs.List.Sorted.{IsPermutation}
use Rattle.std.proofs.lemmas.List.Elements.{All-push, All-tail, Contains-append_right}
use Rattle.std.proofs.lemmas.List.Sorted.{IsPermutation-append_right, IsPermutation-middle, IsPermutation-sym, IsPermutation-trans}
use Rattle.slab_layer.specs.Slab.{HasChunk, Slab}
use Rattle.shelf.specs.Laws.{PutsOne, TakesOne}
use Rattle.shelf.specs.Steps.{InHand}
use Rattle.shelf.specs.Stock.{AreOut, IsOut, IsStock, KeepsShape, Stock, held_rounds, standing}
use Rattle.shelf.proofs.HeldLemmas.{Any-standing}
use Rattle.shelf.proofs.Lists.{AreDistinct, AreDistinct-cons, AreDistinct-permutation, not_in_rest}

known_still : (ss ns : List Slab) (rounds : List ℕ) → standing ns ≡ standing ss → All (λ c. Any (HasChunk c) ss) rounds → All (λ c. Any (HasChunk c) ns) rounds
known_still ss ns rounds same known k d lt = Any-standing ss ns (get_or rounds k d) same (known k d lt)

pub AreOut-none : (stock : Stock) → IsStock stock → AreOut stock []
AreOut-none stock h = record { known = λ k d lt. absurd (omega arith); distinct = h.distinct }

pub AreOut-one : (stock : Stock) (chunk : ℕ) → IsStock stock → IsOut stock chunk → AreOut stock (chunk ∷ [])
AreOut-one stock chunk h out = record {
  known = All-push (λ c. Any (HasChunk c) stock.slabs) [] chunk (λ k d lt. absurd (omega arith)) out.known;
  distinct = AreDistinct-cons chunk (held_rounds stock) out.out h.distinct;
}

pub AreOut-taken : (stock : Stock) (rounds : List ℕ) (hand : InHand Stock) → AreOut stock rounds → TakesOne stock hand → AreOut hand.left (rounds ++ hand.chunk ∷ [])
AreOut-taken stock rounds hand h takes = record {
  known = All-push (λ c. Any (HasChunk c) hand.left.slabs) rounds hand.chunk (known_still stock.slabs hand.left.slabs rounds takes.shape.slabs h.known) takes.out.known;
  distinct = rw append_assoc (AreDistinct-permutation _ _ (IsPermutation-append_right rounds _ _ takes.holds) h.distinct);
}

pub IsOut-first : (stock : Stock) (chunk : ℕ) (rounds : List ℕ) → AreOut stock (chunk ∷ rounds) → IsOut stock chunk
IsOut-first stock chunk rounds h = record {
  known = h.known 0 chunk (omega arith);
  out = λ held. not_in_rest chunk (rounds ++ held_rounds stock) h.distinct (Contains-append_right rounds (held_rounds stock) chunk held);
}

pub AreOut-put : (stock : Stock) (chunk : ℕ) (rounds : List ℕ) (now : Stock) → AreOut stock (chunk ∷ rounds) → PutsOne stock chunk now → AreOut now rounds
AreOut-put stock chunk rounds now h puts = record {
  known = known_still stock.slabs now.slabs rounds puts.shape.slabs (All-tail (λ c. Any (HasChunk c) stock.slabs) chunk rounds h.known);
  distinct =
      AreDistinct-permutation (chunk ∷ (rounds ++ held_rounds stock)) (rounds ++ held_rounds now)
      (IsPermutation-trans _ _ _
      (IsPermutation-sym _ _ (IsPermutation-middle rounds chunk (held_rounds stock)))
      (IsPermutation-append_right rounds _ _ puts.holds))
      h.distinct;
}

-- the same by the clauses of the calls
pub AreOut-found : (stock now : Stock) (rounds : List ℕ) (round : ℕ) → AreOut stock rounds → IsPermutation (held_rounds stock) (round ∷ held_rounds now) → IsOut now round → IsStock now → KeepsShape stock now → AreOut now (rounds ++ round ∷ [])
AreOut-found stock now rounds round h holds out sound shape =
    AreOut-taken stock rounds (record { chunk = round; left = now }) h (record { holds = holds; out = out; sound = sound; shape = shape })
