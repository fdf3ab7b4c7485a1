-- What the calls leave of a stock.
use Rattle.std.specs.Prelude.{ℕ, List, ◌∷◌, ◌++◌, slice_index}
use Rattle.std.specs.List.Sorted.{IsPermutation}
use Rattle.slab_layer.specs.Slabs.{listed_rounds}
use Rattle.shelf.specs.Steps.{InHand, complete_slabs}
use Rattle.shelf.specs.Stock.{IsOut, IsStock, KeepsShape, Stock, held_rounds}

-- a round that was held is in hand, and the others still are held
pub record TakesOne (stock : Stock) (hand : InHand Stock) : Type 0 where
  pub holds : IsPermutation (held_rounds stock) (hand.chunk ∷ held_rounds hand.left)
  pub out : IsOut hand.left hand.chunk
  pub sound : IsStock hand.left
  pub shape : KeepsShape stock hand.left

-- a round more is held
pub record PutsOne (stock : Stock) (chunk : ℕ) (now : Stock) : Type 0 where
  pub holds : IsPermutation (chunk ∷ held_rounds stock) (held_rounds now)
  pub sound : IsStock now
  pub shape : KeepsShape stock now

-- the same rounds are held
pub record KeepsAll (old new : Stock) : Type 0 where
  pub holds : IsPermutation (held_rounds old) (held_rounds new)
  pub sound : IsStock new
  pub shape : KeepsShape old new

-- the rounds of one slab more came, and the first of them is in hand
pub record AddsSlab (stock : Stock) (rounds : List ℕ) (now : Stock) : Type 0 where
  pub holds : IsPermutation (rounds ++ held_rounds stock) (slice_index rounds 0 ∷ held_rounds now)
  pub out : IsOut now (slice_index rounds 0)
  pub sound : IsStock now

-- the rounds of complete slabs went
pub record DropsComplete (stock now : Stock) : Type 0 where
  pub holds : IsPermutation (held_rounds stock) (listed_rounds (complete_slabs stock) ++ held_rounds now)
  pub sound : IsStock now
