-- Items that are entered one by one.
use Rattle.std.proofs.Common.{◌≡◌, ℕ, List, [], ◌∷◌, ◌++◌, sym, ap, ◌∙◌, append_assoc, arith}
use Rattle.std.proofs.lemmas.List.{append-nil}
use Rattle.std.proofs.lemmas.Grind.{common_steps}
use Rattle.trans_log.specs.Last.{last_of, entered}

module _ {T : Type 0} where
  -- what was let go earlier is not missed
  pub last_of-more : (c : ℕ) (xs : List T) (x : T) → last_of c (last_of c xs ++ x ∷ []) ≡ last_of c (xs ++ x ∷ [])
  last_of-more c xs x = grind (arith, common_steps)

  pub entered-last_of : (c : ℕ) (xs ys : List T) → entered c (last_of c xs) ys ≡ last_of c (xs ++ ys)
  entered-last_of c xs [] = ap (last_of c) (sym (append-nil xs))
  entered-last_of c xs (y ∷ ys) =
      ap (λ (kept : List T). entered c kept ys) (last_of-more c xs y)
      ∙ entered-last_of c (xs ++ y ∷ []) ys
      ∙ ap (last_of c) (append_assoc xs (y ∷ []) ys)

  last_of-nil : (c : ℕ) → last_of {T = T} c [] ≡ []
  last_of-nil c = grind (arith, common_steps)

  pub entered-all : (c : ℕ) (xs : List T) → entered c [] xs ≡ last_of c xs
  entered-all c xs = ap (λ (kept : List T). entered c kept xs) (sym (last_of-nil c)) ∙ entered-last_of c [] xs
