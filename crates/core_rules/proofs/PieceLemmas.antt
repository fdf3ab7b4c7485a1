-- Lists that are made item by item, each from its number.
use Rattle.std.proofs.Common.{◌≡◌, ℕ, ◌+◌, List, [], ◌∷◌, ◌++◌, sym, ap, ◌∙◌, arith}
use Rattle.std.specs.Prelude.{map}
use Rattle.std.specs.List.{range_with_len}
use Rattle.std.proofs.lemmas.List.FromFn.{map-range_with_len_more}

-- one item more
pub made_more : {X : Type 0} (f : ℕ → X) (n : ℕ) (items now : List X) (x : X) → now ≡ items ++ x ∷ [] → items ≡ map f (range_with_len 0 n) → x ≡ f n → now ≡ map f (range_with_len 0 (n + 1))
made_more {X} f n items now x put made is =
    put ∙ ap (λ (t : List X). t ++ x ∷ []) made ∙ ap (λ (y : X). map f (range_with_len 0 n) ++ y ∷ []) is ∙ sym (map-range_with_len_more f 0 n n (omega arith))
