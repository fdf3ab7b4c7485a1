-- Lines of the items that pass a test.
use Rattle.std.proofs.Common.{◌≡◌, ℕ, ◌+◌, ◌<◌, Bool, true, false, cond, List, [], ◌∷◌, ◌++◌, length, get_or, take, append_assoc, refl, sym, ap, ◌∙◌}
use Rattle.std.specs.List.{filter, flat_map}
use Rattle.std.proofs.lemmas.Grind.{flat_map-append}
use Rattle.std.proofs.lemmas.List.{append-nil, take_more}
use Rattle.std.proofs.lemmas.List.Elements.{filter-append}

-- the lines with that of an item more, if it passes
pub passing_more : {X : Type 0} (f : X → List ℕ) (p : X → Bool) (xs : List X) (i : ℕ) (d : X) (start old new : List ℕ) → i < length xs → old ≡ start ++ flat_map f (filter p (take i xs)) → new ≡ old ++ cond (p (get_or xs i d)) (f (get_or xs i d)) [] → new ≡ start ++ flat_map f (filter p (take (i + 1) xs))
passing_more {X} f p xs i d start old new lt old-is new-is =
    let x = get_or xs i d in
    let before = flat_map f (filter p (take i xs)) in
    let told : flat_map f (filter p (take (i + 1) xs)) ≡ before ++ flat_map f (filter p (x ∷ [])) =
    ap (λ (ys : List X). flat_map f (filter p ys)) (take_more xs i d lt) ∙ ap (flat_map f) (filter-append p (take i xs) (x ∷ [])) ∙ flat_map-append f (filter p (take i xs)) (filter p (x ∷ [])) in
    let last : cond (p x) (f x) [] ≡ flat_map f (filter p (x ∷ [])) = by_test x (p x) in
    new-is ∙ ap (λ (t : List ℕ). t ++ cond (p x) (f x) []) old-is ∙ append_assoc start before (cond (p x) (f x) []) ∙ ap (λ (t : List ℕ). start ++ (before ++ t)) last ∙ ap (λ (t : List ℕ). start ++ t) (sym told)
  where
    by_test : (x : X) (b : Bool) → cond b (f x) [] ≡ flat_map f (cond b (x ∷ []) [])
    by_test x true = sym (append-nil (f x))
    by_test x false = refl
