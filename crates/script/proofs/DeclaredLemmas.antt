-- The places of declared caches by their names.
use Rattle.std.proofs.Common.{◌≡◌, ℕ, suc, ◌+◌, ◌≤◌, Bool, true, false, cond, eqb, ltb, List, [], ◌∷◌, ◌++◌, length, Option, Some, None, refl, sym, ap, ◌∙◌, arith, length-append}
use Rattle.std.specs.Prelude.{not, nat_lt, position}
use Rattle.std.specs.List.{position_or_len}
use Rattle.std.specs.Str.{bytes_eq}
use Rattle.std.specs.Map.{update}
use Rattle.std.proofs.lemmas.Bool.Decides.{nat_tests}
use Rattle.std.proofs.lemmas.Bool.{ltb-false, ltb-true, lt-ltb}
use Rattle.std.proofs.lemmas.List.Folds.{position_or_len_push}
use Rattle.std.proofs.lemmas.Slice.Eq.{bytes_eq-Decides}
use Rattle.case_table.specs.declared.cache_def.CacheDef.{CacheDef}
use Rattle.std.specs.Option.{option_map}
use Rattle.case_table.specs.declared.limits.TheConstants.{CLASS_COUNT}
use Rattle.script.specs.Fields.{declared_number}

-- the place is within the list, or there is none
pub position_or_len-le : {X : Type 0} (p : X → Bool) (xs : List X) → position_or_len p xs ≤ length xs
position_or_len-le p [] = omega arith
position_or_len-le p (x ∷ xs) = go (p x) (position_or_len-le p xs)
  where
    go : (b : Bool) → position_or_len p xs ≤ length xs → cond (not b) (1 + position_or_len p xs) 0 ≤ suc (length xs)
    go true h = omega arith
    go false h = omega arith

len_from_none : {X : Type 0} (p : X → Bool) (xs : List X) → position p xs ≡ None → position_or_len p xs ≡ length xs
len_from_none p xs h = far (nat_lt (position_or_len p xs) (length xs)) refl h
  where
    far : (b : Bool) → nat_lt (position_or_len p xs) (length xs) ≡ b → cond b (Some (position_or_len p xs)) None ≡ None → position_or_len p xs ≡ length xs
    far true e h = absurd (cc h)
    far false e h = omega (arith, ltb-false _ _ e, position_or_len-le p xs)

-- one item more, where none passed before
pub position-push-None : {X : Type 0} (p : X → Bool) (xs : List X) (y : X) → position p xs ≡ None → position p (xs ++ y ∷ []) ≡ cond (p y) (Some (length xs)) None
position-push-None p xs y h =
    let at = len_from_none p xs h in
    let longer : length (xs ++ y ∷ []) ≡ length xs + 1 = omega (arith, length-append xs (y ∷ [])) in
    rw (longer, position_or_len_push p xs y, at) (go (p y))
  where
    go : (b : Bool) → cond (nat_lt (cond (eqb (length xs) (length xs)) (length xs + cond b 0 1) (length xs)) (length xs + 1)) (Some (cond (eqb (length xs) (length xs)) (length xs + cond b 0 1) (length xs))) None ≡ cond b (Some (length xs)) None
    go true = grind (arith, nat_tests)
    go false = grind (arith, nat_tests)

-- one item more, where one passed before
pub position-push-Some : {X : Type 0} (p : X → Bool) (xs : List X) (y : X) (i : ℕ) → position p xs ≡ Some i → position p (xs ++ y ∷ []) ≡ Some i
position-push-Some p xs y i h =
    let longer : length (xs ++ y ∷ []) ≡ length xs + 1 = omega (arith, length-append xs (y ∷ [])) in
    rw (longer, position_or_len_push p xs y) (go (nat_lt (position_or_len p xs) (length xs)) refl h)
  where
    go : (b : Bool) → nat_lt (position_or_len p xs) (length xs) ≡ b → cond b (Some (position_or_len p xs)) None ≡ Some i
        → cond (nat_lt (cond (eqb (position_or_len p xs) (length xs)) (length xs + cond (p y) 0 1) (position_or_len p xs)) (length xs + 1)) (Some (cond (eqb (position_or_len p xs) (length xs)) (length xs + cond (p y) 0 1) (position_or_len p xs))) None ≡ Some i
    go true e k =
        let below = ltb-true _ _ e in
        let other : eqb (position_or_len p xs) (length xs) ≡ false = grind (arith, nat_tests) in
        let inside : ltb (position_or_len p xs) (length xs + 1) ≡ true = lt-ltb _ _ (omega (arith, below)) in
        rw (other, inside) k
    go false e k = absurd (cc k)

-- the place of a cache
abbrev declared_place : List CacheDef → List ℕ → Option ℕ
declared_place caches name = position (λ def. bytes_eq name def.name) caches

-- a cache is declared under a name that none had
pub declared_place-push : (caches : List CacheDef) (def : CacheDef) (name : List ℕ) → declared_place caches def.name ≡ None
    → update bytes_eq (declared_place caches) def.name (Some (length caches)) name ≡ declared_place (caches ++ def ∷ []) name
declared_place-push caches def name unlike = go (bytes_eq def.name name) refl (declared_place caches name) refl
  where
    go : (b : Bool) → bytes_eq def.name name ≡ b → (o : Option ℕ) → declared_place caches name ≡ o → cond b (Some (length caches)) o ≡ declared_place (caches ++ def ∷ []) name
    go true e o k =
        let same : def.name ≡ name = (bytes_eq-Decides def.name name).0 e in
        let none : declared_place caches name ≡ None = rw (← same) unlike in
        let test : bytes_eq name def.name ≡ true = (bytes_eq-Decides name def.name).1 (sym same) in
        sym (position-push-None (λ (d : CacheDef). bytes_eq name d.name) caches def none ∙ ap (λ b. cond b (Some (length caches)) None) test)
    go false e (Some i) k = sym (position-push-Some (λ (d : CacheDef). bytes_eq name d.name) caches def i k)
    go false e None k =
        let test : bytes_eq name def.name ≡ false = unlike_turned (bytes_eq name def.name) refl in
        sym (position-push-None (λ (d : CacheDef). bytes_eq name d.name) caches def k ∙ ap (λ b. cond b (Some (length caches)) None) test)
      where
        unlike_turned : (b : Bool) → bytes_eq name def.name ≡ b → bytes_eq name def.name ≡ false
        unlike_turned true t = absurd (cc ((bytes_eq-Decides def.name name).1 (sym ((bytes_eq-Decides name def.name).0 t)), e))
        unlike_turned false t = t

none_from_number : (o : Option ℕ) → option_map (λ place. CLASS_COUNT + place) o ≡ None → o ≡ None
none_from_number None h = refl
none_from_number (Some place) h = absurd (cc h)

-- the numbers after one more cache
pub numbers-push : (old new : List CacheDef) (def : CacheDef) (named name : List ℕ) (number : ℕ) (before after : Option ℕ) → def.name ≡ named → declared_number old named ≡ None → number ≡ CLASS_COUNT + length old → new ≡ old ++ def ∷ []
    → before ≡ declared_number old name → after ≡ cond (bytes_eq named name) (Some number) before → after ≡ declared_number new name
numbers-push old new def named name number before after is_named unlike is_number longer is_before is_after =
    let fresh : declared_place old def.name ≡ None = none_from_number _ (rw is_named unlike) in
    rw (is_after, longer, is_number, is_before, ← is_named) (go (bytes_eq def.name name) ∙ ap (option_map (λ place. CLASS_COUNT + place)) (declared_place-push old def name fresh))
  where
    go : (b : Bool) → cond b (Some (CLASS_COUNT + length old)) (declared_number old name) ≡ option_map (λ place. CLASS_COUNT + place) (cond b (Some (length old)) (declared_place old name))
    go true = refl
    go false = refl
