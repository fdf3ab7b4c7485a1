-- What holds of an item of a list, and of those before it.
use Rattle.std.proofs.Common.{◌≡◌, ℕ, zero, suc, ◌-◌, ◌<◌, true, List, [], ◌∷◌, ◌++◌, length, get_or, Option, Some, None, refl, ap, subst, ◌∙◌, arith, inl, inr, ◌⊎◌}
use Rattle.std.specs.Prelude.{All, AllPairs, Bool, map, ◌||◌}
use Rattle.std.specs.List.{list_any}
use Rattle.std.specs.Option.{option_map}
use Rattle.std.proofs.lemmas.Bool.{lt-ltb}
use Rattle.std.proofs.lemmas.List.{get_or_append_left, length-append}
use Rattle.core_format.specs.Items.{is_above, last_of_list}
use Rattle.core_format.proofs.RangeLemmas.{last_get}

at_split : {A : Type 0} (before left : List A) (x d : A) → get_or (before ++ x ∷ left) (length before) d ≡ x
at_split [] left x d = refl
at_split (b ∷ before) left x d = at_split before left x d

pub split_bound : {A : Type 0} (all before left : List A) (x : A) → all ≡ before ++ x ∷ left → length before < length all
split_bound all before left x e = omega (arith, ap length e, length-append before (x ∷ left))

pub split_is : {A : Type 0} (all before left : List A) (x d : A) → all ≡ before ++ x ∷ left → get_or all (length before) d ≡ x
split_is {A} all before left x d e = ap (λ (t : List A). get_or t (length before) d) e ∙ at_split before left x d

-- what holds of all holds of it
pub item_so : {A : Type 0} (P : A → Type 0) (all before : List A) (x : A) (left : List A) → All P all → all ≡ before ++ x ∷ left → P x
item_so {A} P all before x left so e =
    let same : get_or all (length before) x ≡ x = ap (λ (t : List A). get_or t (length before) x) e ∙ at_split before left x x in
    subst P same (so (length before) x (split_bound all before left x e))

-- what holds of each at its index holds of it at its own
pub item_at_so : {A : Type 0} (P : ℕ → A → Type 0) (all before : List A) (x : A) (left : List A) → ((k : ℕ) (d : A) → k < length all → P k (get_or all k d)) → all ≡ before ++ x ∷ left → P (length before) x
item_at_so {A} P all before x left so e =
    let same : get_or all (length before) x ≡ x = ap (λ (t : List A). get_or t (length before) x) e ∙ at_split before left x x in
    subst (P (length before)) same (so (length before) x (split_bound all before left x e))

-- those before it are so to it
pub earlier_so : {A : Type 0} (R : A → A → Type 0) (all before : List A) (x : A) (left : List A) → AllPairs R all → all ≡ before ++ x ∷ left → All (λ y. R y x) before
earlier_so {A} R all before x left so e k d lt =
    let own : get_or all (length before) d ≡ x = ap (λ (t : List A). get_or t (length before) d) e ∙ at_split before left x d in
    let other : get_or all k d ≡ get_or before k d = ap (λ (t : List A). get_or t k d) e ∙ get_or_append_left before (x ∷ left) d k lt in
    subst (λ (y : A). R y x) other (subst (R (get_or all k d)) own (so k (length before) d lt (split_bound all before left x e)))

pub all_map : {A B : Type 0} (view : A → B) (P : B → Type 0) (xs : List A) → All (λ x. P (view x)) xs → All P (map view xs)
all_map view P [] so k d lt = absurd (omega arith)
all_map view P (x ∷ xs) so zero d lt = so zero x (omega arith)
all_map view P (x ∷ xs) so (suc k) d lt = all_map view P xs (λ j e less. so (suc j) e (omega arith)) k d (omega arith)

pub all_weaker : {A : Type 0} (P Q : A → Type 0) (xs : List A) → ((x : A) → P x → Q x) → All P xs → All Q xs
all_weaker P Q xs f so k d lt = f (get_or xs k d) (so k d lt)

-- the last one is so, if there is one
pub last_so : {A : Type 0} (P : A → Type 0) (xs : List A) → All P xs → (last_of_list xs ≡ None) ⊎ ((x : A) × (last_of_list xs ≡ Some x) × P x)
last_so P [] so = inl refl
last_so P (x ∷ xs) so =
    let index = length (x ∷ xs) - 1 in
    inr (get_or (x ∷ xs) index x, last_get (x ∷ xs) index x (omega arith), so index x (omega arith))

-- a number above those before it is above the last
pub above_so : {A : Type 0} (key : A → ℕ) (number : ℕ) (xs : List A) → All (λ x. key x < number) xs → is_above (option_map key (last_of_list xs)) number ≡ true
above_so {A} key number xs so = elim (last_so (λ x. key x < number) xs so) [
  | inl e ↦ ap (λ (o : Option A). is_above (option_map key o) number) e
  | inr last ↦ ap (λ (o : Option A). is_above (option_map key o) number) last.1 ∙ lt-ltb (key last.0) number last.2
]

pub above_itself : (number : ℕ) (xs : List ℕ) → All (λ x. x < number) xs → is_above (last_of_list xs) number ≡ true
above_itself number xs so = elim (last_so (λ x. x < number) xs so) [
  | inl e ↦ ap (λ (o : Option ℕ). is_above o number) e
  | inr last ↦ ap (λ (o : Option ℕ). is_above o number) last.1 ∙ lt-ltb last.0 number last.2
]

-- a test that does not see what a view drops
pub any_view : {A B : Type 0} (view : A → B) (p : B → Bool) (xs : List A) → list_any p (map view xs) ≡ list_any (λ x. p (view x)) xs
any_view view p [] = refl
any_view {A} {B} view p (x ∷ xs) = ap (λ (b : Bool). p (view x) || b) (any_view view p xs)
