-- Items that are kept of a list, without the first ones.
use Rattle.std.proofs.Common.{◌≡◌, ℕ, zero, suc, ◌+◌, ◌-◌, ◌<◌, ◌≤◌, Bool, true, false, cond, List, [], ◌∷◌, ◌++◌, length, drop, take, get_or, Option, Some, None, refl, sym, ap, ◌∙◌, subst, arith}
use mir.Val.{bool_byte}
use Rattle.std.specs.Prelude.{filter_map, flat_map, is_some, slice_get, zip}
use Rattle.std.specs.List.{cons_option, range_with_len}
use Rattle.std.proofs.lemmas.List.{append-nil, append_assoc, drop-append-le, length-append, take_more}
use Rattle.std.proofs.lemmas.Grind.{flat_map-append}
use Rattle.std.proofs.lemmas.List.Elements.{filter_map-append}
use Rattle.std.proofs.lemmas.Slice.Zip.{length-zip}
use Rattle.std.proofs.Math.ListN.{drop_of_length-le}

-- ---- one item more

-- one place more of a list
take_next : {X : Type 0} (xs : List X) (i : ℕ) (x : X) → slice_get xs i ≡ Some x → take (suc i) xs ≡ take i xs ++ x ∷ []
take_next [] i x at = absurd (cc at)
take_next (y ∷ xs) zero x at = let same : y ≡ x = cc in ap (λ z. z ∷ []) same
take_next (y ∷ xs) (suc i) x at = ap (λ zs. y ∷ zs) (take_next xs i x at)

-- what is kept with one item more
pub kept_next : {X Y : Type 0} (f : X → Option Y) (xs : List X) (i : ℕ) (x : X) → slice_get xs i ≡ Some x
    → filter_map f (take (i + 1) xs) ≡ filter_map f (take i xs) ++ cons_option (f x) []
kept_next f xs i x at =
    let one : i + 1 ≡ suc i = omega arith in
    ap (λ n. filter_map f (take n xs)) one ∙ ap (filter_map f) (take_next xs i x at) ∙ filter_map-append f (take i xs) (x ∷ [])

-- where the item gives nothing
pub kept_none : {X Y : Type 0} (f : X → Option Y) (xs : List X) (i : ℕ) (x : X) → slice_get xs i ≡ Some x → f x ≡ None → filter_map f (take (i + 1) xs) ≡ filter_map f (take i xs)
kept_none {X} {Y} f xs i x at none =
    kept_next f xs i x at ∙ ap (λ (o : Option Y). filter_map f (take i xs) ++ cons_option o []) none ∙ append-nil (filter_map f (take i xs))

-- where it gives one
pub kept_some : {X Y : Type 0} (f : X → Option Y) (xs : List X) (i : ℕ) (x : X) (y : Y) → slice_get xs i ≡ Some x → f x ≡ Some y
    → filter_map f (take (i + 1) xs) ≡ filter_map f (take i xs) ++ y ∷ []
kept_some {X} {Y} f xs i x y at some = kept_next f xs i x at ∙ ap (λ (o : Option Y). filter_map f (take i xs) ++ cons_option o []) some

-- ---- counts

length_option : {Y : Type 0} (o : Option Y) → length (cons_option o []) ≡ cond (is_some o) 1 0
length_option None = refl
length_option (Some y) = refl

-- one is kept more, or none
pub count_next : {X Y : Type 0} (f : X → Option Y) (xs : List X) (i : ℕ) (x : X) (b : Bool) → slice_get xs i ≡ Some x → b ≡ is_some (f x)
    → length (filter_map f (take (i + 1) xs)) ≡ length (filter_map f (take i xs)) + cond b 1 0
count_next f xs i x b at is =
    ap length (kept_next f xs i x at) ∙ length-append (filter_map f (take i xs)) (cons_option (f x) [])
    ∙ ap (λ n. length (filter_map f (take i xs)) + n) (length_option (f x) ∙ ap (λ (t : Bool). cond {A = ℕ} t 1 0) (sym is))

-- a test as a number
pub byte_is : (b : Bool) → bool_byte b ≡ cond b 1 0
byte_is true = refl
byte_is false = refl

pub one_at_most : (b : Bool) → cond {A = ℕ} b 1 0 ≤ 1
one_at_most true = omega arith
one_at_most false = omega arith

-- ---- without the first ones

-- how many are still to be passed over, and those behind them
pub record ArePassed {X Y : Type 0} (f : X → Option Y) (xs : List X) (passed left : ℕ) (items : List Y) : Type 0 where
  pub left_is : left ≡ passed - length (filter_map f xs)
  pub items_are : items ≡ drop passed (filter_map f xs)

pub none_passed : {X Y : Type 0} (f : X → Option Y) (xs : List X) (passed : ℕ) → ArePassed f (take 0 xs) passed passed []
none_passed f xs passed = record { left_is = omega arith; items_are = sym (drop_of_length-le [] (omega arith)) }

-- one is passed over, if it gives something
pub pass_next : {X Y : Type 0} (f : X → Option Y) (xs : List X) (i passed left : ℕ) (items : List Y) (x : X) (b : Bool) → slice_get xs i ≡ Some x → b ≡ is_some (f x) → 0 < left
    → ArePassed f (take i xs) passed left items → ArePassed f (take (i + 1) xs) passed (left - cond b 1 0) items
pass_next f xs i passed left items x b at is some are =
    let count = count_next f xs i x b at is in
    let most = one_at_most b in
    record {
      left_is = omega (arith, count, are.left_is);
      items_are = are.items_are ∙ drop_of_length-le (filter_map f (take i xs)) (omega (arith, are.left_is, some)) ∙ sym (drop_of_length-le (filter_map f (take (i + 1) xs)) (omega (arith, count, most, are.left_is, some)));
    }

-- none is passed over any more
pub push_next : {X Y : Type 0} (f : X → Option Y) (xs : List X) (i passed left : ℕ) (items : List Y) (x : X) → slice_get xs i ≡ Some x → left ≤ 0
    → ArePassed f (take i xs) passed left items → ArePassed f (take (i + 1) xs) passed left (items ++ cons_option (f x) [])
push_next {X} {Y} f xs i passed left items x at none are =
    let enough : passed ≤ length (filter_map f (take i xs)) = omega (arith, are.left_is, none) in
    let count = ap length (kept_next f xs i x at) ∙ length-append (filter_map f (take i xs)) (cons_option (f x) []) in
    record {
      left_is = omega (arith, count, are.left_is, none);
      items_are =
          ap (λ (ys : List Y). ys ++ cons_option (f x) []) are.items_are ∙ sym (drop-append-le passed (filter_map f (take i xs)) (cons_option (f x) []) enough)
          ∙ ap (drop passed) (sym (kept_next f xs i x at));
    }

-- the same with the number of a test
pub pass_by : {X Y : Type 0} (f : X → Option Y) (xs : List X) (i passed left n : ℕ) (items : List Y) (x : X) (b : Bool) → slice_get xs i ≡ Some x → b ≡ is_some (f x) → n ≡ bool_byte b → 0 < left
    → ArePassed f (take i xs) passed left items → ArePassed f (take (i + 1) xs) passed (left - n) items
pass_by {X} {Y} f xs i passed left n items x b at is number some are =
    subst (λ (m : ℕ). ArePassed f (take (i + 1) xs) passed (left - m) items) (sym (number ∙ byte_is b)) (pass_next f xs i passed left items x b at is some are)

-- and with what was pushed
pub push_by : {X Y : Type 0} (f : X → Option Y) (xs : List X) (i passed left : ℕ) (items next : List Y) (x : X) (o : Option Y) → slice_get xs i ≡ Some x → o ≡ f x → next ≡ items ++ cons_option o [] → left ≤ 0
    → ArePassed f (take i xs) passed left items → ArePassed f (take (i + 1) xs) passed left next
push_by {X} {Y} f xs i passed left items next x o at is pushed none are =
    subst (ArePassed f (take (i + 1) xs) passed left) (sym (pushed ∙ ap (λ (p : Option Y). items ++ cons_option p []) is)) (push_next f xs i passed left items x at none are)

-- one is counted more, by the number of a test
pub count_by_byte : {X Y : Type 0} (f : X → Option Y) (xs : List X) (i count n : ℕ) (x : X) (b : Bool) → slice_get xs i ≡ Some x → b ≡ is_some (f x) → n ≡ bool_byte b
    → count ≡ length (filter_map f (take i xs)) → count + n ≡ length (filter_map f (take (i + 1) xs))
count_by_byte f xs i count n x b at is number counted = omega (arith, count_next f xs i x b at is, number, byte_is b, counted)

-- the number of a test is small
pub byte_small : (n : ℕ) (b : Bool) → n ≡ bool_byte b → n ≤ 1
byte_small n b number = omega (arith, number, byte_is b, one_at_most b)

-- ---- an item beside another

-- the items at a place of two lists
pub both_at : {A B : Type 0} (xs : List A) (ys : List B) (i : ℕ) (d x : A) (e y : B) → i < length xs → length ys ≡ length xs → x ≡ get_or xs i d → y ≡ get_or ys i e
    → slice_get (zip xs ys) i ≡ Some (x, y)
both_at [] ys i d x e y lt same is its = absurd (omega arith)
both_at (a ∷ xs) [] i d x e y lt same is its = absurd (omega arith)
both_at {A} {B} (a ∷ xs) (b ∷ ys) zero d x e y lt same is its = ap (λ (p : A). Some (p, b)) (sym is) ∙ ap (λ (q : B). Some (x, q)) (sym its)
both_at (a ∷ xs) (b ∷ ys) (suc i) d x e y lt same is its = both_at xs ys i d x e y (omega arith) (omega arith) is its

-- the item at a place
pub one_at : {A : Type 0} (xs : List A) (i : ℕ) (d x : A) → i < length xs → x ≡ get_or xs i d → slice_get xs i ≡ Some x
one_at [] i d x lt is = absurd (omega arith)
one_at {A} (a ∷ xs) zero d x lt is = ap (λ (p : A). Some p) (sym is)
one_at (a ∷ xs) (suc i) d x lt is = one_at xs i d x (omega arith) is

pub both_count : {A B : Type 0} (xs : List A) (ys : List B) → length ys ≡ length xs → length (zip xs ys) ≡ length xs
both_count xs ys same = length-zip xs ys ∙ omega (arith, same)

-- ---- ranges

-- one number more of a range
pub range_next : (first count : ℕ) → range_with_len first (suc count) ≡ range_with_len first count ++ (first + count) ∷ []
range_next first zero = ap (λ n. n ∷ []) (omega arith)
range_next first (suc count) =
    let moved : (first + 1) + count ≡ first + suc count = omega arith in
    ap (λ ns. first ∷ ns) (range_next (first + 1) count ∙ ap (λ n. range_with_len (first + 1) count ++ n ∷ []) moved)

-- what is kept of a range with one number more
pub range_push : {Y : Type 0} (g : ℕ → Option Y) (first at : ℕ) (old now next : List Y) (o : Option Y) → first ≤ at → now ≡ old ++ filter_map g (range_with_len first (at - first)) → o ≡ g at
    → next ≡ now ++ cons_option o [] → next ≡ old ++ filter_map g (range_with_len first (at + 1 - first))
range_push {Y} g first at old now next o le is its pushed =
    let count : at + 1 - first ≡ suc (at - first) = omega arith in
    let here : first + (at - first) ≡ at = omega arith in
    let kept = filter_map g (range_with_len first (at - first)) in
    let more : filter_map g (range_with_len first (suc (at - first))) ≡ kept ++ cons_option (g at) [] =
    ap (filter_map g) (range_next first (at - first)) ∙ filter_map-append g (range_with_len first (at - first)) ((first + (at - first)) ∷ [])
    ∙ ap (λ n. kept ++ cons_option (g n) []) here in
    pushed ∙ ap (λ (p : Option Y). now ++ cons_option p []) its ∙ ap (λ (l : List Y). l ++ cons_option (g at) []) is ∙ append_assoc old kept (cons_option (g at) [])
    ∙ ap (λ (l : List Y). old ++ l) (sym more ∙ ap (λ n. filter_map g (range_with_len first n)) (sym count))

-- what is kept of the ranges of a list with one range more
pub ranges_push : {X Y : Type 0} (h : X → List ℕ) (g : ℕ → Option Y) (xs : List X) (i : ℕ) (d : X) (now next : List Y) → i < length xs → now ≡ filter_map g (flat_map h (take i xs))
    → next ≡ now ++ filter_map g (h (get_or xs i d)) → next ≡ filter_map g (flat_map h (take (i + 1) xs))
ranges_push {X} {Y} h g xs i d now next lt is pushed =
    pushed ∙ ap (λ (l : List Y). l ++ filter_map g (h (get_or xs i d))) is ∙ sym (filter_map-append g (flat_map h (take i xs)) (h (get_or xs i d)))
    ∙ ap (filter_map g) (sym (ap (flat_map h) (take_more xs i d lt) ∙ flat_map-append h (take i xs) (get_or xs i d ∷ []) ∙ ap (λ l. flat_map h (take i xs) ++ l) (append-nil (h (get_or xs i d)))))
