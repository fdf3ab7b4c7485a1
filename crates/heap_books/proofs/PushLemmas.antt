-- Numbers that are gathered piece by piece, in a list that grows.
use Rattle.std.proofs.Common.{◌≡◌, ℕ, ◌+◌, ◌<◌, ◌≤◌, List, [], ◌∷◌, ◌++◌, length, take, get_or, sym, ap, ◌∙◌, arith}
use Rattle.std.specs.List.{flat_map, range_with_len}
use Rattle.std.proofs.lemmas.List.{append-nil, append_assoc, map-id, take_all}
use Rattle.std.proofs.lemmas.List.Concat.{flat_map-append}
use Rattle.std.proofs.lemmas.List.FromFn.{map-range_with_len_more}
use Rattle.shelf.proofs.Lists.{flat_map_take}

-- one piece more
pub pushed : {X : Type 0} (f : X → List ℕ) (old now new : List ℕ) (xs : List X) (i : ℕ) (x : X) → i < length xs
    → x ≡ get_or xs i x → now ≡ old ++ flat_map f (take i xs) → new ≡ now ++ f x
    → new ≡ old ++ flat_map f (take (i + 1) xs)
pushed f old now new xs i x lt is so_far push =
    push ∙ ap (λ (l : List ℕ). l ++ f x) so_far ∙ append_assoc old (flat_map f (take i xs)) (f x)
    ∙ ap (λ (l : List ℕ). old ++ l) (sym (flat_map_take f xs i (i + 1) x (omega arith) lt is))

-- no piece yet, and all pieces
pub pushed_none : (old : List ℕ) → old ≡ old ++ []
pushed_none old = sym (append-nil old)

pub pushed_all : {X : Type 0} (f : X → List ℕ) (old now : List ℕ) (xs : List X) (i : ℕ) → length xs ≤ i
    → now ≡ old ++ flat_map f (take i xs) → now ≡ old ++ flat_map f xs
pushed_all {X} f old now xs i past so_far = so_far ∙ ap (λ (l : List X). old ++ flat_map f l) (take_all i xs past)

-- two pieces at once
pub pushed_two : (now between new one other : List ℕ) → between ≡ now ++ one → new ≡ between ++ other
    → new ≡ now ++ (one ++ other)
pushed_two now between new one other first second =
    second ∙ ap (λ (l : List ℕ). l ++ other) first ∙ append_assoc now one other

-- a number more
range_more : (n : ℕ) → range_with_len 0 (n + 1) ≡ range_with_len 0 n ++ n ∷ []
range_more n =
    sym (map-id (range_with_len 0 (n + 1))) ∙ map-range_with_len_more (λ (k : ℕ). k) 0 n n (omega arith)
    ∙ ap (λ (l : List ℕ). l ++ n ∷ []) (map-id (range_with_len 0 n))

-- one piece more, of a number
pub pushed_number : (f : ℕ → List ℕ) (now new : List ℕ) (n : ℕ) → now ≡ flat_map f (range_with_len 0 n)
    → new ≡ now ++ f n → new ≡ flat_map f (range_with_len 0 (n + 1))
pushed_number f now new n so_far push =
    push ∙ ap (λ (l : List ℕ). l ++ f n) so_far ∙ ap (λ (l : List ℕ). flat_map f (range_with_len 0 n) ++ l) (sym (append-nil (f n)))
    ∙ sym (flat_map-append f (range_with_len 0 n) (n ∷ [])) ∙ ap (flat_map f) (sym (range_more n))
