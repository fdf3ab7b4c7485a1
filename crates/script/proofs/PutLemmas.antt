-- Bytes that are appended to a text, and what a refusal leaves.
use Rattle.std.proofs.Common.{◌≡◌, ℕ, ◌+◌, ◌-◌, ◌/◌, ◌%◌, ◌<◌, ◌≤◌, List, [], ◌∷◌, ◌++◌, length, map, take, drop, get_or, slice_index, append_assoc, arith, refl, sym, ap, ◌∙◌}
use Rattle.std.proofs.lemmas.List.{take_more}
use Rattle.std.proofs.lemmas.List.Folds.{flat_map-map}
use Rattle.std.specs.List.{flat_map, join_with_byte}
use Rattle.hex.specs.Hex.{encode_lower, encode_with, lower_digits}
use Rattle.umem_base.specs.Numbers.{hexadecimal, right_aligned}
use Rattle.script.specs.PlanText.{IsFront, frames_word}

-- nothing was appended
pub front_same : (old : List ℕ) → IsFront old old
front_same [] = refl
front_same (x ∷ old) = ap (λ (t : List ℕ). x ∷ t) (front_same old)

-- bytes were appended
pub front_put : (old new text : List ℕ) → new ≡ old ++ text → IsFront old new
front_put old new text e = rw e (go old)
  where
    go : (xs : List ℕ) → take (length xs) (xs ++ text) ≡ xs
    go [] = refl
    go (x ∷ xs) = ap (λ (t : List ℕ). x ∷ t) (go xs)

-- first to one text, and then to another
pub front_then : (old middle new : List ℕ) → IsFront old middle → IsFront middle new → IsFront old new
front_then [] middle new a b = refl
front_then (x ∷ old) [] new a b = absurd (cc a)
front_then (x ∷ old) (y ∷ middle) [] a b = absurd (cc b)
front_then (x ∷ old) (y ∷ middle) (z ∷ new) a b =
    let first : z ≡ x = cc (a, b) in
    let rest : take (length old) middle ≡ old = cc a in
    let more : take (length middle) new ≡ middle = cc b in
    rw first (ap (λ (t : List ℕ). x ∷ t) (front_then old middle new rest more))

-- text in no width has no spaces before it
pub aligned_none : (text : List ℕ) → right_aligned 0 text ≡ text
aligned_none text = let e : 0 - length text ≡ 0 = omega arith in rw e refl

-- parts with a byte between two are the first, and each other one behind the byte
pub joined_behind : (byte : ℕ) (first : List ℕ) (more : List (List ℕ)) → join_with_byte byte (first ∷ more) ≡ first ++ flat_map (λ (part : List ℕ). byte ∷ part) more
joined_behind byte first [] = append_nil first
  where
    append_nil : (xs : List ℕ) → xs ≡ xs ++ []
    append_nil [] = refl
    append_nil (x ∷ xs) = ap (λ (t : List ℕ). x ∷ t) (append_nil xs)
joined_behind byte first (next ∷ more) = ap (λ (t : List ℕ). first ++ byte ∷ t) (joined_behind byte next more)

-- digits of bytes that follow bytes
pub encode_lower-append : (xs ys : List ℕ) → encode_lower (xs ++ ys) ≡ encode_lower xs ++ encode_lower ys
unfolding encode_with
encode_lower-append [] ys = refl
encode_lower-append (x ∷ xs) ys = ap (λ (t : List ℕ). slice_index lower_digits (x / 16) ∷ slice_index lower_digits (x % 16) ∷ t) (encode_lower-append xs ys)

-- a part, and more parts behind a byte each
pub joined_put : {A : Type 0} (byte : ℕ) (view : A → List ℕ) (old middle new first : List ℕ) (more : List A) → middle ≡ old ++ first → new ≡ middle ++ flat_map (λ x. byte ∷ view x) more
    → new ≡ old ++ join_with_byte byte (first ∷ map view more)
joined_put {A} byte view old middle new first more before after =
    let behind : List ℕ = flat_map (λ (x : A). byte ∷ view x) more in
    let joined : join_with_byte byte (first ∷ map view more) ≡ first ++ behind = joined_behind byte first (map view more) ∙ ap (λ (t : List ℕ). first ++ t) (flat_map-map (λ (part : List ℕ). byte ∷ part) view more) in
    after ∙ ap (λ (t : List ℕ). t ++ behind) before ∙ append_assoc old first behind ∙ ap (λ (t : List ℕ). old ++ t) (sym joined)

-- the digits of one byte more
pub encode_lower-more : (old before new pair bytes : List ℕ) (i : ℕ) → i < length bytes → before ≡ old ++ encode_lower (take i bytes) → new ≡ before ++ pair → pair ≡ encode_lower (get_or bytes i 0 ∷ [])
    → new ≡ old ++ encode_lower (take (i + 1) bytes)
encode_lower-more old before new pair bytes i lt e put is =
    put ∙ ap (λ (t : List ℕ). t ++ pair) e ∙ append_assoc old (encode_lower (take i bytes)) pair
    ∙ ap (λ (t : List ℕ). old ++ (encode_lower (take i bytes) ++ t)) is
    ∙ ap (λ (t : List ℕ). old ++ t) (sym (encode_lower-append (take i bytes) (get_or bytes i 0 ∷ [])))
    ∙ ap (λ (t : List ℕ). old ++ encode_lower t) (sym (take_more bytes i 0 lt))

pub encode_lower-none : (old : List ℕ) → old ≡ old ++ encode_lower []
unfolding encode_with
encode_lower-none [] = refl
encode_lower-none (x ∷ old) = ap (λ (t : List ℕ). x ∷ t) (encode_lower-none old)

-- numbers with a comma between two: the first, and each other one behind a comma
pub frames_put : (old middle new frames : List ℕ) → 1 ≤ length frames → middle ≡ old ++ right_aligned 0 (hexadecimal (get_or frames 0 0)) → new ≡ middle ++ flat_map (λ frame. 44 ∷ hexadecimal frame) (drop 1 frames) → new ≡ old ++ frames_word frames
frames_put old middle new [] le before after = absurd (omega arith)
frames_put old middle new (frame ∷ frames) le before after =
    joined_put 44 hexadecimal old middle new (hexadecimal frame) frames (before ∙ ap (λ (t : List ℕ). old ++ t) (aligned_none (hexadecimal frame))) after
