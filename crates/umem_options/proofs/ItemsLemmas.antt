-- An item is cut at its first `=`.
use Rattle.std.proofs.Common.{◌≡◌, ℕ, ◌+◌, ◌≤◌, ◌<◌, Bool, true, false, eqb, List, [], ◌∷◌, length, take, drop, Some, None, refl, sym, ap, ◌∙◌, inl, inr, arith}
use Rattle.std.specs.List.{slice_split, onto_first, position_or_len, join_with_byte}
use Rattle.std.proofs.lemmas.Bool.{cases_lt, lt-ltb, le-ltb}
use Rattle.std.proofs.lemmas.List.Splits.{slice_split_first, length-slice_split, join_with_byte-slice_split}
use Rattle.umem_base.specs.Cut as base
use Rattle.umem_options.specs.Items.{setting_of}

abbrev is_equals : ℕ → Bool
is_equals byte = eqb byte 61

abbrev parts_of : List ℕ → List (List ℕ)
parts_of bytes = base.cut 61 bytes

onto_first-is : (byte : ℕ) (parts : List (List ℕ)) → base.onto_first byte parts ≡ onto_first byte parts
onto_first-is byte [] = refl
onto_first-is byte (part ∷ parts) = refl

-- the parts in the words of std
parts_of-is : (bytes : List ℕ) → parts_of bytes ≡ slice_split is_equals bytes
parts_of-is [] = refl
parts_of-is (byte ∷ bytes) = rw (parts_of-is bytes, onto_first-is byte (slice_split is_equals bytes))

-- the parts give the bytes back
same_from_parts : (xs ys : List ℕ) → parts_of xs ≡ parts_of ys → xs ≡ ys
same_from_parts xs ys e =
    sym (join_with_byte-slice_split 61 xs) ∙ ap (join_with_byte 61) (sym (parts_of-is xs) ∙ e ∙ parts_of-is ys) ∙ join_with_byte-slice_split 61 ys

has_part : (bytes : List ℕ) → parts_of bytes ≡ [] → ⊥
has_part bytes e = omega (arith, length-slice_split is_equals bytes, ap length (sym (parts_of-is bytes) ∙ e))

-- without `=` the bytes are the one part
one_part : (bytes : List ℕ) → length bytes ≤ position_or_len is_equals bytes → parts_of bytes ≡ bytes ∷ []
one_part [] le = refl
one_part (byte ∷ bytes) le = by_byte (is_equals byte) refl (one_part bytes)
  where
    by_byte : (b : Bool) → is_equals byte ≡ b → (length bytes ≤ position_or_len is_equals bytes → parts_of bytes ≡ bytes ∷ []) → parts_of (byte ∷ bytes) ≡ (byte ∷ bytes) ∷ []
    by_byte true e rest = absurd (omega (arith, rw e at le))
    by_byte false e rest = rw (e, rest (omega (arith, rw e at le)))

-- the first part ends at the first `=`
two_parts : (bytes : List ℕ) → position_or_len is_equals bytes < length bytes
    → parts_of bytes ≡ take (position_or_len is_equals bytes) bytes ∷ parts_of (drop (position_or_len is_equals bytes + 1) bytes)
two_parts bytes lt =
    let rest = drop (position_or_len is_equals bytes + 1) bytes in
    parts_of-is bytes ∙ slice_split_first is_equals bytes 0 lt ∙ ap (λ (parts : List (List ℕ)). take (position_or_len is_equals bytes) bytes ∷ parts) (sym (parts_of-is rest))

-- what `split_once` says, in the words of the definition
pub no_setting : (item : List ℕ) → base.cut 61 item ≡ item ∷ [] → setting_of item ≡ None
no_setting item e =
    elim (cases_lt (position_or_len is_equals item) (length item)) [
      | inl lt ↦ absurd (has_part (drop (position_or_len is_equals item + 1) item) (let two = two_parts item lt in cc))
      | inr le ↦ rw (le-ltb (position_or_len is_equals item) (length item) le)
    ]

pub setting_is : (item name value : List ℕ) → base.cut 61 item ≡ name ∷ base.cut 61 value → setting_of item ≡ Some (name, value)
setting_is item name value e =
    elim (cases_lt (position_or_len is_equals item) (length item)) [
      | inl lt ↦
          let two = two_parts item lt in
          let name-is : take (position_or_len is_equals item) item ≡ name = cc in
          let value-is : drop (position_or_len is_equals item + 1) item ≡ value = same_from_parts _ _ cc in
          rw (lt-ltb (position_or_len is_equals item) (length item) lt, name-is, value-is)
      | inr le ↦ absurd (has_part value (let one = one_part item le in cc))
    ]
