-- What names of caches there are: those of the classes are reserved, and apart.
use Rattle.std.proofs.Common.{◌≡◌, ℕ, ◌-◌, ◌<◌, ◌≤◌, ◌&&◌, true, leb, List, [], ◌∷◌, ◌++◌, length, refl, ap, ◌∙◌, append_assoc, arith, inl, inr}
use Rattle.std.specs.Fmt.{decimal, digits}
use Rattle.std.specs.List.{list_all}
use Rattle.std.proofs.lemmas.Bool.{and_parts, cases_order, leb-true}
use Rattle.std.proofs.lemmas.Bool.Decides.{nat_tests}
use Rattle.std.proofs.lemmas.Fmt.{decimal_injective}
use Rattle.std.proofs.lemmas.List.{append_cancel_left}
use Rattle.umem_base.specs.Numbers.{right_aligned}
use Rattle.case_table.specs.declared.cache_name.TheConstants.{CLASS_PREFIX}
use Rattle.case_table.specs.CacheName.{begins_with_letter, class_name, is_cache_name, is_name_byte, is_reserved_name}
use Rattle.case_table.specs.Sizes.{class_sizes, size_of}
use Rattle.case_table.proofs.SizesLemmas.{length-class_sizes, size_of-rises, size_of-small, test_at}

-- text in no width has no spaces before it
aligned_none : (text : List ℕ) → right_aligned 0 text ≡ text
aligned_none text = let e : 0 - length text ≡ 0 = omega arith in rw e refl

-- a number put behind a prefix
pub put_behind : (now middle start prefix : List ℕ) (number size : ℕ) → now ≡ middle ++ right_aligned 0 (decimal number) → middle ≡ start ++ prefix → number ≡ size
    → now ≡ start ++ (prefix ++ decimal size)
put_behind now middle start prefix number size put before is =
    let text = decimal size in
    rw is at put ∙ ap (λ (t : List ℕ). middle ++ t) (aligned_none text) ∙ ap (λ (t : List ℕ). t ++ text) before ∙ append_assoc start prefix text

-- ---- the names of the classes

-- each is formed as a cache's name
pub class_name-formed : (class : ℕ) → class < 32 → is_cache_name (class_name class) ≡ true
unfolding class_sizes size_of digits
class_name-formed class lt =
    test_at (λ size. is_cache_name (CLASS_PREFIX.now ++ decimal size)) class_sizes refl class (omega (arith, length-class_sizes))

-- each is reserved
pub class_name-reserved : (class : ℕ) → is_reserved_name (class_name class) ≡ true
class_name-reserved class = refl

-- two classes of one size are one
same_size : (i j : ℕ) → i < 32 → j < 32 → size_of i ≡ size_of j → i ≡ j
same_size i j i_is j_is same = elim (cases_order i j) [
  | inl e ↦ e
  | inr apart ↦ elim apart [
    | inl lt ↦ absurd (omega (arith, size_of-rises i j lt j_is))
    | inr gt ↦ absurd (omega (arith, size_of-rises j i gt i_is))
  ]
]

-- no two are called the same
pub class_name-apart : (i j : ℕ) → i < 32 → j < 32 → class_name i ≡ class_name j → i ≡ j
class_name-apart i j i_is j_is same =
    let digits = append_cancel_left CLASS_PREFIX.now (decimal (size_of i)) (decimal (size_of j)) same in
    same_size i j i_is j_is (decimal_injective (size_of i) (size_of j) (omega (arith, size_of-small i)) (omega (arith, size_of-small j)) digits)

-- ---- every name

-- what the test of a name tells
pub record IsNamed (name : List ℕ) : Type 0 where
  pub short : length name ≤ 31
  pub letter : begins_with_letter name ≡ true
  pub bytes : list_all is_name_byte name ≡ true

pub named : (name : List ℕ) → is_cache_name name ≡ true → IsNamed name
named name h =
    let parts = and_parts (leb (length name) 31 && begins_with_letter name) (list_all is_name_byte name) h in
    let first = and_parts (leb (length name) 31) (begins_with_letter name) parts.0 in
    record { short = leb-true (length name) 31 first.0; letter = first.1; bytes = parts.1 }

pub some_letter : (name : List ℕ) → begins_with_letter name ≡ true → 0 < length name
some_letter [] h = absurd cc
some_letter (first ∷ rest) h = omega arith

-- the bytes of a name stand from the digit 0 to the letter z
pub name_byte : (byte : ℕ) → is_name_byte byte ≡ true → (48 ≤ byte) × (byte ≤ 122)
name_byte byte h = (grind (arith, nat_tests), grind (arith, nat_tests))
