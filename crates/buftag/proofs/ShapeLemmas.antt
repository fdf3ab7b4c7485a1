-- What follows of a chunk's shape.
use Rattle.std.proofs.Common.{◌≡◌, ℕ, zero, suc, ◌+◌, ◌-◌, ◌/◌, ◌<◌, ◌≤◌, ◌∙◌, ◌&&◌, Bool, true, false, cond, eqb, leb, List, Option, Some, None, is_some, refl, ap, sym, arith}
use Rattle.std.specs.Option.{option_eq, option_and_then}
use Rattle.std.proofs.lemmas.Bool.{and_parts, eqb-true}
use Rattle.std.proofs.lemmas.Bool.Decides.{nat_tests}
use Rattle.case_table.specs.Geometry.{content_of}
use Rattle.case_table.specs.Sizes.{class_for, size_of, IsLeastClass}
use Rattle.case_table.proofs.SizesLemmas.{class_for-small, least_from_class, size_of-small, size_of-some, size_of-words}
use Rattle.buftag.specs.declared.shape.Shape.{Shape}
use Rattle.buftag.specs.Codes.{code_of, coded_size}
use Rattle.buftag.specs.Findings.{tag_half, is_served, told_size}
use Rattle.buftag.specs.Shape.{IsShape}

-- the content holds the size
pub size-content : (size content : ℕ) → content ≡ content_of size → size ≤ content
size-content size content e = omega arith

-- a size that the class serves is not above the content
pub served-within : (shape : Shape) (class size : ℕ) → IsShape shape → shape.class ≡ Some class → class_for size ≡ Some class → size ≤ shape.content
served-within shape class size s is served =
    let least : IsLeastClass size class = least_from_class size class served in
    let own = rw is at s.class in
    omega (arith, size-content shape.size shape.content s.words, least.holds, own.1)

-- a value that passed a test
passed : (test : ℕ → Bool) (o : Option ℕ) (size : ℕ) → option_and_then (λ s. cond (test s) (Some s) None) o ≡ Some size → (o ≡ Some size) × (test size ≡ true)
passed test None size e = absurd (cc)
passed test (Some s) size e =
    let both : (b : Bool) → test s ≡ b → cond b (Some s) None ≡ Some size → (Some s ≡ Some size) × (test size ≡ true) =
    λ b. elim b as (λ b. test s ≡ b → cond b (Some s) None ≡ Some size → (Some s ≡ Some size) × (test size ≡ true)) [
      | true ↦ λ t e. (e, (let same : s ≡ size = cc in ap test (sym same) ∙ t))
      | false ↦ λ t e. absurd (cc)
    ] in
    both (test s) refl e

-- the same where the value does not depend on the test
pub passed_value : (b : Bool) (size value : ℕ) → cond b (Some value) None ≡ Some size → (b ≡ true) × (value ≡ size)
passed_value true size value e = (refl, cc)
passed_value false size value e = absurd (cc)

-- a coded size is small
coded_size-small : (code size : ℕ) → coded_size code ≡ Some size → size ≤ 4096
coded_size-small code size e =
    let value = (code - 1) / 251 in
    let both = passed_value (eqb code (code_of value) && leb value 4096) size value e in
    let tests : eqb code (code_of value) && leb value 4096 ≡ true = both.0 in
    let same : value ≡ size = both.1 in
    grind (arith, nat_tests, same, tests)

-- a coded size is the one of the code
pub coded_size-code : (code size : ℕ) → coded_size code ≡ Some size → code ≡ code_of size
coded_size-code code size e =
    let value = (code - 1) / 251 in
    let both = passed_value (eqb code (code_of value) && leb value 4096) size value e in
    let parts = and_parts (eqb code (code_of value)) (leb value 4096) both.0 in
    eqb-true code (code_of value) parts.0 ∙ ap code_of both.1

-- two options of numbers that test as equal are equal
pub same_option : (a b : Option ℕ) → option_eq eqb a b ≡ true → a ≡ b
same_option None None e = refl
same_option None (Some y) e = absurd (cc)
same_option (Some x) None e = absurd (cc)
same_option (Some x) (Some y) e = let same : x ≡ y = grind (arith, nat_tests) in ap Some same

-- a size without a class, if it is small, is 0
no_class : (size : ℕ) → size ≤ 4096 → class_for size ≡ None → size ≡ 0
no_class zero small none = refl
no_class (suc n) small none =
    let served : is_some (class_for (suc n)) ≡ true = class_for-small (suc n) (omega arith) small in
    let unserved : is_some (class_for (suc n)) ≡ false = ap is_some none in
    absurd (cc)

-- a size of the chunk's class, or of none, is not above the content
within : (shape : Shape) (size : ℕ) (class : Option ℕ) → IsShape shape → shape.class ≡ class → class_for size ≡ class → size ≤ 4096 → size ≤ shape.content
within shape size None s is served small = let none = no_class size small served in omega arith
within shape size (Some class) s is served small = served-within shape class size s is served

-- the size that a tag tells is that of its code, and has the chunk's class
pub told_size-parts : (bytes : List ℕ) (shape : Shape) (size : ℕ) → told_size bytes shape ≡ Some size
    → (coded_size (tag_half bytes (shape.content + 4)) ≡ Some size) × (class_for size ≡ shape.class)
told_size-parts bytes shape size e =
    let both = passed (is_served shape) (coded_size (tag_half bytes (shape.content + 4))) size e in
    (both.0, same_option (class_for size) shape.class both.1)

pub told_size-within : (bytes : List ℕ) (shape : Shape) (size : ℕ) → IsShape shape → told_size bytes shape ≡ Some size → size ≤ shape.content
told_size-within bytes shape size s e =
    let both = told_size-parts bytes shape size e in
    within shape size shape.class s refl both.1 (coded_size-small (tag_half bytes (shape.content + 4)) size both.0)

-- the shape of a class
pub IsShape-class : (size class bufctl : ℕ) → class < 32 → size ≡ size_of class → IsShape (record { size = size; content = size; bufctl = bufctl; class = Some class })
IsShape-class size class bufctl within own =
    record {
      some = rw own (size_of-some class within);
      small = rw own (size_of-small class);
      words = rw own (sym (size_of-words class within));
      class = (within, own);
    }
