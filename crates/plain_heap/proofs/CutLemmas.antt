-- Texts that begin alike: numbers and names that end before a byte of another kind.
use Rattle.std.proofs.Common.{◌≡◌, ℕ, zero, suc, ◌/◌, ◌%◌, ◌^◌, ◌<◌, ◌≤◌, Bool, true, false, cond, eqb, List, [], ◌∷◌, ◌++◌, refl, sym, ap, ◌∙◌, arith}
use Rattle.std.specs.Prelude.{decimal}
use Rattle.std.specs.Char.{digit_value}
use Rattle.std.specs.Fmt.{digit_glyph, digits, digits_onto}
use Rattle.std.specs.List.{AllByRecursion}
use Rattle.std.specs.Str.Parse.{AllDigits, digits_value}
use Rattle.std.proofs.lemmas.Bool.Decides.{nat_tests}
use Rattle.std.proofs.lemmas.Fmt.{decimal_is_IsNumeral, digits_is_IsNumeral}
use Rattle.umem_base.specs.Numbers.{hexadecimal}

-- what two texts that begin alike agree in: the front, and what is behind it
pub record AreAlike (one other one_rest other_rest : List ℕ) : Type 0 where
  pub front : one ≡ other
  pub rest : one_rest ≡ other_rest

-- two fronts of bytes of one kind, each before a byte of another kind, are one
pub alike : (P : ℕ → Type 0) (one other : List ℕ) (a b : ℕ) (xs ys : List ℕ) → AllByRecursion P one → AllByRecursion P other → (P a → ⊥) → (P b → ⊥) → one ++ a ∷ xs ≡ other ++ b ∷ ys
    → AreAlike one other (a ∷ xs) (b ∷ ys)
alike P [] [] a b xs ys h g na nb same = record { front = refl; rest = same }
alike P [] (y ∷ other) a b xs ys h g na nb same = let e : a ≡ y = cc in absurd (na (rw e g.0))
alike P (x ∷ one) [] a b xs ys h g na nb same = let e : x ≡ b = cc in absurd (nb (rw (← e) h.0))
alike P (x ∷ one) (y ∷ other) a b xs ys h g na nb same =
    let first : x ≡ y = cc in
    let behind : one ++ a ∷ xs ≡ other ++ b ∷ ys = cc in
    let next = alike P one other a b xs ys h.1 g.1 na nb behind in
    let fronts = next.front in
    record { front = cc; rest = next.rest }

-- ---- digits

-- a digit of at most 16
abbrev pub IsSomeDigit : ℕ → Type 0
IsSomeDigit c = digit_value c < 16

digits_of_some : (ds : List ℕ) → AllDigits 16 ds → AllByRecursion IsSomeDigit ds
digits_of_some [] h = tt
digits_of_some (d ∷ ds) h = (h.0, digits_of_some ds h.1)

tens_of_some : (ds : List ℕ) → AllDigits 10 ds → AllByRecursion IsSomeDigit ds
tens_of_some [] h = tt
tens_of_some (d ∷ ds) h = let first : digit_value d < 10 = h.0 in (omega arith, tens_of_some ds h.1)

pub space_is_none : IsSomeDigit 32 → ⊥
space_is_none h = omega arith

pub end_is_none : IsSomeDigit 10 → ⊥
end_is_none h = omega arith

-- two decimal numbers before a byte that is no digit are one
pub alike_decimal : (m n a b : ℕ) (xs ys : List ℕ) → m < 2 ^ 64 → n < 2 ^ 64 → (IsSomeDigit a → ⊥) → (IsSomeDigit b → ⊥) → decimal m ++ a ∷ xs ≡ decimal n ++ b ∷ ys
    → (m ≡ n) × (xs ≡ ys)
alike_decimal m n a b xs ys m_fits n_fits na nb same =
    let one = decimal_is_IsNumeral m m_fits in
    let other = decimal_is_IsNumeral n n_fits in
    let are = alike IsSomeDigit (decimal m) (decimal n) a b xs ys (tens_of_some (decimal m) one.0.1) (tens_of_some (decimal n) other.0.1) na nb same in
    let rest = are.rest in
    (sym one.1 ∙ ap (digits_value 10) are.front ∙ other.1, cc)

-- two hexadecimal numbers before a byte that is no digit are one
pub alike_hex : (m n a b : ℕ) (xs ys : List ℕ) → m < 2 ^ 64 → n < 2 ^ 64 → (IsSomeDigit a → ⊥) → (IsSomeDigit b → ⊥) → hexadecimal m ++ a ∷ xs ≡ hexadecimal n ++ b ∷ ys
    → (m ≡ n) × (xs ≡ ys)
alike_hex m n a b xs ys m_fits n_fits na nb same =
    let one = digits_is_IsNumeral 16 false (omega arith) (omega arith) m (omega arith) in
    let other = digits_is_IsNumeral 16 false (omega arith) (omega arith) n (omega arith) in
    let are = alike IsSomeDigit (hexadecimal m) (hexadecimal n) a b xs ys (digits_of_some (hexadecimal m) one.0.1) (digits_of_some (hexadecimal n) other.0.1) na nb same in
    let rest = are.rest in
    (sym one.1 ∙ ap (digits_value 16) are.front ∙ other.1, cc)

-- ---- a number is not the last line

-- the text begins with a digit
abbrev BeginsWithDigit : List ℕ → Type 0
BeginsWithDigit [] = ⊥
BeginsWithDigit (c ∷ cs) = c < 58

digit_low : (d : ℕ) → d < 10 → digit_glyph false d < 58
digit_low d lt = grind (arith, nat_tests)

last_digit : (n : ℕ) → digit_glyph false (n % 10) < 58
last_digit n = digit_low (n % 10) (omega arith)

either_begins : (b : Bool) (one other : List ℕ) → BeginsWithDigit one → BeginsWithDigit other → BeginsWithDigit (cond b one other)
either_begins true one other h g = h
either_begins false one other h g = g

onto_digit : (k n : ℕ) (acc : List ℕ) → BeginsWithDigit acc → BeginsWithDigit (digits_onto k 10 false n acc)
onto_digit zero n acc h = h
onto_digit (suc k) n acc h =
    let onto : List ℕ = digit_glyph false (n % 10) ∷ acc in
    either_begins (eqb (n / 10) 0) onto (digits_onto k 10 false (n / 10) onto) (last_digit n) (onto_digit k (n / 10) onto (last_digit n))

decimal_begins : (n : ℕ) → BeginsWithDigit (decimal n)
unfolding digits
decimal_begins n =
    let last : List ℕ = digit_glyph false (n % 10) ∷ [] in
    either_begins (eqb (n / 10) 0) last (digits_onto 63 10 false (n / 10) last) (last_digit n) (onto_digit 63 (n / 10) last (last_digit n))

letter_first : (c : ℕ) (cs ds : List ℕ) → 58 ≤ c → BeginsWithDigit ds → (rest : List ℕ) → c ∷ cs ≡ ds ++ rest → ⊥
letter_first c cs [] high h rest same = h
letter_first c cs (d ∷ ds) high h rest same = let e : c ≡ d = cc in let low : d < 58 = h in absurd (omega arith)

-- a text that begins with a letter does not begin with a decimal number
pub letter_is_no_number : (c n : ℕ) (cs rest : List ℕ) → 58 ≤ c → c ∷ cs ≡ decimal n ++ rest → ⊥
letter_is_no_number c n cs rest high same = letter_first c cs (decimal n) high (decimal_begins n) rest same
