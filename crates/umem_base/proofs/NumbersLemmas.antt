-- Digits, one more at a time.
use Rattle.std.proofs.Common.{◌≡◌, ℕ, zero, suc, ◌<◌, ◌≤◌, Bool, true, List, [], ◌∷◌, length, get_or, take, arith}
use Rattle.std.specs.Char.{digit_value, is_ascii_digit, is_ascii_hexdigit}
use Rattle.std.specs.List.{list_all}
use Rattle.std.specs.Str.Parse.{AllDigits, digits_value}
use Rattle.std.proofs.lemmas.Bool.{and_parts}
use Rattle.std.proofs.lemmas.Bool.Decides.{nat_tests}
use Rattle.std.proofs.lemmas.Str.Parse.{digits_value-take-le}

decimal_digit : (c : ℕ) → is_ascii_digit c ≡ true → digit_value c < 10
decimal_digit c h = grind (arith, nat_tests)

hex_digit : (c : ℕ) → is_ascii_hexdigit c ≡ true → digit_value c < 16
hex_digit c h = grind (arith, nat_tests)

-- each byte passes a test that digits alone pass
each_digit : (test : ℕ → Bool) (radix : ℕ) → ((c : ℕ) → test c ≡ true → digit_value c < radix) → (ds : List ℕ) → list_all test ds ≡ true → AllDigits radix ds
each_digit test radix fits [] h = tt
each_digit test radix fits (d ∷ ds) h =
    let both = and_parts (test d) (list_all test ds) h in
    (fits d both.0, each_digit test radix fits ds both.1)

pub decimal_digits : (ds : List ℕ) → list_all is_ascii_digit ds ≡ true → AllDigits 10 ds
decimal_digits ds h = each_digit is_ascii_digit 10 decimal_digit ds h

pub hex_digits : (ds : List ℕ) → list_all is_ascii_hexdigit ds ≡ true → AllDigits 16 ds
hex_digits ds h = each_digit is_ascii_hexdigit 16 hex_digit ds h

pub value_within : (radix : ℕ) (ds : List ℕ) (i : ℕ) → 2 ≤ radix → digits_value radix (take i ds) ≤ digits_value radix ds
value_within radix ds i le = digits_value-take-le radix ds i (omega arith)

pub digit_below : (radix : ℕ) (ds : List ℕ) (i : ℕ) → AllDigits radix ds → i < length ds → digit_value (get_or ds i 0) < radix
digit_below radix [] i h lt = absurd (omega arith)
digit_below radix (d ∷ ds) zero h lt = h.0
digit_below radix (d ∷ ds) (suc i) h lt = digit_below radix ds i h.1 (omega arith)
