-- Where the first byte that is not the constructor's stands.
use Rattle.std.proofs.Common.{◌≡◌, ◌≢◌, ℕ, Bool, true, false, not, eqb, ltb, List, length, get_or, Some, None, ap, arith, eq-eqb}
use Rattle.std.specs.List.{All, position_or_len}
use Rattle.std.proofs.lemmas.Bool.{ne_eqb, lt-ltb}
use Rattle.std.proofs.lemmas.Bool.Decides.{nat_tests}
use Rattle.std.proofs.lemmas.List.Sums.{position_or_len_is}
use Rattle.buftag.specs.Unconstructed.{IsFirstOther, unconstructed_at}

-- a byte is not the value
abbrev is_other : ℕ → ℕ → Bool
is_other value byte = not (eqb byte value)

is_other-same : (value byte : ℕ) → byte ≡ value → is_other value byte ≡ false
is_other-same value byte e = ap not (eq-eqb byte value e)

is_other-other : (value byte : ℕ) → byte ≢ value → is_other value byte ≡ true
is_other-other value byte e = ap not (ne_eqb byte value e)

pub unconstructed_at-Some : (bytes : List ℕ) (value at : ℕ) → IsFirstOther bytes value at → unconstructed_at bytes value ≡ Some at
unconstructed_at-Some bytes value at first =
    let place : position_or_len (is_other value) bytes ≡ at =
    position_or_len_is (is_other value) bytes at 0 (omega (arith, first.within)) (λ k h. is_other-same value (get_or bytes k 0) (first.before k h)) (λ _. is_other-other value (get_or bytes at 0) first.other) in
    rw (place, lt-ltb at (length bytes) first.within)

pub unconstructed_at-None : (bytes : List ℕ) (value : ℕ) → All (λ byte. byte ≡ value) bytes → unconstructed_at bytes value ≡ None
unconstructed_at-None bytes value all =
    let n = length bytes in
    let place : position_or_len (is_other value) bytes ≡ n =
    position_or_len_is (is_other value) bytes n 0 (omega arith) (λ k h. is_other-same value (get_or bytes k 0) (all k 0 h)) (λ h. absurd (omega arith)) in
    let past : ltb n n ≡ false = grind (arith, nat_tests) in
    rw (place, past)
