-- What stands at each step from a base on is known by its address.
use Rattle.std.proofs.Common.{◌≡◌, ℕ, ◌+◌, ◌-◌, ◌*◌, ◌/◌, ◌^◌, ◌<◌, ◌&&◌, eqb, ltb, eq-eqb, Some, refl, ap, ◌∙◌, arith}
use Rattle.std.proofs.Math.Nat.{mul-div_cancel_left}
use Rattle.std.proofs.lemmas.Bool.{and_parts, eqb-true, lt-ltb}
use Rattle.std.proofs.lemmas.Option.{cond_some}
use Rattle.case_table.specs.Addresses.{number_at}

-- what stands at a number is found at its address
pub number_at-own : (base step number : ℕ) → 0 < step → number < 2 ^ 32 → number_at base step (base + step * number) ≡ Some number
number_at-own base step number some small =
    let past : base + step * number - base ≡ step * number = omega arith in
    let back : (base + step * number - base) / step ≡ number = ap (λ (n : ℕ). n / step) past ∙ mul-div_cancel_left number some in
    rw (back, lt-ltb number (2 ^ 32) small, eq-eqb (base + step * number) (base + step * number) refl) refl

-- what is found at an address stands there
pub number_at-only : (base step address number : ℕ) → number_at base step address ≡ Some number → base + step * number ≡ address
number_at-only base step address number found =
    let place = (address - base) / step in
    let parts = cond_some (ltb place (2 ^ 32) && eqb (base + step * place) address) place number found in
    let stands = eqb-true (base + step * place) address (and_parts (ltb place (2 ^ 32)) (eqb (base + step * place) address) parts.0).1 in
    rw parts.1 at stands
