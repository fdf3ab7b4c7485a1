-- Pairs of the items of a list that is turned round, and of the numbers below a bound.
use Rattle.std.proofs.Common.{◌≡◌, ℕ, ◌+◌, ◌<◌, ◌-◌, List, length, reverse, get_or, sym, subst, arith}
use Rattle.std.specs.Prelude.{AllPairs}
use Rattle.std.specs.List.{range_with_len}
use Rattle.std.proofs.lemmas.List.{get_or-reverse, length-reverse}
use Rattle.std.proofs.lemmas.List.FromFn.{get_or-range_with_len, length-range_with_len}

-- the pairs of a list stand the other way round in the list that is turned
pub AllPairs-turned : {X : Type 0} (R : X → X → Type 0) (xs : List X) → AllPairs R xs
    → AllPairs (λ a b. R b a) (reverse xs)
AllPairs-turned {X} R xs all i j d less lt =
    let many = length-reverse xs in
    let before : j < length xs = omega (arith, lt, many) in
    let first = get_or-reverse xs i d (omega (arith, less, before)) in
    let second = get_or-reverse xs j d before in
    subst (λ (a : X). R (get_or (reverse xs) j d) a) (sym first)
    (subst (λ (b : X). R b (get_or xs (length xs - 1 - i) d)) (sym second)
    (all (length xs - 1 - j) (length xs - 1 - i) d (omega (arith, less, before)) (omega (arith, less, before))))

-- what holds of each two numbers below a bound, in their order, holds of the pairs of their list
pub pair_by_index : (R : ℕ → ℕ → Type 0) (count : ℕ) → ((a b : ℕ) → a < b → b < count → R a b)
    → AllPairs R (range_with_len 0 count)
pair_by_index R count each i j d less lt =
    let long = length-range_with_len 0 count in
    let within : j < count = omega (arith, lt, long) in
    let one : get_or (range_with_len 0 count) i d ≡ 0 + i = get_or-range_with_len 0 count i d (omega (arith, less, within)) in
    let two : get_or (range_with_len 0 count) j d ≡ 0 + j = get_or-range_with_len 0 count j d within in
    each (get_or (range_with_len 0 count) i d) (get_or (range_with_len 0 count) j d) (omega (arith, one, two, less))
    (omega (arith, two, within))
