use Rattle.std.proofs.Common.{◌≡◌, ℕ, ◌≤◌, false, List, drop, length, ap, arith}
use Rattle.std.specs.Fmt.{digits, digits_onto}
use Rattle.std.proofs.lemmas.List.{drop_all}
use Rattle.umem_base.proofs.number.write_digits.Goals as goal

-- nothing is written yet
none_written : (buffer : List ℕ) (radix value : ℕ) → length buffer ≤ 64 → digits_onto 64 radix false value (drop 64 buffer) ≡ digits radix false value
unfolding digits
none_written buffer radix value le = ap (λ (rest : List ℕ). digits_onto 64 radix false value rest) (drop_all 64 buffer le)

pub loop-start-init : goal.loop-start-init
loop-start-init c =
    let long : length c.args.buffer.now ≤ 64 = omega arith in
    record { within = omega arith; written = none_written c.args.buffer.now c.args.radix c.args.value long }
