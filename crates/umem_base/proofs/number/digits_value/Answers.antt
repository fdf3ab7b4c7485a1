use Rattle.std.proofs.Common.{◌≡◌, ◌+◌, ◌*◌, take, arith}
use Rattle.std.specs.Str.Parse.{digits_value}
use Rattle.std.proofs.lemmas.Int.Digits.{digits_value_more}
use Rattle.umem_base.proofs.NumbersLemmas.{digit_below, value_within}
use Rattle.umem_base.proofs.number.digits_value.Goals as goal

pub returns-in_err-unit : goal.returns-in_err-unit
returns-in_err-unit c =
    let below = digit_below c.args.radix c.args.digits.now c.loop-digit.digit-index c.requires.digits c.loop-digit-test.true in
    absurd (c.in_err-unit.ensures.value below)

pub returns-in_err-checked_mul : goal.returns-in_err-checked_mul
returns-in_err-checked_mul c =
    let ds = c.args.digits.now in
    let i = c.loop-digit.digit-index in
    let more = digits_value_more c.args.radix ds i c.loop-digit-test.true in
    let product : c.loop-digit.value * c.from.result ≡ digits_value c.args.radix (take c.loop-digit.digit-index c.args.digits.now) * c.args.radix = cc (c.loop-digit.invariant.value, c.from.ensures) in
    rw c.from_residual-in_err-checked_mul.ensures (λ small. c.in_err-checked_mul.ensures (omega (arith, more, product, value_within c.args.radix ds (i + 1) c.requires.low)))

pub returns-in_err-value : goal.returns-in_err-value
returns-in_err-value c =
    let ds = c.args.digits.now in
    let i = c.loop-digit.digit-index in
    let more = digits_value_more c.args.radix ds i c.loop-digit-test.true in
    let product : c.loop-digit.value * c.from.result ≡ digits_value c.args.radix (take c.loop-digit.digit-index c.args.digits.now) * c.args.radix = cc (c.loop-digit.invariant.value, c.from.ensures) in
    rw c.from_residual-in_err-value.ensures (λ small. c.in_err-value.ensures (omega (arith, more, product, c.in_ok-checked_mul.ensures.1, c.from-in-loop-digit.ensures, c.in_ok-unit.ensures.value, value_within c.args.radix ds (i + 1) c.requires.low)))

pub loop-digit-preserved : goal.loop-digit-preserved
loop-digit-preserved c =
    let more = digits_value_more c.args.radix c.args.digits.now c.loop-digit.digit-index c.loop-digit-test.true in
    let product : c.loop-digit.value * c.from.result ≡ digits_value c.args.radix (take c.loop-digit.digit-index c.args.digits.now) * c.args.radix = cc (c.loop-digit.invariant.value, c.from.ensures) in
    record {
      value = omega (arith, more, product, c.in_ok-value.ensures.1, c.in_ok-checked_mul.ensures.1, c.from-in-loop-digit.ensures, c.in_ok-unit.ensures.value);
      fits = omega (arith, c.in_ok-value.ensures.0, c.in_ok-value.ensures.1);
    }
