use Rattle.std.proofs.Common.{sym, ◌∙◌}
use Rattle.umem_base.proofs.NumbersLemmas.{decimal_digits}
use Rattle.umem_base.proofs.number.read_decimal.Goals as goal

pub digits_value-requires-clause-digits : goal.digits_value-requires-clause-digits
digits_value-requires-clause-digits c = decimal_digits c.args.bytes.now (sym c.are_decimal_digits.ensures ∙ c.if-not-are_decimal_digits.false)
