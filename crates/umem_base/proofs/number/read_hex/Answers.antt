use Rattle.std.proofs.Common.{sym, ◌∙◌}
use Rattle.umem_base.proofs.NumbersLemmas.{hex_digits}
use Rattle.umem_base.proofs.number.read_hex.Goals as goal

pub digits_value-requires-clause-digits : goal.digits_value-requires-clause-digits
digits_value-requires-clause-digits c = hex_digits c.args.bytes.now (sym c.are_hex_digits.ensures ∙ c.if-not-are_hex_digits.false)
