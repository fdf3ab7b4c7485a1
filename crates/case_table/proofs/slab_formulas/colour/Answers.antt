use Rattle.std.proofs.Common.{◌%◌, ◌+◌, ◌/◌}
use Rattle.std.proofs.Math.Nat.{mul-mod_right}
use Rattle.case_table.proofs.slab_formulas.colour.Goals as goal

pub returns-clause-aligned : goal.returns-clause-aligned
returns-clause-aligned c = mul-mod_right c.args.align (c.args.made % (c.args.leftover / c.args.align + 1))
