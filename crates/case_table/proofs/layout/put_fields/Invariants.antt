use Rattle.std.proofs.Common.{◌≡◌, ◌++◌, take}
use Rattle.case_table.specs.Record.{spelling}
use Rattle.case_table.proofs.layout.put_fields.Given as goal

abbrev pub invariant-loop-i : goal.invariant-loop-i
invariant-loop-i l = l.out.items ≡ l.initial.out.items ++ spelling (take l.i l.widths) (take l.i l.values)
