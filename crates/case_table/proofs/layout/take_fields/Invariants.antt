use Rattle.std.proofs.Common.{take}
use Rattle.case_table.proofs.RecordLemmas.{IsTaken}
use Rattle.case_table.proofs.layout.take_fields.Given as goal

abbrev pub invariant-loop-i : goal.invariant-loop-i
invariant-loop-i l = IsTaken (take l.i l.widths) l.bytes l.place (take l.i l.values)
