use Rattle.std.proofs.Common.{◌≡◌, ◌++◌, take}
use Rattle.std.specs.List.{flat_map}
use Rattle.dcmd.specs.Findings.{finding_line}
use Rattle.dcmd.proofs.finding_lines.put_findings.Given as goal

abbrev pub invariant-loop-line : goal.invariant-loop-line
invariant-loop-line l = l.out ≡ l.initial.out ++ flat_map (finding_line l.core) (take l.line-index l.lines)
