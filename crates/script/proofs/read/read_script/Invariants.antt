use Rattle.std.proofs.Common.{length}
use Rattle.script.proofs.ReadLemmas.{IsRead}
use Rattle.script.proofs.read.read_script.Given as goal

abbrev pub invariant-loop-rest : goal.invariant-loop-rest
invariant-loop-rest l = IsRead l.bytes l.rest l.said l.number

abbrev pub decreases-loop-rest : goal.decreases-loop-rest
decreases-loop-rest l = length l.rest
