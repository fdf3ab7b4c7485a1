use Rattle.std.proofs.Common.{rules}
use Rattle.buftag.specs.Findings.{facts_of}
use Rattle.buftag.proofs.check.facts_of.Goals as goal

pub returns : goal.returns
unfolding facts_of
returns c = search rules
