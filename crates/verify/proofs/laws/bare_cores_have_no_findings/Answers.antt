use Rattle.verify.proofs.BareLemmas.{bare_findings}
use Rattle.verify.proofs.laws.bare_cores_have_no_findings.Goals as goal

pub returns : goal.returns
returns c = bare_findings
