use Rattle.script.specs.Plan.{plan_of}
use Rattle.umem_cli.proofs.TranscriptLemmas.{none_printed}
use Rattle.umem_cli.proofs.script_run.printed_of.Goals as goal

pub returns-in_err-core : goal.returns-in_err-core
returns-in_err-core c =
    none_printed c.args.job.now (plan_of c.args.script.now) c.from_residual-in_err-core.result
    c.from_residual-in_err-core.ensures.1
