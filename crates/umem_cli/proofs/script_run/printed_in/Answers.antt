use Rattle.std.proofs.Common.{◌≡◌, ℕ, List, subst}
use Rattle.std.specs.Prelude.{Ok}
use Rattle.script.specs.Grammar.{script_of}
use Rattle.script.specs.Plan.{plan_of}
use Rattle.umem_cli.proofs.TranscriptLemmas.{not_read, script_read}
use Rattle.umem_cli.proofs.script_run.printed_in.Goals as goal

pub returns-in_err-bytes-clause-outcome : goal.returns-in_err-bytes-clause-outcome
returns-in_err-bytes-clause-outcome g c =
    not_read c.args.job.now (g.F.Folder.files c.args.files.now) (g.F.Folder.read_faults c.args.files.now) (g.F.Folder.read_faults c.read_file.new.files) c.in_err-bytes.field-0.0 c.from_residual.result c.in_err-bytes.ensures.bytes c.in_err-bytes.ensures.cause c.from_residual.ensures.1

pub returns-clause-outcome : goal.returns-clause-outcome
returns-clause-outcome g c =
    let script = c.in_ok-script.script in
    script_read c.args.job.now (g.F.Folder.files c.args.files.now) c.in_ok-bytes.bytes.items (plan_of script) (g.F.Folder.read_faults c.args.files.now) (g.F.Folder.read_faults c.read_file.new.files) c.printed_of.result
    c.in_ok-bytes.ensures.bytes.0 c.in_ok-bytes.ensures.bytes.1.0 (subst (λ (l : List ℕ). script_of l ≡ Ok (plan_of script)) c.deref.ensures.value c.in_ok-script.ensures.said) c.in_ok-bytes.ensures.cause c.printed_of.ensures
