use Rattle.std.proofs.Common.{sym}
use Rattle.umem_base.specs.Lines.{words_of}
use Rattle.script.proofs.GivesLemmas.{Gives-step}
use Rattle.script.proofs.draft.Draft.take_step.Goals as goal

pub returns-in-Some-op_named : goal.returns-in-Some-op_named
returns-in-Some-op_named c =
    Gives-step c.args.self.now c.take_call.new.self c.take_call.result c.in-Some-op_named.name c.args.thread.now c.in-Some.name.now (words_of c.in-Some.line.now) (words_of c.args.rest.now)
    c.in-Some.ensures.words (sym c.in-Some-op_named.ensures) c.take_call.ensures
