use Rattle.script.specs.Reading.{option_words}
use Rattle.script.proofs.GivesLemmas.{unlike_from_def}
use Rattle.script.proofs.draft.Draft.read_def.Goals as goal

pub returns-clause-unlike : goal.returns-clause-unlike
returns-clause-unlike c =
    unlike_from_def c.args.self.now.header c.args.name.now c.args.size.now c.args.align.now (option_words c.args.ctor) c.in_ok-name.ensures.0
