use Rattle.script.proofs.GivesLemmas.{Gives-def}
use Rattle.script.proofs.draft.Draft.read_def_words.Goals as goal

pub returns : goal.returns
returns c =
    Gives-def _ _ _ _ _ _ _ _ _ _ _ _ _ _ _ c.read_name-name.ensures c.read_number-size.ensures c.read_alignment-align.ensures c.read_option-ctor.ensures c.both-last.ensures c.both-behind.ensures c.both.ensures
