use Rattle.heap_core.proofs.NextLemmas.{plain_keeps, plain_turn}
use Rattle.heap_core.proofs.plain_calls.perform_plain.Goals as goal

pub returns-clause-performs : goal.returns-clause-performs
returns-clause-performs c =
    plain_turn c.args.books.now c.commit_plain-turn.new.self c.args.thread c.args.call c.commit_plain-turn.result c.requires.due c.commit_plain-turn.ensures

pub returns-clause-heap : goal.returns-clause-heap
returns-clause-heap c =
    plain_keeps c.args.books.now c.commit_plain-turn.new.self c.args.thread c.args.call c.commit_plain-turn.result c.requires.due c.commit_plain-turn.ensures
    (record { legal = c.history.ensures.sound; few = c.history.ensures.few })
