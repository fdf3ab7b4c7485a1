use Rattle.heap_core.proofs.NextLemmas.{large_keeps, large_turn}
use Rattle.heap_core.proofs.plain_calls.perform_large.Goals as goal

pub returns-clause-ok : goal.returns-clause-ok
returns-clause-ok c =
    large_turn c.args.books.now c.commit_large.new.self c.args.thread c.args.call c.in_ok-turn.turn c.requires.due c.in_ok-turn.ensures.ok

pub returns-clause-heap : goal.returns-clause-heap
returns-clause-heap c =
    large_keeps c.args.books.now c.commit_large.new.self c.args.thread c.args.call c.in_ok-turn.turn c.requires.due c.in_ok-turn.ensures.ok
    (record { legal = c.history.ensures.sound; few = c.history.ensures.few })
