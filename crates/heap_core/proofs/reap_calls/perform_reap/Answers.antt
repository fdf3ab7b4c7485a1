use Rattle.heap_core.proofs.NextLemmas.{reap_keeps, reap_turn}
use Rattle.heap_core.proofs.reap_calls.perform_reap.Goals as goal

pub returns-clause-performs : goal.returns-clause-performs
returns-clause-performs c =
    reap_turn c.args.books.now c.commit_reap-turn.new.self c.args.thread c.args.call c.commit_reap-turn.result c.requires.due c.commit_reap-turn.ensures

pub returns-clause-heap : goal.returns-clause-heap
returns-clause-heap c =
    reap_keeps c.args.books.now c.commit_reap-turn.new.self c.args.thread c.args.call c.commit_reap-turn.result c.args.shelves.now c.reap_shelves.new.shelves c.requires.due c.commit_reap-turn.ensures
    (record { legal = c.history.ensures.sound; few = c.history.ensures.few }) c.requires.heap c.reap_shelves.ensures
