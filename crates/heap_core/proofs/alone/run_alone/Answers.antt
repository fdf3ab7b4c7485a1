use Rattle.script.specs.Plan.{plan_of}
use Rattle.heap_core.proofs.FinishLemmas.{run_answers, run_given}
use Rattle.heap_core.proofs.alone.run_alone.Goals as goal

pub returns-clause-given : goal.returns-clause-given
returns-clause-given c =
    run_given (plan_of c.args.script.now) c.args.options.now c.args.logging.now c.in_ok-heap.heap c.finish.new.self
    c.in_ok-heap.ensures c.finish.ensures.goes_on

pub returns-clause-answers : goal.returns-clause-answers
returns-clause-answers c =
    run_answers (plan_of c.args.script.now) c.args.options.now c.args.logging.now c.in_ok-heap.heap c.finish.new.self
    c.in_ok-heap.ensures c.finish.ensures.goes_on c.history.ensures.sound c.in_ok-finish.ensures.done
