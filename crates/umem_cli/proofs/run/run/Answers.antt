use Rattle.std.proofs.Common.{refl}
use Rattle.umem_options.specs.Flags.{has_guards}
use Rattle.script.specs.Plan.{plan_of}
use Rattle.plain_heap.specs.Answers.{setting_for}
use Rattle.heap_books.proofs.CachesLemmas.{history_caches}
use Rattle.umem_cli.proofs.TranscriptLemmas.{given_history}
use Rattle.umem_cli.proofs.run.run.Goals as goal

pub returns-clause-history : goal.returns-clause-history
returns-clause-history c =
    let its = c.in_ok-heap.ensures in
    given_history (plan_of c.args.script.now) c.args.options.now c.args.logging.now c.in_ok-heap.heap its.given its.answers its.placed

pub returns-clause-caches : goal.returns-clause-caches
returns-clause-caches c =
    let plan = plan_of c.args.script.now in
    let made = c.in_ok-heap.ensures.answers in
    history_caches (setting_for (has_guards c.args.options.now) plan) plan c.in_ok-heap.heap.entries refl c.requires.plan made.legal made.follows
