use Rattle.std.proofs.Common.{ap, arith, ◌∙◌}
use Rattle.std.specs.Prelude.{is_some}
use Rattle.heap_logs.specs.Fails.{fail_of_entry}
use Rattle.heap_logs.proofs.PassedLemmas.{one_at, pass_by, push_by}
use Rattle.heap_logs.proofs.last_fails.fails_behind.Goals as goal

pub loop-entry-preserved-then-left-gt0 : goal.loop-entry-preserved-then-left-gt0
loop-entry-preserved-then-left-gt0 c =
    let entries = c.args.entries.now in
    let i = c.loop-entry.entry-index in
    let entry = c.entry-item.result in
    let at = one_at entries i entry entry c.loop-entry-test.true c.entry-item.is in
    pass_by (fail_of_entry c.args.caches.now) entries i c.args.passed c.loop-entry.left c.from-left.result c.loop-entry.items.items entry c.is_some.result at (c.is_some.ensures ∙ ap is_some c.fail-item.ensures)
    c.from-left.ensures c.if-left-gt0.true c.loop-entry.invariant

pub loop-entry-preserved : goal.loop-entry-preserved
loop-entry-preserved c =
    let entries = c.args.entries.now in
    let i = c.loop-entry.entry-index in
    let entry = c.entry-item.result in
    let at = one_at entries i entry entry c.loop-entry-test.true c.entry-item.is in
    push_by (fail_of_entry c.args.caches.now) entries i c.args.passed c.loop-entry.left c.loop-entry.items.items c.push_some.new.items.items entry c.fail-item.result at c.fail-item.ensures c.in_ok-push_some.ensures
    c.if-left-gt0.false c.loop-entry.invariant
