use Rattle.std.proofs.Common.{ap, arith, ◌∙◌}
use Rattle.std.specs.Prelude.{is_some}
use Rattle.heap_logs.specs.Fails.{fail_of_entry}
use Rattle.heap_logs.proofs.PassedLemmas.{byte_small, count_by_byte, one_at}
use Rattle.heap_logs.proofs.last_fails.count_fails.Goals as goal

pub loop-entry-preserved : goal.loop-entry-preserved
loop-entry-preserved c =
    let entries = c.args.entries.now in
    let i = c.loop-entry.entry-index in
    let entry = c.entry-item.result in
    let at = one_at entries i entry entry c.loop-entry-test.true c.entry-item.is in
    let small = byte_small c.from-count.result c.is_some.result c.from-count.ensures in
    record {
      few = omega (arith, c.loop-entry.invariant.few, small);
      exact = count_by_byte (fail_of_entry c.args.caches.now) entries i c.loop-entry.count c.from-count.result entry c.is_some.result at (c.is_some.ensures ∙ ap is_some c.fail.ensures) c.from-count.ensures
          c.loop-entry.invariant.exact;
    }
