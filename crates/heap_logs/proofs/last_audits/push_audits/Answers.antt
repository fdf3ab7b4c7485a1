use Rattle.std.proofs.Common.{arith}
use Rattle.std.specs.Prelude.{option_map, zip}
use Rattle.heap_logs.specs.Audits.{audit_record}
use Rattle.heap_logs.specs.LastActs.{told_by}
use Rattle.heap_logs.proofs.PassedLemmas.{range_push}
use Rattle.heap_logs.proofs.last_audits.push_audits.Goals as goal

pub loop-chunk-preserved : goal.loop-chunk-preserved
loop-chunk-preserved c =
    range_push (λ chunk. option_map audit_record (told_by c.args.options.now c.args.cpus (zip c.args.entries.now c.args.acts.now) c.args.table.now.entries chunk)) c.args.range.now.first c.loop-chunk.chunk
    c.args.items.now.items c.loop-chunk.items.items c.push_some.new.items.items c.in_ok-audit.field-0 (omega arith) c.loop-chunk.invariant c.in_ok-audit.ensures c.in_ok-push_some.ensures
