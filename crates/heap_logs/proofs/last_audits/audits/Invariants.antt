use Rattle.std.proofs.Common.{◌≡◌, take}
use Rattle.std.specs.Prelude.{filter_map, flat_map, option_map, zip}
use Rattle.heap_logs.specs.Audits.{audit_record, chunks_in}
use Rattle.heap_logs.specs.LastActs.{told_by}
use Rattle.heap_logs.proofs.last_audits.audits.Given as goal

abbrev pub invariant-loop-range : goal.invariant-loop-range
invariant-loop-range l =
    l.items.items ≡ filter_map (λ chunk. option_map audit_record (told_by l.options l.cpus (zip l.entries l.acts) l.table.entries chunk)) (flat_map chunks_in (take l.range-index l.standing))
