use Rattle.std.proofs.Common.{◌≡◌, ◌-◌, ◌++◌}
use Rattle.std.specs.Prelude.{filter_map, option_map, zip}
use Rattle.std.specs.List.{range_with_len}
use Rattle.heap_logs.specs.Audits.{audit_record}
use Rattle.heap_logs.specs.LastActs.{told_by}
use Rattle.heap_logs.proofs.last_audits.push_audits.Given as goal

abbrev pub invariant-loop-chunk : goal.invariant-loop-chunk
invariant-loop-chunk l =
    l.items.items ≡ l.initial.items.items ++ filter_map (λ chunk. option_map audit_record (told_by l.options l.cpus (zip l.entries l.acts) l.table.entries chunk)) (range_with_len l.range.first (l.chunk - l.range.first))
