use Rattle.std.proofs.Common.{◌+◌, ◌^◌, ◌≤◌}
use Rattle.addr_space.specs.Space.{IsMappedRange}
use Rattle.addr_space.proofs.space.Space.is_mapped.Given as goal

abbrev pub invariant-loop-offset : goal.invariant-loop-offset
invariant-loop-offset l = record { mapped : IsMappedRange l.self l.at l.offset; fits : l.at + l.offset ≤ 2 ^ 64 }
