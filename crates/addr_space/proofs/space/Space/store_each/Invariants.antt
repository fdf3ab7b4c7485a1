use Rattle.std.proofs.Common.{get_or}
use Rattle.addr_space.specs.Space.{Writes}
use Rattle.addr_space.proofs.space.Space.store_each.Given as goal

abbrev pub invariant-loop-offset : goal.invariant-loop-offset
invariant-loop-offset l = Writes l.initial.self l.self l.at l.offset (λ k. get_or l.bytes k 0)
