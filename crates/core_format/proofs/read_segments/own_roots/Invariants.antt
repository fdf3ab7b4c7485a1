use Rattle.std.proofs.Common.{◌≡◌, ◌-◌, []}
use Rattle.core_format.specs.Items.{items_at}
use Rattle.core_format.specs.Segments.{own_root_at}
use Rattle.core_format.proofs.read_segments.own_roots.Given as goal

abbrev pub invariant-loop : goal.invariant-loop
invariant-loop l = items_at own_root_at (l.count - l.counter) l.roots.items l.reader ≡ items_at own_root_at l.count [] l.fn.reader
