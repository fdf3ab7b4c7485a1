use Rattle.std.proofs.Common.{◌≡◌, ◌-◌, []}
use Rattle.core_format.specs.Items.{items_at}
use Rattle.core_format.specs.Slabs.{listed_at}
use Rattle.core_format.proofs.read_slabs.list.Given as goal

abbrev pub invariant-loop : goal.invariant-loop
invariant-loop l = items_at (listed_at l.first l.past) (l.count - l.counter) l.list.items l.reader ≡ items_at (listed_at l.first l.past) l.count [] l.fn.reader
