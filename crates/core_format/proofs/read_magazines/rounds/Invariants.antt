use Rattle.std.proofs.Common.{◌≡◌, ◌-◌, ◌++◌}
use Rattle.core_format.specs.Items.{items_at}
use Rattle.core_format.specs.Magazines.{round_at, rounds_at}
use Rattle.core_format.proofs.read_magazines.rounds.Given as goal

abbrev pub invariant-loop : goal.invariant-loop
invariant-loop l = record {
  read : items_at (round_at l.table.shapes l.table.slabs l.cache l.fn.seen) (l.count - l.counter) l.rounds.items l.reader ≡ rounds_at l.table.shapes l.table.slabs l.cache l.fn.seen l.count l.fn.reader;
  seen : l.seen ≡ l.fn.seen ++ l.rounds.items;
}
