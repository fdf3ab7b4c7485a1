use Rattle.std.proofs.Common.{◌≡◌, ◌-◌, ◌++◌, [], length}
use Rattle.core_format.specs.Items.{items_at}
use Rattle.core_format.specs.Magazines.{depot_item_at, depot_rounds_of}
use Rattle.std.specs.List.{flat_map}
use Rattle.core_format.proofs.read_magazines.depots.Given as goal

abbrev pub invariant-loop-cache : goal.invariant-loop-cache
invariant-loop-cache l = record {
  read : items_at (depot_item_at l.table.shapes l.table.slabs l.fn.seen) (l.caches - l.cache) l.depots.items l.reader ≡ items_at (depot_item_at l.table.shapes l.table.slabs l.fn.seen) l.caches [] l.fn.reader;
  seen : l.seen ≡ l.fn.seen ++ flat_map depot_rounds_of l.depots.items;
  many : length l.depots.items ≡ l.cache;
}
