use Rattle.std.proofs.Common.{◌≡◌, ◌-◌, [], length}
use Rattle.core_format.specs.Items.{items_at}
use Rattle.core_format.specs.Magazines.{cpu_place_at, place_rounds}
use Rattle.std.specs.List.{flat_map}
use Rattle.core_format.proofs.read_magazines.cpu_places.Given as goal

abbrev pub invariant-loop-index : goal.invariant-loop-index
invariant-loop-index l = record {
  read : items_at (cpu_place_at l.caches l.table.shapes l.table.slabs) (l.count - l.index) l.places.items l.reader ≡ items_at (cpu_place_at l.caches l.table.shapes l.table.slabs) l.count [] l.fn.reader;
  seen : l.seen ≡ flat_map place_rounds l.places.items;
  many : length l.places.items ≡ l.index;
}
