use Rattle.std.proofs.Common.{◌≡◌, ◌++◌, map, take}
use Rattle.heap_view.specs.Buffers.{large_buffer}
use Rattle.heap_view.proofs.build.put_large.Given as goal

abbrev pub invariant-loop-item : goal.invariant-loop-item
invariant-loop-item l = l.out.items ≡ l.initial.out.items ++ map large_buffer (take l.item-index l.large)
