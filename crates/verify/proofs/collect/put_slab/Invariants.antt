use Rattle.std.proofs.Common.{◌≡◌, ◌++◌}
use Rattle.std.specs.List.{filter_map}
use Rattle.heap_view.specs.Buffers.{numbers_from}
use Rattle.verify.specs.Lines.{chunk_line}
use Rattle.verify.proofs.collect.put_slab.Given as goal

abbrev pub invariant-loop-index : goal.invariant-loop-index
invariant-loop-index l = l.out.items ≡ l.initial.out.items ++ filter_map (chunk_line l.view l.slab) (numbers_from l.slab.first l.index)
