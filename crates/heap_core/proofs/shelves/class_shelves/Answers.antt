use Rattle.std.proofs.Common.{arith}
use Rattle.heap_core.proofs.StartLemmas.{class_shape}
use Rattle.heap_core.proofs.shelves.class_shelves.Goals as goal

pub empty_shelf-requires : goal.empty_shelf-requires
empty_shelf-requires c = class_shape c.class_size-size.result c.loop-class.class c.class_size-size.ensures (omega arith)
