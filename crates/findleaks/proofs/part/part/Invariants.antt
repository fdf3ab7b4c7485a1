-- the buffers so far are in their lists
use Rattle.std.proofs.Common.{take}
use Rattle.heap_view.specs.Buffers.{buffers_of}
use Rattle.findleaks.specs.Classes.{AreParted}
use Rattle.findleaks.proofs.part.part.Given as goal

abbrev pub invariant-loop-index : goal.invariant-loop-index
invariant-loop-index l = AreParted l.view (take l.index (buffers_of l.view)) l.reached.items l.leaked.items
