use Rattle.std.proofs.Common.{◌≡◌, ◌++◌, take}
use Rattle.std.specs.List.{flat_map}
use Rattle.core_format.specs.declared.items.SlabItem.{SlabItem}
use Rattle.heap_view.proofs.numbers.put_listed.Given as goal

abbrev pub invariant-loop-slab : goal.invariant-loop-slab
invariant-loop-slab l = l.out.items ≡ l.initial.out.items ++ flat_map (λ (slab : SlabItem). slab.free) (take l.slab-index l.slabs)
