use Rattle.std.proofs.Common.{◌≡◌, take}
use Rattle.std.specs.List.{flat_map}
use Rattle.verify.specs.Lines.{slab_lines}
use Rattle.verify.proofs.collect.findings.Given as goal

abbrev pub invariant-loop-slab : goal.invariant-loop-slab
invariant-loop-slab l = l.out.items ≡ flat_map (slab_lines l.view) (take l.slab-index l.slabs)
