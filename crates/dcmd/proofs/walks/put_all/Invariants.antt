use Rattle.std.proofs.Common.{◌≡◌, ◌++◌, take}
use Rattle.std.specs.List.{flat_map}
use Rattle.dcmd.specs.Walks.{address_line}
use Rattle.dcmd.proofs.walks.put_all.Given as goal

abbrev pub invariant-loop-buffer : goal.invariant-loop-buffer
invariant-loop-buffer l = l.out ≡ l.initial.out ++ flat_map address_line (take l.buffer-index l.buffers)
