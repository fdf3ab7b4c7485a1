use Rattle.std.proofs.Common.{◌≡◌, ◌++◌, take}
use Rattle.std.specs.List.{flat_map}
use Rattle.dcmd.specs.Leaks.{leak_line}
use Rattle.dcmd.proofs.leaks.put_leaks.Given as goal

abbrev pub invariant-loop-buffer : goal.invariant-loop-buffer
invariant-loop-buffer l = l.out ≡ l.initial.out ++ flat_map (leak_line l.core) (take l.buffer-index l.leaked)
