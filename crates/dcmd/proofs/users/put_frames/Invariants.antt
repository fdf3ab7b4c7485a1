use Rattle.std.proofs.Common.{◌≡◌, ◌++◌, take}
use Rattle.std.specs.List.{flat_map}
use Rattle.dcmd.specs.Users.{frame_line}
use Rattle.dcmd.proofs.users.put_frames.Given as goal

abbrev pub invariant-loop-frame : goal.invariant-loop-frame
invariant-loop-frame l = l.out ≡ l.initial.out ++ flat_map frame_line (take l.frame-index l.frames)
