use Rattle.std.proofs.Common.{◌≡◌, ℕ, ◌∷◌, ◌++◌, take}
use Rattle.std.specs.List.{flat_map}
use Rattle.umem_base.specs.Numbers.{hexadecimal}
use Rattle.script.proofs.put_words.put_frames_behind.Given as goal

abbrev pub invariant-loop-frame : goal.invariant-loop-frame
invariant-loop-frame l = l.out ≡ l.initial.out ++ flat_map (λ (frame : ℕ). 44 ∷ hexadecimal frame) (take l.frame-index l.frames)
