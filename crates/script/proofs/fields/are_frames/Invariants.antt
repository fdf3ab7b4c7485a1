use Rattle.std.proofs.Common.{◌≡◌, length}
use Rattle.std.specs.List.{list_all}
use Rattle.script.specs.Fields.{is_frame, frame_words}
use Rattle.script.proofs.fields.are_frames.Given as goal

abbrev pub invariant-loop-part : goal.invariant-loop-part
invariant-loop-part l = list_all is_frame (frame_words l.rest) ≡ list_all is_frame (frame_words l.word)

abbrev pub decreases-loop-part : goal.decreases-loop-part
decreases-loop-part l = length l.rest
