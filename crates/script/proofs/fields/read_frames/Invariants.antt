use Rattle.std.proofs.Common.{◌≡◌, ◌<◌, ◌++◌, length, map}
use Rattle.std.specs.List.{list_all}
use Rattle.script.specs.declared.limits.TheConstants.{MOST_FRAMES}
use Rattle.script.specs.Fields.{is_frame, frame_in, frame_words}
use Rattle.script.proofs.fields.read_frames.Given as goal

abbrev pub invariant-loop-part : goal.invariant-loop-part
invariant-loop-part l = record {
  frames : l.frames.items ++ map frame_in (frame_words l.rest) ≡ map frame_in (frame_words l.word);
  are_frames : list_all is_frame (frame_words l.rest) ≡ list_all is_frame (frame_words l.word);
  room : length l.frames.items < MOST_FRAMES;
}

abbrev pub decreases-loop-part : goal.decreases-loop-part
decreases-loop-part l = length l.rest
