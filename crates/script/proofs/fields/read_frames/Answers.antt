use Rattle.std.proofs.Common.{arith}
use Rattle.script.proofs.FieldsLemmas.{frames_fault-long}
use Rattle.script.proofs.fields.read_frames.Goals as goal

pub returns-then-len : goal.returns-then-len
returns-then-len c =
    frames_fault-long c.args.word.now c.loop-part.rest.now c.in-Some.part.now c.in-Some.behind.now c.loop-part.frames.items c.too_many_fault.result c.loop-part.invariant.frames c.loop-part.invariant.are_frames
    c.in-Some.ensures.parts c.in_ok-read_frame.ensures.0 (omega (arith, c.loop-part.frames.ok.0, c.in_ok-push.ensures.len, c.len.ensures, c.if-len.true)) c.too_many_fault.ensures
