use Rattle.std.proofs.lemmas.Result.{on_ok_weaker}
use Rattle.umem_base.proofs.Lists.{slice_rest}
use Rattle.script.proofs.PutLemmas.{frames_put, front_put, front_then}
use Rattle.script.proofs.put_words.put_frames.Goals as goal

pub returns-in_ok-put_hex-in-len1-up-clause-ok : goal.returns-in_ok-put_hex-in-len1-up-clause-ok
returns-in_ok-put_hex-in-len1-up-clause-ok c =
    let rest = rw (slice_rest c.args.frames.now 1) at c.put_frames_behind.ensures.ok in
    on_ok_weaker c.put_frames_behind.result (λ put. frames_put c.args.out.now c.put_hex.new.out c.put_frames_behind.new.out c.args.frames.now c.in-len1-up.len_at_least c.in_ok-put_hex-in-len1-up.ensures.ok put) rest

pub returns-in_ok-put_hex-in-len1-up-clause-front : goal.returns-in_ok-put_hex-in-len1-up-clause-front
returns-in_ok-put_hex-in-len1-up-clause-front c =
    front_then c.args.out.now c.put_hex.new.out c.put_frames_behind.new.out (front_put c.args.out.now c.put_hex.new.out _ c.in_ok-put_hex-in-len1-up.ensures.ok) c.put_frames_behind.ensures.front
