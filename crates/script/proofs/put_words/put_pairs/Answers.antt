use Rattle.script.proofs.PutLemmas.{encode_lower-more, encode_lower-none}
use Rattle.script.proofs.put_words.put_pairs.Goals as goal

pub loop-byte-init : goal.loop-byte-init
loop-byte-init c = encode_lower-none c.args.out.now

pub loop-byte-preserved : goal.loop-byte-preserved
loop-byte-preserved c =
    encode_lower-more c.args.out.now c.loop-byte.out c.push_slice.new.self c.digits_of.result c.args.bytes.now c.loop-byte.byte-index c.loop-byte-test.true c.loop-byte.invariant c.in_ok-push_slice.ensures.ok c.digits_of.ensures
