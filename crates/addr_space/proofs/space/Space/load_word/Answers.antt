use Rattle.std.proofs.Common.{ℕ, List, get_or, sym, subst, arith}
use Rattle.std.proofs.lemmas.Nat.{le_bytes_8}
use Rattle.addr_space.specs.Space.{HasBytes}
use Rattle.addr_space.proofs.space.Space.load_word.Goals as goal

pub returns : goal.returns
returns c =
    let same = le_bytes_8 c.loop-offset.bytes c.from_le_bytes-2.result c.loop-offset.invariant.len c.loop-offset.invariant.fits c.from_le_bytes-2.ensures in
    subst (λ (bs : List ℕ). HasBytes c.args.self.now c.args.at 8 (λ k. get_or bs k 0)) (sym same) (λ k lt. c.loop-offset.invariant.read k (omega arith))
