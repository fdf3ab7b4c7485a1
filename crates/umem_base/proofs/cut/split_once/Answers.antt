use Rattle.std.proofs.Common.{◌+◌, add-one, arith}
use Rattle.umem_base.proofs.CutLemmas.{cut_none, cut_at, joined_at}
use Rattle.umem_base.proofs.Lists.{slice_rest}
use Rattle.umem_base.proofs.cut.split_once.Goals as goal

pub returns-then-byte-separator-clause-parts : goal.returns-then-byte-separator-clause-parts
returns-then-byte-separator-clause-parts c =
    let bytes = c.args.bytes.now in
    let place = c.loop-place.place in
    rw (slice_rest bytes (place + 1), add-one) (cut_at c.args.separator bytes place c.loop-place-test.true c.if-byte-separator.true c.loop-place.invariant)

pub returns-then-byte-separator-clause-joined : goal.returns-then-byte-separator-clause-joined
returns-then-byte-separator-clause-joined c =
    let bytes = c.args.bytes.now in
    let place = c.loop-place.place in
    rw (slice_rest bytes (place + 1), add-one) (joined_at c.args.separator bytes place c.loop-place-test.true c.if-byte-separator.true)

pub returns-clause-parts : goal.returns-clause-parts
returns-clause-parts c = cut_none c.args.separator c.args.bytes.now (λ k lt. c.loop-place.invariant k (omega (arith, c.loop-place-test.false, lt)))
