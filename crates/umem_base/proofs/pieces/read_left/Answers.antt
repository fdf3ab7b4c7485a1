use Rattle.std.proofs.Common.{◌++◌, ◌≤◌, length, take, length-append, length-take, arith}
use Rattle.std.proofs.lemmas.Result.{err_from_is_err_and}
use Rattle.umem_base.proofs.TransferLemmas.{consumes_more}
use Rattle.umem_base.proofs.pieces.read_left.Goals as goal

pub returns-then-came-limit-clause-left : goal.returns-then-came-limit-clause-left
returns-then-came-limit-clause-left g c =
    let moved = c.in_ok-came.ensures.moved in
    (_, (omega (arith, c.in_ok-came.ensures.bound, length-append c.loop-bytes.bytes.items (take c.in_ok-came.came c.next_piece.new.buffer), length-take c.in_ok-came.came c.next_piece.new.buffer)), consumes_more _ _ _ _ _ c.loop-bytes.invariant.consumed moved.0)

pub returns-in_err-extend_from_slice-clause-left : goal.returns-in_err-extend_from_slice-clause-left
returns-in_err-extend_from_slice-clause-left g c =
    let moved = c.in_ok-came.ensures.moved in
    let p = err_from_is_err_and c.from_residual-in_err-extend_from_slice.result c.from_residual-in_err-extend_from_slice.ensures.1 in
    let came = c.loop-bytes.bytes.items ++ take c.in_ok-came.came c.next_piece.new.buffer in
    let few : length came ≤ c.args.limit = omega (arith, c.in_ok-came.ensures.bound, length-append c.loop-bytes.bytes.items (take c.in_ok-came.came c.next_piece.new.buffer), length-take c.in_ok-came.came c.next_piece.new.buffer) in
    rw (p.1, p.2) (came, few, consumes_more _ _ _ _ _ c.loop-bytes.invariant.consumed moved.0)
