use Rattle.std.proofs.Common.{◌≡◌, ◌-◌, ◌≤◌, vec_len}
use Rattle.std.specs.Io.KnownBytes.{Consumes}
use Rattle.umem_base.proofs.pieces.read_left.Given as goal

abbrev pub invariant-loop-bytes : goal.invariant-loop-bytes
invariant-loop-bytes g l =
    let pieces = g.P.Pieces in
    record {
      ready : pieces.IsReady l.from;
      consumed : Consumes (pieces.left l.fn.from) (pieces.left l.from) l.bytes.items;
      within : vec_len l.bytes ≤ l.limit;
      faults : pieces.faults l.from ≡ pieces.faults l.fn.from;
      rest : pieces.rest l.from ≡ pieces.rest l.fn.from;
    }

abbrev pub decreases-loop-bytes : goal.decreases-loop-bytes
decreases-loop-bytes g l = l.limit - vec_len l.bytes
