use Rattle.std.proofs.Common.{◌+◌, ◌≤◌, length}
use Rattle.umem_cli.specs.Streams.{streams, without_store}
use Rattle.umem_cli.proofs.SessionLemmas.{SoFar}
use Rattle.umem_cli.proofs.session.answer_commands.Given as goal

abbrev pub invariant-loop-rest : goal.invariant-loop-rest
invariant-loop-rest g l =
    let out = g.O.Sink in
    let err = g.E.Sink in
    record {
      so : SoFar l.view l.commands l.rest l.number l.refused (without_store (streams (out.taken l.fn.out) (out.faults l.fn.out) (err.taken l.fn.err) (err.faults l.fn.err))) (without_store (streams (out.taken l.out) (out.faults l.out) (err.taken l.err) (err.faults l.err)));
      room : l.number + length l.rest ≤ length l.commands;
    }

abbrev pub decreases-loop-rest : goal.decreases-loop-rest
decreases-loop-rest g l = length l.rest
