use Rattle.std.proofs.Common.{[], length-append, refl, arith}
use Rattle.std.proofs.lemmas.List.Elements.{All-push}
use Rattle.depot.specs.Depot.{IsEmptyOf}
use Rattle.depot.proofs.depot.Depot.new.Goals as goal

pub loop-preserved : goal.loop-preserved
loop-preserved c =
    let was = c.loop.invariant in
    record {
      count = rw (c.push.ensures.items, length-append) (omega (arith, was.count));
      room = omega (arith, was.room, c.push.ensures.spare);
      empty = rw (c.push.ensures.items, c.in_ok-new.ensures) (All-push (IsEmptyOf c.args.size) c.loop.empty.items (record { size = c.args.size; rounds = [] }) was.empty (refl, refl));
    }
