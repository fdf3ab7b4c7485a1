use Rattle.std.proofs.Common.{◌-◌, ◌<◌, length, arith}
use Rattle.addr_space.proofs.SpaceLemmas.{no_place}
use Rattle.addr_space.proofs.place.place_of.Goals as goal

pub returns-then-count-bytes : goal.returns-then-count-bytes
returns-then-count-bytes c =
    λ some.
    let m = c.index-runs-index.result in
    let here = rw (← c.index-runs-index.is) at (c.in_ok-index.ensures.1 m) in
    let short : length m.bytes - (c.args.address - m.base) < c.args.count = rw (← c.base.ensures, ← c.bytes.ensures) c.if-count-bytes.true in
    no_place c.args.runs.now c.in_ok-index.index c.args.address c.args.count m c.requires c.in_ok-index.ensures.0 c.index-runs-index.is here some (omega (arith, here.0, here.1))
