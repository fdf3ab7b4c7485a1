use Rattle.std.specs.Prelude.{codes}
use Rattle.std.proofs.Common.{◌≡◌, ◌+◌, true, drop, ap, sym, ◌∙◌, arith}
use Rattle.umem_base.proofs.Lists.{slice_rest}
use Rattle.dcmd.specs.Commands.{begins}
use Rattle.dcmd.proofs.CommandLemmas.{parts_of-at, parts_of-none}
use Rattle.dcmd.proofs.commands.split_parts.Goals as goal

pub returns-then-starts_with : goal.returns-then-starts_with
returns-then-starts_with c =
    let line = c.args.line.now in
    let place = c.loop-place.place in
    let here : begins (codes "::") (drop place line) ≡ true = ap (begins (codes "::")) (sym (slice_rest line place)) ∙ sym c.starts_with.ensures.value ∙ c.if-starts_with.true in
    rw (slice_rest line (place + 2)) (parts_of-at line place (place + 2) (omega arith) c.loop-place-test.true here c.loop-place.invariant)

pub returns : goal.returns
returns c = parts_of-none c.args.line.now (λ k lt. c.loop-place.invariant k (omega (arith, c.loop-place-test.false, lt)))
