use Rattle.std.proofs.Common.{◌+◌, sym, arith}
use Rattle.addr_space.specs.MappedRun.{Holds}
use Rattle.addr_space.proofs.SpaceLemmas.{byte_at-past, byte_at-none, byte_at-read}
use Rattle.addr_space.proofs.space.Space.byte_from.Goals as goal

pub returns-in_err-address : goal.returns-in_err-address
returns-in_err-address c =
    let past = c.in_err-address.ensures in
    rw (c.from_residual.ensures, ← c.self.view_is) (record { byte = sym (byte_at-past (c.args.at + c.args.offset) c.self.inside.runs.items c.self.invariant (omega (arith, past))); below = tt })

pub returns-in_err-index : goal.returns-in_err-index
returns-in_err-index c =
    let none = rw c.deref.ensures.value at c.in_err-index.ensures in
    rw (c.from_residual-in_err-index.ensures, ← c.self.view_is, ← c.in_ok-address.ensures.1) (record { byte = sym (byte_at-none c.in_ok-address.address c.self.inside.runs.items none); below = tt })

pub returns : goal.returns
returns c =
    let ms = c.self.inside.runs.items in
    let m = c.index-run.result.now in
    let place = rw c.deref.ensures.value at c.in_ok-index.ensures in
    let here : Holds c.in_ok-address.address m = rw c.index-run.ensures (place.1 m) in
    let to = (c.self.invariant.each c.in_ok-index.index m place.0).to in
    let to' = rw (← c.index-run.ensures) at to in
    rw (← c.self.view_is, ← c.in_ok-address.ensures.1, c.bytes.ensures, c.base.ensures) (record {
      byte = sym (byte_at-read c.in_ok-address.address ms c.in_ok-index.index m c.self.invariant place.0 c.index-run.ensures here);
      below = omega (arith, here.1, to');
    })
