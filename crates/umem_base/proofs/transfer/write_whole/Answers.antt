use Rattle.std.proofs.Common.{◌≡◌, ◌-◌, length, take, drop, take-add, length-drop, arith}
use Rattle.std.proofs.lemmas.List.{take_all}
use Rattle.umem_base.proofs.TransferLemmas.{appends_more}
use Rattle.umem_base.proofs.transfer.write_whole.Goals as goal

pub loop-at-preserved : goal.loop-at-preserved
loop-at-preserved g c =
    let bytes = c.args.bytes.now in
    let at = c.loop-at.at in
    let n = c.in_ok-at.field-0 in
    let rest : take (length bytes - at) (drop at bytes) ≡ drop at bytes = take_all _ _ (omega (arith, length-drop at bytes)) in
    let bound = rw rest at c.in_ok-at.ensures.bound in
    let taken = rw rest at c.in_ok-at.ensures.taken in
    record {
      within = omega (arith, bound, length-drop at bytes);
      taken = rw (take-add at n bytes) (appends_more _ _ _ _ _ c.loop-at.invariant.taken taken);
      faults = cc (c.in_ok-at.ensures.cause);
    }
