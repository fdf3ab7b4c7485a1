use Rattle.std.proofs.Common.{◌≡◌, ◌-◌, length, take, drop, take-add, length-drop, arith}
use Rattle.std.proofs.lemmas.List.{take_all}
use Rattle.umem_base.proofs.TransferLemmas.{sets_more}
use Rattle.umem_base.proofs.transfer.write_file.Goals as goal

pub loop-written-preserved : goal.loop-written-preserved
loop-written-preserved g c =
    let bytes = c.args.bytes.now in
    let at = c.loop-written.written in
    let n = c.in-Ok-write.went in
    let writing = c.loop-written.invariant.writing in
    let rest : take (length bytes - at) (drop at bytes) ≡ drop at bytes = take_all _ _ (omega (arith, length-drop at bytes)) in
    let bound = rw rest at c.in-Ok-write.ensures.bound in
    let grows = rw rest at c.in-Ok-write.ensures.grows in
    record {
      within = omega (arith, bound, length-drop at bytes);
      written = rw (take-add at n bytes) (sets_more _ _ _ _ _ _ _ c.loop-written.invariant.written writing grows);
      writing = rw c.in-Ok-write.ensures.activity writing;
      write_faults = cc (c.in-Ok-write.ensures.cause);
      read_faults = cc (c.in-Ok-write.ensures.read_faults);
    }
