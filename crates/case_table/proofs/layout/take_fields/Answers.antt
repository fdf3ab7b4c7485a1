use Rattle.std.proofs.Common.{◌≡◌, ◌-◌, length, take, drop, refl, arith}
use Rattle.std.proofs.lemmas.List.{take_all, length-drop}
use Rattle.case_table.proofs.RecordLemmas.{take_more}
use Rattle.case_table.proofs.layout.take_fields.Goals as goal

pub loop-i-preserved : goal.loop-i-preserved
loop-i-preserved c =
    let bytes = c.args.bytes.now in
    let place = c.loop-i.place in
    let whole : take (length bytes - place) (drop place bytes) ≡ drop place bytes = take_all (length bytes - place) (drop place bytes) (omega (arith, length-drop place bytes)) in
    let read = rw whole at c.read_uint.ensures in
    rw read (take_more c.args.widths.now bytes c.loop-i.values c.loop-i.i place _ (λ i. omega (arith, c.type_inv.bytes i)) c.requires.room c.loop-i-test.true (omega arith) refl c.loop-i.invariant)
