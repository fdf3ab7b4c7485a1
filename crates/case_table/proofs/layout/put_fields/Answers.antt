use Rattle.std.proofs.Common.{arith, refl}
use Rattle.std.proofs.lemmas.List.{take_all}
use Rattle.case_table.proofs.RecordLemmas.{Fit-at, Fit-length, put_more}
use Rattle.case_table.proofs.layout.put_fields.Goals as goal

pub bounds-values-i : goal.bounds-values-i
bounds-values-i c = omega (arith, Fit-length c.args.widths.now c.args.values.now c.requires.fit)

pub put_field-requires-clause-fits : goal.put_field-requires-clause-fits
put_field-requires-clause-fits c = Fit-at c.args.widths.now c.args.values.now c.loop-i.i c.requires.fit c.loop-i-test.true

pub loop-i-preserved : goal.loop-i-preserved
loop-i-preserved c =
    put_more _ c.loop-i.out.items c.args.widths.now c.args.values.now _ c.loop-i.i _ _ (Fit-length c.args.widths.now c.args.values.now c.requires.fit) c.loop-i-test.true refl refl c.loop-i.invariant c.in_ok-put_field.ensures.ok

pub returns-clause-ok : goal.returns-clause-ok
returns-clause-ok c =
    let same = Fit-length c.args.widths.now c.args.values.now c.requires.fit in
    rw (← take_all c.loop-i.i c.args.widths.now (omega arith), ← take_all c.loop-i.i c.args.values.now (omega arith)) c.loop-i.invariant
