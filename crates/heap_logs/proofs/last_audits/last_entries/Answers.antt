use Rattle.std.proofs.Common.{None, arith, get_or, refl, subst, sym}
use Rattle.std.specs.Prelude.{zip}
use Rattle.std.proofs.lemmas.List.{take_all}
use Rattle.heap_logs.specs.LastActs.{TellsLast}
use Rattle.heap_logs.proofs.AuditLemmas.{tells_more, tells_on}
use Rattle.heap_logs.proofs.PassedLemmas.{both_at, both_count}
use Rattle.heap_logs.proofs.last_audits.last_entries.Goals as goal

pub loop-index-preserved-in_default : goal.loop-index-preserved-in_default
loop-index-preserved-in_default c = λ options cpus.
    let entries = c.args.entries.now in
    let acts = c.args.acts.now in
    let i = c.loop-index.index in
    let entry = c.index-entries-index.result in
    let act = get_or acts i None in
    let at = both_at entries acts i entry entry None act c.loop-index-test.true c.requires c.index-entries-index.is refl in
    tells_on options cpus (zip entries acts) c.loop-index.table.entries i (entry, act) at (sym (c.in_default.ensures options cpus)) (c.loop-index.invariant options cpus)

pub loop-index-preserved : goal.loop-index-preserved
loop-index-preserved c = λ options cpus.
    let entries = c.args.entries.now in
    let acts = c.args.acts.now in
    let i = c.loop-index.index in
    let entry = c.index-entries-index.result in
    let act = get_or acts i None in
    let at = both_at entries acts i entry entry None act c.loop-index-test.true c.requires c.index-entries-index.is refl in
    tells_more options cpus (zip entries acts) c.loop-index.table.entries c.insert.new.self.entries i c.in-Some.chunk (entry, act) at (sym (c.in-Some.ensures options cpus)) c.in_ok-insert.ensures.updates.0
    (c.loop-index.invariant options cpus)

pub returns : goal.returns
returns c = λ options cpus.
    let z = zip c.args.entries.now c.args.acts.now in
    subst (λ l. TellsLast options cpus z l c.loop-index.table.entries)
    (take_all c.loop-index.index z (omega (arith, c.loop-index-test.false, both_count c.args.entries.now c.args.acts.now c.requires))) (c.loop-index.invariant options cpus)
