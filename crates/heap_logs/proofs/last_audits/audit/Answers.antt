use Rattle.std.proofs.Common.{None, Some, ap, arith, get_or, refl, sym, ◌∙◌}
use Rattle.std.specs.Prelude.{option_map, zip}
use Rattle.std.proofs.lemmas.Option.{slice_get_past}
use Rattle.heap_logs.specs.Audits.{audit_record}
use Rattle.heap_logs.proofs.AuditLemmas.{told_some}
use Rattle.heap_logs.proofs.PassedLemmas.{both_at, both_count}
use Rattle.heap_logs.proofs.last_audits.audit.Goals as goal

pub returns-in_default-get : goal.returns-in_default-get
returns-in_default-get c =
    let z = zip c.args.entries.now c.args.acts.now in
    let index = c.in-Some.index.now in
    let past = slice_get_past z index (omega (arith, c.in_default-get.ensures.lookup.3, both_count c.args.entries.now c.args.acts.now c.requires.acts)) in
    sym (ap (option_map audit_record) (told_some c.args.options.now c.args.cpus z c.args.table.now.entries c.args.chunk index None c.in-Some.ensures.value past))

pub returns : goal.returns
returns c =
    let entries = c.args.entries.now in
    let acts = c.args.acts.now in
    let index = c.in-Some.index.now in
    let entry = c.in-Some-get.entry.now in
    let act = get_or acts index None in
    let lookup = c.in-Some-get.ensures.lookup in
    let at = both_at entries acts index entry entry None act lookup.3.0 c.requires.acts lookup.1 refl in
    c.audit_item.ensures
    ∙ ap (option_map audit_record) (c.in_ok-last.ensures ∙ sym (told_some c.args.options.now c.args.cpus (zip entries acts) c.args.table.now.entries c.args.chunk index (Some (entry, act)) c.in-Some.ensures.value at))
