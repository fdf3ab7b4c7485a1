use Rattle.std.proofs.Common.{sym, ◌∙◌}
use Rattle.std.specs.Prelude.{option_map, zip}
use Rattle.heap_logs.specs.Audits.{audit_record, chunks_in}
use Rattle.heap_logs.specs.LastActs.{told_by}
use Rattle.heap_logs.proofs.AuditLemmas.{with_audit, without_audit}
use Rattle.heap_logs.proofs.PassedLemmas.{ranges_push}
use Rattle.heap_logs.proofs.last_audits.audits.Goals as goal

pub returns-then-not-has_audit : goal.returns-then-not-has_audit
returns-then-not-has_audit c =
    c.new.ensures.items
    ∙ sym (without_audit c.args.options.now c.args.cpus c.args.entries.now c.args.acts.now c.args.standing.now (sym c.has_audit.ensures ∙ c.if-not-has_audit.true))

pub loop-range-preserved : goal.loop-range-preserved
loop-range-preserved c =
    ranges_push chunks_in (λ chunk. option_map audit_record (told_by c.args.options.now c.args.cpus (zip c.args.entries.now c.args.acts.now) c.in_ok-table.table.entries chunk)) c.args.standing.now
    c.loop-range.range-index _ c.loop-range.items.items c.push_audits.new.items.items c.loop-range-test.true c.loop-range.invariant c.in_ok-push_audits.ensures

pub returns : goal.returns
returns c =
    with_audit c.args.options.now c.args.cpus c.args.entries.now c.args.acts.now c.args.standing.now c.in_ok-table.table.entries c.loop-range.range-index c.loop-range.items.items
    (sym c.has_audit.ensures ∙ c.if-not-has_audit.false) c.loop-range-test.false (c.in_ok-table.ensures c.args.options.now c.args.cpus) c.loop-range.invariant
