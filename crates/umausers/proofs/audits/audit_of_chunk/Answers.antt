use Rattle.std.proofs.Common.{◌≡◌, ◌∙◌, ◌<◌, List, true, false, ltb, length, get_or, subst, sym, ap, arith, rules}
use Rattle.std.proofs.lemmas.Bool.{eq-eqb, ltb-false, ltb-true}
use Rattle.std.proofs.lemmas.List.{get_or_default}
use Rattle.std.specs.List.Sorted.{IsNonDecreasingBy, IsPartitionPoint}
use Rattle.std.proofs.lemmas.List.Sorted.{IsPartitionPoint-from_clause, IsPartitionedBy-ltb}
use Rattle.core_format.specs.declared.items.AuditItem.{AuditItem}
use Rattle.umausers.proofs.AuditLemmas.{IsChunkCut, audit_at, audit_missed, audit_past, audits_sorted}
use Rattle.umausers.proofs.audits.audit_of_chunk.Goals as goal
use Rattle.umausers.proofs.audits.audit_of_chunk.Goals.{After-partition_point-index, else-index-audits-via-then-index-audits+else-audits-index, else-index-audits-via-else-index-audits}

point : (c : After-partition_point-index) → IsPartitionPoint (λ (a : AuditItem). ltb a.chunk c.args.chunk ≡ true) (λ (a : AuditItem). ltb a.chunk c.args.chunk ≡ false) c.as_slice-audits.result.now c.partition_point-index.result
point c =
    let up : IsNonDecreasingBy (λ (a : AuditItem). a.chunk) c.as_slice-audits.result.now = subst (IsNonDecreasingBy (λ (a : AuditItem). a.chunk)) (sym c.as_slice-audits.ensures) (audits_sorted c.args.core.now.audits c.requires.audits_rise) in
    let parted = IsPartitionedBy-ltb (λ (a : AuditItem). a.chunk) _ c.args.chunk up in
    IsPartitionPoint-from_clause (λ (a : AuditItem). ltb a.chunk c.args.chunk) _ _ c.partition_point-index.ensures.partitioned parted (λ a r q k. search rules)

cut : (c : After-partition_point-index) → IsChunkCut c.args.core.now.audits c.args.chunk c.partition_point-index.result
cut c = subst (λ (xs : List AuditItem). IsChunkCut xs c.args.chunk c.partition_point-index.result) c.as_slice-audits.ensures (record {
  below = λ k d lt within. ltb-true _ _ ((point c).0 k d (omega arith) lt);
  above = λ k d le lt. ltb-false _ _ ((point c).1 k d le lt);
})

pub returns-then-audits-index : goal.returns-then-audits-index
returns-then-audits-index c =
    let audits = c.args.core.now.audits in
    let index = c.partition_point-index.result in
    let audit = c.index-audits-index-then-audits-index.result in
    let at : audit ≡ get_or audits index audit = subst (λ (xs : List AuditItem). audit ≡ get_or xs index audit) c.as_slice-audits.ensures c.index-audits-index-then-audits-index.is in
    let within : index < length audits = omega (arith, ap length c.as_slice-audits.ensures) in
    let same : audit.chunk ≡ c.args.chunk =
    ap (λ (a : AuditItem). a.chunk) (c.index-audits-index-then-audits-index.is ∙ get_or_default c.as_slice-audits.result.now index audit c.index-audits-index.result c.if-index-audits.true) ∙ c.if-audits-index.true in
    sym (audit_at audits c.args.chunk index audit (cut (goal.at.returns-then-audits-index c).After-partition_point-index) within at (eq-eqb audit.chunk c.args.chunk same))

pub returns-else-index-audits : goal.returns-else-index-audits
returns-else-index-audits c =
    let audits = c.args.core.now.audits in
    let index = c.partition_point-index.result in
    let here = cut (goal.at.returns-else-index-audits c).After-partition_point-index in
    elim c.else-index-audits.branch [
      | else-index-audits-via-then-index-audits+else-audits-index w ↦
          let audit = w.index-audits-index.result in
          let within : index < length audits = omega (arith, ap length c.as_slice-audits.ensures) in
          let other : (get_or audits index audit).chunk ≡ c.args.chunk → ⊥ = subst (λ (xs : List AuditItem). (get_or xs index audit).chunk ≡ c.args.chunk → ⊥) c.as_slice-audits.ensures w.if-audits-index.false in
          sym (audit_missed audits c.args.chunk index audit c.requires.audits_rise here within other)
      | else-index-audits-via-else-index-audits w ↦ sym (audit_past audits c.args.chunk index here (omega (arith, ap length c.as_slice-audits.ensures)))
    ]
