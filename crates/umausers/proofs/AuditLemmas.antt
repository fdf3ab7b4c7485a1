-- The audits of a core rise by chunk, so that they are looked up by halves.
use Rattle.std.proofs.Common.{◌≡◌, ℕ, ◌<◌, ◌≤◌, true, false, eqb, List, length, get_or, Some, None, sym, ap, subst, arith, inl, inr}
use Rattle.std.specs.List.{AllPairs, find}
use Rattle.std.specs.List.Sorted.{IsNonDecreasingBy}
use Rattle.std.proofs.lemmas.Bool.{cases_lt}
use Rattle.std.proofs.lemmas.Bool.Decides.{nat_tests}
use Rattle.std.proofs.lemmas.List.{get_or_default}
use Rattle.core_format.specs.declared.items.AuditItem.{AuditItem}
use Rattle.heap_view.specs.Layout.{IsAuditBelow}
use Rattle.heap_view.proofs.ListLemmas.{find_first, find_none}

pub audits_sorted : (audits : List AuditItem) → AllPairs IsAuditBelow audits → IsNonDecreasingBy (λ (a : AuditItem). a.chunk) audits
audits_sorted audits rise = λ i j d le within. elim (cases_lt i j) [
  | inl lt ↦ omega (arith, rise i j d lt within)
  | inr ge ↦ let same : i ≡ j = omega arith in subst (λ (n : ℕ). (get_or audits i d).chunk ≤ (get_or audits n d).chunk) same (omega arith)
]

-- an index with the lower chunks before it, and no lower ones behind
pub record IsChunkCut (audits : List AuditItem) (chunk index : ℕ) : Type 0 where
  pub below : (k : ℕ) (d : AuditItem) → k < index → k < length audits → (get_or audits k d).chunk < chunk
  pub above : (k : ℕ) (d : AuditItem) → index ≤ k → k < length audits → chunk ≤ (get_or audits k d).chunk

unlike : (a b : ℕ) → a < b → eqb a b ≡ false
unlike a b lt = grind (arith, nat_tests)

unlike_above : (a b : ℕ) → b < a → eqb a b ≡ false
unlike_above a b lt = grind (arith, nat_tests)

-- what stands at the index is the audit of the chunk
pub audit_at : (audits : List AuditItem) (chunk index : ℕ) (audit : AuditItem) → IsChunkCut audits chunk index → index < length audits → audit ≡ get_or audits index audit → eqb audit.chunk chunk ≡ true
    → find (λ (a : AuditItem). eqb a.chunk chunk) audits ≡ Some audit
audit_at audits chunk index audit cut lt at same =
    let found = find_first (λ (a : AuditItem). eqb a.chunk chunk) audits index audit lt (subst (λ (a : AuditItem). eqb a.chunk chunk ≡ true) at same) (λ k less. unlike _ _ (cut.below k audit less (omega arith))) in
    subst (λ (a : AuditItem). find (λ (b : AuditItem). eqb b.chunk chunk) audits ≡ Some a) (sym at) found

-- no audit is of the chunk where another one stands there
pub audit_missed : (audits : List AuditItem) (chunk index : ℕ) (audit : AuditItem) → AllPairs IsAuditBelow audits → IsChunkCut audits chunk index → index < length audits → ((get_or audits index audit).chunk ≡ chunk → ⊥)
    → find (λ (a : AuditItem). eqb a.chunk chunk) audits ≡ None
audit_missed audits chunk index audit rise cut lt other =
    let past : chunk ≤ (get_or audits index audit).chunk = cut.above index audit (omega arith) lt in
    let behind : chunk < (get_or audits index audit).chunk = omega arith in
    find_none (λ (a : AuditItem). eqb a.chunk chunk) audits (λ k d less. elim (cases_lt k index) [
      | inl low ↦ unlike _ _ (cut.below k d low less)
      | inr high ↦
          let same : (get_or audits index d).chunk ≡ (get_or audits index audit).chunk = ap (λ (a : AuditItem). a.chunk) (get_or_default audits index d audit lt) in
          let up : (get_or audits index d).chunk ≤ (get_or audits k d).chunk = audits_sorted audits rise index k d high less in
          unlike_above (get_or audits k d).chunk chunk (omega arith)
    ])

-- nor where none stands there
pub audit_past : (audits : List AuditItem) (chunk index : ℕ) → IsChunkCut audits chunk index → length audits ≤ index → find (λ (a : AuditItem). eqb a.chunk chunk) audits ≡ None
audit_past audits chunk index cut le = find_none (λ (a : AuditItem). eqb a.chunk chunk) audits (λ k d less. unlike _ _ (cut.below k d (omega arith) less))
