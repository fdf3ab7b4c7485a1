-- A table has one first row that hits.
use Rattle.std.proofs.Common.{◌≡◌, ℕ, List, inl, inr}
use Rattle.std.proofs.lemmas.Bool.{cases_order}
use Rattle.case_table.specs.declared.rule.Rule.{Rule}
use Rattle.case_table.specs.Cases.{IsFirstHit}

pub same_first_hit : (state facts : ℕ) (rows : List Rule) (i j : ℕ) → IsFirstHit state facts rows i → IsFirstHit state facts rows j → i ≡ j
same_first_hit state facts rows i j p q = elim (cases_order i j) [
  | inl e ↦ e
  | inr apart ↦ elim apart [
    | inl lt ↦ absurd (q.before i p.hit.0 lt p.hit.1 p.hit.2)
    | inr gt ↦ absurd (p.before j q.hit.0 gt q.hit.1 q.hit.2)
  ]
]
