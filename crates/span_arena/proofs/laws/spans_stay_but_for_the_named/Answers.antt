use Rattle.std.proofs.Common.{ℕ, inl, inr}
use Rattle.umem_base.specs.declared.span.Span.{Span}
use Rattle.umem_base.proofs.OrderedLemmas.{Gains-put_by, Contains-left_out_by, Contains-from_left_out_by}
use Rattle.span_arena.proofs.laws.spans_stay_but_for_the_named.Goals as goal

abbrev key : Span → ℕ
key s = s.base

pub returns-clause-one_more : goal.returns-clause-one_more
returns-clause-one_more c =
    λ spans span other. let gains = Gains-put_by key spans span in
    (gains.only other, λ h. elim h [ inl was ↦ gains.kept other was | inr is ↦ rw is gains.gained ])

pub returns-clause-left_out : goal.returns-clause-left_out
returns-clause-left_out c =
    λ spans base other. (Contains-from_left_out_by key spans base other, λ h. Contains-left_out_by key spans base other h.0 h.1)
