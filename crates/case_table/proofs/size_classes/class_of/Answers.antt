use Rattle.std.proofs.Common.{◌≤◌, sym, ◌∙◌, inl, inr, refl, arith}
use Rattle.case_table.specs.Sizes.{class_sizes}
use Rattle.case_table.proofs.SizesLemmas.{class_for-value, class_for-zero, least_from_position, large_from_none, size_of-small}
use Rattle.case_table.proofs.size_classes.class_of.Goals as goal

pub returns-then-size-eq0-clause-value : goal.returns-then-size-eq0-clause-value
returns-then-size-eq0-clause-value c = sym (class_for-zero c.args.size c.if-size-eq0.true)

pub returns-in_err-class-clause-value : goal.returns-in_err-class-clause-value
unfolding class_sizes
returns-in_err-class-clause-value c =
    c.from_residual.ensures ∙ c.in_err-class.ensures.value ∙ sym (class_for-value c.args.size (omega arith))

pub returns-in_err-class-clause-none : goal.returns-in_err-class-clause-none
unfolding class_sizes
returns-in_err-class-clause-none c =
    (λ _. inr (large_from_none c.args.size c.in_err-class.ensures.value), λ _. rw c.from_residual.ensures refl)

pub returns-clause-value : goal.returns-clause-value
unfolding class_sizes
returns-clause-value c = c.in_ok-class.ensures.value ∙ sym (class_for-value c.args.size (omega arith))

pub returns-clause-least : goal.returns-clause-least
unfolding class_sizes
returns-clause-least c = least_from_position c.args.size c.in_ok-class.class (omega arith) c.in_ok-class.ensures.value

pub returns-clause-none : goal.returns-clause-none
unfolding class_sizes
returns-clause-none c =
    let found = least_from_position c.args.size c.in_ok-class.class (omega arith) c.in_ok-class.ensures.value in
    let small : c.args.size ≤ 4096 = omega (arith, found.holds, size_of-small c.in_ok-class.class) in
    (λ e. absurd cc, λ large. absurd (elim large [ inl z ↦ omega arith | inr past ↦ omega arith ]))
