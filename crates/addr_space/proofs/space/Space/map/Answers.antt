use Rattle.std.proofs.Common.{◌*◌, ◌≡◌, refl, ap, ◌∙◌, arith}
use Rattle.std.specs.Prelude.{insert}
use Rattle.std.proofs.lemmas.Result.{err_from_is_err_and}
use Rattle.umem_base.specs.declared.pages.TheConstants.{PAGE_BYTES}
use Rattle.addr_space.specs.MappedRun.{MappedRun}
use Rattle.addr_space.proofs.SpaceLemmas.{zeros, IsSpace-insert, Maps-insert, no_byte_in_gap, byte_where_met, IsSound-from_space}
use Rattle.addr_space.proofs.space.Space.map.Goals as goal

pub returns-in_default-clause-overlap : goal.returns-in_default-clause-overlap
returns-in_default-clause-overlap c =
    let met = rw c.deref.ensures.value at c.in_default.ensures in
    rw (← c.self.view_is) (λ e. byte_where_met c.self.inside.runs.items c.args.base (PAGE_BYTES * c.args.pages) c.self.invariant (omega (arith, c.requires.some)) met, λ h. refl)

pub returns-in_err-run-clause-overlap : goal.returns-in_err-run-clause-overlap
returns-in_err-run-clause-overlap c =
    let p = err_from_is_err_and c.from_residual.result c.from_residual.ensures.1 in
    let gap = rw c.deref.ensures.value at c.in-Some.ensures in
    rw (p.1, p.2, ← c.self.view_is) (λ e. absurd cc, λ h. absurd (no_byte_in_gap c.self.inside.runs.items c.args.base (PAGE_BYTES * c.args.pages) c.in-Some.index gap h))

pub returns-in_err-insert-clause-overlap : goal.returns-in_err-insert-clause-overlap
returns-in_err-insert-clause-overlap c =
    let p = err_from_is_err_and c.from_residual-in_err-insert.result c.from_residual-in_err-insert.ensures.1 in
    let gap = rw c.deref.ensures.value at c.in-Some.ensures in
    rw (p.1, p.2, ← c.self.view_is) (λ e. absurd cc, λ h. absurd (no_byte_in_gap c.self.inside.runs.items c.args.base (PAGE_BYTES * c.args.pages) c.in-Some.index gap h))

items : (c : goal.In_ok-insert) → c.insert.new.self.items ≡ insert c.self.inside.runs.items c.in-Some.index (zeros c.args.base (PAGE_BYTES * c.args.pages))
items c = c.in_ok-insert.ensures.items ∙ ap (λ (m : MappedRun). insert c.self.inside.runs.items c.in-Some.index m) c.in_ok-run.ensures

pub invariant_of-self-2 : goal.invariant_of-self-2
invariant_of-self-2 c =
    let gap = rw c.deref.ensures.value at c.in-Some.ensures in
    rw (items c) (IsSpace-insert c.self.inside.runs.items c.args.base c.args.pages c.in-Some.index c.self.invariant c.requires.page c.requires.some c.requires.below gap)

pub returns-clause-ok : goal.returns-clause-ok
returns-clause-ok c =
    let gap = rw c.deref.ensures.value at c.in-Some.ensures in
    rw (← c.self.view_is, items c) (Maps-insert c.self.inside.runs.items c.args.base c.args.pages c.in-Some.index c.self.invariant c.requires.some gap)

pub returns-clause-overlap : goal.returns-clause-overlap
returns-clause-overlap c =
    let gap = rw c.deref.ensures.value at c.in-Some.ensures in
    rw (← c.self.view_is) (λ e. absurd cc, λ h. absurd (no_byte_in_gap c.self.inside.runs.items c.args.base (PAGE_BYTES * c.args.pages) c.in-Some.index gap h))

pub returns-in_default-clause-sound : goal.returns-in_default-clause-sound
returns-in_default-clause-sound c = rw (← c.self.view_is) (IsSound-from_space c.self.inside.runs.items c.self.invariant)

pub returns-in_err-run-clause-sound : goal.returns-in_err-run-clause-sound
returns-in_err-run-clause-sound c = rw (← c.self.view_is) (IsSound-from_space c.self.inside.runs.items c.self.invariant)

pub returns-in_err-insert-clause-sound : goal.returns-in_err-insert-clause-sound
returns-in_err-insert-clause-sound c = rw c.in_err-insert.ensures.items (IsSound-from_space c.self.inside.runs.items c.self.invariant)

pub returns-clause-sound : goal.returns-clause-sound
returns-clause-sound c = IsSound-from_space c.insert.new.self.items (invariant_of-self-2 c)
