use Rattle.std.proofs.Common.{◌≡◌, ◌≤◌, ◌∙◌, ℕ, List, length, take, ap, subst, sym, arith}
use Rattle.std.specs.List.{AllPairs, flat_map}
use Rattle.std.proofs.lemmas.List.{take_all}
use Rattle.core_format.specs.declared.items.SlabItem.{SlabItem}
use Rattle.core_format.specs.declared.whole.Core.{Core}
use Rattle.verify.specs.declared.line.Line.{Line}
use Rattle.verify.specs.Lines.{IsLineBelow, findings_of, slab_lines}
use Rattle.verify.proofs.RiseLemmas.{findings_rise}
use Rattle.verify.proofs.collect.findings.Goals as goal

told : (view core : Core) (lines : List Line) (index : ℕ) (slabs : List SlabItem) → lines ≡ flat_map (slab_lines view) (take index slabs) → length slabs ≤ index → slabs ≡ core.slabs → core ≡ view → lines ≡ findings_of view
unfolding findings_of
told view core lines index slabs so_far all same seen =
    so_far ∙ ap (flat_map (slab_lines view)) (take_all index slabs all) ∙ ap (flat_map (slab_lines view)) (same ∙ ap (λ (c : Core). c.slabs) seen)

pub returns-clause-value : goal.returns-clause-value
returns-clause-value c = told c.args.view.now c.core.result.now c.loop-slab.out.items c.loop-slab.slab-index c.as_slice-slabs.result.now c.loop-slab.invariant (omega arith) c.as_slice-slabs.ensures c.core.ensures.value

pub returns-clause-rise : goal.returns-clause-rise
returns-clause-rise c =
    let same = told c.args.view.now c.core.result.now c.loop-slab.out.items c.loop-slab.slab-index c.as_slice-slabs.result.now c.loop-slab.invariant (omega arith) c.as_slice-slabs.ensures c.core.ensures.value in
    subst (AllPairs IsLineBelow) (sym same) (findings_rise c.args.view.now c.core.ensures.laid_out)
