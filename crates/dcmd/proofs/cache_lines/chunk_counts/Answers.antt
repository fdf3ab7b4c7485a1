use Rattle.std.proofs.Common.{◌≡◌, ℕ, ◌+◌, ◌<◌, ◌∙◌, List, length, get_or, ap, subst, sym, arith}
use Rattle.std.proofs.lemmas.List.{get_or_default, length-set}
use Rattle.core_format.specs.declared.items.SlabItem.{SlabItem}
use Rattle.heap_view.specs.Layout.{IsSoundSlab}
use Rattle.dcmd.proofs.CountLemmas.{count_more, rounds_are, sum_fits}
use Rattle.dcmd.proofs.cache_lines.chunk_counts.Goals as goal

pub overflow_add-index_mut : goal.overflow_add-index_mut
overflow_add-index_mut c =
    let core = c.args.core.now in
    let slab = c.slab-item.result in
    let index = c.loop-slab.slab-index in
    let lt : index < length core.slabs = omega (arith, ap length c.as_slice-slab-items.ensures, c.loop-slab-test.true) in
    let is : slab ≡ get_or core.slabs index slab = c.slab-item.is ∙ ap (λ (slabs : List SlabItem). get_or slabs index slab) c.as_slice-slab-items.ensures in
    let sound : IsSoundSlab core slab = subst (IsSoundSlab core) (sym is) (c.requires.slabs index slab lt) in
    let rounds = c.from.ensures ∙ rounds_are core slab c.geometry_in.result c.geometry_in.ensures.shape in
    let counts = c.loop-slab.counts.items in
    let within : slab.cache < length counts = omega (arith, sound.of_cache, c.loop-slab.invariant.all) in
    let now = c.index_mut.ensures.value ∙ get_or_default counts slab.cache c.index_mut.result.now 0 within ∙ c.loop-slab.invariant.counted slab.cache sound.of_cache in
    omega (arith, sum_fits core index slab c.index_mut.result.now c.from.result c.requires lt is now rounds)

pub loop-slab-preserved : goal.loop-slab-preserved
loop-slab-preserved c =
    let core = c.args.core.now in
    let counts = c.loop-slab.counts.items in
    let slab = c.slab-item.result in
    let index = c.loop-slab.slab-index in
    let sum = c.index_mut.result.now + c.from.result in
    let lt : index < length core.slabs = omega (arith, ap length c.as_slice-slab-items.ensures, c.loop-slab-test.true) in
    let is : slab ≡ get_or core.slabs index slab = c.slab-item.is ∙ ap (λ (slabs : List SlabItem). get_or slabs index slab) c.as_slice-slab-items.ensures in
    let sound : IsSoundSlab core slab = subst (IsSoundSlab core) (sym is) (c.requires.slabs index slab lt) in
    let within : slab.cache < length counts = omega (arith, sound.of_cache, c.loop-slab.invariant.all) in
    let rounds = c.from.ensures ∙ rounds_are core slab c.geometry_in.result c.geometry_in.ensures.shape in
    let sum-is = ap (λ (n : ℕ). n + c.from.result) (c.index_mut.ensures.value ∙ get_or_default counts slab.cache c.index_mut.result.now 0 within) in
    record {
      all = length-set counts slab.cache sum ∙ c.loop-slab.invariant.all;
      counted = count_more core counts index slab c.from.result sum lt is within rounds sum-is c.loop-slab.invariant.counted;
    }
