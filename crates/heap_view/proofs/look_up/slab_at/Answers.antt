use Rattle.std.proofs.Common.{◌≡◌, ◌∙◌, ◌<◌, ◌-◌, ◌*◌, ℕ, List, length, get_or, ap, subst, sym, arith}
use Rattle.std.specs.List.Sorted.{IsNonDecreasingBy}
use Rattle.umem_base.specs.declared.pages.TheConstants.{PAGE_BYTES}
use Rattle.core_format.specs.declared.items.SlabItem.{SlabItem}
use Rattle.core_format.specs.Chunks.{core_shapes}
use Rattle.core_format.specs.Slabs.{shape_at}
use Rattle.heap_view.specs.Layout.{IsSoundSlab}
use Rattle.heap_view.specs.Search.{IsCut}
use Rattle.heap_view.proofs.MemoryLemmas.{slab_begins, slab_found, slab_missed, slab_test, slabs_start_rising}
use Rattle.heap_view.proofs.look_up.slab_at.Goals as goal

pub count_slabs-index-requires : goal.count_slabs-index-requires
count_slabs-index-requires c = subst (IsNonDecreasingBy (λ (s : SlabItem). s.base)) (sym c.as_slice-slabs.ensures) (slabs_start_rising c.args.core.now c.requires)

pub returns-then-index-eq0-clause-slab : goal.returns-then-index-eq0-clause-slab
returns-then-index-eq0-clause-slab c =
    let cut = subst (λ (xs : List SlabItem). IsCut (λ (s : SlabItem). s.base) xs c.args.address c.count_slabs-index.result) c.as_slice-slabs.ensures c.count_slabs-index.ensures in
    sym (slab_missed c.args.core.now c.args.address c.count_slabs-index.result cut c.if-index-eq0.true)

pub overflow_sub-address : goal.overflow_sub-address
overflow_sub-address c =
    let slab = c.index-slabs-index.result in
    slab_begins c.as_slice-slabs.result.now c.args.address c.count_slabs-index.result slab c.count_slabs-index.ensures (omega (arith, c.if-index-eq0.false)) c.index-slabs-index.is

pub returns-clause-slab : goal.returns-clause-slab
returns-clause-slab c =
    let core = c.args.core.now in
    let slab = c.index-slabs-index.result in
    let index = c.count_slabs-index.result in
    let cut = subst (λ (xs : List SlabItem). IsCut (λ (s : SlabItem). s.base) xs c.args.address index) c.as_slice-slabs.ensures c.count_slabs-index.ensures in
    let at : slab ≡ get_or core.slabs (index - 1) slab = subst (λ (xs : List SlabItem). slab ≡ get_or xs (index - 1) slab) c.as_slice-slabs.ensures c.index-slabs-index.is in
    let some : 0 < index = omega (arith, c.if-index-eq0.false) in
    let low = slab_begins core.slabs c.args.address index slab cut some at in
    let sound : IsSoundSlab core slab = subst (IsSoundSlab core) (sym at) (c.requires.slabs (index - 1) slab (omega (arith, some, cut.within))) in
    let long : length c.as_slice.result.now ≡ PAGE_BYTES * (shape_at (core_shapes core) slab.cache).pages = ap (λ (bytes : List ℕ). length bytes) c.as_slice.ensures ∙ sound.filled in
    rw c.then_some.ensures (slab_found core c.args.address index _ slab c.requires cut some cut.within (slab_test core c.args.address index slab _ at long low))
