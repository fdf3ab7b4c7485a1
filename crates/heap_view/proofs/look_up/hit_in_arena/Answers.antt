use Rattle.std.proofs.Common.{◌∙◌, Some, ap, sym}
use Rattle.heap_view.specs.declared.hit.Hit.{Hit}
use Rattle.heap_view.specs.Hits.{hit_outside_slabs}
use Rattle.heap_view.proofs.BuffersLemmas.{shapes_in}
use Rattle.heap_view.proofs.HitsLemmas.{found_slab}
use Rattle.heap_view.proofs.look_up.hit_in_arena.Goals as goal

pub hit_in_slab-requires-clause-from : goal.hit_in_slab-requires-clause-from
hit_in_slab-requires-clause-from c =
    (found_slab c.args.core.now c.as_slice.result.now c.args.address c.in-Some.index c.index-as_slice-index.result c.requires.laid_out c.as_slice.ensures c.in-Some.ensures.slab c.in-Some.ensures.within c.index-as_slice-index.is).low

pub hit_in_slab-requires-clause-within : goal.hit_in_slab-requires-clause-within
hit_in_slab-requires-clause-within c =
    (found_slab c.args.core.now c.as_slice.result.now c.args.address c.in-Some.index c.index-as_slice-index.result c.requires.laid_out c.as_slice.ensures c.in-Some.ensures.slab c.in-Some.ensures.within c.index-as_slice-index.is).high

pub hit_in_slab-requires-clause-shape : goal.hit_in_slab-requires-clause-shape
hit_in_slab-requires-clause-shape c =
    let found = found_slab c.args.core.now c.as_slice.result.now c.args.address c.in-Some.index c.index-as_slice-index.result c.requires.laid_out c.as_slice.ensures c.in-Some.ensures.slab c.in-Some.ensures.within c.index-as_slice-index.is in
    shapes_in c.args.core.now c.args.geometries.now c.index-as_slice-index.result.cache _ c.requires.laid_out c.requires.geometries found.sound.of_cache

pub returns-in-Some : goal.returns-in-Some
returns-in-Some c =
    let core = c.args.core.now in
    let found = found_slab core c.as_slice.result.now c.args.address c.in-Some.index c.index-as_slice-index.result c.requires.laid_out c.as_slice.ensures c.in-Some.ensures.slab c.in-Some.ensures.within c.index-as_slice-index.is in
    ap (λ (h : Hit). Some h) c.hit_in_slab.ensures ∙ ap (hit_outside_slabs core c.args.address) (sym found.is)

pub returns-in-None : goal.returns-in-None
returns-in-None c = c.large_hit_at.ensures ∙ ap (hit_outside_slabs c.args.core.now c.args.address) c.in-None.ensures.slab
