use Rattle.std.proofs.Common.{◌∙◌, Some, ap, sym}
use Rattle.std.specs.Option.{option_map}
use Rattle.heap_view.specs.declared.hit.Hit.{Hit}
use Rattle.heap_view.specs.Hits.{hit_in_large}
use Rattle.heap_view.proofs.HitsLemmas.{found_large}
use Rattle.heap_view.proofs.look_up.large_hit_at.Goals as goal

pub hit_in_large-requires : goal.hit_in_large-requires
hit_in_large-requires c =
    (found_large c.args.core.now c.as_slice.result.now c.args.address c.in-Some.index c.index-as_slice-index.result c.requires c.as_slice.ensures c.in-Some.ensures.large c.in-Some.ensures.within c.index-as_slice-index.is).low

pub returns-in-Some : goal.returns-in-Some
returns-in-Some c =
    let found = found_large c.args.core.now c.as_slice.result.now c.args.address c.in-Some.index c.index-as_slice-index.result c.requires c.as_slice.ensures c.in-Some.ensures.large c.in-Some.ensures.within c.index-as_slice-index.is in
    ap (λ (h : Hit). Some h) c.hit_in_large.ensures ∙ ap (option_map (hit_in_large c.args.address)) (sym found.is)
