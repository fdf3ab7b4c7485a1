use Rattle.std.proofs.Common.{◌≡◌, ap, subst, sym, ◌∙◌}
use Rattle.case_table.specs.Geometry.{IsSlabGeometry, chunk_of, pages_of, magazine_of}
use Rattle.case_table.proofs.GeometryLemmas.{geometry_is_sound, geometry_of-parts}
use Rattle.case_table.proofs.slab_formulas.geometry.Goals as goal

pub returns-clause-value : goal.returns-clause-value
returns-clause-value c =
    let content = c.round_up-content.ensures in
    let chunk : c.round_up-chunk.result ≡ chunk_of c.args.size c.args.align c.args.guards = rw (content, c.tag_size.ensures) at c.round_up-chunk.ensures in
    geometry_of-parts c.args.size c.args.align c.args.guards _ _ _ _ content chunk (c.slab_pages-pages.ensures ∙ ap pages_of chunk) (c.magazine_size.ensures ∙ ap magazine_of chunk)

pub returns-clause-sound : goal.returns-clause-sound
returns-clause-sound c = subst (IsSlabGeometry c.args.size c.args.align c.args.guards) (sym (returns-clause-value c)) (geometry_is_sound c.args.size c.args.align c.args.guards c.requires)
