use Rattle.std.proofs.Common.{◌≡◌, ◌+◌, ◌*◌, ◌≤◌, ◌∙◌, ℕ, List, ap, subst, sym, arith}
use Rattle.std.specs.Option.{option_map}
use Rattle.std.specs.Prelude.{unwrap_or}
use Rattle.core_format.specs.declared.cache_shape.CacheShape.{CacheShape}
use Rattle.core_format.specs.declared.range.Range.{Range}
use Rattle.core_format.specs.Items.{last_of_list}
use Rattle.core_format.specs.Slabs.{past_chunks, shape_at, slab_end}
use Rattle.core_format.specs.SlabTable.{FitsTable, SlabTable}
use Rattle.core_format.proofs.IndexLemmas.{last_slab_end}
use Rattle.core_format.proofs.SlabTableLemmas.{IsIndexed-more, page_range-is, place_is_free}
use Rattle.core_format.proofs.slab_table.SlabTable.with_slab.Goals as goal

pub unwrap-place-requires : goal.unwrap-place-requires
unwrap-place-requires c =
    let fits = subst (λ (t : SlabTable). FitsTable t c.args.slab) (sym c.self.view_is) c.requires in
    let shape : c.shape_in-shape.result ≡ shape_at c.self.inside.shapes.items c.args.slab.cache = rw (← c.deref.ensures.value) c.shape_in-shape.ensures in
    let past : c.from-first.result + c.from.result ≡ past_chunks c.self.inside.shapes.items c.args.slab = omega (arith, c.from-first.ensures, c.from.ensures, ap (λ (s : CacheShape). s.rounds) shape) in
    place_is_free c.self.inside.shapes.items c.self.inside.slabs.items c.self.inside.chunks c.self.inside.pages c.args.slab c.from-first.result (c.from-first.result + c.from.result) c.place_of.result c.self.invariant c.from-first.ensures past fits.free c.place_of.ensures.none

pub push-requires-clause-behind : goal.push-requires-clause-behind
push-requires-clause-behind c =
    let fits = subst (λ (t : SlabTable). FitsTable t c.args.slab) (sym c.self.view_is) c.requires in
    let end = ap (λ (rs : List Range). unwrap_or (option_map (λ (r : Range). r.past) (last_of_list rs)) 0) c.self.invariant.pages_are ∙ last_slab_end c.self.inside.shapes.items c.self.inside.slabs.items in
    subst (λ (n : ℕ). n ≤ c.args.slab.base) (sym end) fits.behind

pub invariant_of-result : goal.invariant_of-result
invariant_of-result c =
    let fits = subst (λ (t : SlabTable). FitsTable t c.args.slab) (sym c.self.view_is) c.requires in
    let shape : c.shape_in-shape.result ≡ shape_at c.self.inside.shapes.items c.args.slab.cache = rw (← c.deref.ensures.value) c.shape_in-shape.ensures in
    let past : c.from-first.result + c.from.result ≡ past_chunks c.self.inside.shapes.items c.args.slab = omega (arith, c.from-first.ensures, c.from.ensures, ap (λ (s : CacheShape). s.rounds) shape) in
    let end : c.args.slab.base + 4096 * c.from-2.result ≡ slab_end c.self.inside.shapes.items c.args.slab = omega (arith, c.from-2.ensures, ap (λ (s : CacheShape). s.pages) shape) in
    IsIndexed-more c.self.inside.shapes.items c.self.inside.slabs.items c.push-2.new.self.items c.args.slab _ _ c.self.inside.chunks c.put.new.self c.self.inside.pages c.push.new.self c.self.invariant c.in_ok-push-2.ensures.items c.in_ok-put.ensures.ok
    c.from-first.ensures past (omega (arith, c.len.ensures)) c.in_ok-push.ensures (page_range-is c.self.inside.shapes.items c.args.slab (c.args.slab.base + 4096 * c.from-2.result) end) fits.free fits.list
