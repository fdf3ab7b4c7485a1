use Rattle.std.proofs.Common.{◌≡◌, false, sym, subst}
use Rattle.std.specs.List.{list_any}
use Rattle.core_format.specs.Slabs.{holds_chunk}
use Rattle.core_format.specs.SlabTable.{OwnsChunk, SlabTable}
use Rattle.core_format.proofs.SlabTableLemmas.{is_listed-none, is_listed-owner}
use Rattle.core_format.proofs.slab_table.SlabTable.is_listed.Goals as goal

pub returns-in-Some : goal.returns-in-Some
returns-in-Some c =
    let owns = subst (λ (t : SlabTable). OwnsChunk t c.args.chunk c.in-Some.index) (sym c.self.view_is) c.in-Some.ensures.owner in
    rw (c.has_number.ensures, c.as_slice.ensures, ← c.self.view_is) (is_listed-owner c.self.inside.shapes.items c.self.inside.slabs.items c.self.inside.chunks c.self.inside.pages c.args.chunk c.in-Some.index c.index.result.now c.self.invariant owns c.index.ensures)

pub returns-in-None : goal.returns-in-None
returns-in-None c =
    let none = subst (λ (t : SlabTable). list_any (holds_chunk t.shapes c.args.chunk) t.slabs ≡ false) (sym c.self.view_is) (sym c.in-None.ensures.found) in
    rw (← c.self.view_is) (sym (is_listed-none c.self.inside.shapes.items c.self.inside.slabs.items c.self.inside.chunks c.self.inside.pages c.args.chunk c.self.invariant none))
