use Rattle.std.proofs.Common.{◌≡◌, ◌∙◌, ◌+◌, ◌<◌, refl, ap}
use Rattle.std.specs.Prelude.{length}
use Rattle.std.proofs.lemmas.List.{get_or_default}
use Rattle.umem_base.specs.Ordered.{put_by}
use Rattle.heap_slabs.specs.declared.standing.Standing.{Standing}
use Rattle.heap_slabs.specs.Standing.{StandingSlabs}
use Rattle.heap_slabs.specs.HeapSlabs.{no_slabs, slab_made, slabs_of}
use Rattle.heap_slabs.proofs.ReapLemmas.{grown, table_more}
use Rattle.heap_slabs.proofs.table.HeapSlabs.add.Goals as goal

known : (c : goal.After-add) → c.args.cache < length c.self.inside.caches.items
known c = rw (← c.self.view_is) at c.requires.cache

which : (c : goal.After-add) → c.index_mut-its.result.now ≡ slabs_of c.self.inside.caches.items c.args.cache
which c = c.index_mut-its.ensures.value ∙ get_or_default c.self.inside.caches.items c.args.cache c.index_mut-its.result.now no_slabs (known c)

numbers : (c : goal.After-add) → c.self.inside.next + c.slab_made-slab.result.rounds ≡ c.self.inside.next + (slab_made c.index_mut-its.result.now c.args.cache c.self.inside.next c.args.base).rounds
numbers c = ap (λ (s : Standing). c.self.inside.next + s.rounds) c.slab_made-slab.ensures.value

listed : (c : goal.After-add) → c.add.new.self.slabs ≡ put_by (λ s. s.base) c.self.inside.slabs.slabs (slab_made c.index_mut-its.result.now c.args.cache c.self.inside.next c.args.base)
listed c = ap (λ (s : StandingSlabs). s.slabs) c.add.ensures.value ∙ ap (λ (s : Standing). put_by (λ x. x.base) c.self.inside.slabs.slabs s) c.slab_made-slab.ensures.value

pub returns-clause-added : goal.returns-clause-added
returns-clause-added c =
    rw (← c.self.view_is) (λ setting state header is unused. grown setting state _ _ c.args.cache c.args.base c.index_mut-its.result.now is (known c) unused (which c) refl (numbers c) (listed c))

pub invariant_of-self : goal.invariant_of-self
invariant_of-self c =
    let some : 0 < (slab_made c.index_mut-its.result.now c.args.cache c.self.inside.next c.args.base).rounds = rw c.slab_made-slab.ensures.value at c.slab_made-slab.ensures.sound.rounds in
    table_more _ _ c.args.cache c.args.base c.index_mut-its.result.now c.self.invariant (known c) (which c) refl (numbers c) some (listed c) c.add.ensures.sound
