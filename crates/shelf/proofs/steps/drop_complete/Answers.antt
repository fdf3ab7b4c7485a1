use Rattle.std.proofs.Common.{ap, ◌∙◌, refl}
use Rattle.slab_layer.specs.Slabs.{Slabs, without_complete}
use Rattle.slab_layer.proofs.SlabsLemmas.{without_complete-dropped, without_complete-none}
use Rattle.shelf.proofs.StandingLemmas.{fewer}
use Rattle.shelf.proofs.steps.drop_complete.Goals as goal

pub loop-empty-smaller : goal.loop-empty-smaller
loop-empty-smaller c =
    fewer c.loop-empty.slabs.slabs c.drop_empty.new.self.slabs c.in-Some._empty.base c.in-Some._empty.rounds.items c.loop-empty.invariant.sound c.in-Some.ensures.lowest (ap (λ (s : Slabs). s.slabs) c.in-Some.ensures.dropped)

pub loop-empty-preserved : goal.loop-empty-preserved
loop-empty-preserved c =
    let was = c.loop-empty.invariant in
    record {
      cache = ap (λ (s : Slabs). s.cache) c.in-Some.ensures.dropped ∙ was.cache;
      spare = ap (λ (s : Slabs). s.spare) c.in-Some.ensures.dropped ∙ was.spare;
      left =
          ap (λ (s : Slabs). without_complete s.slabs) c.in-Some.ensures.dropped
          ∙ without_complete-dropped c.loop-empty.slabs.slabs c.in-Some._empty.base c.in-Some._empty.rounds.items was.sound c.in-Some.ensures.lowest
          ∙ was.left;
      sound = c.drop_empty.ensures.sound;
    }

pub returns : goal.returns
returns c =
    let was = c.loop-empty.invariant in
    let none = without_complete-none c.loop-empty.slabs.slabs was.sound (c.in_default.ensures.none.0 refl) in
    c.in_default.ensures.dropped ∙ rw (← was.cache, ← was.spare, ← was.left, none) refl
