use Rattle.std.proofs.Common.{◌≡◌, List, ap}
use Rattle.umem_base.specs.declared.span.Span.{Span}
use Rattle.span_arena.specs.Gap.{arena_of}
use Rattle.span_arena.proofs.ArenaLemmas.{IsGivenBack, IsGivenBack-remove}
use Rattle.span_arena.proofs.arena.Arena.give_back.Goals as goal

given : (c : goal.After-remove) → IsGivenBack (arena_of c.self.inside.base c.self.inside.pages c.self.inside.spans.items) c.remove.new.self.items c.remove.result × (c.remove.result.base ≡ c.args.base)
given c =
    let place = rw c.deref.ensures.value at c.in-Some.ensures in
    let at = c.remove.ensures.value in (
      IsGivenBack-remove (arena_of c.self.inside.base c.self.inside.pages c.self.inside.spans.items) c.in-Some.index c.remove.result c.remove.new.self.items c.self.invariant place.0 at c.remove.ensures.items,
      rw at (place.1 c.remove.result),
    )

pub invariant_of-self : goal.invariant_of-self
invariant_of-self c = (given c).0.sound

pub returns-clause-spans : goal.returns-clause-spans
returns-clause-spans c =
    rw (← c.self.view_is, ← (given c).1) (ap (λ (spans : List Span). arena_of c.self.inside.base c.self.inside.pages spans) (given c).0.spans)

pub returns-clause-loses : goal.returns-clause-loses
returns-clause-loses c = rw (← c.self.view_is, ← (given c).1) (given c).0.loses

pub returns-clause-sound : goal.returns-clause-sound
returns-clause-sound c = (given c).0.sound
