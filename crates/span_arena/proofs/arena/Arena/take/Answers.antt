use Rattle.std.proofs.Common.{List, ap}
use Rattle.umem_base.specs.declared.span.Span.{Span}
use Rattle.span_arena.specs.Gap.{arena_of}
use Rattle.span_arena.proofs.ArenaLemmas.{IsTaken, IsTaken-insert}
use Rattle.span_arena.proofs.arena.Arena.take.Goals as goal

taken : (c : goal.In_ok-insert) → IsTaken (arena_of c.self.inside.base c.self.inside.pages c.self.inside.spans.items) c.insert.new.self.items c.in-Some.gap.run
taken c =
    let gap = rw c.deref.ensures.value at c.in-Some.ensures in
    IsTaken-insert (arena_of c.self.inside.base c.self.inside.pages c.self.inside.spans.items) c.in-Some.gap.run c.in-Some.gap.index c.insert.new.self.items c.self.invariant gap.1 c.in_ok-insert.ensures.items

pub invariant_of-self-2 : goal.invariant_of-self-2
invariant_of-self-2 c = (taken c).sound

pub returns-in_default-clause-lowest : goal.returns-in_default-clause-lowest
returns-in_default-clause-lowest c = rw (← c.self.view_is) (rw c.deref.ensures.value at c.in_default.ensures)

pub returns-clause-spans : goal.returns-clause-spans
returns-clause-spans c =
    rw (← c.self.view_is, ← c.in-Some.ensures.0) (ap (λ (spans : List Span). arena_of c.self.inside.base c.self.inside.pages spans) (taken c).spans)

pub returns-clause-gains : goal.returns-clause-gains
returns-clause-gains c = rw (← c.self.view_is, ← c.in-Some.ensures.0) (taken c).gains

pub returns-clause-sound : goal.returns-clause-sound
returns-clause-sound c = (taken c).sound
