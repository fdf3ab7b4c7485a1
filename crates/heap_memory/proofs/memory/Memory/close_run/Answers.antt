use Rattle.std.proofs.Common.{ℕ, ap, subst, sym}
use Rattle.umem_base.specs.declared.span.Span.{Span}
use Rattle.span_arena.specs.Arena.{Arena}
use Rattle.heap_memory.specs.Memory.{Memory}
use Rattle.heap_memory.specs.Pages.{Closes, HasSpan}
use Rattle.heap_memory.proofs.PagesLemmas.{closed_memory}
use Rattle.heap_memory.proofs.memory.Memory.close_run.Goals as goal

pub invariant_of-self : goal.invariant_of-self
invariant_of-self c =
    let old : Memory = record { space = c.self.inside.space; arena = c.self.inside.arena } in
    let new : Memory = record { space = c.unmap.new.self; arena = c.give_back.new.self } in
    let run : Span = record { base = c.args.base; pages = c.in-Ok.pages } in
    let closes : Closes old new run = record {
      loses = c.in-Ok.ensures.loses;
      place = record { base = ap (λ (a : Arena). a.base) c.in-Ok.ensures.spans; pages = ap (λ (a : Arena). a.pages) c.in-Ok.ensures.spans };
      unmaps = c.unmap.ensures.unmaps;
    } in
    closed_memory old new run c.self.invariant closes c.unmap.ensures.sound c.give_back.ensures.sound

pub unreachable-requires : goal.unreachable-requires
unreachable-requires c =
    let had = subst (λ (m : Memory). HasSpan m c.args.base) (sym c.self.view_is) c.requires in
    c.in-Err.ensures.refused had.0 had.1
