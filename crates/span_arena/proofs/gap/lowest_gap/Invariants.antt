use Rattle.span_arena.specs.Gap.{arena_of}
use Rattle.span_arena.proofs.GapLemmas.{Searched}
use Rattle.span_arena.proofs.gap.lowest_gap.Given as goal

abbrev pub invariant-loop-index : goal.invariant-loop-index
invariant-loop-index l = Searched (arena_of l.base l.count l.spans) l.pages l.index l.from
