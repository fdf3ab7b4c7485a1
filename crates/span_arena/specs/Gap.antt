-- A gap between the taken spans of an arena.
use Rattle.std.specs.Prelude.{ℕ, List}
use Rattle.umem_base.specs.declared.span.Span.{Span}
use Rattle.umem_base.specs.Ordered.{SplitsBy}
use Rattle.umem_base.specs.Pages.{IsLowestRun}
use Rattle.umem_base.specs.Span.{EndsBelow, IsSpanWithin}
use Rattle.span_arena.specs.Arena.{Arena, IsFreeIn, pages_end}

-- the arena of its parts
abbrev pub arena_of : ℕ → ℕ → List Span → Arena
arena_of base pages spans = record { base = base; pages = pages; spans = spans }

-- a run of pages is the lowest free one of its length, between the spans before the index and those from it on
pub record IsGap (arena : Arena) (run : Span) (index : ℕ) : Type 0 where
  pub lowest : IsLowestRun (IsFreeIn arena) run.pages run.base
  pub inside : IsSpanWithin arena.base (pages_end arena) run
  pub place : SplitsBy (λ span. EndsBelow span run) (λ span. EndsBelow run span) arena.spans index
