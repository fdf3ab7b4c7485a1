-- Runs of pages, and how two of them stand.
use Rattle.std.specs.Prelude.{ℕ, ◌+◌, ◌*◌, ◌<◌, ◌≤◌}
use Rattle.umem_base.specs.declared.pages.TheConstants.{PAGE_BYTES}
use Rattle.umem_base.specs.declared.span.Span.{Span}
use Rattle.umem_base.specs.Pages.{IsPage}

-- the address past a span
abbrev pub span_end : Span → ℕ
span_end span = span.base + PAGE_BYTES * span.pages

-- an address lies in a span
abbrev pub LiesIn : Span → ℕ → Type 0
LiesIn span address = (span.base ≤ address) × (address < span_end span)

-- the first of two spans ends where the second begins, or below
abbrev pub EndsBelow : Span → Span → Type 0
EndsBelow lower upper = span_end lower ≤ upper.base

-- a span is one page or more between two addresses
pub record IsSpanWithin (from to : ℕ) (span : Span) : Type 0 where
  pub page : IsPage span.base
  pub some : 1 ≤ span.pages
  pub low : from ≤ span.base
  pub high : span_end span ≤ to
