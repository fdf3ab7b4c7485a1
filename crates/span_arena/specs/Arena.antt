-- What an arena is seen as, and which of its pages are free.
use Rattle.std.specs.Prelude.{ℕ, ◌+◌, ◌*◌, ◌≤◌, ◌^◌, List, All, AllPairs}
use Rattle.umem_base.specs.declared.pages.TheConstants.{PAGE_BYTES}
use Rattle.umem_base.specs.declared.span.Span.{Span}
use Rattle.umem_base.specs.Pages.{IsPage}
use Rattle.umem_base.specs.Span.{LiesIn, EndsBelow, IsSpanWithin}

-- where the pages of an arena begin, how many they are, and the taken spans by rising base
pub record Arena : Type 0 where
  pub base : ℕ
  pub pages : ℕ
  pub spans : List Span

-- the address past the last page
abbrev pub pages_end : Arena → ℕ
pages_end arena = arena.base + PAGE_BYTES * arena.pages

-- no span holds an address
abbrev pub IsUntaken : List Span → ℕ → Type 0
IsUntaken spans address = All (λ span. ¬ LiesIn span address) spans

-- a page of the arena that lies in no taken span
pub record IsFreeIn (arena : Arena) (address : ℕ) : Type 0 where
  pub page : IsPage address
  pub from : arena.base ≤ address
  pub to : address + PAGE_BYTES ≤ pages_end arena
  pub untaken : IsUntaken arena.spans address

-- an arena lies below 2 ^ 32, and its taken spans are pages of it, rise, and never meet
pub record IsSound (arena : Arena) : Type 0 where
  pub page : IsPage arena.base
  pub to : pages_end arena ≤ 2 ^ 32
  pub inside : All (IsSpanWithin arena.base (pages_end arena)) arena.spans
  pub apart : AllPairs EndsBelow arena.spans
