-- Pages, each named by its address, and runs of them. The words take what it means that a page is free, so
-- that an arena and a history can each say it in their own terms.
use Rattle.std.specs.Prelude.{◌≡◌, ℕ, ◌+◌, ◌-◌, ◌*◌, ◌/◌, ◌%◌, ◌<◌}
use Rattle.umem_base.specs.declared.pages.TheConstants.{PAGE_BYTES}

-- how many pages hold so many bytes
abbrev pub pages_for : ℕ → ℕ
pages_for bytes = (bytes + (PAGE_BYTES - 1)) / PAGE_BYTES

-- a page begins there
abbrev pub IsPage : ℕ → Type 0
IsPage address = address % PAGE_BYTES ≡ 0

-- the run of pages from base on is free
abbrev pub IsFreeRun : (ℕ → Type 0) → ℕ → ℕ → Type 0
IsFreeRun IsFree pages base = (k : ℕ) → k < pages → IsFree (base + PAGE_BYTES * k)

-- no run of so many pages is free
abbrev pub HasNoRun : (ℕ → Type 0) → ℕ → Type 0
HasNoRun IsFree pages = (base : ℕ) → IsFreeRun IsFree pages base → ⊥

-- the lowest address at which so many free pages stand together
pub record IsLowestRun (IsFree : ℕ → Type 0) (pages base : ℕ) : Type 0 where
  pub free : IsFreeRun IsFree pages base
  pub lowest : (lower : ℕ) → lower < base → IsFreeRun IsFree pages lower → ⊥
