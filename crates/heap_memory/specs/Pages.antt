-- How runs of pages are opened and closed, and what of a memory stands where.
use Rattle.std.specs.Prelude.{◌≡◌, ℕ, Option, None, Some, Contains}
use Rattle.umem_base.specs.declared.span.Span.{Span}
use Rattle.umem_base.specs.Ordered.{Gains, Loses}
use Rattle.umem_base.specs.Pages.{HasNoRun, IsLowestRun}
use Rattle.addr_space.specs.Space.{IsMappedRange, Maps, Unmaps}
use Rattle.span_arena.specs.Arena.{Arena, IsFreeIn}
use Rattle.plain_heap.specs.Setting.{slot_address}
use Rattle.heap_memory.specs.Memory.{Memory}

-- the word of a slot is mapped
abbrev pub HasSlot : Memory → ℕ → ℕ → Type 0
HasSlot memory thread slot = IsMappedRange memory.space (slot_address thread slot) 8

-- a taken span begins at an address
abbrev pub HasSpan : Memory → ℕ → Type 0
HasSpan memory base = (pages : ℕ) × Contains memory.arena.spans (record { base = base; pages = pages })

-- the arenas lie in one place
pub record IsSamePlace (old new : Arena) : Type 0 where
  pub base : new.base ≡ old.base
  pub pages : new.pages ≡ old.pages

-- the lowest free run of a length is taken and mapped with zeros now, and nothing else changed
pub record OpensRun (old new : Memory) (run : Span) : Type 0 where
  pub lowest : IsLowestRun (IsFreeIn old.arena) run.pages run.base
  pub gains : Gains old.arena.spans new.arena.spans run
  pub place : IsSamePlace old.arena new.arena
  pub maps : Maps old.space new.space run

-- the lowest free run of so many pages was opened, or there is none, and then nothing changed
abbrev pub OpensLowest : Memory → Memory → ℕ → Option ℕ → Type 0
OpensLowest old new pages None = (new ≡ old) × HasNoRun (IsFreeIn old.arena) pages
OpensLowest old new pages (Some base) = OpensRun old new (record { base = base; pages = pages })

-- a span is neither taken nor mapped any more, and nothing else changed
pub record Closes (old new : Memory) (run : Span) : Type 0 where
  pub loses : Loses (λ span. span.base) old.arena.spans new.arena.spans run
  pub place : IsSamePlace old.arena new.arena
  pub unmaps : Unmaps old.space new.space run

-- the same spans are taken, and nothing else changed
pub record HasSameSpans (old new : Memory) : Type 0 where
  pub space : new.space ≡ old.space
  pub kept : (span : Span) → Contains old.arena.spans span → Contains new.arena.spans span
  pub only : (span : Span) → Contains new.arena.spans span → Contains old.arena.spans span
  pub place : IsSamePlace old.arena new.arena
