-- What a memory is seen as, and when it is that of a state.
use Rattle.std.specs.Prelude.{◌≡◌, ℕ, ◌+◌, ◌*◌, ◌≤◌, ◌⊎◌, ◌↔◌, Some, None, Contains, if◌then◌else◌}
use Rattle.umem_base.specs.declared.arena.TheConstants.{ARENA_BASE}
use Rattle.umem_base.specs.declared.pages.TheConstants.{PAGE_BYTES}
use Rattle.umem_base.specs.declared.span.Span.{Span}
use Rattle.umem_base.specs.Roots.{arena_pages}
use Rattle.umem_base.specs.Span.{span_end}
use Rattle.addr_space.specs.Space.{IsSound as IsSoundSpace, Space, byte_at, runs_of}
use Rattle.span_arena.specs.Arena.{Arena, IsSound as IsSoundArena}
use Rattle.script.specs.declared.tree.Header.{Header}
use Rattle.plain_heap.specs.Setting.{Setting, is_in_root}
use Rattle.plain_heap.specs.State.{State, image, spans_of}

-- the mapped bytes, and the arena of the pages that slabs and large buffers are given
pub record Memory : Type 0 where
  pub space : Space
  pub arena : Arena

-- each taken span of the arena is mapped as one run, and whatever else is mapped stands below the arena
pub record IsMemory (memory : Memory) : Type 0 where
  pub space : IsSoundSpace memory.space
  pub arena : IsSoundArena memory.arena
  pub spans : (span : Span) → Contains memory.arena.spans span → Contains (runs_of memory.space) span
  pub others : (run : Span) → Contains (runs_of memory.space) run
      → Contains memory.arena.spans run ⊎ (span_end run ≤ memory.arena.base)

-- the root pages of a header are mapped and hold zeros, and nothing else is mapped
pub record HasRoots (header : Header) (space : Space) : Type 0 where
  pub bytes : (address : ℕ) → byte_at space address ≡ (if is_in_root header address then Some 0 else None)
  pub below : (run : Span) → Contains (runs_of space) run → span_end run ≤ ARENA_BASE
  pub sound : IsSoundSpace space

-- The memory is that of a state: it holds the byte of each address that is mapped in the state, and none elsewhere. The
-- arena is that of the version, and its taken spans are the runs of pages of the state, each of which is mapped as one.
pub record IsMemoryOf (setting : Setting) (state : State) (memory : Memory) : Type 0 where
  pub bytes : (address : ℕ) → byte_at memory.space address ≡ image setting state address
  pub runs : (span : Span) → Contains (spans_of setting state) span → Contains (runs_of memory.space) span
  pub spans : (span : Span) → Contains memory.arena.spans span ↔ Contains (spans_of setting state) span
  pub base : memory.arena.base ≡ ARENA_BASE
  pub pages : memory.arena.pages ≡ arena_pages setting.header.version
