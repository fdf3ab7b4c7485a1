-- How contracts speak of a memory by the states that it may be of.
use Rattle.std.specs.Prelude.{◌≡◌, ℕ, ◌↔◌, Bool, List, Option, Some, None, Contains, MatchOption}
use Rattle.umem_base.specs.declared.span.Span.{Span}
use Rattle.umem_base.specs.Pages.{HasNoRun, IsLowestRun}
use Rattle.script.specs.Rules.{IsHeader}
use Rattle.plain_heap.specs.Laws.{AreSeparate, large}
use Rattle.plain_heap.specs.Setting.{Setting}
use Rattle.plain_heap.specs.State.{HeapSlab, IsFreePage, State, after_grow, hand_out, held_at, spans_of}
use Rattle.heap_memory.specs.Memory.{IsMemoryOf, Memory}

-- a fact holds of each state that the memory is of, whatever the setting
abbrev pub ForEachState : (Setting → State → Type 0) → Memory → Type 0
ForEachState Fact memory =
    (setting : Setting) (state : State) → IsHeader setting.header → IsMemoryOf setting state memory → Fact setting state

-- the memory of a state is then that of what a step makes of it
abbrev pub Becomes : (Setting → State → State) → Memory → Memory → Type 0
Becomes step old new = ForEachState (λ setting state. IsMemoryOf setting (step setting state) new) old

-- the same of the states that meet a condition
abbrev pub BecomesIf : (Setting → State → Type 0) → (Setting → State → State) → Memory → Memory → Type 0
BecomesIf Fits step old new =
    ForEachState (λ setting state. Fits setting state → IsMemoryOf setting (step setting state) new) old

-- the memory of a state still is
abbrev pub Keeps : Memory → Memory → Type 0
Keeps old new = Becomes (λ setting state. state) old new

-- ---- runs that are asked for

-- the base of the lowest free run of so many pages, or none where no such run is free
abbrev pub IsLowestOrNone : ℕ → Option ℕ → Setting → State → Type 0
IsLowestOrNone pages base setting state =
    MatchOption base (HasNoRun (IsFreePage setting state) pages) (IsLowestRun (IsFreePage setting state) pages)

-- a large buffer of a size was handed out, zeroed or not, if a run was found
abbrev pub after_large : ℕ → Bool → Option ℕ → Setting → State → State
after_large size zero None setting state = state
after_large size zero (Some base) setting state = hand_out setting state base (large size) zero

-- a slab of a cache was made, if a run was found
abbrev pub after_slab : ℕ → Option ℕ → Setting → State → State
after_slab cache None setting state = state
after_slab cache (Some base) setting state = after_grow setting state cache base

-- a large buffer of some size lives at an address, and the runs of the state stand apart
pub record IsLargeAt (address : ℕ) (setting : Setting) (state : State) : Type 0 where
  pub separate : AreSeparate setting state
  pub size : ℕ
  pub lives : held_at state.live address ≡ Some (large size)

-- a slab stands at a base, and the runs of the state stand apart
pub record HasSlabAt (base : ℕ) (setting : Setting) (state : State) : Type 0 where
  pub separate : AreSeparate setting state
  pub slab : HeapSlab
  pub stands : Contains state.slabs slab
  pub there : slab.base ≡ base

-- ---- runs that are taken

-- these are the runs of pages of a state
abbrev pub AreSpansOf : Setting → State → List Span → Type 0
AreSpansOf setting state spans = (span : Span) → Contains spans span ↔ Contains (spans_of setting state) span
