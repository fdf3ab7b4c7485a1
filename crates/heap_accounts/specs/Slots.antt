-- The slots that an operation names.
use Rattle.std.specs.Prelude.{ℕ, ◌<◌, ⊤, length}
use Rattle.script.specs.declared.operation.Op.{Op}
use Rattle.script.specs.declared.operation.Op.TheVariants.{Alloc, Zalloc, Free, CacheAlloc, CacheFree, Copy, Clear, Store, Link, Load, Reap}
use Rattle.script.specs.Rules.{IsHeader, IsSlot}
use Rattle.plain_heap.specs.Setting.{Setting}
use Rattle.plain_heap.specs.State.{State}
use Rattle.heap_memory.specs.Memory.{IsMemoryOf, Memory}
use Rattle.heap_memory.specs.Pages.{HasSlot}

-- the memory is that of some state, in which the word of a slot is a root word for a thread
pub record IsOfSomeState (memory : Memory) (thread slot : ℕ) : Type 0 where
  pub setting : Setting
  pub state : State
  pub header : IsHeader setting.header
  pub is : IsMemoryOf setting state memory
  pub thread_there : thread < setting.header.threads
  pub slot_there : IsSlot setting.header slot

-- the words of the slots that an operation of a thread names are mapped
abbrev pub HasSlotsOf : Memory → ℕ → Op → Type 0
HasSlotsOf memory thread (Alloc slot size) = HasSlot memory thread slot
HasSlotsOf memory thread (Zalloc slot size) = HasSlot memory thread slot
HasSlotsOf memory thread (Free slot size) = HasSlot memory thread slot
HasSlotsOf memory thread (CacheAlloc slot cache) = HasSlot memory thread slot
HasSlotsOf memory thread (CacheFree slot cache) = HasSlot memory thread slot
HasSlotsOf memory thread (Copy to from) = HasSlot memory thread to × HasSlot memory thread from
HasSlotsOf memory thread (Clear slot) = HasSlot memory thread slot
HasSlotsOf memory thread (Store slot offset stored) = HasSlot memory thread slot
HasSlotsOf memory thread (Link slot offset value) = HasSlot memory thread slot × HasSlot memory thread value
HasSlotsOf memory thread (Load to slot offset) = HasSlot memory thread to × HasSlot memory thread slot
HasSlotsOf memory thread Reap = ⊤

-- a store writes some bytes
abbrev pub StoresSome : Op → Type 0
StoresSome (Alloc slot size) = ⊤
StoresSome (Zalloc slot size) = ⊤
StoresSome (Free slot size) = ⊤
StoresSome (CacheAlloc slot cache) = ⊤
StoresSome (CacheFree slot cache) = ⊤
StoresSome (Copy to from) = ⊤
StoresSome (Clear slot) = ⊤
StoresSome (Store slot offset stored) = 0 < length stored
StoresSome (Link slot offset value) = ⊤
StoresSome (Load to slot offset) = ⊤
StoresSome Reap = ⊤
