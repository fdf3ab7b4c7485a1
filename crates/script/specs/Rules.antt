-- The rules and limits of scripts.
use Rattle.std.specs.Prelude.{◌≡◌, ◌≢◌, ℕ, ◌+◌, ◌^◌, ◌<◌, ◌≤◌, ◌⊎◌, IsTrue, not, ◌&&◌, List, length, Option, Some, None, AllPairs}
use Rattle.std.specs.List.{AllByRecursion}
use Rattle.case_table.specs.CacheName.{is_cache_name, is_reserved_name}
use Rattle.case_table.specs.Geometry.{IsAlign}
use Rattle.case_table.specs.declared.cache_def.CacheDef.{CacheDef}
use Rattle.case_table.specs.declared.limits.TheConstants.{CLASS_COUNT, MOST_CACHE_BYTES, MOST_CPUS, MOST_DECLARED, MOST_THREADS}
use Rattle.script.specs.declared.limits.TheConstants.{FIRST_OWN_SLOT, MOST_FRAMES, MOST_OFFSET, MOST_PHASES, MOST_STORED}
use Rattle.script.specs.declared.operation.Op.{Op}
use Rattle.script.specs.declared.operation.Op.TheVariants.{Alloc, Zalloc, Free, CacheAlloc, CacheFree, Copy, Clear, Store, Link, Load, Reap}
use Rattle.script.specs.declared.tree.Header.{Header}
use Rattle.script.specs.Limits.{most_calls}
use Rattle.script.specs.Plan.{Turn, Plan, call_count}

-- a shared slot, or in version 2 an own one too
abbrev pub IsSlot : Header → ℕ → Type 0
IsSlot header slot = (slot < FIRST_OWN_SLOT) ⊎ ((header.version ≡ 2) × (slot < FIRST_OWN_SLOT + FIRST_OWN_SLOT))

-- a size that can be requested
abbrev pub IsSize : ℕ → Type 0
IsSize size = size < 2 ^ 32

-- the number of a declared cache
abbrev pub IsDeclaredCache : Header → ℕ → Type 0
IsDeclaredCache header cache = (CLASS_COUNT ≤ cache) × (cache < CLASS_COUNT + length header.caches)

-- bytes that can be stored at once
abbrev pub AreStored : List ℕ → Type 0
AreStored bytes = (1 ≤ length bytes) × (length bytes ≤ MOST_STORED) × AllByRecursion (λ byte. byte < 256) bytes

-- the arguments of an operation keep their limits
abbrev pub IsOp : Header → Op → Type 0
IsOp header (Alloc slot size) = IsSlot header slot × IsSize size
IsOp header (Zalloc slot size) = IsSlot header slot × IsSize size
IsOp header (Free slot size) = IsSlot header slot × IsSize size
IsOp header (CacheAlloc slot cache) = IsSlot header slot × IsDeclaredCache header cache
IsOp header (CacheFree slot cache) = IsSlot header slot × IsDeclaredCache header cache
IsOp header (Copy to from) = IsSlot header to × IsSlot header from
IsOp header (Clear slot) = IsSlot header slot
IsOp header (Store slot offset bytes) = IsSlot header slot × (offset ≤ MOST_OFFSET) × AreStored bytes
IsOp header (Link slot offset value) = IsSlot header slot × (offset ≤ MOST_OFFSET) × IsSlot header value
IsOp header (Load to slot offset) = IsSlot header to × IsSlot header slot × (offset ≤ MOST_OFFSET)
IsOp header Reap = Unit {0}

-- a call of one of the header's threads
pub record IsTurn (header : Header) (turn : Turn) : Type 0 where
  pub thread : turn.thread < header.threads
  pub op : IsOp header turn.call.op
  pub depth : length turn.call.frames ≤ MOST_FRAMES
  pub frames : AllByRecursion (λ frame. frame < 2 ^ 64) turn.call.frames

-- a constructor byte stands in version 2 alone
abbrev pub IsConstructor : ℕ → Option ℕ → Type 0
IsConstructor version None = Unit {0}
IsConstructor version (Some byte) = (version ≡ 2) × (byte < 256)

-- a cache that can be declared
pub record IsDeclarable (version : ℕ) (def : CacheDef) : Type 0 where
  pub name : IsTrue (is_cache_name def.name && not (is_reserved_name def.name))
  pub size : (1 ≤ def.size) × (def.size ≤ MOST_CACHE_BYTES)
  pub align : IsAlign def.align
  pub ctor : IsConstructor version def.ctor

-- the rules and limits of what stands before the phases
pub record IsHeader (header : Header) : Type 0 where
  pub version : (header.version ≡ 1) ⊎ (header.version ≡ 2)
  pub cpus : (1 ≤ header.cpus) × (header.cpus ≤ MOST_CPUS)
  pub threads : (1 ≤ header.threads) × (header.threads ≤ MOST_THREADS)
  pub count : length header.caches ≤ MOST_DECLARED
  pub caches : AllByRecursion (IsDeclarable header.version) header.caches
  pub names : AllPairs (λ a b. a.name ≢ b.name) header.caches

-- the rules and limits of scripts, but for the length of a script's text
pub record IsPlan (plan : Plan) : Type 0 where
  pub header : IsHeader plan.header
  pub turns : AllByRecursion (AllByRecursion (IsTurn plan.header)) plan.phases
  pub phases : length plan.phases ≤ MOST_PHASES
  pub calls : call_count plan ≤ most_calls plan.header.version
