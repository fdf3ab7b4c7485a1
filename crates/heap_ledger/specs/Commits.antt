-- Which answers, grows and shrinks may be committed, said of the state before them.
use Rattle.std.specs.Prelude.{◌≡◌, ℕ, ◌<◌, ◌⊎◌, ◌↔◌, List, AllPairs, Contains, fold}
use Rattle.umem_base.specs.Pages.{IsLowestRun, IsPage}
use Rattle.script.specs.declared.operation.Op.{Op}
use Rattle.plain_heap.specs.declared.reply.Reply.{Reply}
use Rattle.plain_heap.specs.Answers.{IsTidyCall}
use Rattle.plain_heap.specs.Legal.{IsUnused}
use Rattle.plain_heap.specs.Replies.{IsReply}
use Rattle.plain_heap.specs.Setting.{IsCache, Setting, geometry_in}
use Rattle.plain_heap.specs.State.{HeapSlab, IsFreePage, State, after_shrink}
use Rattle.heap_ledger.specs.declared.slab_at.SlabAt.{SlabAt}

-- ---- answers

-- an answer is allowed, and tidy: whole pages are the lowest that fit, and a reap finds each slab in use
pub record IsTidyReply (setting : Setting) (state : State) (thread : ℕ) (op : Op) (answer : Reply) : Type 0 where
  pub reply : IsReply setting state thread op answer
  pub tidy : IsTidyCall setting state op answer

-- ---- slabs that are made

-- a slab may be made there: its cache is one, and its pages are the lowest that fit
pub record CanGrow (setting : Setting) (state : State) (slab : SlabAt) : Type 0 where
  pub is_cache : IsCache setting.header.caches slab.cache
  pub page : IsPage slab.base
  pub lowest : IsLowestRun (IsFreePage setting state) (geometry_in setting slab.cache).pages slab.base

-- ---- slabs that are given back

-- a slab may be given back: it stands, and no chunk of it lives
pub record CanShrink (setting : Setting) (state : State) (slab : SlabAt) : Type 0 where
  pub standing : HeapSlab
  pub stands : Contains state.slabs standing
  pub its_cache : standing.cache ≡ slab.cache
  pub its_base : standing.base ≡ slab.base
  pub unused : IsUnused setting state standing

-- one slab is given back before another: by rising cache, and then by rising base
abbrev pub GoesBefore : SlabAt → SlabAt → Type 0
GoesBefore one other = (one.cache < other.cache) ⊎ ((one.cache ≡ other.cache) × (one.base < other.base))

-- the slabs that a reap gives back: exactly those that may be, in their order
pub record AreReaped (setting : Setting) (state : State) (slabs : List SlabAt) : Type 0 where
  pub exactly : (slab : SlabAt) → Contains slabs slab ↔ CanShrink setting state slab
  pub in_order : AllPairs GoesBefore slabs

-- the state after slabs were given back, one after another
abbrev pub after_shrinks : State → List SlabAt → State
after_shrinks state slabs = fold (λ before slab. after_shrink before slab.base) state slabs
