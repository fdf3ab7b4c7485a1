-- When a core pictures a run.
use Rattle.std.specs.Prelude.{◌≡◌, ℕ, ◌+◌, ◌^◌, ◌<◌, ◌↔◌, List, AllPairs, Contains, IsTrue, length}
use Rattle.umem_base.specs.declared.roots.TheConstants.{SHARED_ROOT}
use Rattle.umem_options.specs.Capacity.{fail_capacity, transaction_capacity}
use Rattle.core_format.specs.declared.items.LargeItem.{LargeItem}
use Rattle.core_format.specs.declared.items.SlabItem.{SlabItem}
use Rattle.core_format.specs.declared.whole.Core.{Core}
use Rattle.core_format.specs.Chunks.{allocated_in}
use Rattle.core_format.specs.Cores.{MeetsTheRules}
use Rattle.core_rules.specs.Pieces.{cache_items_of}
use Rattle.plain_heap.specs.Setting.{Setting, geometry_in}
use Rattle.plain_heap.specs.State.{HeapSlab, State, chunk_start, is_live, next_chunk}
use Rattle.heap_ledger.specs.Ledger.{Ledger, run_setting, run_state}
use Rattle.heap_logs.specs.Audits.{audits_of}
use Rattle.heap_logs.specs.Fails.{fail_log}
use Rattle.heap_logs.specs.Saved.{saved_capacity, saved_log}
use Rattle.heap_logs.specs.Transactions.{transaction_log}
use Rattle.heap_accounts.specs.Places.{Places}
use Rattle.heap_pictures.specs.declared.free_places.FreePlaces.{FreePlaces}
use Rattle.heap_pictures.specs.Drawn.{list_at}
use Rattle.heap_pictures.specs.Items.{depot_items, grows_by_cache, large_items, list_in, own_items, place_items, page_words, slab_items}

-- ---- what a core tells

-- its numbers are those of the run
pub record TellsNumbers (ledger : Ledger) (core : Core) : Type 0 where
  pub version : core.version ≡ ledger.plan.header.version
  pub flags : core.flags ≡ ledger.options.flags
  pub frames : core.frames ≡ ledger.options.frames
  pub contents : core.contents ≡ ledger.options.contents
  pub cpus : core.cpus ≡ ledger.plan.header.cpus
  pub trans_capacity : core.trans_capacity ≡ transaction_capacity ledger.logging ledger.options
  pub fail_capacity : core.fail_capacity ≡ fail_capacity ledger.logging
  pub contents_capacity : core.contents_capacity ≡ saved_capacity ledger.options ledger.logging (run_setting ledger)
  pub next_chunk : core.next_chunk ≡ next_chunk (run_setting ledger) (run_state ledger)
  pub entries : core.entries ≡ length ledger.entries

-- its root segments hold the words of the root pages
pub record TellsRoots (setting : Setting) (state : State) (core : Core) : Type 0 where
  pub root : core.root ≡ page_words state.bytes SHARED_ROOT
  pub own : core.own ≡ own_items setting state

-- these are the slabs that stand, each with its list, by rising base
pub record AreSlabItems (setting : Setting) (state : State) (lists : HeapSlab → List ℕ) (items : List SlabItem)
    : Type 0 where
  pub rising : AllPairs (λ one other. one.base < other.base) items
  pub exactly : (item : SlabItem) → Contains items item ↔ Contains (slab_items setting state lists) item

-- these are the large buffers that live, by rising base
pub record AreLargeItems (state : State) (items : List LargeItem) : Type 0 where
  pub rising : AllPairs (λ one other. one.base < other.base) items
  pub exactly : (item : LargeItem) → Contains items item ↔ Contains (large_items state) item

-- its audits and logs are those of the entries
pub record TellsLogs (ledger : Ledger) (core : Core) : Type 0 where
  pub audits : core.audits ≡ audits_of ledger.options (run_setting ledger) ledger.entries
  pub trans : core.trans ≡ transaction_log ledger.options ledger.logging (run_setting ledger) ledger.entries
  pub fails : core.fails ≡ fail_log ledger.logging ledger.plan.header.caches ledger.entries
  pub saved : core.saved ≡ saved_log ledger.options ledger.logging (run_setting ledger) ledger.entries

-- all of it, where the slabs have these lists
pub record Tells (ledger : Ledger) (lists : HeapSlab → List ℕ) (core : Core) : Type 0 where
  pub numbers : TellsNumbers ledger core
  pub roots : TellsRoots (run_setting ledger) (run_state ledger) core
  pub caches : core.caches
      ≡ cache_items_of ledger.plan.header.caches (grows_by_cache (run_setting ledger) (run_state ledger))
  pub slabs : AreSlabItems (run_setting ledger) (run_state ledger) lists core.slabs
  pub large : AreLargeItems (run_state ledger) core.large
  pub logs : TellsLogs ledger core

-- ---- pictures

-- a chunk of a slab that stands is allocated in the core exactly where it lives
abbrev pub AreAllocated : Setting → State → Core → Type 0
AreAllocated setting state core =
    (slab : HeapSlab) (index : ℕ) → Contains state.slabs slab → index < (geometry_in setting slab.cache).rounds
    → IsTrue (allocated_in core (slab.first + index)) ↔ IsTrue (is_live state (chunk_start setting slab index))

-- The core pictures the run: it meets the rules of its version, tells what the run was given and what its entries left,
-- and its allocated chunks are those that live. Which list or magazine holds a free one is not fixed.
pub record Pictures (ledger : Ledger) (core : Core) : Type 0 where
  pub rules : MeetsTheRules core
  pub lists : HeapSlab → List ℕ
  pub tells : Tells ledger lists core
  pub allocated : AreAllocated (run_setting ledger) (run_state ledger) core

-- its free chunks stand where these places hold them
pub record TellsPlaces (ledger : Ledger) (places : Places) (core : Core) : Type 0 where
  pub tells : Tells ledger (list_in places) core
  pub cpu_places : core.cpu_places ≡ place_items ledger.plan.header.cpus places
  pub depots : core.depots ≡ depot_items places

-- the core tells the run, and its free chunks stand at these places
pub record DrawnWith (ledger : Ledger) (places : FreePlaces) (core : Core) : Type 0 where
  pub tells : Tells ledger (λ slab. list_at places.lists slab.base) core
  pub cpu_places : core.cpu_places ≡ places.cpu_places
  pub depots : core.depots ≡ places.depots
  pub entries : core.entries < 2 ^ 64
  pub chunks : core.next_chunk < 2 ^ 32
