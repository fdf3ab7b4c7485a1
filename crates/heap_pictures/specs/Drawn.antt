-- How the items of a core are drawn from what is read of accounts.
use Rattle.std.specs.Prelude.{◌≡◌, ℕ, ◌*◌, ◌-◌, ◌<◌, ◌↔◌, ◌==◌, List, [], AllPairs, Contains, Option, None, Some, find, map, slice_index_or}
use Rattle.std.specs.Option.{option_and_then, option_map_or}
use Rattle.umem_base.specs.declared.pages.TheConstants.{PAGE_BYTES}
use Rattle.umem_base.specs.declared.span.Span.{Span}
use Rattle.core_format.specs.declared.items.LargeItem.{LargeItem}
use Rattle.core_format.specs.declared.items.SlabItem.{SlabItem}
use Rattle.plain_heap.specs.declared.held.Held.{Held}
use Rattle.plain_heap.specs.Bytes.{bytes_from}
use Rattle.plain_heap.specs.Setting.{Setting, slab_bytes}
use Rattle.plain_heap.specs.State.{HeapSlab, State, held_at}
use Rattle.heap_slabs.specs.declared.standing.Standing.{Standing}
use Rattle.heap_slabs.specs.HeapSlabs.{standing_in}
use Rattle.heap_pictures.specs.declared.free_list.FreeList.{FreeList}

-- ---- slabs

-- there is one list for each slab that stands, by rising base
pub record AreListsOf (state : State) (lists : List FreeList) : Type 0 where
  pub rising : AllPairs (λ one other. one.base < other.base) lists
  pub exactly : (base : ℕ) → Contains (map (λ list. list.base) lists) base
      ↔ Contains (map (λ slab. slab.base) state.slabs) base

-- the list of the slab at a base
abbrev pub list_at : List FreeList → ℕ → List ℕ
list_at lists base = option_map_or (λ list. list.chunks) (find (λ list. list.base == base) lists) []

-- it is a slab that stands in a state
pub record IsOneStanding (setting : Setting) (state : State) (one : Standing) : Type 0 where
  pub slab : HeapSlab
  pub stands : Contains state.slabs slab
  pub is : one ≡ standing_in setting state slab

-- a slab as it stands, with a list and the bytes of its pages
abbrev pub slab_drawn : Setting → State → Standing → FreeList → SlabItem
slab_drawn setting state slab list = record {
  base = slab.base;
  cache = slab.cache;
  colour = slab.start - slab.base;
  first = slab.first;
  free = list.chunks;
  bytes = bytes_from state.bytes slab.base (slab_bytes setting slab.cache);
}

-- what is looked up where no slab stands, and where it has no list
abbrev pub no_standing : Standing
no_standing = record { cache = 0; base = 0; first = 0; start = 0; chunk = 0; rounds = 0; live = 0 }

abbrev pub no_list : FreeList
no_list = record { base = 0; chunks = [] }

-- the slab at an index with the list at that index
abbrev pub slab_drawn_at : Setting → State → List Standing → List FreeList → ℕ → SlabItem
slab_drawn_at setting state standing lists index =
    slab_drawn setting state (slice_index_or standing index no_standing) (slice_index_or lists index no_list)

-- ---- large buffers

-- a large buffer with the bytes of a run of pages; a buffer of a cache is none
abbrev pub large_held : State → Span → Held → Option ℕ → Option LargeItem
large_held state span held None = Some (record {
  base = span.base;
  size = held.size;
  bytes = bytes_from state.bytes span.base (PAGE_BYTES * span.pages);
})
large_held state span held (Some cache) = None

-- the large buffer that lives at the base of a run of pages, if one does
abbrev pub large_drawn : State → Span → Option LargeItem
large_drawn state span = option_and_then (λ held. large_held state span held held.cache) (held_at state.live span.base)
