-- What stands in a core of a run: each kind of item, by what the run's entries left.
use Rattle.std.specs.Prelude.{ℕ, ◌+◌, ◌*◌, ◌/◌, ◌%◌, ◌==◌, List, [], filter, find, is_none, length, map, slice_index_or, if◌then◌else◌}
use Rattle.std.specs.List.{range_with_len}
use Rattle.std.specs.Option.{option_map_or}
use Rattle.umem_base.specs.declared.pages.TheConstants.{PAGE_BYTES}
use Rattle.umem_base.specs.declared.roots.TheConstants.{ROOT_WORDS}
use Rattle.umem_base.specs.Pages.{pages_for}
use Rattle.umem_base.specs.Roots.{own_root}
use Rattle.case_table.specs.Geometry.{colour_of}
use Rattle.core_format.specs.declared.items.CpuPlace.{CpuPlace}
use Rattle.core_format.specs.declared.items.DepotItem.{DepotItem}
use Rattle.core_format.specs.declared.items.LargeItem.{LargeItem}
use Rattle.core_format.specs.declared.items.OwnRoot.{OwnRoot}
use Rattle.core_format.specs.declared.items.SlabItem.{SlabItem}
use Rattle.shelf.specs.Stock.{empty_cpu}
use Rattle.plain_heap.specs.Bytes.{Bytes, bytes_from, word_at}
use Rattle.plain_heap.specs.Setting.{Setting, cache_def_in, geometry_in, slab_bytes}
use Rattle.plain_heap.specs.State.{HeapSlab, LiveBuffer, State, grows_of}
use Rattle.heap_accounts.specs.Places.{Places, cache_count, stock_at}

-- ---- root pages

-- the words of a root page
abbrev pub page_words : Bytes → ℕ → List ℕ
page_words bytes base = map (λ word. word_at bytes (base + 8 * word)) (range_with_len 0 ROOT_WORDS)

-- the own root page of a thread
abbrev pub own_item : Bytes → ℕ → OwnRoot
own_item bytes thread = record { words = page_words bytes (own_root thread) }

-- in version 2 each thread of the header has one
abbrev pub own_items : Setting → State → List OwnRoot
own_items setting state =
    if setting.header.version == 2 then map (own_item state.bytes) (range_with_len 0 setting.header.threads) else []

-- ---- caches

-- how many slabs each cache made, by its number
abbrev pub grows_by_cache : Setting → State → List ℕ
grows_by_cache setting state = map (grows_of state) (range_with_len 0 (cache_count setting))

-- ---- slabs

-- the colour of a slab
abbrev pub colour_in : Setting → HeapSlab → ℕ
colour_in setting slab =
    colour_of (cache_def_in setting slab.cache).align (geometry_in setting slab.cache).leftover slab.made

-- a slab, with that list
abbrev pub slab_item : Setting → State → HeapSlab → List ℕ → SlabItem
slab_item setting state slab free = record {
  base = slab.base;
  cache = slab.cache;
  colour = colour_in setting slab;
  first = slab.first;
  free = free;
  bytes = bytes_from state.bytes slab.base (slab_bytes setting slab.cache);
}

-- the slabs that stand, each with its list
abbrev pub slab_items : Setting → State → (HeapSlab → List ℕ) → List SlabItem
slab_items setting state lists = map (λ slab. slab_item setting state slab (lists slab)) state.slabs

-- ---- large buffers

-- a large buffer
abbrev pub large_item : State → LiveBuffer → LargeItem
large_item state buffer = record {
  base = buffer.address;
  size = buffer.held.size;
  bytes = bytes_from state.bytes buffer.address (PAGE_BYTES * pages_for buffer.held.size);
}

-- those that live
abbrev pub large_items : State → List LargeItem
large_items state = map (large_item state) (filter (λ buffer. is_none buffer.held.cache) state.live)

-- ---- places

-- the list of a slab in the stock of its cache
abbrev pub list_in : Places → HeapSlab → List ℕ
list_in places slab =
    option_map_or (λ its. its.list) (find (λ its. its.first == slab.first) (stock_at places slab.cache).slabs) []

-- the magazines of a CPU for a cache, by their index: those of a CPU stand together, by cache
abbrev pub place_item : Places → ℕ → CpuPlace
place_item places index =
    let cpu = index / length places in
    let cache = index % length places in
    let its = slice_index_or (stock_at places cache).cpus cpu empty_cpu in
    record { cpu = cpu; cache = cache; loaded = its.loaded; previous = its.previous }

-- those of so many CPUs for all caches
abbrev pub place_items : ℕ → Places → List CpuPlace
place_items cpus places = map (place_item places) (range_with_len 0 (cpus * length places))

-- the depots of all caches
abbrev pub depot_items : Places → List DepotItem
depot_items places = map (λ stock. record { full = stock.depot }) places
