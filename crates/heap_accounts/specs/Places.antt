-- Where the free chunks of a history stand by the magazine rules: a fold over its entries, from the oldest on. Each
-- entry is a step from what the entries before it left.
use Rattle.std.specs.Prelude.{ℕ, ◌+◌, ◌-◌, ◌%◌, ◌&&◌, Bool, List, Option, Some, None, find, fold, length, map, nat_le, nat_lt, slice_index_or, slice_set}
use Rattle.std.specs.List.{range_with_len}
use Rattle.std.specs.Option.{option_map, option_map_or, option_or}
use Rattle.case_table.specs.declared.limits.TheConstants.{CLASS_COUNT}
use Rattle.case_table.specs.Sizes.{class_for}
use Rattle.script.specs.declared.operation.Op.{Op}
use Rattle.script.specs.declared.operation.Op.TheVariants.{Alloc, Zalloc, Free, CacheAlloc, CacheFree, Copy, Clear, Store, Link, Load, Reap}
use Rattle.shelf.specs.Steps.{InHand, drained, left_in, put_on, taken_any, taken_from, with_slab_of, without_complete_slabs}
use Rattle.shelf.specs.Stock.{Stock, empty_stock}
use Rattle.plain_heap.specs.declared.entry.Body.{Body}
use Rattle.plain_heap.specs.declared.entry.Body.TheVariants.{Call, Grow, Shrink}
use Rattle.plain_heap.specs.declared.entry.Entry.{Entry}
use Rattle.plain_heap.specs.declared.reply.Reply.{Reply}
use Rattle.plain_heap.specs.declared.reply.Reply.TheVariants as reply
use Rattle.plain_heap.specs.Setting.{Setting, geometry_in}
use Rattle.plain_heap.specs.State.{HeapSlab, State, after_entry, chunk_number, chunk_start, new_slab, slab_with_chunk, start_state, word_of_slot}

-- ---- places

-- the stock of each cache, by the cache's number
abbrev pub Places : Type 0
Places = List Stock

-- how many caches there are: the size classes and the declared ones
abbrev pub cache_count : Setting → ℕ
cache_count setting = CLASS_COUNT + length setting.header.caches

-- at the start each cache has magazines of its size, which are empty, and no slab
abbrev pub start_places : Setting → Places
start_places setting =
    map (λ cache. empty_stock (geometry_in setting cache).magazine setting.header.cpus)
    (range_with_len 0 (cache_count setting))

-- the stock of a cache
abbrev pub stock_at : Places → ℕ → Stock
stock_at places cache = slice_index_or places cache (empty_stock 0 0)

-- the places with that stock of a cache
abbrev pub with_stock : Places → ℕ → Stock → Places
with_stock places cache stock = slice_set places cache stock

-- the CPU on which a thread runs
abbrev pub cpu_of : Setting → ℕ → ℕ
cpu_of setting thread = thread % setting.header.cpus

-- ---- chunks by number

-- the chunk of a number is one of a slab's
abbrev pub has_chunk_number : Setting → ℕ → HeapSlab → Bool
has_chunk_number setting chunk slab =
    nat_le slab.first chunk && nat_lt chunk (slab.first + (geometry_in setting slab.cache).rounds)

-- the slab that has the chunk of a number
abbrev pub slab_with_number : Setting → List HeapSlab → ℕ → Option HeapSlab
slab_with_number setting slabs chunk = find (has_chunk_number setting chunk) slabs

-- where the chunk of a number begins
abbrev pub address_of : Setting → State → ℕ → Option ℕ
address_of setting state chunk =
    option_map (λ slab. chunk_start setting slab (chunk - slab.first)) (slab_with_number setting state.slabs chunk)

-- the numbers of a slab's chunks
abbrev pub rounds_of : Setting → HeapSlab → List ℕ
rounds_of setting slab = range_with_len slab.first (geometry_in setting slab.cache).rounds

-- ---- what some entries leave

-- the state, the places, and the slab that the newest entry made, if it made one: its first chunk is in hand
pub record Placing : Type 0 where
  pub state : State
  pub places : Places
  pub made : Option HeapSlab

-- nothing happened yet
abbrev pub start_placing : Setting → Placing
start_placing setting = record { state = start_state; places = start_places setting; made = None }

-- ---- what entries change

-- the round that an allocation of a CPU takes where no slab was made for it: from within reach, else from any CPU
abbrev pub taken : Stock → ℕ → Option (InHand Stock)
taken stock cpu = option_or (taken_from stock cpu) (taken_any stock cpu)

-- an allocation of a chunk of a cache takes a round; where a slab was made directly before it, that of the slab's first
-- chunk, which stands nowhere
abbrev pub places_by_chunk : Setting → Places → Option HeapSlab → ℕ → ℕ → Places
places_by_chunk setting places None thread cache =
    let stock = stock_at places cache in
    with_stock places cache (left_in stock (taken stock (cpu_of setting thread)))
places_by_chunk setting places (Some slab) thread cache = places

-- an allocation of a size takes a chunk of its class, if one serves it, and else no chunk
abbrev pub places_by_request : Setting → Places → Option HeapSlab → ℕ → Option ℕ → Places
places_by_request setting places made thread (Some class) = places_by_chunk setting places made thread class
places_by_request setting places made thread None = places

-- the round of a chunk of a slab is put after a free of a thread
abbrev pub with_put : Setting → Places → ℕ → ℕ → HeapSlab → Places
with_put setting places thread word slab =
    let stock = stock_at places slab.cache in
    with_stock places slab.cache (put_on stock (cpu_of setting thread) (chunk_number setting slab word))

-- a free of a word puts the round of the chunk that begins there, where it was answered ok; a large buffer has none
abbrev pub places_by_free : Setting → State → Places → ℕ → ℕ → Reply → Places
places_by_free setting state places thread word reply.Ok =
    option_map_or (with_put setting places thread word) (slab_with_chunk setting state.slabs word) places
places_by_free setting state places thread word other = places

-- a reap empties all magazines of a cache into its slabs, and drops those that have all of their rounds
abbrev pub reaped : Stock → Stock
reaped stock = without_complete_slabs (drained stock)

-- the places after a call of a thread with its answer
abbrev pub places_by_call : Setting → Placing → ℕ → Op → Reply → Places
places_by_call setting placing thread (Alloc slot size) answer =
    places_by_request setting placing.places placing.made thread (class_for size)
places_by_call setting placing thread (Zalloc slot size) answer =
    places_by_request setting placing.places placing.made thread (class_for size)
places_by_call setting placing thread (CacheAlloc slot cache) answer =
    places_by_chunk setting placing.places placing.made thread cache
places_by_call setting placing thread (Free slot size) answer =
    places_by_free setting placing.state placing.places thread (word_of_slot placing.state thread slot) answer
places_by_call setting placing thread (CacheFree slot cache) answer =
    places_by_free setting placing.state placing.places thread (word_of_slot placing.state thread slot) answer
places_by_call setting placing thread (Copy to from) answer = placing.places
places_by_call setting placing thread (Clear slot) answer = placing.places
places_by_call setting placing thread (Store slot offset stored) answer = placing.places
places_by_call setting placing thread (Link slot offset value) answer = placing.places
places_by_call setting placing thread (Load to slot offset) answer = placing.places
places_by_call setting placing thread Reap answer = map reaped placing.places

-- a slab comes to its cache, with its first round in hand and the others in its list
abbrev pub places_by_slab : Setting → Places → HeapSlab → Places
places_by_slab setting places slab =
    with_stock places slab.cache (with_slab_of (stock_at places slab.cache) slab.base (rounds_of setting slab))

-- the places after the body of an entry of a thread; of the slabs that are given back the reap behind them lets go
abbrev pub places_by_body : Setting → Placing → ℕ → Body → Places
places_by_body setting placing thread (Call op frames answer) = places_by_call setting placing thread op answer
places_by_body setting placing thread (Grow cache base) =
    places_by_slab setting placing.places (new_slab setting placing.state cache base)
places_by_body setting placing thread (Shrink cache base) = placing.places

-- the slab that the body of an entry makes, if it makes one
abbrev pub made_by_body : Setting → State → Body → Option HeapSlab
made_by_body setting state (Call op frames answer) = None
made_by_body setting state (Grow cache base) = Some (new_slab setting state cache base)
made_by_body setting state (Shrink cache base) = None

-- what an entry leaves
abbrev pub placing_by : Setting → Placing → Entry → Placing
placing_by setting placing entry = record {
  state = after_entry setting placing.state entry;
  places = places_by_body setting placing entry.thread entry.body;
  made = made_by_body setting placing.state entry.body;
}

-- what a history leaves, the oldest entry first
abbrev pub placing_of : Setting → List Entry → Placing
placing_of setting entries = fold (placing_by setting) (start_placing setting) entries

-- the places of a history
abbrev pub places_of : Setting → List Entry → Places
places_of setting entries = (placing_of setting entries).places
