-- What the entries of a history leave, from the oldest on: which buffers live, where one was ever handed out, which
-- slabs stand, and which byte was written last at each address.
use Rattle.std.specs.Prelude.{◌≡◌, ℕ, ◌+◌, ◌-◌, ◌*◌, ◌/◌, ◌<◌, ◌≤◌, Bool, true, false, not, ◌||◌, ◌==◌, List, [], ◌∷◌, ◌++◌, Option, Some, None, IsTrue, is_some, is_none, option_map, map, filter, find, fold, count_by, sum_by, drop, replicate, slice_index, Contains, if◌then◌else◌}
use Rattle.std.specs.List.{list_any, list_all, range_with_len}
use Rattle.std.specs.Option.{option_map_or}
use Rattle.umem_base.specs.declared.arena.TheConstants.{ARENA_BASE}
use Rattle.umem_base.specs.declared.pages.TheConstants.{PAGE_BYTES}
use Rattle.umem_base.specs.declared.span.Span.{Span}
use Rattle.umem_base.specs.Ordered.{left_out_by}
use Rattle.umem_base.specs.Pages.{IsPage, pages_for}
use Rattle.umem_base.specs.Roots.{arena_end}
use Rattle.case_table.specs.Geometry.{chunk_at}
use Rattle.case_table.specs.Sizes.{class_for}
use Rattle.buftag.specs.Written.{allocated_chunk, free_chunk}
use Rattle.script.specs.declared.operation.Op.{Op}
use Rattle.script.specs.declared.operation.Op.TheVariants.{Alloc, Zalloc, Free, CacheAlloc, CacheFree, Copy, Clear, Store, Link, Load, Reap}
use Rattle.plain_heap.specs.declared.entry.Body.{Body}
use Rattle.plain_heap.specs.declared.entry.Body.TheVariants.{Call, Grow, Shrink}
use Rattle.plain_heap.specs.declared.entry.Entry.{Entry}
use Rattle.plain_heap.specs.declared.held.Held.{Held}
use Rattle.plain_heap.specs.declared.reply.Reply.{Reply}
use Rattle.plain_heap.specs.declared.reply.Reply.TheVariants as reply
use Rattle.plain_heap.specs.Bytes.{Bytes, is_within, with_stored, with_word, with_zeros, word_at}
use Rattle.plain_heap.specs.Setting.{Setting, cache_def_in, geometry_in, is_in_root, shape_in, slab_bytes, slot_address}

-- ---- what is kept

-- a live buffer: where it is, its requested size and its cache, which a large buffer has not
pub record LiveBuffer : Type 0 where
  pub address : ℕ
  pub held : Held

-- a slab: its cache, where its pages begin, how many slabs its cache had made before it, and the number of its first
-- chunk
pub record HeapSlab : Type 0 where
  pub cache : ℕ
  pub base : ℕ
  pub made : ℕ
  pub first : ℕ

-- What a history leaves. Each list has the newest first. The addresses are those with which an allocation was ever
-- answered, and `grown` has the cache of each slab that was ever made.
pub record State : Type 0 where
  pub live : List LiveBuffer
  pub given : List ℕ
  pub slabs : List HeapSlab
  pub grown : List ℕ
  pub bytes : Bytes

-- nothing happened yet, and the root pages hold zeros
abbrev pub start_state : State
start_state = record { live = []; given = []; slabs = []; grown = []; bytes = λ _. 0 }

-- ---- live buffers

-- what lives at an address
abbrev pub held_at : List LiveBuffer → ℕ → Option Held
held_at live address = option_map (λ buffer. buffer.held) (find (λ buffer. buffer.address == address) live)

-- a buffer lives at an address
abbrev pub is_live : State → ℕ → Bool
is_live state address = is_some (held_at state.live address)

-- an allocation was answered with an address
abbrev pub was_given : State → ℕ → Bool
was_given state address = list_any (λ given. given == address) state.given

-- what became of an address: none was handed out there, or what lives there now, if anything does
abbrev pub fate_of : State → ℕ → Option (Option Held)
fate_of state address = if was_given state address then Some (held_at state.live address) else None

-- ---- slabs and chunks

-- how many slabs a cache ever made
abbrev pub grows_of : State → ℕ → ℕ
grows_of state cache = count_by (λ grown. grown == cache) state.grown

-- the number of the next chunk: the chunks of all slabs that were ever made
abbrev pub next_chunk : Setting → State → ℕ
next_chunk setting state = sum_by (λ cache. (geometry_in setting cache).rounds) state.grown

-- the slab that a cache makes next, at a base
abbrev pub new_slab : Setting → State → ℕ → ℕ → HeapSlab
new_slab setting state cache base =
    record { cache = cache; base = base; made = grows_of state cache; first = next_chunk setting state }

-- where a chunk of a slab begins, counted from the slab's first, behind the slab's colour
abbrev pub chunk_start : Setting → HeapSlab → ℕ → ℕ
chunk_start setting slab index =
    let align = (cache_def_in setting slab.cache).align in
    slab.base + chunk_at align slab.made (geometry_in setting slab.cache) index

-- an address is where a chunk of the slab begins
pub record IsChunkOf (setting : Setting) (slab : HeapSlab) (address : ℕ) : Type 0 where
  pub index : ℕ
  pub within : index < (geometry_in setting slab.cache).rounds
  pub there : address ≡ chunk_start setting slab index

-- an address is where a chunk begins of a slab that stands, which is one of the cache
pub record IsChunkOfCache (setting : Setting) (state : State) (cache address : ℕ) : Type 0 where
  pub slab : HeapSlab
  pub stands : Contains state.slabs slab
  pub its : slab.cache ≡ cache
  pub chunk : IsChunkOf setting slab address

-- which chunk of a slab holds an address, if one does
abbrev pub index_at : Setting → HeapSlab → ℕ → Option ℕ
index_at setting slab address =
    let geometry = geometry_in setting slab.cache in
    let first = chunk_start setting slab 0 in
    if is_within first (geometry.rounds * geometry.chunk) address then Some ((address - first) / geometry.chunk)
    else None

-- a chunk of the slab begins at an address
abbrev pub begins_chunk : Setting → HeapSlab → ℕ → Bool
begins_chunk setting slab address =
    option_map_or (λ index. chunk_start setting slab index == address) (index_at setting slab address) false

-- the slab of which a chunk begins at an address
abbrev pub slab_with_chunk : Setting → List HeapSlab → ℕ → Option HeapSlab
slab_with_chunk setting slabs address = find (λ slab. begins_chunk setting slab address) slabs

-- the number of the chunk of a slab that begins at an address
abbrev pub chunk_number : Setting → HeapSlab → ℕ → ℕ
chunk_number setting slab address =
    slab.first + (address - chunk_start setting slab 0) / (geometry_in setting slab.cache).chunk

-- ---- pages

-- the pages of a slab
abbrev pub span_of_slab : Setting → HeapSlab → Span
span_of_slab setting slab = record { base = slab.base; pages = (geometry_in setting slab.cache).pages }

-- the pages of a large buffer
abbrev pub span_of_large : LiveBuffer → Span
span_of_large buffer = record { base = buffer.address; pages = pages_for buffer.held.size }

-- the runs of pages of the slabs and of the live large buffers
abbrev pub spans_of : Setting → State → List Span
spans_of setting state =
    map (span_of_slab setting) state.slabs
    ++ map span_of_large (filter (λ buffer. is_none buffer.held.cache) state.live)

-- an address is in a page of a span
abbrev pub is_in_span : ℕ → Span → Bool
is_in_span address span = is_within span.base (PAGE_BYTES * span.pages) address

-- an address is in a page of a slab or of a live large buffer
abbrev pub is_taken : Setting → State → ℕ → Bool
is_taken setting state address = list_any (is_in_span address) (spans_of setting state)

-- a page of the arena that is in no span
pub record IsFreePage (setting : Setting) (state : State) (address : ℕ) : Type 0 where
  pub page : IsPage address
  pub from : ARENA_BASE ≤ address
  pub to : address + PAGE_BYTES ≤ arena_end setting.header.version
  pub untaken : IsTrue (not (is_taken setting state address))

-- an address is in a root page or in a page of a span
abbrev pub is_mapped : Setting → State → ℕ → Bool
is_mapped setting state address = is_in_root setting.header address || is_taken setting state address

-- each address of a range is mapped; past the end of 64 bits none is
abbrev pub is_mapped_range : Setting → State → ℕ → ℕ → Bool
is_mapped_range setting state at count = list_all (λ k. is_mapped setting state (at + k)) (range_with_len 0 count)

-- the byte of each mapped address, and none elsewhere
abbrev pub image : Setting → State → ℕ → Option ℕ
image setting state address = if is_mapped setting state address then Some (state.bytes address) else None

-- ---- words of slots

-- the word of a slot for a thread
abbrev pub word_of_slot : State → ℕ → ℕ → ℕ
word_of_slot state thread slot = word_at state.bytes (slot_address thread slot)

-- the same state with other bytes
abbrev pub with_bytes_of : State → Bytes → State
with_bytes_of state bytes =
    record { live = state.live; given = state.given; slabs = state.slabs; grown = state.grown; bytes = bytes }

-- the slot of a thread gets a word
abbrev pub with_slot : State → ℕ → ℕ → ℕ → State
with_slot state thread slot word = with_bytes_of state (with_word state.bytes (slot_address thread slot) word)

-- ---- what chunks hold

-- the constructor's byte in each of so many bytes, and behind them the rest of the bytes, as they were
abbrev pub constructed : Option ℕ → ℕ → List ℕ → List ℕ
constructed None size bytes = bytes
constructed (Some byte) size bytes = replicate size byte ++ drop size bytes

-- what the front of a chunk of a cache gets when its slab is made: its free state with guards, else what its
-- constructor leaves
abbrev pub made_chunk : Setting → ℕ → ℕ → List ℕ
made_chunk setting cache number =
    let def = cache_def_in setting cache in
    if setting.guards then free_chunk (shape_in setting cache number) else constructed def.ctor def.size []

-- what the front of a chunk of a cache gets when it is handed out: with guards the allocated state, in which the
-- constructor's byte stands over the pattern, and in any case the zeros that are wanted
abbrev pub handed_chunk : Setting → ℕ → ℕ → ℕ → Bool → List ℕ
handed_chunk setting cache number size zero =
    let def = cache_def_in setting cache in
    if setting.guards then constructed def.ctor def.size (allocated_chunk (shape_in setting cache number) size zero)
    else (if zero then replicate size 0 else [])

-- what the front of a chunk of a cache gets when it is freed: its free state with guards, else nothing
abbrev pub freed_chunk : Setting → ℕ → ℕ → List ℕ
freed_chunk setting cache number = if setting.guards then free_chunk (shape_in setting cache number) else []

-- the byte at an address of a slab that was just made: that of its chunk, and 0 behind it and beside the chunks
abbrev pub made_byte : Setting → HeapSlab → ℕ → ℕ
made_byte setting slab address =
    option_map_or (λ index.
    slice_index (made_chunk setting slab.cache (slab.first + index)) (address - chunk_start setting slab index))
    (index_at setting slab address) 0

-- the bytes with those of a slab that was just made
abbrev pub with_made : Setting → Bytes → HeapSlab → Bytes
with_made setting bytes slab address =
    if is_within slab.base (slab_bytes setting slab.cache) address then made_byte setting slab address
    else bytes address

-- the bytes with what the chunk that begins at an address gets, by its cache and number; the same where none does
abbrev pub with_chunk_at : Setting → State → ℕ → (ℕ → ℕ → List ℕ) → Bytes
with_chunk_at setting state address written =
    option_map_or (λ slab. with_stored state.bytes address (written slab.cache (chunk_number setting slab address)))
    (slab_with_chunk setting state.slabs address) state.bytes

-- ---- what entries change

-- a slab is made: its pages hold zeros, and its chunks what they get then
abbrev pub after_grow : Setting → State → ℕ → ℕ → State
after_grow setting state cache base =
    let slab = new_slab setting state cache base in
    record {
      live = state.live;
      given = state.given;
      slabs = slab ∷ state.slabs;
      grown = cache ∷ state.grown;
      bytes = with_made setting state.bytes slab;
    }

-- the slab at a base is given back
abbrev pub after_shrink : State → ℕ → State
after_shrink state base = record {
  live = state.live;
  given = state.given;
  slabs = left_out_by (λ slab. slab.base) state.slabs base;
  grown = state.grown;
  bytes = state.bytes;
}

-- the bytes that a buffer holds when it is handed out, zeroed or not: those of its chunk, or zeros in all of its pages
abbrev pub handed_bytes : Setting → State → ℕ → Held → Bool → Bytes
handed_bytes setting state address held zero =
    if is_some held.cache
    then with_chunk_at setting state address (λ cache number. handed_chunk setting cache number held.size zero)
    else with_zeros state.bytes address (PAGE_BYTES * pages_for held.size)

-- a buffer is handed out at an address
abbrev pub hand_out : Setting → State → ℕ → Held → Bool → State
hand_out setting state address held zero = record {
  live = record { address = address; held = held } ∷ state.live;
  given = address ∷ state.given;
  slabs = state.slabs;
  grown = state.grown;
  bytes = handed_bytes setting state address held zero;
}

-- the buffer at an address is given back
abbrev pub give_back : Setting → State → ℕ → State
give_back setting state address = record {
  live = left_out_by (λ buffer. buffer.address) state.live address;
  given = state.given;
  slabs = state.slabs;
  grown = state.grown;
  bytes = with_chunk_at setting state address (freed_chunk setting);
}

-- an allocation was answered: the slot gets the address of the buffer, or 0 where there is none
abbrev pub after_alloc : Setting → State → ℕ → ℕ → Held → Bool → Reply → State
after_alloc setting state thread slot held zero (reply.At address report) =
    with_slot (hand_out setting state address held zero) thread slot address
after_alloc setting state thread slot held zero reply.Null = with_slot state thread slot 0
after_alloc setting state thread slot held zero reply.NoSpace = with_slot state thread slot 0
after_alloc setting state thread slot held zero other = state

-- a free was answered: only `ok` changes anything
abbrev pub after_free : Setting → State → ℕ → ℕ → Reply → State
after_free setting state thread slot reply.Ok =
    with_slot (give_back setting state (word_of_slot state thread slot)) thread slot 0
after_free setting state thread slot other = state

-- a store of bytes at an address was answered: only `ok` changes anything
abbrev pub after_store : State → ℕ → List ℕ → Reply → State
after_store state at stored reply.Ok = with_bytes_of state (with_stored state.bytes at stored)
after_store state at stored other = state

-- a word was stored at an address
abbrev pub after_link : State → ℕ → ℕ → Reply → State
after_link state at word reply.Ok = with_bytes_of state (with_word state.bytes at word)
after_link state at word other = state

-- a load was answered: the slot gets the word
abbrev pub after_word : State → ℕ → ℕ → Reply → State
after_word state thread slot (reply.Word word) = with_slot state thread slot word
after_word state thread slot other = state

-- what is requested by a size: a buffer of its class, or a large one
abbrev pub request_of : ℕ → Held
request_of size = record { size = size; cache = class_for size }

-- what is requested of a cache
abbrev pub request_from : Setting → ℕ → Held
request_from setting cache = record { size = (cache_def_in setting cache).size; cache = Some cache }

-- what a call of a thread with its answer changes
abbrev pub after_call : Setting → State → ℕ → Op → Reply → State
after_call setting state thread (Alloc slot size) answer =
    after_alloc setting state thread slot (request_of size) false answer
after_call setting state thread (Zalloc slot size) answer =
    after_alloc setting state thread slot (request_of size) true answer
after_call setting state thread (CacheAlloc slot cache) answer =
    after_alloc setting state thread slot (request_from setting cache) false answer
after_call setting state thread (Free slot size) answer = after_free setting state thread slot answer
after_call setting state thread (CacheFree slot cache) answer = after_free setting state thread slot answer
after_call setting state thread (Copy to from) answer = with_slot state thread to (word_of_slot state thread from)
after_call setting state thread (Clear slot) answer = with_slot state thread slot 0
after_call setting state thread (Store slot offset stored) answer =
    after_store state (word_of_slot state thread slot + offset) stored answer
after_call setting state thread (Link slot offset value) answer =
    after_link state (word_of_slot state thread slot + offset) (word_of_slot state thread value) answer
after_call setting state thread (Load to slot offset) answer = after_word state thread to answer
after_call setting state thread Reap answer = state

-- what the body of an entry of a thread changes
abbrev pub after_body : Setting → State → ℕ → Body → State
after_body setting state thread (Call op frames answer) = after_call setting state thread op answer
after_body setting state thread (Grow cache base) = after_grow setting state cache base
after_body setting state thread (Shrink cache base) = after_shrink state base

-- what an entry changes
abbrev pub after_entry : Setting → State → Entry → State
after_entry setting state entry = after_body setting state entry.thread entry.body

-- what the entries leave, the oldest first
abbrev pub state_of : Setting → List Entry → State
state_of setting entries = fold (after_entry setting) start_state entries
