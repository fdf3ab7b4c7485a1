-- What is kept of the chunks that a history freed.
use Rattle.std.specs.Prelude.{ℕ, ◌==◌, List, [], ◌∷◌, ◌++◌, Option, Some, None, option_map, min, if◌then◌else◌}
use Rattle.umem_options.specs.declared.options.Logging.{Logging}
use Rattle.umem_options.specs.declared.options.Options.{Options}
use Rattle.umem_options.specs.Capacity.{contents_capacity, contents_count}
use Rattle.umem_options.specs.Flags.{has_audit}
use Rattle.trans_log.specs.declared.record.Saved.{Saved}
use Rattle.trans_log.specs.Last.{last_of}
use Rattle.trans_log.specs.SavedLog.{saved_item}
use Rattle.script.specs.declared.operation.Op.{Op}
use Rattle.script.specs.declared.operation.Op.TheVariants.{Alloc, Zalloc, Free, CacheAlloc, CacheFree, Copy, Clear, Store, Link, Load, Reap}
use Rattle.plain_heap.specs.declared.entry.Body.{Body}
use Rattle.plain_heap.specs.declared.entry.Body.TheVariants.{Call, Grow, Shrink}
use Rattle.plain_heap.specs.declared.entry.Entry.{Entry}
use Rattle.plain_heap.specs.declared.reply.Reply.{Reply}
use Rattle.plain_heap.specs.declared.reply.Reply.TheVariants as reply
use Rattle.plain_heap.specs.Bytes.{bytes_from}
use Rattle.plain_heap.specs.Setting.{Setting, cache_def_in}
use Rattle.plain_heap.specs.State.{HeapSlab, State, after_entry, chunk_number, slab_with_chunk, start_state, word_of_slot}

-- how many bytes are kept of a chunk of a cache of that size
abbrev pub saved_length : Options → ℕ → ℕ
saved_length options size = min (contents_count options) size

-- what is kept of the chunk of a slab that begins at an address: its first bytes, before the entry of that number
abbrev pub saved_of_chunk : Options → Setting → State → ℕ → ℕ → HeapSlab → Saved
saved_of_chunk options setting state number address slab =
    saved_item number (chunk_number setting slab address)
    (bytes_from state.bytes address (saved_length options (cache_def_in setting slab.cache).size))

-- what is kept of a free of a word: the chunk that begins there, where it was answered ok
abbrev pub saved_of_free : Options → Setting → State → ℕ → ℕ → Reply → Option Saved
saved_of_free options setting state number word reply.Ok =
    option_map (saved_of_chunk options setting state number word) (slab_with_chunk setting state.slabs word)
saved_of_free options setting state number word other = None

-- what is kept of a call of a thread
abbrev pub saved_of_call : Options → Setting → State → ℕ → ℕ → Op → Reply → Option Saved
saved_of_call options setting state number thread (Free slot size) answer =
    saved_of_free options setting state number (word_of_slot state thread slot) answer
saved_of_call options setting state number thread (CacheFree slot cache) answer =
    saved_of_free options setting state number (word_of_slot state thread slot) answer
saved_of_call options setting state number thread (Alloc slot size) answer = None
saved_of_call options setting state number thread (Zalloc slot size) answer = None
saved_of_call options setting state number thread (CacheAlloc slot cache) answer = None
saved_of_call options setting state number thread (Copy to from) answer = None
saved_of_call options setting state number thread (Clear slot) answer = None
saved_of_call options setting state number thread (Store slot offset stored) answer = None
saved_of_call options setting state number thread (Link slot offset value) answer = None
saved_of_call options setting state number thread (Load to slot offset) answer = None
saved_of_call options setting state number thread Reap answer = None

-- what is kept of the body of an entry
abbrev pub saved_of_body : Options → Setting → State → ℕ → ℕ → Body → Option Saved
saved_of_body options setting state number thread (Call op frames answer) =
    saved_of_call options setting state number thread op answer
saved_of_body options setting state number thread (Grow cache base) = None
saved_of_body options setting state number thread (Shrink cache base) = None

-- what is kept of an entry, by the state before it; without audit nothing is
abbrev pub saved_of_entry : Options → Setting → State → Entry → Option Saved
saved_of_entry options setting state entry =
    if has_audit options then saved_of_body options setting state entry.number entry.thread entry.body else None

-- the items with one more in front, if there is one
abbrev pub behind_item : Option Saved → List Saved → List Saved
behind_item None items = items
behind_item (Some item) items = item ∷ items

-- what is kept of entries, by the state before the first of them
abbrev pub saved_from : Options → Setting → State → List Entry → List Saved
saved_from options setting state [] = []
saved_from options setting state (entry ∷ entries) =
    behind_item (saved_of_entry options setting state entry)
    (saved_from options setting (after_entry setting state entry) entries)

-- what is kept of a history
abbrev pub saved_items : Options → Setting → List Entry → List Saved
saved_items options setting entries = saved_from options setting start_state entries

-- how many items the contents log of a run holds: in version 1 it holds none
abbrev pub saved_capacity : Options → Logging → Setting → ℕ
saved_capacity options logging setting =
    if setting.header.version == 2 then contents_capacity logging options else 0

-- the contents log of a history: the last items, as many as the log holds
abbrev pub saved_log : Options → Logging → Setting → List Entry → List Saved
saved_log options logging setting entries =
    last_of (saved_capacity options logging setting) (saved_items options setting entries)
