-- Which chunk each entry of a history handed out or took back.
use Rattle.std.specs.Prelude.{ℕ, List, [], ◌∷◌, Option, None, option_map}
use Rattle.script.specs.declared.operation.Op.{Op}
use Rattle.script.specs.declared.operation.Op.TheVariants.{Alloc, Zalloc, Free, CacheAlloc, CacheFree, Copy, Clear, Store, Link, Load, Reap}
use Rattle.plain_heap.specs.declared.entry.Body.{Body}
use Rattle.plain_heap.specs.declared.entry.Body.TheVariants.{Call, Grow, Shrink}
use Rattle.plain_heap.specs.declared.entry.Entry.{Entry}
use Rattle.plain_heap.specs.declared.reply.Reply.{Reply}
use Rattle.plain_heap.specs.declared.reply.Reply.TheVariants as reply
use Rattle.plain_heap.specs.Setting.{Setting}
use Rattle.plain_heap.specs.State.{State, after_entry, chunk_number, slab_with_chunk, start_state, word_of_slot}
use Rattle.heap_logs.specs.declared.act.Act.{Act}

-- the act on the chunk that begins at an address, if one of a slab that stands does
abbrev pub act_at : Setting → State → ℕ → Option Act
act_at setting state address =
    option_map (λ slab. record { chunk = chunk_number setting slab address; address = address })
    (slab_with_chunk setting state.slabs address)

-- an allocation acts on the chunk with which it was answered
abbrev pub act_of_alloc : Setting → State → Reply → Option Act
act_of_alloc setting state (reply.At address report) = act_at setting state address
act_of_alloc setting state other = None

-- a free of a word acts on the chunk that begins there, where it was answered ok
abbrev pub act_of_free : Setting → State → ℕ → Reply → Option Act
act_of_free setting state word reply.Ok = act_at setting state word
act_of_free setting state word other = None

-- the act of a call of a thread, by the state before it
abbrev pub act_of_call : Setting → State → ℕ → Op → Reply → Option Act
act_of_call setting state thread (Alloc slot size) answer = act_of_alloc setting state answer
act_of_call setting state thread (Zalloc slot size) answer = act_of_alloc setting state answer
act_of_call setting state thread (CacheAlloc slot cache) answer = act_of_alloc setting state answer
act_of_call setting state thread (Free slot size) answer =
    act_of_free setting state (word_of_slot state thread slot) answer
act_of_call setting state thread (CacheFree slot cache) answer =
    act_of_free setting state (word_of_slot state thread slot) answer
act_of_call setting state thread (Copy to from) answer = None
act_of_call setting state thread (Clear slot) answer = None
act_of_call setting state thread (Store slot offset stored) answer = None
act_of_call setting state thread (Link slot offset value) answer = None
act_of_call setting state thread (Load to slot offset) answer = None
act_of_call setting state thread Reap answer = None

-- the act of the body of an entry of a thread; an inner entry has none
abbrev pub act_of_body : Setting → State → ℕ → Body → Option Act
act_of_body setting state thread (Call op frames answer) = act_of_call setting state thread op answer
act_of_body setting state thread (Grow cache base) = None
act_of_body setting state thread (Shrink cache base) = None

-- the act of an entry
abbrev pub act_of : Setting → State → Entry → Option Act
act_of setting state entry = act_of_body setting state entry.thread entry.body

-- the acts of entries, one an entry, by the state before the first of them
abbrev pub acts_from : Setting → State → List Entry → List (Option Act)
acts_from setting state [] = []
acts_from setting state (entry ∷ entries) =
    act_of setting state entry ∷ acts_from setting (after_entry setting state entry) entries

-- the acts of a history
abbrev pub acts_of : Setting → List Entry → List (Option Act)
acts_of setting entries = acts_from setting start_state entries
