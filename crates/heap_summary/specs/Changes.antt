-- What an entry changes in the number of buffers or of slabs.
use Rattle.std.specs.Prelude.{ℕ, Bool, true, false, List}
use Rattle.case_table.specs.declared.cache_def.CacheDef.{CacheDef}
use Rattle.script.specs.declared.operation.Op.{Op}
use Rattle.script.specs.declared.operation.Op.TheVariants.{Alloc, Zalloc, Free, CacheAlloc, CacheFree, Copy, Clear, Store, Link, Load, Reap}
use Rattle.plain_heap.specs.declared.entry.Body.{Body}
use Rattle.plain_heap.specs.declared.entry.Body.TheVariants.{Call, Grow, Shrink}
use Rattle.plain_heap.specs.declared.reply.Reply.{Reply}
use Rattle.plain_heap.specs.declared.reply.Reply.TheVariants as reply
use Rattle.plain_heap.specs.Setting.{def_of}
use Rattle.heap_summary.specs.declared.change.Change.{Change}
use Rattle.heap_summary.specs.declared.change.Change.TheVariants.{HandedOut, GivenBack, Grown, Nothing}

-- an allocation of so many bytes hands out a buffer where it was answered with an address
abbrev pub change_of_allocation : ℕ → Reply → Change
change_of_allocation size (reply.At address report) = HandedOut size
change_of_allocation size other = Nothing

-- a free of so many bytes gives back a buffer where it was answered `ok`
abbrev pub change_of_free : ℕ → Reply → Change
change_of_free size reply.Ok = GivenBack size
change_of_free size other = Nothing

-- what a call with its answer changes; a call on a declared cache is one of that cache's size
abbrev pub change_of_call : List CacheDef → Op → Reply → Change
change_of_call caches (Alloc slot size) answer = change_of_allocation size answer
change_of_call caches (Zalloc slot size) answer = change_of_allocation size answer
change_of_call caches (CacheAlloc slot cache) answer = change_of_allocation (def_of caches cache).size answer
change_of_call caches (Free slot size) answer = change_of_free size answer
change_of_call caches (CacheFree slot cache) answer = change_of_free (def_of caches cache).size answer
change_of_call caches (Copy to from) answer = Nothing
change_of_call caches (Clear slot) answer = Nothing
change_of_call caches (Store slot offset stored) answer = Nothing
change_of_call caches (Link slot offset value) answer = Nothing
change_of_call caches (Load to slot offset) answer = Nothing
change_of_call caches Reap answer = Nothing

-- what the body of an entry changes
abbrev pub change_of : List CacheDef → Body → Change
change_of caches (Call op frames answer) = change_of_call caches op answer
change_of caches (Grow cache base) = Grown
change_of caches (Shrink cache base) = Nothing

-- ---- by kinds

-- a buffer was handed out
abbrev pub hands_out : Change → Bool
hands_out (HandedOut size) = true
hands_out (GivenBack size) = false
hands_out Grown = false
hands_out Nothing = false

-- a buffer was given back
abbrev pub gives_back : Change → Bool
gives_back (HandedOut size) = false
gives_back (GivenBack size) = true
gives_back Grown = false
gives_back Nothing = false

-- a slab was made
abbrev pub grows : Change → Bool
grows (HandedOut size) = false
grows (GivenBack size) = false
grows Grown = true
grows Nothing = false

-- the bytes of a buffer that was handed out
abbrev pub bytes_out : Change → ℕ
bytes_out (HandedOut size) = size
bytes_out (GivenBack size) = 0
bytes_out Grown = 0
bytes_out Nothing = 0

-- the bytes of a buffer that was given back
abbrev pub bytes_back : Change → ℕ
bytes_back (HandedOut size) = 0
bytes_back (GivenBack size) = size
bytes_back Grown = 0
bytes_back Nothing = 0
