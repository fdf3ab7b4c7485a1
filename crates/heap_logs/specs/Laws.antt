-- What follows of the definitions of this crate: the statements, which laws prove.
use Rattle.std.specs.Prelude.{◌≡◌, ℕ, ◌+◌, ◌<◌, ◌≤◌, List, [], ◌∷◌, ◌++◌, Option, Some, All, AllPairs, Contains, length, map, take}
use Rattle.umem_options.specs.declared.options.Options.{Options}
use Rattle.trans_log.specs.declared.record.Saved.{Saved}
use Rattle.trans_log.specs.Last.{entered, last_of}
use Rattle.script.specs.Rules.{IsHeader}
use Rattle.plain_heap.specs.declared.entry.Entry.{Entry}
use Rattle.plain_heap.specs.Bytes.{Bytes, bytes_from}
use Rattle.plain_heap.specs.Legal.{IsLegal}
use Rattle.plain_heap.specs.Setting.{Setting, geometry_in}
use Rattle.plain_heap.specs.State.{HeapSlab, IsChunkOf, State, chunk_number, chunk_start, next_chunk, slab_with_chunk, state_of}
use Rattle.heap_logs.specs.declared.chunk_range.ChunkRange.{ChunkRange}
use Rattle.heap_logs.specs.Acts.{act_of, acts_from, acts_of}
use Rattle.heap_logs.specs.Audits.{standing_chunks}
use Rattle.heap_logs.specs.Saved.{saved_length, saved_from, saved_items}

-- ---- longer histories

-- the acts of a longer history are those of the shorter one, and those of the entries behind it
abbrev pub ActsGrow : Type 0
ActsGrow =
    (setting : Setting) (entries more : List Entry)
    → acts_of setting (entries ++ more) ≡ acts_of setting entries ++ acts_from setting (state_of setting entries) more

-- there is one act an entry
abbrev pub ActsAreOneAnEntry : Type 0
ActsAreOneAnEntry = (setting : Setting) (entries : List Entry) → length (acts_of setting entries) ≡ length entries

-- what is kept of a longer history is what is kept of the shorter one, and of the entries behind it
abbrev pub SavedItemsGrow : Type 0
SavedItemsGrow =
    (options : Options) (setting : Setting) (entries more : List Entry)
    → saved_items options setting (entries ++ more)
    ≡ saved_items options setting entries ++ saved_from options setting (state_of setting entries) more

-- a log that has the last items of a history has the last of the longer one, once what is kept of the entries behind it
-- is entered
abbrev pub SavedLogsGrow : Type 0
SavedLogsGrow =
    (options : Options) (setting : Setting) (capacity : ℕ) (entries more : List Entry)
    → entered capacity (last_of capacity (saved_items options setting entries))
    (saved_from options setting (state_of setting entries) more)
    ≡ last_of capacity (saved_items options setting (entries ++ more))

-- ---- chunks

-- one range ends where another begins, or below
abbrev pub StandsBelow : ChunkRange → ChunkRange → Type 0
StandsBelow one other = one.first + one.count ≤ other.first

-- the chunks of the slabs that stand rise from slab to slab, and lie below the next chunk
pub record Rise (standing : List ChunkRange) (next : ℕ) : Type 0 where
  pub apart : AllPairs StandsBelow standing
  pub below : All (λ range. range.first + range.count ≤ next) standing

-- the slabs that stand after a history have rising chunks, the oldest slab first
abbrev pub StandingChunksRise : Type 0
StandingChunksRise =
    (setting : Setting) (entries : List Entry)
    → Rise (standing_chunks setting (state_of setting entries)) (next_chunk setting (state_of setting entries))

-- where a chunk of a slab begins that stands after a legal history, that slab is found, and the chunk has its number
pub record IsFound (setting : Setting) (slabs : List HeapSlab) (slab : HeapSlab) (index : ℕ) : Type 0 where
  pub slab_is : slab_with_chunk setting slabs (chunk_start setting slab index) ≡ Some slab
  pub number : chunk_number setting slab (chunk_start setting slab index) ≡ slab.first + index

-- so it is with each chunk
abbrev pub ChunksAreFound : Type 0
ChunksAreFound =
    (setting : Setting) (entries : List Entry) (slab : HeapSlab) (index : ℕ) → IsHeader setting.header
    → IsLegal setting entries → Contains (state_of setting entries).slabs slab
    → index < (geometry_in setting slab.cache).rounds
    → IsFound setting (state_of setting entries).slabs slab index

-- the first of some bytes at an address are those at it
abbrev pub FirstBytesStand : Type 0
FirstBytesStand =
    (bytes : Bytes) (address count few : ℕ) → few ≤ count
    → take few (bytes_from bytes address count) ≡ bytes_from bytes address few
