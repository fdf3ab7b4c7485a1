-- How a core is spelled: the bytes of each section, one item after the other.
use Rattle.std.specs.Prelude.{ℕ, ◌==◌, List, [], ◌∷◌, ◌++◌, length, take, drop, Option, unwrap_or, if◌then◌else◌}
use Rattle.std.specs.List.{flat_map}
use Rattle.byteorder.specs.Endian.{little_bytes}
use Rattle.case_table.specs.Record.{spelling}
use Rattle.trans_log.specs.declared.record.Fail.{Fail}
use Rattle.trans_log.specs.declared.record.Saved.{Saved}
use Rattle.trans_log.specs.declared.record.Trans.{Trans}
use Rattle.core_format.specs.declared.header.Header.{Header}
use Rattle.core_format.specs.declared.header.SecondHeader.{SecondHeader}
use Rattle.core_format.specs.declared.items.AuditItem.{AuditItem}
use Rattle.core_format.specs.declared.items.CacheItem.{CacheItem}
use Rattle.core_format.specs.declared.items.CpuPlace.{CpuPlace}
use Rattle.core_format.specs.declared.items.DepotItem.{DepotItem}
use Rattle.core_format.specs.declared.items.LargeItem.{LargeItem}
use Rattle.core_format.specs.declared.items.OwnRoot.{OwnRoot}
use Rattle.core_format.specs.declared.items.SlabItem.{SlabItem}
use Rattle.core_format.specs.declared.limits.TheConstants.{NAME_PADDING, NO_CTOR}
use Rattle.core_format.specs.declared.read_header.TheConstants.{MAGIC}
use Rattle.core_format.specs.declared.whole.Core.{Core}
use Rattle.core_format.specs.Header.{header_widths, second_widths}
use Rattle.core_format.specs.Logs.{audit_widths, fail_widths, saved_widths, trans_widths}
use Rattle.core_format.specs.PageBytes.{lower_count}
use Rattle.core_format.specs.Slabs.{slab_widths}

-- how many items a list has, in four bytes
abbrev pub spelled_count : {A : Type 0} → List A → List ℕ
spelled_count items = little_bytes 4 (length items)

-- numbers of four bytes
abbrev pub spelled_numbers : List ℕ → List ℕ
spelled_numbers numbers = flat_map (little_bytes 4) numbers

-- words of eight bytes
abbrev pub spelled_words : List ℕ → List ℕ
spelled_words words = flat_map (little_bytes 8) words

-- what the header of a core says
abbrev pub header_of_core : Core → Header
header_of_core core = record {
  version = core.version;
  flags = core.flags.0;
  frames = core.frames;
  contents = core.contents;
  cpus = core.cpus;
  caches = length core.caches;
  slabs = length core.slabs;
  large = length core.large;
  audits = length core.audits;
  trans_capacity = core.trans_capacity;
  trans = length core.trans;
  fail_capacity = core.fail_capacity;
  fails = length core.fails;
  next_chunk = core.next_chunk;
  entries = core.entries;
}

-- what its second header says
abbrev pub second_of_core : Core → SecondHeader
second_of_core core =
    record { threads = length core.own; contents_capacity = core.contents_capacity; saved = length core.saved }

-- the bytes of a header
abbrev pub spelled_header : Header → List ℕ
spelled_header h =
    spelling header_widths
    (MAGIC ∷ h.version ∷ h.flags ∷ h.frames ∷ h.contents ∷ h.cpus ∷ h.caches ∷ h.slabs ∷ h.large ∷ h.audits
    ∷ h.trans_capacity ∷ h.trans ∷ h.fail_capacity ∷ h.fails ∷ h.next_chunk ∷ h.entries ∷ [])

-- those of a second header, which a core of version 1 has not
abbrev pub spelled_second : ℕ → SecondHeader → List ℕ
spelled_second version second =
    if version == 1 then [] else spelling second_widths (second.threads ∷ second.contents_capacity ∷ second.saved ∷ [])

-- a thread's own segment
abbrev pub spelled_own : OwnRoot → List ℕ
spelled_own own = spelled_words own.words

-- a name, with zeros behind it up to 32 bytes
abbrev pub spelled_name : List ℕ → List ℕ
spelled_name name = name ++ drop (length name) NAME_PADDING

-- what stands in the field of a constructor
abbrev pub ctor_number : Option ℕ → ℕ
ctor_number ctor = unwrap_or ctor NO_CTOR

-- the numbers of a cache
abbrev pub spelled_cache_numbers : ℕ → CacheItem → List ℕ
spelled_cache_numbers version item =
    if version == 1 then spelling (4 ∷ 4 ∷ 4 ∷ []) (item.def.size ∷ item.def.align ∷ item.grows ∷ [])
    else spelling (4 ∷ 4 ∷ 4 ∷ 4 ∷ []) (item.def.size ∷ item.def.align ∷ item.grows ∷ ctor_number item.def.ctor ∷ [])

-- a cache in a core of that version
abbrev pub spelled_cache : ℕ → CacheItem → List ℕ
spelled_cache version item = spelled_name item.def.name ++ spelled_cache_numbers version item

-- a slab with its list
abbrev pub spelled_slab : SlabItem → List ℕ
spelled_slab slab =
    spelling slab_widths (slab.base ∷ slab.cache ∷ slab.colour ∷ slab.first ∷ length slab.free ∷ [])
    ++ spelled_numbers slab.free

-- a large buffer
abbrev pub spelled_large : LargeItem → List ℕ
spelled_large item = spelling (8 ∷ 8 ∷ []) (item.base ∷ item.size ∷ [])

-- a magazine: how many chunks it holds, and their numbers
abbrev pub spelled_magazine : List ℕ → List ℕ
spelled_magazine rounds = spelled_count rounds ++ spelled_numbers rounds

-- the two magazines of a CPU for a cache
abbrev pub spelled_place : CpuPlace → List ℕ
spelled_place place = spelled_magazine place.loaded ++ spelled_magazine place.previous

-- a depot: how many full magazines it has, and the chunks of each
abbrev pub spelled_depot : DepotItem → List ℕ
spelled_depot depot = spelled_count depot.full ++ flat_map spelled_numbers depot.full

-- an audit with its frames
abbrev pub spelled_audit : AuditItem → List ℕ
spelled_audit audit =
    spelling audit_widths (audit.chunk ∷ audit.thread ∷ audit.time ∷ length audit.stack ∷ [])
    ++ spelled_words audit.stack

-- a transaction with its frames
abbrev pub spelled_trans : Trans → List ℕ
spelled_trans t =
    spelling trans_widths (t.kind ∷ t.cpu ∷ t.thread ∷ t.chunk ∷ t.address ∷ t.time ∷ length t.stack ∷ [])
    ++ spelled_words t.stack

-- a failed allocation
abbrev pub spelled_fail : Fail → List ℕ
spelled_fail fail = spelling fail_widths (fail.thread ∷ fail.cache ∷ fail.size ∷ fail.time ∷ [])

-- what a freed buffer held
abbrev pub spelled_saved : Saved → List ℕ
spelled_saved saved = spelling saved_widths (saved.time ∷ saved.chunk ∷ length saved.bytes ∷ []) ++ saved.bytes

-- the bytes of large buffers
abbrev pub large_bytes : List LargeItem → List ℕ
large_bytes large = flat_map (λ item. item.bytes) large

-- the bytes of all pages: before those of a slab stand those of the large buffers below it
abbrev pub spelled_pages : List SlabItem → List LargeItem → List ℕ
spelled_pages [] large = large_bytes large
spelled_pages (slab ∷ slabs) large =
    large_bytes (take (lower_count slab.base large) large)
    ++ slab.bytes
    ++ spelled_pages slabs (drop (lower_count slab.base large) large)

-- the headers, the segments and the caches
abbrev pub spelled_front : Core → List ℕ
spelled_front core =
    spelled_header (header_of_core core)
    ++ spelled_second core.version (second_of_core core)
    ++ spelled_words core.root
    ++ flat_map spelled_own core.own
    ++ flat_map (spelled_cache core.version) core.caches

-- slabs, large buffers, magazines and depots
abbrev pub spelled_middle : Core → List ℕ
spelled_middle core =
    flat_map spelled_slab core.slabs
    ++ flat_map spelled_large core.large
    ++ flat_map spelled_place core.cpu_places
    ++ flat_map spelled_depot core.depots

-- audits and logs
abbrev pub spelled_records : Core → List ℕ
spelled_records core =
    flat_map spelled_audit core.audits
    ++ flat_map spelled_trans core.trans
    ++ flat_map spelled_fail core.fails
    ++ flat_map spelled_saved core.saved

-- the bytes of a core
abbrev pub spelled_core : Core → List ℕ
spelled_core core =
    spelled_front core ++ spelled_middle core ++ spelled_records core ++ spelled_pages core.slabs core.large
