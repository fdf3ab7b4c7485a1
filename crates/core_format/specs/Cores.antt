-- Which bytes are a core, and what is wrong with the others.
use Rattle.std.specs.Prelude.{◌≡◌, ◌⊎◌, ℕ, ◌*◌, ◌<◌, All, List, [], Option, Some, None, Result, Ok, Err, ◌==◌}
use Rattle.std.specs.List.{flat_map}
use Rattle.core_format.specs.declared.fault.Fault.TheVariants.{TrailingBytes}
use Rattle.core_format.specs.declared.cache_shape.CacheShape.{CacheShape}
use Rattle.core_format.specs.declared.header.Header.{Header}
use Rattle.core_format.specs.declared.header.SecondHeader.{SecondHeader}
use Rattle.core_format.specs.declared.parts.Front.{Front}
use Rattle.core_format.specs.declared.parts.Middle.{Middle}
use Rattle.core_format.specs.declared.parts.Records.{Records}
use Rattle.core_format.specs.declared.items.CpuPlace.{CpuPlace}
use Rattle.core_format.specs.declared.items.DepotItem.{DepotItem}
use Rattle.core_format.specs.declared.items.SlabItem.{SlabItem}
use Rattle.core_format.specs.declared.items.LargeItem.{LargeItem}
use Rattle.core_format.specs.declared.whole.Core.{Core}
use Rattle.core_format.specs.Reader.{Flaw, Reader, ◌>>=◌, left, rule}
use Rattle.core_format.specs.Items.{items_at}
use Rattle.core_format.specs.Header.{headers_at}
use Rattle.core_format.specs.Segments.{own_root_at, segment_at}
use Rattle.core_format.specs.Caches.{cache_item_at, shapes_of}
use Rattle.core_format.specs.Slabs.{large_item_at, slab_item_at}
use Rattle.core_format.specs.SlabTable.{SlabTable}
use Rattle.core_format.specs.Magazines.{cpu_place_at, depot_item_at, place_rounds}
use Rattle.core_format.specs.Logs.{audit_item_at, fail_item_at, saved_item_at, trans_item_at}
use Rattle.core_format.specs.PageBytes.{pages_at}

-- both headers, the root segments and the caches
unfoldable pub front_at : Reader → Result (Front × Reader) Flaw
front_at here = do
  headers ← headers_at here
  let h = headers.0.0
  let second = headers.0.1
  root ← segment_at headers.1
  own ← items_at own_root_at second.threads [] root.1
  caches ← items_at (cache_item_at h) h.caches [] own.1
  Ok (record { header = h; second = second; root = root.0; own = own.0; caches = caches.0 }, caches.1)

-- slabs, large buffers, magazines and depots
unfoldable pub middle_at : Header → List CacheShape → Reader → Result (Middle × Reader) Flaw
middle_at h shapes here = do
  slabs ← items_at (slab_item_at h shapes) h.slabs [] here
  large ← items_at (large_item_at h shapes slabs.0) h.large [] slabs.1
  places ← items_at (cpu_place_at h.caches shapes slabs.0) (h.cpus * h.caches) [] large.1
  depots ← items_at (depot_item_at shapes slabs.0 (flat_map place_rounds places.0)) h.caches [] places.1
  let table : SlabTable = record { shapes = shapes; slabs = slabs.0 }
  Ok (record { table = table; large = large.0; cpu_places = places.0; depots = depots.0 }, depots.1)

-- audits and logs
unfoldable pub records_at : Header → SecondHeader → List CacheShape → List SlabItem → Reader
    → Result (Records × Reader) Flaw
records_at h second shapes slabs here = do
  audits ← items_at (audit_item_at h shapes slabs) h.audits [] here
  trans ← items_at (trans_item_at h) h.trans [] audits.1
  fails ← items_at (fail_item_at h) h.fails [] trans.1
  saved ← items_at (saved_item_at h) second.saved [] fails.1
  Ok (record { audits = audits.0; trans = trans.0; fails = fails.0; saved = saved.0 }, saved.1)

-- the same, where these slabs were read
abbrev pub records_in : Header → SecondHeader → SlabTable → Reader → Result (Records × Reader) Flaw
records_in h second table here = records_at h second table.shapes table.slabs here

-- the core that the sections tell
abbrev pub core_of_parts : Front → List CpuPlace → List DepotItem → Records → List SlabItem → List LargeItem → Core
core_of_parts front cpu_places depots records slabs large = record {
  version = front.header.version;
  flags = record { 0 = front.header.flags };
  frames = front.header.frames;
  contents = front.header.contents;
  cpus = front.header.cpus;
  trans_capacity = front.header.trans_capacity;
  fail_capacity = front.header.fail_capacity;
  contents_capacity = front.second.contents_capacity;
  next_chunk = front.header.next_chunk;
  entries = front.header.entries;
  root = front.root;
  own = front.own;
  caches = front.caches;
  slabs = slabs;
  large = large;
  cpu_places = cpu_places;
  depots = depots;
  audits = records.audits;
  trans = records.trans;
  fails = records.fails;
  saved = records.saved;
}

-- the core that the bytes are, or their first flaw
unfoldable pub core_of : List ℕ → Result Core Flaw
core_of bytes = do
  front ← front_at (record { bytes = bytes; at = 0 })
  let h = front.0.header
  middle ← middle_at h (shapes_of h front.0.caches) front.1
  let table = middle.0.table
  records ← records_at h front.0.second table.shapes table.slabs middle.1
  pages ← pages_at table.shapes middle.0.large table.slabs [] [] records.1
  _ ← rule (left pages.1 == 0) pages.1.at TrailingBytes
  Ok (core_of_parts front.0 middle.0.cpu_places middle.0.depots records.0 pages.0.0 pages.0.1)

-- the bytes are that core
abbrev pub IsCore : List ℕ → Core → Type 0
IsCore bytes core = core_of bytes ≡ Ok core

-- the first flaw of bytes that are no core
abbrev pub first_flaw : List ℕ → Option Flaw
first_flaw bytes = elim (core_of bytes) [ Ok core ↦ None | Err flaw ↦ Some flaw ]

-- the bytes are some core, or have a first flaw
abbrev pub IsCoreOrHasFault : List ℕ → Type 0
IsCoreOrHasFault bytes = ((core : Core) × IsCore bytes core) ⊎ ((flaw : Flaw) × (first_flaw bytes ≡ Some flaw))

-- some bytes are the core
abbrev pub MeetsTheRules : Core → Type 0
MeetsTheRules core = (bytes : List ℕ) × All (λ byte. byte < 256) bytes × IsCore bytes core
