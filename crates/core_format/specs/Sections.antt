-- The sections in the words of the readers: which items follow, where these slabs were read.
use Rattle.std.specs.Prelude.{ℕ, Bool, List, [], unwrap_or, Result}
use Rattle.std.specs.List.{list_any}
use Rattle.std.specs.Option.{option_map}
use Rattle.trans_log.specs.declared.record.Fail.{Fail}
use Rattle.trans_log.specs.declared.record.Saved.{Saved}
use Rattle.trans_log.specs.declared.record.Trans.{Trans}
use Rattle.core_format.specs.declared.cache_shape.CacheShape.{CacheShape}
use Rattle.core_format.specs.declared.core_fault.CoreFault.{CoreFault}
use Rattle.core_format.specs.declared.header.Header.{Header}
use Rattle.core_format.specs.declared.items.AuditItem.{AuditItem}
use Rattle.core_format.specs.declared.items.CacheItem.{CacheItem}
use Rattle.core_format.specs.declared.items.CpuPlace.{CpuPlace}
use Rattle.core_format.specs.declared.items.DepotItem.{DepotItem}
use Rattle.core_format.specs.declared.items.LargeItem.{LargeItem}
use Rattle.core_format.specs.declared.items.SlabItem.{SlabItem}
use Rattle.core_format.specs.Caches.{cache_item_at}
use Rattle.core_format.specs.Items.{items_at, last_of_list}
use Rattle.core_format.specs.Logs.{audit_item_at, fail_item_at, saved_item_at, trans_item_at}
use Rattle.core_format.specs.Magazines.{cpu_place_at, depot_item_at, full_at, magazine_at, one_depot_at, one_place_at, one_round_at, rounds_at}
use Rattle.core_format.specs.Reader.{Flaw, Reader, ReadsAs}
use Rattle.core_format.specs.SlabTable.{SlabTable}
use Rattle.core_format.specs.Slabs.{first_rules, large_item_at, meets_chunks, slab_end, slab_item_at, slab_rules}

-- what was answered is the item that is read, and reading stands behind it
abbrev pub ReadsItem : {X : Type 0} → Result X CoreFault → Reader → Result (X × Reader) Flaw → Type 0
ReadsItem result behind read = ReadsAs (λ item. (item, behind)) result read

-- the caches
abbrev pub caches_in : Header → Reader → Result (List CacheItem × Reader) Flaw
caches_in h here = items_at (cache_item_at h) h.caches [] here

-- the next slab
abbrev pub slab_in : Header → SlabTable → Reader → Result (SlabItem × Reader) Flaw
slab_in h table here = slab_item_at h table.shapes table.slabs here

-- all slabs
abbrev pub slabs_in : Header → List CacheShape → Reader → Result (List SlabItem × Reader) Flaw
slabs_in h shapes here = items_at (slab_item_at h shapes) h.slabs [] here

-- the rules of the next slab
abbrev pub slab_rules_in : Header → SlabTable → SlabItem → ℕ → Result (Unit {0}) Flaw
slab_rules_in h table slab start = slab_rules h table.shapes (last_of_list table.slabs) slab start

-- a slab of the table has one of the chunks from first to past
abbrev pub meets_in : SlabTable → ℕ → ℕ → Bool
meets_in table first past = list_any (meets_chunks table.shapes first past) table.slabs

-- the rules of the first chunk of the next slab
abbrev pub first_rules_in : Header → SlabTable → ℕ → ℕ → ℕ → Result (Unit {0}) Flaw
first_rules_in h table first past offset = first_rules h past (meets_in table first past) offset

-- the address past the slabs of the table
abbrev pub table_end : SlabTable → ℕ
table_end table = unwrap_or (option_map (slab_end table.shapes) (last_of_list table.slabs)) 0

-- the next large buffer
abbrev pub large_in : Header → SlabTable → List LargeItem → Reader → Result (LargeItem × Reader) Flaw
large_in h table before here = large_item_at h table.shapes table.slabs before here

-- all large buffers
abbrev pub all_large_in : Header → SlabTable → Reader → Result (List LargeItem × Reader) Flaw
all_large_in h table here = items_at (large_item_at h table.shapes table.slabs) h.large [] here

-- a chunk of a magazine
abbrev pub round_in : SlabTable → ℕ → List ℕ → Reader → Result (ℕ × Reader) Flaw
round_in table cache seen here = one_round_at table.shapes table.slabs cache seen here

-- so many chunks of a magazine
abbrev pub rounds_in : SlabTable → ℕ → List ℕ → ℕ → Reader → Result (List ℕ × Reader) Flaw
rounds_in table cache seen count here = rounds_at table.shapes table.slabs cache seen count here

-- a magazine of a CPU
abbrev pub magazine_in : SlabTable → ℕ → List ℕ → Reader → Result (List ℕ × Reader) Flaw
magazine_in table cache seen here = magazine_at table.shapes table.slabs cache seen here

-- the magazines of a CPU for a cache
abbrev pub place_in : SlabTable → ℕ → ℕ → List ℕ → Reader → Result (CpuPlace × Reader) Flaw
place_in table cpu cache seen here = one_place_at table.shapes table.slabs cpu cache seen here

-- the magazines of all CPUs
abbrev pub places_in : SlabTable → ℕ → ℕ → Reader → Result (List CpuPlace × Reader) Flaw
places_in table caches count here = items_at (cpu_place_at caches table.shapes table.slabs) count [] here

-- so many full magazines of a depot
abbrev pub full_in : SlabTable → ℕ → List ℕ → ℕ → Reader → Result (List (List ℕ) × Reader) Flaw
full_in table cache seen count here = items_at (full_at table.shapes table.slabs cache seen) count [] here

-- the depot of a cache
abbrev pub depot_in : SlabTable → ℕ → List ℕ → Reader → Result (DepotItem × Reader) Flaw
depot_in table cache seen here = one_depot_at table.shapes table.slabs cache seen here

-- the depots of all caches
abbrev pub depots_in : SlabTable → List ℕ → ℕ → Reader → Result (List DepotItem × Reader) Flaw
depots_in table seen caches here = items_at (depot_item_at table.shapes table.slabs seen) caches [] here

-- the next audit
abbrev pub audit_in : Header → SlabTable → List AuditItem → Reader → Result (AuditItem × Reader) Flaw
audit_in h table before here = audit_item_at h table.shapes table.slabs before here

-- all audits
abbrev pub audits_in : Header → SlabTable → Reader → Result (List AuditItem × Reader) Flaw
audits_in h table here = items_at (audit_item_at h table.shapes table.slabs) h.audits [] here

-- the transaction log
abbrev pub trans_in : Header → Reader → Result (List Trans × Reader) Flaw
trans_in h here = items_at (trans_item_at h) h.trans [] here

-- the fail log
abbrev pub fails_in : Header → Reader → Result (List Fail × Reader) Flaw
fails_in h here = items_at (fail_item_at h) h.fails [] here

-- the contents log, which has so many items
abbrev pub saved_in : Header → ℕ → Reader → Result (List Saved × Reader) Flaw
saved_in h count here = items_at (saved_item_at h) count [] here
