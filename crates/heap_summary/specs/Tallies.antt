-- Sums over entries.
use Rattle.std.specs.Prelude.{ℕ, Bool, List, count_by, sum_by}
use Rattle.case_table.specs.declared.cache_def.CacheDef.{CacheDef}
use Rattle.plain_heap.specs.declared.entry.Entry.{Entry}
use Rattle.heap_summary.specs.declared.change.Change.{Change}
use Rattle.heap_summary.specs.declared.tally.Tally.{Tally}
use Rattle.heap_summary.specs.Changes.{bytes_back, bytes_out, change_of, gives_back, grows, hands_out}

-- how many entries change something of a kind
abbrev pub count_changes : List CacheDef → (Change → Bool) → List Entry → ℕ
count_changes caches kind entries = count_by (λ entry. kind (change_of caches entry.body)) entries

-- the bytes of what entries change, of a kind
abbrev pub bytes_changed : List CacheDef → (Change → ℕ) → List Entry → ℕ
bytes_changed caches kind entries = sum_by (λ entry. kind (change_of caches entry.body)) entries

-- all of these
abbrev pub tally_of : List CacheDef → List Entry → Tally
tally_of caches entries = record {
  allocs = count_changes caches hands_out entries;
  frees = count_changes caches gives_back entries;
  handed = bytes_changed caches bytes_out entries;
  back = bytes_changed caches bytes_back entries;
  grows = count_changes caches grows entries;
}
