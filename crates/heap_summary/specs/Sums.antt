-- What a history did, and what lives at its end.
use Rattle.std.specs.Prelude.{◌≡◌, ℕ, Bool, List, length, sum_by}
use Rattle.script.specs.declared.tree.Header.{Header}
use Rattle.plain_heap.specs.declared.entry.Entry.{Entry}
use Rattle.plain_heap.specs.Legal.{IsLegal}
use Rattle.plain_heap.specs.Setting.{Setting}
use Rattle.plain_heap.specs.State.{State, state_of}
use Rattle.heap_summary.specs.declared.summary.Summary.{Summary}
use Rattle.heap_summary.specs.Changes.{gives_back, grows, hands_out}
use Rattle.heap_summary.specs.Tallies.{count_changes}

-- the bytes that were requested for the live buffers
abbrev pub live_bytes : State → ℕ
live_bytes state = sum_by (λ buffer. buffer.held.size) state.live

-- the allocations, the frees and the slabs that entries tell, and the buffers that they leave
abbrev pub summary_of : Setting → List Entry → Summary
summary_of setting entries = record {
  allocs = count_changes setting.header.caches hands_out entries;
  frees = count_changes setting.header.caches gives_back entries;
  live = length (state_of setting entries).live;
  bytes = live_bytes (state_of setting entries);
  grows = count_changes setting.header.caches grows entries;
}

-- what is fixed for the histories of a header, with guards or without
abbrev pub setting_with : Header → Bool → Setting
setting_with header guards = record { header = header; guards = guards }

-- the entries are a legal history of a header, with guards or without
pub record IsSomeRun (header : Header) (entries : List Entry) : Type 0 where
  pub guards : Bool
  pub legal : IsLegal (setting_with header guards) entries

-- the summary is that of the entries, with guards and without, where they are legal so
abbrev pub SumsUp : Header → List Entry → Summary → Type 0
SumsUp header entries summary =
    (guards : Bool) → IsLegal (setting_with header guards) entries
    → summary ≡ summary_of (setting_with header guards) entries
