-- What is known of a free that was made and is not in the journal yet.
use Rattle.std.specs.Prelude.{◌≡◌, ℕ, ◌≤◌, Bool, [], Option, None, Some, IfSome, length, take, if◌then◌else◌}
use Rattle.umem_options.specs.Capacity.{contents_count}
use Rattle.script.specs.Plan.{Call}
use Rattle.plain_heap.specs.declared.reply.Reply.{Reply}
use Rattle.plain_heap.specs.declared.reply.Reply.TheVariants as reply
use Rattle.plain_heap.specs.Bytes.{bytes_from}
use Rattle.plain_heap.specs.Setting.{cache_def_in}
use Rattle.plain_heap.specs.State.{word_of_slot}
use Rattle.heap_ledger.specs.Ledger.{Ledger, after_commit, run_setting, run_state}
use Rattle.heap_logs.specs.Saved.{saved_length}
use Rattle.heap_slabs.specs.declared.placed.Placed.{Placed}
use Rattle.heap_slabs.specs.Chunks.{placed_at}
use Rattle.heap_accounts.specs.Kinds.{freed_slot}
use Rattle.heap_books.specs.Books.{AreBooks}
use Rattle.heap_books.specs.Journal.{Journal, with_saved}

-- so many first bytes of a chunk's object were noted, as many as the contents log keeps
pub record IsNoted (ledger : Ledger) (journal : Journal) (placed : Placed) (count : ℕ) : Type 0 where
  pub bytes : take count journal.piece ≡ bytes_from (run_state ledger).bytes placed.chunk.address
      (saved_length ledger.options (cache_def_in (run_setting ledger) placed.cache).size)
  pub there : count ≤ length journal.piece
  pub few : count ≤ contents_count ledger.options

-- The last call of a run was a free with that answer, and the journal is that of the run before it. A chunk began at
-- its word exactly where there is one here, and of that so many bytes were noted.
pub record IsFreed (new : Ledger) (journal : Journal) (time : ℕ) (answer : Reply) (placed : Option Placed) (count : ℕ)
    : Type 0 where
  pub old : Ledger
  pub books : AreBooks old journal
  pub thread : ℕ
  pub call : Call
  pub slot : ℕ
  pub frees : freed_slot call.op ≡ Some slot
  pub made : new ≡ after_commit old thread [] call answer
  pub at : time ≡ length old.entries
  pub began : placed ≡ placed_at (run_setting old) (run_state old) (word_of_slot (run_state old) thread slot)
  pub noted : IfSome placed (λ its. IsNoted old journal its count)

-- the chunk that a free with an answer gave back, where one began at its word
abbrev pub chunk_back : Reply → Option Placed → Option Placed
chunk_back reply.Ok placed = placed
chunk_back other placed = None

-- the journal with what was noted of a chunk in its contents log, if that is kept
abbrev pub saved_if : Bool → Journal → ℕ → ℕ → ℕ → Journal
saved_if audited journal time chunk count = if audited then with_saved journal time chunk count else journal
