-- What is kept beside the tables of a run for its audits and logs.
use Rattle.std.specs.Prelude.{◌≡◌, ℕ, ◌+◌, ◌-◌, ◌*◌, ◌≤◌, List, ◌∷◌, [], ◌++◌, Option, None, length, replicate, take}
use Rattle.umem_base.specs.BoundedVec.{BoundedVec}
use Rattle.umem_options.specs.Capacity.{contents_count}
use Rattle.umem_options.specs.declared.limits.TheConstants.{MOST_CONTENTS}
use Rattle.trans_log.specs.Last.{with_new}
use Rattle.trans_log.specs.SavedLog.{SavedLog, saved_item}
use Rattle.script.specs.Plan.{call_count}
use Rattle.plain_heap.specs.Calls.{turns_made}
use Rattle.heap_ledger.specs.Ledger.{Ledger, run_setting, run_state}
use Rattle.heap_logs.specs.declared.act.Act.{Act}
use Rattle.heap_logs.specs.Acts.{acts_of}
use Rattle.heap_logs.specs.Saved.{saved_capacity, saved_log}

-- the act of each entry, in room that was taken at the start; the contents log; and the first bytes of the chunk that
-- the next free gives back
pub record Journal : Type 0 where
  pub acts : BoundedVec (Option Act)
  pub saved : SavedLog
  pub piece : List ℕ

-- the journal with a call's act, behind those of so many inner entries, which have none
abbrev pub with_act : Journal → ℕ → Option Act → Journal
with_act journal inner act = record journal {
  acts = record {
    items = journal.acts.items ++ (replicate inner None ++ act ∷ []);
    spare = journal.acts.spare - (inner + 1);
  };
}

-- the journal with one freed buffer more in its contents log, of which so many bytes are kept
abbrev pub with_saved : Journal → ℕ → ℕ → ℕ → Journal
with_saved journal time chunk count = record journal {
  saved = record journal.saved {
    items = with_new journal.saved.capacity journal.saved.items (saved_item time chunk (take count journal.piece));
  };
}

-- The journal is that of a run: it has the act of each entry and the contents log of the entries, and there is room for
-- all that may still come: a call that is left adds itself and at most a grow, whose slab is given back at most once,
-- and each slab that stands may be given back.
pub record IsJournalOf (ledger : Ledger) (journal : Journal) : Type 0 where
  pub acts : journal.acts.items ≡ acts_of (run_setting ledger) ledger.entries
  pub room : 3 * call_count ledger.plan + length (run_state ledger).slabs
      ≤ 3 * length (turns_made ledger.entries) + journal.acts.spare
  pub saved : journal.saved.items ≡ saved_log ledger.options ledger.logging (run_setting ledger) ledger.entries
  pub capacity : journal.saved.capacity ≡ saved_capacity ledger.options ledger.logging (run_setting ledger)
  pub count : journal.saved.count ≡ contents_count ledger.options
  pub piece : length journal.piece ≡ MOST_CONTENTS
