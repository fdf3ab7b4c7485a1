-- What a ledger keeps beside its entries: the calls that are left, and room for what they add. Inner: no public clause
-- speaks of these.
use Rattle.std.specs.Prelude.{ℕ, ◌+◌, ◌*◌, ◌^◌, ◌<◌, ◌≤◌, List, length, sum_by}
use Rattle.umem_base.specs.BoundedVec.{BoundedVec}
use Rattle.umem_options.specs.declared.options.Logging.{Logging}
use Rattle.umem_options.specs.declared.options.Options.{Options}
use Rattle.script.specs.declared.tree.Script.{Script}
use Rattle.script.specs.Plan.{Call, plan_of}
use Rattle.plain_heap.specs.declared.entry.Entry.{Entry}
use Rattle.plain_heap.specs.Calls.{turns_made}
use Rattle.plain_heap.specs.State.{state_of}
use Rattle.heap_ledger.specs.Ledger.{IsLedger, Ledger, run_setting}
use Rattle.heap_ledger.specs.Schedule.{IsScheduleOf, Schedule}

-- how many calls are left of a phase
abbrev pub calls_left_in : List (List Call) → ℕ
calls_left_in phase = sum_by length phase

-- how many calls are left
abbrev pub calls_left : Schedule → ℕ
calls_left schedule = calls_left_in schedule.phase + sum_by calls_left_in schedule.later

-- the ledger of these parts
abbrev pub ledger_of : Script → Options → Logging → List Entry → Ledger
ledger_of script options logging entries = record {
  plan = plan_of script;
  options = options;
  logging = logging;
  entries = entries;
}

-- How many entries may still come: a call that is left adds itself and at most a grow, whose slab is given back at most
-- once, and each slab that stands may be given back.
abbrev pub HasRoomForAll : Ledger → Schedule → ℕ → Type 0
HasRoomForAll ledger schedule spare =
    3 * calls_left schedule + length (state_of (run_setting ledger) ledger.entries).slabs ≤ spare

-- the parts of a ledger fit together
pub record IsKept (script : Script) (options : Options) (logging : Logging) (schedule : Schedule)
    (history : BoundedVec Entry) : Type 0 where
  pub sound : IsLedger (ledger_of script options logging history.items)
  pub in_order : IsScheduleOf (plan_of script) (turns_made history.items) schedule
  pub room : HasRoomForAll (ledger_of script options logging history.items) schedule history.spare
  pub few : length history.items + history.spare < 2 ^ 32
