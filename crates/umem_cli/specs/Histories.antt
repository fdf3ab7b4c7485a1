-- Which history a run makes of a script, and how it is printed.
use Rattle.std.specs.Prelude.{◌≡◌, ℕ, Bool, List, Result, Ok, Err}
use Rattle.umem_options.specs.Flags.{has_guards}
use Rattle.script.specs.Plan.{Plan}
use Rattle.plain_heap.specs.declared.entry.Entry.{Entry}
use Rattle.plain_heap.specs.Answers.{Answers, setting_for}
use Rattle.plain_heap.specs.Texts.{transcript_text}
use Rattle.heap_accounts.specs.Placed.{IsPlaced}
use Rattle.heap_ledger.specs.Ledger.{Ledger}
use Rattle.umem_cli.specs.declared.job.Job.{Job}
use Rattle.umem_cli.specs.declared.printed.Printed.{Printed}
use Rattle.umem_cli.specs.declared.refusal.Refusal.{Refusal}
use Rattle.umem_cli.specs.declared.refusal.Refusal.TheVariants.{NoMemory}
use Rattle.umem_cli.specs.Cores.{IsCoreAsked}

-- a run of the script, with guards or without, may make the history: it answers the script, and where one thread makes
-- all calls, each chunk stands where the magazine rules say
pub record IsHistoryOf (guards : Bool) (plan : Plan) (history : List Entry) : Type 0 where
  pub answers : Answers guards plan history
  pub placed : plan.header.threads ≡ 1 → IsPlaced (setting_for guards plan) history

-- the transcript of a history of the script
abbrev pub run_text : Bool → Plan → List Entry → List ℕ
run_text guards plan history = transcript_text plan.header guards history

-- what a run was given, and the history that it made
abbrev pub ledger_made : Job → Plan → List Entry → Ledger
ledger_made job plan history =
    record { plan = plan; options = job.options; logging = job.logging; entries = history }

-- the transcript of a history of the script, and a core of that history where one is asked for
pub record IsPrintedOf (job : Job) (plan : Plan) (printed : Printed) : Type 0 where
  pub history : List Entry
  pub is : IsHistoryOf (has_guards job.options) plan history
  pub transcript : printed.transcript ≡ run_text (has_guards job.options) plan history
  pub core : IsCoreAsked (ledger_made job plan history) job.core printed.core

-- these were made, or memory was short
abbrev pub MakesPrinted : Job → Plan → Result Printed Refusal → Type 0
MakesPrinted job plan (Ok printed) = IsPrintedOf job plan printed
MakesPrinted job plan (Err why) = why ≡ NoMemory
