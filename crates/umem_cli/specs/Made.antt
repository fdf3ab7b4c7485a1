-- What a script that is drawn and run wants to give out.
use Rattle.std.specs.Prelude.{◌≡◌, ℕ, ◌⊎◌, ◌++◌, Bool, List}
use Rattle.script.specs.Generated.{made_plan}
use Rattle.script.specs.Plan.{Plan}
use Rattle.script.specs.PlanText.{text_of}
use Rattle.plain_heap.specs.declared.entry.Entry.{Entry}
use Rattle.plain_heap.specs.Answers.{setting_for}
use Rattle.heap_summary.specs.Sums.{summary_of}
use Rattle.heap_summary.specs.Texts.{summary_text}
use Rattle.umem_cli.specs.Histories.{IsHistoryOf}
use Rattle.umem_cli.specs.Pieces.{Wanted, nothing}
use Rattle.umem_cli.specs.Transcripts.{printed}
use Rattle.umem_cli.specs.World.{World}

-- the text of a script, and behind it the line of what a history of it did
abbrev pub script_and_summary : Bool → Plan → List Entry → List ℕ
script_and_summary guards plan history = text_of plan ++ summary_text (summary_of (setting_for guards plan) history)

-- the text is that of the script of so many operations that is drawn from the seed, with the summary of a history of it
pub record IsMade (guards : Bool) (seed ops : ℕ) (text : List ℕ) : Type 0 where
  pub history : List Entry
  pub is : IsHistoryOf guards (made_plan seed ops) history
  pub printed : text ≡ script_and_summary guards (made_plan seed ops) history

-- such a text is wanted
pub record WantsMade (guards : Bool) (seed ops : ℕ) (wanted : Wanted) : Type 0 where
  pub text : List ℕ
  pub is : IsMade guards seed ops text
  pub wants : wanted ≡ printed text

-- such a text is wanted, or nothing, for want of memory; and nothing is read
abbrev pub WantsMake : Bool → ℕ → ℕ → World → World → Wanted → Type 0
WantsMake guards seed ops before after wanted =
    (after.read_faults ≡ before.read_faults) × (WantsMade guards seed ops wanted ⊎ (wanted ≡ nothing))
