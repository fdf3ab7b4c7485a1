-- What a call of the program gives out.
use Rattle.std.specs.Prelude.{◌≡◌, ℕ, ◌⊎◌, ◌≤◌, if◌then◌else◌, List, [], ◌∷◌, length, nat_lt, Option, Some, None, Ok}
use Rattle.std.specs.List.{list_any}
use Rattle.umem_base.specs.Folder.{bytes_of}
use Rattle.umem_base.specs.Lines.{lines_of}
use Rattle.core_format.specs.declared.whole.Core.{Core}
use Rattle.core_format.specs.Cores.{core_of}
use Rattle.umem_options.specs.Flags.{has_guards}
use Rattle.script.specs.Grammar.{script_of}
use Rattle.script.specs.Plan.{Plan}
use Rattle.core_sizes.specs.declared.limits.TheConstants.{MOST_CORE_BYTES}
use Rattle.umem_cli.specs.declared.limits.TheConstants.{MOST_COMMAND_BYTES}
use Rattle.umem_cli.specs.declared.status.Status.{Status}
use Rattle.umem_cli.specs.declared.status.Status.TheVariants.{Done, NoMemory, Refused, Usage}
use Rattle.umem_cli.specs.Asked.{Task, make, mdb, none, run, task_of}
use Rattle.umem_cli.specs.Messages.{usage_text}
use Rattle.umem_cli.specs.Pieces.{GivesOut, Wanted, for_err, nothing}
use Rattle.umem_cli.specs.Made.{WantsMake}
use Rattle.umem_cli.specs.Transcripts.{WantsRun}
use Rattle.umem_cli.specs.Sessions.{WantsMdb, answered, is_refused}
use Rattle.umem_cli.specs.World.{HasNoFault, KeepsInput, World, outputs_of}

-- the usage lines
abbrev pub usage : Wanted
usage = record { pieces = for_err usage_text ∷ []; status = Usage }

-- nothing is read, and the usage lines are wanted
pub record WantsUsage (before after : World) (wanted : Wanted) : Type 0 where
  pub input : KeepsInput before after
  pub reads : after.read_faults ≡ before.read_faults
  pub wants : wanted ≡ usage

-- there is no memory for the words: nothing is read, and nothing is wanted
pub record WantsNothing (before after : World) (wanted : Wanted) : Type 0 where
  pub input : KeepsInput before after
  pub reads : after.read_faults ≡ before.read_faults
  pub wants : wanted ≡ nothing

-- what may be wanted where the words were read
abbrev pub WantsTask : Task → World → World → Wanted → Type 0
WantsTask (run job) before after wanted = KeepsInput before after × WantsRun job before after wanted
WantsTask (mdb name) before after wanted = WantsMdb name before after wanted
WantsTask (make seed ops options) before after wanted =
    KeepsInput before after × WantsMake (has_guards options) seed ops before after wanted
WantsTask none before after wanted = WantsUsage before after wanted

-- what may be wanted for what is asked
abbrev pub IsWanted : Task → World → World → Wanted → Type 0
IsWanted task before after wanted = WantsTask task before after wanted ⊎ WantsNothing before after wanted

-- what the program gives out for its words
abbrev pub GivenOut : List (List ℕ) → World → World → Status → Type 0
GivenOut words before after status =
    GivesOut (IsWanted (task_of words) before after) (outputs_of before) (outputs_of after) status

-- ---- what a call may not leave out

-- a script is there
pub record IsScriptThere (name : List ℕ) (before : World) : Type 0 where
  pub bytes : List ℕ
  pub file : bytes_of before.files name ≡ Some bytes
  pub plan : Plan
  pub spelled : script_of bytes ≡ Ok plan

-- a core is there
pub record IsCoreThere (name : List ℕ) (before : World) : Type 0 where
  pub bytes : List ℕ
  pub file : bytes_of before.files name ≡ Some bytes
  pub short : length bytes ≤ MOST_CORE_BYTES
  pub core : Core
  pub is : core_of bytes ≡ Ok core

-- the status of commands: too many bytes are refused as a whole
abbrev pub commands_status : List ℕ → Status
commands_status commands =
    if nat_lt MOST_COMMAND_BYTES (length commands) then Refused else answered (list_any is_refused (lines_of commands))

-- the status of the input's commands, where it tells its bytes
abbrev pub IsStatusOf : Option (List ℕ) → Status → Type 0
IsStatusOf None status = (status ≡ Done) ⊎ (status ≡ Refused)
IsStatusOf (Some commands) status = status ≡ commands_status commands

-- Where no count rose, and the script or the core is there if one is needed, the call is done, or memory was short.
-- Words that ask for nothing are refused, or memory was short.
abbrev pub IsWholeOf : Task → World → World → Status → Type 0
IsWholeOf (run job) before after status =
    IsScriptThere job.file before → HasNoFault before after → (status ≡ Done) ⊎ (status ≡ NoMemory)
IsWholeOf (mdb name) before after status =
    IsCoreThere name before → HasNoFault before after → IsStatusOf before.input status ⊎ (status ≡ NoMemory)
IsWholeOf (make seed ops options) before after status =
    HasNoFault before after → (status ≡ Done) ⊎ (status ≡ NoMemory)
IsWholeOf none before after status = HasNoFault before after → (status ≡ Usage) ⊎ (status ≡ NoMemory)

-- the same for words
abbrev pub IsWhole : List (List ℕ) → World → World → Status → Type 0
IsWhole words before after status = IsWholeOf (task_of words) before after status

-- the file that may get a core
abbrev pub core_file : Task → Option (List ℕ)
core_file (run job) = job.core
core_file (mdb name) = None
core_file (make seed ops options) = None
core_file none = None
