-- What a run wants to give out.
use Rattle.std.specs.Prelude.{◌≡◌, ℕ, ◌⊎◌, List, [], ◌∷◌, Option, Some, None, Ok, Err}
use Rattle.umem_base.specs.Faults.{Rose}
use Rattle.umem_base.specs.Folder.{Files, bytes_of, MayHave, MayLack, Sets}
use Rattle.umem_base.specs.Transfer.{Are}
use Rattle.script.specs.declared.reasons.Reason.{Reason}
use Rattle.script.specs.Grammar.{script_of}
use Rattle.script.specs.Plan.{Plan}
use Rattle.umem_cli.specs.declared.job.Job.{Job}
use Rattle.umem_cli.specs.declared.printed.CoreFile.{CoreFile}
use Rattle.umem_cli.specs.declared.printed.Printed.{Printed}
use Rattle.umem_cli.specs.declared.refusal.Refusal.{Refusal}
use Rattle.umem_cli.specs.declared.refusal.Refusal.TheVariants as refusal
use Rattle.umem_cli.specs.declared.status.Status.{Status}
use Rattle.umem_cli.specs.declared.status.Status.TheVariants.{Done}
use Rattle.umem_cli.specs.Histories.{IsPrintedOf}
use Rattle.umem_cli.specs.Pieces.{GivesOut, Piece, Wanted, for_file, for_out, refused}
use Rattle.umem_cli.specs.World.{World, outputs_of}

-- the file of the job is a script, and that is what a run of it gives out
pub record IsPrintedIn (job : Job) (files : Files) (printed : Printed) : Type 0 where
  pub file : MayHave files job.file
  pub bytes : List ℕ
  pub read : Are (bytes_of files job.file) bytes
  pub plan : Plan
  pub spelled : script_of bytes ≡ Ok plan
  pub is : IsPrintedOf job plan printed

-- the file is there, and that is the first bad line of its bytes, with its reason
pub record IsBadAt (files : Files) (name : List ℕ) (line : ℕ) (reason : Reason) : Type 0 where
  pub file : MayHave files name
  pub bytes : List ℕ
  pub read : Are (bytes_of files name) bytes
  pub bad : script_of bytes ≡ Err (line, reason)

-- why a script is not run, with the count of read faults before and after
abbrev pub IsRunCause : Files → List ℕ → ℕ → ℕ → Refusal → Type 0
IsRunCause files name before after (refusal.BadScript line reason) =
    IsBadAt files name line reason × (after ≡ before)
IsRunCause files name before after refusal.CoreTooLong = ⊥
IsRunCause files name before after (refusal.BadCore offset fault) = ⊥
IsRunCause files name before after refusal.NoFile = MayLack files name × (after ≡ before)
IsRunCause files name before after refusal.ReadFault = Rose before after
IsRunCause files name before after refusal.CommandsFault = ⊥
IsRunCause files name before after refusal.CommandsTooLong = ⊥
IsRunCause files name before after refusal.NoMemory = MayHave files name × (after ≡ before)

-- a text on the output
abbrev pub printed : List ℕ → Wanted
printed text = record { pieces = for_out text ∷ []; status = Done }

-- the file of a core, if there is one
abbrev pub core_pieces : Option CoreFile → List Piece
core_pieces None = []
core_pieces (Some file) = for_file file.name file.bytes.items ∷ []

-- the transcript on the output, and behind it the core, if there is one
abbrev pub with_core : Printed → Wanted
with_core its = record { pieces = for_out its.transcript ∷ core_pieces its.core; status = Done }

-- what a run of the script gives out is wanted
pub record WantsPrinted (job : Job) (before after : World) (wanted : Wanted) : Type 0 where
  pub its : Printed
  pub is : IsPrintedIn job before.files its
  pub reads : after.read_faults ≡ before.read_faults
  pub wants : wanted ≡ with_core its

-- the line of a refusal is wanted, for its cause
pub record WantsRunRefusal (name : List ℕ) (before after : World) (wanted : Wanted) : Type 0 where
  pub why : Refusal
  pub cause : IsRunCause before.files name before.read_faults after.read_faults why
  pub wants : wanted ≡ refused name why

-- what a run may want
abbrev pub WantsRun : Job → World → World → Wanted → Type 0
WantsRun job before after wanted =
    WantsPrinted job before after wanted ⊎ WantsRunRefusal job.file before after wanted

-- what a run gives out
abbrev pub GivenByRun : Job → World → World → Status → Type 0
GivenByRun job before after status =
    GivesOut (WantsRun job before after) (outputs_of before) (outputs_of after) status

-- no file but that of the core changes, and none where there is no core
abbrev pub KeepsOtherFiles : Option (List ℕ) → Files → Files → Type 0
KeepsOtherFiles None before after = after ≡ before
KeepsOtherFiles (Some name) before after =
    (after ≡ before) ⊎ ((bytes : List ℕ) × Sets before after name (Some bytes))

-- no write fails where there is no core
abbrev pub KeepsWriteFaults : Option (List ℕ) → ℕ → ℕ → Type 0
KeepsWriteFaults None before after = after ≡ before
KeepsWriteFaults (Some name) before after = (after ≡ before) ⊎ Rose before after
