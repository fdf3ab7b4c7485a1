-- What commands over a core want to give out.
use Rattle.std.specs.Prelude.{◌≡◌, ℕ, suc, ◌≤◌, ◌⊎◌, ⊤, Bool, false, if◌then◌else◌, List, [], ◌∷◌, ◌++◌, length, Option, Result, Ok, Err}
use Rattle.std.specs.Io.KnownBytes.{IsAtEnd}
use Rattle.std.specs.List.{list_any}
use Rattle.std.specs.Result.{is_err}
use Rattle.umem_base.specs.Faults.{Rose}
use Rattle.umem_base.specs.Folder.{Files, bytes_of, MayHave, MayLack}
use Rattle.umem_base.specs.Lines.{lines_of, words_of}
use Rattle.umem_base.specs.Transfer.{Are, ConsumesPast, ConsumesSome, Exceed}
use Rattle.core_format.specs.declared.fault.Fault.{Fault}
use Rattle.core_format.specs.declared.whole.Core.{Core}
use Rattle.core_format.specs.Cores.{core_of}
use Rattle.dcmd.specs.declared.dcmd.Dcmd.{Dcmd}
use Rattle.dcmd.specs.declared.fault.DcmdFault.{DcmdFault}
use Rattle.dcmd.specs.Answers.{IsAnswer}
use Rattle.dcmd.specs.Commands.{command_of}
use Rattle.core_sizes.specs.declared.limits.TheConstants.{MOST_CORE_BYTES}
use Rattle.umem_cli.specs.declared.limits.TheConstants.{MOST_COMMAND_BYTES}
use Rattle.umem_cli.specs.declared.refusal.Refusal.{Refusal}
use Rattle.umem_cli.specs.declared.refusal.Refusal.TheVariants as refusal
use Rattle.umem_cli.specs.declared.status.Status.{Status}
use Rattle.umem_cli.specs.declared.status.Status.TheVariants.{Done, NoMemory, Refused}
use Rattle.umem_cli.specs.Messages.{line_message}
use Rattle.umem_cli.specs.Pieces.{GivesOut, Piece, Wanted, for_err, for_out, refused}
use Rattle.umem_cli.specs.World.{KeepsInput, World, outputs_of}

-- ---- the core

-- the file is there, within its limit, and its bytes are the core
pub record IsCoreIn (files : Files) (name : List ℕ) (core : Core) : Type 0 where
  pub file : MayHave files name
  pub bytes : List ℕ
  pub read : Are (bytes_of files name) bytes
  pub short : length bytes ≤ MOST_CORE_BYTES
  pub is : core_of bytes ≡ Ok core

-- the file is there, within its limit, and that is the first rule that its bytes break, and where
pub record IsBadCoreIn (files : Files) (name : List ℕ) (offset : ℕ) (fault : Fault) : Type 0 where
  pub file : MayHave files name
  pub bytes : List ℕ
  pub read : Are (bytes_of files name) bytes
  pub short : length bytes ≤ MOST_CORE_BYTES
  pub bad : core_of bytes ≡ Err (record { offset = offset; fault = fault })

-- why there is no core, with the count of read faults before and after
abbrev pub IsCoreCause : Files → List ℕ → ℕ → ℕ → Refusal → Type 0
IsCoreCause files name before after (refusal.BadScript line reason) = ⊥
IsCoreCause files name before after refusal.CoreTooLong =
    MayHave files name × Exceed (bytes_of files name) MOST_CORE_BYTES × (after ≡ before)
IsCoreCause files name before after (refusal.BadCore offset fault) =
    IsBadCoreIn files name offset fault × (after ≡ before)
IsCoreCause files name before after refusal.NoFile = MayLack files name × (after ≡ before)
IsCoreCause files name before after refusal.ReadFault = Rose before after
IsCoreCause files name before after refusal.CommandsFault = ⊥
IsCoreCause files name before after refusal.CommandsTooLong = ⊥
IsCoreCause files name before after refusal.NoMemory = MayHave files name × (after ≡ before)

-- ---- the commands

-- why there are no commands, with what is left of the input, and its count of faults, before and after
abbrev pub IsCommandsCause : Option (List ℕ) → Option (List ℕ) → ℕ → ℕ → Refusal → Type 0
IsCommandsCause input input_after before after (refusal.BadScript line reason) = ⊥
IsCommandsCause input input_after before after refusal.CoreTooLong = ⊥
IsCommandsCause input input_after before after (refusal.BadCore offset fault) = ⊥
IsCommandsCause input input_after before after refusal.NoFile = ⊥
IsCommandsCause input input_after before after refusal.ReadFault = ⊥
IsCommandsCause input input_after before after refusal.CommandsFault =
    Rose before after × ConsumesSome input MOST_COMMAND_BYTES input_after
IsCommandsCause input input_after before after refusal.CommandsTooLong =
    Exceed input MOST_COMMAND_BYTES × (after ≡ before) × ConsumesPast input MOST_COMMAND_BYTES input_after
IsCommandsCause input input_after before after refusal.NoMemory =
    (after ≡ before) × ConsumesSome input MOST_COMMAND_BYTES input_after

-- the answer to a command, or the line of one that is refused, by its number
abbrev pub AnswersCommand : Core → ℕ → Result Dcmd DcmdFault → Piece → Type 0
AnswersCommand core number (Ok dcmd) piece =
    (text : List ℕ) × IsAnswer core dcmd text × (piece ≡ for_out text)
AnswersCommand core number (Err fault) piece = piece ≡ for_err (line_message number fault)

-- a line without a word is skipped
abbrev pub AnswersWords : Core → ℕ → List (List ℕ) → Result Dcmd DcmdFault → Piece → Type 0
AnswersWords core number [] command piece = piece ≡ for_out []
AnswersWords core number (word ∷ words) command piece = AnswersCommand core number command piece

-- what is written for a line
abbrev pub AnswersLine : Core → ℕ → List ℕ → Piece → Type 0
AnswersLine core number line piece = AnswersWords core number (words_of line) (command_of line) piece

-- a piece for each line, of which the first has this number
abbrev pub AnswersLines : Core → ℕ → List (List ℕ) → List Piece → Type 0
AnswersLines core number [] [] = ⊤
AnswersLines core number [] (piece ∷ pieces) = ⊥
AnswersLines core number (line ∷ lines) [] = ⊥
AnswersLines core number (line ∷ lines) (piece ∷ pieces) =
    AnswersLine core number line piece × AnswersLines core (suc number) lines pieces

-- a line that is not skipped is refused where it is no command
abbrev pub refuses_words : List (List ℕ) → Result Dcmd DcmdFault → Bool
refuses_words [] command = false
refuses_words (word ∷ words) command = is_err command

-- the line is refused
abbrev pub is_refused : List ℕ → Bool
is_refused line = refuses_words (words_of line) (command_of line)

-- the line is a command
abbrev pub IsCommand : List ℕ → Type 0
IsCommand line = (dcmd : Dcmd) × (command_of line ≡ Ok dcmd)

-- the status behind the answers to lines
abbrev pub answered : Bool → Status
answered refuses = if refuses then Refused else Done

-- the answers to all lines are wanted
pub record WantsAnswers (core : Core) (lines : List (List ℕ)) (wanted : Wanted) : Type 0 where
  pub pieces : AnswersLines core 1 lines wanted.pieces
  pub status : wanted.status ≡ answered (list_any is_refused lines)

-- those to the first lines are wanted, and then there is no memory
pub record WantsFirstAnswers (core : Core) (lines : List (List ℕ)) (wanted : Wanted) : Type 0 where
  pub first : List (List ℕ)
  pub more : List (List ℕ)
  pub whole : lines ≡ first ++ more
  pub pieces : AnswersLines core 1 first wanted.pieces
  pub status : wanted.status ≡ NoMemory

-- what lines of commands may want
abbrev pub IsAnswered : Core → List (List ℕ) → Wanted → Type 0
IsAnswered core lines wanted = WantsAnswers core lines wanted ⊎ WantsFirstAnswers core lines wanted

-- ---- a session

-- there is no core: the line of a refusal is wanted, for its cause, and nothing is read of the input
pub record WantsCoreRefusal (name : List ℕ) (before after : World) (wanted : Wanted) : Type 0 where
  pub why : Refusal
  pub cause : IsCoreCause before.files name before.read_faults after.read_faults why
  pub input : KeepsInput before after
  pub wants : wanted ≡ refused name why

-- there is a core, and there are no commands: the line of a refusal is wanted, for its cause
pub record WantsCommandsRefusal (name : List ℕ) (before after : World) (wanted : Wanted) : Type 0 where
  pub core : Core
  pub is : IsCoreIn before.files name core
  pub reads : after.read_faults ≡ before.read_faults
  pub why : Refusal
  pub cause : IsCommandsCause before.input after.input before.input_faults after.input_faults why
  pub wants : wanted ≡ refused name why

-- there is a core, and all of the input is commands: their answers are wanted
pub record WantsSession (name : List ℕ) (before after : World) (wanted : Wanted) : Type 0 where
  pub core : Core
  pub is : IsCoreIn before.files name core
  pub reads : after.read_faults ≡ before.read_faults
  pub commands : List ℕ
  pub read : Are before.input commands
  pub short : length commands ≤ MOST_COMMAND_BYTES
  pub input_faults : after.input_faults ≡ before.input_faults
  pub input : IsAtEnd after.input
  pub wants : IsAnswered core (lines_of commands) wanted

-- what commands over the core in the file of that name may want
abbrev pub WantsMdb : List ℕ → World → World → Wanted → Type 0
WantsMdb name before after wanted =
    WantsCoreRefusal name before after wanted
    ⊎ (WantsCommandsRefusal name before after wanted ⊎ WantsSession name before after wanted)

-- what commands over the core in the file of that name give out
abbrev pub GivenByMdb : List ℕ → World → World → Status → Type 0
GivenByMdb name before after status =
    GivesOut (WantsMdb name before after) (outputs_of before) (outputs_of after) status
