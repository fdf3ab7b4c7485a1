-- What the steps of a call give.
use Rattle.std.specs.Prelude.{◌≡◌, ℕ, ◌≤◌, ◌⊎◌, Bool, List, length, Option, Result, Ok, Err}
use Rattle.std.specs.Global.{Vec}
use Rattle.std.specs.Io.KnownBytes.{IsAtEnd}
use Rattle.umem_base.specs.Folder.{Files}
use Rattle.umem_base.specs.Transfer.{Are}
use Rattle.umem_base.specs.declared.no_memory.NoMemory.{NoMemory as WantOfMemory}
use Rattle.core_format.specs.declared.whole.Core.{Core}
use Rattle.dcmd.specs.declared.dcmd.Dcmd.{Dcmd}
use Rattle.dcmd.specs.Answers.{IsAnswer}
use Rattle.umem_cli.specs.declared.limits.TheConstants.{MOST_COMMAND_BYTES}
use Rattle.umem_cli.specs.declared.job.Job.{Job}
use Rattle.umem_cli.specs.declared.printed.Printed.{Printed}
use Rattle.umem_cli.specs.declared.refusal.Refusal.{Refusal}
use Rattle.umem_cli.specs.declared.status.Status.{Status}
use Rattle.umem_cli.specs.declared.status.Status.TheVariants as status
use Rattle.umem_cli.specs.Made.{IsMade}
use Rattle.umem_cli.specs.Messages.{usage_text}
use Rattle.umem_cli.specs.Pieces.{DeliversPiece, Ends, FailsPiece, Piece}
use Rattle.umem_cli.specs.Sessions.{AnswersLine, IsCommand, IsCommandsCause, IsCoreCause, IsCoreIn, is_refused}
use Rattle.umem_cli.specs.Streams.{Outputs, Says, Stream, Takes, TakesFront}
use Rattle.umem_cli.specs.Transcripts.{IsPrintedIn, IsRunCause, with_core}
use Rattle.umem_cli.specs.Words.{AreText}

-- ---- a run

-- what a run of the script in the file gives out was made, or was not for a cause
abbrev pub MakesPrintedIn : Job → Files → ℕ → ℕ → Result Printed Refusal → Type 0
MakesPrintedIn job files before after (Ok printed) = IsPrintedIn job files printed × (after ≡ before)
MakesPrintedIn job files before after (Err why) = IsRunCause files job.file before after why

-- what a run gives out went to the output and the folder
abbrev pub GivesPrinted : Printed → Outputs → Outputs → Status → Type 0
GivesPrinted printed before after status = Ends before after (with_core printed) status

-- ---- a script that is drawn

-- such a text was written, or the output failed; or memory was short, and nothing was written
abbrev pub GivesMade : Bool → ℕ → ℕ → Stream → Stream → Status → Type 0
GivesMade guards seed ops before after result =
    ((text : List ℕ) × IsMade guards seed ops text × Says text status.Done before after result)
    ⊎ ((result ≡ status.NoMemory) × (after ≡ before))

-- ---- commands over a core

-- the core in the file was read, or was not for a cause
abbrev pub ReadsCore : Files → List ℕ → ℕ → ℕ → Result Core Refusal → Type 0
ReadsCore files name before after (Ok core) = IsCoreIn files name core × (after ≡ before)
ReadsCore files name before after (Err why) = IsCoreCause files name before after why

-- all commands were read of the input, or were not for a cause
abbrev pub ReadsCommands : Option (List ℕ) → Option (List ℕ) → ℕ → ℕ → Result (Vec ℕ) Refusal → Type 0
ReadsCommands input input_after before after (Ok commands) =
    Are input commands.items × (length commands.items ≤ MOST_COMMAND_BYTES) × (after ≡ before) × IsAtEnd input_after
ReadsCommands input input_after before after (Err why) = IsCommandsCause input input_after before after why

-- an answer to the command went so to the output
abbrev pub TellsAnswerSo : Core → Dcmd → (List ℕ → Type 0) → Type 0
TellsAnswerSo core dcmd Goes = (text : List ℕ) × IsAnswer core dcmd text × Goes text

-- the answer to the command was written, or was not for want of memory, or the output failed
abbrev pub EndsAnswer : Core → Dcmd → Stream → Stream → Result (Unit {0}) Status → Type 0
EndsAnswer core dcmd before after (Ok done) = TellsAnswerSo core dcmd (Takes before after)
EndsAnswer core dcmd before after (Err end) =
    ((end ≡ status.NoMemory) × (after ≡ before))
    ⊎ ((end ≡ status.WriteFault) × TellsAnswerSo core dcmd (TakesFront before after))

-- what is wanted for the line went so to the streams
abbrev pub AnswersSo : Core → ℕ → List ℕ → (Piece → Type 0) → Type 0
AnswersSo core number line Goes = (piece : Piece) × AnswersLine core number line piece × Goes piece

-- what is wanted for the line was written; or it is a command, and memory was short for its answer; or a stream failed
abbrev pub EndsLine : Core → ℕ → List ℕ → Outputs → Outputs → Result Bool Status → Type 0
EndsLine core number line before after (Ok refuses) =
    AnswersSo core number line (DeliversPiece before after) × (refuses ≡ is_refused line)
EndsLine core number line before after (Err end) =
    ((end ≡ status.NoMemory) × IsCommand line × (after ≡ before))
    ⊎ ((end ≡ status.WriteFault) × AnswersSo core number line (FailsPiece before after))

-- ---- words

-- the usage lines were written, or failed
abbrev pub SaysUsage : Stream → Stream → Status → Type 0
SaysUsage before after result = Says usage_text status.Usage before after result

-- the words are the arguments, which are all text
abbrev pub AreWordsOf : Result (Vec (List ℕ)) WantOfMemory → List (List ℕ) → Type 0
AreWordsOf (Ok arguments) words = AreText arguments.items × (words ≡ arguments.items)
AreWordsOf (Err short) words = ⊥

-- the arguments are no words: one is no text, and the usage lines are written; or memory was short, and nothing is
abbrev pub RefusesArguments : Result (Vec (List ℕ)) WantOfMemory → Stream → Stream → Status → Type 0
RefusesArguments (Ok arguments) before after result =
    (¬ AreText arguments.items × SaysUsage before after result)
    ⊎ (AreText arguments.items × (result ≡ status.NoMemory) × (after ≡ before))
RefusesArguments (Err short) before after result = (result ≡ status.NoMemory) × (after ≡ before)
