-- What a call wants to give out, and how it is given out.
use Rattle.std.specs.Prelude.{◌≡◌, ℕ, ◌<◌, ◌⊎◌, List, [], ◌∷◌, Some, length, take}
use Rattle.umem_base.specs.Faults.{Rose}
use Rattle.umem_base.specs.Folder.{Sets}
use Rattle.umem_cli.specs.declared.refusal.Refusal.{Refusal}
use Rattle.umem_cli.specs.declared.status.Status.{Status}
use Rattle.umem_cli.specs.declared.status.Status.TheVariants.{NoMemory, WriteFault}
use Rattle.umem_cli.specs.Messages.{message_text}
use Rattle.umem_cli.specs.Refusal.{status_of}
use Rattle.umem_cli.specs.Streams.{Outputs, Store, Takes, TakesFront}

-- bytes for the output or for the error stream, of which nothing is written where there are none; or a file that is
-- created with bytes
pub data Piece : Type 0 where
  for_out : (bytes : List ℕ) → Piece
  for_err : (bytes : List ℕ) → Piece
  for_file : (name bytes : List ℕ) → Piece

-- pieces in their order, and the status behind them
pub record Wanted : Type 0 where
  pub pieces : List Piece
  pub status : Status

-- nothing is wanted, for want of memory
abbrev pub nothing : Wanted
nothing = record { pieces = []; status = NoMemory }

-- what is wanted at a refusal, for the file of that name
abbrev pub refused : List ℕ → Refusal → Wanted
refused name why = record { pieces = for_err (message_text name why) ∷ []; status = status_of why }

-- the file was created with these bytes, no other file changed, and no write failed
abbrev pub Creates : Store → Store → List ℕ → List ℕ → Type 0
Creates before after name bytes =
    Sets before.files after.files name (Some bytes) × (after.faults ≡ before.faults)

-- the file was not created, or has a front of these bytes that is not the whole, and no other file changed
abbrev pub LeavesFront : Store → Store → List ℕ → List ℕ → Type 0
LeavesFront before after name bytes =
    (after.files ≡ before.files)
    ⊎ ((n : ℕ) × (n < length bytes) × Sets before.files after.files name (Some (take n bytes)))

-- the same, and the creation or a write failed
abbrev pub CreatesFront : Store → Store → List ℕ → List ℕ → Type 0
CreatesFront before after name bytes = LeavesFront before after name bytes × Rose before.faults after.faults

-- a piece was taken whole by what it is for, and nothing by the others
abbrev pub DeliversPiece : Outputs → Outputs → Piece → Type 0
DeliversPiece before after (for_out bytes) =
    Takes before.out after.out bytes × (after.err ≡ before.err) × (after.store ≡ before.store)
DeliversPiece before after (for_err bytes) =
    (after.out ≡ before.out) × Takes before.err after.err bytes × (after.store ≡ before.store)
DeliversPiece before after (for_file name bytes) =
    (after.out ≡ before.out) × (after.err ≡ before.err) × Creates before.store after.store name bytes

-- what a piece is for took a front of it and failed, and the others took nothing
abbrev pub FailsPiece : Outputs → Outputs → Piece → Type 0
FailsPiece before after (for_out bytes) =
    TakesFront before.out after.out bytes × (after.err ≡ before.err) × (after.store ≡ before.store)
FailsPiece before after (for_err bytes) =
    (after.out ≡ before.out) × TakesFront before.err after.err bytes × (after.store ≡ before.store)
FailsPiece before after (for_file name bytes) =
    (after.out ≡ before.out) × (after.err ≡ before.err) × CreatesFront before.store after.store name bytes

-- all pieces were taken, one after the other
abbrev pub Delivers : Outputs → Outputs → List Piece → Type 0
Delivers before after [] = after ≡ before
Delivers before after (piece ∷ pieces) =
    (between : Outputs) × DeliversPiece before between piece × Delivers between after pieces

-- the pieces before one were taken, and that one failed
abbrev pub FailsAt : Outputs → Outputs → List Piece → Type 0
FailsAt before after [] = ⊥
FailsAt before after (piece ∷ pieces) =
    FailsPiece before after piece
    ⊎ ((between : Outputs) × DeliversPiece before between piece × FailsAt between after pieces)

-- what is wanted was given out, with its status; or a write failed
abbrev pub Ends : Outputs → Outputs → Wanted → Status → Type 0
Ends before after wanted status =
    ((status ≡ wanted.status) × Delivers before after wanted.pieces)
    ⊎ ((status ≡ WriteFault) × FailsAt before after wanted.pieces)

-- something was given out that may be wanted
abbrev pub GivesOut : (Wanted → Type 0) → Outputs → Outputs → Status → Type 0
GivesOut IsWanted before after status = (wanted : Wanted) × IsWanted wanted × Ends before after wanted status
