-- What the readers of parts of a line give.
use Rattle.std.specs.Prelude.{◌≡◌, ℕ, List, Option, Some, None, Result, Ok, Err}
use Rattle.std.specs.Borrow.{Bor}
use Rattle.umem_base.specs.Lines.{words_of}
use Rattle.dcmd.specs.declared.fault.DcmdFault.{DcmdFault}
use Rattle.dcmd.specs.declared.name.Name.{Name}
use Rattle.dcmd.specs.Commands.{Named, parts_of}

-- the line is split at its first two colons, or has none
abbrev pub SplitsParts : Option (Bor (List ℕ) × Bor (List ℕ)) → List ℕ → Type 0
SplitsParts None line = parts_of line ≡ None
SplitsParts (Some parts) line = parts_of line ≡ Some (parts.0.now, parts.1.now)

-- the name that was read is the one, and the words of the bytes behind it are those behind the name
abbrev pub ReadsName : Result (Name × Bor (List ℕ)) DcmdFault → Result Named DcmdFault → Type 0
ReadsName (Ok read) named = named ≡ Ok (read.0, words_of read.1.now)
ReadsName (Err fault) named = named ≡ Err fault
