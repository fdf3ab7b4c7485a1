-- Reading from front to back, with the first fault that is met.
use Rattle.std.specs.Prelude.{◌≡◌, ℕ, ◌+◌, ◌-◌, Bool, List, length, take, drop, sum, Result, Ok, Err, nat_le, if◌then◌else◌}
use Rattle.case_table.specs.Record.{numbers_at}
use Rattle.core_format.specs.declared.fault.Fault.{Fault}
use Rattle.core_format.specs.declared.fault.Fault.TheVariants.{Short}
use Rattle.core_format.specs.declared.core_fault.CoreFault.{CoreFault}
use Rattle.core_format.specs.declared.core_fault.CoreFault.TheVariants.{Bad, NoMemory}

-- the bytes of a file, and where in them reading stands
pub record Reader : Type 0 where
  pub bytes : List ℕ
  pub at : ℕ

-- a broken rule, and where in the file
pub record Flaw : Type 0 where
  pub offset : ℕ
  pub fault : Fault

-- one step after the other, up to the first flaw
infixl 10 ◌>>=◌
abbrev pub ◌>>=◌ : {A B : Type 0} → Result A Flaw → (A → Result B Flaw) → Result B Flaw
(Ok x) >>= next = next x
(Err flaw) >>= next = Err flaw

-- how many bytes are left
abbrev pub left : Reader → ℕ
left here = length here.bytes - here.at

-- so many bytes further on
abbrev pub further : ℕ → Reader → Reader
further count here = record { bytes = here.bytes; at = here.at + count }

-- a rule, and the fault of the field at that offset which breaks it
abbrev pub rule : Bool → ℕ → Fault → Result (Unit {0}) Flaw
rule holds offset fault = if holds then Ok tt else Err (record { offset = offset; fault = fault })

-- the bytes of a record of that length have to be there
abbrev pub room : ℕ → Reader → Result (Unit {0}) Flaw
room count here = rule (nat_le count (left here)) here.at Short

-- the numbers of a record, and the place behind it
abbrev pub record_at : List ℕ → Reader → Result (List ℕ × Reader) Flaw
record_at widths here = do
  _ ← room (sum widths) here
  Ok (numbers_at widths (drop here.at here.bytes), further (sum widths) here)

-- bytes as they stand, which are a record
abbrev pub bytes_at : ℕ → Reader → Result (List ℕ × Reader) Flaw
bytes_at count here = do
  _ ← room count here
  Ok (take count (drop here.at here.bytes), further count here)

-- the fault that was answered is the flaw that is met, unless memory ran out
abbrev pub IsToldBy : {Y : Type 0} → CoreFault → Result Y Flaw → Type 0
IsToldBy (Bad offset fault) read = read ≡ Err (record { offset = offset; fault = fault })
IsToldBy NoMemory read = Unit {0}

-- what was answered is seen as what is read, or is its flaw
abbrev pub ReadsAs : {X Y : Type 0} → (X → Y) → Result X CoreFault → Result Y Flaw → Type 0
ReadsAs view (Ok x) read = read ≡ Ok (view x)
ReadsAs view (Err e) read = IsToldBy e read
