-- What reading all bytes, reading and writing a whole file, and writing a whole piece give.
use Rattle.std.specs.Prelude.{◌≡◌, ℕ, ◌<◌, ◌≤◌, ◌⊎◌, List, length, take, Option, Some, None, Result, Ok, Err, ⊤}
use Rattle.std.specs.Global.{Vec}
use Rattle.std.specs.Io.KnownBytes.{Appends, Consumes, IsAtEnd}
use Rattle.umem_base.specs.Faults.{Rose}
use Rattle.umem_base.specs.Folder.{Files, Activity, Writing, IsReading, IsWriting, MayHave, MayLack, Sets, bytes_of, left_of}
use Rattle.umem_base.specs.declared.read_all_error.ReadAll.{ReadAll}
use Rattle.umem_base.specs.declared.read_all_error.ReadAll.TheVariants as all
use Rattle.umem_base.specs.declared.read_file_error.ReadFile.{ReadFile}
use Rattle.umem_base.specs.declared.read_file_error.ReadFile.TheVariants.{Missing, ReadFault, TooLong, NoMemory}
use Rattle.umem_base.specs.declared.write_file_error.WriteFile.{WriteFile}
use Rattle.umem_base.specs.declared.write_file_error.WriteFile.TheVariants.{NotCreated, NotWritten}

-- known bytes are these
abbrev pub Are : Option (List ℕ) → List ℕ → Type 0
Are None bytes = ⊤
Are (Some known) bytes = known ≡ bytes

-- known bytes are more than the limit
abbrev pub Exceed : Option (List ℕ) → ℕ → Type 0
Exceed None limit = ⊤
Exceed (Some known) limit = limit < length known

-- What the bytes left give, if they are no more than the limit. No clause says why a device failed or
-- memory ran out: the count of faults tells of the one, and nothing of the other.
abbrev pub ReadsAll : Option (List ℕ) → ℕ → Result (Vec ℕ) ReadAll → Type 0
ReadsAll left limit (Ok bytes) = Are left bytes.items × (length bytes.items ≤ limit)
ReadsAll left limit (Err all.ReadFault) = ⊤
ReadsAll left limit (Err all.TooLong) = Exceed left limit
ReadsAll left limit (Err all.NoMemory) = ⊤

-- the refusal of a file that is there, for that of its bytes
abbrev pub file_refusal : ReadAll → ReadFile
file_refusal all.ReadFault = ReadFault
file_refusal all.TooLong = TooLong
file_refusal all.NoMemory = NoMemory

-- The answer for the file of that name: that it is missing exactly where it is, and else that of its bytes.
abbrev pub ReadsFile : Files → List ℕ → ℕ → Result (Vec ℕ) ReadFile → Type 0
ReadsFile files name limit (Ok bytes) = MayHave files name × ReadsAll (bytes_of files name) limit (Ok bytes)
ReadsFile files name limit (Err Missing) = MayLack files name
ReadsFile files name limit (Err ReadFault) = ⊤
ReadsFile files name limit (Err TooLong) = MayHave files name × ReadsAll (bytes_of files name) limit (Err all.TooLong)
ReadsFile files name limit (Err NoMemory) = MayHave files name

-- the count of read faults rose exactly where the answer is a fault
abbrev pub CountsReadFault : {T : Type 0} → ℕ → ℕ → Result T ReadFile → Type 0
CountsReadFault before now (Ok x) = now ≡ before
CountsReadFault before now (Err Missing) = now ≡ before
CountsReadFault before now (Err ReadFault) = Rose before now
CountsReadFault before now (Err TooLong) = now ≡ before
CountsReadFault before now (Err NoMemory) = now ≡ before

-- the count of a source's faults, by the same rule
abbrev pub CountsFault : {T : Type 0} → ℕ → ℕ → Result T ReadAll → Type 0
CountsFault before now (Ok x) = now ≡ before
CountsFault before now (Err fault) = CountsReadFault {T = Unit {0}} before now (Err (file_refusal fault))

-- some bytes came, no more than the limit
abbrev pub ConsumesSome : Option (List ℕ) → ℕ → Option (List ℕ) → Type 0
ConsumesSome left limit after = (came : List ℕ) × (length came ≤ limit) × Consumes left after came

-- more bytes came than the limit
abbrev pub ConsumesPast : Option (List ℕ) → ℕ → Option (List ℕ) → Type 0
ConsumesPast left limit after = (came : List ℕ) × (limit < length came) × Consumes left after came

-- What is left behind the bytes that came: nothing after all of them. No more than the limit came before a fault and
-- before memory ran out, and more than it where they are too many.
abbrev pub LeavesBehind : Option (List ℕ) → ℕ → Option (List ℕ) → Result (Vec ℕ) ReadAll → Type 0
LeavesBehind left limit after (Ok bytes) = IsAtEnd after
LeavesBehind left limit after (Err all.ReadFault) = ConsumesSome left limit after
LeavesBehind left limit after (Err all.TooLong) = ConsumesPast left limit after
LeavesBehind left limit after (Err all.NoMemory) = ConsumesSome left limit after

-- the folder goes on reading behind the bytes that came
abbrev pub LeavesReading : Option (List ℕ) → ℕ → Activity → Result (Vec ℕ) ReadAll → Type 0
LeavesReading left limit after result = IsReading after × LeavesBehind left limit (left_of after) result

-- The folder reads on, but a fault may also come at the opening, which changes nothing.
abbrev pub LeavesActivity : Option (List ℕ) → ℕ → Activity → Activity → Result (Vec ℕ) ReadFile → Type 0
LeavesActivity left limit before after (Ok bytes) = LeavesReading left limit after (Ok bytes)
LeavesActivity left limit before after (Err Missing) = after ≡ before
LeavesActivity left limit before after (Err ReadFault) =
    (after ≡ before) ⊎ LeavesReading left limit after (Err all.ReadFault)
LeavesActivity left limit before after (Err TooLong) = LeavesReading left limit after (Err all.TooLong)
LeavesActivity left limit before after (Err NoMemory) = LeavesReading left limit after (Err all.NoMemory)

-- a whole piece was taken, or at a fault a front of it
abbrev pub WritesWhole : {E : Type 0} → Option (List ℕ) → Option (List ℕ) → List ℕ → Result (Unit {0}) E → Type 0
WritesWhole before after bytes (Ok x) = Appends before after bytes
WritesWhole before after bytes (Err e) = (n : ℕ) × (n < length bytes) × Appends before after (take n bytes)

-- The file has all of the bytes. Where it was not created all files are as before, and where a write failed it has a
-- front of the bytes, which is not the whole.
abbrev pub WritesFile : Files → Files → List ℕ → List ℕ → Result (Unit {0}) WriteFile → Type 0
WritesFile before after name bytes (Ok x) = Sets before after name (Some bytes)
WritesFile before after name bytes (Err NotCreated) = after ≡ before
WritesFile before after name bytes (Err NotWritten) =
    (n : ℕ) × (n < length bytes) × Sets before after name (Some (take n bytes))

-- it writes a file, and that of this name where the folder told its files before
abbrev pub IsWritingTo : Files → List ℕ → Activity → Type 0
IsWritingTo None name activity = IsWriting activity
IsWritingTo (Some files) name activity = activity ≡ Writing (Some name)

-- the folder goes on writing the file, unless it was not created
abbrev pub LeavesWriting : Files → List ℕ → Activity → Activity → Result (Unit {0}) WriteFile → Type 0
LeavesWriting files name before after (Ok x) = IsWritingTo files name after
LeavesWriting files name before after (Err NotCreated) = after ≡ before
LeavesWriting files name before after (Err NotWritten) = IsWritingTo files name after
