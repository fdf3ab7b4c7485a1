-- A folder in memory.
use Rattle.std.specs.Prelude.{◌≡◌, ℕ, zero, suc, ◌-◌, Bool, true, false, List, [], ◌∷◌, ◌++◌, length, drop, min, Option, Some, None, unwrap_or, ◌||◌, not, slice_set, nat_lt, if◌then◌else◌}
use Rattle.std.specs.List.{slice_get}
use Rattle.std.specs.Option.{option_map, is_some}
use Rattle.std.specs.Str.{bytes_eq}
use Rattle.umem_base.specs.FaultPlan.{FaultPlan, fails_next}
use Rattle.umem_base.specs.Folder.{Activity, Idle, Reading, Writing}

-- a file: its bytes, and how many there is room for after it is created
pub record MemoryFile : Type 0 where
  pub name : List ℕ
  pub bytes : List ℕ
  pub room : ℕ

-- the first file of that name
abbrev pub file_named : List MemoryFile → List ℕ → Option MemoryFile
file_named [] name = None
file_named (file ∷ files) name = if bytes_eq file.name name then Some file else file_named files name

-- the place of the first file of that name
abbrev pub IsFirstAt : List MemoryFile → List ℕ → ℕ → Type 0
IsFirstAt [] name i = ⊥
IsFirstAt (file ∷ files) name zero = bytes_eq file.name name ≡ true
IsFirstAt (file ∷ files) name (suc i) = (bytes_eq file.name name ≡ false) × IsFirstAt files name i

-- the file with other bytes
abbrev pub with_new_bytes : MemoryFile → List ℕ → MemoryFile
with_new_bytes file bytes = record { name = file.name; bytes = bytes; room = file.room }

-- the files with the first one of that name, if there is one, given these bytes
abbrev pub with_file_bytes : List MemoryFile → List ℕ → List ℕ → List MemoryFile
with_file_bytes [] name bytes = []
with_file_bytes (file ∷ files) name bytes =
    if bytes_eq file.name name then with_new_bytes file bytes ∷ files
    else file ∷ with_file_bytes files name bytes

-- the bytes under each name
abbrev pub contents : List MemoryFile → List ℕ → Option (List ℕ)
contents files name = option_map (λ (file : MemoryFile). file.bytes) (file_named files name)

-- the file at a place, where there is one, has its bytes changed so
abbrev pub ChangesAt : List MemoryFile → List MemoryFile → ℕ → (List ℕ → List ℕ) → Type 0
ChangesAt old new i change =
    (file : MemoryFile) → slice_get old i ≡ Some file → new ≡ slice_set old i (with_new_bytes file (change file.bytes))

-- how many more bytes a file has room for
abbrev pub spare_of : Option MemoryFile → ℕ
spare_of None = 0
spare_of (Some file) = file.room - length file.bytes

-- whether the file at a place has room for so many bytes more
abbrev pub HasRoomAt : List MemoryFile → ℕ → ℕ → Bool → Type 0
HasRoomAt files place count fits =
    (file : MemoryFile) → slice_get files place ≡ Some file → fits ≡ not (nat_lt (spare_of (Some file)) count)

-- the files, the newest first, what the folder does, which calls fail, and how many of each kind have
pub record MemFolder : Type 0 where
  pub files : List MemoryFile
  pub activity : Activity
  pub plan : FaultPlan
  pub read_faults : ℕ
  pub write_faults : ℕ

-- a creation fails where it is planned to, and where the name was never put
abbrev pub create_fails : MemFolder → List ℕ → Bool
create_fails folder name = fails_next folder.plan || not (is_some (file_named folder.files name))

-- how many bytes there is still room for in the file that is written
abbrev pub room_left : List MemoryFile → Activity → ℕ
room_left files Idle = 0
room_left files (Reading left) = 0
room_left files (Writing None) = 0
room_left files (Writing (Some name)) = spare_of (file_named files name)

-- the files with bytes appended to the one that is written; its room is as before
abbrev pub with_appended : List MemoryFile → Activity → List ℕ → List MemoryFile
with_appended files Idle bytes = files
with_appended files (Reading left) bytes = files
with_appended files (Writing None) bytes = files
with_appended files (Writing (Some name)) bytes =
    with_file_bytes files name (unwrap_or (contents files name) [] ++ bytes)

-- a write to a file fails where it is planned to, and where there is no room for all of it
abbrev pub append_fails : MemFolder → List ℕ → Bool
append_fails folder bytes = fails_next folder.plan || nat_lt (room_left folder.files folder.activity) (length bytes)

-- what a folder does after a read into so much room: as many bytes as are left and fit are gone
abbrev pub read_on : Activity → ℕ → Activity
read_on Idle room = Idle
read_on (Reading None) room = Reading None
read_on (Reading (Some left)) room = Reading (Some (drop (min room (length left)) left))
read_on (Writing name) room = Writing name

-- the same where the read may be planned to fail, which changes nothing
abbrev pub activity_after_read : MemFolder → ℕ → Activity
activity_after_read folder room = if fails_next folder.plan then folder.activity else read_on folder.activity room
