-- Files of a folder in memory, as their lists of bytes.
use Rattle.std.specs.Prelude.{◌≤◌, ℕ, List, map, length, drop, Option, Some, None, MatchOption, ⊤}
use Rattle.std.specs.List.{slice_get}
use Rattle.umem_base.specs.Folder.{Activity, Idle, Reading, Writing}
use Rattle.umem_base.specs.MemFolder.{MemoryFile, IsFirstAt}
use Rattle.umem_base.specs.declared.memory.file.File.{File}
use Rattle.umem_base.specs.declared.memory.open.Open.{Open}
use Rattle.umem_base.specs.declared.memory.open.Open.TheVariants as open_file

-- a file as its name, its bytes and its room
abbrev pub file_of : File → MemoryFile
file_of file = record { name = file.name; bytes = file.bytes.items; room = file.room }

-- the same for each file
abbrev pub files_of : List File → List MemoryFile
files_of files = map file_of files

-- the file at a place is read, and its bytes up to another are gone
abbrev pub reading_at : Option MemoryFile → ℕ → Activity
reading_at None at = Idle
reading_at (Some file) at = Reading (Some (drop at file.bytes))

-- the file at a place is written
abbrev pub writing_to : Option MemoryFile → Activity
writing_to None = Idle
writing_to (Some file) = Writing (Some file.name)

-- what a folder does, by the place of its open file
abbrev pub activity_in : List MemoryFile → Open → Activity
activity_in files open_file.Nothing = Idle
activity_in files (open_file.Read file at) = reading_at (slice_get files file) at
activity_in files (open_file.Written file) = writing_to (slice_get files file)

-- the open file is there, and is the first one of its name
abbrev pub IsOpenFile : List MemoryFile → Open → Type 0
IsOpenFile files open_file.Nothing = ⊤
IsOpenFile files (open_file.Read file at) = MatchOption (slice_get files file) ⊥ (λ f. at ≤ length f.bytes)
IsOpenFile files (open_file.Written file) = MatchOption (slice_get files file) ⊥ (λ f. IsFirstAt files f.name file)
