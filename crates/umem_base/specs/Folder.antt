-- What a folder holds and does. A folder that tells nothing of content has `None` for its files, and for
-- what is left of the file that it reads and for the name of the one that it writes.
use Rattle.std.specs.Prelude.{◌≡◌, ◌≢◌, ℕ, List, ◌++◌, Option, Some, None, Result, MatchResult, IsSome, ⊤, Bool, true, false}
use Rattle.std.specs.Option.{option_map}
use Rattle.std.specs.Io.KnownBytes.{ReadConsumes}

-- the bytes under each name that is there
abbrev pub Files : Type 0
Files = Option (List ℕ → Option (List ℕ))

-- it is idle, or reads a file with these bytes left, or writes the file of this name
pub data Activity : Type 0 where
  Idle : Activity
  Reading : (left : Option (List ℕ)) → Activity
  Writing : (name : Option (List ℕ)) → Activity

-- it reads a file
abbrev pub IsReading : Activity → Type 0
IsReading Idle = ⊥
IsReading (Reading left) = ⊤
IsReading (Writing name) = ⊥

-- it writes a file
abbrev pub IsWriting : Activity → Type 0
IsWriting Idle = ⊥
IsWriting (Reading left) = ⊥
IsWriting (Writing name) = ⊤

-- the bytes under a name, where they are told and there is such a file
abbrev pub bytes_of : Files → List ℕ → Option (List ℕ)
bytes_of None name = None
bytes_of (Some files) name = files name

-- where it is told, there is a file of that name
abbrev pub MayHave : Files → List ℕ → Type 0
MayHave None name = ⊤
MayHave (Some files) name = IsSome (files name)

-- where it is told, there is none
abbrev pub MayLack : Files → List ℕ → Type 0
MayLack None name = ⊤
MayLack (Some files) name = files name ≡ None

-- what an opening for reading does, by whether the file was found
abbrev pub OpensWhere : Bool → Files → List ℕ → Activity → Activity → Type 0
OpensWhere true files name before after = MayHave files name × (after ≡ Reading (bytes_of files name))
OpensWhere false files name before after = MayLack files name × (after ≡ before)

-- An opening for reading answers whether the file is there. It is then read from its start, and else nothing changes.
abbrev pub Opens : {E : Type 0} → Files → List ℕ → Activity → Activity → Result Bool E → Type 0
Opens files name before after result =
    MatchResult result (λ found. OpensWhere found files name before after) (λ _. after ≡ before)

-- what is left of the file that is read
abbrev pub left_of : Activity → Option (List ℕ)
left_of Idle = None
left_of (Reading left) = left
left_of (Writing name) = None

-- a read moves bytes as a source does, and goes on reading the same file
abbrev pub ReadsOn : {E : Type 0} → Activity → Activity → Result ℕ E → List ℕ → Type 0
ReadsOn before after result buffer =
    IsReading after × ReadConsumes (left_of before) (left_of after) result buffer

-- the file of that name has these bytes, and every other file is as before
abbrev pub Sets : Files → Files → List ℕ → Option (List ℕ) → Type 0
Sets None after name bytes = ⊤
Sets (Some before) None name bytes = ⊥
Sets (Some before) (Some after) name bytes =
    (after name ≡ bytes) × ((other : List ℕ) → other ≢ name → after other ≡ before other)

-- the name of the file that is written, where the folder tells of files
abbrev pub told_name : Files → List ℕ → Option (List ℕ)
told_name files name = option_map (λ _. name) files

-- the file that is written grows by these bytes, and every other file is as before
abbrev pub Grows : Activity → Files → Files → List ℕ → Type 0
Grows activity None after bytes = ⊤
Grows (Writing (Some name)) (Some before) after bytes =
    Sets (Some before) after name (option_map (λ (old : List ℕ). old ++ bytes) (before name))
Grows activity (Some before) after bytes = ⊥
