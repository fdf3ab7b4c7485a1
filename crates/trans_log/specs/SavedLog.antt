-- A contents log as contracts see it, and what it is made of.
use Rattle.std.specs.Prelude.{◌≡◌, ℕ, ◌*◌, ◌^◌, ◌<◌, ◌≤◌, List, [], ◌∷◌, length, take, drop, sum_by, All}
use Rattle.trans_log.specs.declared.record.Saved.{Saved}
use Rattle.trans_log.specs.declared.saved_record.SavedRecord.{SavedRecord}

-- how many items a contents log keeps, how many bytes of each at most, and the items that it has, oldest first
pub record SavedLog : Type 0 where
  pub capacity : ℕ
  pub count : ℕ
  pub items : List Saved

-- what is kept of a freed buffer
abbrev pub saved_item : ℕ → ℕ → List ℕ → Saved
saved_item time chunk bytes = record { time = time; chunk = chunk; bytes = bytes }

-- the item of a record and its bytes
abbrev pub saved_of : SavedRecord → List ℕ → Saved
saved_of r bytes = saved_item r.time r.chunk bytes

-- the items of some records, whose bytes stand one behind the other
abbrev pub saved_by : List SavedRecord → List ℕ → List Saved
saved_by [] bytes = []
saved_by (r ∷ rs) bytes = saved_of r (take r.length bytes) ∷ saved_by rs (drop r.length bytes)

-- the log of some records, whose bytes stand one behind the other
abbrev pub saved_log_of : ℕ → ℕ → List SavedRecord → List ℕ → SavedLog
saved_log_of capacity count records bytes =
    record { capacity = capacity; count = count; items = saved_by records bytes }

-- how many bytes the records have together
abbrev pub bytes_in_all : List SavedRecord → ℕ
bytes_in_all rs = sum_by (λ r. r.length) rs

-- there is room for as many records as the log keeps, and for their bytes; those that stand are theirs
pub record IsSavedLog (capacity count room : ℕ) (records : List SavedRecord) (bytes : List ℕ) : Type 0 where
  pub within : length records ≤ capacity
  pub small : capacity < 2 ^ 32
  pub fits : room ≡ capacity * count
  pub short : All (λ r. r.length ≤ count) records
  pub whole : bytes_in_all records ≡ length bytes
