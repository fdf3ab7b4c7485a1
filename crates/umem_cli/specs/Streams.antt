-- What is seen of the output and of the error stream.
use Rattle.std.specs.Prelude.{◌≡◌, ℕ, ◌<◌, ◌⊎◌, List, length, take, Option, None}
use Rattle.std.specs.Io.KnownBytes.{Appends}
use Rattle.umem_base.specs.Faults.{Rose}
use Rattle.umem_base.specs.Folder.{Files}
use Rattle.umem_cli.specs.declared.status.Status.{Status}
use Rattle.umem_cli.specs.declared.status.Status.TheVariants.{WriteFault}

-- what a sink has taken, where it tells it, and how often it failed
pub record Stream : Type 0 where
  pub taken : Option (List ℕ)
  pub faults : ℕ

-- the stream of a sink with these ghosts
abbrev pub stream : Option (List ℕ) → ℕ → Stream
stream taken faults = record { taken = taken; faults = faults }

-- both streams
pub record Streams : Type 0 where
  pub out : Stream
  pub err : Stream

-- the streams of two sinks with these ghosts
abbrev pub streams : Option (List ℕ) → ℕ → Option (List ℕ) → ℕ → Streams
streams out_taken out_faults err_taken err_faults =
    record { out = stream out_taken out_faults; err = stream err_taken err_faults }

-- what is seen of a folder that may be written: its files, where it tells them, and its count of write faults
pub record Store : Type 0 where
  pub files : Files
  pub faults : ℕ

-- all that pieces may go to
pub record Outputs : Type 0 where
  pub out : Stream
  pub err : Stream
  pub store : Store

-- the streams beside a folder
abbrev pub outputs : Streams → Store → Outputs
outputs both store = record { out = both.out; err = both.err; store = store }

-- the streams where there is no folder
abbrev pub without_store : Streams → Outputs
without_store both = outputs both (record { files = None; faults = 0 })

-- it took these bytes, and did not fail
abbrev pub Takes : Stream → Stream → List ℕ → Type 0
Takes before after bytes = Appends before.taken after.taken bytes × (after.faults ≡ before.faults)

-- it took a front of these bytes, and failed
abbrev pub TakesFront : Stream → Stream → List ℕ → Type 0
TakesFront before after bytes =
    (n : ℕ) × (n < length bytes)
    × Appends before.taken after.taken (take n bytes) × Rose before.faults after.faults

-- it took these bytes, and the status is the wanted one; or it failed
abbrev pub Says : List ℕ → Status → Stream → Stream → Status → Type 0
Says bytes wanted before after status =
    ((status ≡ wanted) × Takes before after bytes) ⊎ ((status ≡ WriteFault) × TakesFront before after bytes)
