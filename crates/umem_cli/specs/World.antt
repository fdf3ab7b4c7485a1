-- What is seen outside of the program.
use Rattle.std.specs.Prelude.{◌≡◌, ℕ, List, Option, None}
use Rattle.umem_base.specs.Faults.{Rose}
use Rattle.umem_base.specs.Folder.{Files}
use Rattle.umem_cli.specs.Streams.{Outputs, Streams, outputs}

-- what is seen at a moment: the files and the two counts of the folder, what is left of the input, where it tells it,
-- with its count of faults, and the streams
pub record World : Type 0 where
  pub files : Files
  pub read_faults : ℕ
  pub write_faults : ℕ
  pub input : Option (List ℕ)
  pub input_faults : ℕ
  pub streams : Streams

-- what is seen of a folder, an input and streams with these ghosts
abbrev pub world : Files → ℕ → ℕ → Option (List ℕ) → ℕ → Streams → World
world files read_faults write_faults input input_faults streams = record {
  files = files;
  read_faults = read_faults;
  write_faults = write_faults;
  input = input;
  input_faults = input_faults;
  streams = streams;
}

-- the same where there is no input
abbrev pub without_input : Files → ℕ → ℕ → Streams → World
without_input files read_faults write_faults streams = world files read_faults write_faults None 0 streams

-- what is seen of all that pieces may go to
abbrev pub outputs_of : World → Outputs
outputs_of its = outputs its.streams (record { files = its.files; faults = its.write_faults })

-- nothing was read of the input
abbrev pub KeepsInput : World → World → Type 0
KeepsInput before after = (after.input ≡ before.input) × (after.input_faults ≡ before.input_faults)

-- no count of faults rose
pub record HasNoFault (before after : World) : Type 0 where
  pub reads : Rose before.read_faults after.read_faults → ⊥
  pub writes : Rose before.write_faults after.write_faults → ⊥
  pub input : Rose before.input_faults after.input_faults → ⊥
  pub out : Rose before.streams.out.faults after.streams.out.faults → ⊥
  pub err : Rose before.streams.err.faults after.streams.err.faults → ⊥
