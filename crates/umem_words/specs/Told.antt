-- What the words of a command line tell, by the one simple command.
use Rattle.std.specs.Prelude.{ℕ, List, [], ◌∷◌, Option, Some, None, codes}
use Rattle.clap.specs.Words.{Kinds, Row, fault_of, first_of, matches_of}
use Rattle.umem_words.specs.Command.{command}

-- what was given: the mode, the file, and the value of each option
pub record Told : Type 0 where
  pub mode : Option (List ℕ)
  pub file : Option (List ℕ)
  pub core : Option (List ℕ)
  pub debug : Option (List ℕ)
  pub logging : Option (List ℕ)
  pub seed : Option (List ℕ)
  pub ops : Option (List ℕ)

-- what the matches of a parse give
abbrev pub told_in : List Row → Told
told_in rows = record {
  mode = first_of (codes "mode") rows;
  file = first_of (codes "file") rows;
  core = first_of (codes "core") rows;
  debug = first_of (codes "debug") rows;
  logging = first_of (codes "logging") rows;
  seed = first_of (codes "seed") rows;
  ops = first_of (codes "ops") rows;
}

-- a value that is there only where no kind of fault comes
abbrev pub where_none : {A : Type 0} → Kinds → A → Option A
where_none [] value = Some value
where_none (kind ∷ kinds) value = None

-- what the words tell, where the command takes them
abbrev pub told : List (List ℕ) → Option Told
told words = where_none (fault_of command words) (told_in (matches_of command words))
