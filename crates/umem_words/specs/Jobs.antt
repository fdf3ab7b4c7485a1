-- Which job the words of a command line ask for.
use Rattle.std.specs.Prelude.{ℕ, ◌||◌, List, Option, None, is_some, codes, option_map, option_and_then, if◌then◌else◌}
use Rattle.std.specs.Str.{bytes_eq}
use Rattle.umem_words.specs.declared.job.Job.{Job}
use Rattle.umem_words.specs.declared.job.Job.TheVariants.{Run, Mdb, Make}
use Rattle.umem_words.specs.Told.{Told, told}
use Rattle.umem_words.specs.Values.{logging_given, ops_given, options_given, seed_given}

-- a run of the script in that file
abbrev pub run_job : Told → List ℕ → Job
run_job t script = Run (record {
  script = script;
  core = t.core;
  options = options_given t.debug;
  logging = logging_given t.logging;
})

-- `run` wants a file, and takes neither a seed nor a number of operations
abbrev pub run_told : Told → Option Job
run_told t = if is_some t.seed || is_some t.ops then None else option_map (run_job t) t.file

-- questions about the core in that file
abbrev pub mdb_job : List ℕ → Job
mdb_job core = Mdb (record { core = core })

-- `mdb` wants a file, and takes no option
abbrev pub mdb_told : Told → Option Job
mdb_told t =
    if is_some t.core || (is_some t.debug || (is_some t.logging || (is_some t.seed || is_some t.ops))) then None
    else option_map mdb_job t.file

-- a generated script with that seed and so many operations
abbrev pub make_job : Told → ℕ → ℕ → Job
make_job t seed ops = Make (record {
  seed = seed;
  ops = ops;
  options = options_given t.debug;
  logging = logging_given t.logging;
})

-- `make` wants a seed and a number of operations, and takes neither a file nor a core
abbrev pub make_told : Told → Option Job
make_told t = if is_some t.file || is_some t.core then None
    else option_and_then (λ seed. option_map (make_job t seed) (ops_given t.ops)) (seed_given t.seed)

-- the job of a mode; a word that names no mode asks for none
abbrev pub job_named : List ℕ → Told → Option Job
job_named mode t =
    if bytes_eq mode (codes "run") then run_told t else (
    if bytes_eq mode (codes "mdb") then mdb_told t else (
    if bytes_eq mode (codes "make") then make_told t else None))

-- the job of what was given
abbrev pub job_told : Told → Option Job
job_told t = option_and_then (λ mode. job_named mode t) t.mode

-- the job of the words; none where they are no command
abbrev pub job_of : List (List ℕ) → Option Job
job_of words = option_and_then job_told (told words)
