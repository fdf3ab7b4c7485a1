-- What words ask for.
use Rattle.std.specs.Prelude.{ℕ, List, Option, None, Some}
use Rattle.umem_options.specs.declared.options.Options.{Options}
use Rattle.umem_words.specs.declared.job.Job.{Job as Asked}
use Rattle.umem_words.specs.declared.job.Job.TheVariants.{Make, Mdb, Run}
use Rattle.umem_words.specs.declared.run_job.RunJob.{RunJob}
use Rattle.umem_words.specs.Jobs.{job_of}
use Rattle.umem_cli.specs.declared.job.Job.{Job}

-- to run the script in a file, and leave a core in another if one is named; to answer commands over the core in a file;
-- to run a script of so many operations that is drawn from a seed; or nothing that there is
pub data Task : Type 0 where
  run : (job : Job) → Task
  mdb : (name : List ℕ) → Task
  make : (seed ops : ℕ) (options : Options) → Task
  none : Task

-- the run that a job asks for
abbrev pub job_to_run : RunJob → Job
job_to_run job = record { file = job.script; core = job.core; options = job.options; logging = job.logging }

-- what a job asks for
abbrev pub served : Option Asked → Task
served None = none
served (Some (Run job)) = run (job_to_run job)
served (Some (Mdb job)) = mdb job.core
served (Some (Make job)) = make job.seed job.ops job.options

-- what the words ask for
abbrev pub task_of : List (List ℕ) → Task
task_of words = served (job_of words)
