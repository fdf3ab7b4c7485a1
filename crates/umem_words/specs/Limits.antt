-- What every job keeps to.
use Rattle.std.specs.Prelude.{◌≤◌, ⊤}
use Rattle.umem_options.specs.declared.options.Options.{Options}
use Rattle.umem_options.specs.declared.options.Logging.{Logging}
use Rattle.umem_options.specs.Limits.{IsLogging, IsOptions}
use Rattle.umem_words.specs.declared.limits.TheConstants.{MOST_OPS}
use Rattle.umem_words.specs.declared.job.Job.{Job}
use Rattle.umem_words.specs.declared.job.Job.TheVariants.{Run, Mdb, Make}

-- the options and the sizes of the logs are within their limits
abbrev pub AreSettings : Options → Logging → Type 0
AreSettings options logging = IsOptions options × IsLogging logging

-- the numbers of a job are within their limits
abbrev pub IsJob : Job → Type 0
IsJob (Run job) = AreSettings job.options job.logging
IsJob (Mdb job) = ⊤
IsJob (Make job) = AreSettings job.options job.logging × (job.ops ≤ MOST_OPS)
