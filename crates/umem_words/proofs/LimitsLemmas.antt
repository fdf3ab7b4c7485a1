-- What every job keeps to.
use Rattle.std.proofs.Common.{◌≡◌, ℕ, ◌≤◌, ◌&&◌, Bool, true, false, cond, leb, List, [], Option, Some, None, IfSome, option_map, option_and_then, codes, refl, subst}
use Rattle.std.specs.Bool.{⊤}
use Rattle.std.specs.Str.{bytes_eq}
use Rattle.std.specs.Str.Parse.{digits_value}
use Rattle.std.proofs.lemmas.Bool.{leb-true}
use Rattle.umem_options.specs.Limits.{IsLogging, IsOptions}
use Rattle.umem_options.proofs.LimitsLemmas.{IsLogging-logging_of, IsOptions-options_of}
use Rattle.umem_words.specs.declared.limits.TheConstants.{MOST_OPS}
use Rattle.umem_words.specs.declared.job.Job.{Job}
use Rattle.umem_words.specs.Told.{Told}
use Rattle.umem_words.specs.Values.{is_number, logging_given, number_up_to, ops_given, options_given, seed_given}
use Rattle.umem_words.specs.Jobs.{job_named, job_told, make_job, make_told, mdb_job, mdb_told, run_job, run_told}
use Rattle.umem_words.specs.Limits.{AreSettings, IsJob}
use Rattle.umem_words.proofs.ValuesLemmas.{no_text_no_logging, no_text_no_options}

-- ---- the values of the options

options_keep : (text : Option (List ℕ)) → IsOptions (options_given text)
options_keep None = subst IsOptions no_text_no_options (IsOptions-options_of [])
options_keep (Some text) = IsOptions-options_of text

logging_keeps : (text : Option (List ℕ)) → IsLogging (logging_given text)
logging_keeps None = subst IsLogging no_text_no_logging (IsLogging-logging_of [])
logging_keeps (Some text) = IsLogging-logging_of text

settings_keep : (debug logging : Option (List ℕ)) → AreSettings (options_given debug) (logging_given logging)
settings_keep debug logging = (options_keep debug, logging_keeps logging)

at_most : (a b : Bool) (n most : ℕ) → (b ≡ true → n ≤ most) → IfSome (cond (a && b) (Some n) None) (λ m. m ≤ most)
at_most true true n most le = le refl
at_most true false n most le = tt
at_most false b n most le = tt

number_keeps : (most : ℕ) (text : List ℕ) → IfSome (number_up_to most text) (λ n. n ≤ most)
number_keeps most text =
    at_most (is_number text) (leb (digits_value 10 text) most) (digits_value 10 text) most (leb-true
    (digits_value 10 text) most)

ops_keep : (text : Option (List ℕ)) → IfSome (ops_given text) (λ n. n ≤ MOST_OPS)
ops_keep None = tt
ops_keep (Some text) = number_keeps MOST_OPS text

-- ---- jobs

unless : (b : Bool) (o : Option Job) → IfSome o IsJob → IfSome (cond b None o) IsJob
unless true o keeps = tt
unless false o keeps = keeps

either : (b : Bool) (o p : Option Job) → IfSome o IsJob → IfSome p IsJob → IfSome (cond b o p) IsJob
either true o p one other = one
either false o p one other = other

mapped : {A : Type 0} (P : A → Type 0) (f : A → Job) (o : Option A) → IfSome o P → ((x : A) → P x → IsJob (f x))
    → IfSome (option_map f o) IsJob
mapped P f None holds keeps = tt
mapped P f (Some x) holds keeps = keeps x holds

then_kept : {A : Type 0} (f : A → Option Job) (o : Option A) → ((x : A) → IfSome (f x) IsJob) → IfSome
    (option_and_then f o) IsJob
then_kept f None keeps = tt
then_kept f (Some x) keeps = keeps x

nothing_asked : {A : Type 0} (o : Option A) → IfSome o (λ _. ⊤)
nothing_asked None = tt
nothing_asked (Some x) = tt

run_keeps : (t : Told) → IfSome (run_told t) IsJob
run_keeps t = unless _ (option_map (run_job t) t.file)
    (mapped (λ _. ⊤) (run_job t) t.file (nothing_asked t.file) (λ file _. settings_keep t.debug t.logging))

mdb_keeps : (t : Told) → IfSome (mdb_told t) IsJob
mdb_keeps t = unless _ (option_map mdb_job t.file) (mapped (λ _. ⊤) mdb_job t.file (nothing_asked t.file)
    (λ file _. tt))

make_keeps : (t : Told) → IfSome (make_told t) IsJob
make_keeps t = unless _ (option_and_then (λ seed. option_map (make_job t seed) (ops_given t.ops)) (seed_given t.seed))
    (then_kept (λ seed. option_map (make_job t seed) (ops_given t.ops)) (seed_given t.seed)
    (λ seed. mapped (λ n. n ≤ MOST_OPS) (make_job t seed) (ops_given t.ops) (ops_keep t.ops)
    (λ n le. (settings_keep t.debug t.logging, le))))

named_keeps : (mode : List ℕ) (t : Told) → IfSome (job_named mode t) IsJob
named_keeps mode t = either (bytes_eq mode (codes "run")) (run_told t) _ (run_keeps t)
    (either (bytes_eq mode (codes "mdb")) (mdb_told t) _ (mdb_keeps t)
    (either (bytes_eq mode (codes "make")) (make_told t) None (make_keeps t) tt))

pub told_keeps : (t : Told) → IfSome (job_told t) IsJob
told_keeps t = then_kept (λ mode. job_named mode t) t.mode (λ mode. named_keeps mode t)
