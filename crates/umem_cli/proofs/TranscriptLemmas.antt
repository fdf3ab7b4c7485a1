-- What a file that was not read means for a run, and what was read of it.
use Rattle.std.proofs.Common.{◌≡◌, ℕ, zero, suc, ◌+◌, ◌<◌, Bool, true, List, [], ◌∷◌, ◌++◌, ◌∙◌, length, Option, Some, None, refl, sym, subst, arith, ap, nat_lt}
use Rattle.std.specs.Prelude.{Result, Ok, Err, IsErrAnd}
use Rattle.std.proofs.lemmas.Bool.Decides.{nat_tests}
use Rattle.umem_base.specs.Folder.{Files, bytes_of, MayHave}
use Rattle.umem_base.specs.Transfer.{Are, Exceed, ReadsFile, CountsReadFault}
use Rattle.umem_base.specs.declared.read_file_error.ReadFile.{ReadFile}
use Rattle.umem_base.specs.declared.read_file_error.ReadFile.TheVariants as read
use Rattle.script.specs.declared.limits.TheConstants.{MOST_BYTES}
use Rattle.script.specs.declared.reasons.Reason.TheVariants.{Limit}
use Rattle.script.specs.Grammar.{script_of}
use Rattle.script.specs.Generated.{made_plan}
use Rattle.script.specs.Plan.{Plan}
use Rattle.script.specs.PlanText.{text_of}
use Rattle.plain_heap.specs.declared.entry.Entry.{Entry}
use Rattle.plain_heap.specs.Answers.{Answers, setting_for}
use Rattle.umem_options.specs.declared.options.Logging.{Logging}
use Rattle.umem_options.specs.declared.options.Options.{Options}
use Rattle.umem_options.specs.Flags.{has_guards}
use Rattle.heap_ledger.specs.Ledger.{Ledger, run_setting}
use Rattle.heap_accounts.specs.Placed.{IsPlaced}
use Rattle.heap_core.specs.Heap.{IsGiven}
use Rattle.heap_summary.specs.declared.summary.Summary.{Summary}
use Rattle.heap_summary.specs.Sums.{summary_of}
use Rattle.heap_summary.specs.Texts.{summary_text}
use Rattle.umem_cli.specs.declared.job.Job.{Job}
use Rattle.umem_cli.specs.declared.printed.Printed.{Printed}
use Rattle.umem_cli.specs.declared.refusal.Refusal.TheVariants as short
use Rattle.umem_cli.specs.declared.refusal.Refusal.{Refusal}
use Rattle.umem_cli.specs.Histories.{IsHistoryOf, MakesPrinted, ledger_made}
use Rattle.umem_cli.specs.Made.{IsMade, script_and_summary}
use Rattle.umem_cli.specs.Outcomes.{MakesPrintedIn}
use Rattle.umem_cli.specs.Refusal.{refusal_of_read}
use Rattle.umem_cli.specs.Transcripts.{IsBadAt, IsRunCause}

long_bad : (bytes : List ℕ) → MOST_BYTES < length bytes → script_of bytes ≡ Err (0, Limit)
long_bad bytes long = let more : nat_lt MOST_BYTES (length bytes) ≡ true = grind (arith, nat_tests, long) in rw more refl

so_many : (n : ℕ) → (bytes : List ℕ) × (length bytes ≡ n)
so_many zero = ([], refl)
so_many (suc n) = let more = so_many n in (0 ∷ more.0, ap suc more.1)

too_long : (files : Files) (name : List ℕ) (known : Option (List ℕ)) → known ≡ bytes_of files name → MayHave files name → Exceed known MOST_BYTES → IsBadAt files name 0 Limit
too_long files name None is has long =
    let many = so_many (MOST_BYTES + 1) in
    record { file = has; bytes = many.0; read = subst (λ (o : Option (List ℕ)). Are o many.0) is tt; bad = long_bad many.0 (omega (arith, many.1)) }
too_long files name (Some bytes) is has long = record { file = has; bytes = bytes; read = subst (λ (o : Option (List ℕ)). Are o bytes) is refl; bad = long_bad bytes long }

-- why there is no transcript of a file that was not read
not_read_cause : (files : Files) (name : List ℕ) (before after : ℕ) (fault : ReadFile)
    → ReadsFile files name MOST_BYTES (Err fault) → CountsReadFault {T = Unit {0}} before after (Err fault) → IsRunCause files name before after (refusal_of_read fault)
not_read_cause files name before after read.Missing reads counts = (reads, counts)
not_read_cause files name before after read.ReadFault reads counts = counts
not_read_cause files name before after read.TooLong reads counts = (too_long files name (bytes_of files name) refl reads.0 reads.1, counts)
not_read_cause files name before after read.NoMemory reads counts = (reads, counts)

pub not_read : (job : Job) (files : Files) (before after : ℕ) (fault : ReadFile) (result : Result Printed Refusal)
    → ReadsFile files job.file MOST_BYTES (Err fault) → CountsReadFault {T = Unit {0}} before after (Err fault) → IsErrAnd result (λ r. r ≡ refusal_of_read fault) → MakesPrintedIn job files before after result
not_read job files before after fault (Ok its) reads counts is = absurd is
not_read job files before after fault (Err why) reads counts is = subst (λ (r : Refusal). IsRunCause files job.file before after r) (sym is) (not_read_cause files job.file before after fault reads counts)

-- what became of a script that was read
pub script_read : (job : Job) (files : Files) (bytes : List ℕ) (plan : Plan) (before after : ℕ) (result : Result Printed Refusal)
    → MayHave files job.file → Are (bytes_of files job.file) bytes → script_of bytes ≡ Ok plan → after ≡ before → MakesPrinted job plan result → MakesPrintedIn job files before after result
script_read job files bytes plan before after (Ok its) has are spelled same made =
    (record { file = has; bytes = bytes; read = are; plan = plan; spelled = spelled; is = made }, same)
script_read job files bytes plan before after (Err why) has are spelled same short =
    subst (λ (r : Refusal). IsRunCause files job.file before after r) (sym short) (has, same)

-- where memory was short, nothing was made
pub none_printed : (job : Job) (plan : Plan) (result : Result Printed Refusal) → IsErrAnd result (λ r. r ≡ short.NoMemory)
    → MakesPrinted job plan result
none_printed job plan (Ok its) is = absurd is
none_printed job plan (Err why) is = is

-- the heap of a run is that of the job's history
pub given_ledger : (job : Job) (plan : Plan) (ledger : Ledger) → IsGiven plan job.options job.logging ledger → ledger ≡ ledger_made job plan ledger.entries
given_ledger job plan ledger given =
    ap (λ (p : Plan). let its : Ledger = record { plan = p; options = ledger.options; logging = ledger.logging; entries = ledger.entries } in its) given.plan
    ∙ ap (λ (o : Options). let its : Ledger = record { plan = plan; options = o; logging = ledger.logging; entries = ledger.entries } in its) given.options
    ∙ ap (λ (l : Logging). let its : Ledger = record { plan = plan; options = job.options; logging = l; entries = ledger.entries } in its) given.logging

-- the heap of a run has made a history of the script
pub given_history : (plan : Plan) (options : Options) (logging : Logging) (ledger : Ledger) → IsGiven plan options logging ledger → Answers (has_guards options) plan ledger.entries → IsPlaced (run_setting ledger) ledger.entries
    → IsHistoryOf (has_guards options) plan ledger.entries
given_history plan options logging ledger given answers placed = record {
  answers = answers;
  placed = λ one. subst (λ (p : Plan). IsPlaced (setting_for (has_guards options) p) ledger.entries) given.plan
      (subst (λ (o : Options). IsPlaced (setting_for (has_guards o) ledger.plan) ledger.entries) given.options placed);
}

-- the text of a script that was drawn, and behind it the summary of its history
pub made_is : (guards : Bool) (seed ops : ℕ) (plan : Plan) (history : List Entry) (after before : List ℕ) (summary : Summary) → plan ≡ made_plan seed ops → IsHistoryOf guards plan history → before ≡ text_of plan
    → summary ≡ summary_of (setting_for guards plan) history → after ≡ before ++ summary_text summary → IsMade guards seed ops after
made_is guards seed ops plan history after before summary is its text sums more =
    let all : after ≡ script_and_summary guards plan history =
    more ∙ ap (λ (s : Summary). before ++ summary_text s) sums ∙ ap (λ (b : List ℕ). b ++ summary_text (summary_of (setting_for guards plan) history)) text in
    record {
      history = history;
      is = subst (λ (p : Plan). IsHistoryOf guards p history) is its;
      printed = subst (λ (p : Plan). after ≡ script_and_summary guards p history) is all;
    }
