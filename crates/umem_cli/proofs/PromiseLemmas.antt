-- What a call gives out is whole where nothing failed.
use Rattle.std.proofs.Common.{◌≡◌, ◌⊎◌, inl, inr, ℕ, ◌≤◌, Bool, true, false, List, [], ◌∷◌, length, Option, Some, None, refl, sym, ap, subst, ◌∙◌, arith, nat_lt}
use Rattle.std.specs.Prelude.{Ok}
use Rattle.std.specs.List.{list_any}
use Rattle.std.proofs.lemmas.Bool.Decides.{nat_tests}
use Rattle.umem_base.specs.Faults.{Rose}
use Rattle.umem_base.specs.Folder.{Files, bytes_of, MayLack}
use Rattle.umem_base.specs.Lines.{lines_of}
use Rattle.umem_base.specs.Transfer.{Are, Exceed}
use Rattle.core_format.specs.Cores.{core_of}
use Rattle.umem_options.specs.declared.options.Options.{Options}
use Rattle.umem_options.specs.Flags.{has_guards}
use Rattle.script.specs.Grammar.{script_of}
use Rattle.core_sizes.specs.declared.limits.TheConstants.{MOST_CORE_BYTES}
use Rattle.umem_cli.specs.declared.limits.TheConstants.{MOST_COMMAND_BYTES}
use Rattle.umem_cli.specs.declared.refusal.Refusal.{Refusal}
use Rattle.umem_cli.specs.declared.refusal.Refusal.TheVariants as refusal
use Rattle.umem_cli.specs.declared.status.Status.{Status}
use Rattle.umem_cli.specs.declared.status.Status.TheVariants.{Done, NoMemory, Refused, Usage}
use Rattle.umem_cli.specs.declared.job.Job.{Job}
use Rattle.umem_words.specs.declared.job.Job.{Job as Asked}
use Rattle.umem_words.specs.declared.job.Job.TheVariants.{Make, Mdb, Run}
use Rattle.umem_words.specs.declared.make_job.MakeJob.{MakeJob}
use Rattle.umem_words.specs.declared.mdb_job.MdbJob.{MdbJob}
use Rattle.umem_words.specs.declared.run_job.RunJob.{RunJob}
use Rattle.umem_words.specs.Jobs.{job_of}
use Rattle.umem_cli.specs.Asked.{Task, make, mdb, none, run, job_to_run, served, task_of}
use Rattle.umem_cli.specs.Pieces.{DeliversPiece, Ends, FailsAt, FailsPiece, GivesOut, Piece, Wanted, for_err, for_file, for_out, nothing, refused}
use Rattle.umem_cli.specs.Made.{WantsMade}
use Rattle.umem_cli.specs.Messages.{usage_text}
use Rattle.umem_cli.specs.Outcomes.{GivesMade, SaysUsage}
use Rattle.umem_cli.specs.Promise.{GivenOut, IsCoreThere, IsScriptThere, IsStatusOf, IsWanted, IsWholeOf, WantsNothing, commands_status, usage}
use Rattle.umem_cli.specs.Refusal.{status_of}
use Rattle.umem_cli.specs.Sessions.{GivenByMdb, IsCommandsCause, IsCoreCause, WantsMdb, answered, is_refused}
use Rattle.umem_cli.specs.Streams.{Outputs}
use Rattle.umem_cli.specs.Transcripts.{GivenByRun, IsPrintedIn, IsRunCause, WantsRun, printed}
use Rattle.umem_cli.specs.World.{HasNoFault, KeepsInput, World, outputs_of}
use Rattle.umem_cli.proofs.EndsLemmas.{says_err, says_out}
use Rattle.umem_cli.proofs.LineLemmas.{same_outputs}

-- ---- a write that failed has raised a count

-- the three counts that pieces may raise
abbrev pub KeepsCounts : Outputs → Outputs → Type 0
KeepsCounts before after =
    (after.out.faults ≡ before.out.faults) × (after.err.faults ≡ before.err.faults) × (after.store.faults ≡ before.store.faults)

-- none of them rose
pub record IsCalm (before after : Outputs) : Type 0 where
  pub out : Rose before.out.faults after.out.faults → ⊥
  pub err : Rose before.err.faults after.err.faults → ⊥
  pub store : Rose before.store.faults after.store.faults → ⊥

counts_kept : (before after : Outputs) (piece : Piece) → DeliversPiece before after piece → KeepsCounts before after
counts_kept before after (for_out bytes) done = (done.0.1, ap (λ s. s.faults) done.1, ap (λ s. s.faults) done.2)
counts_kept before after (for_err bytes) done = (ap (λ s. s.faults) done.0, done.1.1, ap (λ s. s.faults) done.2)
counts_kept before after (for_file name bytes) done = (ap (λ s. s.faults) done.0, ap (λ s. s.faults) done.1, done.2.1)

calm_behind : (before between after : Outputs) → KeepsCounts before between → IsCalm before after → IsCalm between after
calm_behind before between after kept calm = record {
  out = subst (λ (n : ℕ). Rose n after.out.faults → ⊥) (sym kept.0) calm.out;
  err = subst (λ (n : ℕ). Rose n after.err.faults → ⊥) (sym kept.1) calm.err;
  store = subst (λ (n : ℕ). Rose n after.store.faults → ⊥) (sym kept.2) calm.store;
}

piece_fails_not : (before after : Outputs) (piece : Piece) → IsCalm before after → FailsPiece before after piece → ⊥
piece_fails_not before after (for_out bytes) calm failed = calm.out failed.0.3
piece_fails_not before after (for_err bytes) calm failed = calm.err failed.1.3
piece_fails_not before after (for_file name bytes) calm failed = calm.store failed.2.1

no_failure : (before after : Outputs) (pieces : List Piece) → IsCalm before after → FailsAt before after pieces → ⊥
no_failure before after [] calm fails = fails
no_failure before after (piece ∷ pieces) calm (inl failed) = piece_fails_not before after piece calm failed
no_failure before after (piece ∷ pieces) calm (inr later) =
    no_failure later.0 after pieces (calm_behind before later.0 after (counts_kept before later.0 piece later.1) calm) later.2

ended_so : (before after : World) (wanted : Wanted) (status : Status) → HasNoFault before after → Ends (outputs_of before) (outputs_of after) wanted status → status ≡ wanted.status
ended_so before after wanted status calm (inl done) = done.0
ended_so before after wanted status calm (inr failed) =
    absurd (no_failure (outputs_of before) (outputs_of after) wanted.pieces (record { out = calm.out; err = calm.err; store = calm.writes }) failed.1)

-- ---- files that are told

not_lacking : (files : Files) (name bytes : List ℕ) → bytes_of files name ≡ Some bytes → MayLack files name → ⊥
not_lacking None name bytes is lacks = cc is
not_lacking (Some files) name bytes is lacks = cc (is, lacks)

told : (known : Option (List ℕ)) (bytes other : List ℕ) → known ≡ Some bytes → Are known other → bytes ≡ other
told None bytes other is are = absurd (cc is)
told (Some known) bytes other is are = cc (is, are)

not_longer : (known : Option (List ℕ)) (bytes : List ℕ) → known ≡ Some bytes → length bytes ≤ MOST_CORE_BYTES → Exceed known MOST_CORE_BYTES → ⊥
not_longer None bytes is short long = cc is
not_longer (Some known) bytes is short long =
    let same : length known ≡ length bytes = ap (λ o. elim o [ None ↦ 0 | Some l ↦ length l ]) is in
    omega (arith, same, short, long)

-- ---- a run

run_cause : (name : List ℕ) (before : World) (after : ℕ) (why : Refusal) → IsScriptThere name before → (Rose before.read_faults after → ⊥) → IsRunCause before.files name before.read_faults after why → status_of why ≡ NoMemory
run_cause name before after (refusal.BadScript line reason) there calm cause =
    let same = told (bytes_of before.files name) there.bytes cause.0.bytes there.file cause.0.read in
    absurd (cc (subst (λ l. script_of l ≡ Ok there.plan) same there.spelled, cause.0.bad))
run_cause name before after refusal.CoreTooLong there calm cause = absurd cause
run_cause name before after (refusal.BadCore offset fault) there calm cause = absurd cause
run_cause name before after refusal.NoFile there calm cause = absurd (not_lacking before.files name there.bytes there.file cause.0)
run_cause name before after refusal.ReadFault there calm cause = absurd (calm cause)
run_cause name before after refusal.CommandsFault there calm cause = absurd cause
run_cause name before after refusal.CommandsTooLong there calm cause = absurd cause
run_cause name before after refusal.NoMemory there calm cause = refl

run_status : (job : Job) (before after : World) (wanted : Wanted) → IsScriptThere job.file before → HasNoFault before after → WantsRun job before after wanted → (wanted.status ≡ Done) ⊎ (wanted.status ≡ NoMemory)
run_status job before after wanted there calm (inl text) = inl (ap (λ w. w.status) text.wants)
run_status job before after wanted there calm (inr refusal) =
    inr (ap (λ w. w.status) refusal.wants ∙ run_cause job.file before after.read_faults refusal.why there calm.reads refusal.cause)

-- ---- commands over a core

core_cause : (name : List ℕ) (before : World) (after : ℕ) (why : Refusal) → IsCoreThere name before → (Rose before.read_faults after → ⊥) → IsCoreCause before.files name before.read_faults after why → status_of why ≡ NoMemory
core_cause name before after (refusal.BadScript line reason) there calm cause = absurd cause
core_cause name before after refusal.CoreTooLong there calm cause = absurd (not_longer (bytes_of before.files name) there.bytes there.file there.short cause.1)
core_cause name before after (refusal.BadCore offset fault) there calm cause =
    let same = told (bytes_of before.files name) there.bytes cause.0.bytes there.file cause.0.read in
    absurd (cc (subst (λ l. core_of l ≡ Ok there.core) same there.is, cause.0.bad))
core_cause name before after refusal.NoFile there calm cause = absurd (not_lacking before.files name there.bytes there.file cause.0)
core_cause name before after refusal.ReadFault there calm cause = absurd (calm cause)
core_cause name before after refusal.CommandsFault there calm cause = absurd cause
core_cause name before after refusal.CommandsTooLong there calm cause = absurd cause
core_cause name before after refusal.NoMemory there calm cause = refl

too_many : (input : Option (List ℕ)) → Exceed input MOST_COMMAND_BYTES → IsStatusOf input Refused
too_many None long = inr refl
too_many (Some commands) long = let more : nat_lt MOST_COMMAND_BYTES (length commands) ≡ true = grind (arith, nat_tests, long) in rw more refl

commands_cause : (input input_after : Option (List ℕ)) (before after : ℕ) (why : Refusal) → (Rose before after → ⊥) → IsCommandsCause input input_after before after why → IsStatusOf input (status_of why) ⊎ (status_of why ≡ NoMemory)
commands_cause input input_after before after (refusal.BadScript line reason) calm cause = absurd cause
commands_cause input input_after before after refusal.CoreTooLong calm cause = absurd cause
commands_cause input input_after before after (refusal.BadCore offset fault) calm cause = absurd cause
commands_cause input input_after before after refusal.NoFile calm cause = absurd cause
commands_cause input input_after before after refusal.ReadFault calm cause = absurd cause
commands_cause input input_after before after refusal.CommandsFault calm cause = absurd (calm cause.0)
commands_cause input input_after before after refusal.CommandsTooLong calm cause = inl (too_many input cause.0)
commands_cause input input_after before after refusal.NoMemory calm cause = inr refl

done_or_refused : (refuses : Bool) → (answered refuses ≡ Done) ⊎ (answered refuses ≡ Refused)
done_or_refused true = inr refl
done_or_refused false = inl refl

all_answered : (input : Option (List ℕ)) (commands : List ℕ) → Are input commands → length commands ≤ MOST_COMMAND_BYTES → IsStatusOf input (answered (list_any is_refused (lines_of commands)))
all_answered None commands are short = done_or_refused (list_any is_refused (lines_of commands))
all_answered (Some known) commands are short =
    let few : nat_lt MOST_COMMAND_BYTES (length commands) ≡ false = grind (arith, nat_tests, short) in
    subst (λ (l : List ℕ). answered (list_any is_refused (lines_of commands)) ≡ commands_status l) (sym are) (rw few refl)

mdb_status : (name : List ℕ) (before after : World) (wanted : Wanted) → IsCoreThere name before → HasNoFault before after → WantsMdb name before after wanted → IsStatusOf before.input wanted.status ⊎ (wanted.status ≡ NoMemory)
mdb_status name before after wanted there calm (inl core) =
    inr (ap (λ w. w.status) core.wants ∙ core_cause name before after.read_faults core.why there calm.reads core.cause)
mdb_status name before after wanted there calm (inr (inl commands)) =
    subst (λ (s : Status). IsStatusOf before.input s ⊎ (s ≡ NoMemory)) (sym (ap (λ w. w.status) commands.wants)) (commands_cause before.input after.input before.input_faults after.input_faults commands.why calm.input commands.cause)
mdb_status name before after wanted there calm (inr (inr session)) =
    elim session.wants [
      | inl all ↦ inl (subst (IsStatusOf before.input) (sym all.status) (all_answered before.input session.commands session.read session.short))
      | inr first ↦ inr first.status
    ]

-- ---- what is asked

-- what was wanted, or nothing for want of memory
by_memory : {Wants Is : Type 0} (before after : World) (wanted : Wanted) → Wants ⊎ WantsNothing before after wanted → (Wants → Is) → (wanted.status ≡ NoMemory → Is) → Is
by_memory before after wanted (inl its) wants short = wants its
by_memory before after wanted (inr its) wants short = short (ap (λ w. w.status) its.wants)

pub whole_given : (task : Task) (before after : World) (status : Status) → GivesOut (IsWanted task before after) (outputs_of before) (outputs_of after) status → IsWholeOf task before after status
whole_given (run job) before after status given = λ there calm.
    subst (λ (s : Status). (s ≡ Done) ⊎ (s ≡ NoMemory)) (sym (ended_so before after given.0 status calm given.2)) (by_memory before after given.0 given.1 (λ its. run_status job before after given.0 there calm its.1) inr)
whole_given (mdb name) before after status given = λ there calm.
    subst (λ (s : Status). IsStatusOf before.input s ⊎ (s ≡ NoMemory)) (sym (ended_so before after given.0 status calm given.2)) (by_memory before after given.0 given.1 (mdb_status name before after given.0 there calm) inr)
whole_given (make seed ops options) before after status given = λ calm.
    subst (λ (s : Status). (s ≡ Done) ⊎ (s ≡ NoMemory)) (sym (ended_so before after given.0 status calm given.2)) (by_memory before after given.0 given.1 (λ its. made_status given.0 its.1.1) inr)
  where
    made_status : (wanted : Wanted) → WantsMade (has_guards options) seed ops wanted ⊎ (wanted ≡ nothing) → (wanted.status ≡ Done) ⊎ (wanted.status ≡ NoMemory)
    made_status wanted (inl made) = inl (ap (λ w. w.status) made.wants)
    made_status wanted (inr is) = inr (ap (λ w. w.status) is)
whole_given none before after status given = λ calm.
    subst (λ (s : Status). (s ≡ Usage) ⊎ (s ≡ NoMemory)) (sym (ended_so before after given.0 status calm given.2))
    (by_memory before after given.0 given.1 (λ its. inl (ap (λ w. w.status) its.wants)) inr)

-- ---- what is given where nothing is done

-- where memory is short for the words, nothing is written and nothing read
pub short_given : (task : Task) (before : World) → GivesOut (IsWanted task before before) (outputs_of before) (outputs_of before) NoMemory
short_given task before = (nothing, inr (record { input = (refl, refl); reads = refl; wants = refl }), inl (refl, refl))

-- the folder is as it was
abbrev pub SameStore : World → World → Type 0
SameStore before after = (outputs_of after).store ≡ (outputs_of before).store

-- words that ask for nothing that there is get the usage lines
pub usage_given : (before after : World) (status : Status) → KeepsInput before after → after.read_faults ≡ before.read_faults → after.streams.out ≡ before.streams.out → SameStore before after
    → SaysUsage before.streams.err after.streams.err status → GivesOut (IsWanted none before after) (outputs_of before) (outputs_of after) status
usage_given before after status input reads out store says =
    (usage, inl (record { input = input; reads = reads; wants = refl }), says_err (outputs_of before) (outputs_of after) usage_text Usage status says out store)

-- a drawn script reads nothing and tells nothing on the error stream
pub make_given : (seed ops : ℕ) (options : Options) (before after : World) (status : Status) → KeepsInput before after → after.read_faults ≡ before.read_faults → after.streams.err ≡ before.streams.err → SameStore before after
    → GivesMade (has_guards options) seed ops before.streams.out after.streams.out status → GivesOut (IsWanted (make seed ops options) before after) (outputs_of before) (outputs_of after) status
make_given seed ops options before after status input reads err store (inl made) =
    (printed made.0, inl (input, (reads, inl (record { text = made.0; is = made.1; wants = refl }))), says_out (outputs_of before) (outputs_of after) made.0 Done status made.2 err store)
make_given seed ops options before after status input reads err store (inr short) =
    (nothing, inl (input, (reads, inr refl)), inl (short.0, same_outputs (outputs_of before) (outputs_of after) short.1 err store))

-- ---- by the job that was read

module _ (words : List (List ℕ)) (asked : Option Asked) (told : asked ≡ job_of words) where
  -- no job
  pub none_read : asked ≡ None → task_of words ≡ none
  none_read is = ap served (sym told ∙ is)

  module _ (job : Asked) (is : asked ≡ Some job) where
    task_read : task_of words ≡ served (Some job)
    task_read = ap served (sym told ∙ is)

    pub run_read : (its : RunJob) → job ≡ Run its → task_of words ≡ run (job_to_run its)
    run_read its is_run = task_read ∙ ap (λ (j : Asked). served (Some j)) is_run

    pub mdb_read : (its : MdbJob) → job ≡ Mdb its → task_of words ≡ mdb its.core
    mdb_read its is_mdb = task_read ∙ ap (λ (j : Asked). served (Some j)) is_mdb

    pub make_read : (its : MakeJob) → job ≡ Make its → task_of words ≡ make its.seed its.ops its.options
    make_read its is_make = task_read ∙ ap (λ (j : Asked). served (Some j)) is_make

-- what is given for what the words ask for
pub given_for : (words : List (List ℕ)) (task : Task) (before after : World) (status : Status) → task_of words ≡ task → GivesOut (IsWanted task before after) (outputs_of before) (outputs_of after) status → GivenOut words before after status
given_for words task before after status is given = subst (λ (t : Task). GivesOut (IsWanted t before after) (outputs_of before) (outputs_of after) status) (sym is) given

-- commands over a core
pub mdb_given : (name : List ℕ) (before after : World) (status : Status) → GivenByMdb name before after status → GivesOut (IsWanted (mdb name) before after) (outputs_of before) (outputs_of after) status
mdb_given name before after status given = (given.0, inl given.1, given.2)

-- a run reads nothing of the input
pub run_given : (job : Job) (before after b a : World) (status : Status) → b.files ≡ before.files → b.read_faults ≡ before.read_faults → a.read_faults ≡ after.read_faults
    → outputs_of b ≡ outputs_of before → outputs_of a ≡ outputs_of after → KeepsInput before after → GivenByRun job b a status → GivesOut (IsWanted (run job) before after) (outputs_of before) (outputs_of after) status
run_given job before after b a status files reads reads_after all all_after input given =
    (given.0, inl (input, moved given.0 given.1), subst (λ (s : Outputs). Ends (outputs_of before) s given.0 status) all_after (subst (λ (s : Outputs). Ends s (outputs_of a) given.0 status) all given.2))
  where
    moved : (wanted : Wanted) → WantsRun job b a wanted → WantsRun job before after wanted
    moved wanted (inl made) = inl (record {
      its = made.its;
      is = subst (λ (f : Files). IsPrintedIn job f made.its) files made.is;
      reads = sym reads_after ∙ made.reads ∙ reads;
      wants = made.wants;
    })
    moved wanted (inr refusal) = inr (record {
      why = refusal.why;
      cause =
          subst (λ (n : ℕ). IsRunCause before.files job.file before.read_faults n refusal.why) reads_after
          (subst (λ (n : ℕ). IsRunCause before.files job.file n a.read_faults refusal.why) reads (subst (λ (f : Files). IsRunCause f job.file b.read_faults a.read_faults refusal.why) files refusal.cause));
      wants = refusal.wants;
    })
