-- How a transcript goes out, and behind it a core, and what becomes of the folder.
use Rattle.std.proofs.Common.{◌≡◌, inl, inr, ℕ, Bool, true, false, List, [], ◌∷◌, take, Option, Some, None, refl, sym, ap, subst, ◌∙◌}
use Rattle.std.specs.Prelude.{Result, Ok, Err}
use Rattle.std.specs.Result.{is_err}
use Rattle.umem_base.specs.Faults.{Counts, Rose}
use Rattle.umem_base.specs.Folder.{Files, Sets}
use Rattle.umem_base.specs.Transfer.{WritesFile, WritesWhole}
use Rattle.umem_base.specs.declared.write_file_error.WriteFile.{WriteFile}
use Rattle.umem_base.specs.declared.write_file_error.WriteFile.TheVariants.{NotCreated, NotWritten}
use Rattle.heap_ledger.specs.Ledger.{Ledger}
use Rattle.umem_cli.specs.declared.printed.CoreFile.{CoreFile}
use Rattle.umem_cli.specs.declared.printed.Printed.{Printed}
use Rattle.umem_cli.specs.declared.status.Status.{Status}
use Rattle.umem_cli.specs.declared.status.Status.TheVariants as status
use Rattle.umem_cli.specs.Cores.{IsCoreAsked}
use Rattle.umem_cli.specs.Outcomes.{GivesPrinted}
use Rattle.umem_cli.specs.Pieces.{Creates, CreatesFront, Ends, LeavesFront, Wanted, for_out}
use Rattle.umem_cli.specs.Streams.{Outputs, Store, Stream, Takes}
use Rattle.umem_cli.specs.Transcripts.{KeepsOtherFiles, KeepsWriteFaults, core_pieces, with_core}

-- ---- what goes out

-- a write that is no failure was taken whole
pub written : {E : Type 0} (before after : Stream) (bytes : List ℕ) (result : Result (Unit {0}) E) (failed : Bool) → failed ≡ is_err result → failed ≡ false
    → WritesWhole before.taken after.taken bytes result → Counts before.faults after.faults result → Takes before after bytes
written before after bytes (Ok x) failed tells is taken counts = (taken, counts)
written before after bytes (Err e) failed tells is taken counts = absurd (cc (tells, is))

-- no core is asked for
pub gives_text : (its : Printed) (before after : Outputs) → its.core ≡ None → Takes before.out after.out its.transcript → after.err ≡ before.err → after.store ≡ before.store → GivesPrinted its before after status.Done
gives_text its before after none takes err store = rw none (inl (refl, (after, (takes, err, store), refl)))

-- the streams after the transcript, and the folder before the core
abbrev between_of : Outputs → Outputs → Outputs
between_of before after = record { out = after.out; err = after.err; store = before.store }

-- the core was written
pub gives_core : (its : Printed) (before after : Outputs) (file : CoreFile) → its.core ≡ Some file → Takes before.out after.out its.transcript → after.err ≡ before.err
    → Creates before.store after.store file.name file.bytes.items → GivesPrinted its before after status.Done
gives_core its before after file some takes err creates =
    rw some (inl (refl, (between_of before after, (takes, err, refl), (after, (refl, refl, creates), refl))))

-- the core was not written whole
pub gives_front : (its : Printed) (before after : Outputs) (file : CoreFile) → its.core ≡ Some file → Takes before.out after.out its.transcript → after.err ≡ before.err
    → CreatesFront before.store after.store file.name file.bytes.items → GivesPrinted its before after status.WriteFault
gives_front its before after file some takes err creates =
    rw some (inr (refl, inr (between_of before after, (takes, err, refl), inl (refl, refl, creates))))

-- a file that was not written
pub leaves_front : (before after : Store) (name bytes : List ℕ) (fault : WriteFile) → WritesFile before.files after.files name bytes (Err fault) → LeavesFront before after name bytes
leaves_front before after name bytes NotCreated same = inl same
leaves_front before after name bytes NotWritten front = inr front

-- ---- what becomes of the folder

-- files that are the same
pub same_files : (core : Option (List ℕ)) (before after : Files) → after ≡ before → KeepsOtherFiles core before after
same_files None before after same = same
same_files (Some name) before after same = inl same

-- a count that is the same
pub same_faults : (core : Option (List ℕ)) (before after : ℕ) → after ≡ before → KeepsWriteFaults core before after
same_faults None before after same = same
same_faults (Some name) before after same = inl same

-- the files and the count of a folder
abbrev pub KeepsStore : Option (List ℕ) → Store → Store → Type 0
KeepsStore core before after = KeepsOtherFiles core before.files after.files × KeepsWriteFaults core before.faults after.faults

store_kept : (core : Option (List ℕ)) (before after : Store) → after ≡ before → KeepsStore core before after
store_kept core before after same =
    (same_files core before.files after.files (ap (λ (s : Store). s.files) same), same_faults core before.faults after.faults (ap (λ (s : Store). s.faults) same))

text_alone : (core : Option (List ℕ)) (before after : Outputs) (text : List ℕ) (wanted result : Status)
    → Ends before after (record { pieces = for_out text ∷ []; status = wanted }) result → KeepsStore core before.store after.store
text_alone core before after text wanted result (inl done) =
    store_kept core before.store after.store (ap (λ (o : Outputs). o.store) done.1.2 ∙ done.1.1.2)
text_alone core before after text wanted result (inr failed) =
    elim failed.1 [
      | inl front ↦ store_kept core before.store after.store front.2
      | inr later ↦ absurd later.2
    ]

-- by what the folder was as the core was begun
core_created : (name : List ℕ) (before after : Store) (bytes : List ℕ) → Creates before after name bytes → KeepsStore (Some name) before after
core_created name before after bytes creates = (inr (bytes, creates.0), inl creates.1)

core_front : (name : List ℕ) (before after : Store) (bytes : List ℕ) → CreatesFront before after name bytes → KeepsStore (Some name) before after
core_front name before after bytes creates = (by_files creates.0, inr creates.1)
  where
    by_files : LeavesFront before after name bytes → KeepsOtherFiles (Some name) before.files after.files
    by_files (inl same) = inl same
    by_files (inr front) = inr (take front.0 bytes, front.2)

from_same : (core : Option (List ℕ)) (before between after : Store) → between ≡ before → KeepsStore core between after → KeepsStore core before after
from_same core before between after same keeps = subst (λ (s : Store). KeepsStore core s after) same keeps

text_and_core : (name : List ℕ) (before after : Outputs) (text : List ℕ) (file : CoreFile) (wanted result : Status) → file.name ≡ name
    → Ends before after (record { pieces = for_out text ∷ core_pieces (Some file); status = wanted }) result → KeepsStore (Some name) before.store after.store
text_and_core name before after text file wanted result named ends = subst (λ (n : List ℕ). KeepsStore (Some n) before.store after.store) named (by_end ends)
  where
    by_end : Ends before after (record { pieces = for_out text ∷ core_pieces (Some file); status = wanted }) result → KeepsStore (Some file.name) before.store after.store
    by_end (inl done) =
        let first = done.1 in
        let second = first.2 in
        from_same (Some file.name) before.store first.0.store after.store first.1.2
        (subst (λ (o : Outputs). KeepsStore (Some file.name) first.0.store o.store) (sym second.2) (core_created file.name first.0.store second.0.store file.bytes.items second.1.2))
    by_end (inr failed) =
        elim failed.1 [
          | inl front ↦ store_kept (Some file.name) before.store after.store front.2
          | inr later ↦
              from_same (Some file.name) before.store later.0.store after.store later.1.2
              (elim later.2 [
                | inl front ↦ core_front file.name later.0.store after.store file.bytes.items front.2
                | inr more ↦ absurd more.2
              ])
        ]

-- no file but that of the core changes where what a run gives out went out
pub printed_keeps : (ledger : Ledger) (core : Option (List ℕ)) (its : Printed) (before after : Outputs) (result : Status) → IsCoreAsked ledger core its.core → GivesPrinted its before after result → KeepsStore core before.store after.store
printed_keeps ledger core its before after result asked gives = by_core core its.core asked gives
  where
    by_core : (asks : Option (List ℕ)) (file : Option CoreFile) → IsCoreAsked ledger asks file
        → Ends before after (record { pieces = for_out its.transcript ∷ core_pieces file; status = status.Done }) result → KeepsStore asks before.store after.store
    by_core None None asked ends = text_alone None before after its.transcript status.Done result ends
    by_core None (Some file) asked ends = absurd asked
    by_core (Some name) None asked ends = absurd asked
    by_core (Some name) (Some file) asked ends = text_and_core name before after its.transcript file status.Done result asked.0 ends
