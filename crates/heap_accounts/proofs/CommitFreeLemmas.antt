-- Commits of frees.
use Rattle.std.proofs.Common.{◌≡◌, ℕ, Bool, true, cond, [], Option, Some, None, refl, ap, ◌∙◌}
use Rattle.std.specs.Prelude.{is_some}
use Rattle.std.specs.Option.{option_and_then}
use Rattle.std.proofs.lemmas.Bool.{false≢true}
use Rattle.script.specs.Plan.{Call}
use Rattle.plain_heap.specs.declared.reply.Reply.{Reply}
use Rattle.plain_heap.specs.Calls.{due_call}
use Rattle.heap_ledger.specs.Ledger.{Commits, Ledger, run_setting, run_state}
use Rattle.heap_ledger.proofs.MayCommitLemmas.{answers_step}
use Rattle.heap_accounts.specs.declared.tables.Tables.{Tables}
use Rattle.heap_accounts.specs.Accounts.{AreAccounts}
use Rattle.heap_accounts.specs.Frees.{IsRoundOf}
use Rattle.heap_accounts.specs.Kinds.{freed_slot, is_free}
use Rattle.heap_accounts.specs.Tables.{ForEachHistory, Performs}
use Rattle.heap_accounts.specs.Turns.{MakesFree}
use Rattle.heap_accounts.proofs.AccountsLemmas.{is_made, of_run, told}
use Rattle.heap_accounts.proofs.FreeLemmas.{asks_to_free, not_ok}

some_slot : (o : Option ℕ) → is_some o ≡ true → (slot : ℕ) × (o ≡ Some slot)
some_slot None is = absurd (false≢true is)
some_slot (Some slot) is = (slot, refl)

pub gives_free : (ledger : Ledger) (thread number : ℕ) (call : Call) (due : due_call ledger.plan ledger.entries thread number ≡ Some call) (tables : Tables) (is : AreAccounts ledger tables) (answer : Reply) (next : Tables)
    → Performs tables next thread call.op answer → (round : Option ℕ) → ForEachHistory (λ setting state. IsRoundOf setting state thread call.op answer round) tables → is_free call.op ≡ true
    → (new : Ledger) → Commits ledger new thread [] answer → MakesFree ledger new thread number answer round
gives_free ledger thread number call due tables is answer next done round back kind new commits =
    let made = is_made ledger thread number call due new answer commits in
    let slot = some_slot (freed_slot call.op) kind in
    record {
      call = call;
      due = ap (option_and_then (λ (c : Call). cond (is_free c.op) (Some c) None)) due ∙ ap (λ (b : Bool). cond b (Some call) None) kind;
      reply = told ledger thread number call due tables is answer next done;
      back = back (run_setting ledger) ledger.entries (of_run ledger tables is);
      made = made;
      kept = λ isnt.
          ap run_state made ∙ answers_step ledger thread call answer ∙ (asks_to_free (run_setting ledger) (run_state ledger) thread call.op slot.0 slot.1).after answer
          ∙ not_ok (run_setting ledger) (run_state ledger) thread slot.0 answer isnt;
    }
