-- How performing the call of the lowest thread that has a next one goes on.
use Rattle.std.proofs.Common.{◌≡◌, ℕ, ◌<◌, List, [], ◌∷◌, Option, None, Some, sym, ap, ◌∙◌, subst, arith, length, length-append}
use Rattle.std.specs.Prelude.{IsSome}
use Rattle.std.proofs.lemmas.Bool.{false≢true}
use Rattle.case_table.specs.Sizes.{class_for}
use Rattle.shelf.specs.Steps.{chunk_in, taken_any, taken_from}
use Rattle.umem_options.specs.declared.options.Logging.{Logging}
use Rattle.umem_options.specs.declared.options.Options.{Options}
use Rattle.umem_options.specs.Flags.{has_guards}
use Rattle.script.specs.declared.operation.Op.{Op}
use Rattle.script.specs.declared.operation.Op.TheVariants.{Alloc, Zalloc, Free, CacheAlloc, CacheFree, Copy, Clear, Store, Link, Load, Reap}
use Rattle.script.specs.Plan.{Call, Plan, call_count}
use Rattle.plain_heap.specs.declared.entry.Body.{Body}
use Rattle.plain_heap.specs.declared.entry.Body.TheVariants as body
use Rattle.plain_heap.specs.declared.reply.Reply.{Reply}
use Rattle.plain_heap.specs.Answers.{Answers, AreTidy, setting_for}
use Rattle.plain_heap.specs.Calls.{Follows, IsFinished, due_call, turns_made}
use Rattle.plain_heap.specs.Legal.{IsLegal}
use Rattle.plain_heap.specs.Setting.{Setting}
use Rattle.plain_heap.specs.State.{State}
use Rattle.heap_ledger.specs.Ledger.{AreInner, IsLedger, Ledger, run_setting, run_state}
use Rattle.heap_ledger.proofs.CommitLemmas.{one_call, shrinks_are_inner}
use Rattle.heap_accounts.specs.declared.due.Due.{Due}
use Rattle.heap_accounts.specs.declared.turn.Turn.{Turn}
use Rattle.heap_accounts.specs.declared.turn.Turn.TheVariants.{Behind, Made}
use Rattle.heap_accounts.specs.Finish.{GoesOn, IsNextDue, MakesCall}
use Rattle.heap_accounts.specs.Performed.{IsFoundWithin, IsGrown, IsPerformed, IsPerformedRequest}
use Rattle.heap_accounts.specs.Places.{Places, cpu_of, stock_at}
use Rattle.heap_accounts.proofs.AccountsLemmas.{is_left}
use Rattle.heap_accounts.proofs.FinishLemmas.{calls_left, goes_on, next_is_due}
use Rattle.heap_core.specs.Heap.{IsGiven, run_places}
use Rattle.heap_core.specs.Performs.{PerformsTurn}

-- ---- what a call adds before its own entry

module _ (setting : Setting) (state : State) (places : Places) (thread : ℕ) (answer : Reply) where
  none_inner : (inner : List Body) → inner ≡ [] → AreInner inner
  none_inner inner is = subst AreInner (sym is) tt

  grown_inner : (cache : ℕ) (any : Option ℕ) (inner : List Body) → IsGrown setting state cache any inner answer → AreInner inner
  grown_inner cache any [] grows = tt
  grown_inner cache any (body.Grow its base ∷ []) grows = (tt, tt)
  grown_inner cache any (body.Grow its base ∷ (next ∷ inner)) grows = absurd grows
  grown_inner cache any (body.Shrink its base ∷ inner) grows = absurd grows
  grown_inner cache any (body.Call op frames told ∷ inner) grows = absurd grows

  found_inner : (cache : ℕ) (from any : Option ℕ) (inner : List Body) → IsFoundWithin setting state cache from any inner answer → AreInner inner
  found_inner cache (Some chunk) any inner found = none_inner inner found.0
  found_inner cache None any inner found = grown_inner cache any inner found

  chunk_inner : (cache : ℕ) (inner : List Body)
      → IsFoundWithin setting state cache (chunk_in (taken_from (stock_at places cache) (cpu_of setting thread))) (chunk_in (taken_any (stock_at places cache) (cpu_of setting thread))) inner answer → AreInner inner
  chunk_inner cache inner found =
      found_inner cache (chunk_in (taken_from (stock_at places cache) (cpu_of setting thread))) (chunk_in (taken_any (stock_at places cache) (cpu_of setting thread))) inner found

  request_inner : (op : Op) (asked : Option ℕ) (inner : List Body) → IsPerformedRequest setting state places thread op asked inner answer → AreInner inner
  request_inner op None inner performed = none_inner inner performed.0
  request_inner op (Some class) inner performed = chunk_inner class inner performed

  -- what a call adds before its own entry are no calls
  pub performed_inner : (op : Op) (inner : List Body) → IsPerformed setting state places thread op inner answer → AreInner inner
  performed_inner (Alloc slot size) inner performed = request_inner (Alloc slot size) (class_for size) inner performed
  performed_inner (Zalloc slot size) inner performed = request_inner (Zalloc slot size) (class_for size) inner performed
  performed_inner (Free slot size) inner performed = none_inner inner performed.0
  performed_inner (CacheAlloc slot cache) inner performed = chunk_inner cache inner performed
  performed_inner (CacheFree slot cache) inner performed = none_inner inner performed.0
  performed_inner (Copy to from) inner performed = none_inner inner performed.0
  performed_inner (Clear slot) inner performed = none_inner inner performed.0
  performed_inner (Store slot offset stored) inner performed = none_inner inner performed.0
  performed_inner (Link slot offset value) inner performed = none_inner inner performed.0
  performed_inner (Load to slot offset) inner performed = none_inner inner performed.0
  performed_inner Reap inner performed = subst AreInner (sym performed.shrinks) (shrinks_are_inner performed.slabs)

-- ---- a call that is next

-- where a call is due, performing it makes it
pub performs_makes : (old new : Ledger) (thread number : ℕ) (turn : Turn) → IsSome (due_call old.plan old.entries thread number) → PerformsTurn old new thread number turn → MakesCall old new thread
performs_makes old new thread number Behind due performs = absurd (false≢true (subst (λ (o : Option Call). IsSome o) performs.none due))
performs_makes old new thread number (Made answer) due performs = record {
  inner = performs.inner;
  are = performed_inner (run_setting old) (run_state old) (run_places old) thread answer performs.call.op performs.inner performs.performed;
  call = performs.call;
  answer = answer;
  made = performs.made;
}

-- it goes on by the call that is next of the lowest thread, and one call less is left
pub goes_further : (first old new : Ledger) (due : Due) (turn : Turn) → GoesOn first old → IsNextDue old.plan old.entries due → PerformsTurn old new due.thread due.call turn → GoesOn first new
goes_further first old new due turn so_far next performs =
    goes_on first old new due.thread so_far next.lowest (performs_makes old new due.thread due.call turn (next_is_due old due next) performs)

pub less_left : (old new : Ledger) (due : Due) (turn : Turn) → IsLedger old → IsNextDue old.plan old.entries due → PerformsTurn old new due.thread due.call turn → calls_left new < calls_left old
less_left old new due Behind sound next performs = absurd (false≢true (subst (λ (o : Option Call). IsSome o) performs.none (next_is_due old due next)))
less_left old new due (Made answer) sound next performs =
    let are = performed_inner (run_setting old) (run_state old) (run_places old) due.thread answer performs.call.op performs.inner performs.performed in
    let left = is_left old due.thread due.call performs.call performs.due sound in
    let turns = ap (λ (l : Ledger). length (turns_made l.entries)) performs.made ∙ ap length (one_call old due.thread performs.inner performs.call answer are) in
    let plans = ap (λ (l : Ledger). call_count l.plan) performs.made in
    omega (arith, left, turns, plans, length-append (turns_made old.entries) (record { thread = due.thread; call = performs.call } ∷ []))

-- ---- a whole run

-- the ledger of a run that was asked nothing yet
abbrev pub first_ledger : Plan → Options → Logging → Ledger
first_ledger plan options logging = record { plan = plan; options = options; logging = logging; entries = [] }

-- what it goes on to is a run of the same script, which is over where all calls were made
module _ (plan : Plan) (options : Options) (logging : Logging) (first last : Ledger)
    (is : first ≡ first_ledger plan options logging) (goes : GoesOn first last) where
  same_plan : last.plan ≡ plan
  same_plan = goes.plan ∙ ap (λ (l : Ledger). l.plan) is

  same_setting : run_setting last ≡ setting_for (has_guards options) plan
  same_setting =
      ap (λ (o : Options). setting_for (has_guards o) last.plan) (goes.options ∙ ap (λ (l : Ledger). l.options) is)
      ∙ ap (setting_for (has_guards options)) same_plan

  pub run_answers : IsLedger last → IsFinished last.plan last.entries → Answers (has_guards options) plan last.entries
  run_answers sound done = record {
    legal = subst (λ (s : Setting). IsLegal s last.entries) same_setting sound.legal;
    follows = subst (λ (p : Plan). Follows p last.entries) same_plan sound.follows;
    finished = subst (λ (p : Plan). IsFinished p last.entries) same_plan done;
    tidy = subst (λ (s : Setting). AreTidy s last.entries) same_setting sound.tidy;
  }

  -- it was given the same
  pub run_given : IsGiven plan options logging last
  run_given = record {
    plan = same_plan;
    options = goes.options ∙ ap (λ (l : Ledger). l.options) is;
    logging = goes.logging ∙ ap (λ (l : Ledger). l.logging) is;
  }
