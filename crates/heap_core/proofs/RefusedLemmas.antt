-- A refused free leaves what the entries before it left, and the places.
use Rattle.std.proofs.Common.{◌≡◌, ℕ, true, List, [], Option, Some, None, refl, sym, ap, ◌∙◌, subst}
use Rattle.std.specs.Prelude.{IfSome}
use Rattle.script.specs.declared.operation.Op.{Op}
use Rattle.script.specs.declared.operation.Op.TheVariants.{Alloc, Zalloc, Free, CacheAlloc, CacheFree, Copy, Clear, Store, Link, Load, Reap}
use Rattle.script.specs.Plan.{Call}
use Rattle.plain_heap.specs.declared.entry.Body.{Body}
use Rattle.plain_heap.specs.declared.reply.Reply.{Reply}
use Rattle.plain_heap.specs.declared.reply.Reply.TheVariants as reply
use Rattle.plain_heap.specs.Calls.{due_call}
use Rattle.plain_heap.specs.Setting.{Setting}
use Rattle.plain_heap.specs.State.{State, after_call, after_free, word_of_slot}
use Rattle.heap_ledger.specs.Ledger.{IsLedger, Ledger, after_commit, run_setting, run_state}
use Rattle.heap_ledger.proofs.MayCommitLemmas.{answers_step}
use Rattle.heap_accounts.specs.Kinds.{freed_slot, is_free}
use Rattle.heap_accounts.specs.Performed.{IsPerformed}
use Rattle.heap_accounts.specs.Places.{Places, places_by_free}
use Rattle.heap_accounts.specs.declared.turn.Turn.{Turn}
use Rattle.heap_accounts.specs.declared.turn.Turn.TheVariants.{Behind, Made}
use Rattle.heap_core.specs.Heap.{run_places}
use Rattle.heap_core.specs.Performs.{IsRefusedFree, KeepsRefused, LeavesAll, PerformsCall, PerformsTurn}
use Rattle.heap_core.proofs.BackLemmas.{by_free, free_slot}
use Rattle.heap_core.proofs.NextLemmas.{places_alone}

module _ (setting : Setting) (state : State) (places : Places) (thread : ℕ) where
  -- a free has no inner entries
  none_inner : (op : Op) (slot : ℕ) (inner : List Body) (answer : Reply) → freed_slot op ≡ Some slot → IsPerformed setting state places thread op inner answer → inner ≡ []
  none_inner (Alloc other size) slot inner answer freed performed = absurd (cc freed)
  none_inner (Zalloc other size) slot inner answer freed performed = absurd (cc freed)
  none_inner (Free other size) slot inner answer freed performed = performed.0
  none_inner (CacheAlloc other cache) slot inner answer freed performed = absurd (cc freed)
  none_inner (CacheFree other cache) slot inner answer freed performed = performed.0
  none_inner (Copy to from) slot inner answer freed performed = absurd (cc freed)
  none_inner (Clear other) slot inner answer freed performed = absurd (cc freed)
  none_inner (Store other offset stored) slot inner answer freed performed = absurd (cc freed)
  none_inner (Link other offset value) slot inner answer freed performed = absurd (cc freed)
  none_inner (Load to other offset) slot inner answer freed performed = absurd (cc freed)
  none_inner Reap slot inner answer freed performed = absurd (cc freed)

  -- what a free leaves
  left_by : (op : Op) (slot : ℕ) (answer : Reply) → freed_slot op ≡ Some slot → after_call setting state thread op answer ≡ after_free setting state thread slot answer
  left_by (Alloc other size) slot answer freed = absurd (cc freed)
  left_by (Zalloc other size) slot answer freed = absurd (cc freed)
  left_by (Free other size) slot answer freed = let same : other ≡ slot = cc freed in ap (λ s. after_free setting state thread s answer) same
  left_by (CacheAlloc other cache) slot answer freed = absurd (cc freed)
  left_by (CacheFree other cache) slot answer freed = let same : other ≡ slot = cc freed in ap (λ s. after_free setting state thread s answer) same
  left_by (Copy to from) slot answer freed = absurd (cc freed)
  left_by (Clear other) slot answer freed = absurd (cc freed)
  left_by (Store other offset stored) slot answer freed = absurd (cc freed)
  left_by (Link other offset value) slot answer freed = absurd (cc freed)
  left_by (Load to other offset) slot answer freed = absurd (cc freed)
  left_by Reap slot answer freed = absurd (cc freed)

  -- a refused one leaves all
  state_left : (slot : ℕ) (answer : Reply) → (answer ≡ reply.Ok → ⊥) → after_free setting state thread slot answer ≡ state
  state_left slot reply.Ok isnt = absurd (isnt refl)
  state_left slot other isnt = refl

  places_left : (word : ℕ) (answer : Reply) → (answer ≡ reply.Ok → ⊥) → places_by_free setting state places thread word answer ≡ places
  places_left word reply.Ok isnt = absurd (isnt refl)
  places_left word other isnt = refl

module _ (old new : Ledger) (thread number : ℕ) (legal : IsLedger old) where
  leaves_all : (answer : Reply) → (performs : PerformsCall old new thread number answer) → IsRefusedFree performs.call.op answer → LeavesAll old new
  leaves_all answer performs refused =
      let setting = run_setting old in
      let state = run_state old in
      let places = run_places old in
      let op = performs.call.op in
      let its = free_slot setting state thread op refused.0 in
      let slot = its.0 in
      let none = none_inner setting state places thread op slot performs.inner answer its.1 performs.performed in
      let made : new ≡ after_commit old thread [] performs.call answer = performs.made ∙ ap (λ (l : List Body). after_commit old thread l performs.call answer) none in
      record {
        state = ap run_state made ∙ answers_step old thread performs.call answer ∙ left_by setting state places thread op slot answer its.1 ∙ state_left setting state places thread slot answer refused.1;
        places =
            places_alone old new thread performs.call answer legal made ∙ by_free setting state thread op places answer slot its.1
            ∙ places_left setting state places thread (word_of_slot state thread slot) answer refused.1;
      }

  -- what is performed keeps all at a refused free
  pub keeps_refused : (turn : Turn) → PerformsTurn old new thread number turn → KeepsRefused old new thread number turn
  keeps_refused Behind performs = tt
  keeps_refused (Made answer) performs =
      subst (λ (o : Option Call). IfSome o (λ call. IsRefusedFree call.op answer → LeavesAll old new)) (sym performs.due) (leaves_all answer performs)
