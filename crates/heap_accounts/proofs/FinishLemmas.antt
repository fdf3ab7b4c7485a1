-- How a run goes on by the calls of the lowest threads.
use Rattle.std.proofs.Common.{◌≡◌, ℕ, zero, suc, ◌+◌, ◌-◌, ◌<◌, ◌≤◌, inl, inr, Bool, true, false, cond, eqb, List, [], ◌∷◌, ◌++◌, length, take, Option, Some, None, refl, sym, ap, ◌∙◌, subst, arith}
use Rattle.std.specs.Prelude.{IsSome, option_map}
use Rattle.std.specs.List.{slice_get}
use Rattle.std.specs.Option.{option_and_then}
use Rattle.std.proofs.lemmas.Bool.Decides.{eqb_tells}
use Rattle.std.proofs.lemmas.List.{append-nil, append_assoc, length-append}
use Rattle.std.proofs.Math.Seq.{take-append-add}
use Rattle.script.specs.declared.operation.Op.{Op}
use Rattle.script.specs.Plan.{Call, Plan, Turn as PlanTurn, call_count}
use Rattle.plain_heap.specs.declared.entry.Body.{Body}
use Rattle.plain_heap.specs.declared.entry.Body.TheVariants as body
use Rattle.plain_heap.specs.declared.entry.Entry.{Entry}
use Rattle.plain_heap.specs.declared.reply.Reply.{Reply}
use Rattle.plain_heap.specs.declared.reply.Reply.TheVariants as reply
use Rattle.plain_heap.specs.Calls.{due_call, next_call, next_in, number_of_calls, turns_in_body, turns_made}
use Rattle.plain_heap.proofs.EntryLemmas.{get_either, take_front}
use Rattle.heap_ledger.specs.Ledger.{AreInner, IsInner, IsLedger, Ledger, commit_entries, entry, grown, inner_entries, shrunk}
use Rattle.heap_ledger.proofs.CommitLemmas.{made_append, one_call, shrinks_are_inner}
use Rattle.heap_ledger.proofs.PlanLemmas.{made_few}
use Rattle.heap_accounts.specs.declared.asked.Asked.{Asked}
use Rattle.heap_accounts.specs.declared.asked.Asked.TheVariants as asked
use Rattle.heap_accounts.specs.declared.due.Due.{Due}
use Rattle.heap_accounts.specs.declared.freed.Freed.{Freed}
use Rattle.heap_accounts.specs.declared.freed.Freed.TheVariants as freed
use Rattle.heap_accounts.specs.declared.last.Last.{Last}
use Rattle.heap_accounts.specs.declared.last.Last.TheVariants as last
use Rattle.heap_accounts.specs.declared.turn.Turn.{Turn}
use Rattle.heap_accounts.specs.declared.turn.Turn.TheVariants as turn
use Rattle.heap_accounts.specs.Asked.{asked_of}
use Rattle.heap_accounts.specs.Finish.{GoesOn, IsLowestNext, IsNextDue, IsOfLowest, MakesCall}
use Rattle.heap_accounts.specs.Grows.{fresh_slab}
use Rattle.heap_accounts.specs.Kinds.{is_chunk_call, is_free, is_large, is_plain_call, is_reap_call}
use Rattle.heap_accounts.specs.Laws.{IsOfKindAsked}
use Rattle.heap_accounts.specs.Turns.{TakesFree, TakesLast, TakesReap, TakesTurn, Waits, due_of}
use Rattle.heap_accounts.proofs.AskedLemmas.{asked_kind}

-- it goes on by nothing
pub goes_still : (ledger : Ledger) → GoesOn ledger ledger
goes_still ledger = record {
  plan = refl;
  options = refl;
  logging = refl;
  added = [];
  entries = sym (append-nil ledger.entries);
  lowest = λ n e at. absurd (cc at);
}

-- ---- the entries of a commit

-- the same turns have the same lowest thread
same_turns : (plan : Plan) (one other : List Entry) (thread : ℕ) → turns_made other ≡ turns_made one → IsLowestNext plan one thread → IsLowestNext plan other thread
same_turns plan one other thread same is =
    let call : (t : ℕ) → next_call plan other t ≡ next_call plan one t = λ t. ap (λ (turns : List PlanTurn). next_in [] plan.phases turns t) same in
    record {
      next = subst (λ (o : Option Call). IsSome o) (sym (call thread)) is.next;
      lower = λ low lt. call low ∙ is.lower low lt;
    }

module _ (plan : Plan) (thread : ℕ) where
  of_inner : (before : List Entry) (inner : Body) → IsInner inner → IsOfLowest plan before thread inner
  of_inner before (body.Call op frames answer) is = absurd is
  of_inner before (body.Grow cache base) is = tt
  of_inner before (body.Shrink cache base) is = tt

  no_turn : (inner : Body) → IsInner inner → turns_in_body thread inner ≡ []
  no_turn (body.Call op frames answer) is = absurd is
  no_turn (body.Grow cache base) is = refl
  no_turn (body.Shrink cache base) is = refl

  of_last : (before : List Entry) (final : Entry) → final.thread ≡ thread → IsLowestNext plan before thread → IsOfLowest plan before final.thread final.body
  of_last before final its is = by final.body
    where
      by : (content : Body) → IsOfLowest plan before final.thread content
      by (body.Call op frames answer) = subst (IsLowestNext plan before) (sym its) is
      by (body.Grow cache base) = tt
      by (body.Shrink cache base) = tt

  -- inner entries, and one of the thread behind them
  of_entries : (inner : List Body) (before : List Entry) (number : ℕ) (final : Entry) → AreInner inner → final.thread ≡ thread → IsLowestNext plan before thread
      → (n : ℕ) (e : Entry) → slice_get (inner_entries number thread inner ++ final ∷ []) n ≡ Some e
      → IsOfLowest plan (before ++ take n (inner_entries number thread inner ++ final ∷ [])) e.thread e.body
  of_entries [] before number final are its is zero e at =
      let same : final ≡ e = cc at in
      subst (λ (x : Entry). IsOfLowest plan (before ++ []) x.thread x.body) same
      (subst (λ (l : List Entry). IsOfLowest plan l final.thread final.body) (sym (append-nil before)) (of_last before final its is))
  of_entries [] before number final are its is (suc n) e at = absurd (cc at)
  of_entries (first ∷ inner) before number final are its is zero e at =
      let same : entry number thread first ≡ e = cc at in
      subst (λ (x : Entry). IsOfLowest plan (before ++ []) x.thread x.body) same (of_inner (before ++ []) first are.0)
  of_entries (first ∷ inner) before number final are its is (suc n) e at =
      let one = entry number thread first in
      let turns : turns_made (before ++ one ∷ []) ≡ turns_made before = made_append before (one ∷ [])
      ∙ ap (λ (turns : List PlanTurn). turns_made before ++ (turns ++ [])) (no_turn first are.0) ∙ append-nil (turns_made before) in
      let rest = of_entries inner (before ++ one ∷ []) (number + 1) final are.1 its (same_turns plan before (before ++ one ∷ []) thread turns is) n e at in
      subst (λ (l : List Entry). IsOfLowest plan l e.thread e.body) (append_assoc before (one ∷ []) (take n (inner_entries (number + 1) thread inner ++ final ∷ []))) rest

-- ---- one call more

-- it goes on by a call of the lowest thread
pub goes_on : (first ledger new : Ledger) (thread : ℕ) → GoesOn first ledger → IsLowestNext ledger.plan ledger.entries thread → MakesCall ledger new thread → GoesOn first new
goes_on first ledger new thread so_far is makes =
    let commit = commit_entries (length ledger.entries) thread makes.inner makes.call makes.answer in
    let made = makes.made in
    record {
      plan = ap (λ (l : Ledger). l.plan) made ∙ so_far.plan;
      options = ap (λ (l : Ledger). l.options) made ∙ so_far.options;
      logging = ap (λ (l : Ledger). l.logging) made ∙ so_far.logging;
      added = so_far.added ++ commit;
      entries = ap (λ (l : Ledger). l.entries) made ∙ ap (λ (l : List Entry). l ++ commit) so_far.entries ∙ append_assoc first.entries so_far.added commit;
      lowest = λ n e at. elim (get_either so_far.added commit n e at) [
        | inl here ↦ subst (λ (l : List Entry). IsOfLowest first.plan (first.entries ++ l) e.thread e.body) (sym (take_front so_far.added commit n e here)) (so_far.lowest n e here)
        | inr there ↦ behind n e there.0 there.1 there.2
      ];
    }
  where
    behind : (n : ℕ) (e : Entry) (k : ℕ) → n ≡ length so_far.added + k → slice_get (commit_entries (length ledger.entries) thread makes.inner makes.call makes.answer) k ≡ Some e
        → IsOfLowest first.plan (first.entries ++ take n (so_far.added ++ commit_entries (length ledger.entries) thread makes.inner makes.call makes.answer)) e.thread e.body
    behind n e k split at =
        let commit = commit_entries (length ledger.entries) thread makes.inner makes.call makes.answer in
        let final = entry (length ledger.entries + length makes.inner) thread (body.Call makes.call.op makes.call.frames makes.answer) in
        let its = of_entries ledger.plan thread makes.inner ledger.entries (length ledger.entries) final makes.are refl is k e at in
        let where_is : ledger.entries ++ take k commit ≡ first.entries ++ take n (so_far.added ++ commit) =
        ap (λ (l : List Entry). l ++ take k commit) so_far.entries ∙ append_assoc first.entries so_far.added (take k commit)
        ∙ ap (λ (l : List Entry). first.entries ++ l) (sym (ap (λ i. take i (so_far.added ++ commit)) split ∙ take-append-add so_far.added commit k)) in
        subst (λ (l : List Entry). IsOfLowest first.plan l e.thread e.body) where_is (subst (λ (p : Plan). IsOfLowest p (ledger.entries ++ take k commit) e.thread e.body) so_far.plan its)

-- ---- the commit of what is asked

some_of : (o : Option Call) → IsSome o → (call : Call) × (o ≡ Some call)
some_of None is = absurd (cc is)
some_of (Some call) is = (call, refl)

eqb_self : (n : ℕ) → eqb n n ≡ true
eqb_self n = elim (eqb_tells n n) [ inl is ↦ is.0 | inr isnt ↦ absurd (isnt.1 refl) ]

-- a call that is next is due by its number
pub next_is_due : (ledger : Ledger) (due : Due) → IsNextDue ledger.plan ledger.entries due → IsSome (due_call ledger.plan ledger.entries due.thread due.call)
next_is_due ledger due is =
    let made = number_of_calls due.thread (turns_made ledger.entries) in
    let call = next_call ledger.plan ledger.entries due.thread in
    let same : eqb made due.call ≡ true = ap (eqb made) is.number ∙ eqb_self made in
    subst (λ (o : Option Call). IsSome o) (sym (ap (λ (b : Bool). cond b call None) same)) is.lowest.next

module _ (ledger : Ledger) (thread number : ℕ) where
  -- a call of a kind is due
  pub record IsDueOf (kind : Op → Bool) : Type 0 where
    pub call : Call
    pub due : due_of kind ledger thread number ≡ Some call

  due_kind : (kind : Op → Bool) (call : Call) → due_call ledger.plan ledger.entries thread number ≡ Some call → kind call.op ≡ true → IsDueOf kind
  due_kind kind call due is = record {
    call = call;
    due = ap (option_and_then (λ (c : Call). cond (kind c.op) (Some c) None)) due ∙ ap (λ (b : Bool). cond b (Some call) None) is;
  }

  -- the operation that is due is of the kind that is asked
  abbrev pub IsDueAs : Asked → Type 0
  IsDueAs asked.Plain = IsDueOf is_plain_call
  IsDueAs asked.Large = IsDueOf is_large
  IsDueAs (asked.Chunk cache) = IsDueOf is_chunk_call
  IsDueAs asked.Free = IsDueOf is_free
  IsDueAs asked.Reap = IsDueOf is_reap_call

  due_as : (call : Call) → due_call ledger.plan ledger.entries thread number ≡ Some call → (wanted : Asked) → IsOfKindAsked call.op wanted → IsDueAs wanted
  due_as call due asked.Plain is = due_kind is_plain_call call due is
  due_as call due asked.Large is = due_kind is_large call due is
  due_as call due (asked.Chunk cache) is = due_kind is_chunk_call call due is.0
  due_as call due asked.Free is = due_kind is_free call due is
  due_as call due asked.Reap is = due_kind is_reap_call call due is

  pub asked_is_due : (wanted : Asked) → option_map (λ (c : Call). asked_of c.op) (due_call ledger.plan ledger.entries thread number) ≡ Some wanted → IsDueAs wanted
  asked_is_due wanted is = by (due_call ledger.plan ledger.entries thread number) refl is
    where
      by : (o : Option Call) → due_call ledger.plan ledger.entries thread number ≡ o → option_map (λ (c : Call). asked_of c.op) o ≡ Some wanted → IsDueAs wanted
      by None due its = absurd (cc its)
      by (Some call) due its =
          let same : asked_of call.op ≡ wanted = cc its in
          due_as call due wanted (subst (IsOfKindAsked call.op) same (asked_kind call.op))

  pub none_is_asked : IsSome (due_call ledger.plan ledger.entries thread number) → option_map (λ (c : Call). asked_of c.op) (due_call ledger.plan ledger.entries thread number) ≡ None → ⊥
  none_is_asked some none =
      let found = some_of (due_call ledger.plan ledger.entries thread number) some in
      none_some (sym none ∙ ap (option_map (λ (c : Call). asked_of c.op)) found.1)
    where
      none_some : {a : Asked} → None ≡ Some a → ⊥
      none_some e = cc e

  module _ (new : Ledger) where
    not_due : (kind : Op → Bool) → IsDueOf kind → Waits kind ledger new thread number → ⊥
    not_due kind is waits = none_some (sym waits.none ∙ is.due)
      where
        none_some : {c : Call} → None ≡ Some c → ⊥
        none_some e = cc e

    pub turn_makes : (kind : Op → Bool) (answer : Turn) → IsDueOf kind → TakesTurn kind ledger new thread number answer → MakesCall ledger new thread
    turn_makes kind turn.Behind is waits = absurd (not_due kind is waits)
    turn_makes kind (turn.Made answer) is makes = record { inner = []; are = tt; call = makes.call; answer = answer; made = makes.made }

    pub free_makes : (answer : Freed) → IsDueOf is_free → TakesFree ledger new thread number answer → MakesCall ledger new thread
    free_makes freed.Behind is waits = absurd (not_due is_free is waits)
    free_makes (freed.Made answer round) is makes = record { inner = []; are = tt; call = makes.call; answer = answer; made = makes.made }

    pub last_makes : (answer : Last) → IsDueOf is_chunk_call → TakesLast ledger new thread number answer → MakesCall ledger new thread
    last_makes last.Behind is waits = absurd (not_due is_chunk_call is waits)
    last_makes (last.Made answer None) is makes = record { inner = []; are = tt; call = makes.call; answer = answer; made = makes.made }
    last_makes (last.Made answer (Some fresh)) is grows =
        let makes = grows.makes in
        record { inner = grown (fresh_slab makes.request.cache fresh) ∷ []; are = (tt, tt); call = makes.call; answer = answer; made = makes.made }

    pub reap_makes : (answer : Turn) → IsDueOf is_reap_call → TakesReap ledger new thread number answer → MakesCall ledger new thread
    reap_makes turn.Behind is waits = absurd (not_due is_reap_call is waits)
    reap_makes (turn.Made answer) is makes = record { inner = shrunk makes.slabs; are = shrinks_are_inner makes.slabs; call = makes.call; answer = reply.Ok; made = makes.made }

-- ---- the calls that are left

-- how many calls of the plan are left
abbrev pub calls_left : Ledger → ℕ
calls_left ledger = call_count ledger.plan - length (turns_made ledger.entries)

-- a call more leaves one less
pub fewer_left : (ledger new : Ledger) (thread : ℕ) → IsLedger new → MakesCall ledger new thread → calls_left new < calls_left ledger
fewer_left ledger new thread sound makes =
    let plan : new.plan ≡ ledger.plan = ap (λ (l : Ledger). l.plan) makes.made in
    let plans : call_count new.plan ≡ call_count ledger.plan = ap call_count plan in
    let few = made_few new.plan new.entries sound.plan sound.follows in
    let turns = ap (λ (l : Ledger). length (turns_made l.entries)) makes.made ∙ ap length (one_call ledger thread makes.inner makes.call makes.answer makes.are) in
    omega (arith, few, plans, turns, length-append (turns_made ledger.entries) (record { thread = thread; call = makes.call } ∷ []))
