-- A commit keeps what a ledger keeps: the order of the calls, legality, and room for what may still come.
use Rattle.std.proofs.Common.{◌≡◌, ℕ, ◌+◌, ◌<◌, ◌≤◌, eqb, List, [], ◌∷◌, ◌++◌, length, drop, Option, Some, None, refl, sym, ap, ◌∙◌, subst, arith, inl, inr}
use Rattle.std.specs.Prelude.{IfSome, IsSome, filter, slice_get, slice_index}
use Rattle.std.proofs.lemmas.Bool.Decides.{eqb_tells, leb_tells}
use Rattle.std.proofs.lemmas.Grind.{flat_map-append}
use Rattle.std.proofs.lemmas.List.{append-nil, append_assoc, length-append, length-map}
use Rattle.std.proofs.lemmas.List.Elements.{All-head}
use Rattle.std.proofs.Math.ListN.{drop_of_length-le}
use Rattle.umem_base.specs.BoundedVec.{BoundedVec}
use Rattle.umem_options.specs.declared.options.Logging.{Logging}
use Rattle.umem_options.specs.declared.options.Options.{Options}
use Rattle.script.specs.declared.tree.Script.{Script}
use Rattle.script.specs.Plan.{Call, Plan, Turn, plan_of}
use Rattle.plain_heap.specs.declared.entry.Body.{Body}
use Rattle.plain_heap.specs.declared.entry.Body.TheVariants as body
use Rattle.plain_heap.specs.declared.entry.Entry.{Entry}
use Rattle.plain_heap.specs.declared.reply.Reply.{Reply}
use Rattle.plain_heap.specs.Calls.{Follows, IsNext, calls_of, next_call, next_in, number_of_calls, turns_in_body, turns_made}
use Rattle.plain_heap.proofs.EntryLemmas.{follows_grow}
use Rattle.heap_ledger.specs.declared.slab_at.SlabAt.{SlabAt}
use Rattle.heap_ledger.specs.Ledger.{AreInner, IsInner, IsLedger, KeepsLegal, Ledger, after_commit, commit_entries, entry, inner_entries, run_setting, shrunk}
use Rattle.heap_ledger.specs.Laws.{CommitsCountOneCall, CommitsMakeOneCall}
use Rattle.heap_ledger.specs.Room.{IsKept, ledger_of}
use Rattle.heap_ledger.specs.Schedule.{AreOfThreads, IsScheduleOf, Schedule, after_take, first_left}
use Rattle.heap_ledger.proofs.EntriesLemmas.{inner_count}
use Rattle.heap_ledger.proofs.RoomLemmas.{one_taken, shrunk_after, standing}
use Rattle.heap_ledger.proofs.ScheduleLemmas.{first_is_next, one_more, takes}

-- ---- inner entries

no_turn : (thread : ℕ) (inner : Body) → IsInner inner → turns_in_body thread inner ≡ []
no_turn thread (body.Call op frames answer) is = absurd is
no_turn thread (body.Grow cache base) is = refl
no_turn thread (body.Shrink cache base) is = refl

no_turns : (number thread : ℕ) (inner : List Body) → AreInner inner → turns_made (inner_entries number thread inner) ≡ []
no_turns number thread [] are = refl
no_turns number thread (first ∷ inner) are =
    ap (λ (turns : List Turn). turns ++ turns_made (inner_entries (number + 1) thread inner)) (no_turn thread first are.0) ∙ no_turns (number + 1) thread inner are.1

pub made_append : (one other : List Entry) → turns_made (one ++ other) ≡ turns_made one ++ turns_made other
made_append one other = flat_map-append (λ (e : Entry). turns_in_body e.thread e.body) one other

-- the turns after a commit
pub made_after : (entries : List Entry) (number thread : ℕ) (inner : List Body) (call : Call) (answer : Reply) → AreInner inner
    → turns_made (entries ++ commit_entries number thread inner call answer) ≡ turns_made entries ++ record { thread = thread; call = call } ∷ []
made_after entries number thread inner call answer are =
    let last = entry (number + length inner) thread (body.Call call.op call.frames answer) ∷ [] in
    made_append entries (inner_entries number thread inner ++ last)
    ∙ ap (λ (turns : List Turn). turns_made entries ++ turns) (made_append (inner_entries number thread inner) last ∙ ap (λ (turns : List Turn). turns ++ turns_made last) (no_turns number thread inner are))

-- ---- following the plan

inner_is_next : (plan : Plan) (entries : List Entry) (thread : ℕ) (inner : Body) → IsInner inner → IsNext plan entries thread inner
inner_is_next plan entries thread (body.Call op frames answer) is = absurd is
inner_is_next plan entries thread (body.Grow cache base) is = tt
inner_is_next plan entries thread (body.Shrink cache base) is = tt

follows_inner : (plan : Plan) (entries : List Entry) (number thread : ℕ) (inner : List Body) → AreInner inner → Follows plan entries → Follows plan (entries ++ inner_entries number thread inner)
follows_inner plan entries number thread [] are follows = subst (Follows plan) (sym (append-nil entries)) follows
follows_inner plan entries number thread (first ∷ inner) are follows =
    let one = entry number thread first in
    let longer = follows_grow plan entries one follows (inner_is_next plan entries thread first are.0) in
    subst (Follows plan) (append_assoc entries (one ∷ []) (inner_entries (number + 1) thread inner)) (follows_inner plan (entries ++ one ∷ []) (number + 1) thread inner are.1 longer)

follows_commit : (plan : Plan) (entries : List Entry) (number thread : ℕ) (inner : List Body) (call : Call) (answer : Reply) → AreInner inner → Follows plan entries
    → next_call plan entries thread ≡ Some call → Follows plan (entries ++ commit_entries number thread inner call answer)
follows_commit plan entries number thread inner call answer are follows next =
    let front = inner_entries number thread inner in
    let last = entry (number + length inner) thread (body.Call call.op call.frames answer) in
    let same : turns_made (entries ++ front) ≡ turns_made entries = made_append entries front ∙ ap (λ (turns : List Turn). turns_made entries ++ turns) (no_turns number thread inner are) ∙ append-nil (turns_made entries) in
    let its : next_call plan (entries ++ front) thread ≡ Some call = next_by_turns plan entries (entries ++ front) thread same ∙ next in
    subst (Follows plan) (append_assoc entries front (last ∷ [])) (follows_grow plan (entries ++ front) last (follows_inner plan entries number thread inner are follows) its)
  where
    next_by_turns : (plan : Plan) (one other : List Entry) (thread : ℕ) → turns_made other ≡ turns_made one → next_call plan other thread ≡ next_call plan one thread
    next_by_turns plan one other thread same = ap (λ (turns : List Turn). next_in [] plan.phases turns thread) same

-- ---- counts

turns_few : (entries : List Entry) → length (turns_made entries) ≤ length entries
turns_few [] = omega arith
turns_few (first ∷ entries) = omega (arith, length-append (turns_in_body first.thread first.body) (turns_made entries), one_at_most first.thread first.body, turns_few entries)
  where
    one_at_most : (thread : ℕ) (content : Body) → length (turns_in_body thread content) ≤ 1
    one_at_most thread (body.Call op frames answer) = omega arith
    one_at_most thread (body.Grow cache base) = omega arith
    one_at_most thread (body.Shrink cache base) = omega arith

number_few : (thread : ℕ) (turns : List Turn) → number_of_calls thread turns ≤ length turns
number_few thread turns = omega (arith, length-map (filter (λ (turn : Turn). eqb turn.thread thread) turns) (λ (turn : Turn). turn.call), kept turns)
  where
    kept : (turns : List Turn) → length (filter (λ (turn : Turn). eqb turn.thread thread) turns) ≤ length turns
    kept [] = omega arith
    kept (turn ∷ turns) = elim (eqb_tells turn.thread thread) [
      | inl is ↦ rw is.0 (omega (arith, kept turns))
      | inr isnt ↦ rw isnt.0 (omega (arith, kept turns))
    ]

-- ---- a commit

some_of : (o : Option Call) → IsSome o → (call : Call) × (o ≡ Some call)
some_of None some = absurd (cc some)
some_of (Some call) some = (call, refl)

module _ (script : Script) (options : Options) (logging : Logging) (schedule : Schedule) (history : BoundedVec Entry) (kept : IsKept script options logging schedule history) (thread : ℕ) where
  -- the first call that is left is the next one of the plan
  pub first_told : first_left schedule.phase thread ≡ next_call (plan_of script) history.items thread
  first_told = first_is_next (plan_of script) (turns_made history.items) schedule kept.in_order thread

  pub within : (call : Call) → first_left schedule.phase thread ≡ Some call → thread < (plan_of script).header.threads
  within call first = elim (leb_tells (plan_of script).header.threads thread) [
    | inl past ↦
        let turns = kept.in_order.done ++ kept.in_order.phase in
        let no_calls : calls_of thread turns ≡ [] = All-head (AreOfThreads (plan_of script).header.threads) turns kept.in_order.later kept.in_order.known thread past.1 in
        let none : first_left schedule.phase thread ≡ None =
        ap (λ (calls : List Call). slice_get calls 0) (kept.in_order.left thread ∙ ap (drop (number_of_calls thread (turns_made history.items))) no_calls ∙ drop_of_length-le [] (omega arith)) in
        absurd (cc (first, none))
    | inr below ↦ below.1
  ]

  pub due : (old : Ledger) → ledger_of script options logging history.items ≡ old → IsSome (next_call old.plan old.entries thread) → IsSome (first_left schedule.phase thread)
  due old is some =
      subst (λ (o : Option Call). IsSome o) (sym first_told) (subst (λ (l : Ledger). IsSome (next_call l.plan l.entries thread)) (sym is) some)

  pub known : IsSome (first_left schedule.phase thread) → thread < length schedule.made
  known some = let found = some_of (first_left schedule.phase thread) some in omega (arith, within found.0 found.1, kept.in_order.threads)

  pub few : IsSome (first_left schedule.phase thread) → slice_index schedule.made thread + 1 < 4294967296
  few some =
      let found = some_of (first_left schedule.phase thread) some in
      let call = found.0 in
      let first = found.1 in
      omega (arith, kept.in_order.counts thread (within call first), number_few thread (turns_made history.items), turns_few history.items, one_taken schedule thread call first, kept.room, kept.few)

  -- the longer history is legal and tidy
  pub keeps : (old : Ledger) (inner : List Body) (call : Call) (answer : Reply) → ledger_of script options logging history.items ≡ old → first_left schedule.phase thread ≡ Some call
      → IfSome (next_call old.plan old.entries thread) (KeepsLegal old thread inner answer) → KeepsLegal (ledger_of script options logging history.items) thread inner answer call
  keeps old inner call answer is first legal =
      subst (λ (o : Option Call). IfSome o (KeepsLegal (ledger_of script options logging history.items) thread inner answer)) (sym first_told ∙ first)
      (subst (λ (l : Ledger). IfSome (next_call l.plan l.entries thread) (KeepsLegal l thread inner answer)) (sym is) legal)

  -- there is room for as many shrinks as there are slabs, and for three entries more
  pub shrinks_fit : (slabs : List SlabAt) (call : Call) (answer : Reply) → first_left schedule.phase thread ≡ Some call
      → KeepsLegal (ledger_of script options logging history.items) thread (shrunk slabs) answer call → length slabs + 3 ≤ history.spare
  shrinks_fit slabs call answer first keeps =
      omega (
        arith,
        shrunk_after (run_setting (ledger_of script options logging history.items)) slabs history.items (length history.items) thread call answer keeps.legal,
        one_taken schedule thread call first,
        kept.room,
      )

  -- what a commit leaves
  pub returned : (old new : Ledger) (inner : List Body) (call : Call) (answer : Reply) → ledger_of script options logging history.items ≡ old → first_left schedule.phase thread ≡ Some call
      → new ≡ after_commit (ledger_of script options logging history.items) thread inner call answer
      → IfSome (next_call old.plan old.entries thread) (λ call. new ≡ after_commit old thread inner call answer)
  returned old new inner call answer is first leaves =
      subst (λ (l : Ledger). IfSome (next_call l.plan l.entries thread) (λ call. new ≡ after_commit l thread inner call answer)) is
      (subst (λ (o : Option Call). IfSome o (λ call. new ≡ after_commit (ledger_of script options logging history.items) thread inner call answer)) (sym (sym first_told ∙ first)) leaves)

  -- what a ledger keeps after a commit
  pub commit_kept : (inner : List Body) (call : Call) (answer : Reply) (new : BoundedVec Entry) → AreInner inner → first_left schedule.phase thread ≡ Some call
      → KeepsLegal (ledger_of script options logging history.items) thread inner answer call
      → new.items ≡ history.items ++ commit_entries (length history.items) thread inner call answer → new.spare + (length inner + 1) ≡ history.spare
      → standing (run_setting (ledger_of script options logging history.items)) (history.items ++ commit_entries (length history.items) thread inner call answer) + length inner
      ≤ standing (run_setting (ledger_of script options logging history.items)) history.items + 2
      → IsKept script options logging (after_take schedule thread) new
  commit_kept inner call answer new are first keeps is spare stands =
      let plan = plan_of script in
      let after = history.items ++ commit_entries (length history.items) thread inner call answer in
      let next : next_call plan history.items thread ≡ Some call = sym first_told ∙ first in
      let count : length after ≡ length history.items + (length inner + 1) =
      omega (
        arith,
        length-append history.items (commit_entries (length history.items) thread inner call answer),
        length-append (inner_entries (length history.items) thread inner) (entry (length history.items + length inner) thread (body.Call call.op call.frames answer) ∷ []),
        inner_count (length history.items) thread inner,
      ) in
      let made : turns_made after ≡ turns_made history.items ++ record { thread = thread; call = call } ∷ [] = made_after history.items (length history.items) thread inner call answer are in
      let order = takes plan (turns_made history.items) schedule thread call kept.in_order (within call first) first in
      record {
        sound = subst (λ (l : List Entry). IsLedger (ledger_of script options logging l)) (sym is) (record {
          plan = kept.sound.plan;
          legal = keeps.legal;
          follows = follows_commit plan history.items (length history.items) thread inner call answer are kept.sound.follows next;
          tidy = keeps.tidy;
        });
        in_order = subst (λ (l : List Entry). IsScheduleOf plan (turns_made l) (after_take schedule thread)) (sym is)
            (subst (λ (turns : List Turn). IsScheduleOf plan turns (after_take schedule thread)) (sym made) order);
        room = omega (arith, one_taken schedule thread call first, kept.room, stands, spare, ap (standing (run_setting (ledger_of script options logging history.items))) is);
        few = omega (arith, ap length is, count, kept.few, spare);
      }

pub shrinks_are_inner : (slabs : List SlabAt) → AreInner (shrunk slabs)
shrinks_are_inner [] = tt
shrinks_are_inner (slab ∷ slabs) = (tt, shrinks_are_inner slabs)

-- ---- the calls of a commit

pub one_call : CommitsMakeOneCall
one_call ledger thread inner call answer are = made_after ledger.entries (length ledger.entries) thread inner call answer are

pub one_counted : CommitsCountOneCall
one_counted ledger thread other inner call answer are =
    ap (number_of_calls other) (one_call ledger thread inner call answer are) ∙ one_more thread other call (turns_made ledger.entries)
