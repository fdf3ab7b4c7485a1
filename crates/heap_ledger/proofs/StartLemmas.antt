-- What holds before the first call.
use Rattle.std.proofs.Common.{◌≡◌, ℕ, suc, ◌*◌, ◌<◌, ◌≤◌, Bool, true, false, cond, eqb, List, [], ◌∷◌, length, map, replicate, refl, sym, ap, ◌∙◌, subst, arith, inl, inr}
use Rattle.std.specs.Prelude.{All, sum_by}
use Rattle.std.specs.List.{AllByRecursion}
use Rattle.std.proofs.lemmas.Bool.Decides.{eqb_tells}
use Rattle.std.proofs.lemmas.List.Elements.{All-cons, All-nil}
use Rattle.std.proofs.lemmas.List.Sums.{sum_by-cons}
use Rattle.umem_base.specs.BoundedVec.{BoundedVec}
use Rattle.umem_options.specs.declared.options.Logging.{Logging}
use Rattle.umem_options.specs.declared.options.Options.{Options}
use Rattle.script.specs.declared.tree.Header.{Header}
use Rattle.script.specs.declared.tree.Script.{Script}
use Rattle.script.specs.declared.tree.Step.{Step}
use Rattle.script.specs.Plan.{Call, Turn, call_count, plan_of, turn_of, turns_of}
use Rattle.script.specs.Limits.{most_calls}
use Rattle.script.specs.Rules.{IsPlan, IsTurn}
use Rattle.plain_heap.specs.declared.entry.Entry.{Entry}
use Rattle.heap_ledger.specs.Room.{IsKept}
use Rattle.heap_ledger.specs.Schedule.{AreOfThreads, Schedule, by_thread, first_schedule, settled}
use Rattle.heap_ledger.proofs.RoomLemmas.{first_calls}
use Rattle.heap_ledger.proofs.ScheduleLemmas.{starts}

-- the phases of a plan, by thread
pub phases_dealt : (threads : ℕ) (phases : List (BoundedVec Step)) → map (by_thread threads) (map turns_of phases) ≡ map (λ phase. by_thread threads (turns_of phase)) phases
phases_dealt threads [] = refl
phases_dealt threads (phase ∷ phases) = ap (◌∷◌ (by_thread threads (turns_of phase))) (phases_dealt threads phases)

-- the first schedule, by its parts
pub first_settled : (script : Script) (made : List ℕ) (phase : List (List Call)) (later : List (List (List Call))) → made ≡ replicate script.header.threads 0 → phase ≡ []
    → later ≡ map (λ phase. by_thread script.header.threads (turns_of phase)) script.phases → settled made phase later ≡ first_schedule (plan_of script)
first_settled script made phase later none empty dealt =
    ap (λ (m : List ℕ). settled m phase later) none ∙ ap (λ (p : List (List Call)). settled (replicate script.header.threads 0) p later) empty
    ∙ ap (settled (replicate script.header.threads 0) []) (dealt ∙ sym (phases_dealt script.header.threads script.phases))

no_calls : (header : Header) (turns : List Turn) → AllByRecursion (IsTurn header) turns → AreOfThreads header.threads turns
no_calls header [] are thread past = refl
no_calls header (turn ∷ turns) are thread past = elim (eqb_tells turn.thread thread) [
  | inl is ↦ absurd (omega (arith, is.1, are.0.thread, past))
  | inr isnt ↦ rw isnt.0 (no_calls header turns are.1 thread past)
]

pub each_known : (header : Header) (phases : List (List Turn)) → AllByRecursion (AllByRecursion (IsTurn header)) phases → All (AreOfThreads header.threads) phases
each_known header [] are = All-nil (AreOfThreads header.threads)
each_known header (phase ∷ phases) are = All-cons (AreOfThreads header.threads) phase phases (no_calls header phase are.0) (each_known header phases are.1)

length_of_turns : (steps : List Step) → length (map turn_of steps) ≡ length steps
length_of_turns [] = refl
length_of_turns (step ∷ steps) = ap suc (length_of_turns steps)

-- how many calls a plan has, by its script
pub calls_counted : (phases : List (BoundedVec Step)) → sum_by (λ (phase : BoundedVec Step). length phase.items) phases ≡ sum_by length (map turns_of phases)
calls_counted [] = refl
calls_counted (phase ∷ phases) =
    omega (arith, sum_by-cons (λ (phase : BoundedVec Step). length phase.items) phase phases, sum_by-cons length (turns_of phase) (map turns_of phases), length_of_turns phase.items, calls_counted phases)

pub start_kept : (script : Script) (options : Options) (logging : Logging) (history : BoundedVec Entry) → IsPlan (plan_of script) → history.items ≡ [] → history.spare ≡ 3 * call_count (plan_of script)
    → 3 * call_count (plan_of script) < 4294967296 → IsKept script options logging (first_schedule (plan_of script)) history
start_kept script options logging history is empty spare few = subst (λ (h : BoundedVec Entry). IsKept script options logging (first_schedule (plan_of script)) h) (sym same) (record {
  sound = record { plan = is; legal = λ n entry at. absurd (cc at); follows = λ n entry at. absurd (cc at); tidy = λ n entry at. absurd (cc at) };
  in_order = starts (plan_of script) (each_known (plan_of script).header (plan_of script).phases is.turns);
  room = omega (arith, first_calls (plan_of script), spare);
  few = omega (arith, spare, few);
})
  where
    same : history ≡ record { items = []; spare = history.spare }
    same = ap (λ (items : List Entry). record { items = items; spare = history.spare }) empty

most_few : (version : ℕ) → most_calls version ≤ 131072
most_few version = by (eqb version 2)
  where
    by : (later : Bool) → cond {A = ℕ} later 131072 65536 ≤ 131072
    by true = omega arith
    by false = omega arith

-- the same by what its parts are
pub start_told : (script copy : Script) (options : Options) (logging : Logging) (schedule : Schedule) (history : BoundedVec Entry) (count : ℕ) → IsPlan (plan_of script) → copy ≡ script
    → schedule ≡ first_schedule (plan_of script) → history.items ≡ [] → history.spare ≡ 3 * count → count ≡ call_count (plan_of script) → IsKept copy options logging schedule history
start_told script copy options logging schedule history count is same first empty spare counted =
    let few : 3 * call_count (plan_of script) < 4294967296 = omega (arith, is.calls, most_few (plan_of script).header.version) in
    let kept = start_kept script options logging history is empty (omega (arith, spare, counted)) few in
    subst (λ (s : Script). IsKept s options logging schedule history) (sym same) (subst (λ (s : Schedule). IsKept script options logging s history) (sym first) kept)
