-- Two placed histories that answer one plan of one thread are one.
use Rattle.std.proofs.Common.{◌≡◌, ℕ, ◌<◌, Bool, cond, eqb, List, [], ◌∷◌, ◌++◌, length, map, take, refl, sym, ap, ◌∙◌, subst, arith}
use Rattle.std.specs.Prelude.{filter}
use Rattle.std.specs.List.{AllByRecursion, slice_get}
use Rattle.std.proofs.lemmas.List.{append_assoc}
use Rattle.std.proofs.Math.Seq.{take-append_seam}
use Rattle.script.specs.Plan.{Call, Plan, Turn}
use Rattle.script.specs.Rules.{IsPlan}
use Rattle.plain_heap.specs.declared.entry.Body.{Body}
use Rattle.plain_heap.specs.declared.entry.Body.TheVariants as body
use Rattle.plain_heap.specs.declared.entry.Entry.{Entry}
use Rattle.plain_heap.specs.Answers.{setting_for}
use Rattle.plain_heap.specs.Calls.{Follows, IsNext, calls_of, turns_in_body, turns_made}
use Rattle.heap_ledger.proofs.PlanLemmas.{next_keeps}
use Rattle.heap_accounts.specs.Laws.{PlansOfOneThreadDecide}
use Rattle.heap_accounts.proofs.CommitLemmas.{histories_one}
use Rattle.heap_accounts.proofs.PlacingLemmas.{get_here}

-- each turn is one of the header's threads
abbrev AreWithin : ℕ → List Turn → Type 0
AreWithin threads turns = AllByRecursion (λ (turn : Turn). turn.thread < threads) turns

both : (threads : ℕ) (one other : List Turn) → AreWithin threads one → AreWithin threads other → AreWithin threads (one ++ other)
both threads [] other h g = g
both threads (turn ∷ one) other h g = (h.0, both threads one other h.1 g)

body_within : (plan : Plan) (before : List Entry) (thread : ℕ) (content : Body) → IsPlan plan → IsNext plan before thread content → AreWithin plan.header.threads (turns_in_body thread content)
body_within plan before thread (body.Call op frames answer) is next = ((next_keeps plan before thread (record { op = op; frames = frames }) is next).thread, tt)
body_within plan before thread (body.Grow cache base) is next = tt
body_within plan before thread (body.Shrink cache base) is next = tt

threads_within : (plan : Plan) (whole before rest : List Entry) → IsPlan plan → Follows plan whole → whole ≡ before ++ rest → AreWithin plan.header.threads (turns_made rest)
threads_within plan whole before [] is follows split = tt
threads_within plan whole before (first ∷ rest) is follows split =
    let n = length before in
    let front = ap (take n) split ∙ take-append_seam before (first ∷ rest) in
    let next = follows n first (ap (λ (l : List Entry). slice_get l n) split ∙ get_here before rest first) in
    let here = body_within plan before first.thread first.body is (subst (λ (b : List Entry). IsNext plan b first.thread first.body) front next) in
    let later = threads_within plan whole (before ++ first ∷ []) rest is follows (split ∙ sym (append_assoc before (first ∷ []) rest)) in
    both plan.header.threads (turns_in_body first.thread first.body) (turns_made rest) here later

-- turns of one thread are its calls
only_turns : (turns : List Turn) → AreWithin 1 turns → turns ≡ map (λ call. record { thread = 0; call = call }) (calls_of 0 turns)
only_turns [] h = refl
only_turns (turn ∷ turns) h =
    let test : Turn → Bool = λ t. eqb t.thread 0 in
    let first : turn.thread ≡ 0 = omega (arith, h.0) in
    let its : turn ≡ record { thread = 0; call = turn.call } = ap (λ t. record { thread = t; call = turn.call }) first in
    let rest = only_turns turns h.1 in
    ap (λ (t : Turn). t ∷ turns) its ∙ ap (λ (l : List Turn). record { thread = 0; call = turn.call } ∷ l) rest
    ∙ ap (λ n. map (λ (call : Call). record { thread = 0; call = call }) (map (λ (t : Turn). t.call) (cond (eqb n 0) (turn ∷ filter test turns) (filter test turns)))) (sym first)

pub plans_decide : PlansOfOneThreadDecide
plans_decide guards plan one other is threads answers told placed put =
    let mine = only_turns (turns_made one) (subst (λ n. AreWithin n (turns_made one)) threads (threads_within plan one [] one is answers.follows refl)) in
    let others = only_turns (turns_made other) (subst (λ n. AreWithin n (turns_made other)) threads (threads_within plan other [] other is told.follows refl)) in
    let turns = mine ∙ ap (map (λ (call : Call). record { thread = 0; call = call })) (answers.finished 0 ∙ sym (told.finished 0)) ∙ sym others in
    histories_one (setting_for guards plan) one other is.header
    (record { legal = answers.legal; tidy = answers.tidy; placed = placed }) (record { legal = told.legal; tidy = told.tidy; placed = put }) turns
