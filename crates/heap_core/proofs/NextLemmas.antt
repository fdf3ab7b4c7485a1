-- A heap stays one by each call that is performed.
use Rattle.std.proofs.Common.{◌≡◌, ℕ, ◌^◌, ◌≤◌, List, [], ◌∷◌, refl, sym, ap, ◌∙◌, subst, map}
use Rattle.std.specs.Prelude.{IsSome}
use Rattle.script.specs.Plan.{Call}
use Rattle.shelf.specs.Shelf.{Shelf}
use Rattle.plain_heap.specs.declared.reply.Reply.{Reply}
use Rattle.plain_heap.specs.declared.reply.Reply.TheVariants as reply
use Rattle.plain_heap.specs.State.{next_chunk}
use Rattle.heap_ledger.specs.Ledger.{IsLedger, Ledger, after_commit, run_setting, run_state}
use Rattle.heap_accounts.specs.Laws.{at_rest}
use Rattle.heap_accounts.specs.Placed.{IsPlaced}
use Rattle.heap_accounts.specs.Places.{Places, places_by_call, reaped}
use Rattle.heap_accounts.specs.Kinds.{is_large, is_plain_call, is_reap_call}
use Rattle.heap_accounts.specs.declared.turn.Turn.{Turn}
use Rattle.heap_accounts.specs.declared.turn.Turn.TheVariants.{Behind, Made}
use Rattle.heap_accounts.specs.Turns.{Makes, MakesReap, TakesReap, TakesTurn, due_of}
use Rattle.heap_accounts.proofs.PlacedLemmas.{placed_grow}
use Rattle.heap_accounts.proofs.PlacingLemmas.{answers_change, reaps_change}
use Rattle.heap_core.specs.Heap.{AreShelvesOf, IsHeap, run_places}
use Rattle.heap_core.specs.Performs.{PerformsTurn, PerformsCall}
use Rattle.heap_core.specs.Shelves.{KeepsHeap, reaped_shelf, stocks_of}
use Rattle.heap_core.proofs.CallLemmas.{is_reap_op, large_alone, large_performs, plain_alone, plain_performs, reap_performs}
use Rattle.heap_core.proofs.DueLemmas.{is_due, waits_not}

-- what is known of a ledger after a commit
pub record IsKnown (ledger : Ledger) : Type 0 where
  pub legal : IsLedger ledger
  pub few : next_chunk (run_setting ledger) (run_state ledger) ≤ 2 ^ 32

-- the history stays placed
still_placed : (old new : Ledger) (thread number : ℕ) (answer : Reply) → IsLedger old → IsPlaced (run_setting old) old.entries → PerformsCall old new thread number answer → IsPlaced (run_setting new) new.entries
still_placed old new thread number answer legal placed performs =
    subst (λ (l : Ledger). IsPlaced (run_setting l) l.entries) (sym performs.made)
    (placed_grow (run_setting old) old.entries _ thread performs.inner performs.call answer legal.legal placed performs.performed)

-- so where the shelves are those of the new places, they and the books are a heap
pub next_heap : (old new : Ledger) (shelves after : List Shelf) (thread number : ℕ) (answer : Reply) → IsHeap old shelves → PerformsCall old new thread number answer → IsKnown new → AreShelvesOf new after → IsHeap new after
next_heap old new shelves after thread number answer heap performs known are = record {
  legal = known.legal;
  placed = still_placed old new thread number answer heap.legal heap.placed performs;
  few = known.few;
  are = are;
}

-- ---- places after a commit

-- after a call without inner entries they are one step from those before
pub places_alone : (old new : Ledger) (thread : ℕ) (call : Call) (answer : Reply) → IsLedger old → new ≡ after_commit old thread [] call answer
    → run_places new ≡ places_by_call (run_setting old) (at_rest (run_state old) (run_places old)) thread call.op answer
places_alone old new thread call answer legal made =
    ap run_places made ∙ answers_change (run_setting old) old.entries _ thread call answer legal.legal

-- ---- plain and large calls, and reaps

-- where no place changed, the shelves are as they were
still_heap : (old new : Ledger) (shelves : List Shelf) (thread number : ℕ) (answer : Reply) → IsHeap old shelves → PerformsCall old new thread number answer → IsKnown new → run_places new ≡ run_places old → IsHeap new shelves
still_heap old new shelves thread number answer heap performs known same =
    next_heap old new shelves shelves thread number answer heap performs known (heap.are ∙ sym same)

pub plain_heap : (old new : Ledger) (shelves : List Shelf) (thread number : ℕ) (answer : Reply) → IsHeap old shelves → Makes is_plain_call old new thread number answer → IsKnown new → IsHeap new shelves
plain_heap old new shelves thread number answer heap makes known =
    let kind = (is_due is_plain_call old thread number makes.call makes.due).is_of in
    let alone = plain_alone (run_setting old) (run_state old) (run_places old) thread makes.call.op kind in
    still_heap old new shelves thread number answer heap (plain_performs old new thread number answer makes) known
    (places_alone old new thread makes.call answer heap.legal makes.made ∙ alone.stays answer)

pub large_heap : (old new : Ledger) (shelves : List Shelf) (thread number : ℕ) (answer : Reply) → IsHeap old shelves → Makes is_large old new thread number answer → IsKnown new → IsHeap new shelves
large_heap old new shelves thread number answer heap makes known =
    let kind = (is_due is_large old thread number makes.call makes.due).is_of in
    let alone = large_alone (run_setting old) (run_state old) (run_places old) thread makes.call.op kind in
    still_heap old new shelves thread number answer heap (large_performs old new thread number answer makes) known
    (places_alone old new thread makes.call answer heap.legal makes.made ∙ alone.stays answer)

stocks_reaped : (shelves : List Shelf) → stocks_of (map reaped_shelf shelves) ≡ map reaped (stocks_of shelves)
stocks_reaped [] = refl
stocks_reaped (shelf ∷ shelves) = ap (λ (l : Places). reaped shelf.stock ∷ l) (stocks_reaped shelves)

pub reap_heap : (old new : Ledger) (shelves after : List Shelf) (thread number : ℕ) (answer : Reply) → IsHeap old shelves → MakesReap old new thread number answer → IsKnown new
    → after ≡ map reaped_shelf shelves → IsHeap new after
reap_heap old new shelves after thread number answer heap makes known are =
    let performs = reap_performs old new thread number answer makes in
    let reap = is_reap_op makes.call.op (is_due is_reap_call old thread number makes.call makes.due).is_of in
    let now : run_places new ≡ map reaped (run_places old) =
    ap run_places makes.made ∙ reaps_change (run_setting old) old.entries _ thread makes.slabs makes.call reply.Ok heap.legal.legal reap in
    next_heap old new shelves after thread number answer heap performs known
    (ap stocks_of are ∙ stocks_reaped shelves ∙ ap (λ (p : Places). map reaped p) heap.are ∙ sym now)

-- ---- by the answer of a commit

module _ (old new : Ledger) (thread number : ℕ) where
  pub plain_turn : (turn : Turn) → IsSome (due_of is_plain_call old thread number) → TakesTurn is_plain_call old new thread number turn → PerformsTurn old new thread number turn
  plain_turn Behind due takes = absurd (waits_not is_plain_call old new thread number due takes)
  plain_turn (Made answer) due takes = plain_performs old new thread number answer takes

  pub plain_keeps : (turn : Turn) → IsSome (due_of is_plain_call old thread number) → TakesTurn is_plain_call old new thread number turn → IsKnown new → KeepsHeap old new
  plain_keeps Behind due takes known = absurd (waits_not is_plain_call old new thread number due takes)
  plain_keeps (Made answer) due takes known = λ shelves heap. plain_heap old new shelves thread number answer heap takes known

  pub large_turn : (turn : Turn) → IsSome (due_of is_large old thread number) → TakesTurn is_large old new thread number turn → PerformsTurn old new thread number turn
  large_turn Behind due takes = absurd (waits_not is_large old new thread number due takes)
  large_turn (Made answer) due takes = large_performs old new thread number answer takes

  pub large_keeps : (turn : Turn) → IsSome (due_of is_large old thread number) → TakesTurn is_large old new thread number turn → IsKnown new → KeepsHeap old new
  large_keeps Behind due takes known = absurd (waits_not is_large old new thread number due takes)
  large_keeps (Made answer) due takes known = λ shelves heap. large_heap old new shelves thread number answer heap takes known

  pub reap_turn : (turn : Turn) → IsSome (due_of is_reap_call old thread number) → TakesReap old new thread number turn → PerformsTurn old new thread number turn
  reap_turn Behind due takes = absurd (waits_not is_reap_call old new thread number due takes)
  reap_turn (Made answer) due takes = reap_performs old new thread number answer takes

  pub reap_keeps : (turn : Turn) (shelves after : List Shelf) → IsSome (due_of is_reap_call old thread number) → TakesReap old new thread number turn → IsKnown new → IsHeap old shelves → after ≡ map reaped_shelf shelves → IsHeap new after
  reap_keeps Behind shelves after due takes known heap are = absurd (waits_not is_reap_call old new thread number due takes)
  reap_keeps (Made answer) shelves after due takes known heap are = reap_heap old new shelves after thread number answer heap takes known are
