-- Allocations from caches that are answered without a slab: with a round, or with no space.
use Rattle.std.proofs.Common.{◌≡◌, ℕ, ◌<◌, List, [], ◌∷◌, length, Option, Some, None, refl, sym, ap, ◌∙◌, subst, arith}
use Rattle.std.specs.Option.{option_or}
use Rattle.std.specs.Prelude.{IfOk, Result, Ok, Err}
use Rattle.std.specs.List.Sorted.{IsPermutation}
use Rattle.std.proofs.lemmas.List.Sorted.{Contains-permutation, IsPermutation-sym}
use Rattle.std.specs.Prelude.{Contains}
use Rattle.umem_base.proofs.Lists.{Contains-here}
use Rattle.umem_base.proofs.OrderedLemmas.{Contains-nil}
use Rattle.shelf.specs.Steps.{InHand, chunk_in, left_in, taken_any, taken_from}
use Rattle.shelf.specs.Stock.{Stock, held_rounds}
use Rattle.script.specs.Plan.{Call}
use Rattle.plain_heap.specs.declared.reply.Reply.{Reply}
use Rattle.plain_heap.specs.Calls.{due_call}
use Rattle.heap_ledger.specs.Ledger.{Ledger, after_commit, run_setting, run_state}
use Rattle.heap_accounts.specs.declared.turn.Turn.{Turn}
use Rattle.heap_accounts.specs.declared.turn.Turn.TheVariants.{Behind, Made}
use Rattle.heap_accounts.specs.Grows.{HasNoRunOf}
use Rattle.heap_accounts.specs.Laws.{cache_asked}
use Rattle.heap_accounts.specs.Performed.{IsFoundWithin, IsHandedOut, IsPerformedChunk}
use Rattle.heap_accounts.specs.Places.{cpu_of, taken, with_stock}
use Rattle.heap_accounts.proofs.PlacingLemmas.{answers_change}
use Rattle.heap_core.specs.ChunkCalls.{CanHandRound, GivesChunk, GivesNothing, GivesRound, HandsRound, HasNothing, IsAskedOf, PerformsChunk, Refuses}
use Rattle.heap_core.specs.Heap.{run_places}
use Rattle.heap_core.proofs.AskedLemmas.{is_performed, places_left}

-- ---- what is in hand

hand_of : (round : ℕ) (taken : Option (InHand Stock)) → Some round ≡ chunk_in taken → (hand : InHand Stock) × (taken ≡ Some hand) × (hand.chunk ≡ round)
hand_of round None is = absurd (cc is)
hand_of round (Some hand) is = (hand, refl, cc)

pub none_of : (taken : Option (InHand Stock)) → None ≡ chunk_in taken → taken ≡ None
none_of None is = refl
none_of (Some hand) is = absurd (cc is)

module _ (ledger : Ledger) (thread number : ℕ) (stock : Stock) (asked : IsAskedOf ledger thread number stock) where
  -- the CPU of the thread is one of the stock
  pub cpus_are : length stock.cpus ≡ ledger.plan.header.cpus
  cpus_are = asked.its.cpus

  pub cpus_some : 0 < length stock.cpus
  cpus_some = omega (arith, cpus_are, asked.legal.plan.header.cpus.0)

  pub cpu_within : cpu_of (run_setting ledger) thread < length stock.cpus
  cpu_within = omega (arith, cpus_are, asked.legal.plan.header.cpus.0)

  -- a round that was held is a free one
  pub can_hand : (round : ℕ) (left : List ℕ) → IsPermutation (held_rounds stock) (round ∷ left) → CanHandRound ledger thread number round
  can_hand round left holds = record {
    legal = asked.legal;
    cache = asked.cache;
    asked = asked.asked;
    free = (asked.its.held round).0 (Contains-permutation (round ∷ left) (held_rounds stock) round (IsPermutation-sym (held_rounds stock) (round ∷ left) holds) (Contains-here round left));
  }

  -- where none was held, none is free
  pub has_nothing : HasNoRunOf asked.cache (run_setting ledger) (run_state ledger) → held_rounds stock ≡ [] → HasNothing ledger thread number
  has_nothing no_run none = record {
    legal = asked.legal;
    cache = asked.cache;
    asked = asked.asked;
    no_run = no_run;
    none = λ chunk free. Contains-nil chunk (subst (λ (l : List ℕ). Contains l chunk) none ((asked.its.held chunk).1 free));
  }

  -- ---- what was performed

  module _ (now : Stock) (new : Ledger) (call : Call) (answer : Reply) (due : due_call ledger.plan ledger.entries thread number ≡ Some call) (made : new ≡ after_commit ledger thread [] call answer) where
    same : call ≡ asked.asked.call
    same = some_one (sym due ∙ asked.asked.due)
      where
        some_one : Some call ≡ Some asked.asked.call → call ≡ asked.asked.call
        some_one e = cc

    asks : cache_asked call.op ≡ Some asked.cache
    asks = ap (λ (c : Call). cache_asked c.op) same ∙ asked.asked.asks

    places_now : run_places new ≡ with_stock (run_places ledger) asked.cache (left_in stock (taken stock (cpu_of (run_setting ledger) thread)))
    places_now =
        let cpu = cpu_of (run_setting ledger) thread in
        ap run_places made
        ∙ answers_change (run_setting ledger) ledger.entries (length ledger.entries) thread call answer asked.legal.legal
        ∙ places_left (run_setting ledger) (run_state ledger) (run_places ledger) thread asked.cache answer call.op asks
        ∙ ap (λ (s : Stock). with_stock (run_places ledger) asked.cache (left_in s (taken s cpu))) (sym asked.there)

    -- by what is found within reach, and what anywhere
    by_found : (from any : Option (InHand Stock)) → taken_from stock (cpu_of (run_setting ledger) thread) ≡ from → taken_any stock (cpu_of (run_setting ledger) thread) ≡ any
        → IsFoundWithin (run_setting ledger) (run_state ledger) asked.cache (chunk_in from) (chunk_in any) [] answer → now ≡ left_in stock (option_or from any) → PerformsChunk ledger new thread number now answer
    by_found from any reached anywhere found left =
        let setting = run_setting ledger in
        let state = run_state ledger in
        let cpu = cpu_of setting thread in
        let one = subst (λ (o : Option (InHand Stock)). IsFoundWithin setting state asked.cache (chunk_in o) (chunk_in any) [] answer) (sym reached) found in
        let both = subst (λ (o : Option (InHand Stock)). IsFoundWithin setting state asked.cache (chunk_in (taken_from stock cpu)) (chunk_in o) [] answer) (sym anywhere) one in
        let its : IsPerformedChunk setting state (run_places ledger) thread asked.cache [] answer =
        subst (λ (s : Stock). IsFoundWithin setting state asked.cache (chunk_in (taken_from s cpu)) (chunk_in (taken_any s cpu)) [] answer) asked.there both in
        let stays : left_in stock (taken stock cpu) ≡ now =
        ap (λ (o : Option (InHand Stock)). left_in stock (option_or o (taken_any stock cpu))) reached ∙ ap (λ (o : Option (InHand Stock)). left_in stock (option_or from o)) anywhere ∙ sym left in
        record {
          performed = record {
            call = call;
            due = due;
            inner = [];
            performed = is_performed setting state (run_places ledger) thread asked.cache answer call.op [] asks its;
            made = made;
          };
          cache = asked.cache;
          asked = asked.asked;
          places = places_now ∙ ap (with_stock (run_places ledger) asked.cache) stays;
        }

  -- with a round within reach
  pub performs_found : (round : ℕ) (now : Stock) (new : Ledger) (answer : Reply) → Some round ≡ chunk_in (taken_from stock (cpu_of (run_setting ledger) thread))
      → now ≡ left_in stock (taken_from stock (cpu_of (run_setting ledger) thread)) → HandsRound ledger new thread number round answer → PerformsChunk ledger new thread number now answer
  performs_found round now new answer is left hands =
      let cpu = cpu_of (run_setting ledger) thread in
      let found = hand_of round (taken_from stock cpu) is in
      let handed = subst (λ n. IsHandedOut (run_setting ledger) (run_state ledger) n answer) (sym found.2) hands.handed in
      by_found now new hands.call answer hands.due hands.made (Some found.0) (taken_any stock cpu) found.1 refl (refl, handed) (left ∙ ap (left_in stock) found.1)

  -- with one from anywhere
  pub performs_any : (round : ℕ) (now : Stock) (new : Ledger) (answer : Reply) → taken_from stock (cpu_of (run_setting ledger) thread) ≡ None → HasNoRunOf asked.cache (run_setting ledger) (run_state ledger)
      → Some round ≡ chunk_in (taken_any stock (cpu_of (run_setting ledger) thread)) → now ≡ left_in stock (taken_any stock (cpu_of (run_setting ledger) thread)) → HandsRound ledger new thread number round answer
      → PerformsChunk ledger new thread number now answer
  performs_any round now new answer bare no_run is left hands =
      let cpu = cpu_of (run_setting ledger) thread in
      let found = hand_of round (taken_any stock cpu) is in
      let handed = subst (λ n. IsHandedOut (run_setting ledger) (run_state ledger) n answer) (sym found.2) hands.handed in
      by_found now new hands.call answer hands.due hands.made None (Some found.0) bare found.1 (no_run, handed) (left ∙ ap (left_in stock) found.1)

  -- with no space
  pub performs_none : (now : Stock) (new : Ledger) (answer : Reply) → taken_from stock (cpu_of (run_setting ledger) thread) ≡ None → HasNoRunOf asked.cache (run_setting ledger) (run_state ledger)
      → None ≡ chunk_in (taken_any stock (cpu_of (run_setting ledger) thread)) → now ≡ left_in stock (taken_any stock (cpu_of (run_setting ledger) thread)) → Refuses ledger new thread number answer
      → PerformsChunk ledger new thread number now answer
  performs_none now new answer bare no_run is left refuses =
      let cpu = cpu_of (run_setting ledger) thread in
      let none = none_of (taken_any stock cpu) is in
      by_found now new refuses.call answer refuses.due refuses.made None None bare none (no_run, refuses.refused) (left ∙ ap (left_in stock) none)

  -- ---- by what is given

  module _ (cpu : ℕ) (same : cpu ≡ cpu_of (run_setting ledger) thread) (now : Stock) (new : Ledger) where
    pub turn_found : (round : ℕ) (turn : Turn) → Some round ≡ chunk_in (taken_from stock cpu) → now ≡ left_in stock (taken_from stock cpu) → GivesRound ledger new thread number round turn
        → GivesChunk ledger new thread number now turn
    turn_found round Behind is left gives = absurd gives
    turn_found round (Made answer) is left gives =
        performs_found round now new answer (subst (λ i. Some round ≡ chunk_in (taken_from stock i)) same is) (subst (λ i. now ≡ left_in stock (taken_from stock i)) same left) gives

    pub turn_any : (round : ℕ) (turn : Turn) → taken_from stock cpu ≡ None → HasNoRunOf asked.cache (run_setting ledger) (run_state ledger) → Some round ≡ chunk_in (taken_any stock cpu)
        → now ≡ left_in stock (taken_any stock cpu) → GivesRound ledger new thread number round turn → GivesChunk ledger new thread number now turn
    turn_any round Behind bare no_run is left gives = absurd gives
    turn_any round (Made answer) bare no_run is left gives =
        performs_any round now new answer (subst (λ i. taken_from stock i ≡ None) same bare) no_run (subst (λ i. Some round ≡ chunk_in (taken_any stock i)) same is)
        (subst (λ i. now ≡ left_in stock (taken_any stock i)) same left) gives

    pub turn_none : (turn : Turn) → taken_from stock cpu ≡ None → HasNoRunOf asked.cache (run_setting ledger) (run_state ledger) → None ≡ chunk_in (taken_any stock cpu)
        → now ≡ left_in stock (taken_any stock cpu) → GivesNothing ledger new thread number turn → GivesChunk ledger new thread number now turn
    turn_none Behind bare no_run is left gives = absurd gives
    turn_none (Made answer) bare no_run is left gives =
        performs_none now new answer (subst (λ i. taken_from stock i ≡ None) same bare) no_run (subst (λ i. None ≡ chunk_in (taken_any stock i)) same is)
        (subst (λ i. now ≡ left_in stock (taken_any stock i)) same left) gives

    pub result_none : {E : Type 0} (result : Result Turn E) → taken_from stock cpu ≡ None → HasNoRunOf asked.cache (run_setting ledger) (run_state ledger) → None ≡ chunk_in (taken_any stock cpu)
        → now ≡ left_in stock (taken_any stock cpu) → IfOk result (GivesNothing ledger new thread number) → IfOk result (GivesChunk ledger new thread number now)
    result_none (Ok turn) bare no_run is left gives = turn_none turn bare no_run is left gives
    result_none (Err error) bare no_run is left gives = tt
