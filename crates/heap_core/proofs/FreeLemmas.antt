-- A heap stays one by each free: the round that came back is put on the shelf of its slab's cache.
use Rattle.std.proofs.Common.{◌≡◌, ℕ, ◌%◌, ◌<◌, List, Option, None, Some, sym, ap, ◌∙◌, subst, arith}
use Rattle.std.specs.Prelude.{option_map}
use Rattle.shelf.specs.Shelf.{Shelf}
use Rattle.shelf.specs.Steps.{put_on}
use Rattle.shelf.specs.Stock.{IsOut}
use Rattle.plain_heap.specs.declared.reply.Reply.{Reply}
use Rattle.plain_heap.specs.State.{HeapSlab, State, word_of_slot}
use Rattle.plain_heap.proofs.PlacesLemmas.{is_cache_of}
use Rattle.heap_ledger.specs.Ledger.{Ledger, run_setting, run_state}
use Rattle.heap_ledger.proofs.MayCommitLemmas.{answers_step}
use Rattle.heap_accounts.specs.Kinds.{is_free}
use Rattle.heap_accounts.specs.Places.{Places, cache_count, slab_with_number, stock_at, with_stock}
use Rattle.heap_accounts.specs.Turns.{MakesFree}
use Rattle.heap_accounts.proofs.NumberLemmas.{call_same}
use Rattle.heap_core.specs.Heap.{IsHeap, run_places}
use Rattle.heap_core.specs.Shelves.{CanPut, HasCpus, stocks_of, with_round_back}
use Rattle.heap_core.proofs.BackLemmas.{back_out, chunk_back, gave_back, good_state, lived, none_back, number_found, some_back}
use Rattle.heap_core.proofs.CallLemmas.{free_performs}
use Rattle.heap_core.proofs.DueLemmas.{is_due}
use Rattle.heap_core.proofs.NextLemmas.{IsKnown, next_heap, places_alone}
use Rattle.heap_core.proofs.ShelvesLemmas.{cpus_there, heap_places, shelf_count}

module _ (old new : Ledger) (shelves : List Shelf) (thread number : ℕ) (answer : Reply) (heap : IsHeap old shelves) (known : IsKnown new) where
  -- no round came back
  pub free_none : MakesFree old new thread number answer None → IsHeap new shelves
  free_none makes =
      let kind = (is_due is_free old thread number makes.call makes.due).is_of in
      let same = places_alone old new thread makes.call answer heap.legal makes.made ∙ none_back (run_setting old) (run_state old) thread makes.call.op (run_places old) answer kind makes.back in
      next_heap old new shelves shelves thread number answer heap (free_performs old new thread number answer None makes) known (heap.are ∙ sym same)

  -- a round came back: its slab is found by its number, it may be put, and once it is the shelves are those of the new places
  pub record RoundBack (round : ℕ) : Type 0 where
    pub slab : HeapSlab
    pub found : slab_with_number (run_setting new) (run_state new).slabs round ≡ Some slab
    pub can : CanPut shelves slab.cache round
    pub stays : (after : List Shelf) → stocks_of after ≡ with_round_back (stocks_of shelves) slab.cache thread round → IsHeap new after

  pub free_some : (round : ℕ) → MakesFree old new thread number answer (Some round) → RoundBack round
  free_some round makes =
      let setting = run_setting old in
      let state = run_state old in
      let places = run_places old in
      let kind = (is_due is_free old thread number makes.call makes.due).is_of in
      let good = good_state old heap.legal in
      let gave = gave_back setting state thread makes.call.op answer round kind makes.back in
      let slab = gave.slab in
      let word = word_of_slot state thread gave.slot in
      let back = chunk_back setting state good slab round word gave.found gave.number in
      let is_cache : slab.cache < cache_count setting = is_cache_of setting state.live state.slabs good.header good.places slab back.seat.stands in
      let cpus = cpus_there old shelves slab.cache heap is_cache in
      let alive = lived setting state thread makes.call.op answer gave.slot gave.freed gave.ok makes.reply in
      let out = back_out setting state good slab round word back alive (stock_at places slab.cache) ((heap_places old shelves heap).each slab.cache is_cache) in
      let slabs : (run_state new).slabs ≡ state.slabs =
      ap (λ (l : Ledger). (run_state l).slabs) makes.made ∙ ap (λ (s : State). s.slabs) (answers_step old thread makes.call answer)
      ∙ (call_same setting state thread makes.call.op answer).slabs in
      let put : (p : Places) → p ≡ places → with_round_back p slab.cache thread round ≡ run_places new = λ p is.
      ap (λ (q : Places). with_round_back q slab.cache thread round) is
      ∙ ap (λ n. with_stock places slab.cache (put_on (stock_at places slab.cache) (thread % n) round)) cpus.0
      ∙ ap (λ n. with_stock places slab.cache (put_on (stock_at places slab.cache) (thread % setting.header.cpus) n)) gave.number
      ∙ sym (some_back setting state thread makes.call.op places answer round gave)
      ∙ sym (places_alone old new thread makes.call answer heap.legal makes.made) in
      record {
        slab = slab;
        found =
            ap (λ (l : Ledger). slab_with_number (run_setting l) (run_state new).slabs round) makes.made
            ∙ ap (λ (l : List HeapSlab). slab_with_number setting l round) slabs
            ∙ number_found setting state good slab round word back;
        can = record {
          there = omega (arith, shelf_count old shelves heap, is_cache);
          cpus = subst (λ (p : Places). HasCpus (stock_at p slab.cache)) (sym heap.are) cpus.1;
          out = subst (λ (p : Places). IsOut (stock_at p slab.cache) round) (sym heap.are) out;
        };
        stays = λ after are. next_heap old new shelves after thread number answer heap (free_performs old new thread number answer (Some round) makes) known
            (are ∙ put (stocks_of shelves) heap.are);
      }

  -- ---- by the cache that is told of the round

  module _ (back found : Option ℕ) (round chunk : ℕ) (makes : MakesFree old new thread number answer back) (is : back ≡ Some round) (same : chunk ≡ round)
      (told : found ≡ option_map (λ slab. slab.cache) (slab_with_number (run_setting new) (run_state new).slabs chunk)) where
    its : RoundBack round
    its = free_some round (subst (λ (o : Option ℕ). MakesFree old new thread number answer o) is makes)

    cache_told : found ≡ Some its.slab.cache
    cache_told =
        told
        ∙ ap (λ n. option_map (λ (s : HeapSlab). s.cache) (slab_with_number (run_setting new) (run_state new).slabs n)) same
        ∙ ap (option_map (λ (s : HeapSlab). s.cache)) its.found

    pub told_some : found ≡ None → ⊥
    told_some none = none_some (sym none ∙ cache_told)
      where
        none_some : {n : ℕ} → None ≡ Some n → ⊥
        none_some e = cc e

    module _ (cache : ℕ) (there : found ≡ Some cache) where
      its_cache : its.slab.cache ≡ cache
      its_cache = one (sym cache_told ∙ there)
        where
          one : {m n : ℕ} → Some m ≡ Some n → m ≡ n
          one e = cc e

      pub can_put : CanPut shelves cache round
      can_put = subst (λ n. CanPut shelves n round) its_cache its.can

      pub put_heap : (after : List Shelf) → stocks_of after ≡ with_round_back (stocks_of shelves) cache thread round → IsHeap new after
      put_heap after are = its.stays after (are ∙ ap (λ n. with_round_back (stocks_of shelves) n thread round) (sym its_cache))

  pub none_heap : (back : Option ℕ) → MakesFree old new thread number answer back → back ≡ None → IsHeap new shelves
  none_heap back makes none = free_none (subst (λ (o : Option ℕ). MakesFree old new thread number answer o) none makes)
