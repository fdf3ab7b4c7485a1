-- The places of a placed history hold the free chunks.
use Rattle.std.proofs.Common.{◌≡◌, ℕ, zero, suc, ◌+◌, ◌^◌, ◌<◌, ◌≤◌, Bool, false, true, List, [], length, map, Option, Some, None, refl, sym, ◌∙◌, subst, arith, inl, inr}
use Rattle.std.specs.Prelude.{IfSome}
use Rattle.std.specs.Option.{option_or}
use Rattle.std.proofs.lemmas.Bool.{cases_lt}
use Rattle.std.proofs.lemmas.List.{get_or-map, get_or_past, set_past, length-map}
use Rattle.std.proofs.lemmas.List.Sums.{sum_by-cons}
use Rattle.umem_base.specs.Pages.{IsLowestRun}
use Rattle.umem_base.proofs.Lists.{Contains-here}
use Rattle.case_table.specs.Sizes.{class_for}
use Rattle.case_table.proofs.SizesLemmas.{least_from_class}
use Rattle.script.specs.declared.operation.Op.{Op}
use Rattle.script.specs.declared.operation.Op.TheVariants.{Alloc, Zalloc, Free, CacheAlloc, CacheFree, Copy, Clear, Store, Link, Load, Reap}
use Rattle.shelf.specs.Laws.{TakesOne}
use Rattle.shelf.specs.Steps.{InHand, chunk_in, left_in, taken_any, taken_from, with_slab_of}
use Rattle.shelf.specs.Stock.{Stock, empty_stock}
use Rattle.shelf.proofs.StockLemmas.{taken_any_is, taken_from_is}
use Rattle.plain_heap.specs.declared.held.Held.{Held}
use Rattle.plain_heap.specs.declared.reply.Reply.{Reply}
use Rattle.plain_heap.specs.declared.reply.Reply.TheVariants as reply
use Rattle.plain_heap.specs.Replies.{IsAllocReply, IsSomeReply, refusal_by_cache, refusal_by_size}
use Rattle.plain_heap.specs.Setting.{IsCache, Setting, geometry_in}
use Rattle.plain_heap.specs.State.{IsFreePage, State, after_alloc, after_call, after_grow, after_link, after_store, after_word, chunk_start, new_slab, next_chunk, request_from, request_of, word_of_slot}
use Rattle.plain_heap.proofs.EntryLemmas.{held_first}
use Rattle.plain_heap.proofs.RunsLemmas.{new_run}
use Rattle.plain_heap.proofs.SettingLemmas.{geometry_in-sound}
use Rattle.heap_ledger.specs.declared.slab_at.SlabAt.{SlabAt}
use Rattle.heap_ledger.specs.Commits.{AreReaped, after_shrinks}
use Rattle.heap_accounts.specs.FreeChunks.{ArePlacesOf, IsStockOf}
use Rattle.heap_accounts.specs.Laws.{at_rest}
use Rattle.heap_accounts.specs.Performed.{IsFoundWithin, IsHandedOut, IsPerformed, IsPerformedAlone, IsPerformedChunk, IsPerformedRequest, answer_at}
use Rattle.heap_accounts.specs.Places.{Places, cache_count, cpu_of, places_by_call, places_by_chunk, places_by_request, places_by_slab, reaped, rounds_of, stock_at, taken, with_stock}
use Rattle.heap_accounts.proofs.FreeRoundLemmas.{HandsOutAt, IsGood, SameChunks, same_stock}
use Rattle.heap_accounts.proofs.PlacedLemmas.{hands_out}
use Rattle.heap_accounts.proofs.ReapedLemmas.{reaped_stock}
use Rattle.heap_accounts.proofs.SlabLemmas.{grew_elsewhere, grew_stock}
use Rattle.heap_accounts.proofs.StepLemmas.{cpu_known, free_step, large_step, one_changes, took, unchanged}

-- ---- an allocation of a chunk, with no slab

module _ (setting : Setting) (state : State) (good : IsGood setting state) (places : Places) (are : ArePlacesOf setting state places) (thread slot cache : ℕ) (known : cache < cache_count setting) (held : Held) (zeroed : Bool) where
  abbrev after : Reply → State
  after answer = after_alloc setting state thread slot held zeroed answer

  -- a round was taken
  by_round : (hand : InHand Stock) (answer : Reply) → TakesOne (stock_at places cache) hand → IsHandedOut setting state hand.chunk answer → ArePlacesOf setting (after answer) (with_stock places cache hand.left)
  by_round hand answer takes handed =
      let h = hands_out setting state hand.chunk answer handed in
      subst (λ (a : Reply). ArePlacesOf setting (after a) (with_stock places cache hand.left)) (sym h.its)
      (took setting state good places cache h.address held hand (after (answer_at setting state h.address)) are known takes h.there refl refl)

  -- none was there
  by_none : (answer : Reply) → answer ≡ reply.NoSpace → ArePlacesOf setting (after answer) (with_stock places cache (stock_at places cache))
  by_none answer is =
      let none = after reply.NoSpace in
      let same : (other : ℕ) → SameChunks setting other state none = λ other. record { slabs = refl; free = λ slab index seat its. refl } in
      subst (λ (a : Reply). ArePlacesOf setting (after a) (with_stock places cache (stock_at places cache))) (sym is)
      (one_changes setting state none places cache (stock_at places cache) are (λ within. same_stock setting cache state none (same cache) (stock_at places cache) (are.each cache within))
      (λ other apart its. same_stock setting other state none (same other) (stock_at places other) its))

  pub chunk_alone : (answer : Reply) → IsPerformedChunk setting state places thread cache [] answer → ArePlacesOf setting (after answer) (places_by_chunk setting places None thread cache)
  chunk_alone answer performed =
      let stock = stock_at places cache in
      let cpu = cpu_of setting thread in
      let within = cpu_known setting state good places cache thread are known in
      let sound = (are.each cache known).sound in
      by_places (taken_from stock cpu) (taken_any stock cpu) (taken_from_is stock cpu within sound) (taken_any_is stock cpu within sound) performed
    where
      by_places : (from any : Option (InHand Stock)) → IfSome from (TakesOne (stock_at places cache)) → IfSome any (TakesOne (stock_at places cache)) → IsFoundWithin setting state cache (chunk_in from) (chunk_in any) [] answer
          → ArePlacesOf setting (after answer) (with_stock places cache (left_in (stock_at places cache) (option_or from any)))
      by_places (Some hand) any one other found = by_round hand answer one found.1
      by_places None (Some hand) one other found = by_round hand answer other found.1
      by_places None None one other found = by_none answer found.1

-- ---- a slab, and the allocation of its first chunk

module _ (setting : Setting) (state : State) (good : IsGood setting state) (places : Places) (are : ArePlacesOf setting state places) (thread slot cache base : ℕ) (is_cache : IsCache setting.header.caches cache)
    (held : Held) (zeroed : Bool) (good_then : IsGood setting (after_grow setting state cache base)) (fits : next_chunk setting (after_grow setting state cache base) ≤ 2 ^ 32) where
  pub chunk_grown : (answer : Reply) → IsLowestRun (IsFreePage setting state) (geometry_in setting cache).pages base
      → answer ≡ answer_at setting (after_grow setting state cache base) (chunk_start setting (new_slab setting state cache base) 0)
      → ArePlacesOf setting (after_alloc setting (after_grow setting state cache base) thread slot held zeroed answer) (places_by_slab setting places (new_slab setting state cache base))
  chunk_grown answer lowest is =
      let then = after_grow setting state cache base in
      let slab = new_slab setting state cache base in
      let at = chunk_start setting slab 0 in
      let g = geometry_in-sound setting cache good.header is_cache in
      let run = new_run setting state base (geometry_in setting cache).pages good.places lowest.free g.pages_some in
      let after = after_alloc setting then thread slot held zeroed (answer_at setting then at) in
      let out : HandsOutAt setting slab 0 then after = record {
        seat = record { stands = Contains-here slab state.slabs; within = omega (arith, g.rounds_many) };
        slabs = refl;
        held = held;
        live = λ x. held_first (record { address = at; held = held }) state.live x;
      } in
      let more = sum_by-cons (λ c. (geometry_in setting c).rounds) cache state.grown in
      let small : slab.first + (geometry_in setting cache).rounds ≤ 2 ^ 32 = omega (arith, more, fits) in
      subst (λ (a : Reply). ArePlacesOf setting (after_alloc setting then thread slot held zeroed a) (places_by_slab setting places slab)) (sym is)
      (one_changes setting state after places cache (with_slab_of (stock_at places cache) base (rounds_of setting slab)) are
      (λ known. grew_stock setting state after good cache base is_cache run good_then out (stock_at places cache) small (are.each cache known))
      (λ other apart its. grew_elsewhere setting state after good cache base is_cache run good_then out other (stock_at places other) apart its))

-- ---- a cache that is none

unknown_alone : (setting : Setting) (state : State) (places : Places) (are : ArePlacesOf setting state places) (thread slot cache : ℕ) (held : Held) (zeroed : Bool) (answer : Reply) → cache_count setting ≤ cache
    → IsPerformedChunk setting state places thread cache [] answer → ArePlacesOf setting (after_alloc setting state thread slot held zeroed answer) (places_by_chunk setting places None thread cache)
unknown_alone setting state places are thread slot cache held zeroed answer past performed =
    let long : length places ≤ cache = omega (arith, are.count, past) in
    let empty : stock_at places cache ≡ empty_stock 0 0 = get_or_past places cache (empty_stock 0 0) long in
    let cpu = cpu_of setting thread in
    let found = subst (λ (s : Stock). IsFoundWithin setting state cache (chunk_in (taken_from s cpu)) (chunk_in (taken_any s cpu)) [] answer) empty performed in
    let same = unchanged setting state (after_alloc setting state thread slot held zeroed reply.NoSpace) places refl refl are in
    let stays : places ≡ with_stock places cache (left_in (empty_stock 0 0) (taken (empty_stock 0 0) cpu)) = sym (set_past places cache (empty_stock 0 0) long) in
    subst (λ (s : Stock). ArePlacesOf setting (after_alloc setting state thread slot held zeroed answer) (with_stock places cache (left_in s (taken s cpu)))) (sym empty)
    (subst (λ (a : Reply). ArePlacesOf setting (after_alloc setting state thread slot held zeroed a) (with_stock places cache (left_in (empty_stock 0 0) (taken (empty_stock 0 0) cpu)))) (sym found.1)
    (subst (ArePlacesOf setting (after_alloc setting state thread slot held zeroed reply.NoSpace)) stays same))

-- ---- calls without inner entries

module _ (setting : Setting) (state : State) (good : IsGood setting state) (places : Places) (are : ArePlacesOf setting state places) (thread : ℕ) where
  class_known : (size class : ℕ) → class_for size ≡ Some class → class < cache_count setting
  class_known size class is = let least = least_from_class size class is in omega (arith, least.is_class)

  -- a size that no class serves
  size_alone : (slot size : ℕ) (zeroed : Bool) (answer : Reply) → class_for size ≡ None → IsAllocReply setting state size answer → ArePlacesOf setting (after_alloc setting state thread slot (request_of size) zeroed answer) places
  size_alone slot zero zeroed answer none told =
      subst (λ (a : Reply). ArePlacesOf setting (after_alloc setting state thread slot (request_of 0) zeroed a) places) (sym told)
      (unchanged setting state (after_alloc setting state thread slot (request_of 0) zeroed reply.Null) places refl refl are)
  size_alone slot (suc size) zeroed answer none told =
      let big = subst (λ (o : Option ℕ). IsSomeReply setting state (suc size) o answer) none told in
      subst (λ (o : Option ℕ). ArePlacesOf setting (after_alloc setting state thread slot (record { size = suc size; cache = o }) zeroed answer) places) (sym none)
      (large_step setting state good places thread slot (suc size) zeroed answer are (omega arith) big)

  request_alone : (op : Op) (slot size : ℕ) (zeroed : Bool) (asked : Option ℕ) (answer : Reply) → class_for size ≡ asked → (IsPerformedAlone setting state thread op [] answer → IsAllocReply setting state size answer)
      → IsPerformedRequest setting state places thread op asked [] answer → ArePlacesOf setting (after_alloc setting state thread slot (request_of size) zeroed answer) (places_by_request setting places None thread asked)
  request_alone op slot size zeroed None answer is told performed = size_alone slot size zeroed answer is (told performed)
  request_alone op slot size zeroed (Some class) answer is told performed = chunk_alone setting state good places are thread slot class (class_known size class is) (request_of size) zeroed answer performed

  store_step : (at : ℕ) (stored : List ℕ) (answer : Reply) → ArePlacesOf setting (after_store state at stored answer) places
  store_step at stored reply.Ok = unchanged setting state (after_store state at stored reply.Ok) places refl refl are
  store_step at stored other = are

  link_step : (at word : ℕ) (answer : Reply) → ArePlacesOf setting (after_link state at word answer) places
  link_step at word reply.Ok = unchanged setting state (after_link state at word reply.Ok) places refl refl are
  link_step at word other = are

  word_step : (slot : ℕ) (answer : Reply) → ArePlacesOf setting (after_word state thread slot answer) places
  word_step slot (reply.Word word) = unchanged setting state (after_word state thread slot (reply.Word word)) places refl refl are
  word_step slot other = are

  pub reap_places : (slabs : List SlabAt) → AreReaped setting state slabs → ArePlacesOf setting (after_shrinks state slabs) (map reaped places)
  reap_places slabs reaps = record {
    count = length-map places reaped ∙ are.count;
    each = λ cache known.
        let here : cache < length places = omega (arith, are.count, known) in
        subst (IsStockOf setting (after_shrinks state slabs) cache) (sym (get_or-map reaped places cache (empty_stock 0 0) (empty_stock 0 0) here)) (reaped_stock setting state good slabs reaps cache (stock_at places cache) (are.each cache known));
  }

  cache_alone : (slot cache : ℕ) (answer : Reply) → IsPerformedChunk setting state places thread cache [] answer → ArePlacesOf setting (after_alloc setting state thread slot (request_from setting cache) false answer) (places_by_chunk setting places None thread cache)
  cache_alone slot cache answer performed = elim (cases_lt cache (cache_count setting)) [
    | inl known ↦ chunk_alone setting state good places are thread slot cache known (request_from setting cache) false answer performed
    | inr past ↦ unknown_alone setting state places are thread slot cache (request_from setting cache) false answer past performed
  ]

  -- what a call without inner entries leaves, but for a reap
  pub call_alone : (op : Op) (answer : Reply) → (op ≡ Reap → ⊥) → IsPerformed setting state places thread op [] answer → ArePlacesOf setting (after_call setting state thread op answer) (places_by_call setting (at_rest state places) thread op answer)
  call_alone (Alloc slot size) answer other performed = request_alone (Alloc slot size) slot size false (class_for size) answer refl (λ p. p.1.reply) performed
  call_alone (Zalloc slot size) answer other performed = request_alone (Zalloc slot size) slot size true (class_for size) answer refl (λ p. p.1.reply) performed
  call_alone (CacheAlloc slot cache) answer other performed = cache_alone slot cache answer performed
  call_alone (Free slot size) answer other performed = free_step setting state good places thread slot (refusal_by_size size) answer are performed.1.reply
  call_alone (CacheFree slot cache) answer other performed = free_step setting state good places thread slot (refusal_by_cache cache) answer are performed.1.reply
  call_alone (Copy to from) answer other performed = unchanged setting state (after_call setting state thread (Copy to from) answer) places refl refl are
  call_alone (Clear slot) answer other performed = unchanged setting state (after_call setting state thread (Clear slot) answer) places refl refl are
  call_alone (Store slot offset stored) answer other performed = store_step (word_of_slot state thread slot + offset) stored answer
  call_alone (Link slot offset value) answer other performed = link_step (word_of_slot state thread slot + offset) (word_of_slot state thread value) answer
  call_alone (Load to slot offset) answer other performed = word_step to answer
  call_alone Reap answer other performed = absurd (other refl)
