-- Allocations from caches that are answered with the first chunk of a slab that is made for them.
use Rattle.std.proofs.Common.{◌≡◌, ℕ, ◌+◌, ◌<◌, ◌≤◌, List, [], ◌∷◌, length, get_or, Option, None, refl, sym, ap, ◌∙◌, subst, arith}
use Rattle.std.specs.Prelude.{All, slice_index}
use Rattle.std.specs.List.{range_with_len}
use Rattle.std.proofs.lemmas.List.FromFn.{get_or-range_with_len, length-range_with_len}
use Rattle.std.proofs.lemmas.List.Elements.{All-contains, Contains-get_or}
use Rattle.slab_layer.specs.Rounds.{AreConsecutive}
use Rattle.slab_layer.specs.Slab.{IsApartBelow, Slab, slab_of}
use Rattle.slab_layer.specs.Slabs.{listed_rounds}
use Rattle.shelf.specs.Steps.{InHand, chunk_in, taken_any, taken_from, with_slab_of}
use Rattle.shelf.specs.Stock.{Stock}
use Rattle.shelf.proofs.StockLemmas.{IsBare-taken_from}
use Rattle.script.specs.Plan.{Call}
use Rattle.plain_heap.specs.declared.reply.Reply.{Reply}
use Rattle.plain_heap.specs.Laws.{IsAnsweredAt, StandApart}
use Rattle.plain_heap.specs.Replies.{IsReply}
use Rattle.plain_heap.specs.Setting.{geometry_in}
use Rattle.plain_heap.specs.State.{HeapSlab, new_slab, next_chunk, span_of_slab, start_state}
use Rattle.plain_heap.proofs.PlacesLemmas.{IsInArena, apart_bases}
use Rattle.plain_heap.proofs.RunsLemmas.{new_run}
use Rattle.plain_heap.proofs.SeparateLemmas.{history_in_place}
use Rattle.plain_heap.proofs.SettingLemmas.{geometry_in-sound}
use Rattle.heap_ledger.specs.Ledger.{Ledger, after_commit, grown, run_setting, run_state}
use Rattle.heap_accounts.specs.declared.fresh.Fresh.{Fresh}
use Rattle.heap_accounts.specs.Grows.{HasNoRunOf, IsFresh, fresh_slab, fresh_start, fresh_state}
use Rattle.heap_accounts.specs.Kinds.{is_chunk_call}
use Rattle.heap_accounts.specs.Performed.{IsFoundWithin, IsPerformedChunk, answer_at}
use Rattle.heap_accounts.specs.Places.{cpu_of, rounds_of, with_stock}
use Rattle.heap_accounts.specs.Turns.{HasNoRunFor, MakesGrown, Waits}
use Rattle.heap_accounts.proofs.PlacingLemmas.{grows_change}
use Rattle.plain_heap.proofs.RisingLemmas.{AreRising, all_rising}
use Rattle.heap_accounts.proofs.SlabLemmas.{came_from}
use Rattle.heap_core.specs.ChunkCalls.{IsAskedOf, PerformsChunk}
use Rattle.heap_core.specs.Heap.{run_places}
use Rattle.heap_core.proofs.AskedLemmas.{asks_cache, cache_reply, call_is, is_known, is_performed, not_behind}
use Rattle.heap_core.proofs.FoundLemmas.{cpu_within}
use Rattle.heap_core.proofs.RoundLemmas.{answer_is}

module _ (ledger : Ledger) (thread number : ℕ) (stock : Stock) (asked : IsAskedOf ledger thread number stock) where
  pub never_waits : (new : Ledger) → Waits is_chunk_call ledger new thread number → ⊥
  never_waits new is = not_behind ledger thread number asked.cache asked.asked is.none

  -- no run of pages is free for a slab of the cache
  pub has_no_run : (new : Ledger) → HasNoRunFor ledger new thread number → HasNoRunOf asked.cache (run_setting ledger) (run_state ledger)
  has_no_run new is =
      let same = asks_cache ledger thread number asked.cache asked.asked is.call is.request (run_setting ledger) is.due is.asked in
      subst (λ c. HasNoRunOf c (run_setting ledger) (run_state ledger)) same is.none

  -- nothing is in the lists of the slabs where nothing is within reach
  pub lists_empty : taken_from stock (cpu_of (run_setting ledger) thread) ≡ None → listed_rounds stock.slabs ≡ []
  lists_empty bare =
      (IsBare-taken_from stock (cpu_of (run_setting ledger) thread) (cpu_within ledger thread number stock asked) asked.its.sound bare).listed

  -- ---- the slab

  module _ (fresh : Fresh) (its : IsFresh asked.cache fresh (run_setting ledger) (run_state ledger)) where
    rising : AreRising (run_setting ledger) (run_state ledger).slabs (run_state ledger).grown
    rising = all_rising (run_setting ledger) ledger.entries start_state (record { apart = λ i j d less lt. absurd (omega arith); below = λ k d lt. absurd (omega arith) })

    long : length fresh.rounds.items ≡ (geometry_in (run_setting ledger) asked.cache).rounds
    long = ap length its.rounds ∙ length-range_with_len (next_chunk (run_setting ledger) (run_state ledger)) (geometry_in (run_setting ledger) asked.cache).rounds

    pub rounds_some : 0 < length fresh.rounds.items
    rounds_some =
        let many = (geometry_in-sound (run_setting ledger) asked.cache asked.legal.plan.header (is_known ledger thread number asked.cache asked.asked asked.legal)).rounds_many in omega (arith, long, many)

    pub rounds_few : length fresh.rounds.items ≤ 512
    rounds_few =
        let few = (geometry_in-sound (run_setting ledger) asked.cache asked.legal.plan.header (is_known ledger thread number asked.cache asked.asked asked.legal)).rounds_small in omega (arith, long, few)

    first_is : slice_index fresh.rounds.items 0 ≡ next_chunk (run_setting ledger) (run_state ledger)
    first_is =
        let first = next_chunk (run_setting ledger) (run_state ledger) in
        let some : 0 < (geometry_in (run_setting ledger) asked.cache).rounds = omega (arith, rounds_some, long) in
        let zero_more : first + 0 ≡ first = omega arith in
        ap (λ (l : List ℕ). slice_index l 0) its.rounds ∙ get_or-range_with_len first (geometry_in (run_setting ledger) asked.cache).rounds 0 0 some ∙ zero_more

    pub rounds_rise : AreConsecutive fresh.rounds.items
    rounds_rise = its.rounds ∙ ap (λ n. range_with_len n (geometry_in (run_setting ledger) asked.cache).rounds) (sym first_is) ∙ ap (range_with_len (slice_index fresh.rounds.items 0)) (sym long)

    pub slab_apart : All (IsApartBelow (slab_of fresh.base fresh.rounds.items)) stock.slabs
    slab_apart k d lt =
        let setting = run_setting ledger in
        let state = run_state ledger in
        let header = asked.legal.plan.header in
        let slab = new_slab setting state asked.cache fresh.base in
        let places = history_in_place setting ledger.entries header asked.legal.legal in
        let some_pages = (geometry_in-sound setting asked.cache header (is_known ledger thread number asked.cache asked.asked asked.legal)).pages_some in
        let run = new_run setting state fresh.base (geometry_in setting asked.cache).pages places its.lowest.free some_pages in
        let from = came_from setting asked.cache state.slabs stock.slabs asked.its.slabs (get_or stock.slabs k d) (Contains-get_or stock.slabs k d lt) in
        let h = from.slab in
        let bases : h.base ≡ (get_or stock.slabs k d).base = ap (λ (s : Slab). s.base) from.is in
        let firsts : h.first ≡ (get_or stock.slabs k d).first = ap (λ (s : Slab). s.first) from.is in
        let counts : (geometry_in setting h.cache).rounds ≡ (get_or stock.slabs k d).count = ap (λ (s : Slab). s.count) from.is in
        let below = All-contains (λ (s : HeapSlab). s.first + (geometry_in setting s.cache).rounds ≤ slab.first) state.slabs h rising.below from.stands in
        let some = (All-contains (λ (s : HeapSlab). IsInArena setting (span_of_slab setting s)) state.slabs h places.slabs_in from.stands).some in
        let apart = All-contains (λ (s : HeapSlab). StandApart (span_of_slab setting slab) (span_of_slab setting s)) state.slabs h run.slabs_apart from.stands in (
          λ same. apart_bases (span_of_slab setting slab) (span_of_slab setting h) run.within.some some apart (sym (bases ∙ same)),
          omega (arith, below, firsts, counts, first_is),
        )

  -- ---- the call

  module _ (new : Ledger) (answer : Reply) (fresh : Fresh) (makes : MakesGrown ledger new thread number answer fresh) where
    cache_same : makes.request.cache ≡ asked.cache
    cache_same = asks_cache ledger thread number asked.cache asked.asked makes.call makes.request (run_setting ledger) makes.due makes.asked

    call_same : makes.call ≡ asked.asked.call
    call_same = call_is ledger thread number asked.cache asked.asked makes.call makes.due

    pub fresh_is : IsFresh asked.cache fresh (run_setting ledger) (run_state ledger)
    fresh_is = subst (λ c. IsFresh c fresh (run_setting ledger) (run_state ledger)) cache_same makes.its

    made : new ≡ after_commit ledger thread (grown (fresh_slab asked.cache fresh) ∷ []) asked.asked.call answer
    made =
        makes.made ∙ ap (λ c. after_commit ledger thread (grown (fresh_slab c fresh) ∷ []) makes.call answer) cache_same
        ∙ ap (λ (c : Call). after_commit ledger thread (grown (fresh_slab asked.cache fresh) ∷ []) c answer) call_same

    answered : answer ≡ answer_at (run_setting ledger) (fresh_state asked.cache fresh (run_setting ledger) (run_state ledger)) (fresh_start asked.cache fresh (run_setting ledger) (run_state ledger))
    answered =
        let setting = run_setting ledger in
        let then = fresh_state asked.cache fresh setting (run_state ledger) in
        let at = subst (λ c. IsAnsweredAt answer (fresh_start c fresh setting (run_state ledger))) cache_same makes.at in
        let told = subst (λ c. IsReply setting (fresh_state c fresh setting (run_state ledger)) thread makes.call.op answer) cache_same makes.reply.reply in
        let its = subst (λ (c : Call). IsReply setting then thread c.op answer) call_same told in
        sym (answer_is setting then asked.cache answer (fresh_start asked.cache fresh setting (run_state ledger)) (cache_reply setting then thread asked.asked.call.op asked.cache answer asked.asked.asks its) at)

    places_now : run_places new ≡ with_stock (run_places ledger) asked.cache (with_slab_of stock fresh.base fresh.rounds.items)
    places_now =
        let setting = run_setting ledger in
        ap run_places made
        ∙ grows_change setting ledger.entries (length ledger.entries) thread (fresh_slab asked.cache fresh) asked.asked.call answer asked.legal.legal asked.asked.asks
        ∙ ap (λ (s : Stock). with_stock (run_places ledger) asked.cache (with_slab_of s fresh.base (rounds_of setting (new_slab setting (run_state ledger) asked.cache fresh.base)))) (sym asked.there)
        ∙ ap (λ (l : List ℕ). with_stock (run_places ledger) asked.cache (with_slab_of stock fresh.base l)) (sym fresh_is.rounds)

    pub performs_grown : taken_from stock (cpu_of (run_setting ledger) thread) ≡ None → (now : Stock) → now ≡ with_slab_of stock fresh.base fresh.rounds.items → PerformsChunk ledger new thread number now answer
    performs_grown bare now is =
        let setting = run_setting ledger in
        let state = run_state ledger in
        let cpu = cpu_of setting thread in
        let inner = grown (fresh_slab asked.cache fresh) ∷ [] in
        let found : IsFoundWithin setting state asked.cache (chunk_in {A = Stock} None) (chunk_in (taken_any stock cpu)) inner answer = (refl, fresh_is.lowest, answered) in
        let reached = subst (λ (o : Option (InHand Stock)). IsFoundWithin setting state asked.cache (chunk_in o) (chunk_in (taken_any stock cpu)) inner answer) (sym bare) found in
        let its : IsPerformedChunk setting state (run_places ledger) thread asked.cache inner answer =
        subst (λ (s : Stock). IsFoundWithin setting state asked.cache (chunk_in (taken_from s cpu)) (chunk_in (taken_any s cpu)) inner answer) asked.there reached in
        record {
          performed = record {
            call = asked.asked.call;
            due = asked.asked.due;
            inner = inner;
            performed = is_performed setting state (run_places ledger) thread asked.cache answer asked.asked.call.op inner asked.asked.asks its;
            made = made;
          };
          cache = asked.cache;
          asked = asked.asked;
          places = places_now ∙ ap (with_stock (run_places ledger) asked.cache) (sym is);
        }
