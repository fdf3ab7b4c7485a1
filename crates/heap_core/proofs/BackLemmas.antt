-- The round that comes back of a free: which slab's chunk it is of, and that it stands nowhere.
use Rattle.std.proofs.Common.{◌≡◌, ℕ, ◌+◌, ◌-◌, ◌/◌, ◌<◌, Bool, true, false, cond, eqb, Option, None, Some, refl, sym, ap, ◌∙◌, subst, arith}
use Rattle.std.specs.Prelude.{IfSome, is_some, option_map}
use Rattle.std.specs.Option.{option_map_or}
use Rattle.std.proofs.lemmas.Bool.{and_from, and_parts, false≢true, le-leb, leb-true, lt-ltb, ltb-true}
use Rattle.script.specs.declared.operation.Op.{Op}
use Rattle.script.specs.declared.operation.Op.TheVariants.{Alloc, Zalloc, Free, CacheAlloc, CacheFree, Copy, Clear, Store, Link, Load, Reap}
use Rattle.slab_layer.specs.Slab.{Slab}
use Rattle.shelf.specs.Stock.{IsOut, Stock}
use Rattle.plain_heap.specs.declared.held.Held.{Held}
use Rattle.plain_heap.specs.declared.reply.Reply.{Reply}
use Rattle.plain_heap.specs.declared.reply.Reply.TheVariants as reply
use Rattle.plain_heap.specs.Replies.{free_answer, free_answer_in, has_finding_at, refusal_by_cache, refusal_by_size}
use Rattle.plain_heap.specs.Setting.{Setting, geometry_in}
use Rattle.plain_heap.specs.State.{HeapSlab, State, begins_chunk, chunk_number, chunk_start, held_at, slab_with_chunk, start_state, was_given, word_of_slot}
use Rattle.plain_heap.proofs.PlacesLemmas.{is_cache_of}
use Rattle.plain_heap.proofs.SeparateLemmas.{history_in_place}
use Rattle.plain_heap.proofs.SettingLemmas.{geometry_in-sound}
use Rattle.plain_heap.proofs.SlabOfChunk.{begun, find_found}
use Rattle.heap_ledger.specs.Commits.{IsTidyReply}
use Rattle.heap_ledger.specs.Ledger.{IsLedger, Ledger, run_setting, run_state}
use Rattle.heap_slabs.specs.declared.placed.Placed.{Placed}
use Rattle.heap_accounts.specs.FreeChunks.{IsStockOf}
use Rattle.heap_accounts.specs.Frees.{IsRoundOf, number_back}
use Rattle.heap_accounts.specs.Kinds.{freed_slot, is_free}
use Rattle.heap_accounts.specs.Laws.{at_rest}
use Rattle.heap_accounts.specs.Places.{Places, has_chunk_number, places_by_call, places_by_free, slab_with_number, with_put}
use Rattle.heap_accounts.proofs.FreeRoundLemmas.{IsGood, IsSeat, number_one, seat_of, start_at}
use Rattle.plain_heap.proofs.RisingLemmas.{all_rising, find_none, index_told}
use Rattle.heap_accounts.proofs.SlabLemmas.{stands_for}

-- ---- what a legal history leaves

pub good_state : (ledger : Ledger) → IsLedger ledger → IsGood (run_setting ledger) (run_state ledger)
good_state ledger legal = record {
  header = legal.plan.header;
  places = history_in_place (run_setting ledger) ledger.entries legal.plan.header legal.legal;
  rising = all_rising (run_setting ledger) ledger.entries start_state (record { apart = λ i j d less lt. absurd (omega arith); below = λ k d lt. absurd (omega arith) });
}

-- ---- which chunk came back

-- the free was answered ok, and the round is that of a chunk that begins at the freed word
pub record GaveBack (setting : Setting) (state : State) (thread : ℕ) (op : Op) (answer : Reply) (round : ℕ) : Type 0 where
  pub slot : ℕ
  pub freed : freed_slot op ≡ Some slot
  pub ok : answer ≡ reply.Ok
  pub slab : HeapSlab
  pub found : slab_with_chunk setting state.slabs (word_of_slot state thread slot) ≡ Some slab
  pub number : round ≡ chunk_number setting slab (word_of_slot state thread slot)

-- the chunk of a slab that begins at a word
abbrev placed_in : Setting → ℕ → HeapSlab → Placed
placed_in setting word slab = record { chunk = record { address = word; number = chunk_number setting slab word }; cache = slab.cache }

module _ (setting : Setting) (state : State) (thread : ℕ) (op : Op) where
  -- the slot of a free
  pub free_slot : is_free op ≡ true → (slot : ℕ) × (freed_slot op ≡ Some slot)
  free_slot is = by_slot (freed_slot op) refl is
    where
      by_slot : (o : Option ℕ) → freed_slot op ≡ o → is_some o ≡ true → (slot : ℕ) × (freed_slot op ≡ Some slot)
      by_slot None found is = absurd (false≢true is)
      by_slot (Some slot) found is = (slot, found)

  told : (answer : Reply) (round : Option ℕ) (slot : ℕ) → freed_slot op ≡ Some slot → IsRoundOf setting state thread op answer round → round ≡ number_back setting state (word_of_slot state thread slot) answer
  told answer round slot freed back = subst (λ (o : Option ℕ). IfSome o (λ s. round ≡ number_back setting state (word_of_slot state thread s) answer)) freed back

  pub gave_back : (answer : Reply) (round : ℕ) → is_free op ≡ true → IsRoundOf setting state thread op answer (Some round) → GaveBack setting state thread op answer round
  gave_back answer round is back =
      let its = free_slot is in
      by_answer its.0 its.1 answer (told answer (Some round) its.0 its.1 back)
    where
      by_slab : (slot : ℕ) → freed_slot op ≡ Some slot → (o : Option HeapSlab) → slab_with_chunk setting state.slabs (word_of_slot state thread slot) ≡ o
          → Some round ≡ option_map (λ (s : HeapSlab). chunk_number setting s (word_of_slot state thread slot)) o → GaveBack setting state thread op reply.Ok round
      by_slab slot freed None found same = absurd (cc same)
      by_slab slot freed (Some slab) found same = record { slot = slot; freed = freed; ok = refl; slab = slab; found = found; number = cc same }

      by_answer : (slot : ℕ) → freed_slot op ≡ Some slot → (a : Reply) → Some round ≡ number_back setting state (word_of_slot state thread slot) a → GaveBack setting state thread op a round
      by_answer slot freed reply.Ok same = by_slab slot freed (slab_with_chunk setting state.slabs (word_of_slot state thread slot)) refl (same ∙ through (slab_with_chunk setting state.slabs (word_of_slot state thread slot)))
        where
          through : (o : Option HeapSlab) → option_map (λ (p : Placed). p.chunk.number) (option_map (placed_in setting (word_of_slot state thread slot)) o)
              ≡ option_map (λ (s : HeapSlab). chunk_number setting s (word_of_slot state thread slot)) o
          through None = refl
          through (Some s) = refl
      by_answer slot freed other same = absurd (cc same)

  -- the places after a free
  pub by_free : (places : Places) (answer : Reply) (slot : ℕ) → freed_slot op ≡ Some slot
      → places_by_call setting (at_rest state places) thread op answer ≡ places_by_free setting state places thread (word_of_slot state thread slot) answer
  by_free places answer slot freed = by_op op freed
    where
      by_op : (op : Op) → freed_slot op ≡ Some slot → places_by_call setting (at_rest state places) thread op answer ≡ places_by_free setting state places thread (word_of_slot state thread slot) answer
      by_op (Alloc other size) freed = absurd (cc freed)
      by_op (Zalloc other size) freed = absurd (cc freed)
      by_op (Free other size) freed = let same : other ≡ slot = cc freed in ap (λ s. places_by_free setting state places thread (word_of_slot state thread s) answer) same
      by_op (CacheAlloc other cache) freed = absurd (cc freed)
      by_op (CacheFree other cache) freed = let same : other ≡ slot = cc freed in ap (λ s. places_by_free setting state places thread (word_of_slot state thread s) answer) same
      by_op (Copy to from) freed = absurd (cc freed)
      by_op (Clear other) freed = absurd (cc freed)
      by_op (Store other offset stored) freed = absurd (cc freed)
      by_op (Link other offset value) freed = absurd (cc freed)
      by_op (Load to other offset) freed = absurd (cc freed)
      by_op Reap freed = absurd (cc freed)

  -- the places after a free of which no round came back are those before
  pub none_back : (places : Places) (answer : Reply) → is_free op ≡ true → IsRoundOf setting state thread op answer None → places_by_call setting (at_rest state places) thread op answer ≡ places
  none_back places answer is back =
      let its = free_slot is in
      by_free places answer its.0 its.1 ∙ by_answer (word_of_slot state thread its.0) answer (told answer None its.0 its.1 back)
    where
      by_slab : (word : ℕ) (o : Option HeapSlab) → None ≡ option_map (λ (p : Placed). p.chunk.number) (option_map (placed_in setting word) o)
          → option_map_or (with_put setting places thread word) o places ≡ places
      by_slab word None same = refl
      by_slab word (Some slab) same = absurd (cc same)

      by_answer : (word : ℕ) (a : Reply) → None ≡ number_back setting state word a → places_by_free setting state places thread word a ≡ places
      by_answer word reply.Ok same = by_slab word (slab_with_chunk setting state.slabs word) same
      by_answer word other same = refl

  -- those after one of which a round came back have it in the stock of its slab's cache
  pub some_back : (places : Places) (answer : Reply) (round : ℕ) (gave : GaveBack setting state thread op answer round)
      → places_by_call setting (at_rest state places) thread op answer ≡ with_put setting places thread (word_of_slot state thread gave.slot) gave.slab
  some_back places answer round gave =
      let word = word_of_slot state thread gave.slot in
      by_free places answer gave.slot gave.freed
      ∙ ap (places_by_free setting state places thread word) gave.ok
      ∙ ap (λ (o : Option HeapSlab). option_map_or (with_put setting places thread word) o places) gave.found

  -- what was given back lived
  ok_lives : (word : ℕ) (held : Option Held) (given : Bool) (refusal : Held → Option Reply) (finding : Bool) → reply.Ok ≡ free_answer word held given refusal finding → held ≡ None → ⊥
  ok_lives word held given refusal finding ok none = by_tests (eqb word 0) given (ok ∙ ap (λ (o : Option Held). free_answer word o given refusal finding) none)
    where
      by_tests : (b c : Bool) → reply.Ok ≡ cond b reply.Null (cond c reply.Dup reply.BadAddr) → ⊥
      by_tests true c e = cc e
      by_tests false true e = cc e
      by_tests false false e = cc e

  pub lived : (answer : Reply) (slot : ℕ) → freed_slot op ≡ Some slot → answer ≡ reply.Ok → IsTidyReply setting state thread op answer → held_at state.live (word_of_slot state thread slot) ≡ None → ⊥
  lived answer slot freed ok tidy none = by_op op freed tidy
    where
      lives : (refusal : Held → Option Reply) (other : ℕ) → other ≡ slot → answer ≡ free_answer_in setting state (word_of_slot state thread other) refusal → ⊥
      lives refusal other same is =
          let word = word_of_slot state thread other in
          ok_lives word (held_at state.live word) (was_given state word) refusal (has_finding_at setting state word) (sym ok ∙ is) (ap (λ s. held_at state.live (word_of_slot state thread s)) same ∙ none)

      by_op : (op : Op) → freed_slot op ≡ Some slot → IsTidyReply setting state thread op answer → ⊥
      by_op (Alloc other size) freed tidy = cc freed
      by_op (Zalloc other size) freed tidy = cc freed
      by_op (Free other size) freed tidy = lives (refusal_by_size size) other (cc freed) tidy.reply
      by_op (CacheAlloc other cache) freed tidy = cc freed
      by_op (CacheFree other cache) freed tidy = lives (refusal_by_cache cache) other (cc freed) tidy.reply
      by_op (Copy to from) freed tidy = cc freed
      by_op (Clear other) freed tidy = cc freed
      by_op (Store other offset stored) freed tidy = cc freed
      by_op (Link other offset value) freed tidy = cc freed
      by_op (Load to other offset) freed tidy = cc freed
      by_op Reap freed tidy = cc freed

-- ---- the chunk among all

-- a chunk of a slab that stands, by its number and by where it begins
pub record IsChunkBack (setting : Setting) (state : State) (slab : HeapSlab) (round word : ℕ) : Type 0 where
  pub index : ℕ
  pub seat : IsSeat setting state slab index
  pub number : round ≡ slab.first + index
  pub there : word ≡ chunk_start setting slab index

module _ (setting : Setting) (state : State) (good : IsGood setting state) where
  pub chunk_back : (slab : HeapSlab) (round word : ℕ) → slab_with_chunk setting state.slabs word ≡ Some slab → round ≡ chunk_number setting slab word → IsChunkBack setting state slab round word
  chunk_back slab round word found number =
      let both = find_found (λ (s : HeapSlab). begins_chunk setting s word) state.slabs slab found in
      let is_cache = is_cache_of setting state.live state.slabs good.header good.places slab both.0 in
      let big = (geometry_in-sound setting slab.cache good.header is_cache).chunk_some in
      let some : 0 < (geometry_in setting slab.cache).chunk = omega (arith, big) in
      let chunk = begun setting slab word some both.1 in
      record {
        index = chunk.index;
        seat = record { stands = both.0; within = chunk.within };
        number = number
            ∙ ap (λ a. slab.first + (a - chunk_start setting slab 0) / (geometry_in setting slab.cache).chunk) chunk.there
            ∙ ap (λ i. slab.first + i) (index_told setting slab chunk.index some chunk.within).0;
        there = chunk.there;
      }

  -- its slab is found by its number
  pub number_found : (slab : HeapSlab) (round word : ℕ) → IsChunkBack setting state slab round word → slab_with_number setting state.slabs round ≡ Some slab
  number_found slab round word back = by_found (slab_with_number setting state.slabs round) refl
    where
      by_found : (o : Option HeapSlab) → slab_with_number setting state.slabs round ≡ o → slab_with_number setting state.slabs round ≡ Some slab
      by_found None found =
          let low = le-leb slab.first round (omega (arith, back.number)) in
          let high = lt-ltb round (slab.first + (geometry_in setting slab.cache).rounds) (omega (arith, back.number, back.seat.within)) in
          absurd (find_none (has_chunk_number setting round) state.slabs slab found back.seat.stands (and_from _ _ low high))
      by_found (Some s) found =
          let both = find_found (has_chunk_number setting round) state.slabs s found in
          let parts = and_parts _ _ both.1 in
          let low = leb-true s.first round parts.0 in
          let high = ltb-true round (s.first + (geometry_in setting s.cache).rounds) parts.1 in
          let seat : IsSeat setting state s (round - s.first) = record { stands = both.0; within = omega (arith, low, high) } in
          let same : s.first + (round - s.first) ≡ slab.first + back.index = omega (arith, low, back.number) in
          found ∙ ap Some (number_one setting state good s slab (round - s.first) back.index seat back.seat same)

  -- it stands nowhere, since the buffer at its word lived
  pub back_out : (slab : HeapSlab) (round word : ℕ) → IsChunkBack setting state slab round word → (held_at state.live word ≡ None → ⊥) → (stock : Stock) → IsStockOf setting state slab.cache stock → IsOut stock round
  back_out slab round word back alive stock is = record {
    known =
        let for = stands_for setting slab.cache state.slabs stock.slabs is.slabs slab back.seat.stands refl in
        let firsts : for.slab.first ≡ slab.first = ap (λ (t : Slab). t.first) for.is in
        let counts : for.slab.count ≡ (geometry_in setting slab.cache).rounds = ap (λ (t : Slab). t.count) for.is in
        (for.there.0, for.slab, for.there.1, for.there.2, (omega (arith, firsts, back.number), omega (arith, firsts, counts, back.number, back.seat.within)));
    out = λ held.
        let f = (is.held round).0 held in
        let starts = start_at setting state good slab f.slab back.index f.index back.seat (seat_of setting state slab.cache round f) (sym back.number ∙ f.number) in
        alive (ap (held_at state.live) (back.there ∙ starts) ∙ f.free);
  }
