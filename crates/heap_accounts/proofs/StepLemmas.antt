-- The places as one call changes them.
use Rattle.std.proofs.Common.{◌≡◌, ◌≢◌, ℕ, ◌+◌, ◌-◌, ◌*◌, ◌/◌, ◌%◌, ◌<◌, ◌≤◌, ◌⊎◌, Bool, true, false, cond, eqb, List, ◌∷◌, length, Option, Some, None, refl, sym, ap, ◌∙◌, subst, arith, inl, inr}
use Rattle.std.specs.Prelude.{option_map}
use Rattle.std.specs.Option.{option_map_or}
use Rattle.std.proofs.lemmas.Bool.{and_parts, leb-true, ltb-true}
use Rattle.std.proofs.lemmas.Bool.Decides.{eqb_tells}
use Rattle.std.proofs.lemmas.List.{get_or-set_other, get_or-set_same, length-set}
use Rattle.std.proofs.lemmas.List.Elements.{All-contains}
use Rattle.std.proofs.lemmas.List.Sorted.{Contains-permutation, IsPermutation-sym}
use Rattle.umem_base.specs.Pages.{pages_for}
use Rattle.umem_base.proofs.Lists.{Contains-here}
use Rattle.slab_layer.specs.Slab.{Slab}
use Rattle.shelf.specs.Laws.{TakesOne}
use Rattle.shelf.specs.Steps.{InHand, put_on}
use Rattle.shelf.specs.Stock.{IsOut, Stock, held_rounds}
use Rattle.shelf.proofs.StockLemmas.{put_on_is}
use Rattle.plain_heap.specs.declared.held.Held.{Held}
use Rattle.plain_heap.specs.declared.reply.Reply.{Reply}
use Rattle.plain_heap.specs.declared.reply.Reply.TheVariants as reply
use Rattle.plain_heap.specs.Laws.{StandApart}
use Rattle.plain_heap.specs.Replies.{IsLargeReply, free_answer, free_answer_in, has_finding_at}
use Rattle.plain_heap.specs.Setting.{Setting, geometry_in}
use Rattle.plain_heap.specs.State.{HeapSlab, LiveBuffer, State, after_alloc, after_free, begins_chunk, chunk_number, chunk_start, held_at, slab_with_chunk, span_of_slab, was_given, word_of_slot}
use Rattle.plain_heap.proofs.EntryLemmas.{giving_back, held_first}
use Rattle.plain_heap.proofs.PlacesLemmas.{chunk_in_slab, is_cache_of, pages_at}
use Rattle.plain_heap.proofs.RunsLemmas.{new_run}
use Rattle.plain_heap.proofs.SettingLemmas.{geometry_in-sound}
use Rattle.plain_heap.proofs.SlabOfChunk.{begun, find_found}
use Rattle.plain_heap.proofs.RisingLemmas.{index_told, slab_found}
use Rattle.heap_accounts.specs.FreeChunks.{ArePlacesOf, IsFreeRound, IsStockOf}
use Rattle.heap_accounts.specs.Places.{Places, address_of, cache_count, cpu_of, has_chunk_number, places_by_free, slab_with_number, stock_at, with_put, with_stock}
use Rattle.heap_accounts.proofs.FreeRoundLemmas.{GivesBackAt, HandsOutAt, IsGood, IsSeat, SameChunks, gave_elsewhere, gave_stock, same_stock, seat_of, start_at, took_elsewhere, took_stock}
use Rattle.heap_accounts.proofs.SlabLemmas.{stands_for}

-- ---- all caches at once

pub same_places : (setting : Setting) (state after : State) (places : Places) → ((cache : ℕ) → SameChunks setting cache state after) → ArePlacesOf setting state places → ArePlacesOf setting after places
same_places setting state after places same are = record {
  count = are.count;
  each = λ cache known. same_stock setting cache state after (same cache) (stock_at places cache) (are.each cache known);
}

pub unchanged : (setting : Setting) (state after : State) (places : Places) → after.slabs ≡ state.slabs → after.live ≡ state.live → ArePlacesOf setting state places → ArePlacesOf setting after places
unchanged setting state after places slabs live are =
    same_places setting state after places (λ cache. record { slabs = slabs; free = λ slab index seat its. ap (λ (l : List LiveBuffer). held_at l (chunk_start setting slab index)) live }) are

-- one stock changes, and the others fit still
pub one_changes : (setting : Setting) (state after : State) (places : Places) (cache : ℕ) (stock : Stock) → ArePlacesOf setting state places → (cache < cache_count setting → IsStockOf setting after cache stock)
    → ((other : ℕ) → other ≢ cache → IsStockOf setting state other (stock_at places other) → IsStockOf setting after other (stock_at places other)) → ArePlacesOf setting after (with_stock places cache stock)
one_changes setting state after places cache stock are mine others = record {
  count = length-set places cache stock ∙ are.count;
  each = λ other known. elim (eqb_tells other cache) [
    | inl same ↦
        let here : cache < length places = omega (arith, are.count, known, same.1) in
        let its : stock_at (with_stock places cache stock) other ≡ stock = ap (stock_at (with_stock places cache stock)) same.1 ∙ get_or-set_same places cache stock _ here in
        subst (IsStockOf setting after other) (sym its) (subst (λ c. IsStockOf setting after c stock) (sym same.1) (mine (omega (arith, known, same.1))))
    | inr apart ↦
        subst (IsStockOf setting after other) (sym (get_or-set_other places cache other stock _ apart.1)) (others other apart.1 (are.each other known))
  ];
}

-- ---- allocations of a chunk

module _ (setting : Setting) (state : State) (good : IsGood setting state) where
  -- the address of a free chunk
  address_is : (cache chunk address : ℕ) (f : IsFreeRound setting state cache chunk) → address_of setting state chunk ≡ Some address → chunk_start setting f.slab f.index ≡ address
  address_is cache chunk address f is = by_slab (slab_with_number setting state.slabs chunk) refl is
    where
      by_slab : (o : Option HeapSlab) → slab_with_number setting state.slabs chunk ≡ o → option_map (λ (s : HeapSlab). chunk_start setting s (chunk - s.first)) o ≡ Some address → chunk_start setting f.slab f.index ≡ address
      by_slab None found is = absurd (cc is)
      by_slab (Some s) found is =
          let both = find_found (has_chunk_number setting chunk) state.slabs s found in
          let parts = and_parts _ _ both.1 in
          let low = leb-true s.first chunk parts.0 in
          let high = ltb-true chunk (s.first + (geometry_in setting s.cache).rounds) parts.1 in
          let seat : IsSeat setting state s (chunk - s.first) = record { stands = both.0; within = omega (arith, low, high) } in
          let number : f.slab.first + f.index ≡ s.first + (chunk - s.first) = omega (arith, f.number, low) in
          start_at setting state good f.slab s f.index (chunk - s.first) (seat_of setting state cache chunk f) seat number ∙ some_one is
        where
          some_one : Some (chunk_start setting s (chunk - s.first)) ≡ Some address → chunk_start setting s (chunk - s.first) ≡ address
          some_one e = cc

  -- a round was taken, and its chunk handed out
  pub took : (places : Places) (cache address : ℕ) (held : Held) (hand : InHand Stock) (after : State) → ArePlacesOf setting state places → cache < cache_count setting → TakesOne (stock_at places cache) hand
      → address_of setting state hand.chunk ≡ Some address → after.slabs ≡ state.slabs → after.live ≡ record { address = address; held = held } ∷ state.live → ArePlacesOf setting after (with_stock places cache hand.left)
  took places cache address held hand after are known takes there slabs live =
      let stock = stock_at places cache in
      let is = are.each cache known in
      let was = Contains-permutation (hand.chunk ∷ held_rounds hand.left) (held_rounds stock) hand.chunk (IsPermutation-sym (held_rounds stock) (hand.chunk ∷ held_rounds hand.left) takes.holds) (Contains-here hand.chunk (held_rounds hand.left)) in
      let f = (is.held hand.chunk).0 was in
      let at = address_is cache hand.chunk address f there in
      let out : HandsOutAt setting f.slab f.index state after = record {
        seat = seat_of setting state cache hand.chunk f;
        slabs = slabs;
        held = held;
        live = λ x. ap (λ (l : List LiveBuffer). held_at l x) live ∙ held_first (record { address = address; held = held }) state.live x ∙ ap (λ a. cond (eqb a x) (Some held) (held_at state.live x)) (sym at);
      } in
      one_changes setting state after places cache hand.left are
      (λ _. subst (λ c. IsStockOf setting after c hand.left) f.its (took_stock setting f.slab f.index state after good out stock hand (subst (λ c. IsStockOf setting state c stock) (sym f.its) is) takes f.number))
      (λ other apart its. same_stock setting other state after (took_elsewhere setting f.slab f.index state after good out other (λ same. apart (same ∙ f.its))) (stock_at places other) its)

  pub cpu_known : (places : Places) (cache thread : ℕ) → ArePlacesOf setting state places → cache < cache_count setting → cpu_of setting thread < length (stock_at places cache).cpus
  cpu_known places cache thread are known =
      let cpus = (are.each cache known).cpus in
      let some = good.header.cpus.0 in
      let small : thread % setting.header.cpus < setting.header.cpus = omega (arith, some) in
      omega (arith, small, cpus)

-- ---- frees

-- only what lives is given back
ok_lives : (word : ℕ) (held : Option Held) (given : Bool) (refusal : Held → Option Reply) (finding : Bool) → reply.Ok ≡ free_answer word held given refusal finding → held ≡ None → ⊥
ok_lives word held given refusal finding ok none = by_tests (eqb word 0) given (ok ∙ ap (λ (o : Option Held). free_answer word o given refusal finding) none)
  where
    by_tests : (b c : Bool) → reply.Ok ≡ cond b reply.Null (cond c reply.Dup reply.BadAddr) → ⊥
    by_tests true c e = cc e
    by_tests false true e = cc e
    by_tests false false e = cc e

module _ (setting : Setting) (state : State) (good : IsGood setting state) (places : Places) (are : ArePlacesOf setting state places) (thread word : ℕ) (after : State) (slabs : after.slabs ≡ state.slabs)
    (live : (address : ℕ) → held_at after.live address ≡ cond (eqb word address) None (held_at state.live address)) (alive : held_at state.live word ≡ None → ⊥) where
  -- the chunk of a slab
  put_chunk : (slab : HeapSlab) → slab_with_chunk setting state.slabs word ≡ Some slab → ArePlacesOf setting after (with_put setting places thread word slab)
  put_chunk slab found =
      let both = find_found (λ (s : HeapSlab). begins_chunk setting s word) state.slabs slab found in
      let is_cache = is_cache_of setting state.live state.slabs good.header good.places slab both.0 in
      let big = (geometry_in-sound setting slab.cache good.header is_cache).chunk_some in
      let some : 0 < (geometry_in setting slab.cache).chunk = omega (arith, big) in
      let chunk = begun setting slab word some both.1 in
      let index = chunk.index in
      let seat : IsSeat setting state slab index = record { stands = both.0; within = chunk.within } in
      let number : chunk_number setting slab word ≡ slab.first + index =
      ap (λ a. slab.first + (a - chunk_start setting slab 0) / (geometry_in setting slab.cache).chunk) chunk.there ∙ ap (λ i. slab.first + i) (index_told setting slab index some chunk.within).0 in
      let back : GivesBackAt setting slab index state after = record { seat = seat; slabs = slabs; live = λ x. live x ∙ ap (λ a. cond (eqb a x) None (held_at state.live x)) chunk.there } in
      one_changes setting state after places slab.cache (put_on (stock_at places slab.cache) (cpu_of setting thread) (chunk_number setting slab word)) are
      (λ known.
      let stock = stock_at places slab.cache in
      let is = are.each slab.cache known in
      let puts = put_on_is stock (cpu_of setting thread) (slab.first + index) (cpu_known setting state good places slab.cache thread are known) is.sound (is_out slab index seat chunk.there stock is) in
      subst (λ n. IsStockOf setting after slab.cache (put_on stock (cpu_of setting thread) n)) (sym number) (gave_stock setting slab index state after good back stock (put_on stock (cpu_of setting thread) (slab.first + index)) is puts))
      (λ other apart its. same_stock setting other state after (gave_elsewhere setting slab index state after good back other apart) (stock_at places other) its)
    where
      is_out : (slab : HeapSlab) (index : ℕ) → IsSeat setting state slab index → word ≡ chunk_start setting slab index → (stock : Stock) → IsStockOf setting state slab.cache stock → IsOut stock (slab.first + index)
      is_out slab index seat there stock is = record {
        known =
            let for = stands_for setting slab.cache state.slabs stock.slabs is.slabs slab seat.stands refl in
            let firsts : for.slab.first ≡ slab.first = ap (λ (t : Slab). t.first) for.is in
            let counts : for.slab.count ≡ (geometry_in setting slab.cache).rounds = ap (λ (t : Slab). t.count) for.is in
            (for.there.0, for.slab, for.there.1, for.there.2, (omega (arith, firsts), omega (arith, firsts, counts, seat.within)));
        out = λ held.
            let f = (is.held (slab.first + index)).0 held in
            let starts = start_at setting state good slab f.slab index f.index seat (seat_of setting state slab.cache (slab.first + index) f) f.number in
            alive (ap (held_at state.live) (there ∙ starts) ∙ f.free);
      }

  -- a word at which no chunk begins
  put_none : slab_with_chunk setting state.slabs word ≡ None → ArePlacesOf setting after places
  put_none none = same_places setting state after places (λ cache. record {
    slabs = slabs;
    free = λ slab index seat its.
        let at = chunk_start setting slab index in
        let found = slab_found setting state good.header good.places slab index seat.stands seat.within in
        live at ∙ elim (eqb_tells word at) [
          | inl same ↦ absurd (none_some slab (sym none ∙ ap (slab_with_chunk setting state.slabs) same.1 ∙ found))
          | inr apart ↦ ap (λ b. cond b None (held_at state.live at)) apart.0
        ];
  }) are
    where
      none_some : (s : HeapSlab) → None ≡ Some s → ⊥
      none_some s e = cc e

  pub freed : ArePlacesOf setting after (option_map_or (with_put setting places thread word) (slab_with_chunk setting state.slabs word) places)
  freed = by_slab (slab_with_chunk setting state.slabs word) refl
    where
      by_slab : (o : Option HeapSlab) → slab_with_chunk setting state.slabs word ≡ o → ArePlacesOf setting after (option_map_or (with_put setting places thread word) o places)
      by_slab None is = put_none is
      by_slab (Some slab) is = put_chunk slab is

pub free_step : (setting : Setting) (state : State) (good : IsGood setting state) (places : Places) (thread slot : ℕ) (refusal : Held → Option Reply) (answer : Reply) → ArePlacesOf setting state places
    → answer ≡ free_answer_in setting state (word_of_slot state thread slot) refusal
    → ArePlacesOf setting (after_free setting state thread slot answer) (places_by_free setting state places thread (word_of_slot state thread slot) answer)
free_step setting state good places thread slot refusal reply.Ok are told =
    let word = word_of_slot state thread slot in
    freed setting state good places are thread word (after_free setting state thread slot reply.Ok) refl (giving_back state.live word)
    (ok_lives word (held_at state.live word) (was_given state word) refusal (has_finding_at setting state word) told)
free_step setting state good places thread slot refusal other are told = are

-- ---- whole pages

pub large_step : (setting : Setting) (state : State) (good : IsGood setting state) (places : Places) (thread slot size : ℕ) (zeroed : Bool) (answer : Reply) → ArePlacesOf setting state places → 1 ≤ size
    → IsLargeReply setting state size answer → ArePlacesOf setting (after_alloc setting state thread slot (record { size = size; cache = None }) zeroed answer) places
large_step setting state good places thread slot size zeroed (reply.At address found) are some told =
    let run = new_run setting state address (pages_for size) good.places told.0 (omega (arith, some)) in
    same_places setting state (after_alloc setting state thread slot (record { size = size; cache = None }) zeroed (reply.At address found)) places (λ cache. record {
      slabs = refl;
      free = λ slab index seat its.
          let at = chunk_start setting slab index in
          let is_cache = is_cache_of setting state.live state.slabs good.header good.places slab seat.stands in
          let lies = chunk_in_slab setting slab at good.header is_cache (record { index = index; within = seat.within; there = refl }) in
          let more = (geometry_in-sound setting slab.cache good.header is_cache).chunk_some in
          let apart = All-contains (λ (s : HeapSlab). StandApart (pages_at address (size)) (span_of_slab setting s)) state.slabs slab run.slabs_apart seat.stands in
          let other : address ≢ at = λ same. meets (address) (pages_for size) slab.base (geometry_in setting slab.cache).pages at (geometry_in setting slab.cache).chunk same lies more run.within.some apart in
          held_first (record { address = address; held = record { size = size; cache = None } }) state.live at ∙ elim (eqb_tells address at) [
            | inl same ↦ absurd (other same.1)
            | inr isnt ↦ ap (λ b. cond b (Some (record { size = size; cache = None })) (held_at state.live at)) isnt.0
          ];
    }) are
  where
    meets : (address pages base its at chunk : ℕ) → address ≡ at → (base ≤ at) × (at + chunk ≤ base + 4096 * its) → 8 ≤ chunk → 1 ≤ pages → (address + 4096 * pages ≤ base) ⊎ (base + 4096 * its ≤ address) → ⊥
    meets address pages base its at chunk same lies more some (inl below) = omega (arith, lies)
    meets address pages base its at chunk same lies more some (inr above) = omega (arith, lies)
large_step setting state good places thread slot size zeroed reply.NoSpace are some told = unchanged setting state (after_alloc setting state thread slot (record { size = size; cache = None }) zeroed reply.NoSpace) places refl refl are
large_step setting state good places thread slot size zeroed other are some told = absurd told
