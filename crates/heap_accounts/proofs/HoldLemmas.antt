-- The places of a legal, tidy and placed history hold the free chunks: they do after each of its commits.
use Rattle.std.proofs.Common.{◌≡◌, ℕ, zero, suc, ◌+◌, ◌-◌, ◌^◌, ◌<◌, ◌≤◌, Bool, true, false, List, [], ◌∷◌, ◌++◌, length, map, Option, Some, None, refl, sym, ap, ◌∙◌, subst, arith}
use Rattle.std.specs.Prelude.{Contains, fold, option_map, replicate}
use Rattle.std.specs.List.{flat_map, range_with_len}
use Rattle.std.proofs.lemmas.Bool.{and_from, and_parts, le-leb, leb-true, lt-ltb, ltb-true}
use Rattle.std.proofs.lemmas.List.{append-nil, append_assoc, get_or-map, length-append, length-map, length-replicate}
use Rattle.std.proofs.lemmas.List.FromFn.{get_or-range_with_len, length-range_with_len}
use Rattle.std.proofs.lemmas.List.Sums.{fold-append, sum_by-cons}
use Rattle.umem_base.proofs.OrderedLemmas.{Contains-nil}
use Rattle.case_table.specs.Sizes.{class_for}
use Rattle.script.specs.declared.operation.Op.{Op}
use Rattle.script.specs.declared.operation.Op.TheVariants.{Alloc, Zalloc, Free, CacheAlloc, CacheFree, Copy, Clear, Store, Link, Load, Reap}
use Rattle.script.specs.Plan.{Call}
use Rattle.script.specs.Rules.{IsHeader}
use Rattle.shelf.specs.Steps.{chunk_in, taken_any, taken_from}
use Rattle.shelf.specs.Stock.{Stock, empty_cpu, empty_stock, held_rounds, rounds_of_cpu}
use Rattle.shelf.proofs.PartsLemmas.{IsStock-empty}
use Rattle.plain_heap.specs.declared.entry.Body.{Body}
use Rattle.plain_heap.specs.declared.entry.Body.TheVariants as body
use Rattle.plain_heap.specs.declared.entry.Entry.{Entry}
use Rattle.plain_heap.specs.declared.held.Held.{Held}
use Rattle.plain_heap.specs.declared.reply.Reply.{Reply}
use Rattle.plain_heap.specs.declared.reply.Reply.TheVariants as reply
use Rattle.plain_heap.specs.Legal.{next_of_thread}
use Rattle.plain_heap.specs.Setting.{IsCache, Setting, geometry_in}
use Rattle.plain_heap.specs.State.{HeapSlab, State, after_alloc, after_body, after_call, after_entry, after_free, after_grow, after_link, after_store, after_word, chunk_start, next_chunk, request_from, request_of, start_state, state_of, word_of_slot}
use Rattle.plain_heap.proofs.SeparateLemmas.{history_in_place, start_in_place}
use Rattle.plain_heap.proofs.SettingLemmas.{geometry_in-sound}
use Rattle.plain_heap.proofs.StepsLemmas.{IsInPlace, body_keeps}
use Rattle.plain_heap.proofs.SlabOfChunk.{find_found}
use Rattle.plain_heap.proofs.RisingLemmas.{all_rising, find_none}
use Rattle.heap_ledger.specs.declared.slab_at.SlabAt.{SlabAt}
use Rattle.heap_ledger.specs.Commits.{after_shrinks}
use Rattle.heap_ledger.specs.Ledger.{commit_entries, entry, inner_entries, shrunk}
use Rattle.heap_accounts.specs.FreeChunks.{ArePlacesOf, IsStockOf}
use Rattle.heap_accounts.specs.Laws.{IsDecided, NumbersTellAddresses, PlacesHoldTheFreeChunks, at_rest}
use Rattle.heap_accounts.specs.Performed.{IsFoundWithin, IsPerformed, IsPerformedChunk, IsPerformedRequest}
use Rattle.heap_accounts.specs.Places.{Places, Placing, address_of, cache_count, cpu_of, places_by_request, places_of, placing_by, placing_of, has_chunk_number, reaped, slab_with_number, start_places, stock_at}
use Rattle.heap_accounts.proofs.CommitLemmas.{commit_of, commit_some, in_place}
use Rattle.heap_accounts.proofs.FitLemmas.{call_alone, chunk_grown, reap_places}
use Rattle.heap_accounts.proofs.FreeRoundLemmas.{IsGood, IsSeat, start_at}
use Rattle.heap_accounts.proofs.PlacingLemmas.{its_state, more_placing, none_made_after, reap_drains, rests}
use Rattle.heap_accounts.proofs.StandsLemmas.{stands}

-- ---- how many chunks were made

module _ (setting : Setting) (state : State) where
  -- no fewer than before
  abbrev NoFewer : State → Type 0
  NoFewer after = next_chunk setting state ≤ next_chunk setting after

  alloc_made : (thread slot : ℕ) (held : Held) (zeroed : Bool) (answer : Reply) → NoFewer (after_alloc setting state thread slot held zeroed answer)
  alloc_made thread slot held zeroed (reply.At at found) = omega arith
  alloc_made thread slot held zeroed reply.Null = omega arith
  alloc_made thread slot held zeroed reply.NoSpace = omega arith
  alloc_made thread slot held zeroed answer = omega arith

  free_made : (thread slot : ℕ) (answer : Reply) → NoFewer (after_free setting state thread slot answer)
  free_made thread slot reply.Ok = omega arith
  free_made thread slot answer = omega arith

  store_made : (at : ℕ) (stored : List ℕ) (answer : Reply) → NoFewer (after_store state at stored answer)
  store_made at stored reply.Ok = omega arith
  store_made at stored answer = omega arith

  link_made : (at word : ℕ) (answer : Reply) → NoFewer (after_link state at word answer)
  link_made at word reply.Ok = omega arith
  link_made at word answer = omega arith

  word_made : (thread slot : ℕ) (answer : Reply) → NoFewer (after_word state thread slot answer)
  word_made thread slot (reply.Word word) = omega arith
  word_made thread slot answer = omega arith

  call_made : (thread : ℕ) (op : Op) (answer : Reply) → NoFewer (after_call setting state thread op answer)
  call_made thread (Alloc slot size) answer = alloc_made thread slot (request_of size) false answer
  call_made thread (Zalloc slot size) answer = alloc_made thread slot (request_of size) true answer
  call_made thread (CacheAlloc slot cache) answer = alloc_made thread slot (request_from setting cache) false answer
  call_made thread (Free slot size) answer = free_made thread slot answer
  call_made thread (CacheFree slot cache) answer = free_made thread slot answer
  call_made thread (Copy to from) answer = omega arith
  call_made thread (Clear slot) answer = omega arith
  call_made thread (Store slot offset stored) answer = store_made (word_of_slot state thread slot + offset) stored answer
  call_made thread (Link slot offset value) answer = link_made (word_of_slot state thread slot + offset) (word_of_slot state thread value) answer
  call_made thread (Load to slot offset) answer = word_made thread to answer
  call_made thread Reap answer = omega arith

  body_made : (thread : ℕ) (content : Body) → NoFewer (after_body setting state thread content)
  body_made thread (body.Call op frames answer) = call_made thread op answer
  body_made thread (body.Grow cache base) = omega (arith, sum_by-cons (λ c. (geometry_in setting c).rounds) cache state.grown)
  body_made thread (body.Shrink cache base) = omega arith

all_made : (setting : Setting) (entries : List Entry) (state : State) → next_chunk setting state ≤ next_chunk setting (fold (after_entry setting) state entries)
all_made setting [] state = omega arith
all_made setting (first ∷ entries) state = omega (arith, body_made setting state first.thread first.body, all_made setting entries (after_entry setting state first))

-- ---- one commit

-- a slab may be made there
pub record MayGrow (setting : Setting) (state : State) (cache base : ℕ) : Type 0 where
  pub is_cache : IsCache setting.header.caches cache
  pub good : IsGood setting (after_grow setting state cache base)
  pub fits : next_chunk setting (after_grow setting state cache base) ≤ 2 ^ 32

-- what a commit leaves, from what stood before it
abbrev pub left_by : Setting → State → Places → ℕ → ℕ → List Body → Call → Reply → Placing
left_by setting state places number thread inner call answer = fold (placing_by setting) (at_rest state places) (commit_entries number thread inner call answer)

-- the places are those of the state
abbrev pub Fits : Setting → Placing → Type 0
Fits setting placing = ArePlacesOf setting placing.state placing.places

module _ (setting : Setting) (state : State) (good : IsGood setting state) (places : Places) (are : ArePlacesOf setting state places) (number thread : ℕ) (frames : List ℕ) (answer : Reply) where
  abbrev leaves : List Body → Op → Placing
  leaves inner op = left_by setting state places number thread inner (record { op = op; frames = frames }) answer

  alone : (op : Op) (inner : List Body) → inner ≡ [] → (op ≡ Reap → ⊥) → IsPerformed setting state places thread op inner answer → Fits setting (leaves inner op)
  alone op inner none other performed =
      subst (λ (i : List Body). Fits setting (leaves i op)) (sym none)
      (call_alone setting state good places are thread op answer other (subst (λ (i : List Body). IsPerformed setting state places thread op i answer) none performed))

  -- an allocation of a chunk
  chunk : (op : Op) (cache slot : ℕ) (held : Held) (zeroed : Bool) → (op ≡ Reap → ⊥) → ((inner : List Body) → IsPerformedChunk setting state places thread cache inner answer → IsPerformed setting state places thread op inner answer)
      → ((base : ℕ) → ArePlacesOf setting (after_alloc setting (after_grow setting state cache base) thread slot held zeroed answer) (placing_by setting (at_rest state places) (entry number thread (body.Grow cache base))).places → Fits setting (leaves (body.Grow cache base ∷ []) op))
      → (inner : List Body) → ((c b : ℕ) → inner ≡ body.Grow c b ∷ [] → MayGrow setting state c b) → IsPerformedChunk setting state places thread cache inner answer → Fits setting (leaves inner op)
  chunk op cache slot held zeroed other is grown [] may performed = alone op [] refl other (is [] performed)
  chunk op cache slot held zeroed other is grown (body.Grow its base ∷ []) may performed =
      by_reach (chunk_in (taken_from (stock_at places cache) (cpu_of setting thread))) (chunk_in (taken_any (stock_at places cache) (cpu_of setting thread))) performed
    where
      by_reach : (from any : Option ℕ) → IsFoundWithin setting state cache from any (body.Grow its base ∷ []) answer → Fits setting (leaves (body.Grow its base ∷ []) op)
      by_reach (Some n) any found = absurd (cons_nil found.0)
        where
          cons_nil : body.Grow its base ∷ [] ≡ [] → ⊥
          cons_nil e = cc e
      by_reach None any found =
          let ok = subst (λ c. MayGrow setting state c base) found.0 (may its base refl) in
          let fit = chunk_grown setting state good places are thread slot cache base ok.is_cache held zeroed ok.good ok.fits answer found.1 found.2 in
          subst (λ c. Fits setting (leaves (body.Grow c base ∷ []) op)) (sym found.0) (grown base fit)
  chunk op cache slot held zeroed other is grown (body.Grow its base ∷ second ∷ inner) may performed =
      absurd (by_reach (chunk_in (taken_from (stock_at places cache) (cpu_of setting thread))) (chunk_in (taken_any (stock_at places cache) (cpu_of setting thread))) performed)
    where
      by_reach : (from any : Option ℕ) → IsFoundWithin setting state cache from any (body.Grow its base ∷ second ∷ inner) answer → ⊥
      by_reach (Some n) any found = let e = found.0 in cc e
      by_reach None any found = found
  chunk op cache slot held zeroed other is grown (body.Shrink its base ∷ inner) may performed =
      absurd (by_reach (chunk_in (taken_from (stock_at places cache) (cpu_of setting thread))) (chunk_in (taken_any (stock_at places cache) (cpu_of setting thread))) performed)
    where
      by_reach : (from any : Option ℕ) → IsFoundWithin setting state cache from any (body.Shrink its base ∷ inner) answer → ⊥
      by_reach (Some n) any found = let e = found.0 in cc e
      by_reach None any found = found
  chunk op cache slot held zeroed other is grown (body.Call its stack told ∷ inner) may performed =
      absurd (by_reach (chunk_in (taken_from (stock_at places cache) (cpu_of setting thread))) (chunk_in (taken_any (stock_at places cache) (cpu_of setting thread))) performed)
    where
      by_reach : (from any : Option ℕ) → IsFoundWithin setting state cache from any (body.Call its stack told ∷ inner) answer → ⊥
      by_reach (Some n) any found = let e = found.0 in cc e
      by_reach None any found = found

  alloc : (slot size : ℕ) (asked : Option ℕ) (inner : List Body) → class_for size ≡ asked → ((c b : ℕ) → inner ≡ body.Grow c b ∷ [] → MayGrow setting state c b)
      → IsPerformedRequest setting state places thread (Alloc slot size) asked inner answer → Fits setting (leaves inner (Alloc slot size))
  alloc slot size None inner is may performed = alone (Alloc slot size) inner performed.0 (λ e. cc e) (subst (λ (o : Option ℕ). IsPerformedRequest setting state places thread (Alloc slot size) o inner answer) (sym is) performed)
  alloc slot size (Some class) inner is may performed =
      chunk (Alloc slot size) class slot (request_of size) false (λ e. cc e) (λ i p. subst (λ (o : Option ℕ). IsPerformedRequest setting state places thread (Alloc slot size) o i answer) (sym is) p)
      (λ base fit. subst (λ (o : Option ℕ). ArePlacesOf setting (after_alloc setting (after_grow setting state class base) thread slot (request_of size) false answer)
      (places_by_request setting (placing_by setting (at_rest state places) (entry number thread (body.Grow class base))).places (placing_by setting (at_rest state places) (entry number thread (body.Grow class base))).made thread o)) (sym is) fit)
      inner may performed

  zalloc : (slot size : ℕ) (asked : Option ℕ) (inner : List Body) → class_for size ≡ asked → ((c b : ℕ) → inner ≡ body.Grow c b ∷ [] → MayGrow setting state c b)
      → IsPerformedRequest setting state places thread (Zalloc slot size) asked inner answer → Fits setting (leaves inner (Zalloc slot size))
  zalloc slot size None inner is may performed = alone (Zalloc slot size) inner performed.0 (λ e. cc e) (subst (λ (o : Option ℕ). IsPerformedRequest setting state places thread (Zalloc slot size) o inner answer) (sym is) performed)
  zalloc slot size (Some class) inner is may performed =
      chunk (Zalloc slot size) class slot (request_of size) true (λ e. cc e) (λ i p. subst (λ (o : Option ℕ). IsPerformedRequest setting state places thread (Zalloc slot size) o i answer) (sym is) p)
      (λ base fit. subst (λ (o : Option ℕ). ArePlacesOf setting (after_alloc setting (after_grow setting state class base) thread slot (request_of size) true answer)
      (places_by_request setting (placing_by setting (at_rest state places) (entry number thread (body.Grow class base))).places (placing_by setting (at_rest state places) (entry number thread (body.Grow class base))).made thread o)) (sym is) fit)
      inner may performed

  reap_state : (placing : Placing) (from last : ℕ) (slabs : List SlabAt) → (fold (placing_by setting) placing (inner_entries from thread (shrunk slabs) ++ entry last thread (body.Call Reap frames answer) ∷ [])).state ≡ after_shrinks placing.state slabs
  reap_state placing from last [] = refl
  reap_state placing from last (slab ∷ slabs) = reap_state (placing_by setting placing (entry from thread (body.Shrink slab.cache slab.base))) (from + 1) last slabs

  pub performs : (op : Op) (inner : List Body) → ((c b : ℕ) → inner ≡ body.Grow c b ∷ [] → MayGrow setting state c b) → IsPerformed setting state places thread op inner answer → Fits setting (leaves inner op)
  performs (Alloc slot size) inner may performed = alloc slot size (class_for size) inner refl may performed
  performs (Zalloc slot size) inner may performed = zalloc slot size (class_for size) inner refl may performed
  performs (CacheAlloc slot cache) inner may performed = chunk (CacheAlloc slot cache) cache slot (request_from setting cache) false (λ e. cc e) (λ i p. p) (λ base fit. fit) inner may performed
  performs (Free slot size) inner may performed = alone (Free slot size) inner performed.0 (λ e. cc e) performed
  performs (CacheFree slot cache) inner may performed = alone (CacheFree slot cache) inner performed.0 (λ e. cc e) performed
  performs (Copy to from) inner may performed = alone (Copy to from) inner performed.0 (λ e. cc e) performed
  performs (Clear slot) inner may performed = alone (Clear slot) inner performed.0 (λ e. cc e) performed
  performs (Store slot offset stored) inner may performed = alone (Store slot offset stored) inner performed.0 (λ e. cc e) performed
  performs (Link slot offset value) inner may performed = alone (Link slot offset value) inner performed.0 (λ e. cc e) performed
  performs (Load to slot offset) inner may performed = alone (Load to slot offset) inner performed.0 (λ e. cc e) performed
  performs Reap inner may performed =
      let slabs = performed.slabs in
      let last = number + length (shrunk slabs) in
      let fit = reap_places setting state good places are thread slabs performed.exactly in
      subst (λ (i : List Body). Fits setting (leaves i Reap)) (sym performed.shrinks)
      (subst (λ (p : Places). ArePlacesOf setting (leaves (shrunk slabs) Reap).state p) (sym (reap_drains setting (at_rest state places) number last thread slabs frames answer))
      (subst (λ (s : State). ArePlacesOf setting s (map reaped places)) (sym (reap_state (at_rest state places) number last slabs)) fit))

-- ---- histories

no_rounds : (n : ℕ) → flat_map rounds_of_cpu (replicate n empty_cpu) ≡ []
no_rounds zero = refl
no_rounds (suc n) = no_rounds n

none_held : (cpus size chunk : ℕ) → Contains (held_rounds (empty_stock size cpus)) chunk → ⊥
none_held cpus size chunk there =
    Contains-nil chunk (subst (λ (l : List ℕ). Contains l chunk) (ap (λ (l : List ℕ). (l ++ []) ++ []) (no_rounds cpus)) there)

starts : (setting : Setting) → IsHeader setting.header → ArePlacesOf setting start_state (start_places setting)
starts setting header = record {
  count = length-map (range_with_len 0 (cache_count setting)) empty ∙ length-range_with_len 0 (cache_count setting);
  each = λ cache known.
      let long : cache < length (range_with_len 0 (cache_count setting)) = omega (arith, known, length-range_with_len 0 (cache_count setting)) in
      let zero_less : 0 + cache ≡ cache = omega arith in
      let its : stock_at (start_places setting) cache ≡ empty cache = get_or-map empty (range_with_len 0 (cache_count setting)) cache 0 (empty_stock 0 0) long ∙ ap empty (get_or-range_with_len 0 (cache_count setting) cache 0 known ∙ zero_less) in
      subst (IsStockOf setting start_state cache) (sym its) (first cache known);
}
  where
    empty : ℕ → Stock
    empty cache = empty_stock (geometry_in setting cache).magazine setting.header.cpus

    first : (cache : ℕ) → cache < cache_count setting → IsStockOf setting start_state cache (empty_stock (geometry_in setting cache).magazine setting.header.cpus)
    first cache known =
        let some = (geometry_in-sound setting cache header known).magazine_some in
        let sound = IsStock-empty (geometry_in setting cache).magazine setting.header.cpus (omega (arith, some)) in
        record {
          size = refl;
          cpus = length-replicate setting.header.cpus empty_cpu;
          sound = sound;
          slabs = refl;
          held = λ chunk. (λ there. absurd (none_held setting.header.cpus (geometry_in setting cache).magazine chunk there), λ free. Contains-nil free.slab free.stands);
        }

module _ (setting : Setting) (header : IsHeader setting.header) (whole : List Entry) (decided : IsDecided setting whole) (few : next_chunk setting (state_of setting whole) ≤ 2 ^ 32) where
  -- a slab that is made may be made there
  may_grow : (before rest : List Entry) (number thread cache base : ℕ) → whole ≡ before ++ entry number thread (body.Grow cache base) ∷ rest → IsGood setting (state_of setting before) → MayGrow setting (state_of setting before) cache base
  may_grow before rest number thread cache base is good =
      let state = state_of setting before in
      let grow = entry number thread (body.Grow cache base) in
      let h = stands setting whole before rest grow is decided in
      let end : state_of setting whole ≡ fold (after_entry setting) (after_grow setting state cache base) rest = ap (state_of setting) is ∙ fold-append (after_entry setting) start_state before (grow ∷ rest) in
      let made = all_made setting rest (after_grow setting state cache base) in
      let small = subst (λ (s : State). next_chunk setting s ≤ 2 ^ 32) end few in
      record {
        is_cache = h.legal.is_cache;
        good = record {
          header = header;
          places = body_keeps setting state header good.places thread (body.Grow cache base) (next_of_thread thread rest) h.legal;
          rising = all_rising setting (grow ∷ []) state good.rising;
        };
        fits = omega (arith, made, small);
      }

  good_at : (before : List Entry) → IsInPlace setting (state_of setting before) → IsGood setting (state_of setting before)
  good_at before stand = record {
    header = header;
    places = stand;
    rising = all_rising setting before start_state (record { apart = λ i j d less lt. absurd (omega arith); below = λ k d lt. absurd (omega arith) });
  }

  hold_rest : (n : ℕ) (before rest : List Entry) → length rest ≤ n → whole ≡ before ++ rest → (placing_of setting before).made ≡ None → IsInPlace setting (state_of setting before)
      → ArePlacesOf setting (state_of setting before) (places_of setting before) → ArePlacesOf setting (state_of setting whole) (places_of setting whole)
  hold_rest n before [] short is none stand are =
      subst (λ (l : List Entry). ArePlacesOf setting (state_of setting l) (places_of setting l)) (sym (is ∙ append-nil before)) are
  hold_rest zero before (first ∷ rest) short is none stand are = absurd (omega arith)
  hold_rest (suc n) before (first ∷ rest) short is none stand are =
      let c = commit_of setting header whole decided before none first rest is stand in
      let commit = commit_entries (length before) c.thread c.inner c.call c.answer in
      let split : whole ≡ before ++ (commit ++ c.later) = is ∙ ap (λ (l : List Entry). before ++ l) c.splits in
      let good = good_at before stand in
      let may : (x b : ℕ) → c.inner ≡ body.Grow x b ∷ [] → MayGrow setting (state_of setting before) x b = λ x b e.
      may_grow before (entry (length before + 1) c.thread (body.Call c.call.op c.call.frames c.answer) ∷ c.later) (length before) c.thread x b
      (split ∙ ap (λ (i : List Body). before ++ (commit_entries (length before) c.thread i c.call c.answer ++ c.later)) e) good in
      let fit = performs setting (state_of setting before) good (places_of setting before) are (length before) c.thread c.call.frames c.answer c.call.op c.inner may c.performed in
      let now : placing_of setting (before ++ commit) ≡ left_by setting (state_of setting before) (places_of setting before) (length before) c.thread c.inner c.call c.answer =
      more_placing setting before commit ∙ ap (λ (p : Placing). fold (placing_by setting) p commit) (rests setting before none) in
      let placed = subst (Fits setting) (sym now) fit in
      let next = subst (λ (s : State). ArePlacesOf setting s (places_of setting (before ++ commit))) (its_state setting (before ++ commit)) placed in
      let fewer : length c.later ≤ n = omega (arith, short, ap length c.splits, length-append commit c.later, commit_some (length before) c.thread c.inner c.call c.answer) in
      hold_rest n (before ++ commit) c.later fewer (split ∙ sym (append_assoc before commit c.later)) (none_made_after setting before (length before) c.thread c.inner c.call c.answer)
      (in_place setting header whole before commit c.later decided split stand) next

pub places_hold : PlacesHoldTheFreeChunks
places_hold setting entries header decided few = hold_rest setting header entries decided few (length entries) [] entries (omega arith) refl refl (start_in_place setting) (starts setting header)

-- ---- chunks by number

number_tells : (setting : Setting) (state : State) (good : IsGood setting state) (slab : HeapSlab) (index : ℕ) → IsSeat setting state slab index → address_of setting state (slab.first + index) ≡ Some (chunk_start setting slab index)
number_tells setting state good slab index seat = by_slab (slab_with_number setting state.slabs (slab.first + index)) refl
  where
    by_slab : (o : Option HeapSlab) → slab_with_number setting state.slabs (slab.first + index) ≡ o → address_of setting state (slab.first + index) ≡ Some (chunk_start setting slab index)
    by_slab None found =
        let low = le-leb slab.first (slab.first + index) (omega arith) in
        let high = lt-ltb (slab.first + index) (slab.first + (geometry_in setting slab.cache).rounds) (omega (arith, seat.within)) in
        absurd (find_none (has_chunk_number setting (slab.first + index)) state.slabs slab found seat.stands (and_from _ _ low high))
    by_slab (Some s) found =
        let chunk = slab.first + index in
        let both = find_found (has_chunk_number setting chunk) state.slabs s found in
        let parts = and_parts _ _ both.1 in
        let low = leb-true s.first chunk parts.0 in
        let high = ltb-true chunk (s.first + (geometry_in setting s.cache).rounds) parts.1 in
        let its : IsSeat setting state s (chunk - s.first) = record { stands = both.0; within = omega (arith, low, high) } in
        let number : s.first + (chunk - s.first) ≡ slab.first + index = omega (arith, low) in
        ap (λ (o : Option HeapSlab). option_map (λ (x : HeapSlab). chunk_start setting x (chunk - x.first)) o) found
        ∙ ap Some (start_at setting state good s slab (chunk - s.first) index its seat number)

pub numbers_tell : NumbersTellAddresses
numbers_tell setting entries slab index header legal stands within =
    let rising = all_rising setting entries start_state (record { apart = λ i j d less lt. absurd (omega arith); below = λ k d lt. absurd (omega arith) }) in
    number_tells setting (state_of setting entries) (record { header = header; places = history_in_place setting entries header legal; rising = rising }) slab index (record { stands = stands; within = within })
