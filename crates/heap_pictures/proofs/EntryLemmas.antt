-- What is known of each entry of a run, by the state before it.
use Rattle.std.proofs.Common.{◌≡◌, ℕ, suc, ◌+◌, ◌-◌, ◌/◌, ◌<◌, ◌≤◌, List, [], ◌∷◌, ◌++◌, Some, length, take, drop, refl, sym, ap, ◌∙◌, subst, arith}
use Rattle.std.specs.Prelude.{fold, slice_get}
use Rattle.std.proofs.lemmas.List.{append_assoc, length-append}
use Rattle.std.proofs.lemmas.List.Elements.{All-contains}
use Rattle.std.proofs.lemmas.List.Sums.{fold-append, sum_by-cons}
use Rattle.std.proofs.Math.Seq.{take-append_seam}
use Rattle.umem_base.specs.declared.arena.TheConstants.{ARENA_BASE}
use Rattle.umem_base.specs.Roots.{arena_end}
use Rattle.plain_heap.specs.declared.entry.Body.{Body}
use Rattle.plain_heap.specs.declared.entry.Body.TheVariants as body
use Rattle.plain_heap.specs.declared.entry.Entry.{Entry}
use Rattle.plain_heap.specs.Legal.{IsLegalBody, next_of_thread}
use Rattle.plain_heap.specs.Setting.{Setting, geometry_in}
use Rattle.plain_heap.specs.State.{HeapSlab, State, after_body, after_entry, begins_chunk, chunk_number, chunk_start, next_chunk, slab_with_chunk, span_of_slab, start_state, state_of}
use Rattle.plain_heap.proofs.PlacesLemmas.{IsInArena, chunk_in_slab, is_cache_of}
use Rattle.plain_heap.proofs.RisingLemmas.{AreRising, all_rising, index_told, made_by, rounds_of}
use Rattle.plain_heap.proofs.SlabOfChunk.{begun, chunk_some, find_found}
use Rattle.plain_heap.proofs.StepsLemmas.{IsInPlace, body_keeps}
use Rattle.heap_ledger.specs.Ledger.{IsLedger, Ledger, run_setting, run_state}
use Rattle.heap_accounts.proofs.FreeRoundLemmas.{IsGood}
use Rattle.heap_accounts.proofs.NumberLemmas.{call_same}
use Rattle.heap_pictures.proofs.ByteLemmas.{AreBytes, IsTurnBody, are_bytes_before, turn_bodies}

-- ---- the next chunk

body_grows : (setting : Setting) (state : State) (thread : ℕ) (content : Body)
    → next_chunk setting state ≤ next_chunk setting (after_body setting state thread content)
body_grows setting state thread (body.Call op frames answer) =
    let same = (call_same setting state thread op answer).grown in
    subst (λ (grown : List ℕ). made_by setting state.grown ≤ made_by setting grown) (sym same) (omega arith)
body_grows setting state thread (body.Grow cache base) =
    omega (arith, sum_by-cons (λ c. (geometry_in setting c).rounds) cache state.grown)
body_grows setting state thread (body.Shrink cache base) = omega arith

-- the number of the next chunk only grows
all_grow : (setting : Setting) (entries : List Entry) (state : State)
    → next_chunk setting state ≤ next_chunk setting (fold (after_entry setting) state entries)
all_grow setting [] state = omega arith
all_grow setting (entry ∷ entries) state =
    let one = body_grows setting state entry.thread entry.body in
    let rest = all_grow setting entries (after_entry setting state entry) in
    omega (arith, one, rest)

-- ---- each entry

-- an entry of a run has its number, keeps the limits of its call, and stands behind what a legal history left
pub record IsGoodEntry (ledger : Ledger) (state : State) (number : ℕ) (entry : Entry) : Type 0 where
  pub number_is : entry.number ≡ number
  pub within : number < length ledger.entries
  pub good : IsGood (run_setting ledger) state
  pub bytes : AreBytes state.bytes
  pub turn : IsTurnBody ledger.plan.header entry.thread entry.body
  pub grows : next_chunk (run_setting ledger) state ≤ next_chunk (run_setting ledger) (run_state ledger)

-- so does each entry from a number on
abbrev pub AreGoodFrom : Ledger → State → ℕ → List Entry → Type 0
AreGoodFrom ledger state number [] = Unit {0}
AreGoodFrom ledger state number (entry ∷ entries) =
    IsGoodEntry ledger state number entry
    × AreGoodFrom ledger (after_entry (run_setting ledger) state entry) (suc number) entries

at_seam : (front later : List Entry) (next : Entry) → slice_get (front ++ next ∷ later) (length front) ≡ Some next
at_seam [] later next = refl
at_seam (x ∷ front) later next = at_seam front later next

module _ (ledger : Ledger) (is : IsLedger ledger) where
  from_here : (rest before : List Entry) (state : State) (n : ℕ) → before ++ rest ≡ ledger.entries
      → state_of (run_setting ledger) before ≡ state → length before ≡ n → IsInPlace (run_setting ledger) state
      → AreGoodFrom ledger state n rest
  from_here [] before state n same left count places = tt
  from_here (entry ∷ rest) before state n same left count places =
      let setting = run_setting ledger in
      let at : slice_get ledger.entries (length before) ≡ Some entry =
      ap (λ (l : List Entry). slice_get l (length before)) (sym same) ∙ at_seam before rest entry in
      let front : take (length before) ledger.entries ≡ before =
      ap (take (length before)) (sym same) ∙ take-append_seam before (entry ∷ rest) in
      let here : state_of setting (take (length before) ledger.entries) ≡ state = ap (state_of setting) front ∙ left in
      let legal = is.legal (length before) entry at in
      let next = next_of_thread entry.thread (drop (length before + 1) ledger.entries) in
      let allowed = subst (λ (s : State). IsLegalBody setting s entry.thread entry.body next) here legal.body in
      let whole : fold (after_entry setting) state (entry ∷ rest) ≡ run_state ledger =
      ap (λ (s : State). fold (after_entry setting) s (entry ∷ rest)) (sym left)
      ∙ sym (fold-append (after_entry setting) start_state before (entry ∷ rest)) ∙ ap (state_of setting) same in
      let rising = all_rising setting before start_state
      (record { apart = λ i j d less lt. absurd (omega arith); below = λ k d lt. absurd (omega arith) }) in
      let many = length-append before (entry ∷ rest) in
      let all = ap length same in (
        record {
          number_is = legal.number ∙ count;
          within = omega (arith, many, all, count);
          good = record {
            header = is.plan.header;
            places = places;
            rising = subst (λ (s : State). AreRising setting s.slabs s.grown) left rising;
          };
          bytes = subst (λ (s : State). AreBytes s.bytes) here (are_bytes_before ledger is (length before));
          turn = turn_bodies ledger is (length before) entry at;
          grows = subst (λ (s : State). next_chunk setting state ≤ next_chunk setting s) whole
              (all_grow setting (entry ∷ rest) state);
        },
        from_here rest (before ++ entry ∷ []) (after_entry setting state entry) (suc n)
            (append_assoc before (entry ∷ []) rest ∙ same)
            (fold-append (after_entry setting) start_state before (entry ∷ [])
            ∙ ap (λ (s : State). after_entry setting s entry) left)
            (length-append before (entry ∷ []) ∙ omega (arith, count))
            (body_keeps setting state is.plan.header places entry.thread entry.body next allowed),
      )

  -- so do all entries of a run
  pub all_good : AreGoodFrom ledger start_state 0 ledger.entries
  all_good = from_here ledger.entries [] start_state 0 refl refl refl (record {
    caches = λ k d lt. absurd (omega arith);
    slabs_in = λ k d lt. absurd (omega arith);
    slabs_apart = λ i j d less lt. absurd (omega arith);
    large_in = λ k d lt. absurd (omega arith);
    large_apart = λ i j d less lt. absurd (omega arith);
    across = λ k d lt. absurd (omega arith);
    addresses = λ i j d less lt. absurd (omega arith);
    seated = λ k d lt. absurd (omega arith);
  })

-- ---- the chunk of an address

-- the chunk of a slab that begins at an address has a number below the next, and the address is in the arena
pub record IsOwnChunk (setting : Setting) (state : State) (address : ℕ) (slab : HeapSlab) : Type 0 where
  pub below : chunk_number setting slab address < next_chunk setting state
  pub low : ARENA_BASE ≤ address
  pub high : address < arena_end setting.header.version

-- so it is with the slab that is found there
pub own_chunk : (setting : Setting) (state : State) (address : ℕ) (slab : HeapSlab) → IsGood setting state
    → slab_with_chunk setting state.slabs address ≡ Some slab → IsOwnChunk setting state address slab
own_chunk setting state address slab good is =
    let found = find_found (λ (s : HeapSlab). begins_chunk setting s address) state.slabs slab is in
    let some = chunk_some setting state good.header good.places slab found.0 in
    let chunk = begun setting slab address some found.1 in
    let size = (geometry_in setting slab.cache).chunk in
    let told = (index_told setting slab chunk.index some chunk.within).0 in
    let index : (address - chunk_start setting slab 0) / size ≡ chunk.index =
    ap (λ a. (a - chunk_start setting slab 0) / size) chunk.there ∙ told in
    let below : slab.first + rounds_of setting slab ≤ made_by setting state.grown =
    All-contains (λ (s : HeapSlab). s.first + rounds_of setting s ≤ made_by setting state.grown) state.slabs slab
    good.rising.below found.0 in
    let span : IsInArena setting (span_of_slab setting slab) =
    All-contains (λ (s : HeapSlab). IsInArena setting (span_of_slab setting s)) state.slabs slab good.places.slabs_in
    found.0 in
    let is_cache = is_cache_of setting state.live state.slabs good.header good.places slab found.0 in
    let inside = chunk_in_slab setting slab address good.header is_cache chunk in
    let within = chunk.within in
    let low = span.low in
    let high = span.high in
    record {
      below = omega (arith, below, within, index);
      low = omega (arith, low, inside);
      high = omega (arith, high, inside, some);
    }
