-- The chunks of the slabs that stand rise from slab to slab, and each is found where it begins.
use Rattle.std.proofs.Common.{◌≡◌, ℕ, ◌+◌, ◌-◌, ◌*◌, ◌/◌, ◌<◌, ◌≤◌, Bool, true, false, cond, List, [], ◌∷◌, Option, Some, None, refl, sym, ap, ◌∙◌, arith, inl, inr}
use Rattle.std.specs.Prelude.{All, AllPairs, Contains, find, fold, sum_by}
use Rattle.std.proofs.lemmas.Bool.{false≢true, le-leb, lt-ltb}
use Rattle.std.proofs.lemmas.List.Elements.{All-cons}
use Rattle.std.proofs.lemmas.List.Kept.{AllPairs-cons}
use Rattle.std.proofs.lemmas.List.Sums.{sum_by-cons}
use Rattle.std.proofs.Math.Nat.{mul-div_cancel, mul-lt-mul_of_pos_right}
use Rattle.umem_base.proofs.OrderedLemmas.{AllPairs-left_out_by, All-left_out_by, Contains-cases, Contains-nil}
use Rattle.case_table.specs.Geometry.{colour_of}
use Rattle.script.specs.declared.operation.Op.{Op}
use Rattle.script.specs.declared.operation.Op.TheVariants.{Alloc, Zalloc, Free, CacheAlloc, CacheFree, Copy, Clear, Store, Link, Load, Reap}
use Rattle.script.specs.Rules.{IsHeader}
use Rattle.plain_heap.specs.declared.entry.Body.{Body}
use Rattle.plain_heap.specs.declared.entry.Body.TheVariants.{Call, Grow, Shrink}
use Rattle.plain_heap.specs.declared.entry.Entry.{Entry}
use Rattle.plain_heap.specs.declared.held.Held.{Held}
use Rattle.plain_heap.specs.declared.reply.Reply.{Reply}
use Rattle.plain_heap.specs.declared.reply.Reply.TheVariants as reply
use Rattle.plain_heap.specs.Bytes.{is_within}
use Rattle.plain_heap.specs.Setting.{Setting, cache_def_in, geometry_in}
use Rattle.plain_heap.specs.State.{HeapSlab, IsChunkOf, State, after_alloc, after_body, after_call, after_entry, after_free, after_link, after_store, after_word, begins_chunk, chunk_start, index_at, new_slab, request_from, request_of, slab_with_chunk, word_of_slot}
use Rattle.plain_heap.proofs.PlacesLemmas.{AreInPlace}
use Rattle.plain_heap.proofs.SlabOfChunk.{begins, begun, chunk_some, find_found, one_slab}

-- ---- rising chunks

-- how many chunks a slab has
abbrev pub rounds_of : Setting → HeapSlab → ℕ
rounds_of setting slab = (geometry_in setting slab.cache).rounds

-- how many chunks the slabs of these caches have
abbrev pub made_by : Setting → List ℕ → ℕ
made_by setting grown = sum_by (λ cache. (geometry_in setting cache).rounds) grown

-- the chunks of each slab lie above those of each older one, and below the next chunk
pub record AreRising (setting : Setting) (slabs : List HeapSlab) (grown : List ℕ) : Type 0 where
  pub apart : AllPairs (λ a b. b.first + rounds_of setting b ≤ a.first) slabs
  pub below : All (λ s. s.first + rounds_of setting s ≤ made_by setting grown) slabs

module _ (setting : Setting) (state : State) (rising : AreRising setting state.slabs state.grown) where
  -- as they are after the state that a call left
  abbrev Still : State → Type 0
  Still after = AreRising setting after.slabs after.grown

  alloc_still : (thread slot : ℕ) (held : Held) (zeroed : Bool) (answer : Reply) → Still (after_alloc setting state thread slot held zeroed answer)
  alloc_still thread slot held zeroed (reply.At at found) = rising
  alloc_still thread slot held zeroed reply.Null = rising
  alloc_still thread slot held zeroed reply.NoSpace = rising
  alloc_still thread slot held zeroed answer = rising

  free_still : (thread slot : ℕ) (answer : Reply) → Still (after_free setting state thread slot answer)
  free_still thread slot reply.Ok = rising
  free_still thread slot answer = rising

  store_still : (at : ℕ) (stored : List ℕ) (answer : Reply) → Still (after_store state at stored answer)
  store_still at stored reply.Ok = rising
  store_still at stored answer = rising

  link_still : (at word : ℕ) (answer : Reply) → Still (after_link state at word answer)
  link_still at word reply.Ok = rising
  link_still at word answer = rising

  word_still : (thread slot : ℕ) (answer : Reply) → Still (after_word state thread slot answer)
  word_still thread slot (reply.Word word) = rising
  word_still thread slot answer = rising

  call_still : (thread : ℕ) (op : Op) (answer : Reply) → Still (after_call setting state thread op answer)
  call_still thread (Alloc slot size) answer = alloc_still thread slot (request_of size) false answer
  call_still thread (Zalloc slot size) answer = alloc_still thread slot (request_of size) true answer
  call_still thread (CacheAlloc slot cache) answer = alloc_still thread slot (request_from setting cache) false answer
  call_still thread (Free slot size) answer = free_still thread slot answer
  call_still thread (CacheFree slot cache) answer = free_still thread slot answer
  call_still thread (Copy to from) answer = rising
  call_still thread (Clear slot) answer = rising
  call_still thread (Store slot offset stored) answer = store_still (word_of_slot state thread slot + offset) stored answer
  call_still thread (Link slot offset value) answer = link_still (word_of_slot state thread slot + offset) (word_of_slot state thread value) answer
  call_still thread (Load to slot offset) answer = word_still thread to answer
  call_still thread Reap answer = rising

  body_still : (thread : ℕ) (body : Body) → Still (after_body setting state thread body)
  body_still thread (Call op frames answer) = call_still thread op answer
  body_still thread (Grow cache base) =
      let slab = new_slab setting state cache base in
      let more = sum_by-cons (λ c. (geometry_in setting c).rounds) cache state.grown in
      record {
        apart = AllPairs-cons (λ (a b : HeapSlab). b.first + rounds_of setting b ≤ a.first) slab state.slabs rising.below rising.apart;
        below = All-cons (λ (s : HeapSlab). s.first + rounds_of setting s ≤ made_by setting (cache ∷ state.grown)) slab state.slabs (omega (arith, more)) (λ k d lt. omega (arith, more, rising.below k d lt));
      }
  body_still thread (Shrink cache base) =
      let key : HeapSlab → ℕ = λ s. s.base in
      record {
        apart = AllPairs-left_out_by (λ (a b : HeapSlab). b.first + rounds_of setting b ≤ a.first) key state.slabs base rising.apart;
        below = All-left_out_by (λ (s : HeapSlab). s.first + rounds_of setting s ≤ made_by setting state.grown) key state.slabs base rising.below;
      }

pub all_rising : (setting : Setting) (entries : List Entry) (state : State) → AreRising setting state.slabs state.grown
    → AreRising setting (fold (after_entry setting) state entries).slabs (fold (after_entry setting) state entries).grown
all_rising setting [] state rising = rising
all_rising setting (entry ∷ entries) state rising = all_rising setting entries (after_entry setting state entry) (body_still setting state rising entry.thread entry.body)

-- ---- the slab of a chunk

-- the chunk of an index is told by its address
pub index_told : (setting : Setting) (slab : HeapSlab) (index : ℕ) → 0 < (geometry_in setting slab.cache).chunk → index < (geometry_in setting slab.cache).rounds
    → ((chunk_start setting slab index - chunk_start setting slab 0) / (geometry_in setting slab.cache).chunk ≡ index) × (index_at setting slab (chunk_start setting slab index) ≡ Some index)
index_told setting slab index some lt =
    let g = geometry_in setting slab.cache in
    let colour = colour_of (cache_def_in setting slab.cache).align g.leftover slab.made in
    let first = chunk_start setting slab 0 in
    let at = chunk_start setting slab index in
    let apart : at - first ≡ index * g.chunk = omega arith in
    let told : (at - first) / g.chunk ≡ index = ap (λ n. n / g.chunk) apart ∙ mul-div_cancel index some in
    let low : first ≤ at = omega arith in
    let less : index * g.chunk < g.rounds * g.chunk = mul-lt-mul_of_pos_right lt some in
    let high : at < first + g.rounds * g.chunk = omega (arith, less) in
    let within : is_within first (g.rounds * g.chunk) at ≡ true = rw (le-leb first at low, lt-ltb at (first + g.rounds * g.chunk) high) refl in
    (told, ap (λ (b : Bool). cond b (Some ((at - first) / g.chunk)) None) within ∙ ap Some told)

pub find_none : {X : Type 0} (p : X → Bool) (xs : List X) (x : X) → find p xs ≡ None → Contains xs x → p x ≡ true → ⊥
find_none p [] x h there passes = Contains-nil x there
find_none {X} p (first ∷ xs) x h there passes = go (p first) refl h (find_none p xs x)
  where
    go : (b : Bool) → p first ≡ b → cond b (Some first) (find p xs) ≡ None → (find p xs ≡ None → Contains xs x → p x ≡ true → ⊥) → ⊥
    go true is same later = absurd (cc same)
    go false is same later = elim (Contains-cases first x xs there) [
      | inl e ↦ false≢true (sym is ∙ ap p e ∙ passes)
      | inr behind ↦ later same behind passes
    ]

module _ (setting : Setting) (state : State) (header : IsHeader setting.header) (places : AreInPlace setting state.live state.slabs) where
  pub slab_found : (slab : HeapSlab) (index : ℕ) → Contains state.slabs slab → index < (geometry_in setting slab.cache).rounds → slab_with_chunk setting state.slabs (chunk_start setting slab index) ≡ Some slab
  slab_found slab index stands lt = go (slab_with_chunk setting state.slabs (chunk_start setting slab index)) refl
    where
      go : (o : Option HeapSlab) → slab_with_chunk setting state.slabs (chunk_start setting slab index) ≡ o → slab_with_chunk setting state.slabs (chunk_start setting slab index) ≡ Some slab
      go None is =
          absurd (find_none (λ (s : HeapSlab). begins_chunk setting s (chunk_start setting slab index)) state.slabs slab is stands (begins setting slab (chunk_start setting slab index) (chunk_some setting state header places slab stands) (record { index = index; within = lt; there = refl })))
      go (Some f) is =
          let at = chunk_start setting slab index in
          let found = find_found (λ (s : HeapSlab). begins_chunk setting s at) state.slabs f is in
          let its = begun setting f at (chunk_some setting state header places f found.0) found.1 in
          let mine : IsChunkOf setting slab at = record { index = index; within = lt; there = refl } in
          is ∙ ap Some (one_slab setting state header places f slab at found.0 stands its mine)
