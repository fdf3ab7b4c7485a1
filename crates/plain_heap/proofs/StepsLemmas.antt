-- Each entry of a legal history leaves live buffers and slabs in their places.
use Rattle.std.proofs.Common.{◌≡◌, ◌≢◌, ℕ, zero, suc, ◌+◌, ◌<◌, ◌≤◌, Bool, true, false, eqb, cond, List, [], ◌∷◌, get_or, Option, Some, None, refl, sym, ap, subst, ◌∙◌, arith, inl, inr}
use Rattle.std.specs.Prelude.{All, Contains, find, is_none, option_map}
use Rattle.std.proofs.lemmas.Bool.{eq-eqb, false≢true}
use Rattle.std.proofs.lemmas.List.Elements.{All-cons, All-contains, All-contains_itself}
use Rattle.std.proofs.lemmas.List.Kept.{AllPairs-cons}
use Rattle.umem_base.specs.declared.span.Span.{Span}
use Rattle.umem_base.specs.Ordered.{left_out_by}
use Rattle.umem_base.specs.Pages.{pages_for}
use Rattle.umem_base.proofs.Lists.{Contains-there}
use Rattle.umem_base.proofs.OrderedLemmas.{AllPairs-left_out_by, All-left_out_by, Contains-cases, Contains-left_out_by, Contains-nil}
use Rattle.case_table.specs.declared.cache_def.CacheDef.{CacheDef}
use Rattle.case_table.specs.Sizes.{class_for}
use Rattle.case_table.proofs.SizesLemmas.{least_from_class}
use Rattle.script.specs.declared.operation.Op.{Op}
use Rattle.script.specs.declared.operation.Op.TheVariants.{Alloc, Zalloc, Free, CacheAlloc, CacheFree, Copy, Clear, Store, Link, Load, Reap}
use Rattle.script.specs.Rules.{IsHeader}
use Rattle.plain_heap.specs.declared.entry.Body.{Body}
use Rattle.plain_heap.specs.declared.entry.Body.TheVariants.{Call, Grow, Shrink}
use Rattle.plain_heap.specs.declared.entry.Entry.{Entry}
use Rattle.plain_heap.specs.declared.reply.Reply.{Reply}
use Rattle.plain_heap.specs.declared.reply.Reply.TheVariants as reply
use Rattle.plain_heap.specs.declared.reply.Report.{Report}
use Rattle.plain_heap.specs.Setting.{IsCache, Setting, cache_def_in, geometry_in}
use Rattle.plain_heap.specs.State.{HeapSlab, IsChunkOf, LiveBuffer, State, after_alloc, after_body, after_call, after_free, after_link, after_store, after_word, held_at, new_slab, request_from, request_of, span_of_large, span_of_slab, word_of_slot}
use Rattle.plain_heap.specs.Replies.{IsAllocReply, IsCacheReply, IsChoice, IsReply, IsSomeReply}
use Rattle.plain_heap.specs.Legal.{IsLegalBody}
use Rattle.plain_heap.specs.Laws.{StandApart}
use Rattle.plain_heap.proofs.PairsLemmas.{pair_of}
use Rattle.plain_heap.proofs.PlacesLemmas.{AreInPlace, HasChunk, IsInArena, IsSeated, apart_bases, apart_turned, chunk_in_slab, is_cache, is_cache_of, is_large, pages_at}
use Rattle.plain_heap.proofs.RunsLemmas.{IsNewRun, new_run}
use Rattle.plain_heap.proofs.SettingLemmas.{def_of-class, geometry_in-sound}

-- ---- what lives

none_behind : (test : Bool) (x : LiveBuffer) (rest : Option LiveBuffer) → option_map (λ (b : LiveBuffer). b.held) (cond test (Some x) rest) ≡ None → (test ≡ false) × (option_map (λ (b : LiveBuffer). b.held) rest ≡ None)
none_behind true x rest h = absurd (cc h)
none_behind false x rest h = (refl, h)

-- where a live buffer is, something lives
pub lives : (live : List LiveBuffer) (b : LiveBuffer) → Contains live b → held_at live b.address ≡ None → ⊥
lives [] b there none = Contains-nil b there
lives (x ∷ live) b there none =
    let parts = none_behind (eqb x.address b.address) x (find (λ y. eqb y.address b.address) live) none in
    elim (Contains-cases x b live there) [
      | inl is ↦ false≢true (sym parts.0 ∙ eq-eqb x.address b.address (ap (λ (y : LiveBuffer). y.address) is))
      | inr later ↦ lives live b later parts.1
    ]

-- ---- slabs that come and go

seated_more : (setting : Setting) (slabs : List HeapSlab) (slab : HeapSlab) (address size : ℕ) (cache : Option ℕ) → IsSeated setting slabs address size cache → IsSeated setting (slab ∷ slabs) address size cache
seated_more setting slabs slab address size (Some cache) seat =
    (record { slab = seat.0.slab; stands = Contains-there slab seat.0.slab slabs seat.0.stands; its = seat.0.its; chunk = seat.0.chunk }, seat.1)
seated_more setting slabs slab address size None seat = tt

pub with_slab : (setting : Setting) (live : List LiveBuffer) (slabs : List HeapSlab) (slab : HeapSlab) → AreInPlace setting live slabs → IsCache setting.header.caches slab.cache
    → IsNewRun setting live slabs (span_of_slab setting slab) → AreInPlace setting live (slab ∷ slabs)
with_slab setting live slabs slab places is run = record {
  caches = All-cons (λ (s : HeapSlab). IsCache setting.header.caches s.cache) slab slabs is places.caches;
  slabs_in = All-cons (λ (s : HeapSlab). IsInArena setting (span_of_slab setting s)) slab slabs run.within places.slabs_in;
  slabs_apart = AllPairs-cons (λ (a b : HeapSlab). StandApart (span_of_slab setting a) (span_of_slab setting b)) slab slabs run.slabs_apart places.slabs_apart;
  large_in = places.large_in;
  large_apart = places.large_apart;
  across = λ k d lt large.
      All-cons (λ (s : HeapSlab). StandApart (span_of_slab setting s) (span_of_large (get_or live k d))) slab slabs (run.large_apart k d lt large) (places.across k d lt large);
  addresses = places.addresses;
  seated = λ k d lt.
      let b = get_or live k d in seated_more setting slabs slab b.address b.held.size b.held.cache (places.seated k d lt);
}

module _ (setting : Setting) (live : List LiveBuffer) (slabs : List HeapSlab) (places : AreInPlace setting live slabs) (slab : HeapSlab) (stands : Contains slabs slab)
    (unused : (address : ℕ) → IsChunkOf setting slab address → held_at live address ≡ None) where
  seated_less : (address size : ℕ) (cache : Option ℕ) → (held_at live address ≡ None → ⊥) → IsSeated setting slabs address size cache
      → IsSeated setting (left_out_by (λ s. s.base) slabs slab.base) address size cache
  seated_less address size (Some cache) lives_there seat =
      let its = seat.0.slab in
      let InArena : HeapSlab → Type 0 = λ s. IsInArena setting (span_of_slab setting s) in
      let some = (All-contains InArena slabs its places.slabs_in seat.0.stands).some in
      let more = (All-contains InArena slabs slab places.slabs_in stands).some in
      let other : its.base ≢ slab.base = λ e.
      elim (pair_of (λ (a b : HeapSlab). StandApart (span_of_slab setting a) (span_of_slab setting b)) slabs its slab places.slabs_apart seat.0.stands stands) [
        | inl same ↦ lives_there (unused address (subst (λ (s : HeapSlab). IsChunkOf setting s address) same seat.0.chunk))
        | inr (inl apart) ↦ apart_bases (span_of_slab setting its) (span_of_slab setting slab) some more apart e
        | inr (inr apart) ↦ apart_bases (span_of_slab setting slab) (span_of_slab setting its) more some apart (sym e)
      ]
      in
      (record { slab = its; stands = Contains-left_out_by (λ (s : HeapSlab). s.base) slabs slab.base its seat.0.stands other; its = seat.0.its; chunk = seat.0.chunk }, seat.1)
  seated_less address size None lives_there seat = tt

  pub without_slab : AreInPlace setting live (left_out_by (λ s. s.base) slabs slab.base)
  without_slab =
      let key : HeapSlab → ℕ = λ s. s.base in
      record {
        caches = All-left_out_by (λ (s : HeapSlab). IsCache setting.header.caches s.cache) key slabs slab.base places.caches;
        slabs_in = All-left_out_by (λ (s : HeapSlab). IsInArena setting (span_of_slab setting s)) key slabs slab.base places.slabs_in;
        slabs_apart = AllPairs-left_out_by (λ (a b : HeapSlab). StandApart (span_of_slab setting a) (span_of_slab setting b)) key slabs slab.base places.slabs_apart;
        large_in = places.large_in;
        large_apart = places.large_apart;
        across = λ k d lt large. All-left_out_by (λ (s : HeapSlab). StandApart (span_of_slab setting s) (span_of_large (get_or live k d))) key slabs slab.base (places.across k d lt large);
        addresses = places.addresses;
        seated = λ k d lt.
            let b = get_or live k d in
            seated_less b.address b.held.size b.held.cache (lives live b (All-contains_itself live k d lt)) (places.seated k d lt);
      }

-- ---- buffers that come and go

-- a new run begins at no live buffer
run_avoids : (setting : Setting) (live : List LiveBuffer) (slabs : List HeapSlab) (header : IsHeader setting.header) (places : AreInPlace setting live slabs) (run : Span) → IsNewRun setting live slabs run
    → (address size : ℕ) (cache : Option ℕ) → IsSeated setting slabs address size cache → (is_none cache ≡ true → StandApart run (pages_at address size) × (1 ≤ pages_for size)) → run.base ≡ address → ⊥
run_avoids setting live slabs header places run new address size (Some cache) seat apart e =
    let slab = seat.0.slab in
    let is = is_cache_of setting live slabs header places slab seat.0.stands in
    let lies = chunk_in_slab setting slab address header is seat.0.chunk in
    let some = (geometry_in-sound setting slab.cache header is).chunk_some in
    let more = new.within.some in
    elim (All-contains (λ (s : HeapSlab). StandApart run (span_of_slab setting s)) slabs slab new.slabs_apart seat.0.stands) [
      | inl below ↦ omega (arith, below, lies.0, more, e)
      | inr above ↦ omega (arith, above, lies.1, some, e)
    ]
run_avoids setting live slabs header places run new address size None seat apart e =
    apart_bases run (pages_at address size) new.within.some (apart refl).1 (apart refl).0 e

pub with_large : (setting : Setting) (live : List LiveBuffer) (slabs : List HeapSlab) (at size : ℕ) → IsHeader setting.header → AreInPlace setting live slabs → IsNewRun setting live slabs (pages_at at size)
    → AreInPlace setting (record { address = at; held = record { size = size; cache = None } } ∷ live) slabs
with_large setting live slabs at size header places run =
    let b : LiveBuffer = record { address = at; held = record { size = size; cache = None } } in
    record {
      caches = places.caches;
      slabs_in = places.slabs_in;
      slabs_apart = places.slabs_apart;
      large_in = All-cons (λ (x : LiveBuffer). is_large x ≡ true → IsInArena setting (span_of_large x)) b live (λ _. run.within) places.large_in;
      large_apart =
          AllPairs-cons (λ (x y : LiveBuffer). is_large x ≡ true → is_large y ≡ true → StandApart (span_of_large x) (span_of_large y)) b live (λ k d lt _ large. run.large_apart k d lt large) places.large_apart;
      across =
          All-cons (λ (x : LiveBuffer). is_large x ≡ true → All (λ (s : HeapSlab). StandApart (span_of_slab setting s) (span_of_large x)) slabs) b live
          (λ _ k d lt. apart_turned (pages_at at size) (span_of_slab setting (get_or slabs k d)) (run.slabs_apart k d lt)) places.across;
      addresses =
          AllPairs-cons (λ (x y : LiveBuffer). x.address ≢ y.address) b live
          (λ k d lt.
          let y = get_or live k d in
          run_avoids setting live slabs header places (pages_at at size) run y.address y.held.size y.held.cache (places.seated k d lt)
          (λ large. (run.large_apart k d lt large, (places.large_in k d lt large).some))) places.addresses;
      seated = All-cons (λ (x : LiveBuffer). IsSeated setting slabs x.address x.held.size x.held.cache) b live tt places.seated;
    }

pub with_chunk : (setting : Setting) (live : List LiveBuffer) (slabs : List HeapSlab) (cache at size : ℕ) → AreInPlace setting live slabs → HasChunk setting slabs cache at
    → size ≤ (geometry_in setting cache).content → held_at live at ≡ None → AreInPlace setting (record { address = at; held = record { size = size; cache = Some cache } } ∷ live) slabs
with_chunk setting live slabs cache at size places chunk fits free =
    let b : LiveBuffer = record { address = at; held = record { size = size; cache = Some cache } } in
    record {
      caches = places.caches;
      slabs_in = places.slabs_in;
      slabs_apart = places.slabs_apart;
      large_in = All-cons (λ (x : LiveBuffer). is_large x ≡ true → IsInArena setting (span_of_large x)) b live (λ e. absurd (false≢true e)) places.large_in;
      large_apart =
          AllPairs-cons (λ (x y : LiveBuffer). is_large x ≡ true → is_large y ≡ true → StandApart (span_of_large x) (span_of_large y)) b live (λ k d lt e. absurd (false≢true e)) places.large_apart;
      across =
          All-cons (λ (x : LiveBuffer). is_large x ≡ true → All (λ (s : HeapSlab). StandApart (span_of_slab setting s) (span_of_large x)) slabs) b live (λ e. absurd (false≢true e)) places.across;
      addresses =
          AllPairs-cons (λ (x y : LiveBuffer). x.address ≢ y.address) b live
          (λ k d lt e. lives live (get_or live k d) (All-contains_itself live k d lt) (subst (λ (a : ℕ). held_at live a ≡ None) e free)) places.addresses;
      seated = All-cons (λ (x : LiveBuffer). IsSeated setting slabs x.address x.held.size x.held.cache) b live (chunk, fits) places.seated;
    }

pub without_buffer : (setting : Setting) (live : List LiveBuffer) (slabs : List HeapSlab) (address : ℕ) → AreInPlace setting live slabs → AreInPlace setting (left_out_by (λ b. b.address) live address) slabs
without_buffer setting live slabs address places =
    let key : LiveBuffer → ℕ = λ b. b.address in
    record {
      caches = places.caches;
      slabs_in = places.slabs_in;
      slabs_apart = places.slabs_apart;
      large_in = All-left_out_by (λ (x : LiveBuffer). is_large x ≡ true → IsInArena setting (span_of_large x)) key live address places.large_in;
      large_apart =
          AllPairs-left_out_by (λ (x y : LiveBuffer). is_large x ≡ true → is_large y ≡ true → StandApart (span_of_large x) (span_of_large y)) key live address places.large_apart;
      across =
          All-left_out_by (λ (x : LiveBuffer). is_large x ≡ true → All (λ (s : HeapSlab). StandApart (span_of_slab setting s) (span_of_large x)) slabs) key live address places.across;
      addresses = AllPairs-left_out_by (λ (x y : LiveBuffer). x.address ≢ y.address) key live address places.addresses;
      seated = All-left_out_by (λ (x : LiveBuffer). IsSeated setting slabs x.address x.held.size x.held.cache) key live address places.seated;
    }

-- ---- calls

-- the live buffers and the slabs of a state are in their places
abbrev pub IsInPlace : Setting → State → Type 0
IsInPlace setting state = AreInPlace setting state.live state.slabs

module _ (setting : Setting) (state : State) (header : IsHeader setting.header) (places : AreInPlace setting state.live state.slabs) where
  handed_chunk : (cache at size : ℕ) → IsChoice setting state cache at → size ≤ (cache_def_in setting cache).size
      → AreInPlace setting (record { address = at; held = record { size = size; cache = Some cache } } ∷ state.live) state.slabs
  handed_chunk cache at size choice small =
      let chunk : HasChunk setting state.slabs cache at = record { slab = choice.chunk.slab; stands = choice.chunk.stands; its = choice.chunk.its; chunk = choice.chunk.chunk } in
      let holds = (geometry_in-sound setting cache header (is_cache setting state.live state.slabs header places cache at chunk)).content_holds in
      with_chunk setting state.live state.slabs cache at size places chunk (omega (arith, holds, small)) choice.free

  handed : (size at : ℕ) (found : Report) (class : Option ℕ) → 0 < size → class_for size ≡ class → IsSomeReply setting state size class (reply.At at found)
      → AreInPlace setting (record { address = at; held = record { size = size; cache = class } } ∷ state.live) state.slabs
  handed size at found (Some class) some is legal =
      let least = least_from_class size class is in
      let small : size ≤ (cache_def_in setting class).size = subst (λ (def : CacheDef). size ≤ def.size) (sym (def_of-class setting.header.caches class least.is_class)) least.holds in
      handed_chunk class at size legal.0 small
  handed size at found None some is legal =
      with_large setting state.live state.slabs at size header places (new_run setting state at (pages_for size) places legal.0 (omega arith))

  alloc_keeps : (thread slot size : ℕ) (zeroed : Bool) (answer : Reply) → IsAllocReply setting state size answer → IsInPlace setting (after_alloc setting state thread slot (request_of size) zeroed answer)
  alloc_keeps thread slot zero zeroed (reply.At at found) legal = absurd (cc legal)
  alloc_keeps thread slot (suc size) zeroed (reply.At at found) legal = handed (suc size) at found (class_for (suc size)) (omega arith) refl legal
  alloc_keeps thread slot size zeroed answer legal = places

  cache_alloc_keeps : (thread slot cache : ℕ) (answer : Reply) → IsCacheReply setting state cache answer → IsInPlace setting (after_alloc setting state thread slot (request_from setting cache) false answer)
  cache_alloc_keeps thread slot cache (reply.At at found) legal = handed_chunk cache at (cache_def_in setting cache).size legal.0 (omega arith)
  cache_alloc_keeps thread slot cache answer legal = places

  free_keeps : (thread slot : ℕ) (answer : Reply) → IsInPlace setting (after_free setting state thread slot answer)
  free_keeps thread slot reply.Ok = without_buffer setting state.live state.slabs (word_of_slot state thread slot) places
  free_keeps thread slot answer = places

  store_keeps : (at : ℕ) (stored : List ℕ) (answer : Reply) → IsInPlace setting (after_store state at stored answer)
  store_keeps at stored reply.Ok = places
  store_keeps at stored answer = places

  link_keeps : (at word : ℕ) (answer : Reply) → IsInPlace setting (after_link state at word answer)
  link_keeps at word reply.Ok = places
  link_keeps at word answer = places

  word_keeps : (thread slot : ℕ) (answer : Reply) → IsInPlace setting (after_word state thread slot answer)
  word_keeps thread slot (reply.Word word) = places
  word_keeps thread slot answer = places

  call_keeps : (thread : ℕ) (op : Op) (answer : Reply) → IsReply setting state thread op answer → IsInPlace setting (after_call setting state thread op answer)
  call_keeps thread (Alloc slot size) answer legal = alloc_keeps thread slot size false answer legal
  call_keeps thread (Zalloc slot size) answer legal = alloc_keeps thread slot size true answer legal
  call_keeps thread (CacheAlloc slot cache) answer legal = cache_alloc_keeps thread slot cache answer legal
  call_keeps thread (Free slot size) answer legal = free_keeps thread slot answer
  call_keeps thread (CacheFree slot cache) answer legal = free_keeps thread slot answer
  call_keeps thread (Copy to from) answer legal = places
  call_keeps thread (Clear slot) answer legal = places
  call_keeps thread (Store slot offset stored) answer legal = store_keeps (word_of_slot state thread slot + offset) stored answer
  call_keeps thread (Link slot offset value) answer legal = link_keeps (word_of_slot state thread slot + offset) (word_of_slot state thread value) answer
  call_keeps thread (Load to slot offset) answer legal = word_keeps thread to answer
  call_keeps thread Reap answer legal = places

  -- what a legal body leaves is in its place again
  pub body_keeps : (thread : ℕ) (body : Body) (next : Option Entry) → IsLegalBody setting state thread body next → IsInPlace setting (after_body setting state thread body)
  body_keeps thread (Call op frames answer) next legal = call_keeps thread op answer legal
  body_keeps thread (Grow cache base) next legal =
      let some = (geometry_in-sound setting cache header legal.is_cache).pages_some in
      with_slab setting state.live state.slabs (new_slab setting state cache base) places legal.is_cache (new_run setting state base (geometry_in setting cache).pages places legal.free some)
  body_keeps thread (Shrink cache base) next legal =
      subst (λ (b : ℕ). AreInPlace setting state.live (left_out_by (λ (s : HeapSlab). s.base) state.slabs b)) legal.its_base
      (without_slab setting state.live state.slabs places legal.slab legal.stands legal.unused)
