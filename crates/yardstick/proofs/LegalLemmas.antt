-- The tests tell what a legal history asks.
use Rattle.std.proofs.Common.{◌≡◌, ℕ, zero, suc, ◌+◌, ◌-◌, ◌*◌, ◌/◌, ◌%◌, ◌<◌, ◌≤◌, ◌⊎◌, inl, inr, Bool, true, false, cond, eqb, leb, not, ◌&&◌, ◌||◌, List, [], ◌∷◌, length, get_or, Option, Some, None, refl, sym, ap, ◌∙◌, subst, arith, below_more}
use Rattle.std.specs.Prelude.{Contains, IsTrue, is_none, is_some}
use Rattle.std.specs.Bool.{Decides}
use Rattle.std.specs.List.{list_all, list_any, range_with_len, slice_get}
use Rattle.std.proofs.lemmas.Bool.{and_parts, eq-eqb, eqb-true, false≢true, le-leb, leb-true}
use Rattle.std.proofs.lemmas.Option.{same_Some, slice_get_cases, slice_get_within}
use Rattle.umem_base.specs.declared.arena.TheConstants.{ARENA_BASE}
use Rattle.umem_base.specs.declared.pages.TheConstants.{PAGE_BYTES}
use Rattle.umem_base.specs.Pages.{HasNoRun, IsFreeRun, IsPage}
use Rattle.umem_base.specs.Roots.{arena_end, arena_pages}
use Rattle.script.specs.declared.operation.Op.{Op}
use Rattle.script.specs.declared.operation.Op.TheVariants.{Alloc, Zalloc, Free, CacheAlloc, CacheFree, Copy, Clear, Store, Link, Load, Reap}
use Rattle.script.specs.Rules.{IsHeader}
use Rattle.plain_heap.specs.declared.entry.Body.{Body}
use Rattle.plain_heap.specs.declared.entry.Body.TheVariants.{Call, Grow, Shrink}
use Rattle.plain_heap.specs.declared.entry.Entry.{Entry}
use Rattle.plain_heap.specs.declared.held.Held.{Held}
use Rattle.plain_heap.specs.declared.reply.Reply.{Reply}
use Rattle.plain_heap.specs.declared.reply.Reply.TheVariants as reply
use Rattle.plain_heap.specs.Legal.{HandsOutFrom, IsAllocFrom, IsAnsweredFrom, IsFirstIllegal, IsGrow, IsLegal, IsLegalEntry, IsReap, IsReaping, IsShrink, IsUnused}
use Rattle.plain_heap.specs.Replies.{IsCacheFull, IsChoice}
use Rattle.plain_heap.specs.Setting.{IsCache, Setting, geometry_in}
use Rattle.plain_heap.specs.State.{HeapSlab, IsChunkOf, IsChunkOfCache, IsFreePage, LiveBuffer, State, begins_chunk, chunk_start, held_at, is_live, is_taken, new_slab}
use Rattle.plain_heap.proofs.SlabOfChunk.{begins, begun}
use Rattle.yardstick.specs.Tests.{are_all_live, hands_out_from, has_run, has_unused, is_all_live, is_alloc_from, is_answered_from, is_cache_full, is_choice, is_chunk_of_cache, is_free_page, is_free_run, is_reap, is_reaping, has_no_live}
use Rattle.yardstick.proofs.CachesLemmas.{any_is_sound}
use Rattle.yardstick.proofs.TestsLemmas.{all_from, all_in, all_range, any_in, below_range, both, found_in, in_range, none_is, not_true, range_all}

-- ---- chunks

chunk_some : (setting : Setting) (cache : ℕ) → IsHeader setting.header → 0 < (geometry_in setting cache).chunk
chunk_some setting cache header = omega (arith, (any_is_sound setting cache header).chunk_some)

pub tells_chunk : (setting : Setting) (slab : HeapSlab) (address : ℕ) → IsHeader setting.header → Decides (begins_chunk setting slab address) (IsChunkOf setting slab address)
tells_chunk setting slab address header =
    let some = chunk_some setting slab.cache header in
    (begun setting slab address some, begins setting slab address some)

pub tells_chunk_of_cache : (setting : Setting) (state : State) (cache address : ℕ) → IsHeader setting.header
    → Decides (is_chunk_of_cache setting state.slabs cache address) (IsChunkOfCache setting state cache address)
tells_chunk_of_cache setting state cache address header = (
  λ h.
      let found = found_in (λ (slab : HeapSlab). eqb slab.cache cache && begins_chunk setting slab address) state.slabs h in
      let parts = and_parts _ _ found.2 in
      record { slab = found.0; stands = found.1; its = eqb-true _ _ parts.0; chunk = (tells_chunk setting found.0 address header).0 parts.1 },
  λ h. any_in (λ (slab : HeapSlab). eqb slab.cache cache && begins_chunk setting slab address) state.slabs h.slab h.stands
      (both _ _ (eq-eqb _ _ h.its) ((tells_chunk setting h.slab address header).1 h.chunk)),
)

-- ---- what lives

none_held : (o : Option Held) → is_none o ≡ true → o ≡ None
none_held None h = refl
none_held (Some held) h = absurd (false≢true h)

is_none_of : (o : Option Held) → o ≡ None → is_none o ≡ true
is_none_of o h = ap (λ (p : Option Held). is_none p) h

pub tells_choice : (setting : Setting) (state : State) (cache address : ℕ) → IsHeader setting.header
    → Decides (is_choice setting state cache address) (IsChoice setting state cache address)
tells_choice setting state cache address header =
    let chunk = tells_chunk_of_cache setting state cache address header in (
      λ h. let parts = and_parts _ _ h in record { chunk = chunk.0 parts.0; free = none_held _ parts.1 },
      λ h. both _ _ (chunk.1 h.chunk) (is_none_of _ h.free),
    )

pub tells_unused : (setting : Setting) (state : State) (slab : HeapSlab) → Decides (has_no_live setting state.live slab) (IsUnused setting state slab)
tells_unused setting state slab = (
  λ h address chunk.
      ap (λ a. held_at state.live a) chunk.there
      ∙ none_held _ (range_all (λ k. is_none (held_at state.live (chunk_start setting slab k))) (geometry_in setting slab.cache).rounds chunk.index h chunk.within),
  λ h. all_range (λ k. is_none (held_at state.live (chunk_start setting slab k))) (geometry_in setting slab.cache).rounds
      (λ k lt. is_none_of _ (h (chunk_start setting slab k) (record { index = k; within = lt; there = refl }))),
)

-- each chunk of a cache's slabs lives
abbrev AreAllLive : Setting → State → ℕ → Type 0
AreAllLive setting state cache = (address : ℕ) → IsChunkOfCache setting state cache address → IsTrue (is_live state address)

other_or : (a b : Bool) → (not a || b) ≡ true → a ≡ true → b ≡ true
other_or true b h e = h
other_or false b h e = absurd (false≢true e)

or_other : (a b : Bool) → (a ≡ true → b ≡ true) → (not a || b) ≡ true
or_other true b h = h refl
or_other false b h = refl

pub tells_all_live : (setting : Setting) (state : State) (cache : ℕ) → Decides (are_all_live setting state cache) (AreAllLive setting state cache)
tells_all_live setting state cache = (
  λ h address chunk.
      let its = all_in (λ (slab : HeapSlab). not (eqb slab.cache cache) || is_all_live setting state.live slab) state.slabs chunk.slab h chunk.stands in
      let live = other_or _ _ its (eq-eqb _ _ chunk.its) in
      ap (λ a. is_live state a) chunk.chunk.there
      ∙ range_all (λ k. is_live state (chunk_start setting chunk.slab k)) (geometry_in setting chunk.slab.cache).rounds chunk.chunk.index live chunk.chunk.within,
  λ h. all_from (λ (slab : HeapSlab). not (eqb slab.cache cache) || is_all_live setting state.live slab) state.slabs (λ slab stands.
      or_other _ _ (λ its. all_range (λ k. is_live state (chunk_start setting slab k)) (geometry_in setting slab.cache).rounds (λ k lt.
      h (chunk_start setting slab k) (record { slab = slab; stands = stands; its = eqb-true _ _ its; chunk = record { index = k; within = lt; there = refl } })))),
)

-- ---- pages

pub tells_free_page : (setting : Setting) (state : State) (address : ℕ) → Decides (is_free_page setting state address) (IsFreePage setting state address)
tells_free_page setting state address = (
  λ h.
      let first = and_parts _ _ h in
      let second = and_parts _ _ first.0 in
      let third = and_parts _ _ second.0 in
      record { page = eqb-true _ _ third.0; from = leb-true _ _ third.1; to = leb-true _ _ second.1; untaken = first.1 },
  λ h. both _ _ (both _ _ (both _ _ (eq-eqb _ _ h.page) (le-leb _ _ h.from)) (le-leb _ _ h.to)) h.untaken,
)

pub tells_free_run : (setting : Setting) (state : State) (pages base : ℕ) → Decides (is_free_run setting state pages base) (IsFreeRun (IsFreePage setting state) pages base)
tells_free_run setting state pages base = (
  λ h k lt. (tells_free_page setting state (base + PAGE_BYTES * k)).0 (range_all (λ k. is_free_page setting state (base + PAGE_BYTES * k)) pages k h lt),
  λ h. all_range (λ k. is_free_page setting state (base + PAGE_BYTES * k)) pages (λ k lt. (tells_free_page setting state (base + PAGE_BYTES * k)).1 (h k lt)),
)

pub tells_no_run : (setting : Setting) (state : State) (pages : ℕ) → 0 < pages → Decides (not (has_run setting state pages)) (HasNoRun (IsFreePage setting state) pages)
tells_no_run setting state pages some = (
  λ h base free.
      let first = free 0 some in
      let count = arena_pages setting.header.version in
      let k = (base - ARENA_BASE) / PAGE_BYTES in
      let is_at : base ≡ ARENA_BASE + PAGE_BYTES * k = omega (arith, first.page, first.from) in
      let lt : k < count = omega (arith, first.to, is_at) in
      let run = (tells_free_run setting state pages (ARENA_BASE + PAGE_BYTES * k)).1 (subst (λ b. IsFreeRun (IsFreePage setting state) pages b) is_at free) in
      none_is _ h (any_in (λ k. is_free_run setting state pages (ARENA_BASE + PAGE_BYTES * k)) (range_with_len 0 count) k (in_range count k lt) run),
  λ h. not_true _ (λ some.
      let found = found_in (λ k. is_free_run setting state pages (ARENA_BASE + PAGE_BYTES * k)) (range_with_len 0 (arena_pages setting.header.version)) some in
      h (ARENA_BASE + PAGE_BYTES * found.0) ((tells_free_run setting state pages (ARENA_BASE + PAGE_BYTES * found.0)).0 found.2)),
)

pub tells_full : (setting : Setting) (state : State) (cache : ℕ) → IsHeader setting.header → Decides (is_cache_full setting state cache) (IsCacheFull setting state cache)
tells_full setting state cache header =
    let some = (any_is_sound setting cache header).pages_some in
    let live = tells_all_live setting state cache in
    let none = tells_no_run setting state (geometry_in setting cache).pages (omega (arith, some)) in (
      λ h. let parts = and_parts _ _ h in record { live = live.0 parts.0; no_run = none.0 parts.1 },
      λ h. both _ _ (live.1 h.live) (none.1 h.no_run),
    )

-- ---- what stands behind inner entries

tells_nothing : Decides false ⊥
tells_nothing = (λ h. false≢true h, λ h. absurd h)

tells_answered : (setting : Setting) (slab : HeapSlab) (answer : Reply) → IsHeader setting.header → Decides (is_answered_from setting slab answer) (IsAnsweredFrom setting slab answer)
tells_answered setting slab (reply.At address report) header = tells_chunk setting slab address header
tells_answered setting slab reply.Ok header = tells_nothing
tells_answered setting slab reply.Null header = tells_nothing
tells_answered setting slab reply.NoSpace header = tells_nothing
tells_answered setting slab reply.Dup header = tells_nothing
tells_answered setting slab reply.BadAddr header = tells_nothing
tells_answered setting slab reply.BadCache header = tells_nothing
tells_answered setting slab reply.BadSize header = tells_nothing
tells_answered setting slab reply.Redzone header = tells_nothing
tells_answered setting slab reply.Fault header = tells_nothing
tells_answered setting slab (reply.Word word) header = tells_nothing

tells_alloc : (setting : Setting) (slab : HeapSlab) (op : Op) (answer : Reply) → IsHeader setting.header → Decides (is_alloc_from setting slab op answer) (IsAllocFrom setting slab op answer)
tells_alloc setting slab (Alloc slot size) answer header = tells_answered setting slab answer header
tells_alloc setting slab (Zalloc slot size) answer header = tells_answered setting slab answer header
tells_alloc setting slab (CacheAlloc slot cache) answer header = tells_answered setting slab answer header
tells_alloc setting slab (Free slot size) answer header = tells_nothing
tells_alloc setting slab (CacheFree slot cache) answer header = tells_nothing
tells_alloc setting slab (Copy to from) answer header = tells_nothing
tells_alloc setting slab (Clear slot) answer header = tells_nothing
tells_alloc setting slab (Store slot offset stored) answer header = tells_nothing
tells_alloc setting slab (Link slot offset value) answer header = tells_nothing
tells_alloc setting slab (Load to slot offset) answer header = tells_nothing
tells_alloc setting slab Reap answer header = tells_nothing

pub tells_handed : (setting : Setting) (slab : HeapSlab) (body : Body) → IsHeader setting.header → Decides (hands_out_from setting slab body) (HandsOutFrom setting slab body)
tells_handed setting slab (Call op frames answer) header = tells_alloc setting slab op answer header
tells_handed setting slab (Grow cache base) header = tells_nothing
tells_handed setting slab (Shrink cache base) header = tells_nothing

tells_reap : (op : Op) → Decides (is_reap op) (IsReap op)
tells_reap (Alloc slot size) = tells_nothing
tells_reap (Zalloc slot size) = tells_nothing
tells_reap (CacheAlloc slot cache) = tells_nothing
tells_reap (Free slot size) = tells_nothing
tells_reap (CacheFree slot cache) = tells_nothing
tells_reap (Copy to from) = tells_nothing
tells_reap (Clear slot) = tells_nothing
tells_reap (Store slot offset stored) = tells_nothing
tells_reap (Link slot offset value) = tells_nothing
tells_reap (Load to slot offset) = tells_nothing
tells_reap Reap = (λ h. tt, λ h. refl)

pub tells_reaping : (body : Body) → Decides (is_reaping body) (IsReaping body)
tells_reaping (Call op frames answer) = tells_reap op
tells_reaping (Grow cache base) = tells_nothing
tells_reaping (Shrink cache base) = (λ h. tt, λ h. refl)

-- a slab of a cache at a base stands, of which no chunk lives
pub record HasUnused (setting : Setting) (state : State) (cache base : ℕ) : Type 0 where
  pub slab : HeapSlab
  pub stands : Contains state.slabs slab
  pub its_cache : slab.cache ≡ cache
  pub its_base : slab.base ≡ base
  pub unused : IsUnused setting state slab

pub tells_has_unused : (setting : Setting) (state : State) (cache base : ℕ) → Decides (has_unused setting state cache base) (HasUnused setting state cache base)
tells_has_unused setting state cache base = (
  λ h.
      let found = found_in (λ (slab : HeapSlab). eqb slab.cache cache && eqb slab.base base && has_no_live setting state.live slab) state.slabs h in
      let last = and_parts _ _ found.2 in
      let first = and_parts _ _ last.0 in
      record { slab = found.0; stands = found.1; its_cache = eqb-true _ _ first.0; its_base = eqb-true _ _ first.1; unused = (tells_unused setting state found.0).0 last.1 },
  λ h. any_in (λ (slab : HeapSlab). eqb slab.cache cache && eqb slab.base base && has_no_live setting state.live slab) state.slabs h.slab h.stands
      (both _ _ (both _ _ (eq-eqb _ _ h.its_cache) (eq-eqb _ _ h.its_base)) ((tells_unused setting state h.slab).1 h.unused)),
)

-- ---- grows and shrinks

-- the run of pages is free, so that the next entry of the thread decides
pub tells_grow : (setting : Setting) (state : State) (cache base pages : ℕ) (slab : HeapSlab) (entry : Entry) (next : Option Entry) (free hands : Bool)
    → IsHeader setting.header → IsCache setting.header.caches cache → IsPage base → next ≡ Some entry → pages ≡ (geometry_in setting cache).pages
    → slab ≡ new_slab setting state cache base → free ≡ is_free_run setting state pages base → free ≡ true → hands ≡ hands_out_from setting slab entry.body
    → Decides hands (IsGrow setting state cache base next)
tells_grow setting state cache base pages slab entry next free hands header is_cache page follows size made run is handed =
    let runs = tells_free_run setting state pages base in
    let told = tells_handed setting slab entry.body header in (
      λ h. record {
        is_cache = is_cache;
        page = page;
        free = subst (λ n. IsFreeRun (IsFreePage setting state) n base) size (runs.0 (sym run ∙ is));
        entry = entry;
        follows = follows;
        used = subst (λ s. HandsOutFrom setting s entry.body) made (told.0 (sym handed ∙ h));
      },
      λ h.
          let same : h.entry ≡ entry = same_Some h.entry entry (sym h.follows ∙ follows) in
          let used = subst (λ (e : Entry). HandsOutFrom setting (new_slab setting state cache base) e.body) same h.used in
          handed ∙ told.1 (subst (λ s. HandsOutFrom setting s entry.body) (sym made) used),
    )

-- it is not free, so that no grow is allowed
pub tells_no_grow : (setting : Setting) (state : State) (cache base pages : ℕ) (next : Option Entry) (free : Bool) → pages ≡ (geometry_in setting cache).pages
    → free ≡ is_free_run setting state pages base → free ≡ false → Decides free (IsGrow setting state cache base next)
tells_no_grow setting state cache base pages next free size run is = (
  λ h. absurd (false≢true (sym is ∙ h)),
  λ h. run ∙ (tells_free_run setting state pages base).1 (subst (λ n. IsFreeRun (IsFreePage setting state) n base) (sym size) h.free),
)

-- the next entry of the thread is a shrink or a reap, so that the slabs decide
pub tells_shrink : (setting : Setting) (state : State) (cache base : ℕ) (entry : Entry) (next : Option Entry) (reaps unused : Bool) → next ≡ Some entry
    → reaps ≡ is_reaping entry.body → reaps ≡ true → unused ≡ has_unused setting state cache base → Decides unused (IsShrink setting state cache base next)
tells_shrink setting state cache base entry next reaps unused follows reaping is stands =
    let told = tells_has_unused setting state cache base in (
      λ h.
          let has = told.0 (sym stands ∙ h) in
          record {
            slab = has.slab;
            stands = has.stands;
            its_cache = has.its_cache;
            its_base = has.its_base;
            unused = has.unused;
            entry = entry;
            follows = follows;
            reaped = (tells_reaping entry.body).0 (sym reaping ∙ is);
          },
      λ h. stands ∙ told.1 (record { slab = h.slab; stands = h.stands; its_cache = h.its_cache; its_base = h.its_base; unused = h.unused }),
    )

-- ---- entries in order

-- an entry that is not legal behind legal ones is the first
pub is_first : (setting : Setting) (entries : List Entry) (n : ℕ) (is : Bool) → n < length entries → is ≡ false
    → ((entry : Entry) → slice_get entries n ≡ Some entry → Decides is (IsLegalEntry setting entries n entry))
    → ((k : ℕ) (entry : Entry) → k < n → slice_get entries k ≡ Some entry → IsLegalEntry setting entries k entry) → IsFirstIllegal setting entries n
is_first setting entries n is lt fails told before = elim (slice_get_cases entries n).1 [
  | inl some ↦ record {
    entry = some.0;
    there = some.2;
    illegal = λ h. false≢true (sym fails ∙ (told some.0 some.2).1 h);
    before = before;
  }
  | inr none ↦ absurd (omega (arith, none.0))
]

-- a legal entry behind legal ones
pub legal_more : (setting : Setting) (entries : List Entry) (n : ℕ) (is : Bool) → is ≡ true
    → ((entry : Entry) → slice_get entries n ≡ Some entry → Decides is (IsLegalEntry setting entries n entry))
    → ((k : ℕ) (entry : Entry) → k < n → slice_get entries k ≡ Some entry → IsLegalEntry setting entries k entry)
    → (k : ℕ) (entry : Entry) → k < n + 1 → slice_get entries k ≡ Some entry → IsLegalEntry setting entries k entry
legal_more setting entries n is holds told before k entry lt there =
    let Passes : ℕ → Type 0 = λ i. (e : Entry) → slice_get entries i ≡ Some e → IsLegalEntry setting entries i e in
    below_more Passes n (λ i less e at. before i e less at) (λ e at. (told e at).0 holds) k lt entry there

-- all are legal where each that was looked at is
pub legal_all : (setting : Setting) (entries : List Entry) (n : ℕ) → length entries ≤ n
    → ((k : ℕ) (entry : Entry) → k < n → slice_get entries k ≡ Some entry → IsLegalEntry setting entries k entry) → IsLegal setting entries
legal_all setting entries n past before k entry there = before k entry (omega (arith, slice_get_within entries k entry there)) there
