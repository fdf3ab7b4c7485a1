-- Where live buffers and slabs stand, said of the two lists alone, and that no two buffers meet that stand so.
use Rattle.std.proofs.Common.{◌≡◌, ◌≢◌, ℕ, ◌+◌, ◌*◌, ◌≤◌, ◌⊎◌, Bool, true, List, Option, Some, None, refl, sym, ap, subst, ◌∙◌, arith, inl, inr}
use Rattle.std.specs.Prelude.{All, AllPairs, Contains, is_none}
use Rattle.std.proofs.lemmas.Bool.{cases_order}
use Rattle.std.proofs.lemmas.List.Elements.{All-contains}
use Rattle.umem_base.specs.declared.arena.TheConstants.{ARENA_BASE}
use Rattle.umem_base.specs.declared.pages.TheConstants.{PAGE_BYTES}
use Rattle.umem_base.specs.declared.span.Span.{Span}
use Rattle.umem_base.specs.Pages.{pages_for}
use Rattle.umem_base.specs.Roots.{arena_end}
use Rattle.umem_base.specs.Span.{IsSpanWithin, span_end}
use Rattle.case_table.specs.Geometry.{chunk_at}
use Rattle.script.specs.Rules.{IsHeader}
use Rattle.plain_heap.specs.Setting.{IsCache, Setting, cache_def_in, geometry_in}
use Rattle.plain_heap.specs.State.{HeapSlab, IsChunkOf, LiveBuffer, chunk_start, span_of_large, span_of_slab}
use Rattle.plain_heap.specs.Laws.{StandApart}
use Rattle.plain_heap.proofs.PairsLemmas.{pair_of}
use Rattle.plain_heap.proofs.SettingLemmas.{chunks_stand_in, geometry_in-sound}

-- ---- how buffers and slabs stand

-- an address is where a chunk begins of one of the slabs, which is one of the cache
pub record HasChunk (setting : Setting) (slabs : List HeapSlab) (cache address : ℕ) : Type 0 where
  pub slab : HeapSlab
  pub stands : Contains slabs slab
  pub its : slab.cache ≡ cache
  pub chunk : IsChunkOf setting slab address

-- a buffer of a cache lies in the content of one chunk of it
abbrev pub IsSeated : Setting → List HeapSlab → ℕ → ℕ → Option ℕ → Type 0
IsSeated setting slabs address size (Some cache) = HasChunk setting slabs cache address × (size ≤ (geometry_in setting cache).content)
IsSeated setting slabs address size None = Unit {0}

-- the buffer has pages of its own
abbrev pub is_large : LiveBuffer → Bool
is_large buffer = is_none buffer.held.cache

-- a run of pages lies in the arena
abbrev pub IsInArena : Setting → Span → Type 0
IsInArena setting span = IsSpanWithin ARENA_BASE (arena_end setting.header.version) span

-- what each entry of a legal history keeps
pub record AreInPlace (setting : Setting) (live : List LiveBuffer) (slabs : List HeapSlab) : Type 0 where
  pub caches : All (λ slab. IsCache setting.header.caches slab.cache) slabs
  pub slabs_in : All (λ slab. IsInArena setting (span_of_slab setting slab)) slabs
  pub slabs_apart : AllPairs (λ a b. StandApart (span_of_slab setting a) (span_of_slab setting b)) slabs
  pub large_in : All (λ b. is_large b ≡ true → IsInArena setting (span_of_large b)) live
  pub large_apart : AllPairs (λ a b. is_large a ≡ true → is_large b ≡ true → StandApart (span_of_large a) (span_of_large b)) live
  pub across : All (λ b. is_large b ≡ true → All (λ slab. StandApart (span_of_slab setting slab) (span_of_large b)) slabs) live
  pub addresses : AllPairs (λ a b. a.address ≢ b.address) live
  pub seated : All (λ b. IsSeated setting slabs b.address b.held.size b.held.cache) live

-- ---- runs of pages

pub apart_turned : (s t : Span) → StandApart s t → StandApart t s
apart_turned s t (inl below) = inr below
apart_turned s t (inr above) = inl above

pub apart_bases : (s t : Span) → 1 ≤ s.pages → 1 ≤ t.pages → StandApart s t → s.base ≡ t.base → ⊥
apart_bases s t some other (inl below) e = omega arith
apart_bases s t some other (inr above) e = omega arith

-- what lies in two runs that stand apart, does not meet
apart_inside : (s t : Span) (p m q n : ℕ) → StandApart s t → s.base ≤ p → p + m ≤ span_end s → t.base ≤ q → q + n ≤ span_end t → (p + m ≤ q) ⊎ (q + n ≤ p)
apart_inside s t p m q n (inl below) low high from to = inl (omega arith)
apart_inside s t p m q n (inr above) low high from to = inr (omega arith)

-- the pages of a large buffer
abbrev pub pages_at : ℕ → ℕ → Span
pages_at address size = record { base = address; pages = pages_for size }

pages_hold : (address size : ℕ) → address + size ≤ span_end (pages_at address size)
pages_hold address size = omega arith

-- ---- chunks

moved : (base at chunk pages address : ℕ) → address ≡ base + at → at + chunk ≤ pages * PAGE_BYTES → (base ≤ address) × (address + chunk ≤ base + PAGE_BYTES * pages)
moved base at chunk pages address there inside = (omega arith, omega arith)

-- a chunk of a slab lies in the slab's pages
pub chunk_in_slab : (setting : Setting) (slab : HeapSlab) (address : ℕ) → IsHeader setting.header → IsCache setting.header.caches slab.cache → IsChunkOf setting slab address
    → (slab.base ≤ address) × (address + (geometry_in setting slab.cache).chunk ≤ span_end (span_of_slab setting slab))
chunk_in_slab setting slab address header is chunk =
    let g = geometry_in setting slab.cache in
    let stand = chunks_stand_in setting slab.cache slab.made header is in
    moved slab.base (chunk_at (cache_def_in setting slab.cache).align slab.made g chunk.index) g.chunk g.pages address chunk.there (stand.inside chunk.index chunk.within)

follows : (base at next chunk p q : ℕ) → p ≡ base + at → q ≡ base + next → at + chunk ≤ next → p + chunk ≤ q
follows base at next chunk p q here there apart = omega arith

-- two chunks of one slab at two addresses stand apart
pub chunks_apart : (setting : Setting) (slab : HeapSlab) (p q : ℕ) → IsHeader setting.header → IsCache setting.header.caches slab.cache → p ≢ q → IsChunkOf setting slab p → IsChunkOf setting slab q
    → (p + (geometry_in setting slab.cache).chunk ≤ q) ⊎ (q + (geometry_in setting slab.cache).chunk ≤ p)
chunks_apart setting slab p q header is differ one other =
    let g = geometry_in setting slab.cache in
    let at = chunk_at (cache_def_in setting slab.cache).align slab.made g in
    let stand = chunks_stand_in setting slab.cache slab.made header is in
    elim (cases_order one.index other.index) [
      | inl same ↦ absurd (differ (one.there ∙ ap (chunk_start setting slab) same ∙ sym other.there))
      | inr (inl less) ↦ inl (follows slab.base (at one.index) (at other.index) g.chunk p q one.there other.there (stand.apart one.index other.index less))
      | inr (inr more) ↦ inr (follows slab.base (at other.index) (at one.index) g.chunk q p other.there one.there (stand.apart other.index one.index more))
    ]

smaller : (p q m n chunk : ℕ) → m ≤ chunk → n ≤ chunk → (p + chunk ≤ q) ⊎ (q + chunk ≤ p) → (p + m ≤ q) ⊎ (q + n ≤ p)
smaller p q m n chunk small little (inl less) = inl (omega arith)
smaller p q m n chunk small little (inr more) = inr (omega arith)

-- ---- a buffer in its chunk

module _ (setting : Setting) (live : List LiveBuffer) (slabs : List HeapSlab) (header : IsHeader setting.header) (places : AreInPlace setting live slabs) where
  pub is_cache_of : (slab : HeapSlab) → Contains slabs slab → IsCache setting.header.caches slab.cache
  is_cache_of slab there = All-contains (λ (s : HeapSlab). IsCache setting.header.caches s.cache) slabs slab places.caches there

  -- the cache of a chunk that stands is one
  pub is_cache : (cache address : ℕ) → HasChunk setting slabs cache address → IsCache setting.header.caches cache
  is_cache cache address h = subst (IsCache setting.header.caches) h.its (is_cache_of h.slab h.stands)

  -- what fits the content fits the chunk
  fits_chunk : (cache address size : ℕ) (h : HasChunk setting slabs cache address) → size ≤ (geometry_in setting cache).content → size ≤ (geometry_in setting h.slab.cache).chunk
  fits_chunk cache address size h fits =
      let content = subst (λ c. size ≤ (geometry_in setting c).content) (sym h.its) fits in
      omega (arith, content, (geometry_in-sound setting h.slab.cache header (is_cache_of h.slab h.stands)).tag_fits)

  in_slab : (cache address size : ℕ) (h : HasChunk setting slabs cache address) → size ≤ (geometry_in setting cache).content → (h.slab.base ≤ address) × (address + size ≤ span_end (span_of_slab setting h.slab))
  in_slab cache address size h fits =
      let lies = chunk_in_slab setting h.slab address header (is_cache_of h.slab h.stands) h.chunk in
      let small = fits_chunk cache address size h fits in
      (lies.0, omega (arith, lies.1, small))

  two_chunks : (c e p q m n : ℕ) → p ≢ q → (one : HasChunk setting slabs c p) → m ≤ (geometry_in setting c).content → (other : HasChunk setting slabs e q) → n ≤ (geometry_in setting e).content → (p + m ≤ q) ⊎ (q + n ≤ p)
  two_chunks c e p q m n differ one fits other holds =
      let s = span_of_slab setting one.slab in
      let t = span_of_slab setting other.slab in
      let low = in_slab c p m one fits in
      let high = in_slab e q n other holds in
      elim (pair_of (λ (a b : HeapSlab). StandApart (span_of_slab setting a) (span_of_slab setting b)) slabs one.slab other.slab places.slabs_apart one.stands other.stands) [
        | inl same ↦
            let moved_chunk = subst (λ (slab : HeapSlab). IsChunkOf setting slab q) (sym same) other.chunk in
            let little = subst (λ (slab : HeapSlab). n ≤ (geometry_in setting slab.cache).chunk) (sym same) (fits_chunk e q n other holds) in
            smaller p q m n (geometry_in setting one.slab.cache).chunk (fits_chunk c p m one fits) little (chunks_apart setting one.slab p q header (is_cache_of one.slab one.stands) differ one.chunk moved_chunk)
        | inr (inl apart) ↦ apart_inside s t p m q n apart low.0 low.1 high.0 high.1
        | inr (inr apart) ↦ apart_inside s t p m q n (apart_turned t s apart) low.0 low.1 high.0 high.1
      ]

  -- two buffers at two addresses that stand so do not meet
  pub seats_apart : (p q m n : ℕ) (one other : Option ℕ) → p ≢ q → IsSeated setting slabs p m one → IsSeated setting slabs q n other
      → (is_none one ≡ true → All (λ slab. StandApart (span_of_slab setting slab) (pages_at p m)) slabs)
      → (is_none other ≡ true → All (λ slab. StandApart (span_of_slab setting slab) (pages_at q n)) slabs)
      → (is_none one ≡ true → is_none other ≡ true → StandApart (pages_at p m) (pages_at q n)) → (p + m ≤ q) ⊎ (q + n ≤ p)
  seats_apart p q m n (Some c) (Some e) differ seat place pages spans pair = two_chunks c e p q m n differ seat.0 seat.1 place.0 place.1
  seats_apart p q m n (Some c) None differ seat place pages spans pair =
      let low = in_slab c p m seat.0 seat.1 in
      let apart = All-contains (λ (slab : HeapSlab). StandApart (span_of_slab setting slab) (pages_at q n)) slabs seat.0.slab (spans refl) seat.0.stands in
      apart_inside (span_of_slab setting seat.0.slab) (pages_at q n) p m q n apart low.0 low.1 (omega arith) (pages_hold q n)
  seats_apart p q m n None (Some e) differ seat place pages spans pair =
      let high = in_slab e q n place.0 place.1 in
      let apart = All-contains (λ (slab : HeapSlab). StandApart (span_of_slab setting slab) (pages_at p m)) slabs place.0.slab (pages refl) place.0.stands in
      apart_inside (pages_at p m) (span_of_slab setting place.0.slab) p m q n (apart_turned (span_of_slab setting place.0.slab) (pages_at p m) apart) (omega arith) (pages_hold p m) high.0 high.1
  seats_apart p q m n None None differ seat place pages spans pair =
      apart_inside (pages_at p m) (pages_at q n) p m q n (pair refl refl) (omega arith) (pages_hold p m) (omega arith) (pages_hold q n)
