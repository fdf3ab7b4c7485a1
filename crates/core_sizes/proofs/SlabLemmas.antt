-- How many bytes the slabs of a core have: what is told of each, and all their pages.
use Rattle.std.proofs.Common.{◌≡◌, ℕ, ◌+◌, ◌*◌, ◌<◌, ◌≤◌, Bool, true, false, cond, eqb, leb, List, [], ◌∷◌, length, get_or, refl, sym, ap, subst, arith}
use Rattle.std.specs.Prelude.{All, map, sum_by}
use Rattle.std.specs.List.{AllZip, flat_map, list_any}
use Rattle.std.proofs.lemmas.Bool.{leb-true}
use Rattle.std.proofs.lemmas.List.{length-append, length-map}
use Rattle.std.proofs.lemmas.List.Concat.{length-flat_map}
use Rattle.std.proofs.lemmas.List.Elements.{All-map, AllZip-get_or, length_all_zip}
use Rattle.umem_base.specs.declared.arena.TheConstants.{ARENA_BASE}
use Rattle.umem_base.specs.declared.pages.TheConstants.{PAGE_BYTES}
use Rattle.umem_base.specs.Roots.{arena_end}
use Rattle.case_table.specs.Record.{spelling}
use Rattle.case_table.proofs.GeometryLemmas.{geometry_is_sound}
use Rattle.core_format.specs.declared.cache_shape.CacheShape.{CacheShape}
use Rattle.core_format.specs.declared.header.Header.{Header}
use Rattle.core_format.specs.declared.items.CacheItem.{CacheItem}
use Rattle.core_format.specs.declared.items.SlabItem.{SlabItem}
use Rattle.core_format.specs.declared.parts.Middle.{Middle}
use Rattle.core_format.specs.declared.whole.Core.{Core}
use Rattle.core_format.specs.Caches.{shape_of, shapes_of}
use Rattle.core_format.specs.Chunks.{core_shapes, is_guarded_core}
use Rattle.core_format.specs.Cores.{MeetsTheRules}
use Rattle.core_format.specs.Items.{items_at, last_of_list}
use Rattle.core_format.specs.Reader.{Reader}
use Rattle.core_format.specs.Slabs.{first_rules, listed_at, meets_chunks, no_shape, past_chunks, shape_at, slab_head_at, slab_item_at, slab_rules, slab_widths}
use Rattle.core_format.specs.Spelling.{spelled_numbers, spelled_slab}
use Rattle.core_format.proofs.SpellingLemmas.{When, after, after_any, after_rule, when_ok}
use Rattle.heap_view.specs.Layout.{IsLaidOut, IsSoundCache}
use Rattle.heap_view.proofs.LayoutLemmas.{laid_out}
use Rattle.heap_view.proofs.PartsLemmas.{middle_parts_of, parts_of}
use Rattle.heap_view.proofs.ReadLemmas.{IsSlabFilled, pages_read}
use Rattle.core_sizes.proofs.LengthLemmas.{all_read, larger_sum, many_read, numbers_long, record_long, runs_fit}

-- the bytes of the largest arena
abbrev pub most_pages : ℕ
most_pages = 4096 * 4096

-- an arena has no more
pub arena_small : (version : ℕ) → arena_end version ≤ ARENA_BASE + most_pages
arena_small version = by_version (eqb version 1)
  where
    by_version : (b : Bool) → ARENA_BASE + PAGE_BYTES * cond b 1024 4096 ≤ ARENA_BASE + most_pages
    by_version true = omega arith
    by_version false = omega arith

-- ---- the slabs of a cache

-- a slab has a page, and no more than 512 chunks, and a magazine no more than 15
pub record IsSmallShape (shape : CacheShape) : Type 0 where
  pub pages : 1 ≤ shape.pages
  pub rounds : shape.rounds ≤ 512
  pub magazine : shape.magazine ≤ 15

pub shapes_small : (guards : Bool) (caches : List CacheItem) → All IsSoundCache caches
    → All IsSmallShape (map (shape_of guards) caches)
shapes_small guards caches sound = All-map IsSmallShape (shape_of guards) caches (λ k d lt.
    let item = get_or caches k d in
    let its = geometry_is_sound item.def.size item.def.align guards (sound k d lt) in
    record { pages = its.pages_some; rounds = its.rounds_small; magazine = its.magazine_small })

-- ---- their lists

-- no more chunks stand in its list than it has
abbrev pub IsListedShort : List CacheShape → SlabItem → Type 0
IsListedShort shapes slab = length slab.free ≤ (shape_at shapes slab.cache).rounds

slab_read : (h : Header) (shapes : List CacheShape) (before : List SlabItem) (here : Reader)
    → When (slab_item_at h shapes before here) (λ out. IsListedShort shapes out.0)
unfolding slab_item_at
slab_read h shapes before here =
    after_any _ (slab_head_at here) _ (λ head.
    let slab = head.0.0 in
    let past = past_chunks shapes slab in
    let rounds = (shape_at shapes slab.cache).rounds in
    let meets = list_any (meets_chunks shapes slab.first past) before in
    let listed = listed_at slab.first past in
    after_any _ (slab_rules h shapes (last_of_list before) slab here.at) _ (λ ruled.
    after_any _ (first_rules h past meets (here.at + 16)) _ (λ first.
    after_rule _ (leb head.0.1 rounds) _ _ _ (λ fits.
    after _ (λ (out : List ℕ × Reader). length out.0 ≡ 0 + head.0.1) (items_at listed head.0.1 [] head.1) _
    (many_read listed head.0.1 [] head.1) (λ free many.
    when_ok _ _ (omega (arith, many, leb-true head.0.1 rounds fits)))))))

-- so it is when they have their bytes
listed_full : (shapes : List CacheShape) (slabs full : List SlabItem) → AllZip (IsSlabFilled shapes) slabs full
    → All (IsListedShort shapes) slabs → All (IsListedShort shapes) full
listed_full shapes slabs full filled all = λ k d lt.
    let many = length_all_zip (IsSlabFilled shapes) slabs full filled in
    let one = AllZip-get_or (IsSlabFilled shapes) slabs full k d d filled (omega (arith, many, lt)) in
    subst (IsListedShort shapes) (sym one.same) (all k d (omega (arith, many, lt)))

lists_short : (core : Core) → MeetsTheRules core → All (IsListedShort (core_shapes core)) core.slabs
lists_short core met =
    let parts = parts_of core met in
    let h : Header = parts.front.0.header in
    let shapes = shapes_of h parts.front.0.caches in
    let m : Middle = parts.middle.0 in
    let full = parts.pages.0.0 in
    let middle = middle_parts_of h shapes parts.front.1 parts.middle parts.middle_read in
    let all = all_read (IsListedShort shapes) (slab_item_at h shapes) (slab_read h shapes) h.slabs parts.front.1
    middle.slabs middle.slabs_read in
    let own : All (IsListedShort m.table.shapes) m.table.slabs =
    subst (λ (x : Middle × Reader). All (IsListedShort x.0.table.shapes) x.0.table.slabs) middle.is all in
    let pages = pages_read m.table.shapes m.large m.table.slabs [] [] [] parts.records.1 full parts.pages.0.1
    parts.pages.1 tt (λ k d lt. absurd (omega (arith, lt))) (omega arith) parts.pages_read in
    let filled = listed_full m.table.shapes m.table.slabs full pages.slabs_are own in
    let same : m.table.shapes ≡ shapes = ap (λ (x : Middle × Reader). x.0.table.shapes) (sym middle.is) in
    subst (λ (c : Core). All (IsListedShort (core_shapes c)) c.slabs) parts.is
    (subst (λ (s : List CacheShape). All (IsListedShort s) full) same filled)

-- ---- their bytes

-- the bytes of its pages
abbrev pub slab_size : List CacheShape → SlabItem → ℕ
slab_size shapes slab = PAGE_BYTES * (shape_at shapes slab.cache).pages

-- all slabs have their pages in the arena
pub slabs_fit : (core : Core) → IsLaidOut core → sum_by (slab_size (core_shapes core)) core.slabs ≤ most_pages
slabs_fit core laid =
    let shapes = core_shapes core in
    let end = arena_end core.version in
    let all = runs_fit (λ (s : SlabItem). s.base) (slab_size shapes) core.slabs ARENA_BASE end (omega arith)
    (λ k d lt. (laid.slabs k d lt).in_arena) (λ k d lt. (laid.slabs k d lt).ends) laid.slabs_rise in
    omega (arith, all, arena_small core.version)

-- what is told of a slab is no longer than a page
slab_long : (shapes : List CacheShape) (slab : SlabItem) → IsSmallShape (shape_at shapes slab.cache)
    → IsListedShort shapes slab → length (spelled_slab slab) ≤ slab_size shapes slab
slab_long shapes slab small short =
    let fields = slab.base ∷ slab.cache ∷ slab.colour ∷ slab.first ∷ length slab.free ∷ [] in
    let head : length (spelling slab_widths fields) ≡ 24 = record_long slab_widths fields refl in
    let joined = length-append (spelling slab_widths fields) (spelled_numbers slab.free) in
    omega (arith, head, small.pages, small.rounds, short, numbers_long 4 slab.free, joined)

pub slabs_long : (core : Core) → MeetsTheRules core → length (flat_map spelled_slab core.slabs) ≤ most_pages
slabs_long core met =
    let laid = laid_out core met in
    let shapes = core_shapes core in
    let guards = is_guarded_core core in
    let small = shapes_small guards core.caches laid.caches in
    let lists = lists_short core met in
    let told : SlabItem → ℕ = λ slab. length (spelled_slab slab) in
    let each : All (λ slab. told slab ≤ slab_size shapes slab) core.slabs = λ k d lt.
    let slab = get_or core.slabs k d in
    let there : slab.cache < length shapes =
    omega (arith, (laid.slabs k d lt).of_cache, length-map core.caches (shape_of guards)) in
    slab_long shapes slab (small slab.cache no_shape there) (lists k d lt) in
    let sums = larger_sum told (slab_size shapes) core.slabs each in
    omega (arith, length-flat_map spelled_slab core.slabs, sums, slabs_fit core laid)
