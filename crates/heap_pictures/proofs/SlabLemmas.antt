-- The slabs of a core that tells a run keep the rules.
use Rattle.std.proofs.Common.{◌≡◌, ℕ, ◌+◌, ◌*◌, ◌/◌, ◌%◌, ◌<◌, ◌≤◌, true, eqb, List, [], length, get_or, Option, Some, None, refl, sym, ap, subst, ◌∙◌, arith, inl, inr}
use Rattle.std.specs.Prelude.{All, AllPairs, Contains, find}
use Rattle.std.specs.Option.{option_map_or}
use Rattle.std.proofs.lemmas.Bool.{eq-eqb, eqb-true, le-leb, lt-ltb}
use Rattle.std.proofs.lemmas.List.Elements.{All-contains, All-contains_itself}
use Rattle.std.proofs.lemmas.List.Kept.{AllPairs-from_increasing}
use Rattle.std.proofs.Math.Nat.{mod-lt, mul-div-le, mul-le-mul_left, mul-mod_right}
use Rattle.umem_base.specs.declared.arena.TheConstants.{ARENA_BASE}
use Rattle.umem_base.specs.declared.pages.TheConstants.{PAGE_BYTES}
use Rattle.umem_base.specs.Roots.{arena_end, arena_pages}
use Rattle.umem_base.specs.Span.{IsSpanWithin, span_end}
use Rattle.case_table.specs.Geometry.{IsSlabGeometry, colour_of}
use Rattle.core_format.specs.declared.cache_shape.CacheShape.{CacheShape}
use Rattle.core_format.specs.declared.items.SlabItem.{SlabItem}
use Rattle.core_format.specs.declared.whole.Core.{Core}
use Rattle.core_format.specs.Chunks.{core_shapes}
use Rattle.core_format.specs.SlabTable.{AreApart}
use Rattle.core_format.specs.Slabs.{ends_in_arena, is_arena_page, is_colour, past_chunks, shape_at, slab_end}
use Rattle.core_rules.specs.SlabRules.{IsSlabBefore, KeepSlabsRules, KeepsSlabRules}
use Rattle.slab_layer.specs.Slab.{IsSlab, Slab}
use Rattle.plain_heap.specs.Laws.{StandApart}
use Rattle.plain_heap.specs.Setting.{Setting, cache_def_in, geometry_in, slab_bytes}
use Rattle.plain_heap.specs.State.{HeapSlab, State, span_of_slab}
use Rattle.plain_heap.proofs.PairsLemmas.{pair_of}
use Rattle.plain_heap.proofs.PlacesLemmas.{IsInArena, is_cache_of}
use Rattle.plain_heap.proofs.RisingLemmas.{made_by, rounds_of}
use Rattle.plain_heap.proofs.SettingLemmas.{geometry_in-sound}
use Rattle.plain_heap.proofs.SlabOfChunk.{find_found}
use Rattle.heap_ledger.specs.Ledger.{Ledger, run_setting, run_state}
use Rattle.heap_accounts.specs.Places.{Places, cache_count, stock_at}
use Rattle.heap_accounts.proofs.SlabLemmas.{ComesFrom, Contains-from_mapped, came_from}
use Rattle.heap_pictures.specs.Items.{colour_in, list_in, slab_item}
use Rattle.heap_pictures.specs.Laws.{CanBePictured}
use Rattle.heap_pictures.specs.Pictures.{TellsPlaces}
use Rattle.heap_pictures.proofs.ShapeLemmas.{shape_in_setting}
use Rattle.heap_pictures.proofs.ToldLemmas.{IsTold, bytes_are_small, bytes_counted, few_by_pages, few_in_range, is_told}

-- ---- numbers

pub is_page : (version base : ℕ) → base % PAGE_BYTES ≡ 0 → ARENA_BASE ≤ base → base < arena_end version
    → is_arena_page version base ≡ true
is_page version base page low high =
    rw (eq-eqb (base % PAGE_BYTES) 0 page, le-leb ARENA_BASE base low, lt-ltb base (arena_end version) high) refl

-- a colour has room and is a multiple of the alignment
colour_fits : (shape : CacheShape) (made : ℕ) → 8 ≤ shape.align
    → is_colour shape (colour_of shape.align shape.leftover made) ≡ true
colour_fits shape made some =
    let align = shape.align in
    let places = shape.leftover / align in
    let turn : made % (places + 1) < places + 1 = mod-lt made (omega arith) in
    let top : align * (made % (places + 1)) ≤ align * places = mul-le-mul_left align (omega arith) in
    let small : colour_of align shape.leftover made ≤ shape.leftover = omega (arith, mul-div-le shape.leftover align) in
    let whole : colour_of align shape.leftover made % align ≡ 0 = mul-mod_right align (made % (places + 1)) in
    let test = eq-eqb (colour_of align shape.leftover made % align) 0 whole in
    rw (lt-ltb 0 align (omega arith), test, le-leb (colour_of align shape.leftover made) shape.leftover small) refl

-- ---- lists of slabs

-- a list rises and has chunks of a slab alone
pub record IsListWithin (first count : ℕ) (list : List ℕ) : Type 0 where
  pub rising : AllPairs (λ chunk later. chunk < later) list
  pub low : All (λ chunk. first ≤ chunk) list
  pub high : All (λ chunk. chunk < first + count) list
  pub few : length list ≤ count

none_within : (first count : ℕ) → IsListWithin first count []
none_within first count = record {
  rising = λ i j d less lt. absurd (omega arith);
  low = λ k d lt. absurd (omega arith);
  high = λ k d lt. absurd (omega arith);
  few = omega arith;
}

some_within : (its : Slab) (first count : ℕ) → IsSlab its → its.first ≡ first → its.count ≡ count
    → IsListWithin first count its.list
some_within its first count is same many =
    let rising = AllPairs-from_increasing its.list is.rising in
    let low : All (λ chunk. first ≤ chunk) its.list = λ k d lt. let own = is.own k d lt in omega (arith, own.0) in
    let high : All (λ chunk. chunk < first + count) its.list =
    λ k d lt. let own = is.own k d lt in omega (arith, own.1)
    in
    record { rising = rising; low = low; high = high; few = few_in_range first count its.list rising low high }

-- ---- a slab that stands

module _ (setting : Setting) (state : State) (stocks : Places) (core : Core)
    (told : IsTold setting state stocks core) where
  -- what is known of a slab that stands
  pub record IsKnown (slab : HeapSlab) : Type 0 where
    pub cache : slab.cache < cache_count setting
    pub shape : shape_at (core_shapes core) slab.cache ≡ shape_in_setting setting slab.cache
    pub span : IsSpanWithin ARENA_BASE (arena_end setting.header.version) (span_of_slab setting slab)
    pub sound : IsSlabGeometry (cache_def_in setting slab.cache).size (cache_def_in setting slab.cache).align
        setting.guards (geometry_in setting slab.cache)
    pub below : slab.first + (geometry_in setting slab.cache).rounds ≤ core.next_chunk

  pub known : (slab : HeapSlab) → Contains state.slabs slab → IsKnown slab
  known slab stands =
      let is = is_cache_of setting state.live state.slabs told.good.header told.good.places slab stands in
      let under =
      All-contains (λ (s : HeapSlab). s.first + rounds_of setting s ≤ made_by setting state.grown) state.slabs slab
      told.good.rising.below stands
      in
      record {
        cache = is;
        shape = told.shapes slab.cache is;
        span =
            All-contains (λ (s : HeapSlab). IsInArena setting (span_of_slab setting s)) state.slabs slab
            told.good.places.slabs_in stands;
        sound = geometry_in-sound setting slab.cache told.good.header is;
        below = omega (arith, under, told.next);
      }

  -- its list rises, and has its own chunks alone
  list_within : (slab : HeapSlab) → Contains state.slabs slab
      → IsListWithin slab.first (geometry_in setting slab.cache).rounds (list_in stocks slab)
  list_within slab stands =
      by_found (find (λ (its : Slab). eqb its.first slab.first) (stock_at stocks slab.cache).slabs) refl
    where
      by_found : (o : Option Slab)
          → find (λ (its : Slab). eqb its.first slab.first) (stock_at stocks slab.cache).slabs ≡ o
          → IsListWithin slab.first (geometry_in setting slab.cache).rounds
          (option_map_or (λ (its : Slab). its.list) o [])
      by_found None is = none_within slab.first (geometry_in setting slab.cache).rounds
      by_found (Some its) is =
          let stock = stock_at stocks slab.cache in
          let are = told.stocked.each slab.cache (known slab stands).cache in
          let found = find_found (λ (s : Slab). eqb s.first slab.first) stock.slabs its is in
          let from = came_from setting slab.cache state.slabs stock.slabs are.slabs its found.0 in
          let many : its.count ≡ (geometry_in setting slab.cache).rounds =
          sym (ap (λ (s : Slab). s.count) from.is) ∙ ap (λ cache. (geometry_in setting cache).rounds) from.its
          in
          some_within its slab.first (geometry_in setting slab.cache).rounds
          (All-contains IsSlab stock.slabs its are.sound.slabs.each found.0) (eqb-true its.first slab.first found.1)
          many

  -- ---- its item

  -- the item of a slab
  abbrev item_of : HeapSlab → SlabItem
  item_of slab = slab_item setting state slab (list_in stocks slab)

  -- the slab for which an item stands
  pub slab_from : (item : SlabItem) → Contains core.slabs item
      → ComesFrom (λ (slab : HeapSlab). item_of slab) state.slabs item
  slab_from item there =
      Contains-from_mapped (λ (slab : HeapSlab). item_of slab) state.slabs item ((told.slabs.exactly item).0 there)

  one_keeps : ((address : ℕ) → state.bytes address < 256) → (slab : HeapSlab) → Contains state.slabs slab
      → KeepsSlabRules core (item_of slab)
  one_keeps small slab stands =
      let its = known slab stands in
      let list = list_within slab stands in
      let g = geometry_in setting slab.cache in
      let shape = shape_at (core_shapes core) slab.cache in
      let rounds : shape.rounds ≡ g.rounds = ap (λ (s : CacheShape). s.rounds) its.shape in
      let high = its.span.high in
      let some = its.span.some in
      let inside : slab.base < arena_end setting.header.version = omega (arith, high, some) in
      record {
        base =
            ap (λ version. is_arena_page version slab.base) told.version
            ∙ is_page setting.header.version slab.base its.span.page its.span.low inside;
        cache = omega (arith, its.cache, told.count);
        ends = ap (λ (s : CacheShape). ends_in_arena core.version slab.base s.pages) its.shape
            ∙ ap (λ version. ends_in_arena version slab.base g.pages) told.version
            ∙ le-leb (slab.base + PAGE_BYTES * g.pages) (arena_end setting.header.version) high;
        colour =
            ap (λ (s : CacheShape). is_colour s (colour_in setting slab)) its.shape
            ∙ colour_fits (shape_in_setting setting slab.cache) slab.made its.sound.align_some;
        numbers = omega (arith, its.below, rounds);
        listed = omega (arith, list.few, rounds);
        own = λ k d lt. record { low = list.low k d lt; high = omega (arith, list.high k d lt, rounds) };
        rising = list.rising;
        filled =
            bytes_counted state.bytes slab.base (slab_bytes setting slab.cache)
            ∙ ap (λ (s : CacheShape). PAGE_BYTES * s.pages) (sym its.shape);
        bytes = bytes_are_small state.bytes slab.base (slab_bytes setting slab.cache) small;
      }

  -- ---- two items

  -- what an item of a core tells of its slab
  pub record IsItemOf (slab : HeapSlab) (item : SlabItem) : Type 0 where
    pub stands : Contains state.slabs slab
    pub base : item.base ≡ slab.base
    pub first : item.first ≡ slab.first
    pub end : slab_end (core_shapes core) item ≡ span_end (span_of_slab setting slab)
    pub past : past_chunks (core_shapes core) item ≡ slab.first + (geometry_in setting slab.cache).rounds

  own_item : (slab : HeapSlab) → Contains state.slabs slab → IsItemOf slab (item_of slab)
  own_item slab stands =
      let shape = (known slab stands).shape in
      record {
        stands = stands;
        base = refl;
        first = refl;
        end = ap (λ (s : CacheShape). slab.base + PAGE_BYTES * s.pages) shape;
        past = ap (λ (s : CacheShape). slab.first + s.rounds) shape;
      }

  pub item_told : (item : SlabItem) → Contains core.slabs item → (slab : HeapSlab) × IsItemOf slab item
  item_told item there =
      let from = slab_from item there in
      (from.item, subst (IsItemOf from.item) from.is (own_item from.item from.there))

  -- a slab lies in the arena, and has a page or more
  pub record LiesInArena (item : SlabItem) : Type 0 where
    pub low : ARENA_BASE ≤ item.base
    pub some : item.base + PAGE_BYTES ≤ slab_end (core_shapes core) item
    pub high : slab_end (core_shapes core) item ≤ arena_end core.version

  pub in_arena : (item : SlabItem) → Contains core.slabs item → LiesInArena item
  in_arena item there =
      let from = item_told item there in
      let is = from.1 in
      let span = (known from.0 is.stands).span in
      let low = span.low in
      let some = span.some in
      let high : span_end (span_of_slab setting from.0) ≤ arena_end core.version =
      subst (λ version. span_end (span_of_slab setting from.0) ≤ arena_end version) (sym told.version) span.high
      in
      let base = is.base in
      let end = is.end in
      record { low = omega (arith, low, base); some = omega (arith, some, base, end); high = omega (arith, high, end) }

  -- slabs apart, of which one begins below the other, end so
  ends_below : (s t : HeapSlab) → Contains state.slabs s → Contains state.slabs t → s.base < t.base
      → span_end (span_of_slab setting s) ≤ t.base
  ends_below s t here there rises =
      elim (pair_of (λ (a b : HeapSlab). StandApart (span_of_slab setting a) (span_of_slab setting b)) state.slabs s t
      told.good.places.slabs_apart here there) [
        | inl same ↦ let bases = ap (λ (x : HeapSlab). x.base) same in absurd (omega (arith, rises, bases))
        | inr (inl (inl below)) ↦ below
        | inr (inl (inr above)) ↦ absurd (omega (arith, above, rises))
        | inr (inr (inl above)) ↦ absurd (omega (arith, above, rises))
        | inr (inr (inr below)) ↦ below
      ]

  before : (one other : SlabItem) → Contains core.slabs one → Contains core.slabs other → one.base < other.base
      → IsSlabBefore (core_shapes core) one other
  before one other here there rises =
      let s = item_told one here in
      let t = item_told other there in
      let base = s.1.base in
      let next = t.1.base in
      let end = s.1.end in
      let below = ends_below s.0 t.0 s.1.stands t.1.stands (omega (arith, rises, base, next)) in
      record { rises = rises; ends = omega (arith, below, end, next) }

  -- no two of them have a chunk in common
  apart : (one other : SlabItem) → Contains core.slabs one → Contains core.slabs other → one.base < other.base
      → AreApart (core_shapes core) one other
  apart one other here there rises =
      let s = item_told one here in
      let t = item_told other there in
      let base = s.1.base in
      let next = t.1.base in
      elim (pair_of (λ (a b : HeapSlab). b.first + rounds_of setting b ≤ a.first) state.slabs s.0 t.0
      told.good.rising.apart s.1.stands t.1.stands) [
        | inl same ↦ let bases = ap (λ (x : HeapSlab). x.base) same in absurd (omega (arith, rises, base, next, bases))
        | inr (inl above) ↦ inr (omega (arith, above, t.1.past, s.1.first))
        | inr (inr below) ↦ inl (omega (arith, below, s.1.past, t.1.first))
      ]

  pub slabs_keep : ((address : ℕ) → state.bytes address < 256) → KeepSlabsRules core
  slabs_keep small =
      let itself = All-contains_itself core.slabs in
      record {
        each = λ k d lt.
            let from = slab_from (get_or core.slabs k d) (itself k d lt) in
            subst (KeepsSlabRules core) from.is (one_keeps small from.item from.there);
        order = λ i j d less lt.
            before (get_or core.slabs i d) (get_or core.slabs j d) (itself i d (omega arith)) (itself j d lt)
            (told.slabs.rising i j d less lt);
        apart = λ i j d less lt.
            apart (get_or core.slabs i d) (get_or core.slabs j d) (itself i d (omega arith)) (itself j d lt)
            (told.slabs.rising i j d less lt);
      }

  -- ---- how many there are

  pub slabs_few : length core.slabs ≤ arena_pages core.version
  slabs_few =
      let itself = All-contains_itself core.slabs in
      let many =
      few_by_pages (λ (item : SlabItem). item.base) core.slabs ARENA_BASE (arena_end core.version) (omega arith)
      (λ i j d less lt.
      let one = get_or core.slabs i d in
      let there = itself i d (omega arith) in
      let is = before one (get_or core.slabs j d) there (itself j d lt) (told.slabs.rising i j d less lt) in
      let some = (in_arena one there).some in
      omega (arith, is.ends, some))
      (λ k d lt. (in_arena (get_or core.slabs k d) (itself k d lt)).low)
      (λ k d lt.
      let lies = in_arena (get_or core.slabs k d) (itself k d lt) in
      omega (arith, lies.some, lies.high))
      in
      omega (arith, many)

-- ---- a core that tells a run

-- its slabs keep the rules
pub keeps_slabs : (ledger : Ledger) (places : Places) (core : Core) → CanBePictured ledger places
    → TellsPlaces ledger places core → ((address : ℕ) → (run_state ledger).bytes address < 256) → KeepSlabsRules core
keeps_slabs ledger places core can tells small =
    slabs_keep (run_setting ledger) (run_state ledger) places core (is_told ledger places core can tells) small

-- and they are no more than the pages of the arena
pub few_slabs : (ledger : Ledger) (places : Places) (core : Core) → CanBePictured ledger places
    → TellsPlaces ledger places core → length core.slabs ≤ arena_pages core.version
few_slabs ledger places core can tells =
    slabs_few (run_setting ledger) (run_state ledger) places core (is_told ledger places core can tells)
