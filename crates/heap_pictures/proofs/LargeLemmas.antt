-- The large buffers of a core that tells a run keep the rules.
use Rattle.std.proofs.Common.{◌≡◌, ℕ, ◌+◌, ◌*◌, ◌<◌, ◌≤◌, true, length, get_or, sym, ap, subst, ◌∙◌, arith, inl, inr}
use Rattle.std.specs.Prelude.{All, Contains, filter}
use Rattle.std.proofs.lemmas.Bool.{le-leb}
use Rattle.std.proofs.lemmas.List.Elements.{All-contains, All-contains_itself}
use Rattle.umem_base.specs.declared.arena.TheConstants.{ARENA_BASE}
use Rattle.umem_base.specs.declared.pages.TheConstants.{PAGE_BYTES}
use Rattle.umem_base.specs.Pages.{pages_for}
use Rattle.umem_base.specs.Roots.{arena_end, arena_pages}
use Rattle.umem_base.specs.Span.{IsSpanWithin, span_end}
use Rattle.core_format.specs.declared.items.LargeItem.{LargeItem}
use Rattle.core_format.specs.declared.items.SlabItem.{SlabItem}
use Rattle.core_format.specs.declared.whole.Core.{Core}
use Rattle.core_format.specs.Chunks.{core_shapes}
use Rattle.core_format.specs.Slabs.{ends_in_arena, is_arena_page, large_end}
use Rattle.core_rules.specs.SlabRules.{IsLargeBefore, KeepLargeRules, KeepsLargeRules, ShareNoPage}
use Rattle.plain_heap.specs.Laws.{StandApart}
use Rattle.plain_heap.specs.Setting.{Setting}
use Rattle.plain_heap.specs.State.{HeapSlab, LiveBuffer, State, span_of_large, span_of_slab}
use Rattle.plain_heap.proofs.PairsLemmas.{pair_of}
use Rattle.plain_heap.proofs.PlacesLemmas.{IsInArena, is_large}
use Rattle.heap_ledger.specs.Ledger.{Ledger, run_setting, run_state}
use Rattle.heap_accounts.specs.Places.{Places}
use Rattle.heap_accounts.proofs.SlabLemmas.{Contains-from_filtered, Contains-from_mapped}
use Rattle.heap_pictures.specs.Items.{large_item}
use Rattle.heap_pictures.specs.Laws.{CanBePictured}
use Rattle.heap_pictures.specs.Pictures.{TellsPlaces}
use Rattle.heap_pictures.proofs.SizeLemmas.{IsOversize, all_oversize}
use Rattle.heap_pictures.proofs.SlabLemmas.{is_page, item_told}
use Rattle.heap_pictures.proofs.ToldLemmas.{IsTold, bytes_are_small, bytes_counted, few_by_pages, is_told}

module _ (setting : Setting) (state : State) (stocks : Places) (core : Core)
    (told : IsTold setting state stocks core) where
  -- ---- an item and its buffer

  -- a live large buffer, in its run of pages
  pub record IsBuffer (buffer : LiveBuffer) : Type 0 where
    pub lives : Contains state.live buffer
    pub large : is_large buffer ≡ true
    pub span : IsSpanWithin ARENA_BASE (arena_end setting.header.version) (span_of_large buffer)

  -- the buffer for which an item stands
  pub buffer_from : (item : LargeItem) → Contains core.large item
      → (buffer : LiveBuffer) × IsBuffer buffer × (large_item state buffer ≡ item)
  buffer_from item there =
      let from =
      Contains-from_mapped (λ (b : LiveBuffer). large_item state b) (filter is_large state.live) item
      ((told.large.exactly item).0 there)
      in
      let kept = Contains-from_filtered is_large state.live from.item from.there in
      let span =
      All-contains (λ (b : LiveBuffer). is_large b ≡ true → IsInArena setting (span_of_large b)) state.live
      from.item told.good.places.large_in kept.0 kept.1
      in
      (from.item, record { lives = kept.0; large = kept.1; span = span }, from.is)

  one_keeps : All IsOversize state.live → ((address : ℕ) → state.bytes address < 256) → (buffer : LiveBuffer)
      → IsBuffer buffer → KeepsLargeRules core (large_item state buffer)
  one_keeps oversize small buffer is =
      let at = buffer.address in
      let pages = pages_for buffer.held.size in
      let high = is.span.high in
      let some = is.span.some in
      let inside : at < arena_end setting.header.version = omega (arith, high, some) in
      record {
        base =
            ap (λ version. is_arena_page version at) told.version
            ∙ is_page setting.header.version at is.span.page is.span.low inside;
        large = All-contains IsOversize state.live buffer oversize is.lives is.large;
        ends =
            ap (λ version. ends_in_arena version at pages) told.version
            ∙ le-leb (at + PAGE_BYTES * pages) (arena_end setting.header.version) high;
        filled = bytes_counted state.bytes at (PAGE_BYTES * pages);
        bytes = bytes_are_small state.bytes at (PAGE_BYTES * pages) small;
      }

  -- ---- two items

  -- large buffers apart, of which one begins below the other, end so
  ends_below : (a b : LiveBuffer) → IsBuffer a → IsBuffer b → a.address < b.address
      → span_end (span_of_large a) ≤ b.address
  ends_below a b one other rises =
      elim (pair_of
      (λ (x y : LiveBuffer). is_large x ≡ true → is_large y ≡ true → StandApart (span_of_large x) (span_of_large y))
      state.live a b told.good.places.large_apart one.lives other.lives) [
        | inl same ↦ let addresses = ap (λ (x : LiveBuffer). x.address) same in absurd (omega (arith, rises, addresses))
        | inr (inl h) ↦ lower (h one.large other.large)
        | inr (inr h) ↦ upper (h other.large one.large)
      ]
    where
      lower : StandApart (span_of_large a) (span_of_large b) → span_end (span_of_large a) ≤ b.address
      lower (inl below) = below
      lower (inr above) = absurd (omega (arith, above, rises))

      upper : StandApart (span_of_large b) (span_of_large a) → span_end (span_of_large a) ≤ b.address
      upper (inl above) = absurd (omega (arith, above, rises))
      upper (inr below) = below

  before : (one other : LargeItem) → Contains core.large one → Contains core.large other → one.base < other.base
      → IsLargeBefore one other
  before one other here there rises =
      let a = buffer_from one here in
      let b = buffer_from other there in
      let base = ap (λ (x : LargeItem). x.base) a.2 in
      let end = ap large_end a.2 in
      let next = ap (λ (x : LargeItem). x.base) b.2 in
      let below = ends_below a.0 b.0 a.1 b.1 (omega (arith, rises, base, next)) in
      record { rises = rises; ends = omega (arith, below, end, next) }

  -- no slab has a page of the buffer
  abbrev IsClear : LiveBuffer → Type 0
  IsClear buffer = All (λ h. StandApart (span_of_slab setting h) (span_of_large buffer)) state.slabs

  -- a slab and a large buffer have no page in common
  share_no_page : (item : LargeItem) (slab : SlabItem) → Contains core.large item → Contains core.slabs slab
      → ShareNoPage (core_shapes core) slab item
  share_no_page item slab here there =
      let a = buffer_from item here in
      let s = item_told setting state stocks core told slab there in
      let base = ap (λ (x : LargeItem). x.base) a.2 in
      let end = ap large_end a.2 in
      let across =
      All-contains (λ (b : LiveBuffer). is_large b ≡ true → IsClear b) state.live a.0 told.good.places.across a.1.lives
      a.1.large
      in
      elim (All-contains (λ (h : HeapSlab). StandApart (span_of_slab setting h) (span_of_large a.0)) state.slabs s.0
      across s.1.stands) [
        | inl below ↦ let past = s.1.end in inl (omega (arith, below, past, base))
        | inr above ↦ let low = s.1.base in inr (omega (arith, above, end, low))
      ]

  pub large_keep : All IsOversize state.live → ((address : ℕ) → state.bytes address < 256) → KeepLargeRules core
  large_keep oversize small =
      let itself = All-contains_itself core.large in
      record {
        each = λ k d lt.
            let from = buffer_from (get_or core.large k d) (itself k d lt) in
            subst (KeepsLargeRules core) from.2 (one_keeps oversize small from.0 from.1);
        order = λ i j d less lt.
            before (get_or core.large i d) (get_or core.large j d) (itself i d (omega arith)) (itself j d lt)
            (told.large.rising i j d less lt);
        apart = λ k d lt j e less.
            share_no_page (get_or core.large k d) (get_or core.slabs j e) (itself k d lt)
            (All-contains_itself core.slabs j e less);
      }

  -- ---- how many there are

  -- a large buffer lies in the arena, and has a page or more
  pub record LiesInArena (item : LargeItem) : Type 0 where
    pub low : ARENA_BASE ≤ item.base
    pub some : item.base + PAGE_BYTES ≤ large_end item
    pub high : large_end item ≤ arena_end core.version

  in_arena : (item : LargeItem) → Contains core.large item → LiesInArena item
  in_arena item there =
      let from = buffer_from item there in
      let span = from.1.span in
      let low = span.low in
      let some = span.some in
      let high : span_end (span_of_large from.0) ≤ arena_end core.version =
      subst (λ version. span_end (span_of_large from.0) ≤ arena_end version) (sym told.version) span.high
      in
      let base = ap (λ (x : LargeItem). x.base) from.2 in
      let end = ap large_end from.2 in
      record { low = omega (arith, low, base); some = omega (arith, some, base, end); high = omega (arith, high, end) }

  pub large_few : length core.large ≤ arena_pages core.version
  large_few =
      let itself = All-contains_itself core.large in
      let many =
      few_by_pages (λ (item : LargeItem). item.base) core.large ARENA_BASE (arena_end core.version) (omega arith)
      (λ i j d less lt.
      let one = get_or core.large i d in
      let there = itself i d (omega arith) in
      let is = before one (get_or core.large j d) there (itself j d lt) (told.large.rising i j d less lt) in
      let some = (in_arena one there).some in
      omega (arith, is.ends, some))
      (λ k d lt. (in_arena (get_or core.large k d) (itself k d lt)).low)
      (λ k d lt.
      let lies = in_arena (get_or core.large k d) (itself k d lt) in
      omega (arith, lies.some, lies.high))
      in
      omega (arith, many)

-- ---- a core that tells a run

-- its large buffers keep the rules
pub keeps_large : (ledger : Ledger) (places : Places) (core : Core) → CanBePictured ledger places
    → TellsPlaces ledger places core → ((address : ℕ) → (run_state ledger).bytes address < 256) → KeepLargeRules core
keeps_large ledger places core can tells small =
    large_keep (run_setting ledger) (run_state ledger) places core (is_told ledger places core can tells)
    (all_oversize (run_setting ledger) ledger.entries can.legal.legal) small

-- and they are no more than the pages of the arena
pub few_large : (ledger : Ledger) (places : Places) (core : Core) → CanBePictured ledger places
    → TellsPlaces ledger places core → length core.large ≤ arena_pages core.version
few_large ledger places core can tells =
    large_few (run_setting ledger) (run_state ledger) places core (is_told ledger places core can tells)
