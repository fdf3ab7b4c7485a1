-- A run of free pages meets no run that is taken.
use Rattle.std.proofs.Common.{◌≡◌, ℕ, ◌+◌, ◌-◌, ◌*◌, ◌/◌, ◌<◌, ◌≤◌, Bool, true, false, not, List, ◌++◌, get_or, map, refl, sym, ◌∙◌, arith, inl, inr}
use Rattle.std.specs.Prelude.{All, filter}
use Rattle.std.specs.List.{list_any}
use Rattle.std.proofs.lemmas.Bool.{and_from, cases_lt, false≢true, le-leb, lt-ltb, or_parts}
use Rattle.std.proofs.lemmas.List.Folds.{list_any-append}
use Rattle.umem_base.specs.declared.pages.TheConstants.{PAGE_BYTES}
use Rattle.umem_base.specs.declared.span.Span.{Span}
use Rattle.umem_base.specs.Pages.{IsFreeRun, IsPage}
use Rattle.plain_heap.specs.Setting.{Setting}
use Rattle.plain_heap.specs.State.{HeapSlab, IsFreePage, LiveBuffer, State, is_in_span, span_of_large, span_of_slab}
use Rattle.plain_heap.specs.Laws.{StandApart}
use Rattle.plain_heap.proofs.PairsLemmas.{All-from_passing, none_passes-map}
use Rattle.plain_heap.proofs.PlacesLemmas.{AreInPlace, IsInArena, is_large}

-- ---- one run and one span

in_span : (address : ℕ) (span : Span) → span.base ≤ address → address < span.base + PAGE_BYTES * span.pages → is_in_span address span ≡ true
in_span address span low high = and_from _ _ (le-leb span.base address low) (lt-ltb address (span.base + PAGE_BYTES * span.pages) high)

-- between two pages there are whole pages
whole_pages : (lower upper : ℕ) → IsPage lower → IsPage upper → lower ≤ upper → (k : ℕ) × (lower + PAGE_BYTES * k ≡ upper)
whole_pages lower upper low high le = ((upper - lower) / PAGE_BYTES, omega arith)

-- pages of which none is in a span stand apart from it
apart_from_untaken : (base pages : ℕ) (span : Span) → IsPage base → IsPage span.base → 1 ≤ pages → 1 ≤ span.pages
    → ((k : ℕ) → k < pages → is_in_span (base + PAGE_BYTES * k) span ≡ false) → StandApart (record { base = base; pages = pages }) span
apart_from_untaken base pages span page its some more untaken =
    elim (cases_lt span.base (base + PAGE_BYTES * pages)) [
      | inr past ↦ inl past
      | inl meets ↦ elim (cases_lt base (span.base + PAGE_BYTES * span.pages)) [
        | inr past ↦ inr past
        | inl over ↦ elim (cases_lt span.base base) [
          | inl below ↦ absurd (false≢true (sym (untaken 0 (omega arith)) ∙ in_span (base + PAGE_BYTES * 0) span (omega arith) (omega arith)))
          | inr from ↦
              let up = whole_pages base span.base page its from in
              let e : base + PAGE_BYTES * up.0 ≡ span.base = up.1 in
              absurd (false≢true (sym (untaken up.0 (omega (arith, e))) ∙ in_span (base + PAGE_BYTES * up.0) span (omega (arith, e)) (omega (arith, e))))
        ]
      ]
    ]

-- ---- one free page

untrue : (b : Bool) → not b ≡ true → b ≡ false
untrue true h = sym h
untrue false h = refl

-- a free page is in no slab and in no page of a large buffer
free_untaken : (setting : Setting) (state : State) (address : ℕ) → IsFreePage setting state address
    → (All (λ slab. is_in_span address (span_of_slab setting slab) ≡ false) state.slabs) × (All (λ b. is_large b ≡ true → is_in_span address (span_of_large b) ≡ false) state.live)
free_untaken setting state address free =
    let slabs = map (span_of_slab setting) state.slabs in
    let large = map span_of_large (filter is_large state.live) in
    let none = sym (list_any-append (is_in_span address) slabs large) ∙ untrue (list_any (is_in_span address) (slabs ++ large)) free.untaken in
    let parts = or_parts (list_any (is_in_span address) slabs) (list_any (is_in_span address) large) none in (
      none_passes-map (is_in_span address) (span_of_slab setting) state.slabs parts.0,
      All-from_passing (λ (b : LiveBuffer). is_in_span address (span_of_large b) ≡ false) is_large state.live (none_passes-map (is_in_span address) span_of_large (filter is_large state.live) parts.1),
    )

-- ---- a run of free pages

-- a run of pages that may be taken: it lies in the arena, apart from all slabs and from the pages of all large buffers
pub record IsNewRun (setting : Setting) (live : List LiveBuffer) (slabs : List HeapSlab) (run : Span) : Type 0 where
  pub within : IsInArena setting run
  pub slabs_apart : All (λ slab. StandApart run (span_of_slab setting slab)) slabs
  pub large_apart : All (λ b. is_large b ≡ true → StandApart run (span_of_large b)) live

pub new_run : (setting : Setting) (state : State) (base pages : ℕ) → AreInPlace setting state.live state.slabs → IsFreeRun (IsFreePage setting state) pages base → 1 ≤ pages
    → IsNewRun setting state.live state.slabs (record { base = base; pages = pages })
new_run setting state base pages places free some =
    let first = free 0 (omega arith) in
    let last = free (pages - 1) (omega arith) in
    let page : IsPage base = omega (arith, first.page) in
    record {
      within = record { page = page; some = some; low = omega (arith, first.from); high = omega (arith, last.to) };
      slabs_apart = λ k d lt.
          let its = places.slabs_in k d lt in
          apart_from_untaken base pages (span_of_slab setting (get_or state.slabs k d)) page its.page some its.some
          (λ j less. (free_untaken setting state (base + PAGE_BYTES * j) (free j less)).0 k d lt);
      large_apart = λ k d lt large.
          let its = places.large_in k d lt large in
          apart_from_untaken base pages (span_of_large (get_or state.live k d)) page its.page some its.some
          (λ j less. (free_untaken setting state (base + PAGE_BYTES * j) (free j less)).1 k d lt large);
    }
