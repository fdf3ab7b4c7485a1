-- The search for the lowest gap: what holds before each span, and what the end of it gives.
use Rattle.std.proofs.Common.{◌≡◌, ℕ, ◌+◌, ◌-◌, ◌*◌, ◌/◌, ◌<◌, ◌≤◌, length, get_or, arith, inl, inr}
use Rattle.std.proofs.lemmas.Bool.{cases_lt}
use Rattle.std.proofs.lemmas.List.{get_or_default}
use Rattle.umem_base.specs.declared.pages.TheConstants.{PAGE_BYTES}
use Rattle.umem_base.specs.declared.span.Span.{Span}
use Rattle.umem_base.specs.Ordered.{SplitsBy}
use Rattle.umem_base.specs.Pages.{IsPage, IsFreeRun, HasNoRun}
use Rattle.umem_base.specs.Span.{span_end}
use Rattle.span_arena.specs.Arena.{Arena, IsFreeIn, IsSound, pages_end}
use Rattle.span_arena.specs.Gap.{IsGap}

-- the spans below index end at `from` or below, the others begin there or above, and no free run begins below
pub record Searched (a : Arena) (pages index from : ℕ) : Type 0 where
  pub page : IsPage from
  pub low : a.base ≤ from
  pub high : from ≤ pages_end a
  pub place : SplitsBy (λ s. span_end s ≤ from) (λ s. from ≤ s.base) a.spans index
  pub none : (lower : ℕ) → lower < from → IsFreeRun (IsFreeIn a) pages lower → ⊥

pub Searched-start : (a : Arena) (pages : ℕ) → IsSound a → 0 < pages → Searched a pages 0 a.base
Searched-start a pages sound some = record {
  page = sound.page;
  low = omega arith;
  high = omega arith;
  place = record {
    within = omega arith;
    before = λ k d lt. absurd (omega arith);
    behind = λ k d le lt. (sound.inside k d lt).low;
  };
  none = λ lower lt run. let first = (run 0 some).from in absurd (omega arith);
}

-- the pages between two page addresses
pages_between : (low high : ℕ) → IsPage low → IsPage high → low ≤ high → low + PAGE_BYTES * ((high - low) / PAGE_BYTES) ≡ high
pages_between low high p q le = omega arith

-- a span that stands in the way of every run that begins between `from` and its end
no_run_over : (a : Arena) (pages index from lower : ℕ) (d : Span) → IsSound a → 0 < pages → index < length a.spans → IsPage from → (get_or a.spans index d).base < from + PAGE_BYTES * pages → from ≤ lower → lower < span_end (get_or a.spans index d) → IsFreeRun (IsFreeIn a) pages lower → ⊥
no_run_over a pages index from lower d sound some lt page full ge below run =
    let s = get_or a.spans index d in
    let is = sound.inside index d lt in
    let first = run 0 some in
    elim (cases_lt lower s.base) [
      | inl under ↦
          let lower_page : IsPage lower = omega (arith, first.page) in
          let k : ℕ = (s.base - lower) / PAGE_BYTES in
          let meets : lower + PAGE_BYTES * k ≡ s.base = pages_between lower s.base lower_page is.page (omega arith) in
          let within : k < pages = omega arith in
          (run k within).untaken index d lt (omega arith, omega (arith, is.some))
      | inr over ↦ first.untaken index d lt (omega arith, omega arith)
    ]

pub Searched-step : (a : Arena) (pages index from : ℕ) (d : Span) → IsSound a → 0 < pages → index < length a.spans → (get_or a.spans index d).base < from + PAGE_BYTES * pages → Searched a pages index from → Searched a pages (index + 1) (span_end (get_or a.spans index d))
Searched-step a pages index from d sound some lt full h =
    let s = get_or a.spans index d in
    let is = sound.inside index d lt in
    let here = h.place.behind index d (omega arith) lt in
    record {
      page = omega (arith, is.page);
      low = omega (arith, is.low);
      high = is.high;
      place = record {
        within = omega arith;
        before = λ k e below. elim (cases_lt k index) [
          | inl less ↦ omega (arith, h.place.before k e less)
          | inr more ↦ let same : k ≡ index = omega arith in rw (same, get_or_default a.spans index e d lt) (omega arith)
        ];
        behind = λ k e le below. rw (get_or_default a.spans index d e lt) (sound.apart index k e (omega arith) below);
      };
      none = λ lower below run. elim (cases_lt lower from) [
        | inl under ↦ h.none lower under run
        | inr over ↦ no_run_over a pages index from lower d sound some lt h.page full over below run
      ];
    }

pub IsGap-from_searched : (a : Arena) (pages index from limit : ℕ) → IsSound a → 0 < pages → from + PAGE_BYTES * pages ≤ limit → limit ≤ pages_end a → ((k : ℕ) (d : Span) → index ≤ k → k < length a.spans → limit ≤ (get_or a.spans k d).base) → Searched a pages index from → IsGap a (record { base = from; pages = pages }) index
IsGap-from_searched a pages index from limit sound some fits inside above h = record {
  lowest = record {
    free = λ j lt. record {
      page = omega (arith, h.page);
      from = omega (arith, h.low);
      to = omega arith;
      untaken = λ k d below lies. elim (cases_lt k index) [
        | inl less ↦ let e = h.place.before k d less in omega (arith, lies.0, lies.1)
        | inr more ↦ let e = above k d more below in omega (arith, lies.0, lies.1)
      ];
    };
    lowest = h.none;
  };
  inside = record { page = h.page; some = omega arith; low = h.low; high = omega arith };
  place = record {
    within = h.place.within;
    before = h.place.before;
    behind = λ k d le lt. omega (arith, above k d le lt);
  };
}

pub HasNoRun-from_searched : (a : Arena) (pages index from : ℕ) → IsSound a → 0 < pages → pages_end a < from + PAGE_BYTES * pages → Searched a pages index from → HasNoRun (IsFreeIn a) pages
HasNoRun-from_searched a pages index from sound some full h lower run =
    elim (cases_lt lower from) [
      | inl under ↦ h.none lower under run
      | inr over ↦ let last = (run (pages - 1) (omega arith)).to in omega arith
    ]
