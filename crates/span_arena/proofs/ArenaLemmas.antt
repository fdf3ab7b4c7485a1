-- What a sound arena says of its spans, and what a span put in its place or taken away leaves of it.
use Rattle.std.proofs.Common.{◌≡◌, ◌≢◌, ℕ, ◌+◌, ◌<◌, ◌≤◌, List, length, get_or, refl, sym, ◌∙◌, arith, inl, inr}
use Rattle.std.specs.Prelude.{All, AllPairs, insert, remove, Result, Ok, Err, MatchOption}
use Rattle.std.specs.List.{HoldsAt}
use Rattle.std.specs.List.Sorted.{IsBinarySearchResult, IsSearchInRange, IsSortedBy}
use Rattle.std.specs.Ordering.{nat_cmp, is_lt}
use Rattle.std.specs.declared.cmp.Ordering.TheVariants.{Less, Equal, Greater}
use Rattle.std.specs.Result.{result_ok}
use Rattle.std.proofs.lemmas.Cmp.{nat_cmp_total}
use Rattle.std.proofs.lemmas.List.Sorted.{searchable_from_sorted}
use Rattle.std.proofs.lemmas.Bool.{cases_lt, cases_order, lt-ltb, le-ltb, eq-eqb, ne_eqb}
use Rattle.std.proofs.lemmas.List.{get_or_default}
use Rattle.std.proofs.lemmas.List.Quantifiers.{all_pairs_remove}
use Rattle.umem_base.specs.declared.span.Span.{Span}
use Rattle.umem_base.specs.Ordered.{IsOrderedBy, Gains, Loses, put_by, left_out_by}
use Rattle.umem_base.specs.Span.{EndsBelow, IsSpanWithin, span_end}
use Rattle.umem_base.proofs.OrderedLemmas.{AllPairs-insert_split, All-insert, All-remove, Gains-put_by, Loses-left_out_by, SplitsBy-weaker, insert-put_by, remove-left_out_by_own}
use Rattle.span_arena.specs.Arena.{Arena, IsSound, pages_end}
use Rattle.span_arena.specs.Gap.{IsGap, arena_of}

-- the bases of two spans differ
pub AllPairs-bases : (a : Arena) → IsSound a → AllPairs (λ (s t : Span). s.base ≢ t.base) a.spans
AllPairs-bases a sound i j d less lt e = omega (arith, sound.apart i j d less lt, (sound.inside i d (omega arith)).some, e)

pub IsOrderedBy-bases : (a : Arena) → IsSound a → IsOrderedBy (λ (s : Span). s.base) a.spans
IsOrderedBy-bases a sound i j d less lt = omega (arith, sound.apart i j d less lt)

-- the bases rise, also from a span to itself
pub base_le : (a : Arena) (i k : ℕ) (d e : Span) → IsSound a → i ≤ k → k < length a.spans → (get_or a.spans i d).base ≤ (get_or a.spans k e).base
base_le a i k d e sound le lt =
    elim (cases_lt i k) [
      | inl less ↦
          let first : (get_or a.spans i d).base ≤ (get_or a.spans i e).base = rw (get_or_default a.spans i d e (omega arith)) (omega arith) in
          let second : span_end (get_or a.spans i e) ≤ (get_or a.spans k e).base = sound.apart i k e less lt in
          omega arith
      | inr more ↦ let same : k ≡ i = omega arith in rw (same, get_or_default a.spans i d e (omega arith)) (omega arith)
    ]

-- ---- what a call leaves

-- an arena with a span more
pub record IsTaken (a : Arena) (new : List Span) (span : Span) : Type 0 where
  pub spans : new ≡ put_by (λ s. s.base) a.spans span
  pub gains : Gains a.spans new span
  pub sound : IsSound (arena_of a.base a.pages new)

pub IsTaken-insert : (a : Arena) (run : Span) (index : ℕ) (new : List Span) → IsSound a → IsGap a run index → new ≡ insert a.spans index run → IsTaken a new run
IsTaken-insert a run index new sound gap is =
    let key : Span → ℕ = λ s. s.base in
    let some = gap.inside.some in
    let place = SplitsBy-weaker (λ s. EndsBelow s run) (λ s. key s ≤ key run) (λ s. EndsBelow run s) (λ s. key run < key s) a.spans index (λ s h. omega arith) (λ s h. omega arith) gap.place in
    let same : new ≡ put_by key a.spans run = is ∙ insert-put_by key a.spans index run place in
    record {
      spans = same;
      gains = rw same (Gains-put_by key a.spans run);
      sound = record {
        page = sound.page;
        to = sound.to;
        inside = rw is (All-insert (IsSpanWithin a.base (pages_end a)) a.spans index run gap.inside sound.inside);
        apart = rw is (AllPairs-insert_split EndsBelow (λ s. EndsBelow s run) (λ s. EndsBelow run s) a.spans index run gap.place sound.apart (λ s h. h) (λ s h. h));
      };
    }

-- an arena with a span less
pub record IsGivenBack (a : Arena) (new : List Span) (span : Span) : Type 0 where
  pub spans : new ≡ left_out_by (λ s. s.base) a.spans span.base
  pub loses : Loses (λ s. s.base) a.spans new span
  pub sound : IsSound (arena_of a.base a.pages new)

pub IsGivenBack-remove : (a : Arena) (i : ℕ) (span : Span) (new : List Span) → IsSound a → i < length a.spans → span ≡ get_or a.spans i span → new ≡ remove a.spans i → IsGivenBack a new span
IsGivenBack-remove a i span new sound lt at is =
    let key : Span → ℕ = λ s. s.base in
    let apart = AllPairs-bases a sound in
    let same : new ≡ left_out_by key a.spans span.base = is ∙ remove-left_out_by_own key a.spans i span apart lt at in
    record {
      spans = same;
      loses = rw same (Loses-left_out_by key a.spans i span apart lt at);
      sound = record {
        page = sound.page;
        to = sound.to;
        inside = rw is (All-remove (IsSpanWithin a.base (pages_end a)) a.spans i sound.inside);
        apart = rw is (all_pairs_remove EndsBelow a.spans i lt sound.apart);
      };
    }

-- ---- the search for a base

cmp_less : (x y : ℕ) → x < y → nat_cmp x y ≡ Less
cmp_less x y lt = rw (lt-ltb x y lt) refl

cmp_equal : (x y : ℕ) → x ≡ y → nat_cmp x y ≡ Equal
cmp_equal x y e = rw (le-ltb x y (omega arith), eq-eqb x y e) refl

cmp_greater : (x y : ℕ) → y < x → nat_cmp x y ≡ Greater
cmp_greater x y lt = rw (le-ltb x y (omega arith), ne_eqb x y (omega arith)) refl

-- two numbers that compare as equal
same_from_cmp : (x y : ℕ) → nat_cmp x y ≡ Equal → x ≡ y
same_from_cmp x y e =
    elim (cases_order x y) [
      | inl same ↦ same
      | inr (inl less) ↦ let other = cmp_less x y less in absurd (cc (sym other ∙ e))
      | inr (inr more) ↦ let other = cmp_greater x y more in absurd (cc (sym other ∙ e))
    ]

IsSortedBy-bases : (spans : List Span) → IsOrderedBy (λ (s : Span). s.base) spans → IsSortedBy (λ (s t : Span). is_lt (nat_cmp s.base t.base)) spans
IsSortedBy-bases spans ordered k d low high =
    let le = ordered k (k + 1) d (omega arith) (omega arith) in
    elim (cases_order (get_or spans (k + 1) d).base (get_or spans k d).base) [
      | inl same ↦ rw (cmp_equal _ _ same) refl
      | inr (inl less) ↦ absurd (omega arith)
      | inr (inr more) ↦ rw (cmp_greater _ _ more) refl
    ]

-- what is found where the bases rise
pub found_by_base : (spans : List Span) (base : ℕ) (r : Result ℕ ℕ) → IsOrderedBy (λ (s : Span). s.base) spans → IsSearchInRange r (length spans) → IsBinarySearchResult (λ (s : Span). nat_cmp s.base base) spans r → MatchOption (result_ok r) (All (λ s. s.base ≢ base) spans) (λ i. (i < length spans) × HoldsAt (λ s. s.base ≡ base) spans i)
found_by_base spans base (Ok i) ordered within h = (within, λ d. same_from_cmp _ _ (h d))
found_by_base spans base (Err i) ordered within h =
    λ k d lt e.
    let point = h (searchable_from_sorted nat_cmp_total (λ (s : Span). s.base) spans base (IsSortedBy-bases spans ordered)) in
    let equal = cmp_equal (get_or spans k d).base base e in
    elim (cases_lt k i) [
      | inl low ↦ let other = point.0 k d (omega arith) low in cc (sym other ∙ equal)
      | inr high ↦ let other = point.1 k d high lt in cc (sym other ∙ equal)
    ]
