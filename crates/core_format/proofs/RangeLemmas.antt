-- Look-ups in ranges that are apart and in order.
use Rattle.std.proofs.Common.{◌≡◌, ℕ, zero, suc, ◌+◌, ◌-◌, ◌<◌, ◌≤◌, Bool, true, false, ltb, leb, List, [], ◌∷◌, ◌++◌, length, get_or, drop, Option, Some, refl, sym, ap, subst, ◌∙◌, arith, inl, inr}
use Rattle.std.specs.List.{list_any}
use Rattle.std.specs.Bool.{then_some}
use Rattle.std.specs.Prelude.{IfSome, insert, is_none, is_some, not, slice_get, unwrap_or}
use Rattle.std.specs.Option.{option_map}
use Rattle.std.proofs.lemmas.Bool.{cases_lt, le-leb, le-ltb, leb-true, lt-ltb}
use Rattle.std.proofs.lemmas.Bool.Decides.{nat_tests}
use Rattle.std.proofs.lemmas.List.Edits.{get_or-insert_above, get_or-insert_at, get_or-insert_below, length-insert}
use Rattle.std.proofs.lemmas.List.Folds.{list_any_at}
use Rattle.std.proofs.lemmas.List.{get_or_default, take_all}
use Rattle.core_format.specs.declared.range.Range.{Range}
use Rattle.core_format.specs.Items.{last_of_list}
use Rattle.core_format.specs.Ranges.{AreRanges, FitsBefore, is_in_range, meets_range}

-- no item passes a test
pub list_any-none : {X : Type 0} (p : X → Bool) (xs : List X) → ((k : ℕ) (d : X) → k < length xs → p (get_or xs k d) ≡ false) → list_any p xs ≡ false
list_any-none p [] h = refl
list_any-none p (x ∷ xs) h = rw (h 0 x (omega arith), list_any-none p xs (λ k d lt. h (suc k) d (omega arith))) refl

in_range-past : (number : ℕ) (r : Range) → r.past ≤ number → is_in_range number r ≡ false
in_range-past number r le = grind (arith, nat_tests)

in_range-low : (number : ℕ) (r : Range) → number < r.low → is_in_range number r ≡ false
in_range-low number r lt = grind (arith, nat_tests)

in_range-is : (number : ℕ) (r : Range) → r.low ≤ number → number < r.past → is_in_range number r ≡ true
in_range-is number r low past = grind (arith, nat_tests)

meets-past : (low past : ℕ) (r : Range) → r.past ≤ low → meets_range low past r ≡ false
meets-past low past r le = grind (arith, nat_tests)

meets-low : (low past : ℕ) (r : Range) → past ≤ r.low → meets_range low past r ≡ false
meets-low low past r le = grind (arith, nat_tests)

meets-is : (low past : ℕ) (r : Range) → r.low < past → low < r.past → meets_range low past r ≡ true
meets-is low past r a b = grind (arith, nat_tests)

-- where the ranges before an index end at a number or below, and those from it on end above
pub record IsCount (ranges : List Range) (number index : ℕ) : Type 0 where
  pub below : (k : ℕ) (d : Range) → k < index → (get_or ranges k d).past ≤ number
  pub above : (k : ℕ) (d : Range) → index ≤ k → k < length ranges → number < (get_or ranges k d).past

-- ranges from an index on begin where that one begins, or above
low_above : (ranges : List Range) (i k : ℕ) (d : Range) → AreRanges ranges → i ≤ k → k < length ranges → (get_or ranges i d).low ≤ (get_or ranges k d).low
low_above ranges i k d apart le lt =
    elim (cases_lt i k) [
      | inl less ↦ omega (arith, apart.whole i d (omega arith), apart.apart i k d less lt)
      | inr more ↦ let same : i ≡ k = omega arith in rw same (omega arith)
    ]

pub none_in_all : (ranges : List Range) (number index : ℕ) → IsCount ranges number index → length ranges ≤ index → list_any (is_in_range number) ranges ≡ false
none_in_all ranges number index count le = list_any-none (is_in_range number) ranges (λ k d lt. in_range-past number (get_or ranges k d) (count.below k d (omega arith)))

pub in_range_at : (ranges : List Range) (number index : ℕ) (here : Range) → AreRanges ranges → IsCount ranges number index → index < length ranges → here ≡ get_or ranges index here
    → list_any (is_in_range number) ranges ≡ leb here.low number
in_range_at ranges number index here apart count lt e =
    elim (cases_lt number here.low) [
      | inl less ↦
          let none : list_any (is_in_range number) ranges ≡ false = list_any-none (is_in_range number) ranges
          (λ k d within. elim (cases_lt k index) [
            | inl before ↦ in_range-past number (get_or ranges k d) (count.below k d before)
            | inr behind ↦ in_range-low number (get_or ranges k d) (omega (arith, low_above ranges index k here apart behind within, ap (λ (r : Range). r.low) e, ap (λ (r : Range). r.low) (get_or_default ranges k d here within)))
          ]) in
          let no : leb here.low number ≡ false = grind (arith, nat_tests) in
          none ∙ sym no
      | inr more ↦
          let past : number < here.past = rw e (count.above index here (omega arith) lt) in
          let found : list_any (is_in_range number) ranges ≡ true = list_any_at (is_in_range number) ranges index here lt (rw (← e) (in_range-is number here more past)) in
          found ∙ sym (le-leb here.low number more)
    ]

-- ranges end one behind the other
pub past_rises : (ranges : List Range) (i j : ℕ) (d : Range) → AreRanges ranges → i ≤ j → j < length ranges → (get_or ranges i d).past ≤ (get_or ranges j d).past
past_rises ranges i j d apart le lt =
    elim (cases_lt i j) [
      | inl less ↦ omega (arith, apart.apart i j d less lt, apart.whole j d lt)
      | inr more ↦ let same : i ≡ j = omega arith in rw same (omega arith)
    ]

pub none_meet_all : (ranges : List Range) (low past index : ℕ) → IsCount ranges low index → length ranges ≤ index → list_any (meets_range low past) ranges ≡ false
none_meet_all ranges low past index count le = list_any-none (meets_range low past) ranges (λ k d lt. meets-past low past (get_or ranges k d) (count.below k d (omega arith)))

-- the range behind the count meets the numbers, or none does
pub meets_at : (ranges : List Range) (low past index : ℕ) (here : Range) → AreRanges ranges → IsCount ranges low index → index < length ranges → here ≡ get_or ranges index here
    → list_any (meets_range low past) ranges ≡ ltb here.low past
meets_at ranges low past index here apart count lt e =
    elim (cases_lt here.low past) [
      | inl less ↦
          let above : low < here.past = rw e (count.above index here (omega arith) lt) in
          let found : list_any (meets_range low past) ranges ≡ true = list_any_at (meets_range low past) ranges index here lt (rw (← e) (meets-is low past here less above)) in
          found ∙ sym (lt-ltb here.low past less)
      | inr more ↦
          let none : list_any (meets_range low past) ranges ≡ false = list_any-none (meets_range low past) ranges
          (λ k d within. elim (cases_lt k index) [
            | inl before ↦ meets-past low past (get_or ranges k d) (count.below k d before)
            | inr behind ↦ meets-low low past (get_or ranges k d) (omega (arith, low_above ranges index k here apart behind within, ap (λ (r : Range). r.low) e, ap (λ (r : Range). r.low) (get_or_default ranges k d here within)))
          ]) in
          let no : ltb here.low past ≡ false = le-ltb here.low past more in
          none ∙ sym no
    ]

-- numbers that none meets go before the ranges behind the count
pub fits_at : (ranges : List Range) (low past index : ℕ) (here : Range) → AreRanges ranges → IsCount ranges low index → index < length ranges → here ≡ get_or ranges index here → past ≤ here.low
    → FitsBefore ranges low past index
fits_at ranges low past index here apart count lt e le = record {
  within = omega arith;
  before = count.below;
  behind = λ k d behind within. omega (arith, low_above ranges index k here apart behind within, ap (λ (r : Range). r.low) e, ap (λ (r : Range). r.low) (get_or_default ranges k d here within));
}

pub fits_last : (ranges : List Range) (low past index : ℕ) → IsCount ranges low index → index ≤ length ranges → length ranges ≤ index → FitsBefore ranges low past index
fits_last ranges low past index count within le = record {
  within = within;
  before = count.below;
  behind = λ k d behind lt. absurd (omega arith);
}

-- ---- one range more

-- what stands at an index of the longer list
data IsPut (ranges : List Range) (index : ℕ) (range : Range) (k : ℕ) (d x : Range) : Type 0 where
  put_below : k < index → x ≡ get_or ranges k d → IsPut ranges index range k d x
  put_here : k ≡ index → x ≡ range → IsPut ranges index range k d x
  put_above : (j : ℕ) → k ≡ j + 1 → index ≤ j → x ≡ get_or ranges j d → IsPut ranges index range k d x

put_at : (ranges : List Range) (index : ℕ) (range : Range) (k : ℕ) (d : Range) → index ≤ length ranges → IsPut ranges index range k d (get_or (insert ranges index range) k d)
put_at ranges index range k d within =
    elim (cases_lt k index) [
      | inl below ↦ put_below below (get_or-insert_below ranges index range d k below within)
      | inr le ↦ elim (cases_lt index k) [
        | inl above ↦
            let e : k ≡ (k - 1) + 1 = omega arith in
            put_above (k - 1) e (omega arith) (ap (λ (n : ℕ). get_or (insert ranges index range) n d) e ∙ get_or-insert_above ranges index range d (k - 1) (omega arith) within)
        | inr same ↦
            let e : k ≡ index = omega arith in
            put_here e (ap (λ (n : ℕ). get_or (insert ranges index range) n d) e ∙ get_or-insert_at ranges index range d within)
      ]
    ]

whole_at : (ranges : List Range) (index : ℕ) (range : Range) (k : ℕ) (d x : Range) → AreRanges ranges → range.low ≤ range.past → k < length ranges + 1 → index ≤ length ranges → IsPut ranges index range k d x → x.low ≤ x.past
whole_at ranges index range k d x apart whole lt within (put_below below e) = rw e (apart.whole k d (omega arith))
whole_at ranges index range k d x apart whole lt within (put_here same e) = rw e whole
whole_at ranges index range k d x apart whole lt within (put_above j same le e) = rw e (apart.whole j d (omega arith))

apart_at : (ranges : List Range) (index : ℕ) (range : Range) (i j : ℕ) (d x y : Range) → AreRanges ranges → FitsBefore ranges range.low range.past index → i < j → j < length ranges + 1
    → IsPut ranges index range i d x → IsPut ranges index range j d y → x.past ≤ y.low
apart_at ranges index range i j d x y apart fits lt within (put_below a e) (put_below b f) = rw (e, f) (apart.apart i j d lt (omega (arith, fits.within)))
apart_at ranges index range i j d x y apart fits lt within (put_below a e) (put_here b f) = rw (e, f) (fits.before i d a)
apart_at ranges index range i j d x y apart fits lt within (put_below a e) (put_above m b le f) = rw (e, f) (apart.apart i m d (omega arith) (omega arith))
apart_at ranges index range i j d x y apart fits lt within (put_here a e) (put_below b f) = absurd (omega arith)
apart_at ranges index range i j d x y apart fits lt within (put_here a e) (put_here b f) = absurd (omega arith)
apart_at ranges index range i j d x y apart fits lt within (put_here a e) (put_above m b le f) = rw (e, f) (fits.behind m d le (omega arith))
apart_at ranges index range i j d x y apart fits lt within (put_above l a la e) (put_below b f) = absurd (omega arith)
apart_at ranges index range i j d x y apart fits lt within (put_above l a la e) (put_here b f) = absurd (omega arith)
apart_at ranges index range i j d x y apart fits lt within (put_above l a la e) (put_above m b le f) = rw (e, f) (apart.apart l m d (omega arith) (omega arith))

pub AreRanges-insert : (ranges : List Range) (index : ℕ) (range : Range) → AreRanges ranges → range.low ≤ range.past → FitsBefore ranges range.low range.past index → AreRanges (insert ranges index range)
AreRanges-insert ranges index range apart whole fits =
    let long = length-insert ranges index range fits.within in
    record {
      whole = λ k d lt. whole_at ranges index range k d (get_or (insert ranges index range) k d) apart whole (omega arith) fits.within (put_at ranges index range k d fits.within);
      apart = λ i j d lt within. apart_at ranges index range i j d (get_or (insert ranges index range) i d) (get_or (insert ranges index range) j d) apart fits lt (omega arith) (put_at ranges index range i d fits.within) (put_at ranges index range j d fits.within);
    }

-- ---- what a look-up answers

pub is_some-then_some : {X : Type 0} (b : Bool) (x : X) → is_some (then_some b x) ≡ b
is_some-then_some true x = refl
is_some-then_some false x = refl

not_some : {X : Type 0} (b : Bool) (x : X) → is_none (then_some b x) ≡ not b
not_some true x = refl
not_some false x = refl

-- none where the range begins below the last of the numbers
pub is_none-then_some : {X : Type 0} (past low : ℕ) (x : X) → is_none (then_some (leb past low) x) ≡ ltb low past
is_none-then_some past low x = not_some (leb past low) x ∙ flipped
  where
    flipped : not (leb past low) ≡ ltb low past
    flipped = grind (arith, nat_tests)

some_then : {X : Type 0} (P : X → Type 0) (b : Bool) (x : X) → (b ≡ true → P x) → IfSome (then_some b x) P
some_then P true x h = h refl
some_then P false x h = tt

pub fits_then : (ranges : List Range) (low past index : ℕ) (here : Range) → AreRanges ranges → IsCount ranges low index → index < length ranges → here ≡ get_or ranges index here
    → IfSome (then_some (leb past here.low) index) (FitsBefore ranges low past)
fits_then ranges low past index here apart count lt e =
    some_then (FitsBefore ranges low past) (leb past here.low) index (λ le. fits_at ranges low past index here apart count lt e (leb-true _ _ le))

-- ---- a range behind all others

pub last_get : {X : Type 0} (xs : List X) (i : ℕ) (d : X) → i < length xs → slice_get xs i ≡ Some (get_or xs i d)
last_get [] i d lt = absurd (omega arith)
last_get (x ∷ xs) zero d lt = refl
last_get (x ∷ xs) (suc i) d lt = last_get xs i d (omega arith)

-- where the last range ends at a number or below, all do
pub fits_behind_all : (ranges : List Range) (low past : ℕ) → AreRanges ranges → unwrap_or (option_map (λ (r : Range). r.past) (last_of_list ranges)) 0 ≤ low → FitsBefore ranges low past (length ranges)
fits_behind_all ranges low past apart le = record {
  within = omega arith;
  before = λ k d lt.
      let last : last_of_list ranges ≡ Some (get_or ranges (length ranges - 1) d) = last_get ranges (length ranges - 1) d (omega arith) in
      let end : (get_or ranges (length ranges - 1) d).past ≤ low = subst (λ (o : Option Range). unwrap_or (option_map (λ (r : Range). r.past) o) 0 ≤ low) last le in
      omega (arith, past_rises ranges k (length ranges - 1) d apart (omega arith) (omega arith));
  behind = λ k d behind lt. absurd (omega arith);
}

pub insert-last : {X : Type 0} (xs : List X) (x : X) → insert xs (length xs) x ≡ xs ++ x ∷ []
insert-last xs x = rw (take_all (length xs) xs (omega arith), drop_past_all xs) refl
  where
    drop_past_all : {X : Type 0} (ys : List X) → drop (length ys) ys ≡ []
    drop_past_all [] = refl
    drop_past_all (y ∷ ys) = drop_past_all ys
