-- The slabs that stand, without the states: where a chunk is looked up, and what a slab more, a count or a reap leaves.
use Rattle.std.proofs.Common.{◌≡◌, ◌≢◌, ℕ, ◌+◌, ◌-◌, ◌*◌, ◌/◌, ◌<◌, ◌≤◌, ◌⊎◌, inl, inr, Bool, true, false, cond, eqb, ltb, List, [], ◌∷◌, ◌++◌, length, get_or, set, map, Option, refl, sym, ap, ◌∙◌, subst, arith}
use Rattle.std.specs.Prelude.{All, AllPairs, Contains, filter, insert, MatchOption}
use Rattle.std.specs.List.{AllWithin, HoldsAt}
use Rattle.std.proofs.lemmas.Bool.{and_from, and_left, and_right, and_parts, cases_Bool, cases_eq, cases_lt, cases_order, eq-eqb, eqb-true, false≢true, le-leb, le-ltb, leb-true, lt-leb, lt-ltb, ltb-true, ne_eqb}
use Rattle.std.proofs.lemmas.List.{get_or_default}
use Rattle.std.proofs.lemmas.List.Folds.{list_any_at, list_any_none}
use Rattle.std.proofs.lemmas.List.Elements.{All-contains, All-filter, All-map, Contains-append_cases, Contains-append_left, Contains-append_right}
use Rattle.std.proofs.lemmas.List.Kept.{AllPairs-filter}
use Rattle.std.proofs.lemmas.List.Quantifiers.{all_pairs_push}
use Rattle.std.proofs.lemmas.Simd.{map-map}
use Rattle.std.proofs.Math.Nat.{div-lt_iff_lt-mul, mul-div_cancel, mul-lt-mul_of_pos_right}
use Rattle.umem_base.specs.Ordered.{Gains, IsOrderedBy, SplitsBy, put_by}
use Rattle.umem_base.proofs.Lists.{Contains-here, map_none, map_one}
use Rattle.umem_base.proofs.OrderedLemmas.{AllPairs-put_by, All-put_by, Contains-cases, Contains-nil, Gains-put_by, SplitsBy-map, insert-put_by, map-put_by}
use Rattle.heap_ledger.specs.declared.slab_at.SlabAt.{SlabAt}
use Rattle.plain_heap.proofs.PairsLemmas.{AllPairs-map, Contains-passing, Contains-seen, pair_of}
use Rattle.heap_slabs.specs.declared.numbered.Numbered.{Numbered}
use Rattle.heap_slabs.specs.declared.place.Place.{Place}
use Rattle.heap_slabs.specs.declared.standing.Standing.{Standing}
use Rattle.heap_slabs.specs.Standing.{AreNumbered, AreStanding, BeginsAt, HasNumber, HasFree, HaveOtherNumbers, IsApartFrom, IsPlaceOf, IsStanding, has_start, chunks_end, has_base, numbered, one_live_less, one_live_more, as_slab_at, with_given, with_taken}
use Rattle.heap_slabs.proofs.Lists.{list_any_some, map_alike, passing_from, seen_from}

-- what is looked up where no slab is
abbrev pub no_standing : Standing
no_standing = record { cache = 0; base = 0; first = 0; start = 0; chunk = 0; rounds = 0; live = 0 }

-- what stands at an index, stands in the list
pub Contains-at : (slabs : List Standing) (i : ℕ) (d : Standing) → i < length slabs → Contains slabs (get_or slabs i d)
Contains-at slabs i d lt = (i, lt, get_or_default slabs i (get_or slabs i d) d lt)

-- where none stands
pub standing_none : AreStanding []
standing_none = record { each = λ k d lt. absurd (omega arith); apart = λ i j d less lt. absurd (omega arith); numbers = λ i j d less lt. absurd (omega arith) }

-- ---- one slab

pub begins-true : (address index : ℕ) (slab : Standing) → 0 < slab.chunk → BeginsAt address index slab → has_start address slab ≡ true
begins-true address index slab some h =
    let less : index * slab.chunk < slab.rounds * slab.chunk = mul-lt-mul_of_pos_right h.0 some in
    let offset : address - slab.start ≡ index * slab.chunk = omega (arith, h.1) in
    let told : (address - slab.start) / slab.chunk ≡ index = ap (λ n. n / slab.chunk) offset ∙ mul-div_cancel index some in
    let inside = and_from _ _ (le-leb slab.start address (omega (arith, h.1))) (lt-ltb address (slab.start + slab.rounds * slab.chunk) (omega (arith, h.1, less))) in
    and_from _ _ inside (ap (λ (i : ℕ). eqb (slab.start + i * slab.chunk) address) told ∙ eq-eqb (slab.start + index * slab.chunk) address (sym h.1))

-- the index of the chunk is told by the address
pub index_told : (address index : ℕ) (slab : Standing) → 0 < slab.chunk → BeginsAt address index slab → (address - slab.start) / slab.chunk ≡ index
index_told address index slab some h =
    let offset : address - slab.start ≡ index * slab.chunk = omega (arith, h.1) in
    ap (λ n. n / slab.chunk) offset ∙ mul-div_cancel index some

pub begins-index : (address : ℕ) (slab : Standing) → 0 < slab.chunk → has_start address slab ≡ true → (index : ℕ) × BeginsAt address index slab
begins-index address slab some h =
    let both = and_parts _ _ h in
    let within = and_parts _ _ both.0 in
    let low = leb-true slab.start address within.0 in
    let high = ltb-true address (slab.start + slab.rounds * slab.chunk) within.1 in
    let behind : address - slab.start < slab.rounds * slab.chunk = omega arith in
    ((address - slab.start) / slab.chunk, ((div-lt_iff_lt-mul some).1 behind, sym (eqb-true _ _ both.1)))

begins-below : (address : ℕ) (slab : Standing) → address < slab.start → has_start address slab ≡ false
begins-below address slab less = and_left _ _ (and_left _ _ (lt-leb slab.start address less))

begins-behind : (address : ℕ) (slab : Standing) → chunks_end slab ≤ address → has_start address slab ≡ false
begins-behind address slab less = and_left _ _ (and_right _ _ (le-ltb address (slab.start + slab.rounds * slab.chunk) less))

-- what begins in a slab lies in it
pub begins_inside : (address : ℕ) (slab : Standing) → has_start address slab ≡ true → (slab.start ≤ address) × (address < chunks_end slab)
begins_inside address slab h =
    let within = and_parts _ _ (and_parts _ _ h).0 in
    (leb-true slab.start address within.0, ltb-true address (slab.start + slab.rounds * slab.chunk) within.1)

-- the slab has a chunk, so that it ends behind its base
pub base_below_end : (slab : Standing) → IsStanding slab → slab.base < chunks_end slab
base_below_end slab is =
    let some : 0 * slab.chunk < slab.rounds * slab.chunk = mul-lt-mul_of_pos_right is.rounds is.chunk in
    omega (arith, is.from, some)

-- ---- order

pub bases_rise : (slabs : List Standing) → AreStanding slabs → AllPairs (λ one other. one.base < other.base) slabs
bases_rise slabs is i j d less lt = omega (arith, base_below_end (get_or slabs i d) (is.each i d (omega arith)), is.apart i j d less lt)

pub bases_ordered : (slabs : List Standing) → AreStanding slabs → IsOrderedBy (λ (slab : Standing). slab.base) slabs
bases_ordered slabs is i j d less lt = omega (arith, bases_rise slabs is i j d less lt)

-- by index, also the same one
pub base_le : (slabs : List Standing) (i k : ℕ) (d : Standing) → AreStanding slabs → i ≤ k → k < length slabs → (get_or slabs i d).base ≤ (get_or slabs k d).base
base_le slabs i k d is le lt = elim (cases_lt i k) [
  | inl less ↦ omega (arith, bases_rise slabs is i k d less lt)
  | inr more ↦ let same : i ≡ k = omega arith in rw same (omega arith)
]

-- the same of the numbers
pub first_le : (numbers : List Numbered) (i k : ℕ) (d : Numbered) → AllPairs (λ one other. one.first < other.first) numbers → i ≤ k → k < length numbers → (get_or numbers i d).first ≤ (get_or numbers k d).first
first_le numbers i k d rise le lt = elim (cases_lt i k) [
  | inl less ↦ omega (arith, rise i k d less lt)
  | inr more ↦ let same : i ≡ k = omega arith in rw same (omega arith)
]

-- ---- where a chunk is looked up

pub none_below : (slabs : List Standing) (address : ℕ) → AreStanding slabs → ((k : ℕ) (d : Standing) → 0 ≤ k → k < length slabs → address < (get_or slabs k d).base) → All (λ slab. has_start address slab ≡ false) slabs
none_below slabs address is above k d lt = begins-below address (get_or slabs k d) (omega (arith, above k d (omega arith) lt, (is.each k d lt).from))

-- no other slab has it than the last that begins below
pub none_beside : (slabs : List Standing) (address i k : ℕ) (d : Standing) → AreStanding slabs → i < length slabs → k < length slabs → k ≢ i → ((d : Standing) → (get_or slabs i d).base ≤ address)
    → ((j : ℕ) (d : Standing) → i + 1 ≤ j → j < length slabs → address < (get_or slabs j d).base) → has_start address (get_or slabs k d) ≡ false
none_beside slabs address i k d is il kl ne below above = elim (cases_order k i) [
  | inl same ↦ absurd (ne same)
  | inr (inl less) ↦ begins-behind address (get_or slabs k d) (omega (arith, is.apart k i d less il, below d))
  | inr (inr more) ↦ begins-below address (get_or slabs k d) (omega (arith, above k d (omega arith) kl, (is.each k d kl).from))
]

pub none_at : (slabs : List Standing) (address i : ℕ) (e : Standing) → AreStanding slabs → i < length slabs → has_start address (get_or slabs i e) ≡ false → ((d : Standing) → (get_or slabs i d).base ≤ address)
    → ((j : ℕ) (d : Standing) → i + 1 ≤ j → j < length slabs → address < (get_or slabs j d).base) → All (λ s. has_start address s ≡ false) slabs
none_at slabs address i e is il none below above k d kl = elim (cases_eq k i) [
  | inl same ↦ rw (same, get_or_default slabs i d e il) none
  | inr ne ↦ none_beside slabs address i k d is il kl ne below above
]

-- a chunk begins in one slab alone
pub begins_alone : (slabs : List Standing) (address : ℕ) (one other : Standing) → AreStanding slabs → Contains slabs one → Contains slabs other → has_start address one ≡ true → has_start address other ≡ true → one ≡ other
begins_alone slabs address one other is h g mine its =
    let here = begins_inside address one mine in
    let there = begins_inside address other its in
    let first = (All-contains IsStanding slabs one is.each h).from in
    let second = (All-contains IsStanding slabs other is.each g).from in
    elim (pair_of (λ (a b : Standing). chunks_end a ≤ b.base) slabs one other is.apart h g) [
      | inl same ↦ same
      | inr (inl less) ↦ absurd (omega (arith, less, here.1, there.0, second))
      | inr (inr more) ↦ absurd (omega (arith, more, there.1, here.0, first))
    ]

-- ---- where a number is looked up

-- a number is one of a chunk of one slab alone
pub number_alone : (slabs : List Standing) (number : ℕ) (one other : Standing) → AreStanding slabs → Contains slabs one → Contains slabs other → HasNumber number one → HasNumber number other → one ≡ other
number_alone slabs number one other is h g mine its =
    elim (pair_of HaveOtherNumbers slabs one other is.numbers h g) [
      | inl same ↦ same
      | inr (inl (inl less)) ↦ absurd (omega (arith, less, mine.0, mine.1, its.0, its.1))
      | inr (inl (inr more)) ↦ absurd (omega (arith, more, mine.0, mine.1, its.0, its.1))
      | inr (inr (inl less)) ↦ absurd (omega (arith, less, mine.0, mine.1, its.0, its.1))
      | inr (inr (inr more)) ↦ absurd (omega (arith, more, mine.0, mine.1, its.0, its.1))
    ]

module _ (slabs : List Standing) (numbers : List Numbered) (is : AreStanding slabs) (are : AreNumbered slabs numbers) (number count : ℕ) (e : Numbered)
    (split : SplitsBy (λ (n : Numbered). n.first ≤ number) (λ (n : Numbered). number < n.first) numbers count) where
  -- whose first chunk has the number or a lower one, stands among the first
  counted : (slab : Standing) → Contains slabs slab → slab.first ≤ number → (k : ℕ) × (k < count) × (get_or numbers k e ≡ numbered slab)
  counted slab h low =
      let there = are.all slab h in
      let same : get_or numbers there.0 e ≡ numbered slab = get_or_default numbers there.0 e (numbered slab) there.1 ∙ there.2 in
      elim (cases_lt there.0 count) [
        | inl less ↦ (there.0, less, same)
        | inr more ↦
            let high = split.behind there.0 e more there.1 in
            let first : (get_or numbers there.0 e).first ≡ slab.first = ap (λ (n : Numbered). n.first) same in
            absurd (omega (arith, high, first, low))
      ]

  pub none_counted : count ≡ 0 → All (λ slab. ¬ HasNumber number slab) slabs
  none_counted none k d lt has = let there = counted (get_or slabs k d) (k, lt, get_or_default slabs k (get_or slabs k d) d lt) has.0 in omega (arith, there.1)

  -- the last of them, and its slab
  module _ (some : count ≢ 0) where
    abbrev last : Numbered
    last = get_or numbers (count - 1) e

    last_slab : (slab : Standing) × Contains slabs slab × (numbered slab ≡ last)
    last_slab =
        let inside : count - 1 < length numbers = omega (arith, split.within, some) in
        seen_from numbered slabs last (are.only last (count - 1, inside, get_or_default numbers (count - 1) last e inside))

    module _ (below : ℕ) (z : Standing) (places : SplitsBy (λ (s : Standing). s.base ≤ (get_or numbers (count - 1) e).base) (λ (s : Standing). (get_or numbers (count - 1) e).base < s.base) slabs below) where
      last_below : (below ≢ 0) × (get_or slabs (below - 1) z ≡ last_slab.0)
      last_below =
          let s = last_slab.0 in
          let h = last_slab.1 in
          let base : s.base ≡ last.base = ap (λ (n : Numbered). n.base) last_slab.2 in
          let here : get_or slabs h.0 z ≡ s = get_or_default slabs h.0 z s h.1 ∙ h.2 in
          let same : (get_or slabs h.0 z).base ≡ s.base = ap (λ (x : Standing). x.base) here in
          elim (cases_lt h.0 below) [
            | inr more ↦ absurd (omega (arith, places.behind h.0 z more h.1, same, base))
            | inl less ↦ elim (cases_lt h.0 (below - 1)) [
              | inl lower ↦
                  let rises = bases_rise slabs is h.0 (below - 1) z lower (omega (arith, places.within)) in
                  absurd (omega (arith, rises, places.before (below - 1) z (omega arith), same, base))
              | inr upper ↦ let at : below - 1 ≡ h.0 = omega arith in ((λ none. omega arith), rw at here)
            ]
          ]

      -- a chunk with the number is one of that slab
      of_last : (slab : Standing) → Contains slabs slab → HasNumber number slab → slab ≡ last_slab.0
      of_last slab h has = elim (pair_of HaveOtherNumbers slabs slab last_slab.0 is.numbers h last_slab.1) [
        | inl same ↦ same
        | inr apart ↦ absurd (not_apart (turned apart))
      ]
        where
          turned : (HaveOtherNumbers slab last_slab.0 ⊎ HaveOtherNumbers last_slab.0 slab) → HaveOtherNumbers slab last_slab.0
          turned (inl one) = one
          turned (inr (inl low)) = inr low
          turned (inr (inr high)) = inl high

          last_low : last_slab.0.first ≤ number
          last_low =
              let low = split.before (count - 1) e (omega (arith, some)) in
              let same : last_slab.0.first ≡ last.first = ap (λ (n : Numbered). n.first) last_slab.2 in
              omega (arith, low, same)

          not_apart : HaveOtherNumbers slab last_slab.0 → ⊥
          not_apart (inl low) = omega (arith, low, has.1, last_low)
          not_apart (inr high) =
              let there = counted slab h has.0 in
              let le = first_le numbers there.0 (count - 1) e are.rise (omega (arith, there.1)) (omega (arith, split.within, some)) in
              let first : (get_or numbers there.0 e).first ≡ slab.first = ap (λ (n : Numbered). n.first) there.2 in
              let same : last_slab.0.first ≡ last.first = ap (λ (n : Numbered). n.first) last_slab.2 in
              let rounds = (All-contains IsStanding slabs last_slab.0 is.each last_slab.1).rounds in
              omega (arith, high, le, first, same, rounds)

      pub below_some : below ≡ 0 → ⊥
      below_some none = last_below.0 none

      -- where the last has no chunk of the number, none has
      pub none_of_last : ((number < (get_or slabs (below - 1) z).first) ⊎ ((get_or slabs (below - 1) z).rounds ≤ number - (get_or slabs (below - 1) z).first)) → All (λ slab. ¬ HasNumber number slab) slabs
      none_of_last out k d lt has =
          let slab = get_or slabs k d in
          let is_last : slab ≡ get_or slabs (below - 1) z = of_last slab (k, lt, get_or_default slabs k slab d lt) has ∙ sym last_below.1 in
          let low : (get_or slabs (below - 1) z).first ≤ number = subst (λ (x : Standing). x.first ≤ number) is_last has.0 in
          let high : number < (get_or slabs (below - 1) z).first + (get_or slabs (below - 1) z).rounds = subst (λ (x : Standing). number < x.first + x.rounds) is_last has.1 in
          elim out [ inl less ↦ omega (arith, less, low) | inr more ↦ omega (arith, more, low, high) ]

-- ---- where a base is looked up

pub no_base : (slabs : List Standing) (base : ℕ) → ((k : ℕ) (d : Standing) → 0 ≤ k → k < length slabs → base < (get_or slabs k d).base) → has_base slabs base ≡ false
no_base slabs base above = list_any_none (λ (s : Standing). eqb s.base base) slabs (λ k d lt. ne_eqb _ _ (λ e. omega (arith, above k d (omega arith) lt, e)))

-- the last slab that begins at the base or below has it, or none has
pub base_told : (slabs : List Standing) (base count : ℕ) (z : Standing) → AreStanding slabs → SplitsBy (λ (s : Standing). s.base ≤ base) (λ (s : Standing). base < s.base) slabs count → count ≢ 0
    → eqb (get_or slabs (count - 1) z).base base ≡ has_base slabs base
base_told slabs base count z is split some =
    let inside : count - 1 < length slabs = omega (arith, split.within, some) in
    elim (cases_Bool (eqb (get_or slabs (count - 1) z).base base)) [
      | inl there ↦ there ∙ sym (list_any_at (λ (s : Standing). eqb s.base base) slabs (count - 1) z inside there)
      | inr none ↦ none ∙ sym (list_any_none (λ (s : Standing). eqb s.base base) slabs (λ k d lt. ne_eqb _ _ (λ e. elim (cases_order k (count - 1)) [
        | inl same ↦
            let here : (get_or slabs (count - 1) z).base ≡ base = ap (λ (x : Standing). x.base) (get_or_default slabs (count - 1) z d inside) ∙ ap (λ (n : ℕ). (get_or slabs n d).base) (sym same) ∙ e in
            false≢true (sym none ∙ eq-eqb _ _ here)
        | inr (inl less) ↦ omega (arith, bases_rise slabs is k (count - 1) d less inside, split.before (count - 1) d (omega (arith, some)), e)
        | inr (inr more) ↦ omega (arith, split.behind k d (omega arith) lt, e)
      ])))
    ]

-- ---- counts

-- a slab as it was but for its count
abbrev relived : Standing → ℕ → Standing
relived slab live = record slab { live = live }

more_by : (b : Bool) (s : Standing) → (n : ℕ) × (cond b (record s { live = s.live + 1 }) s ≡ relived s n)
more_by true s = (s.live + 1, refl)
more_by false s = (s.live, refl)

taken_by : (b : Bool) (s : Standing) → (n : ℕ) × (cond b (one_live_more s) s ≡ relived s n)
taken_by true s = more_by (ltb s.live s.rounds) s
taken_by false s = (s.live, refl)

pub taken_keeps : (address : ℕ) (s : Standing) → (n : ℕ) × (with_taken address s ≡ record s { live = n })
taken_keeps address s = taken_by (has_start address s) s

given_by : (b : Bool) (s : Standing) → (n : ℕ) × (cond b (one_live_less s) s ≡ relived s n)
given_by true s = (s.live - 1, refl)
given_by false s = (s.live, refl)

pub given_keeps : (address : ℕ) (s : Standing) → (n : ℕ) × (with_given address s ≡ record s { live = n })
given_keeps address s = given_by (has_start address s) s

-- a function that changes counts alone
module _ (f : Standing → Standing) (kept : (s : Standing) → (n : ℕ) × (f s ≡ (record s { live = n }))) where
  same_part : {Y : Type 0} (part : Standing → Y) (s : Standing) → part (f s) ≡ part (record s { live = (kept s).0 })
  same_part part s = ap part (kept s).1

  pub standing_kept : (slabs : List Standing) → AreStanding slabs → AreStanding (map f slabs)
  standing_kept slabs is = record {
    each = All-map IsStanding f slabs (λ k d lt.
        let s = get_or slabs k d in
        let was = is.each k d lt in
        let now : IsStanding (relived s (kept s).0) = record { chunk = was.chunk; rounds = was.rounds; from = was.from; to = was.to; numbers = was.numbers } in
        subst IsStanding (sym (kept s).1) now);
    apart = AllPairs-map (λ (a b : Standing). chunks_end a ≤ b.base) f slabs (λ i j d less lt.
        let a = get_or slabs i d in
        let b = get_or slabs j d in
        subst (λ (x : Standing). chunks_end (f a) ≤ x.base) (sym (kept b).1) (subst (λ (x : Standing). chunks_end x ≤ b.base) (sym (kept a).1) (is.apart i j d less lt)));
    numbers = AllPairs-map HaveOtherNumbers f slabs (λ i j d less lt.
        let a = get_or slabs i d in
        let b = get_or slabs j d in
        subst (λ (x : Standing). HaveOtherNumbers (f a) x) (sym (kept b).1) (subst (λ (x : Standing). HaveOtherNumbers x b) (sym (kept a).1) (is.numbers i j d less lt)));
  }

  pub places_kept : (slabs : List Standing) → map as_slab_at (map f slabs) ≡ map as_slab_at slabs
  places_kept slabs = map-map as_slab_at f slabs ∙ map_alike (λ s. as_slab_at (f s)) as_slab_at slabs (λ s there. same_part as_slab_at s)

  pub numbers_kept : (slabs : List Standing) (numbers : List Numbered) → AreNumbered slabs numbers → AreNumbered (map f slabs) numbers
  numbers_kept slabs numbers are = record {
    rise = are.rise;
    all = λ slab there.
        let found = seen_from f slabs slab there in
        subst (Contains numbers) (sym (same_part numbered found.0) ∙ ap numbered found.2) (are.all found.0 found.1);
    only = λ one there.
        let same : map numbered slabs ≡ map numbered (map f slabs) = sym (map-map numbered f slabs ∙ map_alike (λ s. numbered (f s)) numbered slabs (λ s among. same_part numbered s)) in
        subst (λ (xs : List Numbered). Contains xs one) same (are.only one there);
  }

-- one slab is changed, in which a chunk begins
pub changed_there : (g : Standing → Standing) (slabs : List Standing) (address : ℕ) (place : Place) (z : Standing) → AreStanding slabs → IsPlaceOf address slabs place
    → set slabs place.slab (g (get_or slabs place.slab z)) ≡ map (λ s. cond (has_start address s) (g s) s) slabs
changed_there g slabs address place z is at =
    let some : (d : Standing) → 0 < (get_or slabs place.slab d).chunk = λ d. (is.each place.slab d at.0).chunk in
    let here : (d : Standing) → has_start address (get_or slabs place.slab d) ≡ true = λ d. begins-true address place.index (get_or slabs place.slab d) (some d) (at.1 d) in
    sym (map_one (λ s. cond (has_start address s) (g s) s) slabs place.slab (g (get_or slabs place.slab z)) at.0
    (λ d.
    ap (λ (b : Bool). cond b (g (get_or slabs place.slab d)) (get_or slabs place.slab d)) (here d) ∙ ap g (get_or_default slabs place.slab d z at.0))
    (λ k d kl ne. ap (λ (b : Bool). cond b (g (get_or slabs k d)) (get_or slabs k d)) (beside k d kl ne (here d))))
  where
    beside : (k : ℕ) (d : Standing) → k < length slabs → k ≢ place.slab → has_start address (get_or slabs place.slab d) ≡ true → has_start address (get_or slabs k d) ≡ false
    beside k d kl ne here =
        let inside = begins_inside address (get_or slabs place.slab d) here in
        elim (cases_order k place.slab) [
          | inl same ↦ absurd (ne same)
          | inr (inl less) ↦ begins-behind address (get_or slabs k d) (omega (arith, is.apart k place.slab d less at.0, (is.each place.slab d at.0).from, inside.0))
          | inr (inr more) ↦ begins-below address (get_or slabs k d) (omega (arith, is.apart place.slab k d more kl, inside.1, (is.each k d kl).from))
        ]

pub changed_nowhere : (g : Standing → Standing) (slabs : List Standing) (address : ℕ) → All (λ s. has_start address s ≡ false) slabs → slabs ≡ map (λ s. cond (has_start address s) (g s) s) slabs
changed_nowhere g slabs address none = sym (map_none (λ s. cond (has_start address s) (g s) s) slabs (λ k d lt. ap (λ (b : Bool). cond b (g (get_or slabs k d)) (get_or slabs k d)) (none k d lt)))

-- ---- a slab more

module _ (slabs : List Standing) (slab : Standing) (is : AreStanding slabs) (new : IsStanding slab) (apart : All (IsApartFrom slab) slabs) where
  abbrev base : Standing → ℕ
  base s = s.base

  pub standing_more : AreStanding (put_by (λ s. s.base) slabs slab)
  standing_more = record {
    each = All-put_by IsStanding base slabs slab new is.each;
    apart = AllPairs-put_by (λ (a b : Standing). chunks_end a ≤ b.base) base slabs slab (bases_ordered slabs is) is.apart
        (λ k d lt le. elim (apart k d lt).0 [ inl behind ↦ absurd (omega (arith, behind, le, base_below_end slab new)) | inr below ↦ below ])
        (λ k d lt less. elim (apart k d lt).0 [ inl behind ↦ behind | inr below ↦ absurd (omega (arith, below, less, base_below_end (get_or slabs k d) (is.each k d lt))) ]);
    numbers = AllPairs-put_by HaveOtherNumbers base slabs slab (bases_ordered slabs is) is.numbers (λ k d lt le. inl (apart k d lt).1) (λ k d lt less. inr (apart k d lt).1);
  }

  pub places_more : (index : ℕ) → SplitsBy (λ (s : Standing). s.base ≤ slab.base) (λ (s : Standing). slab.base < s.base) slabs index → insert (map as_slab_at slabs) index (as_slab_at slab) ≡ map as_slab_at (put_by (λ s. s.base) slabs slab)
  places_more index split =
      let key : SlabAt → ℕ = λ s. s.base in
      insert-put_by key (map as_slab_at slabs) index (as_slab_at slab) (SplitsBy-map as_slab_at (λ (s : SlabAt). s.base ≤ slab.base) (λ (s : SlabAt). slab.base < s.base) slabs index split)
      ∙ sym (map-put_by as_slab_at key slabs slab)

  pub numbers_more : (numbers : List Numbered) → AreNumbered slabs numbers → AreNumbered (put_by (λ s. s.base) slabs slab) (numbers ++ numbered slab ∷ [])
  numbers_more numbers are = record {
    rise = all_pairs_push (λ (a b : Numbered). a.first < b.first) numbers (numbered slab) are.rise (λ k d lt.
        let n = get_or numbers k d in
        let s = seen_from numbered slabs n (are.only n (k, lt, get_or_default numbers k n d lt)) in
        let first : s.0.first ≡ n.first = ap (λ (x : Numbered). x.first) s.2 in
        let above = (All-contains (IsApartFrom slab) slabs s.0 apart s.1).1 in
        let rounds = (All-contains IsStanding slabs s.0 is.each s.1).rounds in
        omega (arith, first, above, rounds));
    all = λ one there. elim (gains.only one there) [
      | inl was ↦ Contains-append_left numbers (numbered slab ∷ []) (numbered one) (are.all one was)
      | inr same ↦ Contains-append_right numbers (numbered slab ∷ []) (numbered one) (subst (λ (x : Standing). Contains (numbered slab ∷ []) (numbered x)) (sym same) (Contains-here (numbered slab) []))
    ];
    only = λ one there. elim (Contains-append_cases numbers (numbered slab ∷ []) one there) [
      | inl was ↦ let s = seen_from numbered slabs one (are.only one was) in subst (Contains (map numbered (put_by base slabs slab))) s.2 (Contains-seen numbered (put_by base slabs slab) s.0 (gains.kept s.0 s.1))
      | inr new_one ↦ elim (Contains-cases (numbered slab) one [] new_one) [
        | inl same ↦ subst (Contains (map numbered (put_by base slabs slab))) same (Contains-seen numbered (put_by base slabs slab) slab gains.gained)
        | inr none ↦ Contains-nil one none
      ]
    ];
  }
    where
      gains : Gains slabs (put_by (λ s. s.base) slabs slab) slab
      gains = Gains-put_by base slabs slab

-- ---- slabs less

module _ (keep : Standing → Bool) (slabs : List Standing) (is : AreStanding slabs) where
  pub standing_less : AreStanding (filter keep slabs)
  standing_less = record {
    each = All-filter keep IsStanding slabs is.each;
    apart = AllPairs-filter (λ (a b : Standing). chunks_end a ≤ b.base) keep slabs is.apart;
    numbers = AllPairs-filter HaveOtherNumbers keep slabs is.numbers;
  }

  pub numbers_less : (numbers : List Numbered) → AreNumbered slabs numbers → AreNumbered (filter keep slabs) (filter (λ one. has_base (filter keep slabs) one.base) numbers)
  numbers_less numbers are = record {
    rise = AllPairs-filter (λ (a b : Numbered). a.first < b.first) kept_too numbers are.rise;
    all = λ slab there.
        let passed = passing_from keep slabs slab there in
        Contains-passing kept_too numbers (numbered slab) (base_there slab there) (are.all slab passed.0);
    only = λ one there.
        let passed = passing_from kept_too numbers one there in
        let s = seen_from numbered slabs one (are.only one passed.0) in
        let t = base_of one.base passed.1 in
        let kept = passing_from keep slabs t.0 t.1 in
        let base : s.0.base ≡ t.0.base = ap (λ (n : Numbered). n.base) s.2 ∙ sym t.2 in
        let same : s.0 ≡ t.0 = same_base s.0 t.0 s.1 kept.0 base in
        subst (Contains (map numbered (filter keep slabs))) (ap numbered (sym same) ∙ s.2) (Contains-seen numbered (filter keep slabs) t.0 t.1);
  }
    where
      kept_too : Numbered → Bool
      kept_too one = has_base (filter keep slabs) one.base

      base_there : (slab : Standing) → Contains (filter keep slabs) slab → has_base (filter keep slabs) slab.base ≡ true
      base_there slab there = list_any_at (λ (s : Standing). eqb s.base slab.base) (filter keep slabs) there.0 slab there.1 (eq-eqb _ _ (ap (λ (s : Standing). s.base) there.2))

      base_of : (at : ℕ) → has_base (filter keep slabs) at ≡ true → (t : Standing) × Contains (filter keep slabs) t × (t.base ≡ at)
      base_of at told = let some = list_any_some (λ (s : Standing). eqb s.base at) (filter keep slabs) told in (some.0, some.1, eqb-true some.0.base at some.2)

      same_base : (s t : Standing) → Contains slabs s → Contains slabs t → s.base ≡ t.base → s ≡ t
      same_base s t h g e = elim (pair_of (λ (a b : Standing). a.base < b.base) slabs s t (bases_rise slabs is) h g) [
        | inl same ↦ same
        | inr (inl less) ↦ absurd (omega (arith, less, e))
        | inr (inr more) ↦ absurd (omega (arith, more, e))
      ]

-- ---- free chunks

-- of the first so many slabs, none has a free chunk, or this one has the lowest
abbrev pub IsLowestBefore : ℕ → List Standing → ℕ → Option ℕ → Type 0
IsLowestBefore cache slabs n lowest = MatchOption lowest (AllWithin (λ s. ¬ HasFree cache s) slabs 0 n)
    (λ i. (i < n) × HoldsAt (λ s. HasFree cache s × AllWithin (λ other. HasFree cache other → s.first ≤ other.first) slabs 0 n) slabs i)
