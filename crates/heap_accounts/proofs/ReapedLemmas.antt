-- The stock of a cache after a reap.
use Rattle.std.proofs.Common.{◌≡◌, ℕ, ◌+◌, ◌-◌, ◌<◌, Bool, true, false, not, cond, eqb, List, [], ◌∷◌, ◌++◌, map, reverse, get_or, refl, sym, ap, ◌∙◌, subst, arith, inl, inr}
use Rattle.std.specs.Prelude.{◌&&◌, ◌||◌, Contains, filter}
use Rattle.std.specs.List.{list_any}
use Rattle.std.proofs.lemmas.Bool.Decides.{eqb_tells}
use Rattle.std.proofs.lemmas.List.{append-nil, length-map, reverse-append}
use Rattle.std.proofs.lemmas.List.Elements.{All-contains, Contains-append_cases, Contains-append_right, Contains-get_or, filter-append}
use Rattle.std.proofs.lemmas.List.Folds.{Any-from_list_any, list_any_at}
use Rattle.std.proofs.lemmas.List.Sorted.{Contains-permutation, IsPermutation-reverse, IsPermutation-sym}
use Rattle.umem_base.proofs.Lists.{Contains-here, Contains-there}
use Rattle.slab_layer.specs.Slab.{IsSlab, Slab, is_complete}
use Rattle.slab_layer.specs.Slabs.{listed_rounds}
use Rattle.slab_layer.proofs.SlabLemmas.{decides_complete}
use Rattle.slab_layer.proofs.SlabsLemmas.{Contains-from_rounds, Contains-rounds}
use Rattle.shelf.specs.Steps.{complete_slabs, drained, gathered}
use Rattle.shelf.specs.Stock.{IsStock, Stock, bare_slab, empty_cpu, held_rounds, standing}
use Rattle.shelf.proofs.DrainLemmas.{drained_is, gathered_complete}
use Rattle.shelf.proofs.Lists.{AreDistinct-permutation, apart_in_distinct}
use Rattle.shelf.proofs.StandingLemmas.{without_complete_is}
use Rattle.plain_heap.specs.Laws.{StandApart}
use Rattle.plain_heap.specs.Legal.{IsUnused}
use Rattle.plain_heap.specs.Setting.{Setting, geometry_in}
use Rattle.plain_heap.specs.State.{HeapSlab, LiveBuffer, State, after_shrink, chunk_start, held_at, span_of_slab}
use Rattle.plain_heap.proofs.PairsLemmas.{pair_of}
use Rattle.plain_heap.proofs.PlacesLemmas.{IsInArena, apart_bases}
use Rattle.heap_ledger.specs.declared.slab_at.SlabAt.{SlabAt}
use Rattle.heap_ledger.specs.Commits.{AreReaped, CanShrink, after_shrinks}
use Rattle.heap_accounts.specs.FreeChunks.{IsFreeRound, IsStockOf, bare_of, slabs_of_cache}
use Rattle.heap_accounts.specs.Places.{reaped}
use Rattle.heap_accounts.proofs.FreeRoundLemmas.{IsGood, number_one, start_at}
use Rattle.heap_accounts.proofs.SlabLemmas.{Contains-filtered, Contains-from_filtered, Contains-from_mapped, Contains-mapped, came_from, from_range, in_range, stands_for}

-- ---- filters

true_false : true ≡ false → ⊥
true_false e = cc e

filter_both : {X : Type 0} (p q r : X → Bool) (xs : List X) → ((x : X) → r x ≡ (q x && p x)) → filter p (filter q xs) ≡ filter r xs
filter_both p q r [] same = refl
filter_both {X} p q r (x ∷ xs) same = by_first (q x) (r x) (same x) (filter_both p q r xs same)
  where
    by_first : (b c : Bool) → c ≡ (b && p x) → filter p (filter q xs) ≡ filter r xs → filter p (cond b (x ∷ filter q xs) (filter q xs)) ≡ cond c (x ∷ filter r xs) (filter r xs)
    by_first true c is rest = ap (λ (d : Bool). cond d (x ∷ filter p (filter q xs)) (filter p (filter q xs))) (sym is) ∙ ap (λ (l : List X). cond c (x ∷ l) l) rest
    by_first false c is rest = rest ∙ ap (λ (d : Bool). cond d (x ∷ filter r xs) (filter r xs)) (sym is)

and_turned : (b c : Bool) → (b && c) ≡ (c && b)
and_turned true true = refl
and_turned true false = refl
and_turned false true = refl
and_turned false false = refl

filters_swap : {X : Type 0} (p q : X → Bool) (xs : List X) → filter p (filter q xs) ≡ filter q (filter p xs)
filters_swap {X} p q xs =
    let both : X → Bool = λ x. q x && p x in
    filter_both p q both xs (λ x. refl) ∙ sym (filter_both q p both xs (λ x. and_turned (q x) (p x)))

filter_turned : {X : Type 0} (p : X → Bool) (xs : List X) → filter p (reverse xs) ≡ reverse (filter p xs)
filter_turned p [] = refl
filter_turned {X} p (x ∷ xs) =
    ap (filter p) (reverse-append (x ∷ []) xs) ∙ filter-append p (reverse xs) (x ∷ []) ∙ ap (λ (l : List X). l ++ filter p (x ∷ [])) (filter_turned p xs) ∙ by_first (p x)
  where
    by_first : (b : Bool) → reverse (filter p xs) ++ cond b (x ∷ []) [] ≡ reverse (cond b (x ∷ filter p xs) (filter p xs))
    by_first true = sym (reverse-append (x ∷ []) (filter p xs))
    by_first false = append-nil (reverse (filter p xs))

filter_true : {X : Type 0} (xs : List X) → filter (λ (x : X). true) xs ≡ xs
filter_true [] = refl
filter_true {X} (x ∷ xs) = ap (λ (l : List X). x ∷ l) (filter_true xs)

-- two lists that look alike still do, once the same are left out of both
kept_alike : {X Y Z : Type 0} (f : X → Z) (g : Y → Z) (h : X → X) (keep : X → Bool) (left : Y → Bool) (xs : List X) (ys : List Y) → map f xs ≡ map g ys
    → ((x : X) → f (h x) ≡ f x) → ((x : X) (y : Y) → Contains xs x → Contains ys y → f x ≡ g y → keep (h x) ≡ left y) → map f (filter keep (map h xs)) ≡ map g (filter left ys)
kept_alike f g h keep left [] [] same looks agree = refl
kept_alike f g h keep left [] (y ∷ ys) same looks agree = absurd (cc same)
kept_alike f g h keep left (x ∷ xs) [] same looks agree = absurd (cc same)
kept_alike {X} {Y} {Z} f g h keep left (x ∷ xs) (y ∷ ys) same looks agree =
    let first : f x ≡ g y = cc in
    let behind : map f xs ≡ map g ys = cc in
    let rest = kept_alike f g h keep left xs ys behind looks (λ a b there here. agree a b (Contains-there x a xs there) (Contains-there y b ys here)) in
    by_first (keep (h x)) (left y) (agree x y (Contains-here x xs) (Contains-here y ys) first) first rest
  where
    by_first : (b c : Bool) → b ≡ c → f x ≡ g y → map f (filter keep (map h xs)) ≡ map g (filter left ys) → map f (cond b (h x ∷ filter keep (map h xs)) (filter keep (map h xs))) ≡ map g (cond c (y ∷ filter left ys) (filter left ys))
    by_first true true e first rest = ap (λ (z : Z). z ∷ map f (filter keep (map h xs))) (looks x ∙ first) ∙ ap (λ (l : List Z). g y ∷ l) rest
    by_first true false e first rest = absurd (true_false e)
    by_first false true e first rest = absurd (true_false (sym e))
    by_first false false e first rest = rest

-- ---- slabs that were given back

-- a slab begins where one of some slabs does
abbrev is_among : List SlabAt → HeapSlab → Bool
is_among slabs h = list_any (λ (one : SlabAt). eqb one.base h.base) slabs

not_either : (a b : ℕ) (c : Bool) → not (eqb a b || c) ≡ (not (eqb b a) && not c)
not_either a b c = elim (eqb_tells a b) [
  | inl is ↦ rw (is.0, turned is.1) refl
  | inr isnt ↦ rw (isnt.0, apart isnt.1) refl
]
  where
    turned : a ≡ b → eqb b a ≡ true
    turned same = elim (eqb_tells b a) [ inl is ↦ is.0 | inr isnt ↦ absurd (isnt.1 (sym same)) ]

    apart : (a ≡ b → ⊥) → eqb b a ≡ false
    apart other = elim (eqb_tells b a) [ inl is ↦ absurd (other (sym is.1)) | inr isnt ↦ isnt.0 ]

pub shrinks_leave : (state : State) (slabs : List SlabAt) → (after_shrinks state slabs).slabs ≡ filter (λ h. not (is_among slabs h)) state.slabs
shrinks_leave state [] = sym (filter_true state.slabs)
shrinks_leave state (one ∷ slabs) =
    shrinks_leave (after_shrink state one.base) slabs
    ∙ filter_both (λ (h : HeapSlab). not (is_among slabs h)) (λ (h : HeapSlab). not (eqb h.base one.base)) (λ (h : HeapSlab). not (is_among (one ∷ slabs) h)) state.slabs
    (λ h. not_either one.base h.base (is_among slabs h))

pub shrinks_live : (state : State) (slabs : List SlabAt) → (after_shrinks state slabs).live ≡ state.live
shrinks_live state [] = refl
shrinks_live state (one ∷ slabs) = shrinks_live (after_shrink state one.base) slabs

module _ (setting : Setting) (state : State) (good : IsGood setting state) (slabs : List SlabAt) (are : AreReaped setting state slabs) where
  -- two slabs at one base are one
  base_one : (s t : HeapSlab) → Contains state.slabs s → Contains state.slabs t → s.base ≡ t.base → s ≡ t
  base_one s t one other same =
      let InArena : HeapSlab → Type 0 = λ x. IsInArena setting (span_of_slab setting x) in
      let some = (All-contains InArena state.slabs s good.places.slabs_in one).some in
      let more = (All-contains InArena state.slabs t good.places.slabs_in other).some in
      elim (pair_of (λ (a b : HeapSlab). StandApart (span_of_slab setting a) (span_of_slab setting b)) state.slabs s t good.places.slabs_apart one other) [
        | inl is ↦ is
        | inr (inl apart) ↦ absurd (apart_bases (span_of_slab setting s) (span_of_slab setting t) some more apart same)
        | inr (inr apart) ↦ absurd (apart_bases (span_of_slab setting t) (span_of_slab setting s) more some apart (sym same))
      ]

  among_unused : (h : HeapSlab) → Contains state.slabs h → is_among slabs h ≡ true → IsUnused setting state h
  among_unused h stands is =
      let test : SlabAt → Bool = λ one. eqb one.base h.base in
      let found = Any-from_list_any test slabs is in
      let one = get_or slabs found.0 found.1 in
      let there : Contains slabs one = Contains-get_or slabs found.0 found.1 found.2 in
      let can = (are.exactly one).0 there in
      let base : one.base ≡ h.base = equal (get_or slabs found.0 found.1).base (ap test found.3 ∙ found.4) in
      subst (IsUnused setting state) (base_one can.standing h can.stands stands (can.its_base ∙ base)) can.unused
    where
      equal : (b : ℕ) → eqb b h.base ≡ true → b ≡ h.base
      equal b e = elim (eqb_tells b h.base) [ inl is ↦ is.1 | inr isnt ↦ absurd (true_false (sym e ∙ isnt.0)) ]

  unused_among : (h : HeapSlab) → Contains state.slabs h → IsUnused setting state h → is_among slabs h ≡ true
  unused_among h stands unused =
      let one : SlabAt = record { cache = h.cache; base = h.base } in
      let can : CanShrink setting state one = record { standing = h; stands = stands; its_cache = refl; its_base = refl; unused = unused } in
      let there = (are.exactly one).1 can in
      list_any_at (λ (o : SlabAt). eqb o.base h.base) slabs there.0 one there.1 (ap (λ (o : SlabAt). eqb o.base h.base) there.2 ∙ eqb_self h.base)
    where
      eqb_self : (n : ℕ) → eqb n n ≡ true
      eqb_self n = elim (eqb_tells n n) [ inl is ↦ is.0 | inr isnt ↦ absurd (isnt.1 refl) ]

  module _ (cache : ℕ) (stock : Stock) (is : IsStockOf setting state cache stock) where
    drained_sound : IsStock (drained stock)
    drained_sound = (drained_is stock is.sound).sound

    gathered_sound : (s : Slab) → Contains stock.slabs s → IsSlab (gathered stock s)
    gathered_sound s there = All-contains IsSlab (map (gathered stock) stock.slabs) (gathered stock s) drained_sound.slabs.each (Contains-mapped (gathered stock) stock.slabs s there)

    -- a slab is complete after the drain exactly where no chunk of it lives
    complete_unused : (s : Slab) (h : HeapSlab) → Contains stock.slabs s → Contains state.slabs h → bare_slab s ≡ bare_of setting h → is_complete (gathered stock s) ≡ true → IsUnused setting state h
    complete_unused s h there stands same complete address chunk =
        let all = (gathered_complete stock s).0 ((decides_complete (gathered stock s) (gathered_sound s there)).0 complete) in
        let firsts : s.first ≡ h.first = ap (λ (t : Slab). t.first) same in
        let counts : s.count ≡ (geometry_in setting h.cache).rounds = ap (λ (t : Slab). t.count) same in
        let number = h.first + chunk.index in
        let f = (is.held number).0 (all number (omega (arith, firsts), omega (arith, firsts, counts, chunk.within))) in
        let starts = start_at setting state good h f.slab chunk.index f.index (record { stands = stands; within = chunk.within }) (record { stands = f.stands; within = f.within }) f.number in
        ap (held_at state.live) (chunk.there ∙ starts) ∙ f.free

    unused_complete : (s : Slab) (h : HeapSlab) → Contains stock.slabs s → Contains state.slabs h → h.cache ≡ cache → bare_slab s ≡ bare_of setting h → IsUnused setting state h → is_complete (gathered stock s) ≡ true
    unused_complete s h there stands its same unused =
        let firsts : s.first ≡ h.first = ap (λ (t : Slab). t.first) same in
        let counts : s.count ≡ (geometry_in setting h.cache).rounds = ap (λ (t : Slab). t.count) same in
        (decides_complete (gathered stock s) (gathered_sound s there)).1 ((gathered_complete stock s).1 (λ chunk has.
        let index = chunk - h.first in
        let within : index < (geometry_in setting h.cache).rounds = omega (arith, has, firsts, counts) in
        let number : chunk ≡ h.first + index = omega (arith, has, firsts) in
        (is.held chunk).1 (record { slab = h; stands = stands; its = its; index = index; within = within; number = number; free = unused (chunk_start setting h index) (record { index = index; within = within; there = refl }) })))

    agrees : (s : Slab) (h : HeapSlab) → Contains stock.slabs s → Contains state.slabs h → h.cache ≡ cache → bare_slab s ≡ bare_of setting h → is_complete (gathered stock s) ≡ is_among slabs h
    agrees s h there stands its same = by_tests (is_complete (gathered stock s)) (is_among slabs h) refl refl
      where
        by_tests : (b c : Bool) → is_complete (gathered stock s) ≡ b → is_among slabs h ≡ c → b ≡ c
        by_tests true true e f = refl
        by_tests false false e f = refl
        by_tests true false e f = absurd (true_false (sym (unused_among h stands (complete_unused s h there stands same e)) ∙ f))
        by_tests false true e f = absurd (true_false (sym (unused_complete s h there stands its same (among_unused h stands f)) ∙ e))

    slabs_left : standing (reaped stock).slabs ≡ slabs_of_cache setting cache (after_shrinks state slabs).slabs
    slabs_left =
        let of_cache : HeapSlab → Bool = λ h. eqb h.cache cache in
        let left : HeapSlab → Bool = λ h. not (is_among slabs h) in
        let hs = reverse (filter of_cache state.slabs) in
        kept_alike bare_slab (bare_of setting) (gathered stock) (λ (s : Slab). not (is_complete s)) left stock.slabs hs is.slabs (λ s. refl) pair
        ∙ ap (map (bare_of setting)) (filter_turned left (filter of_cache state.slabs) ∙ ap reverse (filters_swap left of_cache state.slabs))
        ∙ ap (slabs_of_cache setting cache) (sym (shrinks_leave state slabs))
      where
        pair : (s : Slab) (h : HeapSlab) → Contains stock.slabs s → Contains (reverse (filter (λ (h : HeapSlab). eqb h.cache cache) state.slabs)) h → bare_slab s ≡ bare_of setting h → not (is_complete (gathered stock s)) ≡ not (is_among slabs h)
        pair s h there turned same =
            let of_cache : HeapSlab → Bool = λ h. eqb h.cache cache in
            let kept = Contains-from_filtered of_cache state.slabs h
            (Contains-permutation (reverse (filter of_cache state.slabs)) (filter of_cache state.slabs) h (IsPermutation-sym (filter of_cache state.slabs) (reverse (filter of_cache state.slabs)) (IsPermutation-reverse (filter of_cache state.slabs))) turned) in
            ap not (agrees s h there kept.0 (equal h.cache kept.1) same)
          where
            equal : (c : ℕ) → eqb c cache ≡ true → c ≡ cache
            equal c e = elim (eqb_tells c cache) [ inl same ↦ same.1 | inr isnt ↦ absurd (true_false (sym e ∙ isnt.0)) ]

    -- a chunk of a slab that is given back is in the list of a complete slab
    listed : (f : HeapSlab) (index chunk : ℕ) → Contains state.slabs f → f.cache ≡ cache → index < (geometry_in setting f.cache).rounds → chunk ≡ f.first + index → is_among slabs f ≡ true
        → Contains (listed_rounds (complete_slabs (drained stock))) chunk
    listed f index chunk stands its within number among =
        let for = stands_for setting cache state.slabs stock.slabs is.slabs f stands its in
        let s = for.slab in
        let complete = agrees s f for.there stands its for.is ∙ among in
        let whole = (decides_complete (gathered stock s) (gathered_sound s for.there)).0 complete in
        let firsts : s.first ≡ f.first = ap (λ (t : Slab). t.first) for.is in
        let counts : s.count ≡ (geometry_in setting f.cache).rounds = ap (λ (t : Slab). t.count) for.is in
        let mine : Contains (gathered stock s).list chunk = subst (λ (l : List ℕ). Contains l chunk) (sym whole) (in_range s.first s.count chunk (omega (arith, number, firsts)) (omega (arith, number, firsts, counts, within))) in
        let all = complete_slabs (drained stock) in
        let there = Contains-filtered is_complete (map (gathered stock) stock.slabs) (gathered stock s) complete (Contains-mapped (gathered stock) stock.slabs s for.there) in
        Contains-rounds all there.0 chunk (gathered stock s) there.1 (subst (λ (t : Slab). Contains t.list chunk) (sym there.2) mine)

    -- and only such a chunk is
    unlisted : (f : HeapSlab) (index chunk : ℕ) → Contains state.slabs f → index < (geometry_in setting f.cache).rounds → chunk ≡ f.first + index → is_among slabs f ≡ false
        → Contains (listed_rounds (complete_slabs (drained stock))) chunk → ⊥
    unlisted f index chunk stands within number among there =
        let all = complete_slabs (drained stock) in
        let d : Slab = record { base = 0; first = 0; count = 0; list = [] } in
        let at = Contains-from_rounds all chunk d there in
        let t = get_or all at.0 d in
        let kept = Contains-from_filtered is_complete (map (gathered stock) stock.slabs) t (Contains-get_or all at.0 d at.1) in
        let from = Contains-from_mapped (gathered stock) stock.slabs t kept.0 in
        let s = from.item in
        let complete : is_complete (gathered stock s) ≡ true = ap is_complete from.is ∙ kept.1 in
        let whole = (decides_complete (gathered stock s) (gathered_sound s from.there)).0 complete in
        let h = came_from setting cache state.slabs stock.slabs is.slabs s from.there in
        let firsts : h.slab.first ≡ s.first = ap (λ (x : Slab). x.first) h.is in
        let counts : (geometry_in setting h.slab.cache).rounds ≡ s.count = ap (λ (x : Slab). x.count) h.is in
        let mine : Contains (gathered stock s).list chunk = subst (λ (x : Slab). Contains x.list chunk) (sym from.is) at.2 in
        let place = from_range s.first s.count chunk (subst (λ (l : List ℕ). Contains l chunk) whole mine) in
        let same = number_one setting state good h.slab f place.0 index (record { stands = h.stands; within = omega (arith, place.1, counts) }) (record { stands = stands; within = within }) (omega (arith, place.2, firsts, number)) in
        let its = sym (agrees s h.slab from.there h.stands h.its (sym h.is)) ∙ complete in
        true_false (sym its ∙ ap (is_among slabs) same ∙ among)

    to : (chunk : ℕ) → Contains (held_rounds (reaped stock)) chunk → IsFreeRound setting (after_shrinks state slabs) cache chunk
    to chunk there =
        let drains = drained_is stock is.sound in
        let drops = without_complete_is (drained stock) drains.sound in
        let gone = listed_rounds (complete_slabs (drained stock)) in
        let now = held_rounds (reaped stock) in
        let was = Contains-permutation (gone ++ now) (held_rounds (drained stock)) chunk (IsPermutation-sym (held_rounds (drained stock)) (gone ++ now) drops.holds) (Contains-append_right gone now chunk there) in
        let held = Contains-permutation (held_rounds (drained stock)) (held_rounds stock) chunk (IsPermutation-sym (held_rounds stock) (held_rounds (drained stock)) drains.holds) was in
        let f = (is.held chunk).0 held in
        let distinct = AreDistinct-permutation (held_rounds (drained stock)) (gone ++ now) drops.holds drains.sound.distinct in
        let left = by_test (is_among slabs f.slab) refl (λ among. apart_in_distinct gone now chunk distinct (listed f.slab f.index chunk f.stands f.its f.within f.number among) there) in
        record {
          slab = f.slab;
          stands = subst (λ (l : List HeapSlab). Contains l f.slab) (sym (shrinks_leave state slabs)) (Contains-filtered (λ (h : HeapSlab). not (is_among slabs h)) state.slabs f.slab (ap not left) f.stands);
          its = f.its;
          index = f.index;
          within = f.within;
          number = f.number;
          free = ap (λ (l : List LiveBuffer). held_at l (chunk_start setting f.slab f.index)) (shrinks_live state slabs) ∙ f.free;
        }
      where
        by_test : {b : Bool} (c : Bool) → b ≡ c → (b ≡ true → ⊥) → b ≡ false
        by_test true e none = absurd (none e)
        by_test false e none = e

    from : (chunk : ℕ) → IsFreeRound setting (after_shrinks state slabs) cache chunk → Contains (held_rounds (reaped stock)) chunk
    from chunk f =
        let drains = drained_is stock is.sound in
        let drops = without_complete_is (drained stock) drains.sound in
        let gone = listed_rounds (complete_slabs (drained stock)) in
        let now = held_rounds (reaped stock) in
        let left : HeapSlab → Bool = λ h. not (is_among slabs h) in
        let stands = Contains-from_filtered left state.slabs f.slab (subst (λ (l : List HeapSlab). Contains l f.slab) (shrinks_leave state slabs) f.stands) in
        let free = sym (ap (λ (l : List LiveBuffer). held_at l (chunk_start setting f.slab f.index)) (shrinks_live state slabs)) ∙ f.free in
        let held = (is.held chunk).1 (record { slab = f.slab; stands = stands.0; its = f.its; index = f.index; within = f.within; number = f.number; free = free }) in
        let drained_there = Contains-permutation (held_rounds stock) (held_rounds (drained stock)) chunk drains.holds held in
        elim (Contains-append_cases gone now chunk (Contains-permutation (held_rounds (drained stock)) (gone ++ now) chunk drops.holds drained_there)) [
          | inl listed_there ↦ absurd (unlisted f.slab f.index chunk stands.0 f.within f.number (untrue (is_among slabs f.slab) stands.1) listed_there)
          | inr later ↦ later
        ]
      where
        untrue : (b : Bool) → not b ≡ true → b ≡ false
        untrue true e = absurd (true_false (sym e))
        untrue false e = refl

    pub reaped_stock : IsStockOf setting (after_shrinks state slabs) cache (reaped stock)
    reaped_stock = record {
      size = is.size;
      cpus = length-map stock.cpus (λ _. empty_cpu) ∙ is.cpus;
      sound = (without_complete_is (drained stock) drained_sound).sound;
      slabs = slabs_left;
      held = λ chunk. (to chunk, from chunk);
    }
