-- The slabs that a reap gives back: they are those of which no chunk lives, in their order.
use Rattle.std.proofs.Common.{◌≡◌, ◌≢◌, ℕ, zero, suc, ◌+◌, ◌-◌, ◌<◌, ◌≤◌, ◌⊎◌, inl, inr, Bool, true, false, cond, eqb, List, [], ◌∷◌, ◌++◌, length, get_or, map, take, sym, ap, ◌∙◌, subst, arith, is_lt, nat_cmp}
use Rattle.std.specs.Prelude.{AllPairs, filter}
use Rattle.std.specs.List.Sorted.{IsPermutation}
use Rattle.std.specs.declared.cmp.Ordering.{Ordering}
use Rattle.std.specs.declared.cmp.Ordering.TheVariants.{Less, Equal, Greater}
use Rattle.std.specs.Ordering.{MatchOrdering, ordering_then}
use Rattle.std.specs.Cmp.{ranks}
use Rattle.std.proofs.lemmas.Bool.Decides.{Decides-eqb}
use Rattle.std.proofs.lemmas.Bool.{cases_Bool, eq-eqb, eqb-false, eqb-true, ne_eqb, true≢false}
use Rattle.std.proofs.lemmas.List.{append-nil, get_or-map, length-map, map-append, take_more}
use Rattle.std.proofs.lemmas.List.Elements.{filter-append}
use Rattle.std.proofs.lemmas.List.Kept.{AllPairs-filter}
use Rattle.std.proofs.lemmas.Map.Keys.{IsDistinct-IsPermutation}
use Rattle.std.proofs.lemmas.Map.Made.{AllPairs-from_IsDistinct, IsDistinct-from_AllPairs}
use Rattle.std.proofs.lemmas.List.Sorted.{IsPermutation-map}
use Rattle.heap_ledger.specs.declared.slab_at.SlabAt.{SlabAt}
use Rattle.heap_ledger.specs.Commits.{GoesBefore}
use Rattle.plain_heap.proofs.PairsLemmas.{AllPairs-map}
use Rattle.heap_slabs.specs.declared.standing.Standing.{Standing}
use Rattle.heap_slabs.specs.Standing.{is_idle, as_slab_at}

-- ---- order

-- one slab stands before another, or has its place
abbrev Goes : SlabAt → SlabAt → Type 0
Goes one other = (one.cache < other.cache) ⊎ ((one.cache ≡ other.cache) × (one.base ≤ other.base))

goes_from : (a b : SlabAt) → is_lt (ordering_then (nat_cmp b.cache a.cache) (nat_cmp b.base a.base)) ≡ false → Goes a b
goes_from a b = go (nat_cmp b.cache a.cache) (nat_cmp b.base a.base) (ranks b.cache a.cache) (ranks b.base a.base)
  where
    go : (r s : Ordering) → MatchOrdering r (b.cache < a.cache) (b.cache ≡ a.cache) (a.cache < b.cache) → MatchOrdering s (b.base < a.base) (b.base ≡ a.base) (a.base < b.base) → is_lt (ordering_then r s) ≡ false → Goes a b
    go Less s h k e = absurd (true≢false e)
    go Greater s h k e = inl h
    go Equal Less h k e = absurd (true≢false e)
    go Equal Equal h k e = inr (sym h, omega (arith, k))
    go Equal Greater h k e = inr (sym h, omega (arith, k))

chain : (a b c : SlabAt) → Goes a b → Goes b c → Goes a c
chain a b c (inl h) (inl k) = inl (omega arith)
chain a b c (inl h) (inr k) = inl (omega (arith, k.0))
chain a b c (inr h) (inl k) = inl (omega (arith, h.0))
chain a b c (inr h) (inr k) = inr (h.0 ∙ k.0, omega (arith, h.1, k.1))

-- no item goes before the one in front of it
abbrev pub AreSorted : List SlabAt → Type 0
AreSorted xs = (k : ℕ) (d : SlabAt) → 0 ≤ k → k + 1 < length xs → is_lt (ordering_then (nat_cmp (get_or xs (k + 1) d).cache (get_or xs k d).cache) (nat_cmp (get_or xs (k + 1) d).base (get_or xs k d).base)) ≡ false

goes_on : (xs : List SlabAt) → AreSorted xs → (d : SlabAt) (i n : ℕ) → i + (n + 1) < length xs → Goes (get_or xs i d) (get_or xs (i + (n + 1)) d)
goes_on xs sorted d i zero lt = goes_from (get_or xs i d) (get_or xs (i + 1) d) (sorted i d (omega arith) lt)
goes_on xs sorted d i (suc n) lt =
    let next : i + (n + 1) + 1 ≡ i + (suc n + 1) = omega arith in
    let step : Goes (get_or xs (i + (n + 1)) d) (get_or xs (i + (n + 1) + 1) d) = goes_from (get_or xs (i + (n + 1)) d) (get_or xs (i + (n + 1) + 1) d) (sorted (i + (n + 1)) d (omega arith) (omega arith)) in
    chain (get_or xs i d) (get_or xs (i + (n + 1)) d) (get_or xs (i + (suc n + 1)) d) (goes_on xs sorted d i n (omega arith))
    (subst (λ (m : ℕ). Goes (get_or xs (i + (n + 1)) d) (get_or xs m d)) next step)

flips : (x y : ℕ) → eqb x y ≡ eqb y x
flips x y = elim (cases_Bool (eqb y x)) [
  | inl is ↦ eq-eqb x y (sym (eqb-true y x is)) ∙ sym is
  | inr isnt ↦ ne_eqb x y (λ e. eqb-false y x isnt (sym e)) ∙ sym isnt
]

-- pairs of what is seen are pairs of the items
pairs_seen : {X Y : Type 0} (R : Y → Y → Type 0) (f : X → Y) (xs : List X) → AllPairs R (map f xs) → AllPairs (λ a b. R (f a) (f b)) xs
pairs_seen {X} {Y} R f xs h i j d less lt =
    let inside : i < length xs = omega arith in
    subst (λ (z : Y). R z (f (get_or xs j d))) (get_or-map f xs i d (f d) inside) (subst (λ (z : Y). R (get_or (map f xs) i (f d)) z) (get_or-map f xs j d (f d) lt)
    (h i j (f d) less (omega (arith, length-map xs f))))

-- bases that differ stay so when the slabs change places
still_apart : (xs ys : List SlabAt) → AllPairs (λ a b. a.base ≢ b.base) xs → IsPermutation xs ys → AllPairs (λ a b. a.base ≢ b.base) ys
still_apart xs ys apart moved =
    let base : SlabAt → ℕ = λ s. s.base in
    let distinct = IsDistinct-from_AllPairs Decides-eqb (map base xs) (AllPairs-map (λ (a b : ℕ). a ≢ b) base xs apart) in
    let still = IsDistinct-IsPermutation eqb flips (map base xs) (map base ys) (IsPermutation-map base xs ys moved) distinct in
    pairs_seen (λ (a b : ℕ). a ≢ b) base ys (AllPairs-from_IsDistinct Decides-eqb (map base ys) still)

-- sorted, and each base once
pub sorted_in_order : (xs ys : List SlabAt) → AllPairs (λ a b. a.base ≢ b.base) xs → IsPermutation xs ys → AreSorted ys → AllPairs GoesBefore ys
sorted_in_order xs ys apart moved sorted i j d less lt =
    let still = still_apart xs ys apart moved in
    let at : i + ((j - i - 1) + 1) ≡ j = omega arith in
    let goes : Goes (get_or ys i d) (get_or ys j d) = subst (λ (m : ℕ). Goes (get_or ys i d) (get_or ys m d)) at (goes_on ys sorted d i (j - i - 1) (omega arith)) in
    elim goes [
      | inl low ↦ inl low
      | inr same ↦ inr (same.0, strictly (get_or ys i d).base (get_or ys j d).base same.1 (still i j d less lt))
    ]
  where
    strictly : (a b : ℕ) → a ≤ b → a ≢ b → a < b
    strictly a b le ne = omega (arith, ne)

pub listed_apart : (slabs : List Standing) → AllPairs (λ one other. one.base < other.base) slabs → AllPairs (λ a b. a.base ≢ b.base) (map as_slab_at (filter is_idle slabs))
listed_apart slabs rise =
    AllPairs-map (λ (a b : SlabAt). a.base ≢ b.base) as_slab_at (filter is_idle slabs)
    (AllPairs-filter (λ (a b : Standing). a.base ≢ b.base) is_idle slabs (λ i j d less lt e. omega (arith, rise i j d less lt, e)))

-- ---- lists that grow by one

pub listed_more : (slabs : List Standing) (index : ℕ) (d : Standing) → index < length slabs → map as_slab_at (take (index + 1) slabs) ≡ map as_slab_at (take index slabs) ++ as_slab_at (get_or slabs index d) ∷ []
listed_more slabs index d lt = ap (map as_slab_at) (take_more slabs index d lt) ∙ map-append as_slab_at (take index slabs) (get_or slabs index d ∷ [])

pub unused_more : (slabs : List Standing) (index : ℕ) (d : Standing) → index < length slabs → is_idle (get_or slabs index d) ≡ true → map as_slab_at (filter is_idle (take (index + 1) slabs)) ≡ map as_slab_at (filter is_idle (take index slabs)) ++ as_slab_at (get_or slabs index d) ∷ []
unused_more slabs index d lt is =
    ap (λ (xs : List Standing). map as_slab_at (filter is_idle xs)) (take_more slabs index d lt) ∙ ap (map as_slab_at) (filter-append is_idle (take index slabs) (get_or slabs index d ∷ []))
    ∙ map-append as_slab_at (filter is_idle (take index slabs)) (filter is_idle (get_or slabs index d ∷ []))
    ∙ ap (λ (b : Bool). map as_slab_at (filter is_idle (take index slabs)) ++ map as_slab_at (cond b (get_or slabs index d ∷ []) [])) is

pub used_more : (slabs : List Standing) (index : ℕ) (d : Standing) → index < length slabs → is_idle (get_or slabs index d) ≡ false → map as_slab_at (filter is_idle (take (index + 1) slabs)) ≡ map as_slab_at (filter is_idle (take index slabs))
used_more slabs index d lt isnt =
    ap (λ (xs : List Standing). map as_slab_at (filter is_idle xs)) (take_more slabs index d lt) ∙ ap (map as_slab_at) (filter-append is_idle (take index slabs) (get_or slabs index d ∷ []))
    ∙ map-append as_slab_at (filter is_idle (take index slabs)) (filter is_idle (get_or slabs index d ∷ []))
    ∙ ap (λ (b : Bool). map as_slab_at (filter is_idle (take index slabs)) ++ map as_slab_at (cond b (get_or slabs index d ∷ []) [])) isnt
    ∙ append-nil (map as_slab_at (filter is_idle (take index slabs)))

-- how many are listed of the first so many
pub listed_few : (slabs : List Standing) → length (map as_slab_at (filter is_idle slabs)) ≤ length slabs
listed_few [] = omega arith
listed_few (s ∷ slabs) = elim (cases_Bool (is_idle s)) [
  | inl is ↦ rw is (omega (arith, listed_few slabs))
  | inr isnt ↦ rw isnt (omega (arith, listed_few slabs))
]
