-- What the tests of places tell.
use Rattle.std.proofs.Common.{◌≡◌, ℕ, ◌+◌, ◌*◌, ◌/◌, ◌%◌, ◌<◌, ◌≤◌, ◌↔◌, Bool, true, false, eqb, List, [], ◌∷◌, length, get_or, Option, Some, None, refl, sym, ap, ◌∙◌, subst, arith, inl, inr}
use Rattle.std.specs.Prelude.{All, option_map}
use Rattle.std.specs.List.{list_all}
use Rattle.std.specs.Option.{option_map_or}
use Rattle.std.proofs.lemmas.Bool.{and_from, and_parts, both_ways, cases_lt, eq-eqb, eqb-true, false≢true, le-leb, leb-true, lt-ltb, ltb-true}
use Rattle.std.proofs.lemmas.List.{get_or_default}
use Rattle.std.proofs.lemmas.List.Elements.{All-cons, All-head, All-nil, All-tail, All-weaker}
use Rattle.depot.specs.declared.depot.TheConstants.{MAGAZINES}
use Rattle.core_format.specs.declared.items.CpuPlace.{CpuPlace}
use Rattle.core_format.specs.declared.items.DepotItem.{DepotItem}
use Rattle.plain_heap.specs.Setting.{Setting, geometry_in}
use Rattle.plain_heap.specs.State.{HeapSlab, State}
use Rattle.heap_slabs.specs.declared.standing.Standing.{Standing}
use Rattle.heap_slabs.specs.Standing.{HasNumber}
use Rattle.heap_accounts.specs.Places.{cache_count, slab_with_number}
use Rattle.heap_books.specs.Fit.{AreCpuPlacesFor, AreDepotsFor, AreOfCache, IsDepotFor, IsFullFor, IsMagazineFor, IsPlaceFor}
use Rattle.heap_books.specs.Tests.{is_depot, is_full, is_magazine, is_cache_number, is_own, is_cpu_place}
use Rattle.heap_books.proofs.StockLemmas.{no_depot, no_place}

-- ---- lists

-- where all items pass, each does, and the other way round
told_all : {X : Type 0} (p : X → Bool) (xs : List X) → list_all p xs ≡ true → All (λ x. p x ≡ true) xs
told_all {X} p [] passes = All-nil (λ (x : X). p x ≡ true)
told_all {X} p (x ∷ xs) passes =
    let parts = and_parts (p x) (list_all p xs) passes in
    All-cons (λ (x : X). p x ≡ true) x xs parts.0 (told_all p xs parts.1)

tells_all : {X : Type 0} (p : X → Bool) (xs : List X) → All (λ x. p x ≡ true) xs → list_all p xs ≡ true
tells_all p [] all = refl
tells_all {X} p (x ∷ xs) all =
    and_from (p x) (list_all p xs) (All-head (λ (x : X). p x ≡ true) x xs all)
    (tells_all p xs (All-tail (λ (x : X). p x ≡ true) x xs all))

-- what tells is false tells nothing
pub tells_not : {P : Type 0} → (P → ⊥) → (false ≡ true) ↔ P
tells_not never = (λ e. absurd (false≢true e), λ p. absurd (never p))

-- numbers of a slab
pub own_told : (slab : Standing) (chunks : List ℕ) → list_all (is_own slab) chunks ≡ true
    → All (λ chunk. HasNumber chunk slab) chunks
own_told slab chunks passes =
    All-weaker (λ (c : ℕ). is_own slab c ≡ true) (λ (c : ℕ). HasNumber c slab)
    (λ c is. let parts = and_parts _ _ is in (leb-true slab.first c parts.0, ltb-true c (slab.first + slab.rounds) parts.1))
    chunks (told_all (is_own slab) chunks passes)

pub own_tells : (slab : Standing) (chunks : List ℕ) → All (λ chunk. HasNumber chunk slab) chunks
    → list_all (is_own slab) chunks ≡ true
own_tells slab chunks all =
    tells_all (is_own slab) chunks
    (All-weaker (λ (c : ℕ). HasNumber c slab) (λ (c : ℕ). is_own slab c ≡ true)
    (λ c has. and_from _ _ (le-leb slab.first c has.0) (lt-ltb c (slab.first + slab.rounds) has.1)) chunks all)

module _ (setting : Setting) (state : State) where
  -- ---- magazines

  cache_told : (cache chunk : ℕ) → is_cache_number setting state cache chunk ≡ true
      → option_map (λ (slab : HeapSlab). slab.cache) (slab_with_number setting state.slabs chunk) ≡ Some cache
  cache_told cache chunk passes = go (slab_with_number setting state.slabs chunk) passes
    where
      go : (found : Option HeapSlab) → option_map_or (λ (slab : HeapSlab). eqb slab.cache cache) found false ≡ true
          → option_map (λ (slab : HeapSlab). slab.cache) found ≡ Some cache
      go None is = absurd (false≢true is)
      go (Some slab) is = ap Some (eqb-true slab.cache cache is)

  cache_tells : (cache chunk : ℕ)
      → option_map (λ (slab : HeapSlab). slab.cache) (slab_with_number setting state.slabs chunk) ≡ Some cache
      → is_cache_number setting state cache chunk ≡ true
  cache_tells cache chunk is = go (slab_with_number setting state.slabs chunk) is
    where
      go : (found : Option HeapSlab) → option_map (λ (slab : HeapSlab). slab.cache) found ≡ Some cache
          → option_map_or (λ (slab : HeapSlab). eqb slab.cache cache) found false ≡ true
      go None same = absurd (cc same)
      go (Some slab) same = let its : slab.cache ≡ cache = cc in eq-eqb slab.cache cache its

  all_of_cache : (cache : ℕ) (chunks : List ℕ) → list_all (is_cache_number setting state cache) chunks ≡ true
      → AreOfCache setting state cache chunks
  all_of_cache cache chunks passes =
      All-weaker (λ (c : ℕ). is_cache_number setting state cache c ≡ true)
      (λ (c : ℕ). option_map (λ (slab : HeapSlab). slab.cache) (slab_with_number setting state.slabs c) ≡ Some cache)
      (cache_told cache) chunks (told_all (is_cache_number setting state cache) chunks passes)

  of_cache_all : (cache : ℕ) (chunks : List ℕ) → AreOfCache setting state cache chunks
      → list_all (is_cache_number setting state cache) chunks ≡ true
  of_cache_all cache chunks all =
      tells_all (is_cache_number setting state cache) chunks
      (All-weaker (λ (c : ℕ). option_map (λ (slab : HeapSlab). slab.cache) (slab_with_number setting state.slabs c) ≡ Some cache)
      (λ (c : ℕ). is_cache_number setting state cache c ≡ true) (cache_tells cache) chunks all)

  magazine_told : (cache : ℕ) (chunks : List ℕ) → is_magazine setting state cache chunks ≡ true
      → IsMagazineFor setting state cache chunks
  magazine_told cache chunks passes =
      let parts = and_parts _ _ passes in
      record {
        few = leb-true (length chunks) (geometry_in setting cache).magazine parts.0;
        own = all_of_cache cache chunks parts.1;
      }

  magazine_tells : (cache : ℕ) (chunks : List ℕ) → IsMagazineFor setting state cache chunks
      → is_magazine setting state cache chunks ≡ true
  magazine_tells cache chunks is =
      and_from _ _ (le-leb (length chunks) (geometry_in setting cache).magazine is.few) (of_cache_all cache chunks is.own)

  full_told : (cache : ℕ) (chunks : List ℕ) → is_full setting state cache chunks ≡ true
      → IsFullFor setting state cache chunks
  full_told cache chunks passes =
      let parts = and_parts _ _ passes in
      record {
        full = eqb-true (length chunks) (geometry_in setting cache).magazine parts.0;
        own = all_of_cache cache chunks parts.1;
      }

  full_tells : (cache : ℕ) (chunks : List ℕ) → IsFullFor setting state cache chunks
      → is_full setting state cache chunks ≡ true
  full_tells cache chunks is =
      and_from _ _ (eq-eqb (length chunks) (geometry_in setting cache).magazine is.full) (of_cache_all cache chunks is.own)

  -- ---- magazines of CPUs

  place_told : (index : ℕ) (place : CpuPlace) → is_cpu_place setting state index place ≡ true
      → IsPlaceFor setting state index place
  place_told index place passes =
      let last = and_parts _ _ passes in
      let loaded = and_parts _ _ last.0 in
      let both = and_parts _ _ loaded.0 in
      record {
        cpu = eqb-true place.cpu (index / cache_count setting) both.0;
        cache = eqb-true place.cache (index % cache_count setting) both.1;
        loaded = magazine_told place.cache place.loaded loaded.1;
        previous = magazine_told place.cache place.previous last.1;
      }

  place_tells : (index : ℕ) (place : CpuPlace) → IsPlaceFor setting state index place
      → is_cpu_place setting state index place ≡ true
  place_tells index place is =
      and_from _ _
      (and_from _ _
      (and_from _ _ (eq-eqb place.cpu (index / cache_count setting) is.cpu)
      (eq-eqb place.cache (index % cache_count setting) is.cache))
      (magazine_tells place.cache place.loaded is.loaded))
      (magazine_tells place.cache place.previous is.previous)

  -- the magazines before an index pass
  abbrev pub PlacesPass : List CpuPlace → ℕ → Type 0
  PlacesPass places index = (k : ℕ) → k < index → is_cpu_place setting state k (get_or places k no_place) ≡ true

  pub no_place_passes : (places : List CpuPlace) (index : ℕ) → index ≡ 0 → PlacesPass places index
  no_place_passes places index none k lt = absurd (omega arith)

  pub places_more : (places : List CpuPlace) (index : ℕ) (place : CpuPlace) → index < length places
      → place ≡ get_or places index place → PlacesPass places index → is_cpu_place setting state index place ≡ true
      → PlacesPass places (index + 1)
  places_more places index place lt is before passes k below = elim (cases_lt k index) [
    | inl less ↦ before k less
    | inr more ↦
        let same : index ≡ k = omega arith in
        subst (λ (n : ℕ). is_cpu_place setting state n (get_or places n no_place) ≡ true) same
        (subst (λ (p : CpuPlace). is_cpu_place setting state index p ≡ true)
        (is ∙ get_or_default places index place no_place lt) passes)
  ]

  pub places_pass : (places : List CpuPlace) (index : ℕ) → length places ≡ setting.header.cpus * cache_count setting
      → length places ≤ index → PlacesPass places index → AreCpuPlacesFor setting state places
  places_pass places index many all passes = record {
    many = many;
    each = λ k d lt.
        subst (IsPlaceFor setting state k) (get_or_default places k no_place d lt)
        (place_told k (get_or places k no_place) (passes k (omega arith)));
  }

  pub place_fails : (places : List CpuPlace) (index : ℕ) (place : CpuPlace) → index < length places
      → place ≡ get_or places index place → is_cpu_place setting state index place ≡ false
      → AreCpuPlacesFor setting state places → ⊥
  place_fails places index place lt is fails are =
      both_ways (is_cpu_place setting state index place) fails
      (place_tells index place (subst (IsPlaceFor setting state index) (sym is) (are.each index place lt)))

  -- ---- depots

  depot_told : (cache : ℕ) (depot : DepotItem) → is_depot setting state cache depot ≡ true
      → IsDepotFor setting state cache depot
  depot_told cache depot passes =
      let parts = and_parts _ _ passes in
      record {
        few = leb-true (length depot.full) MAGAZINES parts.0;
        full =
            All-weaker (λ (m : List ℕ). is_full setting state cache m ≡ true) (IsFullFor setting state cache)
            (full_told cache) depot.full (told_all (is_full setting state cache) depot.full parts.1);
      }

  depot_tells : (cache : ℕ) (depot : DepotItem) → IsDepotFor setting state cache depot
      → is_depot setting state cache depot ≡ true
  depot_tells cache depot is =
      and_from _ _ (le-leb (length depot.full) MAGAZINES is.few)
      (tells_all (is_full setting state cache) depot.full
      (All-weaker (IsFullFor setting state cache) (λ (m : List ℕ). is_full setting state cache m ≡ true)
      (full_tells cache) depot.full is.full))

  -- the depots before an index pass
  abbrev pub DepotsPass : List DepotItem → ℕ → Type 0
  DepotsPass depots index = (k : ℕ) → k < index → is_depot setting state k (get_or depots k no_depot) ≡ true

  pub no_depot_passes : (depots : List DepotItem) (index : ℕ) → index ≡ 0 → DepotsPass depots index
  no_depot_passes depots index none k lt = absurd (omega arith)

  pub depots_more : (depots : List DepotItem) (index : ℕ) (depot : DepotItem) → index < length depots
      → depot ≡ get_or depots index depot → DepotsPass depots index → is_depot setting state index depot ≡ true
      → DepotsPass depots (index + 1)
  depots_more depots index depot lt is before passes k below = elim (cases_lt k index) [
    | inl less ↦ before k less
    | inr more ↦
        let same : index ≡ k = omega arith in
        subst (λ (n : ℕ). is_depot setting state n (get_or depots n no_depot) ≡ true) same
        (subst (λ (p : DepotItem). is_depot setting state index p ≡ true)
        (is ∙ get_or_default depots index depot no_depot lt) passes)
  ]

  pub depots_pass : (depots : List DepotItem) (index : ℕ) → length depots ≡ cache_count setting
      → length depots ≤ index → DepotsPass depots index → AreDepotsFor setting state depots
  depots_pass depots index many all passes = record {
    many = many;
    each = λ k d lt.
        subst (IsDepotFor setting state k) (get_or_default depots k no_depot d lt)
        (depot_told k (get_or depots k no_depot) (passes k (omega arith)));
  }

  pub depot_fails : (depots : List DepotItem) (index : ℕ) (depot : DepotItem) → index < length depots
      → depot ≡ get_or depots index depot → is_depot setting state index depot ≡ false
      → AreDepotsFor setting state depots → ⊥
  depot_fails depots index depot lt is fails are =
      both_ways (is_depot setting state index depot) fails
      (depot_tells index depot (subst (IsDepotFor setting state index) (sym is) (are.each index depot lt)))
