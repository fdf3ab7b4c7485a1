-- The places with each free chunk in its slab's list fit.
use Rattle.std.proofs.Common.{◌≡◌, ◌≢◌, ℕ, ◌+◌, ◌*◌, ◌<◌, ◌≤◌, Bool, true, not, List, [], ◌∷◌, ◌++◌, length, map, get_or, Option, Some, None, refl, sym, ap, ◌∙◌, subst, arith}
use Rattle.std.specs.Prelude.{Contains, filter, is_some}
use Rattle.std.specs.List.{flat_map, range_with_len}
use Rattle.std.specs.List.Sorted.{IsStrictlyIncreasing}
use Rattle.std.proofs.lemmas.Bool.{false≢true}
use Rattle.std.proofs.lemmas.List.{get_or-map, length-map}
use Rattle.std.proofs.lemmas.List.Elements.{Contains-get_or}
use Rattle.std.proofs.lemmas.List.FromFn.{get_or-map-range_with_len, get_or-range_with_len, length-map-range_with_len, length-range_with_len}
use Rattle.std.proofs.lemmas.List.Kept.{AllPairs-from_increasing, IsStrictlyIncreasing-filter}
use Rattle.core_format.specs.declared.items.CpuPlace.{CpuPlace}
use Rattle.core_format.specs.declared.items.DepotItem.{DepotItem}
use Rattle.core_format.specs.declared.whole.Core.{Core}
use Rattle.core_format.specs.Magazines.{depot_rounds_of, place_rounds}
use Rattle.core_rules.specs.Pieces.{empty_depot, empty_depots_of, empty_place, empty_places_of}
use Rattle.shelf.proofs.Lists.{AreDistinct}
use Rattle.plain_heap.specs.declared.held.Held.{Held}
use Rattle.plain_heap.specs.Setting.{Setting, geometry_in}
use Rattle.plain_heap.specs.State.{HeapSlab, State, chunk_start, held_at, is_live}
use Rattle.heap_ledger.specs.Ledger.{Ledger, run_setting, run_state}
use Rattle.heap_accounts.specs.Places.{cache_count}
use Rattle.heap_accounts.proofs.FreeRoundLemmas.{IsGood, number_one}
use Rattle.heap_accounts.proofs.SlabLemmas.{Contains-filtered, Contains-from_filtered, Contains-from_mapped, Contains-mapped, from_range, in_range}
use Rattle.heap_pictures.specs.declared.free_list.FreeList.{FreeList}
use Rattle.heap_pictures.specs.declared.free_places.FreePlaces.{FreePlaces}
use Rattle.heap_pictures.specs.Drawn.{list_at}
use Rattle.heap_pictures.specs.Pictures.{DrawnWith}
use Rattle.heap_books.specs.Fit.{AreCpuPlacesFor, AreDepotsFor, FitRun, IsDepotFor, IsFreeNumber, IsListFor, IsMagazineFor, IsPlaceFor, listed_in, in_magazines, numbers_in}
use Rattle.heap_books.specs.InLists.{AreInLists, DrawnInLists, free_chunks}
use Rattle.heap_books.proofs.FitLemmas.{slabs_agree}
use Rattle.heap_books.proofs.PieceLemmas.{All-standing, AreApart, distinct_whole, in_piece, in_whole}
use Rattle.heap_books.proofs.StandingLemmas.{list_found}

-- ---- empty magazines

none_placed : (caches : ℕ) (ns : List ℕ) → flat_map place_rounds (map (empty_place caches) ns) ≡ []
none_placed caches [] = refl
none_placed caches (n ∷ ns) = none_placed caches ns

none_full : (ns : List ℕ) → flat_map depot_rounds_of (map empty_depot ns) ≡ []
none_full [] = refl
none_full (n ∷ ns) = none_full ns

-- ---- the free chunks of a slab

not_some : (o : Option Held) → not (is_some o) ≡ true → o ≡ None
not_some None is = refl
not_some (Some held) is = absurd (false≢true is)

module _ (setting : Setting) (state : State) (slab : HeapSlab) where
  abbrev is_free : ℕ → Bool
  is_free index = not (is_live state (chunk_start setting slab index))

  abbrev rounds : ℕ
  rounds = (geometry_in setting slab.cache).rounds

  abbrev number : ℕ → ℕ
  number index = slab.first + index

  abbrev indices : List ℕ
  indices = filter is_free (range_with_len 0 rounds)

  -- a number among them
  record IsThere (chunk : ℕ) : Type 0 where
    index : ℕ
    within : index < rounds
    is : chunk ≡ slab.first + index
    free : held_at state.live (chunk_start setting slab index) ≡ None

  is_there : (chunk : ℕ) → Contains (free_chunks setting state slab) chunk → IsThere chunk
  is_there chunk there =
      let from = Contains-from_mapped number indices chunk there in
      let kept = Contains-from_filtered is_free (range_with_len 0 rounds) from.item from.there in
      let at = from_range 0 rounds from.item kept.0 in
      record {
        index = from.item;
        within = omega (arith, at.1, at.2);
        is = sym from.is;
        free = not_some (held_at state.live (chunk_start setting slab from.item)) kept.1;
      }

  there_if : (index : ℕ) → index < rounds → held_at state.live (chunk_start setting slab index) ≡ None
      → Contains (free_chunks setting state slab) (slab.first + index)
  there_if index lt free =
      Contains-mapped number indices index
      (Contains-filtered is_free (range_with_len 0 rounds) index (ap (λ (o : Option Held). not (is_some o)) free)
      (in_range 0 rounds index (omega arith) (omega (arith, lt))))

  range_rises : IsStrictlyIncreasing (range_with_len 0 rounds)
  range_rises k lt =
      let long = length-range_with_len 0 rounds in
      let one = get_or-range_with_len 0 rounds k 0 (omega (arith, lt, long)) in
      let two = get_or-range_with_len 0 rounds (k + 1) 0 (omega (arith, lt, long)) in
      omega (arith, one, two)

  free_rise : IsStrictlyIncreasing (free_chunks setting state slab)
  free_rise k lt =
      let long = length-map indices number in
      let up = IsStrictlyIncreasing-filter is_free (range_with_len 0 rounds) range_rises k (omega (arith, lt, long)) in
      let one = get_or-map number indices k 0 0 (omega (arith, lt, long)) in
      let two = get_or-map number indices (k + 1) 0 0 (omega (arith, lt, long)) in
      omega (arith, up, one, two)

  free_for : IsListFor setting slab (free_chunks setting state slab)
  free_for = record {
    rising = free_rise;
    own =
        All-standing (λ chunk. (slab.first ≤ chunk) × (chunk < slab.first + rounds)) (free_chunks setting state slab)
        (λ chunk there.
        let its = is_there chunk there in
        (omega (arith, its.is), omega (arith, its.is, its.within)));
  }

module _ (setting : Setting) (state : State) (places : FreePlaces) (good : IsGood setting state)
    (are : AreInLists setting state places) where
  empty_magazine : (cache : ℕ) → IsMagazineFor setting state cache []
  empty_magazine cache = record { few = omega arith; own = λ k d lt. absurd (omega arith) }

  places_empty : AreCpuPlacesFor setting state (empty_places_of setting.header.cpus (cache_count setting))
  places_empty =
      let caches = cache_count setting in
      let many = setting.header.cpus * caches in
      let long = length-map-range_with_len (empty_place caches) 0 many in
      record {
        many = long;
        each = λ k d lt.
            subst (IsPlaceFor setting state k)
            (sym (get_or-map-range_with_len (empty_place caches) 0 many k k d (omega (arith, lt, long)) (omega arith)))
            (record {
              cpu = refl;
              cache = refl;
              loaded = empty_magazine (empty_place caches k).cache;
              previous = empty_magazine (empty_place caches k).cache;
            });
      }

  depots_empty : AreDepotsFor setting state (empty_depots_of (cache_count setting))
  depots_empty =
      let caches = cache_count setting in
      let long = length-map-range_with_len empty_depot 0 caches in
      record {
        many = long;
        each = λ k d lt.
            subst (IsDepotFor setting state k)
            (sym (get_or-map-range_with_len empty_depot 0 caches k k d (omega (arith, lt, long)) (omega arith)))
            (record { few = omega arith; full = λ i e less. absurd (omega arith) });
      }

  -- all numbers stand in lists
  loaded_none : in_magazines places.cpu_places places.depots ≡ []
  loaded_none =
      ap (λ (l : List CpuPlace). flat_map place_rounds l ++ flat_map depot_rounds_of places.depots) are.cpu_places
      ∙ ap (λ (l : List DepotItem). flat_map place_rounds (empty_places_of setting.header.cpus (cache_count setting)) ++ flat_map depot_rounds_of l) are.depots
      ∙ ap (λ (l : List ℕ). l ++ flat_map depot_rounds_of (empty_depots_of (cache_count setting)))
      (none_placed (cache_count setting) (range_with_len 0 (setting.header.cpus * cache_count setting)))
      ∙ none_full (range_with_len 0 (cache_count setting))

  numbers_are : numbers_in places ≡ listed_in places.lists
  numbers_are = ap (λ (l : List ℕ). l ++ listed_in places.lists) loaded_none

  -- the slab of a list
  record HasSlab (list : FreeList) : Type 0 where
    slab : HeapSlab
    stands : Contains state.slabs slab
    base : slab.base ≡ list.base
    chunks : list.chunks ≡ free_chunks setting state slab

  has_slab : (list : FreeList) → Contains places.lists list → HasSlab list
  has_slab list there =
      let based = (are.lists.are.exactly list.base).0 (Contains-mapped (λ (l : FreeList). l.base) places.lists list there) in
      let from = Contains-from_mapped (λ (s : HeapSlab). s.base) state.slabs list.base based in
      record {
        slab = from.item;
        stands = from.there;
        base = from.is;
        chunks =
            sym (list_found places.lists are.lists.are.rising list there) ∙ ap (list_at places.lists) (sym from.is)
            ∙ are.lists.each from.item from.there;
      }

  -- no number stands in two lists
  lists_apart : (one other : FreeList) → Contains places.lists one → Contains places.lists other
      → one.base < other.base → AreApart one.chunks other.chunks
  lists_apart one other here there less n at also =
      let s = has_slab one here in
      let t = has_slab other there in
      let i = is_there setting state s.slab n (subst (λ (l : List ℕ). Contains l n) s.chunks at) in
      let j = is_there setting state t.slab n (subst (λ (l : List ℕ). Contains l n) t.chunks also) in
      let same : s.slab ≡ t.slab =
      number_one setting state good s.slab t.slab i.index j.index (record { stands = s.stands; within = i.within })
      (record { stands = t.stands; within = j.within }) (sym i.is ∙ j.is) in
      let bases : s.slab.base ≡ t.slab.base = ap (λ (x : HeapSlab). x.base) same in
      omega (arith, bases, s.base, t.base, less)

  listed_once : AreDistinct (listed_in places.lists)
  listed_once =
      distinct_whole (λ (l : FreeList). l.chunks) places.lists
      (All-standing (λ (l : FreeList). AreDistinct l.chunks) places.lists (λ list there.
      let its = has_slab list there in
      subst AreDistinct (sym its.chunks) (λ i j d less lt.
      let up = AllPairs-from_increasing (free_chunks setting state its.slab) (free_rise setting state its.slab) i j d less lt in
      λ same. omega (arith, up, same))))
      (λ i j d less lt.
      let within : i < length places.lists = omega arith in
      lists_apart (get_or places.lists i d) (get_or places.lists j d) (Contains-get_or places.lists i d within)
      (Contains-get_or places.lists j d lt) (are.lists.are.rising i j d less lt))

  to_free : (n : ℕ) → Contains (listed_in places.lists) n → IsFreeNumber setting state n
  to_free n there =
      let piece = in_piece (λ (l : FreeList). l.chunks) places.lists n there in
      let s = has_slab piece.0 piece.1 in
      let its = is_there setting state s.slab n (subst (λ (l : List ℕ). Contains l n) s.chunks piece.2) in (
        s.slab.cache,
        record {
          slab = s.slab;
          stands = s.stands;
          its = refl;
          index = its.index;
          within = its.within;
          number = its.is;
          free = its.free;
        },
      )

  from_free : (n : ℕ) → IsFreeNumber setting state n → Contains (listed_in places.lists) n
  from_free n free =
      let f = free.1 in
      let based = (are.lists.are.exactly f.slab.base).1 (Contains-mapped (λ (s : HeapSlab). s.base) state.slabs f.slab f.stands) in
      let from = Contains-from_mapped (λ (l : FreeList). l.base) places.lists f.slab.base based in
      let chunks : from.item.chunks ≡ free_chunks setting state f.slab =
      sym (list_found places.lists are.lists.are.rising from.item from.there) ∙ ap (list_at places.lists) from.is
      ∙ are.lists.each f.slab f.stands in
      let there = there_if setting state f.slab f.index f.within f.free in
      in_whole (λ (l : FreeList). l.chunks) places.lists from.item n from.there
      (subst (λ (l : List ℕ). Contains l n) (sym chunks)
      (subst (Contains (free_chunks setting state f.slab)) (sym f.number) there))

  -- so they fit
  pub in_lists_fit : FitRun setting state places
  in_lists_fit = record {
    cpu_places = subst (AreCpuPlacesFor setting state) (sym are.cpu_places) places_empty;
    depots = subst (AreDepotsFor setting state) (sym are.depots) depots_empty;
    lists = record {
      are = are.lists.are;
      each = λ slab stands. subst (IsListFor setting slab) (sym (are.lists.each slab stands)) (free_for setting state slab);
    };
    once = subst AreDistinct (sym numbers_are) listed_once;
    free = λ n. (
      λ there. to_free n (subst (λ (l : List ℕ). Contains l n) numbers_are there),
      λ free. subst (λ (l : List ℕ). Contains l n) (sym numbers_are) (from_free n free),
    );
  }

-- a core that is drawn with them has its free chunks in lists
pub drawn_in_lists : (ledger : Ledger) (places : FreePlaces) (core : Core)
    → AreInLists (run_setting ledger) (run_state ledger) places → DrawnWith ledger places core → DrawnInLists ledger core
drawn_in_lists ledger places core are drawn = record {
  tells = record {
    numbers = drawn.tells.numbers;
    roots = drawn.tells.roots;
    caches = drawn.tells.caches;
    slabs =
        slabs_agree (run_setting ledger) (run_state ledger) (λ slab. list_at places.lists slab.base)
        (free_chunks (run_setting ledger) (run_state ledger)) core.slabs are.lists.each drawn.tells.slabs;
    large = drawn.tells.large;
    logs = drawn.tells.logs;
  };
  cpu_places = drawn.cpu_places ∙ are.cpu_places;
  depots = drawn.depots ∙ are.depots;
}
