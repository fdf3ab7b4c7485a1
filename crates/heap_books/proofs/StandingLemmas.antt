-- Lists of the slabs as they stand are those of the slabs of the run.
use Rattle.std.proofs.Common.{◌≡◌, ℕ, ◌+◌, ◌*◌, ◌<◌, Bool, true, false, not, cond, eqb, List, [], ◌∷◌, ◌++◌, length, map, get_or, Option, refl, sym, ap, ◌∙◌, subst, arith, inl, inr}
use Rattle.std.specs.Prelude.{All, AllPairs, Contains, filter}
use Rattle.std.specs.List.{flat_map, range_with_len}
use Rattle.std.specs.Option.{option_map_or}
use Rattle.std.proofs.lemmas.Bool.{eq-eqb, eqb-true}
use Rattle.std.proofs.lemmas.List.{get_or-map, length-map}
use Rattle.std.proofs.lemmas.List.Elements.{Contains-get_or}
use Rattle.std.proofs.Math.Nat.{mul-lt-mul_of_pos_right}
use Rattle.plain_heap.specs.Setting.{Setting, geometry_in}
use Rattle.plain_heap.specs.State.{HeapSlab, State, chunk_start, is_live}
use Rattle.plain_heap.proofs.PairsLemmas.{AllPairs-map, pair_of}
use Rattle.plain_heap.proofs.SlabOfChunk.{find_alone}
use Rattle.heap_slabs.specs.declared.standing.Standing.{Standing}
use Rattle.heap_slabs.specs.HeapSlabs.{AreStandingSlabs, standing_in}
use Rattle.heap_slabs.specs.Standing.{AreStanding, HasNumber}
use Rattle.heap_accounts.proofs.SlabLemmas.{ComesFrom, Contains-from_mapped, Contains-mapped}
use Rattle.heap_pictures.specs.declared.free_list.FreeList.{FreeList}
use Rattle.heap_pictures.specs.Drawn.{AreListsOf, list_at, no_list, no_standing}
use Rattle.heap_books.specs.Fit.{AreListsFor, IsListFor}
use Rattle.heap_books.specs.InLists.{AreFreeLists, free_at, free_list_of}
use Rattle.heap_books.specs.Tests.{AreListsAt, IsListAt}
use Rattle.heap_books.proofs.OneListLemmas.{same_items}

-- the list of an item is the one at its base
pub list_found : (lists : List FreeList) → AllPairs (λ one other. one.base < other.base) lists → (list : FreeList)
    → Contains lists list → list_at lists list.base ≡ list.chunks
list_found lists rising list there =
    ap (λ (o : Option FreeList). option_map_or (λ (l : FreeList). l.chunks) o [])
    (find_alone (λ (l : FreeList). eqb l.base list.base) lists list there (eq-eqb list.base list.base refl)
    (λ other found passes.
    let equal : other.base ≡ list.base = eqb-true other.base list.base passes in
    elim (pair_of (λ (a b : FreeList). a.base < b.base) lists other list rising found there) [
      | inl one ↦ one
      | inr (inl below) ↦ absurd (omega (arith, below, equal))
      | inr (inr above) ↦ absurd (omega (arith, above, equal))
    ]))

-- ---- free chunks

module _ (setting : Setting) (state : State) (slab : HeapSlab) where
  abbrev lives : ℕ → Bool
  lives index = is_live state (chunk_start setting slab index)

  abbrev number : ℕ → ℕ
  number index = slab.first + index

  -- the chunks of a slab as it stands begin where those of the slab do
  starts_same : (index : ℕ)
      → (standing_in setting state slab).start + index * (standing_in setting state slab).chunk
      ≡ chunk_start setting slab index
  starts_same index = omega arith

  free_same : (ns : List ℕ)
      → flat_map (free_at state (standing_in setting state slab)) ns
      ≡ map number (filter (λ (n : ℕ). not (lives n)) ns)
  free_same [] = refl
  free_same (n ∷ ns) =
      subst (λ (address : ℕ). cond (is_live state address) [] (number n ∷ [])
      ++ flat_map (free_at state (standing_in setting state slab)) ns
      ≡ map number (cond (not (lives n)) (n ∷ filter (λ (k : ℕ). not (lives k)) ns) (filter (λ (k : ℕ). not (lives k)) ns)))
      (sym (starts_same n)) (by_test (lives n) (free_same ns))
    where
      by_test : (b : Bool)
          → flat_map (free_at state (standing_in setting state slab)) ns
          ≡ map number (filter (λ (k : ℕ). not (lives k)) ns)
          → cond b [] (number n ∷ []) ++ flat_map (free_at state (standing_in setting state slab)) ns
          ≡ map number (cond (not b) (n ∷ filter (λ (k : ℕ). not (lives k)) ns) (filter (λ (k : ℕ). not (lives k)) ns))
      by_test true rest = rest
      by_test false rest = ap (λ (l : List ℕ). number n ∷ l) rest

-- ---- the slabs as they stand

module _ (setting : Setting) (state : State) (standing : List Standing) (sound : AreStanding standing)
    (exactly : AreStandingSlabs setting state standing) where
  -- they rise by their bases
  bases_rise : AllPairs (λ (a b : Standing). a.base < b.base) standing
  bases_rise i j d less lt =
      let one = get_or standing i d in
      let its = sound.each i d (omega arith) in
      let some : 0 * one.chunk < one.rounds * one.chunk = mul-lt-mul_of_pos_right its.rounds its.chunk in
      omega (arith, its.from, some, sound.apart i j d less lt)

  -- each is a slab of the run, and each slab of the run is one of them
  comes_from : (k : ℕ) (d : Standing) → k < length standing
      → ComesFrom (standing_in setting state) state.slabs (get_or standing k d)
  comes_from k d lt =
      Contains-from_mapped (standing_in setting state) state.slabs (get_or standing k d)
      ((exactly (get_or standing k d)).0 (Contains-get_or standing k d lt))

  stands_at : (slab : HeapSlab) → Contains state.slabs slab → Contains standing (standing_in setting state slab)
  stands_at slab stands =
      (exactly (standing_in setting state slab)).1 (Contains-mapped (standing_in setting state) state.slabs slab stands)

  -- ---- lists with the same bases

  module _ (lists : List FreeList) (long : length lists ≡ length standing)
      (same : (k : ℕ) (d : Standing) (e : FreeList) → k < length lists → (get_or lists k e).base ≡ (get_or standing k d).base) where
    -- the list of a slab
    record HasList (slab : HeapSlab) : Type 0 where
      index : ℕ
      within : index < length lists
      is : get_or standing index (standing_in setting state slab) ≡ standing_in setting state slab
      base : (get_or lists index no_list).base ≡ slab.base

    has_list : (slab : HeapSlab) → Contains state.slabs slab → HasList slab
    has_list slab stands =
        let there = stands_at slab stands in
        let lt : there.0 < length lists = omega (arith, there.1, long) in
        record {
          index = there.0;
          within = lt;
          is = there.2;
          base = same there.0 (standing_in setting state slab) no_list lt ∙ ap (λ (s : Standing). s.base) there.2;
        }

    lists_rise : AllPairs (λ (a b : FreeList). a.base < b.base) lists
    lists_rise i j d less lt =
        let one = same i no_standing d (omega arith) in
        let two = same j no_standing d lt in
        let up = bases_rise i j no_standing less (omega (arith, lt, long)) in
        omega (arith, one, two, up)

    -- they are the lists of the run
    lists_are : AreListsOf state lists
    lists_are = record { rising = lists_rise; exactly = λ base. (to base, from base) }
      where
        to : (base : ℕ) → Contains (map (λ (l : FreeList). l.base) lists) base
            → Contains (map (λ (s : HeapSlab). s.base) state.slabs) base
        to base there =
            let item = Contains-from_mapped (λ (l : FreeList). l.base) lists base there in
            let k = item.there.0 in
            let lt : k < length lists = item.there.1 in
            let its : (get_or lists k item.item).base ≡ base = ap (λ (l : FreeList). l.base) item.there.2 ∙ item.is in
            let slab = comes_from k no_standing (omega (arith, lt, long)) in
            let equal : slab.item.base ≡ base =
            ap (λ (s : Standing). s.base) slab.is ∙ sym (same k no_standing item.item lt) ∙ its in
            subst (Contains (map (λ (s : HeapSlab). s.base) state.slabs)) equal
            (Contains-mapped (λ (s : HeapSlab). s.base) state.slabs slab.item slab.there)

        from : (base : ℕ) → Contains (map (λ (s : HeapSlab). s.base) state.slabs) base
            → Contains (map (λ (l : FreeList). l.base) lists) base
        from base there =
            let slab = Contains-from_mapped (λ (s : HeapSlab). s.base) state.slabs base there in
            let its = has_list slab.item slab.there in
            subst (Contains (map (λ (l : FreeList). l.base) lists)) (its.base ∙ slab.is)
            (Contains-mapped (λ (l : FreeList). l.base) lists (get_or lists its.index no_list)
            (Contains-get_or lists its.index no_list its.within))

    -- the list at the base of a slab
    list_is : (slab : HeapSlab) (its : HasList slab) → list_at lists slab.base ≡ (get_or lists its.index no_list).chunks
    list_is slab its =
        ap (list_at lists) (sym its.base)
        ∙ list_found lists lists_rise (get_or lists its.index no_list) (Contains-get_or lists its.index no_list its.within)

  -- ---- tests

  pub lists_for : (lists : List FreeList) → AreListsAt standing lists → AreListsFor setting state lists
  lists_for lists at = record {
    are = lists_are lists at.0 same;
    each = λ slab stands.
        let its = has_list lists at.0 same slab stands in
        let own = subst (λ (s : Standing). IsListAt s (get_or lists its.index no_list)) its.is
        (at.1 its.index (standing_in setting state slab) no_list its.within) in
        subst (IsListFor setting slab) (sym (list_is lists at.0 same slab its))
        (record { rising = own.rising; own = own.own });
  }
    where
      same : (k : ℕ) (d : Standing) (e : FreeList) → k < length lists
          → (get_or lists k e).base ≡ (get_or standing k d).base
      same k d e lt = (at.1 k d e lt).base

  pub lists_at : (lists : List FreeList) → AreListsFor setting state lists → AreListsAt standing lists
  lists_at lists for = (long, at)
    where
      same_bases : map (λ (l : FreeList). l.base) lists ≡ map (λ (s : Standing). s.base) standing
      same_bases =
          same_items (λ a b. a < b) (map (λ (l : FreeList). l.base) lists) (map (λ (s : Standing). s.base) standing)
          (λ a b less more. omega (arith, less, more))
          (AllPairs-map (λ a b. a < b) (λ (l : FreeList). l.base) lists for.are.rising)
          (AllPairs-map (λ a b. a < b) (λ (s : Standing). s.base) standing bases_rise)
          (λ base there.
          let slab = Contains-from_mapped (λ (s : HeapSlab). s.base) state.slabs base ((for.are.exactly base).0 there) in
          subst (Contains (map (λ (s : Standing). s.base) standing)) slab.is
          (Contains-mapped (λ (s : Standing). s.base) standing (standing_in setting state slab.item)
          (stands_at slab.item slab.there)))
          (λ base there.
          let one = Contains-from_mapped (λ (s : Standing). s.base) standing base there in
          let slab = Contains-from_mapped (standing_in setting state) state.slabs one.item ((exactly one.item).0 one.there) in
          let equal : slab.item.base ≡ base = ap (λ (s : Standing). s.base) slab.is ∙ one.is in
          (for.are.exactly base).1
          (subst (Contains (map (λ (s : HeapSlab). s.base) state.slabs)) equal
          (Contains-mapped (λ (s : HeapSlab). s.base) state.slabs slab.item slab.there)))

      long : length lists ≡ length standing
      long =
          sym (length-map lists (λ (l : FreeList). l.base)) ∙ ap (λ (l : List ℕ). length l) same_bases
          ∙ length-map standing (λ (s : Standing). s.base)

      at : (k : ℕ) (d : Standing) (e : FreeList) → k < length lists → IsListAt (get_or standing k d) (get_or lists k e)
      at k d e lt =
          let within : k < length standing = omega (arith, lt, long) in
          let base : (get_or lists k e).base ≡ (get_or standing k d).base =
          sym (get_or-map (λ (l : FreeList). l.base) lists k e 0 lt) ∙ ap (λ (l : List ℕ). get_or l k 0) same_bases
          ∙ get_or-map (λ (s : Standing). s.base) standing k d 0 within in
          let slab = comes_from k d within in
          let based : slab.item.base ≡ (get_or lists k e).base = ap (λ (s : Standing). s.base) slab.is ∙ sym base in
          let chunks : list_at lists slab.item.base ≡ (get_or lists k e).chunks =
          ap (list_at lists) based
          ∙ list_found lists for.are.rising (get_or lists k e) (Contains-get_or lists k e lt) in
          let its = subst (IsListFor setting slab.item) chunks (for.each slab.item slab.there) in
          record {
            base = base;
            rising = its.rising;
            own = subst (λ (s : Standing). All (λ chunk. HasNumber chunk s) (get_or lists k e).chunks) slab.is its.own;
          }

  -- ---- free lists

  pub free_lists_are : AreFreeLists setting state (map (free_list_of state) standing)
  free_lists_are = record {
    are = lists_are lists long same;
    each = λ slab stands.
        let its = has_list lists long same slab stands in
        let within : its.index < length standing = omega (arith, its.within, long) in
        list_is lists long same slab its
        ∙ ap (λ (l : FreeList). l.chunks)
        (get_or-map (free_list_of state) standing its.index (standing_in setting state slab) no_list within
        ∙ ap (free_list_of state) its.is)
        ∙ free_same setting state slab (range_with_len 0 (geometry_in setting slab.cache).rounds);
  }
    where
      lists : List FreeList
      lists = map (free_list_of state) standing

      long : length (map (free_list_of state) standing) ≡ length standing
      long = length-map standing (free_list_of state)

      same : (k : ℕ) (d : Standing) (e : FreeList) → k < length (map (free_list_of state) standing)
          → (get_or (map (free_list_of state) standing) k e).base ≡ (get_or standing k d).base
      same k d e lt = ap (λ (l : FreeList). l.base) (get_or-map (free_list_of state) standing k d e (omega (arith, lt, long)))
