-- What is read from shelves: the magazines of a CPU for a cache by their place among all, those of a depot, and the list
-- of a slab by its base.
use Rattle.std.proofs.Common.{◌≡◌, ◌≢◌, ℕ, ◌+◌, ◌*◌, ◌%◌, ◌<◌, ◌≤◌, true, List, [], ◌∷◌, ◌++◌, length, map, take, Option, Some, None, eqb, refl, sym, ap, ◌∙◌, arith, inl, inr}
use Rattle.std.specs.Prelude.{All, AllPairs, Contains, find}
use Rattle.std.specs.List.{range_with_len}
use Rattle.std.specs.Option.{option_map_or}
use Rattle.std.proofs.lemmas.Bool.{eq-eqb, eqb-true}
use Rattle.std.proofs.lemmas.List.{take_all}
use Rattle.std.proofs.lemmas.List.Elements.{All-contains}
use Rattle.std.proofs.lemmas.List.FromFn.{map-range_with_len_more}
use Rattle.std.proofs.lemmas.Nat.{div-mul-add, mod-mul-add}
use Rattle.core_format.specs.declared.items.CpuPlace.{CpuPlace}
use Rattle.slab_layer.specs.Slab.{IsSlab, Slab}
use Rattle.slab_layer.specs.Slabs.{AreSlabs, HasListAt}
use Rattle.magazine.specs.Magazine.{Magazine}
use Rattle.shelf.specs.Stock.{Stock}
use Rattle.plain_heap.proofs.PairsLemmas.{pair_of}
use Rattle.plain_heap.proofs.SlabOfChunk.{find_alone, find_found}
use Rattle.heap_accounts.specs.Places.{Places, stock_at}
use Rattle.heap_pictures.specs.Items.{place_item, place_items}
use Rattle.heap_core.specs.FreePlaces.{list_from, magazines_in}

-- ---- magazines by their place

-- those of a CPU for a cache stand behind those of the CPUs and caches before it
pub place_there : (places : Places) (cpu cache : ℕ) → cache < length places
    → place_item places (cpu * length places + cache) ≡ magazines_in cpu cache (stock_at places cache)
place_there places cpu cache within =
    let index : ℕ = cpu * length places + cache in
    ap (λ (c : ℕ). magazines_in c (index % length places) (stock_at places (index % length places)))
    (div-mul-add cpu (length places) cache within)
    ∙ ap (λ (c : ℕ). magazines_in cpu c (stock_at places c)) (mod-mul-add cpu (length places) cache within)

-- one cache more of a CPU
pub places_more : (places : Places) (cpu cache : ℕ) (stock : Stock) (items new : List CpuPlace) (place : CpuPlace)
    → cache < length places → stock_at places cache ≡ stock
    → items ≡ map (place_item places) (range_with_len 0 (cpu * length places + cache))
    → place ≡ magazines_in cpu cache stock → new ≡ items ++ place ∷ []
    → new ≡ map (place_item places) (range_with_len 0 (cpu * length places + (cache + 1)))
places_more places cpu cache stock items new place within there so_far is more =
    let index : ℕ = cpu * length places + cache in
    let so_many : ℕ → List CpuPlace = λ n. map (place_item places) (range_with_len 0 n) in
    let its : place ≡ place_item places index =
    is ∙ ap (magazines_in cpu cache) (sym there) ∙ sym (place_there places cpu cache within) in
    let next : index + 1 ≡ cpu * length places + (cache + 1) = omega arith in
    more ∙ ap (λ (l : List CpuPlace). l ++ place ∷ []) so_far ∙ ap (λ (p : CpuPlace). so_many index ++ p ∷ []) its
    ∙ sym (map-range_with_len_more (place_item places) 0 index index (omega arith)) ∙ ap so_many next

-- all caches of a CPU
pub places_of_cpu : (places : Places) (cpu cache : ℕ) (items : List CpuPlace) → cache ≡ length places
    → items ≡ map (place_item places) (range_with_len 0 (cpu * length places + cache))
    → items ≡ place_items (cpu + 1) places
places_of_cpu places cpu cache items all so_far =
    let ends : cpu * length places + cache ≡ (cpu + 1) * length places = grind arith in
    so_far ∙ ap (λ (n : ℕ). map (place_item places) (range_with_len 0 n)) ends

-- ---- magazines of a depot

-- magazines of one size, and the rounds of magazines
abbrev full_of : ℕ → List (List ℕ) → List Magazine
full_of size full = map (λ rounds. record { size = size; rounds = rounds }) full

abbrev rounds_in : List Magazine → List (List ℕ)
rounds_in magazines = map (λ magazine. magazine.rounds) magazines

-- the rounds of full magazines are those that they were made of
full_rounds : (size : ℕ) (full : List (List ℕ)) → rounds_in (full_of size full) ≡ full
full_rounds size [] = refl
full_rounds size (rounds ∷ full) = ap (λ (l : List (List ℕ)). rounds ∷ l) (full_rounds size full)

-- where all of them were read
pub depot_read : (size index : ℕ) (full items : List (List ℕ)) (magazines : List Magazine)
    → magazines ≡ full_of size full → length magazines ≤ index → items ≡ rounds_in (take index magazines)
    → items ≡ full
depot_read size index full items magazines are all so_far =
    so_far ∙ ap (λ (l : List Magazine). rounds_in l) (take_all index magazines all ∙ are) ∙ full_rounds size full

-- ---- lists by the base of their slab

-- of slabs with different bases, the one at a base is found there
pub base_alone : (slabs : List Slab) (slab : Slab) (base : ℕ) → AllPairs (λ one other. one.base ≢ other.base) slabs
    → Contains slabs slab → slab.base ≡ base → find (λ (its : Slab). eqb its.base base) slabs ≡ Some slab
base_alone slabs slab base apart there is =
    find_alone (λ (its : Slab). eqb its.base base) slabs slab there (eq-eqb slab.base base is) alone
  where
    alone : (other : Slab) → Contains slabs other → eqb other.base base ≡ true → other ≡ slab
    alone other stands same =
        let equal : other.base ≡ slab.base = eqb-true other.base base same ∙ sym is in
        elim (pair_of (λ (a b : Slab). a.base ≢ b.base) slabs other slab apart stands there) [
          | inl one ↦ one
          | inr (inl unequal) ↦ absurd (unequal equal)
          | inr (inr unequal) ↦ absurd (unequal (sym equal))
        ]

-- and by its first chunk, which no other slab has
pub first_alone : (slabs : List Slab) (slab : Slab) (first : ℕ) → AreSlabs slabs → Contains slabs slab
    → slab.first ≡ first → find (λ (its : Slab). eqb its.first first) slabs ≡ Some slab
first_alone slabs slab first are there is =
    find_alone (λ (its : Slab). eqb its.first first) slabs slab there (eq-eqb slab.first first is) alone
  where
    alone : (other : Slab) → Contains slabs other → eqb other.first first ≡ true → other ≡ slab
    alone other stands same =
        let equal : other.first ≡ slab.first = eqb-true other.first first same ∙ sym is in
        let some = (All-contains IsSlab slabs slab are.each there).some in
        let others = (All-contains IsSlab slabs other are.each stands).some in
        elim (pair_of (λ (a b : Slab). a.first + a.count ≤ b.first) slabs other slab are.apart stands there) [
          | inl one ↦ one
          | inr (inl below) ↦ absurd (omega (arith, below, equal, others))
          | inr (inr above) ↦ absurd (omega (arith, above, equal, some))
        ]

-- the list that a stock has at a base
pub list_found : (stock : Stock) (base : ℕ) (rounds : List ℕ)
    → AllPairs (λ one other. one.base ≢ other.base) stock.slabs → HasListAt stock.slabs base rounds
    → list_from stock base ≡ rounds
list_found stock base rounds apart has =
    let slab : Slab = has.1 in
    ap (λ (o : Option Slab). option_map_or (λ (its : Slab). its.list) o [])
    (base_alone stock.slabs slab base apart (has.0, has.2, has.3) has.4.0)
    ∙ has.4.1

-- and where it has none there
pub list_missing : (stock : Stock) (base : ℕ) → All (λ slab. slab.base ≢ base) stock.slabs → list_from stock base ≡ []
list_missing stock base none = by_found (find (λ (its : Slab). eqb its.base base) stock.slabs) refl
  where
    by_found : (found : Option Slab) → find (λ (its : Slab). eqb its.base base) stock.slabs ≡ found
        → option_map_or (λ (its : Slab). its.list) found [] ≡ []
    by_found None is = refl
    by_found (Some slab) is =
        let its = find_found (λ (s : Slab). eqb s.base base) stock.slabs slab is in
        absurd (All-contains (λ (s : Slab). s.base ≢ base) stock.slabs slab none its.0 (eqb-true slab.base base its.1))
