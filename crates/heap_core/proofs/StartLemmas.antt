-- The shelves of a heap that was asked nothing yet.
use Rattle.std.proofs.Common.{◌≡◌, ℕ, ◌+◌, ◌-◌, ◌<◌, List, [], ◌∷◌, ◌++◌, length, get_or, Some, refl, sym, ap, ◌∙◌, subst, arith, inl, inr}
use Rattle.std.specs.List.{range_with_len, slice_get}
use Rattle.std.proofs.lemmas.Bool.{cases_lt}
use Rattle.std.proofs.lemmas.List.{ext_get_or, get_or-map, get_or_append_left, get_or_default, get_or_push, length-append, length-map}
use Rattle.std.proofs.lemmas.List.FromFn.{get_or-range_with_len, length-range_with_len}
use Rattle.case_table.specs.declared.cache_def.CacheDef.{CacheDef}
use Rattle.case_table.specs.declared.size_classes.TheConstants.{CLASS_ALIGN}
use Rattle.case_table.specs.CacheDef.{class_def}
use Rattle.case_table.specs.Geometry.{IsCacheShape, geometry_of}
use Rattle.case_table.specs.Sizes.{size_of}
use Rattle.case_table.proofs.SizesLemmas.{size_of-small, size_of-some}
use Rattle.script.specs.Rules.{IsHeader}
use Rattle.shelf.specs.Shelf.{Shelf}
use Rattle.shelf.specs.Stock.{Stock, empty_stock}
use Rattle.plain_heap.specs.declared.entry.Entry.{Entry}
use Rattle.plain_heap.specs.Setting.{Setting, cache_def_in, geometry_in}
use Rattle.plain_heap.proofs.SettingLemmas.{cache_has_shape, def_of-class, def_of-declared}
use Rattle.heap_ledger.specs.Ledger.{Ledger, run_setting}
use Rattle.heap_accounts.specs.Places.{cache_count, places_of, start_places, stock_at}
use Rattle.heap_core.specs.Heap.{IsHeap}
use Rattle.heap_core.specs.Shelves.{AreFirstShelves, stocks_of}
use Rattle.heap_core.proofs.NextLemmas.{IsKnown}

-- what a cache holds at the start
abbrev pub first_stock : Setting → ℕ → Stock
first_stock setting cache = empty_stock (geometry_in setting cache).magazine setting.header.cpus

-- the stock of one of some shelves
stock_of : (shelves : List Shelf) (cache : ℕ) (d : Shelf) → cache < length shelves → stock_at (stocks_of shelves) cache ≡ (get_or shelves cache d).stock
stock_of shelves cache d within = get_or-map (λ (s : Shelf). s.stock) shelves cache d (empty_stock 0 0) within

-- the next one comes behind them
pub first_push : (setting : Setting) (shelves : List Shelf) (shelf : Shelf) → AreFirstShelves setting shelves → shelf.stock ≡ first_stock setting (length shelves) → AreFirstShelves setting (shelves ++ shelf ∷ [])
first_push setting shelves shelf are is cache within = elim (cases_lt cache (length shelves)) [
  | inl here ↦
      stock_of (shelves ++ shelf ∷ []) cache shelf within
      ∙ ap (λ (s : Shelf). s.stock) (get_or_append_left shelves (shelf ∷ []) shelf cache here)
      ∙ sym (stock_of shelves cache shelf here)
      ∙ are cache here
  | inr past ↦
      let last : length shelves ≡ cache = omega (arith, within, past, length-append shelves (shelf ∷ [])) in
      stock_of (shelves ++ shelf ∷ []) cache shelf within
      ∙ ap (λ (s : Shelf). s.stock) (get_or_push shelves shelf shelf cache last)
      ∙ is
      ∙ ap (first_stock setting) last
]

-- the same of the list that it leaves
pub first_more : (setting : Setting) (shelves now : List Shelf) (shelf : Shelf) → now ≡ shelves ++ shelf ∷ [] → AreFirstShelves setting shelves → shelf.stock ≡ first_stock setting (length shelves) → AreFirstShelves setting now
first_more setting shelves now shelf more are is = subst (AreFirstShelves setting) (sym more) (first_push setting shelves shelf are is)

-- one of the size classes
pub class_stock : (setting : Setting) (cache : ℕ) → cache < 32 → empty_stock (geometry_of (size_of cache) CLASS_ALIGN setting.guards).magazine setting.header.cpus ≡ first_stock setting cache
class_stock setting cache within =
    ap (λ (d : CacheDef). empty_stock (geometry_of d.size d.align setting.guards).magazine setting.header.cpus) (sym (def_of-class setting.header.caches cache within))

-- a class has a shape that a cache may have
pub class_shape : (size class : ℕ) → size ≡ size_of class → class < 32 → IsCacheShape size CLASS_ALIGN
class_shape size class is within =
    subst (λ n. IsCacheShape n CLASS_ALIGN) (sym is) (record { some = size_of-some class within; fits = size_of-small class; aligned = refl })

-- one of the declared caches
module _ (setting : Setting) (index cache : ℕ) (def : CacheDef) (within : index < length setting.header.caches) (there : cache ≡ 32 + index) (is : def ≡ get_or setting.header.caches index def) where
  def_is : cache_def_in setting cache ≡ def
  def_is =
      let at : cache - 32 ≡ index = omega arith in
      def_of-declared setting.header.caches cache (omega arith)
      ∙ ap (λ i. get_or setting.header.caches i (class_def 0)) at
      ∙ get_or_default setting.header.caches index (class_def 0) def within
      ∙ sym is

  pub declared_stock : empty_stock (geometry_of def.size def.align setting.guards).magazine setting.header.cpus ≡ first_stock setting cache
  declared_stock = ap (λ (d : CacheDef). empty_stock (geometry_of d.size d.align setting.guards).magazine setting.header.cpus) (sym def_is)

  pub declared_shape : IsHeader setting.header → IsCacheShape def.size def.align
  declared_shape header =
      subst (λ (d : CacheDef). IsCacheShape d.size d.align) def_is (cache_has_shape setting cache header (omega arith))

-- all of them are the places at the start
pub first_are_start : (setting : Setting) (shelves : List Shelf) → length shelves ≡ cache_count setting → AreFirstShelves setting shelves → stocks_of shelves ≡ start_places setting
first_are_start setting shelves count are =
    let n = cache_count setting in
    let same : length (stocks_of shelves) ≡ length (start_places setting) =
    length-map shelves (λ (s : Shelf). s.stock) ∙ count ∙ sym (length-range_with_len 0 n) ∙ sym (length-map (range_with_len 0 n) (first_stock setting)) in
    ext_get_or (empty_stock 0 0) (stocks_of shelves) (start_places setting) same (λ cache within.
    let here : cache < length shelves = omega (arith, within, length-map shelves (λ (s : Shelf). s.stock)) in
    let known : cache < n = omega (arith, here, count) in
    let long : cache < length (range_with_len 0 n) = omega (arith, known, length-range_with_len 0 n) in
    let zero_more : 0 + cache ≡ cache = omega arith in
    are cache here
    ∙ sym (get_or-map (first_stock setting) (range_with_len 0 n) cache 0 (empty_stock 0 0) long ∙ ap (first_stock setting) (get_or-range_with_len 0 n cache 0 known ∙ zero_more)))

-- a heap of no entries
pub first_heap : (ledger : Ledger) (shelves : List Shelf) → ledger.entries ≡ [] → IsKnown ledger → stocks_of shelves ≡ start_places (run_setting ledger) → IsHeap ledger shelves
first_heap ledger shelves none known are = record {
  legal = known.legal;
  placed = λ n entry at. absurd (no_entry n (sym (ap (λ (l : List Entry). slice_get l n) none) ∙ at));
  few = known.few;
  are = are ∙ ap (places_of (run_setting ledger)) (sym none);
}
  where
    no_entry : {e : Entry} (n : ℕ) → slice_get [] n ≡ Some e → ⊥
    no_entry n e = cc e
