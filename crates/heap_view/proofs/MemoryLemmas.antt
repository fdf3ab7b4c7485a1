-- Slabs, large buffers and chunks are found by halves, or by a division, as the definitions find them.
use Rattle.std.proofs.Common.{◌≡◌, ◌≢◌, ℕ, ◌+◌, ◌-◌, ◌*◌, ◌/◌, ◌%◌, ◌<◌, ◌≤◌, Bool, true, false, ltb, leb, ◌&&◌, List, length, get_or, Some, None, sym, ap, subst, ◌∙◌, arith, inl, inr, ◌⊎◌}
use Rattle.std.specs.List.{AllPairs, find}
use Rattle.std.specs.List.Sorted.{IsNonDecreasingBy}
use Rattle.std.specs.Bool.{then_some}
use Rattle.std.specs.Prelude.{option_and_then, slice_get}
use Rattle.std.proofs.lemmas.Bool.{cases_lt, ltb-true}
use Rattle.std.proofs.lemmas.Bool.Decides.{nat_tests}
use Rattle.std.proofs.lemmas.List.{get_or_default}
use Rattle.std.proofs.Math.Nat.{div-add-mod', mod-lt}
use Rattle.umem_base.specs.declared.pages.TheConstants.{PAGE_BYTES}
use Rattle.umem_base.specs.Pages.{pages_for}
use Rattle.case_table.specs.declared.slab_quantities.Geometry.{Geometry}
use Rattle.core_format.specs.declared.cache_shape.CacheShape.{CacheShape}
use Rattle.core_format.specs.declared.items.LargeItem.{LargeItem}
use Rattle.core_format.specs.declared.items.SlabItem.{SlabItem}
use Rattle.core_format.specs.declared.whole.Core.{Core}
use Rattle.core_format.specs.Chunks.{core_shapes}
use Rattle.core_format.specs.Slabs.{large_end, shape_at, slab_end}
use Rattle.core_format.proofs.RangeLemmas.{last_get}
use Rattle.heap_view.specs.Buffers.{buffer_bytes, chunk_buffer, numbers_from}
use Rattle.heap_view.specs.Hits.{chunk_at_address}
use Rattle.heap_view.specs.Layout.{IsLaidOut, IsShapeIn, IsSoundSlab}
use Rattle.heap_view.specs.Memory.{is_in_large, is_in_slab, large_at, slab_at}
use Rattle.heap_view.specs.Points.{points_to}
use Rattle.heap_view.specs.Search.{IsCut}
use Rattle.heap_view.proofs.BuffersLemmas.{row_fits, stands_in}
use Rattle.heap_view.proofs.ListLemmas.{find_none, find_only, number_at, numbers_length}

-- ranges that rise, of which the last that begins at the address or below may have it
pub cut_finds : {X : Type 0} (base past : X → ℕ) (p : X → Bool) (xs : List X) (address index : ℕ) (b : Bool) (d : X)
    → ((x : X) → base x ≤ address → address < past x → p x ≡ true) → ((x : X) → address < base x → p x ≡ false) → ((x : X) → past x ≤ address → p x ≡ false)
    → AllPairs (λ x y. past x ≤ base y) xs → IsCut base xs address index → 0 < index → index ≤ length xs → b ≡ ltb address (past (get_or xs (index - 1) d))
    → option_and_then (slice_get xs) (then_some b (index - 1)) ≡ find p xs
cut_finds base past p xs address index true d is low high rise cut some within e =
    let at = get_or xs (index - 1) d in
    last_get xs (index - 1) d (omega arith)
    ∙ sym (find_only p xs (index - 1) d (omega arith) (is at (cut.below (index - 1) d (omega arith)) (ltb-true _ _ (sym e)))
    (λ k f lt other. elim (cases_lt k (index - 1)) [
      | inl less ↦ high (get_or xs k f) (omega (arith, rise k (index - 1) f less (omega arith), cut.below (index - 1) f (omega arith)))
      | inr more ↦ low (get_or xs k f) (cut.above k f (up k other more) lt)
    ]))
  where
    up : (k : ℕ) → k ≢ index - 1 → index - 1 ≤ k → index ≤ k
    up k other more = elim (cases_lt (index - 1) k) [ inl less ↦ omega arith | inr same ↦ absurd (other (omega arith)) ]
cut_finds base past p xs address index false d is low high rise cut some within e =
    let at = get_or xs (index - 1) d in
    let end : past at ≤ address = grind (arith, nat_tests) in
    sym (find_none p xs (λ k f lt. elim (cases_lt k index) [
      | inl less ↦ high (get_or xs k f) (elim (cases_lt k (index - 1)) [
        | inl lower ↦ omega (arith, rise k (index - 1) f lower (omega arith), cut.below (index - 1) f (omega arith))
        | inr last ↦ let same : k ≡ index - 1 = omega arith in subst (λ (n : ℕ). past (get_or xs n f) ≤ address) (sym same) (subst (λ x. past x ≤ address) (get_or_default xs (index - 1) d f (omega arith)) end)
      ])
      | inr more ↦ low (get_or xs k f) (cut.above k f more lt)
    ]))

pub cut_none : {X : Type 0} (base : X → ℕ) (p : X → Bool) (xs : List X) (address index : ℕ) → ((x : X) → address < base x → p x ≡ false) → IsCut base xs address index → index ≡ 0 → find p xs ≡ None
cut_none base p xs address index low cut e = find_none p xs (λ k f lt. low (get_or xs k f) (cut.above k f (omega arith) lt))

pub in_slab : (shapes : List CacheShape) (address : ℕ) (s : SlabItem) → s.base ≤ address → address < slab_end shapes s → is_in_slab shapes address s ≡ true
in_slab shapes address s low high = grind (arith, nat_tests)

pub below_slab : (shapes : List CacheShape) (address : ℕ) (s : SlabItem) → address < s.base → is_in_slab shapes address s ≡ false
below_slab shapes address s low = grind (arith, nat_tests)

pub past_slab : (shapes : List CacheShape) (address : ℕ) (s : SlabItem) → slab_end shapes s ≤ address → is_in_slab shapes address s ≡ false
past_slab shapes address s high = grind (arith, nat_tests)

pub slab_found : (core : Core) (address index : ℕ) (b : Bool) (d : SlabItem) → IsLaidOut core → IsCut (λ (s : SlabItem). s.base) core.slabs address index → 0 < index → index ≤ length core.slabs
    → b ≡ ltb address (slab_end (core_shapes core) (get_or core.slabs (index - 1) d)) → option_and_then (slice_get core.slabs) (then_some b (index - 1)) ≡ slab_at core address
slab_found core address index b d laid cut some within e =
    cut_finds (λ (s : SlabItem). s.base) (slab_end (core_shapes core)) (is_in_slab (core_shapes core) address) core.slabs address index b d
    (in_slab (core_shapes core) address) (below_slab (core_shapes core) address) (past_slab (core_shapes core) address) laid.slabs_rise cut some within e

pub slab_missed : (core : Core) (address index : ℕ) → IsCut (λ (s : SlabItem). s.base) core.slabs address index → index ≡ 0 → slab_at core address ≡ None
slab_missed core address index cut e = cut_none (λ (s : SlabItem). s.base) (is_in_slab (core_shapes core) address) core.slabs address index (below_slab (core_shapes core) address) cut e

pub in_large : (address : ℕ) (l : LargeItem) → l.base ≤ address → address < large_end l → is_in_large address l ≡ true
in_large address l low high = grind (arith, nat_tests)

pub below_large : (address : ℕ) (l : LargeItem) → address < l.base → is_in_large address l ≡ false
below_large address l low = grind (arith, nat_tests)

pub past_large : (address : ℕ) (l : LargeItem) → large_end l ≤ address → is_in_large address l ≡ false
past_large address l high = grind (arith, nat_tests)

pub large_found : (core : Core) (address index : ℕ) (b : Bool) (d : LargeItem) → IsLaidOut core → IsCut (λ (l : LargeItem). l.base) core.large address index → 0 < index → index ≤ length core.large
    → b ≡ ltb address (large_end (get_or core.large (index - 1) d)) → option_and_then (slice_get core.large) (then_some b (index - 1)) ≡ large_at core address
large_found core address index b d laid cut some within e =
    cut_finds (λ (l : LargeItem). l.base) large_end (is_in_large address) core.large address index b d (in_large address) (below_large address) (past_large address) laid.large_rise cut some within e

pub large_missed : (core : Core) (address index : ℕ) → IsCut (λ (l : LargeItem). l.base) core.large address index → index ≡ 0 → large_at core address ≡ None
large_missed core address index cut e = cut_none (λ (l : LargeItem). l.base) (is_in_large address) core.large address index (below_large address) cut e

-- the test of an offset is that of an address
pub offset_test : (address base bytes : ℕ) → base ≤ address → ltb (address - base) bytes ≡ ltb address (base + bytes)
offset_test address base bytes le = grind (arith, nat_tests)

-- ---- chunks

-- the place of an address behind the colour of its slab
pub record IsPlace (slab : SlabItem) (g : Geometry) (address index offset : ℕ) : Type 0 where
  pub from : slab.base + slab.colour ≤ address
  pub chunk : index ≡ (address - slab.base - slab.colour) / g.chunk
  pub rest : offset ≡ (address - slab.base - slab.colour) % g.chunk

place_is : (slab : SlabItem) (g : Geometry) (address index offset : ℕ) → 0 < g.chunk → IsPlace slab g address index offset → (address ≡ slab.base + (slab.colour + (index * g.chunk + offset))) × (offset < g.chunk)
place_is slab g address index offset some place =
    let whole : index * g.chunk + offset ≡ address - slab.base - slab.colour = rw (place.chunk, place.rest) (div-add-mod' (address - slab.base - slab.colour) g.chunk) in
    let small : offset < g.chunk = rw place.rest (mod-lt (address - slab.base - slab.colour) (omega arith)) in
    (omega (arith, place.from, whole), small)

pub points_in : (address low size : ℕ) → low ≤ address → address < low + size → (leb low address && ltb address (low + size)) ≡ true
points_in address low size le lt = grind (arith, nat_tests)

points_past : (address low size : ℕ) → low + size ≤ address → (leb low address && ltb address (low + size)) ≡ false
points_past address low size le = grind (arith, nat_tests)

points_below : (address low size : ℕ) → address < low → (leb low address && ltb address (low + size)) ≡ false
points_below address low size lt = grind (arith, nat_tests)

-- the address is none of chunk k, where its place is in another one or behind that one's bytes
other_chunk : (core : Core) (slab : SlabItem) (g : Geometry) (address index offset k : ℕ) → IsSoundSlab core slab → IsShapeIn core slab.cache g → IsPlace slab g address index offset → k < g.rounds
    → (k ≢ index) ⊎ (buffer_bytes core slab.cache ≤ offset) → points_to address (chunk_buffer core slab (slab.first + k)) ≡ false
other_chunk core slab g address index offset k sound shape place lt why =
    let stands = stands_in core slab g (slab.first + k) sound shape (omega arith) (omega arith) in
    let same : slab.first + k - slab.first ≡ k = omega arith in
    let at : (chunk_buffer core slab (slab.first + k)).address ≡ slab.base + (slab.colour + k * g.chunk) = stands.address ∙ ap (λ (n : ℕ). slab.base + (slab.colour + n * g.chunk)) same in
    let here = place_is slab g address index offset shape.chunk_some place in
    elim (cases_lt k index) [
      | inl less ↦ points_past address _ _ (omega (arith, at, here.0, row_fits k index g.chunk less, shape.size_fits))
      | inr more ↦ elim (cases_lt index k) [
        | inl above ↦ points_below address _ _ (omega (arith, at, here.0, here.1, row_fits index k g.chunk above))
        | inr le ↦ by_why (omega arith) at here.0 why
      ]
    ]
  where
    by_why : k ≡ index → (chunk_buffer core slab (slab.first + k)).address ≡ slab.base + (slab.colour + k * g.chunk) → address ≡ slab.base + (slab.colour + (index * g.chunk + offset))
        → (k ≢ index) ⊎ (buffer_bytes core slab.cache ≤ offset) → points_to address (chunk_buffer core slab (slab.first + k)) ≡ false
    by_why e at here (inl ne) = absurd (ne e)
    by_why e at here (inr past) =
        let row : k * g.chunk ≡ index * g.chunk = ap (λ (n : ℕ). n * g.chunk) e in
        points_past address _ _ (omega (arith, at, here, row, past))

pub chunk_found : (core : Core) (slab : SlabItem) (g : Geometry) (address index offset : ℕ) → IsSoundSlab core slab → IsShapeIn core slab.cache g → IsPlace slab g address index offset → index < g.rounds → offset < buffer_bytes core slab.cache
    → (chunk_at_address core slab address ≡ Some (slab.first + index)) × (address - (chunk_buffer core slab (slab.first + index)).address ≡ offset)
chunk_found core slab g address index offset sound shape place lt small =
    let rounds = (shape_at (core_shapes core) slab.cache).rounds in
    let many : rounds ≡ g.rounds = shape.rounds in
    let long = numbers_length slab.first rounds in
    let at = number_at slab.first rounds index 0 (omega arith) in
    let stands = stands_in core slab g (slab.first + index) sound shape (omega arith) (omega arith) in
    let same : slab.first + index - slab.first ≡ index = omega arith in
    let begins : (chunk_buffer core slab (slab.first + index)).address ≡ slab.base + (slab.colour + index * g.chunk) = stands.address ∙ ap (λ (n : ℕ). slab.base + (slab.colour + n * g.chunk)) same in
    let here = place_is slab g address index offset shape.chunk_some place in
    let test : ℕ → Bool = λ chunk. points_to address (chunk_buffer core slab chunk) in
    let has : test (slab.first + index) ≡ true = points_in address _ _ (omega (arith, begins, here.0)) (omega (arith, begins, here.0, small)) in (
      find_only test (numbers_from slab.first rounds) index 0 (omega arith) (subst (λ (n : ℕ). test n ≡ true) (sym at) has)
          (λ k e less other. subst (λ (n : ℕ). test n ≡ false) (sym (number_at slab.first rounds k e (omega arith))) (other_chunk core slab g address index offset k sound shape place (omega arith) (inl other)))
          ∙ ap (λ (n : ℕ). Some n) at,
      omega (arith, begins, here.0),
    )

pub chunk_missed : (core : Core) (slab : SlabItem) (g : Geometry) (address index offset : ℕ) → IsSoundSlab core slab → IsShapeIn core slab.cache g → IsPlace slab g address index offset
    → (g.rounds ≤ index) ⊎ (buffer_bytes core slab.cache ≤ offset) → chunk_at_address core slab address ≡ None
chunk_missed core slab g address index offset sound shape place why =
    let rounds = (shape_at (core_shapes core) slab.cache).rounds in
    let many : rounds ≡ g.rounds = shape.rounds in
    let long = numbers_length slab.first rounds in
    let test : ℕ → Bool = λ chunk. points_to address (chunk_buffer core slab chunk) in
    find_none test (numbers_from slab.first rounds) (λ k e less. subst (λ (n : ℕ). test n ≡ false) (sym (number_at slab.first rounds k e (omega arith)))
    (other_chunk core slab g address index offset k sound shape place (omega arith) (elim why [ inl past ↦ inl (λ same. absurd (omega arith)) | inr rest ↦ inr rest ])))

-- before the colour there is none
pub chunk_before : (core : Core) (slab : SlabItem) (g : Geometry) (address : ℕ) → IsSoundSlab core slab → IsShapeIn core slab.cache g → address < slab.base + slab.colour → chunk_at_address core slab address ≡ None
chunk_before core slab g address sound shape low =
    let rounds = (shape_at (core_shapes core) slab.cache).rounds in
    let many : rounds ≡ g.rounds = shape.rounds in
    let long = numbers_length slab.first rounds in
    let test : ℕ → Bool = λ chunk. points_to address (chunk_buffer core slab chunk) in
    find_none test (numbers_from slab.first rounds) (λ k e less. subst (λ (n : ℕ). test n ≡ false) (sym (number_at slab.first rounds k e (omega arith)))
    (points_below address _ _ (omega (arith, (stands_in core slab g (slab.first + k) sound shape (omega arith) (omega arith)).address))))

-- ---- what the code computes

pub slabs_start_rising : (core : Core) → IsLaidOut core → IsNonDecreasingBy (λ (s : SlabItem). s.base) core.slabs
slabs_start_rising core laid = λ i j d le lt. elim (cases_lt i j) [
  | inl less ↦ omega (arith, laid.slabs_rise i j d less lt)
  | inr more ↦ let same : i ≡ j = omega arith in subst (λ (n : ℕ). (get_or core.slabs n d).base ≤ (get_or core.slabs j d).base) (sym same) (omega arith)
]

pub large_start_rising : (core : Core) → IsLaidOut core → IsNonDecreasingBy (λ (l : LargeItem). l.base) core.large
large_start_rising core laid = λ i j d le lt. elim (cases_lt i j) [
  | inl less ↦ omega (arith, laid.large_rise i j d less lt)
  | inr more ↦ let same : i ≡ j = omega arith in subst (λ (n : ℕ). (get_or core.large n d).base ≤ (get_or core.large j d).base) (sym same) (omega arith)
]

-- the test of a slab that begins at the address or below
pub slab_test : (core : Core) (address index : ℕ) (slab : SlabItem) (bytes : ℕ) → slab ≡ get_or core.slabs (index - 1) slab → bytes ≡ PAGE_BYTES * (shape_at (core_shapes core) slab.cache).pages → slab.base ≤ address
    → ltb (address - slab.base) bytes ≡ ltb address (slab_end (core_shapes core) (get_or core.slabs (index - 1) slab))
slab_test core address index slab bytes at e le =
    offset_test address slab.base bytes le ∙ ap (ltb address) (ap (λ (n : ℕ). slab.base + n) e ∙ ap (slab_end (core_shapes core)) at)

pub large_test : (core : Core) (address index : ℕ) (item : LargeItem) → item ≡ get_or core.large (index - 1) item → item.base ≤ address
    → ltb (address - item.base) (PAGE_BYTES * pages_for item.size) ≡ ltb address (large_end (get_or core.large (index - 1) item))
large_test core address index item at le = offset_test address item.base (PAGE_BYTES * pages_for item.size) le ∙ ap (λ (l : LargeItem). ltb address (large_end l)) at

-- the last item before a cut begins at the address or below
pub slab_begins : (xs : List SlabItem) (address index : ℕ) (slab : SlabItem) → IsCut (λ (s : SlabItem). s.base) xs address index → 0 < index → slab ≡ get_or xs (index - 1) slab → slab.base ≤ address
slab_begins xs address index slab cut some at = subst (λ (s : SlabItem). s.base ≤ address) (sym at) (cut.below (index - 1) slab (omega arith))

pub large_begins : (xs : List LargeItem) (address index : ℕ) (item : LargeItem) → IsCut (λ (l : LargeItem). l.base) xs address index → 0 < index → item ≡ get_or xs (index - 1) item → item.base ≤ address
large_begins xs address index item cut some at = subst (λ (l : LargeItem). l.base ≤ address) (sym at) (cut.below (index - 1) item (omega arith))
