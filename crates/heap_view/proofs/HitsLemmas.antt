-- What stands at an address, as the code finds it.
use Rattle.std.proofs.Common.{◌≡◌, ℕ, ◌+◌, ◌-◌, ◌/◌, ◌%◌, ◌<◌, ◌≤◌, true, false, List, length, get_or, Option, Some, refl, sym, ap, subst, ◌∙◌, arith, ◌⊎◌}
use Rattle.std.specs.Prelude.{option_and_then, slice_get}
use Rattle.std.proofs.lemmas.Bool.Decides.{nat_tests}
use Rattle.umem_base.specs.declared.pages.TheConstants.{PAGE_BYTES}
use Rattle.umem_base.specs.declared.roots.TheConstants.{OWN_ROOTS, SHARED_ROOT}
use Rattle.case_table.specs.declared.slab_quantities.Geometry.{Geometry}
use Rattle.core_format.specs.declared.items.LargeItem.{LargeItem}
use Rattle.core_format.specs.declared.items.SlabItem.{SlabItem}
use Rattle.core_format.specs.declared.whole.Core.{Core}
use Rattle.core_format.specs.Chunks.{core_shapes}
use Rattle.core_format.specs.Slabs.{large_end, slab_end}
use Rattle.core_format.proofs.RangeLemmas.{last_get}
use Rattle.heap_view.specs.declared.hit.Hit.{Hit}
use Rattle.heap_view.specs.declared.hit.Hit.TheVariants.{Chunk, OwnRoot, Root, Slab}
use Rattle.heap_view.specs.Buffers.{buffer_bytes}
use Rattle.heap_view.specs.Hits.{hit_in_arena, hit_in_chunk, hit_in_slab, hit_of, is_in_pages, word_in_page}
use Rattle.heap_view.specs.Layout.{IsLaidOut, IsShapeIn, IsSoundLarge, IsSoundSlab}
use Rattle.heap_view.specs.Memory.{is_in_large, is_in_slab, large_at, slab_at}
use Rattle.heap_view.proofs.ListLemmas.{found_passes}
use Rattle.heap_view.proofs.MemoryLemmas.{IsPlace, chunk_before, chunk_found, chunk_missed}

-- before the colour
pub hit_before : (core : Core) (slab : SlabItem) (g : Geometry) (address : ℕ) → IsSoundSlab core slab → IsShapeIn core slab.cache g → slab.base ≤ address → address - slab.base < slab.colour → Slab slab.cache ≡ hit_in_slab core address slab
hit_before core slab g address sound shape le lt = ap (hit_in_chunk core slab address) (sym (chunk_before core slab g address sound shape (omega arith)))

-- in a chunk's buffer
pub hit_inside : (core : Core) (slab : SlabItem) (g : Geometry) (address index offset : ℕ) → IsSoundSlab core slab → IsShapeIn core slab.cache g → slab.base ≤ address → slab.colour ≤ address - slab.base
    → index ≡ (address - slab.base - slab.colour) / g.chunk → offset ≡ (address - slab.base - slab.colour) % g.chunk → index < g.rounds → offset < buffer_bytes core slab.cache → Chunk (slab.first + index) offset ≡ hit_in_slab core address slab
hit_inside core slab g address index offset sound shape le colour index-is offset-is many small =
    let place : IsPlace slab g address index offset = record { from = omega arith; chunk = index-is; rest = offset-is } in
    let found = chunk_found core slab g address index offset sound shape place many small in
    ap (Chunk (slab.first + index)) (sym found.1) ∙ ap (hit_in_chunk core slab address) (sym found.0)

-- in none
pub hit_between : (core : Core) (slab : SlabItem) (g : Geometry) (address index offset : ℕ) → IsSoundSlab core slab → IsShapeIn core slab.cache g → slab.base ≤ address → slab.colour ≤ address - slab.base
    → index ≡ (address - slab.base - slab.colour) / g.chunk → offset ≡ (address - slab.base - slab.colour) % g.chunk → (g.rounds ≤ index) ⊎ (buffer_bytes core slab.cache ≤ offset) → Slab slab.cache ≡ hit_in_slab core address slab
hit_between core slab g address index offset sound shape le colour index-is offset-is why =
    let place : IsPlace slab g address index offset = record { from = omega arith; chunk = index-is; rest = offset-is } in
    ap (hit_in_chunk core slab address) (sym (chunk_missed core slab g address index offset sound shape place why))

-- the slab at an address has it, and so has the large buffer
pub slab_has : (core : Core) (address : ℕ) (slab : SlabItem) → slab_at core address ≡ Some slab → (slab.base ≤ address) × (address < slab_end (core_shapes core) slab)
slab_has core address slab e =
    let has : is_in_slab (core_shapes core) address slab ≡ true = found_passes (is_in_slab (core_shapes core) address) core.slabs slab e in
    (grind (arith, nat_tests), grind (arith, nat_tests))

pub large_has : (core : Core) (address : ℕ) (item : LargeItem) → large_at core address ≡ Some item → (item.base ≤ address) × (address < large_end item)
large_has core address item e =
    let has : is_in_large address item ≡ true = found_passes (is_in_large address) core.large item e in
    (grind (arith, nat_tests), grind (arith, nat_tests))

-- what stands at an index that was found
pub slab_is : (core : Core) (address index : ℕ) (slab : SlabItem) → option_and_then (slice_get core.slabs) (Some index) ≡ slab_at core address → index < length core.slabs → slab ≡ get_or core.slabs index slab → slab_at core address ≡ Some slab
slab_is core address index slab e lt at = sym e ∙ last_get core.slabs index slab lt ∙ ap (λ (s : SlabItem). Some s) (sym at)

pub large_is : (core : Core) (address index : ℕ) (item : LargeItem) → option_and_then (slice_get core.large) (Some index) ≡ large_at core address → index < length core.large → item ≡ get_or core.large index item → large_at core address ≡ Some item
large_is core address index item e lt at = sym e ∙ last_get core.large index item lt ∙ ap (λ (l : LargeItem). Some l) (sym at)

-- what is found at an index has the address, and its bytes reach there
pub record IsFoundSlab (core : Core) (address : ℕ) (slab : SlabItem) : Type 0 where
  pub is : slab_at core address ≡ Some slab
  pub low : slab.base ≤ address
  pub high : address < slab_end (core_shapes core) slab
  pub sound : IsSoundSlab core slab
  pub inside : address - slab.base ≤ length slab.bytes

pub found_slab : (core : Core) (xs : List SlabItem) (address index : ℕ) (slab : SlabItem) → IsLaidOut core → xs ≡ core.slabs → option_and_then (slice_get core.slabs) (Some index) ≡ slab_at core address → index < length core.slabs → slab ≡ get_or xs index slab → IsFoundSlab core address slab
found_slab core xs address index slab laid same e lt there =
    let at : slab ≡ get_or core.slabs index slab = subst (λ (ys : List SlabItem). slab ≡ get_or ys index slab) same there in
    let is = slab_is core address index slab e lt at in
    let has = slab_has core address slab is in
    let sound : IsSoundSlab core slab = subst (IsSoundSlab core) (sym at) (laid.slabs index slab lt) in
    record { is = is; low = has.0; high = has.1; sound = sound; inside = omega (arith, has.0, has.1, sound.filled) }

pub record IsFoundLarge (core : Core) (address : ℕ) (item : LargeItem) : Type 0 where
  pub is : large_at core address ≡ Some item
  pub low : item.base ≤ address
  pub inside : address - item.base ≤ length item.bytes

pub found_large : (core : Core) (xs : List LargeItem) (address index : ℕ) (item : LargeItem) → IsLaidOut core → xs ≡ core.large → option_and_then (slice_get core.large) (Some index) ≡ large_at core address → index < length core.large → item ≡ get_or xs index item → IsFoundLarge core address item
found_large core xs address index item laid same e lt there =
    let at : item ≡ get_or core.large index item = subst (λ (ys : List LargeItem). item ≡ get_or ys index item) same there in
    let is = large_is core address index item e lt at in
    let has = large_has core address item is in
    let sound : IsSoundLarge core item = subst (IsSoundLarge core) (sym at) (laid.large index item lt) in
    record { is = is; low = has.0; inside = omega (arith, has.0, has.1, sound.filled) }

-- what stands at an address, by which pages have it
pub root_hit : (core : Core) (address word : ℕ) → is_in_pages SHARED_ROOT 1 address ≡ true → word ≡ word_in_page address → Some (Root word) ≡ hit_of core address
unfolding hit_of
root_hit core address word inside e = rw (inside, e) refl

pub own_hit : (core : Core) (address pages word : ℕ) → is_in_pages SHARED_ROOT 1 address ≡ false → pages ≡ length core.own → is_in_pages OWN_ROOTS pages address ≡ true → word ≡ word_in_page address
    → Some (OwnRoot ((address - OWN_ROOTS) / PAGE_BYTES) word) ≡ hit_of core address
unfolding hit_of
own_hit core address pages word outside many inside e =
    let here : is_in_pages OWN_ROOTS (length core.own) address ≡ true = subst (λ (n : ℕ). is_in_pages OWN_ROOTS n address ≡ true) many inside in
    rw (outside, here, e) refl

pub arena_hit : (core : Core) (address pages : ℕ) (hit : Option Hit) → is_in_pages SHARED_ROOT 1 address ≡ false → pages ≡ length core.own → is_in_pages OWN_ROOTS pages address ≡ false → hit ≡ hit_in_arena core address → hit ≡ hit_of core address
unfolding hit_of
arena_hit core address pages hit outside many beyond e =
    let there : is_in_pages OWN_ROOTS (length core.own) address ≡ false = subst (λ (n : ℕ). is_in_pages OWN_ROOTS n address ≡ false) many beyond in
    rw (outside, there) e
