-- The pages are read one after the other.
use Rattle.std.proofs.Common.{◌≡◌, ℕ, ◌-◌, ◌<◌, List, [], ◌∷◌, ◌++◌, length, get_or, take, drop, Result, Ok, Err, refl, sym, ap, ◌∙◌, arith}
use Rattle.std.specs.Prelude.{slice_index_or}
use Rattle.std.proofs.lemmas.List.{get_or_default, length-drop, take_all}
use Rattle.core_format.specs.declared.cache_shape.CacheShape.{CacheShape}
use Rattle.core_format.specs.declared.core_fault.CoreFault.{CoreFault}
use Rattle.core_format.specs.declared.core_fault.CoreFault.TheVariants.{Bad, NoMemory}
use Rattle.core_format.specs.declared.items.LargeItem.{LargeItem}
use Rattle.core_format.specs.declared.items.SlabItem.{SlabItem}
use Rattle.core_format.specs.Reader.{Flaw, IsToldBy, Reader}
use Rattle.core_format.specs.Items.{items_at}
use Rattle.core_format.specs.PageBytes.{large_page_at, lower_count, no_large, pages_at, slab_bytes_at}

abbrev Pages : Type 0
Pages = Result ((List SlabItem × List LargeItem) × Reader) Flaw

-- the next large buffer is the one behind those that have their bytes
pub next_large : (large pages : List LargeItem) (index : ℕ) (item : LargeItem) → index ≡ length pages → length pages < length large → item ≡ get_or large index item → slice_index_or large (length pages) no_large ≡ item
next_large large pages index item e lt is = get_or_default large (length pages) no_large item lt ∙ ap (λ (n : ℕ). get_or large n item) (sym e) ∙ sym is

pub lower_rest : (base index : ℕ) (large pages : List LargeItem) → index ≡ length pages → lower_count base (take (length large - index) (drop index large)) ≡ lower_count base (drop (length pages) large)
lower_rest base index large pages e = ap (lower_count base) (take_all (length large - index) (drop index large) (omega (arith, length-drop index large))) ∙ ap (λ (n : ℕ). lower_count base (drop n large)) e

pub pages_at-more : (shapes : List CacheShape) (large : List LargeItem) (items left slabs now : List SlabItem) (slab own : SlabItem) (before lower : List LargeItem) (here there behind : Reader) (total : Pages)
    → items ≡ slab ∷ left → items_at (large_page_at large) (lower_count slab.base (drop (length before) large)) before here ≡ Ok (lower, there) → slab_bytes_at shapes slab there ≡ Ok (own, behind) → now ≡ slabs ++ own ∷ []
    → pages_at shapes large items slabs before here ≡ total → pages_at shapes large left now lower behind ≡ total
unfolding pages_at
pages_at-more shapes large items left slabs now slab own before lower here there behind total items-is a b now-is so_far =
    let one : pages_at shapes large (slab ∷ left) slabs before here ≡ pages_at shapes large left (slabs ++ own ∷ []) lower behind = rw (a, b) refl in
    rw now-is (sym one ∙ ap (λ (xs : List SlabItem). pages_at shapes large xs slabs before here) (sym items-is) ∙ so_far)

pub pages_at-told_lower : (shapes : List CacheShape) (large : List LargeItem) (items left slabs : List SlabItem) (slab : SlabItem) (before : List LargeItem) (here : Reader) (fault : CoreFault) (total : Pages)
    → items ≡ slab ∷ left → IsToldBy fault (items_at (large_page_at large) (lower_count slab.base (drop (length before) large)) before here) → pages_at shapes large items slabs before here ≡ total → IsToldBy fault total
unfolding pages_at
pages_at-told_lower shapes large items left slabs slab before here NoMemory total items-is a so_far = tt
pages_at-told_lower shapes large items left slabs slab before here (Bad offset fault) total items-is a so_far =
    let one : pages_at shapes large (slab ∷ left) slabs before here ≡ Err (record { offset = offset; fault = fault }) = rw a refl in
    sym so_far ∙ ap (λ (xs : List SlabItem). pages_at shapes large xs slabs before here) items-is ∙ one

pub pages_at-told_slab : (shapes : List CacheShape) (large : List LargeItem) (items left slabs : List SlabItem) (slab : SlabItem) (before lower : List LargeItem) (here there : Reader) (fault : CoreFault) (total : Pages)
    → items ≡ slab ∷ left → items_at (large_page_at large) (lower_count slab.base (drop (length before) large)) before here ≡ Ok (lower, there) → IsToldBy fault (slab_bytes_at shapes slab there)
    → pages_at shapes large items slabs before here ≡ total → IsToldBy fault total
unfolding pages_at
pages_at-told_slab shapes large items left slabs slab before lower here there NoMemory total items-is a b so_far = tt
pages_at-told_slab shapes large items left slabs slab before lower here there (Bad offset fault) total items-is a b so_far =
    let one : pages_at shapes large (slab ∷ left) slabs before here ≡ Err (record { offset = offset; fault = fault }) = rw (a, b) refl in
    sym so_far ∙ ap (λ (xs : List SlabItem). pages_at shapes large xs slabs before here) items-is ∙ one

pub pages_at-told_upper : (shapes : List CacheShape) (large : List LargeItem) (items slabs : List SlabItem) (before : List LargeItem) (here : Reader) (fault : CoreFault) (total : Pages)
    → items ≡ [] → IsToldBy fault (items_at (large_page_at large) (length large - length before) before here) → pages_at shapes large items slabs before here ≡ total → IsToldBy fault total
unfolding pages_at
pages_at-told_upper shapes large items slabs before here NoMemory total items-is a so_far = tt
pages_at-told_upper shapes large items slabs before here (Bad offset fault) total items-is a so_far =
    let one : pages_at shapes large [] slabs before here ≡ Err (record { offset = offset; fault = fault }) = rw a refl in
    sym so_far ∙ ap (λ (xs : List SlabItem). pages_at shapes large xs slabs before here) items-is ∙ one

pub pages_at-done : (shapes : List CacheShape) (large : List LargeItem) (items slabs : List SlabItem) (before upper : List LargeItem) (here there : Reader) (total : Pages)
    → items ≡ [] → items_at (large_page_at large) (length large - length before) before here ≡ Ok (upper, there) → pages_at shapes large items slabs before here ≡ total → total ≡ Ok ((slabs, upper), there)
unfolding pages_at
pages_at-done shapes large items slabs before upper here there total items-is a so_far =
    let one : pages_at shapes large [] slabs before here ≡ Ok ((slabs, upper), there) = rw a refl in
    sym so_far ∙ ap (λ (xs : List SlabItem). pages_at shapes large xs slabs before here) items-is ∙ one
