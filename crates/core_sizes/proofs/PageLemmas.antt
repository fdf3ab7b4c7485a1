-- How many bytes the large buffers of a core have, and the pages of slabs and large buffers together.
use Rattle.std.proofs.Common.{◌≡◌, ℕ, ◌+◌, ◌*◌, ◌≤◌, List, [], ◌∷◌, length, get_or, take, drop, refl, sym, ap, ◌∙◌, arith}
use Rattle.std.specs.Prelude.{sum_by}
use Rattle.std.specs.List.{flat_map}
use Rattle.std.proofs.Math.Nat.{le-div_iff_mul-le}
use Rattle.std.proofs.lemmas.List.{take-append-drop}
use Rattle.std.proofs.lemmas.List.Concat.{length-flat_map}
use Rattle.std.proofs.lemmas.List.Sums.{sum_by-append, sum_by-cons}
use Rattle.umem_base.specs.declared.arena.TheConstants.{ARENA_BASE}
use Rattle.umem_base.specs.declared.pages.TheConstants.{PAGE_BYTES}
use Rattle.umem_base.specs.Pages.{pages_for}
use Rattle.umem_base.specs.Roots.{arena_end}
use Rattle.core_format.specs.declared.items.LargeItem.{LargeItem}
use Rattle.core_format.specs.declared.items.SlabItem.{SlabItem}
use Rattle.core_format.specs.declared.whole.Core.{Core}
use Rattle.core_format.specs.Chunks.{core_shapes}
use Rattle.core_format.specs.PageBytes.{lower_count}
use Rattle.core_format.specs.Spelling.{large_bytes, spelled_large, spelled_pages}
use Rattle.heap_view.specs.Layout.{IsLaidOut}
use Rattle.core_sizes.proofs.LengthLemmas.{items_long, larger_sum, least_sum, record_long, runs_fit, three_joined}
use Rattle.core_sizes.proofs.SlabLemmas.{most_pages, arena_small, slab_size, slabs_fit}

-- one item of 16 bytes a page
abbrev pub most_large : ℕ
most_large = 4096 * 16

-- ---- large buffers

-- the bytes of the pages of so many bytes
abbrev large_page : ℕ → ℕ
large_page size = PAGE_BYTES * pages_for size

-- those of a large buffer
abbrev large_size : LargeItem → ℕ
large_size item = large_page item.size

-- all of them have their pages in the arena
large_fit : (core : Core) → IsLaidOut core → sum_by large_size core.large ≤ most_pages
large_fit core laid =
    let end = arena_end core.version in
    let all = runs_fit (λ (l : LargeItem). l.base) large_size core.large ARENA_BASE end (omega arith)
    (λ k d lt. (laid.large k d lt).in_arena) (λ k d lt. (laid.large k d lt).ends) laid.large_rise in
    omega (arith, all, arena_small core.version)

-- a buffer that has bytes has a page
page_there : (size : ℕ) → 1 ≤ size → 4096 ≤ large_page size
page_there size some =
    let one : 1 ≤ pages_for size =
    (le-div_iff_mul-le {k = 4096} {x = 1} {y = size + 4095} (omega arith)).1 (omega (arith, some)) in
    omega (arith, one)

pub large_long : (core : Core) → IsLaidOut core → length (flat_map spelled_large core.large) ≤ most_large
large_long core laid =
    let least = least_sum large_size 4096 core.large (λ k d lt.
    page_there (get_or core.large k d).size (omega (arith, (laid.large k d lt).large))) in
    let each = items_long spelled_large 16 core.large (λ k d lt.
    let item = get_or core.large k d in
    omega (arith, record_long (8 ∷ 8 ∷ []) (item.base ∷ item.size ∷ []) refl)) in
    omega (arith, least, each, large_fit core laid)

-- ---- pages

abbrev slab_bytes : SlabItem → ℕ
slab_bytes slab = length slab.bytes

abbrev buffer_bytes : LargeItem → ℕ
buffer_bytes item = length item.bytes

-- the bytes of slabs and of large buffers, in whatever order they stand
pages_counted : (slabs : List SlabItem) (large : List LargeItem)
    → length (spelled_pages slabs large) ≡ sum_by slab_bytes slabs + sum_by buffer_bytes large
pages_counted [] large = omega (arith, length-flat_map (λ (item : LargeItem). item.bytes) large)
pages_counted (slab ∷ slabs) large =
    let many = lower_count slab.base large in
    let lower = take many large in
    let upper = drop many large in
    let behind = spelled_pages slabs upper in
    let rest = pages_counted slabs upper in
    let front = length-flat_map (λ (item : LargeItem). item.bytes) lower in
    let split : sum_by buffer_bytes large ≡ sum_by buffer_bytes lower + sum_by buffer_bytes upper =
    ap (sum_by buffer_bytes) (sym (take-append-drop many large)) ∙ sum_by-append buffer_bytes lower upper in
    let whole : length (spelled_pages (slab ∷ slabs) large)
    ≡ length (large_bytes lower) + length slab.bytes + length behind =
    three_joined (large_bytes lower) slab.bytes behind in
    omega (arith, whole, rest, front, split, sum_by-cons slab_bytes slab slabs)

pub pages_long : (core : Core) → IsLaidOut core
    → length (spelled_pages core.slabs core.large) ≤ most_pages + most_pages
pages_long core laid =
    let slabs = larger_sum slab_bytes (slab_size (core_shapes core)) core.slabs (λ k d lt.
    omega (arith, (laid.slabs k d lt).filled)) in
    let large = larger_sum buffer_bytes large_size core.large (λ k d lt.
    omega (arith, (laid.large k d lt).filled)) in
    let counted = pages_counted core.slabs core.large in
    omega (arith, counted, slabs, large, slabs_fit core laid, large_fit core laid)
