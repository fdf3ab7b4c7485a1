-- The quantities of a cache's slabs, each as its formula.
use Rattle.std.specs.Prelude.{◌≡◌, ℕ, ◌+◌, ◌-◌, ◌*◌, ◌/◌, ◌%◌, ◌<◌, ◌≤◌, Bool, ◌==◌, IsTrue, max, nat_le, if◌then◌else◌}
use Rattle.std.specs.List.{list_any}
use Rattle.umem_base.specs.declared.pages.TheConstants.{PAGE_BYTES}
use Rattle.umem_base.specs.Pages.{pages_for}
use Rattle.case_table.specs.declared.limits.TheConstants.{MOST_CACHE_BYTES}
use Rattle.case_table.specs.declared.slab_formulas.TheConstants.{ALIGNS, LARGE_CHUNK_ROUNDS, MIDDLING_CHUNK, MIDDLING_CHUNK_ROUNDS, SMALL_CHUNK, SMALL_CHUNK_ROUNDS, TAG_BYTES}
use Rattle.case_table.specs.declared.slab_quantities.Geometry.{Geometry}

-- what the addresses of a cache's buffers may be multiples of
abbrev pub IsAlign : ℕ → Type 0
IsAlign align = IsTrue (list_any (λ one. one == align) ALIGNS)

-- a size and an alignment that a cache may have
pub record IsCacheShape (size align : ℕ) : Type 0 where
  pub some : 0 < size
  pub fits : size ≤ MOST_CACHE_BYTES
  pub aligned : IsAlign align

-- the least multiple of step that is not below n
abbrev pub round_up : ℕ → ℕ → ℕ
round_up n step = (n + (step - 1)) / step * step

-- the bytes behind the content: the redzone word, the bufctl word and bxstat, or none
abbrev pub tag_of : Bool → ℕ
tag_of guards = if guards then TAG_BYTES else 0

-- the bytes of a buffer in whole words
abbrev pub content_of : ℕ → ℕ
content_of size = round_up size 8

-- the bytes from one buffer to the next
abbrev pub chunk_of : ℕ → ℕ → Bool → ℕ
chunk_of size align guards = round_up (content_of size + tag_of guards) align

-- the pages of a slab of such chunks, by which it holds eight or more
abbrev pub pages_of : ℕ → ℕ
pages_of chunk = max 1 (pages_for (8 * chunk))

-- the chunks of a slab
abbrev pub rounds_per_slab : ℕ → ℕ
rounds_per_slab chunk = pages_of chunk * PAGE_BYTES / chunk

-- the bytes of a slab that no chunk takes
abbrev pub leftover_of : ℕ → ℕ
leftover_of chunk = pages_of chunk * PAGE_BYTES - rounds_per_slab chunk * chunk

-- the rounds of a magazine
abbrev pub magazine_of : ℕ → ℕ
magazine_of chunk =
    if nat_le chunk SMALL_CHUNK then SMALL_CHUNK_ROUNDS else (
    if nat_le chunk MIDDLING_CHUNK then MIDDLING_CHUNK_ROUNDS else LARGE_CHUNK_ROUNDS)

-- all of them
unfoldable pub geometry_of : ℕ → ℕ → Bool → Geometry
geometry_of size align guards =
    let chunk = chunk_of size align guards in
    record {
      content = content_of size;
      chunk = chunk;
      pages = pages_of chunk;
      rounds = rounds_per_slab chunk;
      leftover = leftover_of chunk;
      magazine = magazine_of chunk;
    }

-- where the first chunk of a slab begins, for the slab before which its cache made so many others
abbrev pub colour_of : ℕ → ℕ → ℕ → ℕ
colour_of align leftover made = align * (made % (leftover / align + 1))

-- what holds of the quantities of every cache
pub record IsSlabGeometry (size align : ℕ) (guards : Bool) (g : Geometry) : Type 0 where
  pub align_some : 8 ≤ align
  pub align_small : align ≤ 64
  pub content_holds : size ≤ g.content
  pub content_words : g.content % 8 ≡ 0
  pub content_small : g.content ≤ MOST_CACHE_BYTES
  pub tag_fits : g.content + tag_of guards ≤ g.chunk
  pub chunk_words : g.chunk % 8 ≡ 0
  pub chunk_aligned : g.chunk % align ≡ 0
  pub chunk_some : 8 ≤ g.chunk
  pub chunk_small : g.chunk ≤ 4160
  pub pages_some : 1 ≤ g.pages
  pub pages_small : g.pages ≤ 9
  pub rounds_many : 8 ≤ g.rounds
  pub rounds_small : g.rounds ≤ 512
  pub filled : g.rounds * g.chunk + g.leftover ≡ g.pages * PAGE_BYTES
  pub leftover_small : g.leftover < g.chunk
  pub magazine_some : LARGE_CHUNK_ROUNDS ≤ g.magazine
  pub magazine_small : g.magazine ≤ SMALL_CHUNK_ROUNDS

-- where chunk i of a slab begins, in bytes from the slab's base
abbrev pub chunk_at : ℕ → ℕ → Geometry → ℕ → ℕ
chunk_at align made g i = colour_of align g.leftover made + i * g.chunk

-- the chunks of a slab stand in it, aligned and apart, where its cache made so many other slabs before
pub record KeepsChunksApart (align made : ℕ) (g : Geometry) : Type 0 where
  pub inside : (i : ℕ) → i < g.rounds → chunk_at align made g i + g.chunk ≤ g.pages * PAGE_BYTES
  pub aligned : (i : ℕ) → chunk_at align made g i % align ≡ 0
  pub in_words : (i : ℕ) → chunk_at align made g i % 8 ≡ 0
  pub apart : (i j : ℕ) → i < j → chunk_at align made g i + g.chunk ≤ chunk_at align made g j
