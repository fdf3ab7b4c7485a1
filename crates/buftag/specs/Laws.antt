-- What follows of the definitions of this crate, for contracts that speak of them.
use Rattle.std.specs.Prelude.{◌≡◌, ℕ, ◌+◌, ◌*◌, ◌^◌, ◌<◌, ◌≤◌, Bool, false, List, Some, None, slice_index}
use Rattle.case_table.specs.declared.limits.TheConstants.{MOST_CACHE_BYTES}
use Rattle.buftag.specs.declared.shape.Shape.{Shape}
use Rattle.buftag.specs.declared.state.State.TheVariants.{Allocated, Free}
use Rattle.buftag.specs.Codes.{code_of, coded_size}
use Rattle.buftag.specs.declared.patterns.TheConstants.{FREE_WORD, FRESH_WORD, GUARD_BYTE, REDZONE_HALF, REDZONE_WORD}
use Rattle.buftag.specs.Findings.{finding}
use Rattle.buftag.specs.Shape.{IsChunk, IsRequest, IsShape}
use Rattle.buftag.specs.Written.{KeepsMarks, allocated_chunk, free_chunk, mark_of}

-- the numbers that stand in the words, bytes and codes of a chunk
pub record AreNumbersOfTags : Type 0 where
  pub free_word : FREE_WORD ≡ 0xdeadbeefdeadbeef
  pub fresh_word : FRESH_WORD ≡ 0xbaddcafebaddcafe
  pub redzone_word : REDZONE_WORD ≡ 0xfeedfacefeedface
  pub redzone_half : REDZONE_HALF ≡ 0xfeedface
  pub guard_byte : GUARD_BYTE ≡ 0xbb
  pub allocated_mark : mark_of Allocated ≡ 0xa110c8ed
  pub free_mark : mark_of Free ≡ 0xf4eef4ee
  pub code : (size : ℕ) → code_of size ≡ 251 * size + 1

-- the items are bytes
abbrev pub AreBytes : List ℕ → Type 0
AreBytes bytes = (k : ℕ) → slice_index bytes k < 256

-- a code tells the size that it was made of
abbrev pub AreSizesToldByCodes : Type 0
AreSizesToldByCodes = (size : ℕ) → size ≤ MOST_CACHE_BYTES → coded_size (code_of size) ≡ Some size

-- a free chunk in its written state has so many bytes as its shape says
abbrev pub HaveFreeChunksTheirLength : Type 0
HaveFreeChunksTheirLength = (shape : Shape) → IsChunk (free_chunk shape) shape

-- and so has an allocated one
abbrev pub HaveAllocatedChunksTheirLength : Type 0
HaveAllocatedChunksTheirLength =
    (shape : Shape) (requested : ℕ) (zero : Bool) → IsShape shape → IsRequest shape requested
    → IsChunk (allocated_chunk shape requested zero) shape

-- a free chunk in its written state breaks no rule
abbrev pub AreFreeChunksWhole : Type 0
AreFreeChunksWhole =
    (shape : Shape) → IsShape shape → shape.bufctl < 2 ^ 64 → finding (free_chunk shape) shape Free ≡ None

-- and so does an allocated one
abbrev pub AreAllocatedChunksWhole : Type 0
AreAllocatedChunksWhole =
    (shape : Shape) (requested : ℕ) (zero : Bool) → IsShape shape → IsRequest shape requested
    → shape.bufctl < 2 ^ 64 → finding (allocated_chunk shape requested zero) shape Allocated ≡ None

-- an allocated chunk that was written to anywhere but in its tag and at its guard byte breaks no rule
abbrev pub AreStoresBesideTheMarksAllowed : Type 0
AreStoresBesideTheMarksAllowed =
    (shape : Shape) (requested : ℕ) (zero : Bool) (bytes : List ℕ) → IsShape shape → IsRequest shape requested
    → shape.bufctl < 2 ^ 64 → KeepsMarks shape requested (allocated_chunk shape requested zero) bytes
    → finding bytes shape Allocated ≡ None

-- a free chunk that breaks no rule is as it was written, byte by byte
abbrev pub AreWholeFreeChunksAsWritten : Type 0
AreWholeFreeChunksAsWritten =
    (shape : Shape) (bytes : List ℕ) → IsShape shape → IsChunk bytes shape → AreBytes bytes
    → finding bytes shape Free ≡ None → bytes ≡ free_chunk shape

-- an allocated chunk that breaks no rule has the tag and the guard byte that an allocation leaves
abbrev pub HaveWholeAllocatedChunksTheirMarks : Type 0
HaveWholeAllocatedChunksTheirMarks =
    (shape : Shape) (bytes : List ℕ) → IsShape shape → IsChunk bytes shape → AreBytes bytes
    → finding bytes shape Allocated ≡ None
    → (requested : ℕ) × IsRequest shape requested
    × KeepsMarks shape requested (allocated_chunk shape requested false) bytes
