-- The bytes of a chunk as a free and as an allocation leave them: the content, and behind it the redzone word,
-- the bufctl word and bxstat. Words stand with the lowest byte first.
use Rattle.std.specs.Prelude.{◌≡◌, ℕ, ◌≤◌, Bool, List, ◌++◌, replicate, drop, slice_index, slice_set, bit_xor, Option, Some, None, IsSome, if◌then◌else◌}
use Rattle.byteorder.specs.Endian.{little_bytes}
use Rattle.umem_base.specs.Words.{repeated}
use Rattle.buftag.specs.declared.patterns.TheConstants.{ALLOCATED_MARK, FREE_MARK, FREE_WORD, FRESH_WORD, GUARD_BYTE, REDZONE_HALF, REDZONE_WORD}
use Rattle.buftag.specs.declared.shape.Shape.{Shape}
use Rattle.buftag.specs.declared.state.State.{State}
use Rattle.buftag.specs.declared.state.State.TheVariants.{Allocated, Free}
use Rattle.buftag.specs.Codes.{code_of}

-- by what bxstat differs from the bufctl word
abbrev pub mark_of : State → ℕ
mark_of Allocated = ALLOCATED_MARK
mark_of Free = FREE_MARK

-- the bufctl word and bxstat
abbrev pub bufctl_bytes : Shape → State → List ℕ
bufctl_bytes shape state = little_bytes 8 shape.bufctl ++ little_bytes 8 (bit_xor shape.bufctl (mark_of state))

-- a free chunk
abbrev pub free_chunk : Shape → List ℕ
free_chunk shape = repeated shape.content FREE_WORD ++ (little_bytes 8 REDZONE_WORD ++ bufctl_bytes shape Free)

-- the content of a chunk that was just allocated, with zeros in front where they are wanted
abbrev pub fresh_content : ℕ → ℕ → Bool → List ℕ
fresh_content content requested zero =
    if zero then replicate requested 0 ++ drop requested (repeated content FRESH_WORD) else repeated content FRESH_WORD

-- the redzone word of a chunk that was just allocated, but for the guard byte
abbrev pub redzone_bytes : Option ℕ → ℕ → List ℕ
redzone_bytes None requested = little_bytes 8 REDZONE_WORD
redzone_bytes (Some class) requested = little_bytes 4 REDZONE_HALF ++ little_bytes 4 (code_of requested)

-- the bytes with the guard byte, which a chunk of a size class has
abbrev pub with_guard : Option ℕ → ℕ → List ℕ → List ℕ
with_guard None requested bytes = bytes
with_guard (Some class) requested bytes = slice_set bytes requested GUARD_BYTE

-- a chunk that was just allocated
abbrev pub allocated_chunk : Shape → ℕ → Bool → List ℕ
allocated_chunk shape requested zero =
    let tag = redzone_bytes shape.class requested ++ bufctl_bytes shape Allocated in
    with_guard shape.class requested (fresh_content shape.content requested zero ++ tag)

-- the bytes from the content's end on are the same, and for a size class the byte behind the requested size is
pub record KeepsMarks (shape : Shape) (requested : ℕ) (old new : List ℕ) : Type 0 where
  pub tag : (k : ℕ) → shape.content ≤ k → slice_index new k ≡ slice_index old k
  pub guard : IsSome shape.class → slice_index new requested ≡ slice_index old requested
