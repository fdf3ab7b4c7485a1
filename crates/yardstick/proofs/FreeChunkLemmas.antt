-- The byte at each place of a free chunk.
use Rattle.std.proofs.Common.{◌≡◌, ℕ, ◌+◌, ◌-◌, ◌%◌, ◌<◌, ◌≤◌, List, ◌++◌, length, get_or, refl, sym, ap, ◌∙◌, subst, arith, length-append, bit_xor}
use Rattle.std.specs.Int as int
use Rattle.std.specs.Int.{to_le_bytes}
use Rattle.std.proofs.lemmas.List.{get_or_append_left, get_or-append_right, get_or_past}
use Rattle.byteorder.specs.Endian.{little_bytes}
use Rattle.umem_base.specs.Words.{repeated}
use Rattle.umem_base.proofs.WordsLemmas.{repeated_at}
use Rattle.buftag.specs.declared.patterns.TheConstants.{FREE_MARK, FREE_WORD, REDZONE_WORD}
use Rattle.buftag.specs.declared.shape.Shape.{Shape}
use Rattle.buftag.specs.declared.state.State.TheVariants.{Free}
use Rattle.buftag.specs.Written.{bufctl_bytes, free_chunk}
use Rattle.buftag.proofs.WrittenLemmas.{length-bytes, length-pattern}

-- what stands behind the content
abbrev tag_of_free : Shape → List ℕ
tag_of_free shape = little_bytes 8 REDZONE_WORD ++ bufctl_bytes shape Free

abbrev mark_word : Shape → ℕ
mark_word shape = bit_xor shape.bufctl FREE_MARK

at_tag : (shape : Shape) (content place : ℕ) → content ≡ shape.content → content ≤ place
    → get_or (free_chunk shape) place 0 ≡ get_or (tag_of_free shape) (place - content) 0
at_tag shape content place is le =
    get_or-append_right (repeated shape.content FREE_WORD) (tag_of_free shape) content place 0 (length-pattern shape.content FREE_WORD ∙ sym is) le

at_bufctl : (shape : Shape) (k : ℕ) → 8 ≤ k → get_or (tag_of_free shape) k 0 ≡ get_or (bufctl_bytes shape Free) (k - 8) 0
at_bufctl shape k le = get_or-append_right (little_bytes 8 REDZONE_WORD) (bufctl_bytes shape Free) 8 k 0 (length-bytes REDZONE_WORD) le

-- a byte of the content
pub free_content : (shape : Shape) (content place : ℕ) (word : List ℕ) → content ≡ shape.content → place < content → word ≡ to_le_bytes int.w64 FREE_WORD
    → get_or word (place % 8) 0 ≡ get_or (free_chunk shape) place 0
free_content shape content place word is lt spelled =
    ap (λ (bytes : List ℕ). get_or bytes (place % 8) 0) spelled
    ∙ sym (repeated_at shape.content FREE_WORD place (omega arith))
    ∙ sym (get_or_append_left (repeated shape.content FREE_WORD) (tag_of_free shape) 0 place (omega (arith, length-pattern shape.content FREE_WORD)))

-- a byte of the redzone word
pub free_redzone : (shape : Shape) (content place : ℕ) (word : List ℕ) → content ≡ shape.content → content ≤ place → place - content < 8
    → word ≡ to_le_bytes int.w64 REDZONE_WORD → get_or word (place - content) 0 ≡ get_or (free_chunk shape) place 0
free_redzone shape content place word is le lt spelled =
    ap (λ (bytes : List ℕ). get_or bytes (place - content) 0) spelled
    ∙ sym (get_or_append_left (little_bytes 8 REDZONE_WORD) (bufctl_bytes shape Free) 0 (place - content) (omega (arith, length-bytes REDZONE_WORD)))
    ∙ sym (at_tag shape content place is le)

-- a byte of the bufctl word
pub free_bufctl : (shape : Shape) (content place : ℕ) (word : List ℕ) → content ≡ shape.content → content ≤ place → 8 ≤ place - content
    → place - content < 16 → word ≡ to_le_bytes int.w64 shape.bufctl → get_or word (place - content - 8) 0 ≡ get_or (free_chunk shape) place 0
free_bufctl shape content place word is le low high spelled =
    ap (λ (bytes : List ℕ). get_or bytes (place - content - 8) 0) spelled
    ∙ sym (get_or_append_left (little_bytes 8 shape.bufctl) (little_bytes 8 (mark_word shape)) 0 (place - content - 8) (omega (arith, length-bytes shape.bufctl)))
    ∙ sym (at_bufctl shape (place - content) low) ∙ sym (at_tag shape content place is le)

-- a byte of bxstat
pub free_mark : (shape : Shape) (content place : ℕ) (word : List ℕ) → content ≡ shape.content → content ≤ place → 16 ≤ place - content
    → word ≡ to_le_bytes int.w64 (mark_word shape) → get_or word (place - content - 16) 0 ≡ get_or (free_chunk shape) place 0
free_mark shape content place word is le low spelled =
    let k = place - content in
    let same : k - 8 - 8 ≡ k - 16 = omega arith in
    ap (λ (bytes : List ℕ). get_or bytes (k - 16) 0) spelled
    ∙ ap (λ (n : ℕ). get_or (little_bytes 8 (mark_word shape)) n 0) (sym same)
    ∙ sym (get_or-append_right (little_bytes 8 shape.bufctl) (little_bytes 8 (mark_word shape)) 8 (k - 8) 0 (length-bytes shape.bufctl) (omega arith))
    ∙ sym (at_bufctl shape k (omega arith)) ∙ sym (at_tag shape content place is le)

-- behind its end
pub free_past : (shape : Shape) (content place : ℕ) → content ≡ shape.content → content ≤ place → 24 ≤ place - content → 0 ≡ get_or (free_chunk shape) place 0
free_past shape content place is le past =
    sym (get_or_past (free_chunk shape) place 0 (omega (
      arith,
      length-append (repeated shape.content FREE_WORD) (tag_of_free shape),
      length-append (little_bytes 8 REDZONE_WORD) (bufctl_bytes shape Free),
      length-append (little_bytes 8 shape.bufctl) (little_bytes 8 (mark_word shape)),
      length-pattern shape.content FREE_WORD,
      length-bytes REDZONE_WORD,
      length-bytes shape.bufctl,
      length-bytes (mark_word shape),
    )))
