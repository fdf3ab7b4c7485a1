-- What is wrong with a chunk: facts about its bytes, a table of rows, and the first row that holds.
use Rattle.std.specs.Prelude.{ℕ, ◌+◌, ◌*◌, ◌/◌, Bool, true, false, ◌&&◌, ◌==◌, not, List, [], ◌∷◌, map, position, slice_index, bit_xor, Option, Some, None, is_none, is_some, unwrap_or, if◌then◌else◌}
use Rattle.std.specs.List.{find, range_with_len}
use Rattle.std.specs.Option.{option_and_then, option_eq, option_map, option_map_or}
use Rattle.byteorder.specs.Endian.{little_from}
use Rattle.case_table.specs.Sizes.{class_for}
use Rattle.buftag.specs.declared.shape.Shape.{Shape}
use Rattle.buftag.specs.declared.fact.Fact.{Fact}
use Rattle.buftag.specs.declared.fact.Fact.TheVariants.{Tag, Code, Guard, Low, Word, Pattern}
use Rattle.buftag.specs.declared.facts.Facts.{Facts}
use Rattle.buftag.specs.declared.kind.Kind.{Kind}
use Rattle.buftag.specs.declared.kind.Kind.TheVariants.{OfClass, Declared, Unused}
use Rattle.buftag.specs.declared.state.State.{State}
use Rattle.buftag.specs.declared.state.State.TheVariants.{Allocated, Free}
use Rattle.buftag.specs.declared.finding.Finding.{Finding}
use Rattle.buftag.specs.declared.finding.Finding.TheVariants.{BadTag, Content, GuardByte, Redzone, SizeCode}
use Rattle.buftag.specs.Codes.{coded_size}
use Rattle.buftag.specs.declared.patterns.TheConstants.{FREE_WORD, GUARD_BYTE, REDZONE_HALF, REDZONE_WORD}
use Rattle.buftag.specs.Written.{mark_of}

-- a row of the table: which chunks it is about, and what is wrong with them
pub record Row : Type 0 where
  pub kind : Kind
  pub fact : Fact

-- the rows, of which the first that holds decides
abbrev pub rows : List Row
rows =
    record { kind = OfClass; fact = Tag } ∷ record { kind = OfClass; fact = Code }
    ∷ record { kind = OfClass; fact = Guard } ∷ record { kind = OfClass; fact = Low }
    ∷ record { kind = Declared; fact = Tag } ∷ record { kind = Declared; fact = Word }
    ∷ record { kind = Unused; fact = Pattern } ∷ record { kind = Unused; fact = Word }
    ∷ record { kind = Unused; fact = Tag } ∷ []

-- which kind of chunk it is
abbrev pub kind_of : Shape → State → Kind
kind_of shape Allocated = if is_some shape.class then OfClass else Declared
kind_of shape Free = Unused

-- the kinds are one
abbrev pub is_same_kind : Kind → Kind → Bool
is_same_kind OfClass OfClass = true
is_same_kind Declared Declared = true
is_same_kind Unused Unused = true
is_same_kind _ _ = false

-- the word at an offset
abbrev pub tag_word : List ℕ → ℕ → ℕ
tag_word bytes at = little_from at 8 bytes

-- the half of a word at an offset
abbrev pub tag_half : List ℕ → ℕ → ℕ
tag_half bytes at = little_from at 4 bytes

-- the class of the chunk is the one that serves the size
abbrev pub is_served : Shape → ℕ → Bool
is_served shape size = option_eq (λ a b. a == b) (class_for size) shape.class

-- the size that the upper half of the redzone word tells, if the chunk's class serves it
abbrev pub told_size : List ℕ → Shape → Option ℕ
told_size bytes shape =
    let coded = coded_size (tag_half bytes (shape.content + 4)) in
    option_and_then (λ size. if is_served shape size then Some size else None) coded

-- the words of the content
abbrev pub content_words : List ℕ → Shape → List ℕ
content_words bytes shape = map (λ k. tag_word bytes (8 * k)) (range_with_len 0 (shape.content / 8))

-- the offset of the first word of the content that is not the pattern of free chunks
abbrev pub wrong_word : List ℕ → Shape → Option ℕ
wrong_word bytes shape =
    option_map (λ k. 8 * k) (position (λ word. not (word == FREE_WORD)) (content_words bytes shape))

-- the bufctl word is not the chunk's own, or bxstat is not that of the state
abbrev pub has_bad_tag : List ℕ → Shape → State → Bool
has_bad_tag bytes shape state =
    let bxstat = bit_xor shape.bufctl (mark_of state) in
    not (tag_word bytes (shape.content + 8) == shape.bufctl && tag_word bytes (shape.content + 16) == bxstat)

-- the upper half of the redzone word tells no size of the class
abbrev pub has_bad_code : List ℕ → Shape → Bool
has_bad_code bytes shape = is_none (told_size bytes shape)

-- it tells one, and the byte behind that size is not the guard byte
abbrev pub has_bad_guard : List ℕ → Shape → Bool
has_bad_guard bytes shape =
    option_map_or (λ size. not (slice_index bytes size == GUARD_BYTE)) (told_size bytes shape) false

-- the guard byte stands in the redzone word
abbrev pub is_at_end : List ℕ → Shape → Bool
is_at_end bytes shape = option_eq (λ a b. a == b) (told_size bytes shape) (Some shape.content)

-- the lower half of the redzone word is wrong; where the guard byte is its lowest byte, that one counts for nothing
abbrev pub has_bad_low_half : List ℕ → Shape → Bool
has_bad_low_half bytes shape =
    let low = tag_half bytes shape.content in
    if is_at_end bytes shape then not (low / 256 == REDZONE_HALF / 256) else not (low == REDZONE_HALF)

-- the redzone word, which tells no size, is wrong
abbrev pub has_bad_word : List ℕ → Shape → Bool
has_bad_word bytes shape = not (tag_word bytes shape.content == REDZONE_WORD)

-- a word of the content is not the pattern of free chunks
abbrev pub has_bad_pattern : List ℕ → Shape → Bool
has_bad_pattern bytes shape = is_some (wrong_word bytes shape)

-- which of these facts hold of a chunk's bytes
unfoldable pub facts_of : List ℕ → Shape → State → Facts
facts_of bytes shape state =
    record {
      tag = has_bad_tag bytes shape state;
      code = has_bad_code bytes shape;
      guard = has_bad_guard bytes shape;
      low = has_bad_low_half bytes shape;
      word = has_bad_word bytes shape;
      pattern = has_bad_pattern bytes shape;
    }

-- the fact is among those that hold
abbrev pub holds : Fact → Facts → Bool
holds Tag facts = facts.tag
holds Code facts = facts.code
holds Guard facts = facts.guard
holds Low facts = facts.low
holds Word facts = facts.word
holds Pattern facts = facts.pattern

-- what a fact is called
abbrev pub finding_of : Fact → List ℕ → Shape → Finding
finding_of Tag bytes shape = BadTag
finding_of Code bytes shape = SizeCode
finding_of Guard bytes shape = GuardByte
finding_of Low bytes shape = Redzone
finding_of Word bytes shape = Redzone
finding_of Pattern bytes shape = Content (unwrap_or (wrong_word bytes shape) 0)

-- the row is about such chunks, and its fact holds
abbrev pub decides : Kind → Facts → Row → Bool
decides kind facts row = is_same_kind row.kind kind && holds row.fact facts

-- the finding of a chunk: what the first row that decides calls its fact, or none where no row does
unfoldable pub finding : List ℕ → Shape → State → Option Finding
finding bytes shape state =
    let first = find (decides (kind_of shape state) (facts_of bytes shape state)) rows in
    option_map (λ row. finding_of row.fact bytes shape) first
