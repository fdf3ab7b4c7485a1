-- A chunk that breaks no rule has the bytes that were written, or the marks of a request.
use Rattle.std.proofs.Common.{◌≡◌, ℕ, ◌+◌, ◌-◌, ◌*◌, ◌/◌, ◌%◌, ◌<◌, ◌≤◌, ◌∙◌, ◌&&◌, Bool, true, false, not, cond, eqb, List, ◌++◌, length, get_or, take, drop, Option, Some, None, is_some, refl, ap, sym, arith, bit_xor, inl, inr, ◌≢◌, zero, suc, [], ◌∷◌, set, is_none, length-append}
use Rattle.std.specs.List.{position, position_or_len}
use Rattle.std.proofs.lemmas.Bool.{and_parts, cases_lt, eqb-true, lt-ltb}
use Rattle.std.specs.Option.{option_map, option_eq, option_map_or}
use Rattle.std.proofs.lemmas.Grind.{same_number_lists}
use Rattle.std.proofs.lemmas.List.{get_or-drop, get_or-take, get_or_append_left, length-drop, get_or-set_other, get_or-set_same}
use Rattle.std.proofs.lemmas.List.Sums.{fails_before_first}
use Rattle.byteorder.specs.Endian.{little_bytes, little_from}
use Rattle.byteorder.specs.Numbers.{length-bytes_low_first}
use Rattle.case_table.proofs.RecordLemmas.{IsBytes, bytes_of_number}
use Rattle.buftag.specs.declared.shape.Shape.{Shape}
use Rattle.buftag.specs.declared.state.State.{State}
use Rattle.buftag.specs.declared.state.State.TheVariants.{Free, Allocated}
use Rattle.buftag.specs.Findings.{content_words, facts_of, finding, has_bad_pattern, has_bad_tag, tag_word, tag_half, has_bad_guard, has_bad_low_half, told_size}
use Rattle.buftag.specs.Shape.{IsChunk, IsShape, IsRequest}
use Rattle.buftag.specs.declared.patterns.TheConstants.{FREE_WORD, REDZONE_WORD, REDZONE_HALF}
use Rattle.umem_base.specs.Words.{repeated}
use Rattle.buftag.specs.Written.{bufctl_bytes, free_chunk, mark_of, KeepsMarks, allocated_chunk, fresh_content}
use Rattle.buftag.proofs.WrittenLemmas.{Stands, Stands-back, Stands-front, Stands-join, Stands-set, behind_content, get_or-pattern, length-allocated_chunk, length-bufctl_bytes, length-bytes, length-free_chunk, length-fresh_content, length-pattern, little_from-same, shape_from}
use Rattle.buftag.proofs.FindingsLemmas.{verdict-Unused-None, get_or-content_words, is_wrong, length-content_words, verdict-Declared-None, verdict-OfClass-None}
use Rattle.std.proofs.lemmas.Bool.Decides.{eqb_tells}
use Rattle.buftag.specs.Codes.{code_of}
use Rattle.buftag.proofs.ShapeLemmas.{coded_size-code, served-within, size-content, told_size-parts}

-- ---- a chunk that breaks no rule has the bytes that were written

-- the bytes of a number stand where it is read
pub Stands-number : (n : ℕ) (bytes : List ℕ) (at x : ℕ) → IsBytes bytes → at + n ≤ length bytes → little_from at n bytes ≡ x → Stands bytes at (little_bytes n x)
Stands-number n bytes at x fits room number m p h place =
    let rest = drop at bytes in
    let moved : little_from 0 n rest ≡ little_from at n bytes = little_from-same n 0 at rest bytes (λ m p q h a b. let there : at + p ≡ q = omega arith in get_or-drop at bytes p 0 ∙ ap (λ k. get_or bytes k 0) there) in
    let known : little_bytes n (little_from 0 n rest) ≡ take n rest = bytes_of_number n rest (λ i. rw (get_or-drop at bytes i 0) (fits (at + i))) (omega (arith, length-drop at bytes)) in
    let spelled : little_bytes n x ≡ take n rest = ap (little_bytes n) (sym (moved ∙ number)) ∙ known in
    let below : m < n = omega (arith, length-bytes_low_first 0 n x) in
    sym (ap (λ (l : List ℕ). get_or l m 0) spelled ∙ get_or-take n rest m 0 below ∙ get_or-drop at bytes m 0 ∙ ap (λ k. get_or bytes k 0) place)

pub Stands-word : (bytes : List ℕ) (at x : ℕ) → IsBytes bytes → at + 8 ≤ length bytes → tag_word bytes at ≡ x → Stands bytes at (little_bytes 8 x)
Stands-word bytes at x fits room word = Stands-number 8 bytes at x fits room word

-- where nothing passes, no element does
none_passes : (p : ℕ → Bool) (xs : List ℕ) (k : ℕ) → position p xs ≡ None → k < length xs → p (get_or xs k 0) ≡ false
none_passes p xs k none h =
    elim (cases_lt (position_or_len p xs) (length xs)) [
      | inr past ↦ fails_before_first p xs k 0 (omega arith)
      | inl inside ↦ (let found : position p xs ≡ Some (position_or_len p xs) = ap (λ b. cond b (Some (position_or_len p xs)) None) (lt-ltb (position_or_len p xs) (length xs) inside) in absurd (cc))
    ]

pub not_false : (b : Bool) → not b ≡ false → b ≡ true
not_false true e = refl
not_false false e = absurd (cc)

none_is : (o : Option ℕ) → is_some (option_map (λ k. 8 * k) o) ≡ false → o ≡ None
none_is None e = refl
none_is (Some k) e = absurd (cc)

-- no word of a content is wrong where none is found
pub right_words : (bytes : List ℕ) (shape : Shape) (k : ℕ) → has_bad_pattern bytes shape ≡ false → k < shape.content / 8 → tag_word bytes (8 * k) ≡ FREE_WORD
right_words bytes shape k none h =
    let words = content_words bytes shape in
    let fails : is_wrong (get_or words k 0) ≡ false = none_passes is_wrong words k (none_is (position is_wrong words) none) (omega (arith, length-content_words bytes shape)) in
    let here = get_or-content_words bytes shape k h in
    let equal : eqb (tag_word bytes (8 * k)) FREE_WORD ≡ true = not_false (eqb (tag_word bytes (8 * k)) FREE_WORD) (ap is_wrong (sym here) ∙ fails) in
    eqb-true (tag_word bytes (8 * k)) FREE_WORD equal

-- two lists in which one part stands at one place
pub same_part : (xs ys part : List ℕ) (at k : ℕ) → Stands xs at part → Stands ys at part → at ≤ k → k < at + length part → get_or xs k 0 ≡ get_or ys k 0
same_part xs ys part at k left right from to =
    let m = k - at in
    left m k (omega arith) (omega arith) ∙ sym (right m k (omega arith) (omega arith))

-- a tag that is found sound is the one that was written
pub tag_parts : (bytes : List ℕ) (shape : Shape) (state : State) → has_bad_tag bytes shape state ≡ false
    → (tag_word bytes (shape.content + 8) ≡ shape.bufctl) × (tag_word bytes (shape.content + 16) ≡ bit_xor shape.bufctl (mark_of state))
tag_parts bytes shape state none =
    let both = not_false (eqb (tag_word bytes (shape.content + 8)) shape.bufctl && eqb (tag_word bytes (shape.content + 16)) (bit_xor shape.bufctl (mark_of state))) none in
    let parts = and_parts (eqb (tag_word bytes (shape.content + 8)) shape.bufctl) (eqb (tag_word bytes (shape.content + 16)) (bit_xor shape.bufctl (mark_of state))) both in
    (eqb-true (tag_word bytes (shape.content + 8)) shape.bufctl parts.0, eqb-true (tag_word bytes (shape.content + 16)) (bit_xor shape.bufctl (mark_of state)) parts.1)

-- the content of a free chunk
intact_content : (shape : Shape) (bytes : List ℕ) (k : ℕ) → IsShape shape → IsChunk bytes shape → IsBytes bytes → has_bad_pattern bytes shape ≡ false → k < shape.content
    → get_or bytes k 0 ≡ get_or (free_chunk shape) k 0
intact_content shape bytes k s chunk fits none h =
    let whole : shape.content % 8 ≡ 0 = omega (arith, s.words) in
    let within : k / 8 < shape.content / 8 = omega arith in
    let word = right_words bytes shape (k / 8) none within in
    let stands = Stands-word bytes (8 * (k / 8)) FREE_WORD fits (omega arith) word in
    let inside : k < length (repeated shape.content FREE_WORD) = omega (arith, length-pattern shape.content FREE_WORD) in
    stands (k % 8) k (omega (arith, length-bytes FREE_WORD)) (omega arith)
    ∙ sym (get_or-pattern shape.content FREE_WORD k h)
    ∙ sym (get_or_append_left (repeated shape.content FREE_WORD) (little_bytes 8 REDZONE_WORD ++ bufctl_bytes shape Free) 0 k inside)

pub intact-free : (shape : Shape) (bytes : List ℕ) → IsShape shape → IsChunk bytes shape → IsBytes bytes → finding bytes shape Free ≡ None → bytes ≡ free_chunk shape
unfolding finding facts_of
intact-free shape bytes s chunk fits none =
    let quiet = verdict-Unused-None (facts_of bytes shape Free) bytes shape none in
    let content = shape.content in
    let mark = bit_xor shape.bufctl (mark_of Free) in
    let stand = behind_content (repeated content FREE_WORD) (little_bytes 8 REDZONE_WORD) (bufctl_bytes shape Free) content (length-pattern content FREE_WORD) (length-bytes REDZONE_WORD) in
    let own = Stands-front (free_chunk shape) (little_bytes 8 shape.bufctl) (little_bytes 8 mark) (content + 8) stand.1 in
    let marked = Stands-back (free_chunk shape) (little_bytes 8 shape.bufctl) (little_bytes 8 mark) (content + 8) (content + 16) (omega (arith, length-bytes shape.bufctl)) stand.1 in
    let tag = tag_parts bytes shape Free quiet.0 in
    let word : tag_word bytes content ≡ REDZONE_WORD = eqb-true (tag_word bytes content) REDZONE_WORD (not_false (eqb (tag_word bytes content) REDZONE_WORD) quiet.1) in
    let redzone_stands = Stands-word bytes content REDZONE_WORD fits (omega arith) word in
    let own_stands = Stands-word bytes (content + 8) shape.bufctl fits (omega arith) tag.0 in
    let mark_stands = Stands-word bytes (content + 16) mark fits (omega arith) tag.1 in
    same_number_lists bytes (free_chunk shape) (omega (arith, length-free_chunk shape)) (λ k h.
    elim (cases_lt k content) [
      | inl front ↦ intact_content shape bytes k s chunk fits quiet.2 front
      | inr behind ↦ elim (cases_lt k (content + 8)) [
        | inl here ↦ same_part bytes (free_chunk shape) (little_bytes 8 REDZONE_WORD) content k redzone_stands stand.0 (omega arith) (omega (arith, length-bytes REDZONE_WORD))
        | inr behind ↦ elim (cases_lt k (content + 16)) [
          | inl here ↦ same_part bytes (free_chunk shape) (little_bytes 8 shape.bufctl) (content + 8) k own_stands own (omega arith) (omega (arith, length-bytes shape.bufctl))
          | inr behind ↦ same_part bytes (free_chunk shape) (little_bytes 8 mark) (content + 16) k mark_stands marked (omega arith) (omega (arith, length-bytes mark))
        ]
      ]
    ])

-- ---- an allocated chunk that breaks no rule has the tag and the guard byte of a request

-- a list has nothing past its end
past_end : (xs : List ℕ) (k : ℕ) → length xs ≤ k → get_or xs k 0 ≡ 0
past_end [] k h = refl
past_end (x ∷ xs) zero h = absurd (omega arith)
past_end (x ∷ xs) (suc k) h = past_end xs k (omega arith)

-- the bufctl word and bxstat of a sound tag
tag_stands : (bytes : List ℕ) (shape : Shape) → IsChunk bytes shape → IsBytes bytes → has_bad_tag bytes shape Allocated ≡ false
    → Stands bytes (shape.content + 8) (bufctl_bytes shape Allocated)
tag_stands bytes shape chunk fits none =
    let parts = tag_parts bytes shape Allocated none in
    let mark = bit_xor shape.bufctl (mark_of Allocated) in
    let first = Stands-word bytes (shape.content + 8) shape.bufctl fits (omega arith) parts.0 in
    let second = Stands-word bytes (shape.content + 16) mark fits (omega arith) parts.1 in
    Stands-join bytes (little_bytes 8 shape.bufctl) (little_bytes 8 mark) (shape.content + 8) (shape.content + 16) (omega (arith, length-bytes shape.bufctl)) first second

-- two chunks with one redzone word and one tag are the same from the content's end on
same_tag : (xs ys redzone tag : List ℕ) (content : ℕ) → length xs ≡ content + 24 → length ys ≡ content + 24 → length redzone ≡ 8 → length tag ≡ 16
    → Stands xs content redzone → Stands ys content redzone → Stands xs (content + 8) tag → Stands ys (content + 8) tag
    → (k : ℕ) → content ≤ k → get_or xs k 0 ≡ get_or ys k 0
same_tag xs ys redzone tag content long also eight sixteen left right behind beside k from =
    elim (cases_lt k (content + 8)) [
      | inl word ↦ same_part xs ys redzone content k left right from (omega arith)
      | inr rest ↦ elim (cases_lt k (content + 24)) [
        | inl inside ↦ same_part xs ys tag (content + 8) k behind beside rest (omega arith)
        | inr past ↦ past_end xs k (omega arith) ∙ sym (past_end ys k (omega arith))
      ]
    ]

-- a buffer of a declared cache
marks-declared : (size content bufctl : ℕ) (bytes : List ℕ) →
    let shape = shape_from size content bufctl None in
    IsShape shape → IsChunk bytes shape → IsBytes bytes → finding bytes shape Allocated ≡ None → KeepsMarks shape size (allocated_chunk shape size false) bytes
unfolding finding facts_of
marks-declared size content bufctl bytes s chunk fits none =
    let shape = shape_from size content bufctl None in
    let quiet = verdict-Declared-None (facts_of bytes shape Allocated) bytes shape none in
    let within : size ≤ content = size-content size content s.words in
    let written = allocated_chunk shape size false in
    let stand = behind_content (fresh_content content size false) (little_bytes 8 REDZONE_WORD) (bufctl_bytes shape Allocated) content (length-fresh_content content size false within) (length-bytes REDZONE_WORD) in
    let word : tag_word bytes content ≡ REDZONE_WORD = eqb-true (tag_word bytes content) REDZONE_WORD (not_false (eqb (tag_word bytes content) REDZONE_WORD) quiet.1) in
    record {
      tag =
          same_tag bytes written (little_bytes 8 REDZONE_WORD) (bufctl_bytes shape Allocated) content chunk (length-allocated_chunk shape size false s refl) (length-bytes REDZONE_WORD) (length-bufctl_bytes shape Allocated)
          (Stands-word bytes content REDZONE_WORD fits (omega arith) word) stand.0 (tag_stands bytes shape chunk fits quiet.0) stand.1;
      guard = λ e. absurd (cc);
    }

-- a size that is told, where one is
told_some : (o : Option ℕ) → is_none o ≡ false → (size : ℕ) × (o ≡ Some size)
told_some None e = absurd (cc)
told_some (Some size) e = (size, refl)

-- the lower half of a sound redzone word, by where the guard byte stands
low_half : (bytes : List ℕ) (shape : Shape) (requested : ℕ) → told_size bytes shape ≡ Some requested → has_bad_low_half bytes shape ≡ false
    → (tag_half bytes shape.content / 256 ≡ REDZONE_HALF / 256) × (requested ≢ shape.content → tag_half bytes shape.content ≡ REDZONE_HALF)
low_half bytes shape requested told none =
    let low = tag_half bytes shape.content in
    let at_size : cond (eqb requested shape.content) (not (eqb (low / 256) (REDZONE_HALF / 256))) (not (eqb low REDZONE_HALF)) ≡ false =
    ap (λ (o : Option ℕ). cond (option_eq eqb o (Some shape.content)) (not (eqb (low / 256) (REDZONE_HALF / 256))) (not (eqb low REDZONE_HALF))) (sym told) ∙ none in
    elim (eqb_tells requested shape.content) [
      | inl w ↦
          let beside : not (eqb (low / 256) (REDZONE_HALF / 256)) ≡ false = ap (λ b. cond b (not (eqb (low / 256) (REDZONE_HALF / 256))) (not (eqb low REDZONE_HALF))) (sym w.0) ∙ at_size in
          (eqb-true (low / 256) (REDZONE_HALF / 256) (not_false (eqb (low / 256) (REDZONE_HALF / 256)) beside), λ other. absurd (other w.1))
      | inr w ↦
          let whole : not (eqb low REDZONE_HALF) ≡ false = ap (λ b. cond b (not (eqb (low / 256) (REDZONE_HALF / 256))) (not (eqb low REDZONE_HALF))) (sym w.0) ∙ at_size in
          let is : low ≡ REDZONE_HALF = eqb-true low REDZONE_HALF (not_false (eqb low REDZONE_HALF) whole) in
          (ap (λ n. n / 256) is, λ _. is)
    ]

-- a number by its lowest byte and what is above it
high_part : (number byte rest : ℕ) → number ≡ byte + 256 * rest → byte < 256 → number / 256 ≡ rest
high_part number byte rest e h = omega arith

low_part : (number byte rest : ℕ) → number ≡ byte + 256 * rest → byte < 256 → number % 256 ≡ byte
low_part number byte rest e h = omega arith

-- the guard byte of a sound chunk
guard_byte_at : (bytes : List ℕ) (shape : Shape) (requested : ℕ) → told_size bytes shape ≡ Some requested → has_bad_guard bytes shape ≡ false → get_or bytes requested 0 ≡ 187
guard_byte_at bytes shape requested told none =
    let here : not (eqb (get_or bytes requested 0) 187) ≡ false = ap (λ (o : Option ℕ). option_map_or (λ size. not (eqb (get_or bytes size 0) 187)) o false) (sym told) ∙ none in
    eqb-true (get_or bytes requested 0) 187 (not_false (eqb (get_or bytes requested 0) 187) here)

-- a buffer of a size class, by the size that it tells
kept-class : (size content bufctl class requested : ℕ) (bytes : List ℕ) →
    let shape = shape_from size content bufctl (Some class) in
    IsShape shape → IsChunk bytes shape → IsBytes bytes → told_size bytes shape ≡ Some requested
    → has_bad_tag bytes shape Allocated ≡ false → has_bad_guard bytes shape ≡ false → has_bad_low_half bytes shape ≡ false
    → KeepsMarks shape requested (allocated_chunk shape requested false) bytes
kept-class size content bufctl class requested bytes s chunk fits told no_tag no_guard no_low =
    let shape = shape_from size content bufctl (Some class) in
    let parts = told_size-parts bytes shape requested told in
    let within : requested ≤ content = served-within shape class requested s refl parts.1 in
    let coded : tag_half bytes (content + 4) ≡ code_of requested = coded_size-code (tag_half bytes (content + 4)) requested parts.0 in
    let fresh = fresh_content content requested false in
    let code = little_bytes 4 (code_of requested) in
    let half = little_bytes 4 REDZONE_HALF in
    let upper = little_bytes 3 (REDZONE_HALF / 256) in
    let tag = bufctl_bytes shape Allocated in
    let base = fresh ++ ((half ++ code) ++ tag) in
    let written = set base requested 187 in
    let here : length fresh ≡ content = length-fresh_content content requested false within in
    let four : (x : ℕ) → length (little_bytes 4 x) ≡ 4 = λ x. length-bytes_low_first 0 4 x in
    let three : length upper ≡ 3 = length-bytes_low_first 0 3 (REDZONE_HALF / 256) in
    let eight : length (half ++ code) ≡ 8 = omega (arith, length-append half code, four REDZONE_HALF, four (code_of requested)) in
    let seven : length (upper ++ code) ≡ 7 = omega (arith, length-append upper code, three, four (code_of requested)) in
    let stand = behind_content fresh (half ++ code) tag content here eight in
    let long : length written ≡ content + 24 = length-allocated_chunk shape requested false s parts.1 in
    let room : requested < length base = omega (arith, length-append fresh ((half ++ code) ++ tag), length-append (half ++ code) tag, here, eight) in
    let above = Stands-set base (upper ++ code) (content + 1) requested 187 (omega arith) (Stands-back base (0xce ∷ []) (upper ++ code) content (content + 1) (omega arith) stand.0) in
    let behind = Stands-set base tag (content + 8) requested 187 (omega arith) stand.1 in
    let low = low_half bytes shape requested told no_low in
    let next : content + 1 ≡ suc content = omega arith in
    let rest : little_from (content + 1) 3 bytes ≡ REDZONE_HALF / 256 =
    ap (λ i. little_from i 3 bytes) next ∙ sym (high_part (tag_half bytes content) (get_or bytes content 0) (little_from (suc content) 3 bytes) refl (fits content)) ∙ low.0 in
    let high = Stands-number 3 bytes (content + 1) (REDZONE_HALF / 256) fits (omega arith) rest in
    let codes = Stands-number 4 bytes (content + 4) (code_of requested) fits (omega arith) coded in
    let joined = Stands-join bytes upper code (content + 1) (content + 4) (omega arith) high codes in
    let guard : get_or bytes requested 0 ≡ 187 = guard_byte_at bytes shape requested told no_guard in
    let set_there : get_or written requested 0 ≡ 187 = get_or-set_same base requested 187 0 room in
    let first : get_or bytes content 0 ≡ get_or written content 0 =
    elim (eqb_tells requested content) [
      | inl w ↦ ap (λ k. get_or bytes k 0) (sym w.1) ∙ guard ∙ sym set_there ∙ ap (λ k. get_or written k 0) w.1
      | inr w ↦
          let other : content ≢ requested = λ e. w.1 (sym e) in
          let lowest : get_or bytes content 0 ≡ 0xce = sym (low_part (tag_half bytes content) (get_or bytes content 0) (little_from (suc content) 3 bytes) refl (fits content)) ∙ ap (λ n. n % 256) (low.1 w.1) in
          lowest ∙ sym (get_or-set_other base requested content 187 0 other ∙ stand.0 0 content (omega (arith, eight)) (omega arith))
    ] in
    record {
      tag = λ k from. elim (cases_lt content k) [
        | inl above_first ↦ elim (cases_lt k (content + 8)) [
          | inl word ↦ same_part bytes written (upper ++ code) (content + 1) k joined above (omega arith) (omega arith)
          | inr rest ↦ elim (cases_lt k (content + 24)) [
            | inl inside ↦ same_part bytes written tag (content + 8) k (tag_stands bytes shape chunk fits no_tag) behind rest (omega (arith, length-bufctl_bytes shape Allocated))
            | inr past ↦ past_end bytes k (omega arith) ∙ sym (past_end written k (omega arith))
          ]
        ]
        | inr at_first ↦ (let same : content ≡ k = omega arith in ap (λ k. get_or bytes k 0) (sym same) ∙ first ∙ ap (λ k. get_or written k 0) same)
      ];
      guard = λ _. guard ∙ sym set_there;
    }

-- the marks of a request, by the chunk's class
marks-by_class : (size content bufctl : ℕ) (class : Option ℕ) (bytes : List ℕ) →
    let shape = shape_from size content bufctl class in
    IsShape shape → IsChunk bytes shape → IsBytes bytes → finding bytes shape Allocated ≡ None
    → (requested : ℕ) × IsRequest shape requested × KeepsMarks shape requested (allocated_chunk shape requested false) bytes
unfolding finding facts_of
marks-by_class size content bufctl None bytes s chunk fits none = (size, refl, marks-declared size content bufctl bytes s chunk fits none)
marks-by_class size content bufctl (Some class) bytes s chunk fits none =
    let shape = shape_from size content bufctl (Some class) in
    let quiet = verdict-OfClass-None (facts_of bytes shape Allocated) bytes shape none in
    let found = told_some (told_size bytes shape) quiet.1 in
    (found.0, (told_size-parts bytes shape found.0 found.1).1, kept-class size content bufctl class found.0 bytes s chunk fits found.1 quiet.0 quiet.2 quiet.3)

pub marks-allocated : (shape : Shape) (bytes : List ℕ) → IsShape shape → IsChunk bytes shape → IsBytes bytes → finding bytes shape Allocated ≡ None
    → (requested : ℕ) × IsRequest shape requested × KeepsMarks shape requested (allocated_chunk shape requested false) bytes
marks-allocated shape bytes = marks-by_class shape.size shape.content shape.bufctl shape.class bytes
