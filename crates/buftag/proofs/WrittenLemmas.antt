-- What holds of chunks in their written state, and of the numbers in them.
use Rattle.std.proofs.Common.{◌≡◌, ◌≢◌, ℕ, zero, suc, ◌+◌, ◌-◌, ◌^◌, ◌<◌, ◌∙◌, List, [], ◌++◌, length, get_or, set, refl, ap, sym, arith, length-append, inl, inr, ◌*◌, ◌/◌, ◌%◌, ◌&&◌, Bool, true, false, not, eqb, None, is_some, lit<, eq-eqb, bit_xor, ◌≤◌, cond, leb, ◌∷◌, drop, replicate, Option, Some, is_none}
use Rattle.std.proofs.lemmas.Bool.{cases_lt}
use Rattle.std.proofs.lemmas.List.{append-nil, get_or-append-add, get_or_append_left, get_or-set_other, length-replicate, length-drop, length-set, get_or-set_same}
use Rattle.byteorder.specs.Endian.{little_bytes, little_from}
use Rattle.byteorder.specs.Numbers.{length-bytes_low_first, little_number-reads_back}
use Rattle.std.proofs.lemmas.List.FromFn.{length-map-range_with_len, get_or-map-range_with_len}
use Rattle.std.proofs.lemmas.Nat.{xor_lt}
use Rattle.buftag.specs.declared.shape.Shape.{Shape}
use Rattle.buftag.specs.declared.state.State.{State}
use Rattle.buftag.specs.declared.state.State.TheVariants.{Allocated, Free}
use Rattle.buftag.specs.Findings.{facts_of, finding, has_bad_pattern, has_bad_tag, has_bad_word, tag_word, tag_half, has_bad_code, has_bad_guard, has_bad_low_half, is_served, told_size}
use Rattle.buftag.specs.declared.patterns.TheConstants.{FREE_WORD, REDZONE_WORD, FRESH_WORD, REDZONE_HALF}
use Rattle.umem_base.specs.Words.{repeated}
use Rattle.buftag.specs.Written.{bufctl_bytes, free_chunk, mark_of, KeepsMarks, allocated_chunk, fresh_content, with_guard, redzone_bytes}
use Rattle.buftag.proofs.FindingsLemmas.{verdict-Unused, wrong_word-None, class_verdict, declared_verdict, verdict-Declared, verdict-OfClass}
use Rattle.std.specs.Option.{option_and_then, option_eq, option_map_or}
use Rattle.std.proofs.lemmas.Bool.Decides.{eqb_tells, nat_tests}
use Rattle.case_table.specs.Sizes.{class_for, IsLeastClass}
use Rattle.case_table.proofs.SizesLemmas.{least_from_class}
use Rattle.buftag.specs.Codes.{code_of, coded_size}
use Rattle.buftag.specs.Shape.{IsRequest, IsShape}
use Rattle.buftag.proofs.ShapeLemmas.{served-within, size-content}

-- ---- numbers read where their bytes stand

-- the bytes from an address on are those of a part
abbrev pub Stands : List ℕ → ℕ → List ℕ → Type 0
Stands bytes at part = (m p : ℕ) → m < length part → at + m ≡ p → get_or bytes p 0 ≡ get_or part m 0

-- equal bytes are one number
pub little_from-same : (n i j : ℕ) (xs ys : List ℕ)
    → ((m p q : ℕ) → m < n → i + m ≡ p → j + m ≡ q → get_or xs p 0 ≡ get_or ys q 0)
    → little_from i n xs ≡ little_from j n ys
little_from-same zero i j xs ys same = refl
little_from-same (suc n) i j xs ys same =
    let first : get_or xs i 0 ≡ get_or ys j 0 = same 0 i j (omega arith) (omega arith) (omega arith) in
    let rest : little_from (suc i) n xs ≡ little_from (suc j) n ys = little_from-same n (suc i) (suc j) xs ys (λ m p q h a b. same (suc m) p q (omega arith) (omega arith) (omega arith)) in
    rw (first, rest) refl

-- a number is read where its bytes stand
pub little_from-stands : (n at x : ℕ) (bytes : List ℕ) → x < 256 ^ n → Stands bytes at (little_bytes n x) → little_from at n bytes ≡ x
little_from-stands n at x bytes fits stands =
    little_from-same n at 0 bytes (little_bytes n x) (λ m p q h a b. let q_is : m ≡ q = omega arith in stands m p (omega (arith, length-bytes_low_first 0 n x)) a ∙ ap (λ k. get_or (little_bytes n x) k 0) q_is)
    ∙ ap (little_from 0 n) (sym (append-nil (little_bytes n x))) ∙ little_number-reads_back n x [] fits

-- what stands behind a front
pub Stands-append : (xs ys : List ℕ) (at : ℕ) → length xs ≡ at → Stands (xs ++ ys) at ys
Stands-append xs ys at e m p h a = let there : length xs + m ≡ p = omega arith in ap (λ k. get_or (xs ++ ys) k 0) (sym there) ∙ get_or-append-add xs ys m 0

-- the parts of what stands
pub Stands-front : (bytes xs ys : List ℕ) (at : ℕ) → Stands bytes at (xs ++ ys) → Stands bytes at xs
Stands-front bytes xs ys at stands m p h a = stands m p (omega (arith, length-append xs ys)) a ∙ get_or_append_left xs ys 0 m h

pub Stands-back : (bytes xs ys : List ℕ) (at behind : ℕ) → at + length xs ≡ behind → Stands bytes at (xs ++ ys) → Stands bytes behind ys
Stands-back bytes xs ys at behind e stands m p h a =
    stands (length xs + m) p (omega (arith, length-append xs ys)) (omega arith) ∙ get_or-append-add xs ys m 0

-- a write in front changes nothing
pub Stands-set : (bytes part : List ℕ) (at place v : ℕ) → place < at → Stands bytes at part → Stands (set bytes place v) at part
Stands-set bytes part at place v before stands m p h a =
    let other : p ≢ place = omega arith in
    get_or-set_other bytes place p v 0 other ∙ stands m p h a

-- two parts that stand one behind the other stand as one
pub Stands-join : (bytes xs ys : List ℕ) (at behind : ℕ) → at + length xs ≡ behind → Stands bytes at xs → Stands bytes behind ys → Stands bytes at (xs ++ ys)
Stands-join bytes xs ys at behind e front back m p h a =
    elim (cases_lt m (length xs)) [
      | inl first ↦ front m p first a ∙ sym (get_or_append_left xs ys 0 m first)
      | inr second ↦
          let n = m - length xs in
          let inside : n < length ys = omega (arith, length-append xs ys) in
          let place : length xs + n ≡ m = omega arith in
          back n p inside (omega arith) ∙ sym (get_or-append-add xs ys n 0) ∙ ap (λ k. get_or (xs ++ ys) k 0) place
    ]

-- ---- a chunk in its written state breaks no rule

-- a mark is a word
mark-small : (state : State) → mark_of state < 2 ^ 64
mark-small Allocated = lit< tt
mark-small Free = lit< tt

pub length-bytes : (x : ℕ) → length (little_bytes 8 x) ≡ 8
length-bytes x = length-bytes_low_first 0 8 x

pub both_true : (a b : Bool) → a ≡ true → b ≡ true → a && b ≡ true
both_true a b this that = rw (this, that) refl

-- the tag of a state is sound where it stands behind the redzone word
pub sound_tag : (bytes : List ℕ) (shape : Shape) (state : State) → shape.bufctl < 2 ^ 64
    → Stands bytes (shape.content + 8) (bufctl_bytes shape state) → has_bad_tag bytes shape state ≡ false
sound_tag bytes shape state small stands =
    let own = little_bytes 8 shape.bufctl in
    let mark = bit_xor shape.bufctl (mark_of state) in
    let first : tag_word bytes (shape.content + 8) ≡ shape.bufctl = little_from-stands 8 (shape.content + 8) shape.bufctl bytes small (Stands-front bytes own (little_bytes 8 mark) (shape.content + 8) stands) in
    let behind = Stands-back bytes own (little_bytes 8 mark) (shape.content + 8) (shape.content + 16) (omega (arith, length-bytes shape.bufctl)) stands in
    let second : tag_word bytes (shape.content + 16) ≡ mark = little_from-stands 8 (shape.content + 16) mark bytes (xor_lt 64 shape.bufctl (mark_of state) small (mark-small state)) behind in
    let both : eqb (tag_word bytes (shape.content + 8)) shape.bufctl && eqb (tag_word bytes (shape.content + 16)) mark ≡ true =
    both_true (eqb (tag_word bytes (shape.content + 8)) shape.bufctl) (eqb (tag_word bytes (shape.content + 16)) mark) (eq-eqb (tag_word bytes (shape.content + 8)) shape.bufctl first) (eq-eqb (tag_word bytes (shape.content + 16)) mark second) in
    ap not both

-- the redzone word that tells no size is sound where it stands
pub sound_word : (bytes : List ℕ) (shape : Shape) → Stands bytes shape.content (little_bytes 8 REDZONE_WORD) → has_bad_word bytes shape ≡ false
sound_word bytes shape stands =
    let word : tag_word bytes shape.content ≡ REDZONE_WORD = little_from-stands 8 shape.content REDZONE_WORD bytes (lit< tt) stands in
    ap not (eq-eqb (tag_word bytes shape.content) REDZONE_WORD word)

-- ---- a free chunk

pub length-pattern : (count word : ℕ) → length (repeated count word) ≡ count
length-pattern count word = length-map-range_with_len (λ k. get_or (little_bytes 8 word) (k % 8) 0) 0 count

pub get_or-pattern : (count word k : ℕ) → k < count → get_or (repeated count word) k 0 ≡ get_or (little_bytes 8 word) (k % 8) 0
get_or-pattern count word k h = get_or-map-range_with_len (λ k. get_or (little_bytes 8 word) (k % 8) 0) 0 count k k 0 h (omega arith)

-- a word of the pattern
tag_word-pattern : (count word k : ℕ) (behind : List ℕ) → word < 2 ^ 64 → k < count / 8 → tag_word (repeated count word ++ behind) (8 * k) ≡ word
tag_word-pattern count word k behind small h =
    little_from-stands 8 (8 * k) word (repeated count word ++ behind) small (λ m p lt at.
    let within : p < count = omega (arith, length-bytes word) in
    let inside : p < length (repeated count word) = omega (arith, length-pattern count word) in
    let place : p % 8 ≡ m = omega (arith, length-bytes word) in
    get_or_append_left (repeated count word) behind 0 p inside ∙ get_or-pattern count word p within ∙ ap (λ k. get_or (little_bytes 8 word) k 0) place)

sound_pattern : (shape : Shape) → has_bad_pattern (free_chunk shape) shape ≡ false
sound_pattern shape =
    ap is_some (wrong_word-None (free_chunk shape) shape (λ k h. tag_word-pattern shape.content FREE_WORD k (little_bytes 8 REDZONE_WORD ++ bufctl_bytes shape Free) (lit< tt) h))

-- what stands behind a content of the right length
pub behind_content : (content redzone rest : List ℕ) (at : ℕ) → length content ≡ at → length redzone ≡ 8
    → Stands (content ++ (redzone ++ rest)) at redzone × Stands (content ++ (redzone ++ rest)) (at + 8) rest
behind_content content redzone rest at here eight =
    let all = Stands-append content (redzone ++ rest) at here in
    (Stands-front (content ++ (redzone ++ rest)) redzone rest at all, Stands-back (content ++ (redzone ++ rest)) redzone rest at (at + 8) (omega arith) all)

pub finding-free_chunk : (shape : Shape) → shape.bufctl < 2 ^ 64 → finding (free_chunk shape) shape Free ≡ None
unfolding finding facts_of
finding-free_chunk shape small =
    let stand = behind_content (repeated shape.content FREE_WORD) (little_bytes 8 REDZONE_WORD) (bufctl_bytes shape Free) shape.content (length-pattern shape.content FREE_WORD) (length-bytes REDZONE_WORD) in
    verdict-Unused (facts_of (free_chunk shape) shape Free) (free_chunk shape) shape (sound_tag (free_chunk shape) shape Free small stand.1) (sound_word (free_chunk shape) shape stand.0) (sound_pattern shape)

pub length-bufctl_bytes : (shape : Shape) (state : State) → length (bufctl_bytes shape state) ≡ 16
length-bufctl_bytes shape state = omega (arith, length-append (little_bytes 8 shape.bufctl) (little_bytes 8 (bit_xor shape.bufctl (mark_of state))), length-bytes shape.bufctl, length-bytes (bit_xor shape.bufctl (mark_of state)))

pub length-free_chunk : (shape : Shape) → length (free_chunk shape) ≡ shape.content + 24
length-free_chunk shape =
    omega (arith, length-append (repeated shape.content FREE_WORD) (little_bytes 8 REDZONE_WORD ++ bufctl_bytes shape Free), length-append (little_bytes 8 REDZONE_WORD) (bufctl_bytes shape Free), length-pattern shape.content FREE_WORD, length-bytes REDZONE_WORD, length-bufctl_bytes shape Free)

-- ---- an allocated chunk breaks no rule while its tag and its guard byte are as they were written

-- a code tells the size that it was made of
pub coded_size-code_of : (size : ℕ) → size ≤ 4096 → coded_size (code_of size) ≡ Some size
coded_size-code_of size small =
    let back : (code_of size - 1) / 251 ≡ size = omega arith in
    let same : eqb (code_of size) (code_of ((code_of size - 1) / 251)) ≡ true = eq-eqb (code_of size) (code_of ((code_of size - 1) / 251)) (ap code_of (sym back)) in
    let fits : leb ((code_of size - 1) / 251) 4096 ≡ true = grind (arith, nat_tests, back) in
    ap (λ b. cond b (Some ((code_of size - 1) / 251)) None) (both_true _ _ same fits) ∙ ap Some back

pub length-fresh_content : (content requested : ℕ) (zeros : Bool) → requested ≤ content → length (fresh_content content requested zeros) ≡ content
length-fresh_content content requested false h = length-pattern content FRESH_WORD
length-fresh_content content requested true h =
    omega (arith, length-append (replicate requested 0) (drop requested (repeated content FRESH_WORD)), length-replicate {A = ℕ} requested 0, length-drop requested (repeated content FRESH_WORD), length-pattern content FRESH_WORD)

-- a shape by its parts
abbrev pub shape_from : ℕ → ℕ → ℕ → Option ℕ → Shape
shape_from size content bufctl class = record { size = size; content = content; bufctl = bufctl; class = class }

-- what stands in the tag stands there as long as it is kept
Stands-kept : (old new part : List ℕ) (content at : ℕ) → content ≤ at → ((k : ℕ) → content ≤ k → get_or new k 0 ≡ get_or old k 0) → Stands old at part → Stands new at part
Stands-kept old new part content at behind kept stands m p h a = kept p (omega arith) ∙ stands m p h a

-- a buffer of a declared cache
finding-declared : (size content bufctl requested : ℕ) (zeros : Bool) (bytes : List ℕ) →
    let shape = shape_from size content bufctl None in
    IsShape shape → IsRequest shape requested → bufctl < 2 ^ 64
    → KeepsMarks shape requested (allocated_chunk shape requested zeros) bytes → finding bytes shape Allocated ≡ None
unfolding finding facts_of
finding-declared size content bufctl requested zeros bytes s r small kept =
    let shape = shape_from size content bufctl None in
    let fresh = fresh_content content requested zeros in
    let within : requested ≤ content = omega (arith, size-content size content s.words) in
    let stand = behind_content fresh (little_bytes 8 REDZONE_WORD) (bufctl_bytes shape Allocated) content (length-fresh_content content requested zeros within) (length-bytes REDZONE_WORD) in
    let chunk = allocated_chunk shape requested zeros in
    let no_tag : has_bad_tag bytes shape Allocated ≡ false = sound_tag bytes shape Allocated small (Stands-kept chunk bytes (bufctl_bytes shape Allocated) content (content + 8) (omega arith) kept.tag stand.1) in
    let no_word : has_bad_word bytes shape ≡ false = sound_word bytes shape (Stands-kept chunk bytes (little_bytes 8 REDZONE_WORD) content content (omega arith) kept.tag stand.0) in
    verdict-Declared (facts_of bytes shape Allocated) bytes shape ∙ ap (λ t. declared_verdict t (has_bad_word bytes shape)) no_tag ∙ ap (λ w. declared_verdict false w) no_word

-- a number of four bytes that stands in the redzone word
tag_half-stands : (bytes : List ℕ) (at x : ℕ) → x < 2 ^ 32 → Stands bytes at (little_bytes 4 x) → tag_half bytes at ≡ x
tag_half-stands bytes at x small stands = little_from-stands 4 at x bytes small stands

-- the lower half where its lowest byte is any
low_half-but_first : (bytes : List ℕ) (at : ℕ) → Stands bytes (at + 1) (little_bytes 3 (REDZONE_HALF / 256)) → get_or bytes at 0 < 256
    → tag_half bytes at / 256 ≡ REDZONE_HALF / 256
low_half-but_first bytes at stands byte =
    let rest : little_from (suc at) 3 bytes ≡ REDZONE_HALF / 256 = little_from-stands 3 (suc at) (REDZONE_HALF / 256) bytes (lit< tt) (λ m p h a. stands m p h (omega arith)) in
    let parts : tag_half bytes at ≡ get_or bytes at 0 + 256 * little_from (suc at) 3 bytes = refl in
    omega (arith, parts, rest, byte)

-- the size that the tag tells is the one that was requested
told_size-kept : (shape : Shape) (class requested : ℕ) (bytes : List ℕ) → shape.class ≡ Some class → class_for requested ≡ Some class → requested ≤ 4096
    → tag_half bytes (shape.content + 4) ≡ code_of requested → told_size bytes shape ≡ Some requested
told_size-kept shape class requested bytes is served small half =
    let size : coded_size (tag_half bytes (shape.content + 4)) ≡ Some requested = ap coded_size half ∙ coded_size-code_of requested small in
    let yes : is_served shape requested ≡ true = ap (λ (o : Option ℕ). option_eq eqb o shape.class) served ∙ ap (λ (o : Option ℕ). option_eq eqb (Some class) o) is ∙ eq-eqb class class refl in
    ap (option_and_then (λ size. cond (is_served shape size) (Some size) None)) size ∙ ap (λ b. cond b (Some requested) None) yes

-- the lower half of the redzone word is sound, with the guard byte in it or not
low_half-kept : (bytes : List ℕ) (shape : Shape) (requested : ℕ) → told_size bytes shape ≡ Some requested
    → (requested ≡ shape.content → tag_half bytes shape.content / 256 ≡ REDZONE_HALF / 256)
    → (requested ≢ shape.content → tag_half bytes shape.content ≡ REDZONE_HALF)
    → has_bad_low_half bytes shape ≡ false
low_half-kept bytes shape requested told beside whole =
    let low = tag_half bytes shape.content in
    let at_size : has_bad_low_half bytes shape ≡ cond (eqb requested shape.content) (not (eqb (low / 256) (REDZONE_HALF / 256))) (not (eqb low REDZONE_HALF)) =
    ap (λ (o : Option ℕ). cond (option_eq eqb o (Some shape.content)) (not (eqb (low / 256) (REDZONE_HALF / 256))) (not (eqb low REDZONE_HALF))) told in
    at_size ∙ (elim (eqb_tells requested shape.content) [
      | inl w ↦ ap (λ b. cond b (not (eqb (low / 256) (REDZONE_HALF / 256))) (not (eqb low REDZONE_HALF))) w.0 ∙ ap not (eq-eqb (low / 256) (REDZONE_HALF / 256) (beside w.1))
      | inr w ↦ ap (λ b. cond b (not (eqb (low / 256) (REDZONE_HALF / 256))) (not (eqb low REDZONE_HALF))) w.0 ∙ ap not (eq-eqb low REDZONE_HALF (whole w.1))
    ])

-- a buffer of a size class
finding-class : (size content bufctl class requested : ℕ) (zeros : Bool) (bytes : List ℕ) →
    let shape = shape_from size content bufctl (Some class) in
    IsShape shape → IsRequest shape requested → bufctl < 2 ^ 64
    → KeepsMarks shape requested (allocated_chunk shape requested zeros) bytes → finding bytes shape Allocated ≡ None
unfolding finding facts_of
finding-class size content bufctl class requested zeros bytes s r small kept =
    let shape = shape_from size content bufctl (Some class) in
    let fresh = fresh_content content requested zeros in
    let code = little_bytes 4 (code_of requested) in
    let half = little_bytes 4 REDZONE_HALF in
    let tag = bufctl_bytes shape Allocated in
    let base = fresh ++ ((half ++ code) ++ tag) in
    let within : requested ≤ content = served-within shape class requested s refl r in
    let least : IsLeastClass requested class = least_from_class requested class r in
    let little : requested ≤ 4096 = omega (arith, within, s.small, s.words) in
    let here : length fresh ≡ content = length-fresh_content content requested zeros within in
    let four : (x : ℕ) → length (little_bytes 4 x) ≡ 4 = λ x. length-bytes_low_first 0 4 x in
    let eight : length (half ++ code) ≡ 8 = omega (arith, length-append half code, four REDZONE_HALF, four (code_of requested)) in
    let stand = behind_content fresh (half ++ code) tag content here eight in
    let keep = λ (part : List ℕ) (at : ℕ) (before : requested < at) (behind : content ≤ at) (there : Stands base at part). Stands-kept (set base requested 187) bytes part content at behind kept.tag (Stands-set base part at requested 187 before there) in
    let no_tag : has_bad_tag bytes shape Allocated ≡ false = sound_tag bytes shape Allocated small (keep tag (content + 8) (omega arith) (omega arith) stand.1) in
    let code_stands = Stands-back base half code content (content + 4) (omega (arith, four REDZONE_HALF)) stand.0 in
    let coded : tag_half bytes (content + 4) ≡ code_of requested = tag_half-stands bytes (content + 4) (code_of requested) (omega arith) (keep code (content + 4) (omega arith) (omega arith) code_stands) in
    let told : told_size bytes shape ≡ Some requested = told_size-kept shape class requested bytes refl r little coded in
    let no_code : has_bad_code bytes shape ≡ false = ap is_none told in
    let room : requested < length base = omega (arith, length-append fresh ((half ++ code) ++ tag), length-append (half ++ code) tag, here, eight) in
    let guard : get_or bytes requested 0 ≡ 187 = kept.guard refl ∙ get_or-set_same base requested 187 0 room in
    let no_guard : has_bad_guard bytes shape ≡ false = ap (λ (o : Option ℕ). option_map_or (λ size. not (eqb (get_or bytes size 0) 187)) o false) told ∙ ap not (eq-eqb (get_or bytes requested 0) 187 guard) in
    let half_stands = Stands-front base half code content stand.0 in
    let no_low : has_bad_low_half bytes shape ≡ false =
    low_half-kept bytes shape requested told
    (λ at_end. low_half-but_first bytes content (keep (little_bytes 3 (REDZONE_HALF / 256)) (content + 1) (omega arith) (omega arith) (Stands-back base (0xce ∷ []) (little_bytes 3 (REDZONE_HALF / 256)) content (content + 1) (omega arith) half_stands)) (let byte : get_or bytes content 0 ≡ 187 = ap (λ k. get_or bytes k 0) (sym at_end) ∙ guard in omega (arith, byte)))
    (λ elsewhere. tag_half-stands bytes content REDZONE_HALF (lit< tt) (let below : requested < content = omega arith in keep half content below (omega arith) half_stands)) in
    verdict-OfClass (facts_of bytes shape Allocated) bytes shape
    ∙ ap (λ t. class_verdict t (has_bad_code bytes shape) (has_bad_guard bytes shape) (has_bad_low_half bytes shape)) no_tag
    ∙ ap (λ c. class_verdict false c (has_bad_guard bytes shape) (has_bad_low_half bytes shape)) no_code
    ∙ ap (λ g. class_verdict false false g (has_bad_low_half bytes shape)) no_guard
    ∙ ap (λ l. class_verdict false false false l) no_low

finding-by_class : (size content bufctl : ℕ) (class : Option ℕ) (requested : ℕ) (zeros : Bool) (bytes : List ℕ) →
    let shape = shape_from size content bufctl class in
    IsShape shape → IsRequest shape requested → bufctl < 2 ^ 64
    → KeepsMarks shape requested (allocated_chunk shape requested zeros) bytes → finding bytes shape Allocated ≡ None
finding-by_class size content bufctl None requested zeros bytes = finding-declared size content bufctl requested zeros bytes
finding-by_class size content bufctl (Some class) requested zeros bytes = finding-class size content bufctl class requested zeros bytes

pub finding-kept : (shape : Shape) (requested : ℕ) (zeros : Bool) (bytes : List ℕ) → IsShape shape → IsRequest shape requested → shape.bufctl < 2 ^ 64
    → KeepsMarks shape requested (allocated_chunk shape requested zeros) bytes → finding bytes shape Allocated ≡ None
finding-kept shape requested zeros bytes = finding-by_class shape.size shape.content shape.bufctl shape.class requested zeros bytes

pub finding-allocated_chunk : (shape : Shape) (requested : ℕ) (zeros : Bool) → IsShape shape → IsRequest shape requested → shape.bufctl < 2 ^ 64
    → finding (allocated_chunk shape requested zeros) shape Allocated ≡ None
finding-allocated_chunk shape requested zeros s r small =
    finding-kept shape requested zeros (allocated_chunk shape requested zeros) s r small (record { tag = λ k _. refl; guard = λ _. refl })

-- a size that may be requested is not above the content
pub request-within : (shape : Shape) (class : Option ℕ) (requested : ℕ) → IsShape shape → shape.class ≡ class → IsRequest shape requested → requested ≤ shape.content
request-within shape None requested s is r = let own = rw is at r in omega (arith, size-content shape.size shape.content s.words, own)
request-within shape (Some class) requested s is r = served-within shape class requested s is (rw is at r)

length-by_class : (size content bufctl : ℕ) (class : Option ℕ) (requested : ℕ) (zeros : Bool) →
    let shape = shape_from size content bufctl class in
    requested ≤ content → length (allocated_chunk shape requested zeros) ≡ content + 24
length-by_class size content bufctl None requested zeros within =
    let shape = shape_from size content bufctl None in
    let fresh = fresh_content content requested zeros in
    let tag = bufctl_bytes shape Allocated in
    omega (arith, length-append fresh (little_bytes 8 REDZONE_WORD ++ tag), length-append (little_bytes 8 REDZONE_WORD) tag, length-fresh_content content requested zeros within, length-bytes REDZONE_WORD, length-bufctl_bytes shape Allocated)
length-by_class size content bufctl (Some class) requested zeros within =
    let shape = shape_from size content bufctl (Some class) in
    let fresh = fresh_content content requested zeros in
    let tag = bufctl_bytes shape Allocated in
    let half = little_bytes 4 REDZONE_HALF in
    let code = little_bytes 4 (code_of requested) in
    let base = fresh ++ ((half ++ code) ++ tag) in
    omega (
      arith,
      length-set base requested 187,
      length-append fresh ((half ++ code) ++ tag),
      length-append (half ++ code) tag,
      length-append half code,
      length-bytes_low_first 0 4 REDZONE_HALF,
      length-bytes_low_first 0 4 (code_of requested),
      length-fresh_content content requested zeros within,
      length-bufctl_bytes shape Allocated,
    )

pub length-allocated_chunk : (shape : Shape) (requested : ℕ) (zeros : Bool) → IsShape shape → IsRequest shape requested → length (allocated_chunk shape requested zeros) ≡ shape.content + 24
length-allocated_chunk shape requested zeros s r = length-by_class shape.size shape.content shape.bufctl shape.class requested zeros (request-within shape shape.class requested s refl r)

-- the guard byte is written where there is a class
pub with_guard-Some : (class : Option ℕ) (requested : ℕ) (bytes : List ℕ) → is_some class ≡ true → set bytes requested 187 ≡ with_guard class requested bytes
with_guard-Some None requested bytes e = absurd (cc)
with_guard-Some (Some class) requested bytes e = refl

pub with_guard-None : (class : Option ℕ) (requested : ℕ) (bytes : List ℕ) → is_some class ≡ false → bytes ≡ with_guard class requested bytes
with_guard-None None requested bytes e = refl
with_guard-None (Some class) requested bytes e = absurd (cc)

-- a chunk made of its parts breaks no rule
pub whole_from_parts : (shape : Shape) (requested : ℕ) (zeros : Bool) (content redzone tag bytes : List ℕ) (count : ℕ)
    → IsShape shape → IsRequest shape requested → shape.bufctl < 2 ^ 64 → count ≡ shape.content
    → content ≡ fresh_content count requested zeros → redzone ≡ redzone_bytes shape.class requested → tag ≡ bufctl_bytes shape Allocated
    → bytes ≡ with_guard shape.class requested (content ++ (redzone ++ tag)) → finding bytes shape Allocated ≡ None
whole_from_parts shape requested zeros content redzone tag bytes count s r small here front middle back all =
    let same : bytes ≡ allocated_chunk shape requested zeros = rw (all, front, middle, back, here) in
    rw same (finding-allocated_chunk shape requested zeros s r small)

-- and has room for the guard byte
pub room_in_parts : (shape : Shape) (requested : ℕ) (zeros : Bool) (content redzone tag : List ℕ) (count : ℕ)
    → IsShape shape → IsRequest shape requested → count ≡ shape.content
    → content ≡ fresh_content count requested zeros → tag ≡ bufctl_bytes shape Allocated
    → requested < length (content ++ (redzone ++ tag))
room_in_parts shape requested zeros content redzone tag count s r here front back =
    let within = request-within shape shape.class requested s refl r in
    let fresh : length content ≡ count = ap length front ∙ length-fresh_content count requested zeros (omega arith) in
    let behind : length tag ≡ 16 = ap length back ∙ length-bufctl_bytes shape Allocated in
    omega (arith, length-append content (redzone ++ tag), length-append redzone tag)
