-- What the facts of a chunk come to: the words of its content one by one, and the finding by the facts alone.
use Rattle.std.proofs.Common.{◌≡◌, ℕ, ◌*◌, ◌/◌, ◌<◌, ◌≤◌, ◌∙◌, Bool, true, false, not, eqb, ltb, List, length, get_or, Some, None, ap, arith, eq-eqb, cond, Option, refl, sym}
use Rattle.std.proofs.lemmas.Bool.{ne_eqb, lt-ltb}
use Rattle.std.proofs.lemmas.Bool.Decides.{nat_tests}
use Rattle.std.proofs.lemmas.List.FromFn.{length-map-range_with_len, get_or-map-range_with_len}
use Rattle.std.proofs.lemmas.List.Sums.{position_or_len_is}
use Rattle.std.specs.List.{position_or_len, find}
use Rattle.std.specs.Option.{option_map}
use Rattle.buftag.specs.Findings.{content_words, tag_word, wrong_word, decides, finding_of, rows}
use Rattle.buftag.specs.declared.facts.Facts.{Facts}
use Rattle.buftag.specs.declared.finding.Finding.{Finding}
use Rattle.buftag.specs.declared.finding.Finding.TheVariants.{BadTag, GuardByte, Redzone, SizeCode}
use Rattle.buftag.specs.declared.kind.Kind.{Kind}
use Rattle.buftag.specs.declared.kind.Kind.TheVariants.{OfClass, Declared, Unused}
use Rattle.buftag.specs.declared.patterns.TheConstants.{FREE_WORD}
use Rattle.buftag.specs.declared.shape.Shape.{Shape}

-- ---- the words of a content

-- a word is not the pattern of free chunks
abbrev pub is_wrong : ℕ → Bool
is_wrong word = not (eqb word FREE_WORD)

pub length-content_words : (bytes : List ℕ) (shape : Shape) → length (content_words bytes shape) ≡ shape.content / 8
length-content_words bytes shape = length-map-range_with_len (λ k. tag_word bytes (8 * k)) 0 (shape.content / 8)

pub get_or-content_words : (bytes : List ℕ) (shape : Shape) (k : ℕ) → k < shape.content / 8 → get_or (content_words bytes shape) k 0 ≡ tag_word bytes (8 * k)
get_or-content_words bytes shape k h = get_or-map-range_with_len (λ k. tag_word bytes (8 * k)) 0 (shape.content / 8) k k 0 h (omega arith)

is_wrong-content_words : (bytes : List ℕ) (shape : Shape) (k : ℕ) (b : Bool) → k < shape.content / 8 → is_wrong (tag_word bytes (8 * k)) ≡ b → is_wrong (get_or (content_words bytes shape) k 0) ≡ b
is_wrong-content_words bytes shape k b h e = ap is_wrong (get_or-content_words bytes shape k h) ∙ e

is_wrong-right : (word : ℕ) → word ≡ FREE_WORD → is_wrong word ≡ false
is_wrong-right word e = ap not (eq-eqb word FREE_WORD e)

is_wrong-wrong : (word : ℕ) → (word ≡ FREE_WORD → ⊥) → is_wrong word ≡ true
is_wrong-wrong word e = ap not (ne_eqb word FREE_WORD e)

-- the place of the first wrong word, where the words before it are right
first_wrong : (bytes : List ℕ) (shape : Shape) (i : ℕ) → i ≤ shape.content / 8
    → ((k : ℕ) → k < i → tag_word bytes (8 * k) ≡ FREE_WORD)
    → (i < shape.content / 8 → tag_word bytes (8 * i) ≡ FREE_WORD → ⊥)
    → position_or_len is_wrong (content_words bytes shape) ≡ i
first_wrong bytes shape i within right wrong =
    let n = length-content_words bytes shape in
    position_or_len_is is_wrong (content_words bytes shape) i 0 (omega (arith, n))
    (λ k h. is_wrong-content_words bytes shape k false (omega arith) (is_wrong-right (tag_word bytes (8 * k)) (right k h)))
    (λ h. let inside : i < shape.content / 8 = omega (arith, n) in is_wrong-content_words bytes shape i true inside (is_wrong-wrong (tag_word bytes (8 * i)) (wrong inside)))

-- the first wrong word is at its offset
pub wrong_word-Some : (bytes : List ℕ) (shape : Shape) (i : ℕ) → i < shape.content / 8
    → ((k : ℕ) → k < i → tag_word bytes (8 * k) ≡ FREE_WORD)
    → (tag_word bytes (8 * i) ≡ FREE_WORD → ⊥)
    → wrong_word bytes shape ≡ Some (8 * i)
wrong_word-Some bytes shape i inside right wrong =
    let first = first_wrong bytes shape i (omega arith) right (λ _. wrong) in
    rw (first, length-content_words bytes shape, lt-ltb i (shape.content / 8) inside)

-- and there is none where each word is right
pub wrong_word-None : (bytes : List ℕ) (shape : Shape)
    → ((k : ℕ) → k < shape.content / 8 → tag_word bytes (8 * k) ≡ FREE_WORD)
    → wrong_word bytes shape ≡ None
wrong_word-None bytes shape right =
    let n = shape.content / 8 in
    let first = first_wrong bytes shape n (omega arith) right (λ h. absurd (omega arith)) in
    let past : ltb n n ≡ false = grind (arith, nat_tests) in
    rw (first, length-content_words bytes shape, past)

-- ---- the finding of each kind of chunks

-- what the first row that decides is called
abbrev pub verdict : Kind → Facts → List ℕ → Shape → Option Finding
verdict kind facts bytes shape = option_map (λ row. finding_of row.fact bytes shape) (find (decides kind facts) rows)

abbrev facts_from : Bool → Bool → Bool → Bool → Bool → Bool → Facts
facts_from t c g l w p = record { tag = t; code = c; guard = g; low = l; word = w; pattern = p }

-- of an allocated chunk of a size class
abbrev pub class_verdict : Bool → Bool → Bool → Bool → Option Finding
class_verdict t c g l = cond t (Some BadTag) (cond c (Some SizeCode) (cond g (Some GuardByte) (cond l (Some Redzone) None)))

of_class : (t c g l w p : Bool) (bytes : List ℕ) (shape : Shape) → verdict OfClass (facts_from t c g l w p) bytes shape ≡ class_verdict t c g l
of_class true c g l w p bytes shape = refl
of_class false true g l w p bytes shape = refl
of_class false false true l w p bytes shape = refl
of_class false false false true w p bytes shape = refl
of_class false false false false w p bytes shape = refl

pub verdict-OfClass : (facts : Facts) (bytes : List ℕ) (shape : Shape) → verdict OfClass facts bytes shape ≡ class_verdict facts.tag facts.code facts.guard facts.low
verdict-OfClass facts bytes shape = of_class facts.tag facts.code facts.guard facts.low facts.word facts.pattern bytes shape

-- of an allocated chunk of a declared cache
abbrev pub declared_verdict : Bool → Bool → Option Finding
declared_verdict t w = cond t (Some BadTag) (cond w (Some Redzone) None)

of_declared : (t c g l w p : Bool) (bytes : List ℕ) (shape : Shape) → verdict Declared (facts_from t c g l w p) bytes shape ≡ declared_verdict t w
of_declared true c g l w p bytes shape = refl
of_declared false c g l true p bytes shape = refl
of_declared false c g l false p bytes shape = refl

pub verdict-Declared : (facts : Facts) (bytes : List ℕ) (shape : Shape) → verdict Declared facts bytes shape ≡ declared_verdict facts.tag facts.word
verdict-Declared facts bytes shape = of_declared facts.tag facts.code facts.guard facts.low facts.word facts.pattern bytes shape

-- of a free chunk where nothing is wrong
of_unused : (t c g l w p : Bool) (bytes : List ℕ) (shape : Shape) → t ≡ false → w ≡ false → p ≡ false → verdict Unused (facts_from t c g l w p) bytes shape ≡ None
of_unused t c g l w p bytes shape no_tag no_word no_pattern = rw (no_tag, no_word, no_pattern) refl

pub verdict-Unused : (facts : Facts) (bytes : List ℕ) (shape : Shape) → facts.tag ≡ false → facts.word ≡ false → facts.pattern ≡ false → verdict Unused facts bytes shape ≡ None
verdict-Unused facts bytes shape = of_unused facts.tag facts.code facts.guard facts.low facts.word facts.pattern bytes shape

-- and nothing is wrong with a free chunk that has no finding
quiet_unused : (t c g l w p : Bool) (bytes : List ℕ) (shape : Shape) → verdict Unused (facts_from t c g l w p) bytes shape ≡ None → (t ≡ false) × (w ≡ false) × (p ≡ false)
quiet_unused t c g l w true bytes shape e = absurd (cc)
quiet_unused t c g l true false bytes shape e = absurd (cc)
quiet_unused true c g l false false bytes shape e = absurd (cc)
quiet_unused false c g l false false bytes shape e = (refl, refl, refl)

pub verdict-Unused-None : (facts : Facts) (bytes : List ℕ) (shape : Shape) → verdict Unused facts bytes shape ≡ None → (facts.tag ≡ false) × (facts.word ≡ false) × (facts.pattern ≡ false)
verdict-Unused-None facts bytes shape = quiet_unused facts.tag facts.code facts.guard facts.low facts.word facts.pattern bytes shape

-- nor with an allocated one
quiet_class : (t c g l : Bool) → class_verdict t c g l ≡ None → (t ≡ false) × (c ≡ false) × (g ≡ false) × (l ≡ false)
quiet_class true c g l e = absurd (cc)
quiet_class false true g l e = absurd (cc)
quiet_class false false true l e = absurd (cc)
quiet_class false false false true e = absurd (cc)
quiet_class false false false false e = (refl, refl, refl, refl)

pub verdict-OfClass-None : (facts : Facts) (bytes : List ℕ) (shape : Shape) → verdict OfClass facts bytes shape ≡ None
    → (facts.tag ≡ false) × (facts.code ≡ false) × (facts.guard ≡ false) × (facts.low ≡ false)
verdict-OfClass-None facts bytes shape e = quiet_class facts.tag facts.code facts.guard facts.low (sym (verdict-OfClass facts bytes shape) ∙ e)

quiet_declared : (t w : Bool) → declared_verdict t w ≡ None → (t ≡ false) × (w ≡ false)
quiet_declared true w e = absurd (cc)
quiet_declared false true e = absurd (cc)
quiet_declared false false e = (refl, refl)

pub verdict-Declared-None : (facts : Facts) (bytes : List ℕ) (shape : Shape) → verdict Declared facts bytes shape ≡ None → (facts.tag ≡ false) × (facts.word ≡ false)
verdict-Declared-None facts bytes shape e = quiet_declared facts.tag facts.word (sym (verdict-Declared facts bytes shape) ∙ e)
