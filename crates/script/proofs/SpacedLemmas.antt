-- Written words and lines are read as the words and lines that were written.
use Rattle.std.proofs.Common.{◌≡◌, ℕ, ◌<◌, ◌≤◌, Bool, true, false, cond, eqb, List, [], ◌∷◌, ◌++◌, length, map, append_assoc, refl, ap, ◌∙◌, arith}
use Rattle.std.specs.List.{AllByRecursion, flat_map, join_with_byte, list_all}
use Rattle.std.proofs.lemmas.Bool.{and_from}
use Rattle.std.proofs.lemmas.Bool.Decides.{nat_tests}
use Rattle.umem_base.specs.Cut.{onto_first, cut}
use Rattle.umem_base.specs.Lines.{is_blank, lines_of, words_of, onto_word}
use Rattle.script.specs.Lines.{is_line_byte}
use Rattle.script.specs.PlanText.{line_text, spaced}

-- a byte that stands in a line and is no blank
pub record IsGlyph (byte : ℕ) : Type 0 where
  pub low : 33 ≤ byte
  pub high : byte ≤ 126

-- one such byte or more
pub record IsWord (word : List ℕ) : Type 0 where
  pub some : 0 < length word
  pub glyphs : AllByRecursion IsGlyph word

-- a byte of words with spaces between them
pub record IsPlain (byte : ℕ) : Type 0 where
  pub low : 32 ≤ byte
  pub high : byte ≤ 126

no_blank : (byte : ℕ) → IsGlyph byte → is_blank byte ≡ false
no_blank byte glyph = let low = glyph.low in grind (arith, nat_tests)

no_end : (byte : ℕ) → IsPlain byte → eqb byte 10 ≡ false
no_end byte plain = let low = plain.low in grind (arith, nat_tests)

plain_line : (byte : ℕ) → IsPlain byte → is_line_byte byte ≡ true
plain_line byte plain = let low = plain.low in let high = plain.high in grind (arith, nat_tests)

plain_glyph : (byte : ℕ) → IsGlyph byte → IsPlain byte
plain_glyph byte glyph = let low = glyph.low in record { low = omega arith; high = glyph.high }

-- ---- lists

pub all-append : {X : Type 0} (P : X → Type 0) (xs ys : List X) → AllByRecursion P xs → AllByRecursion P ys → AllByRecursion P (xs ++ ys)
all-append P [] ys hx hy = hy
all-append P (x ∷ xs) ys hx hy = (hx.0, all-append P xs ys hx.1 hy)

pub all-map : {X Y : Type 0} (P : X → Type 0) (Q : Y → Type 0) (f : X → Y) → ((x : X) → P x → Q (f x)) → (xs : List X) → AllByRecursion P xs → AllByRecursion Q (map f xs)
all-map P Q f step [] h = tt
all-map P Q f step (x ∷ xs) h = (step x h.0, all-map P Q f step xs h.1)

pub all-weaker : {X : Type 0} (P Q : X → Type 0) → ((x : X) → P x → Q x) → (xs : List X) → AllByRecursion P xs → AllByRecursion Q xs
all-weaker P Q step [] h = tt
all-weaker P Q step (x ∷ xs) h = (step x h.0, all-weaker P Q step xs h.1)

pub list_all-from : {X : Type 0} (P : X → Type 0) (test : X → Bool) → ((x : X) → P x → test x ≡ true) → (xs : List X) → AllByRecursion P xs → list_all test xs ≡ true
list_all-from P test step [] h = refl
list_all-from P test step (x ∷ xs) h = and_from (test x) (list_all test xs) (step x h.0) (list_all-from P test step xs h.1)

-- ---- words

-- a word to the end of its line
words_of-last : (word : List ℕ) → 0 < length word → AllByRecursion IsGlyph word → words_of word ≡ word ∷ []
words_of-last [] some h = absurd (omega arith)
words_of-last (byte ∷ []) some h = ap (λ b. cond b [] ((byte ∷ []) ∷ [])) (no_blank byte h.0)
words_of-last (byte ∷ next ∷ word) some h =
    let tail : List ℕ = next ∷ word in
    ap (λ b. cond b (words_of tail) (onto_word byte tail (words_of tail))) (no_blank byte h.0)
    ∙ ap (λ b. cond b ((byte ∷ []) ∷ words_of tail) (onto_first byte (words_of tail))) (no_blank next h.1.0)
    ∙ ap (onto_first byte) (words_of-last (next ∷ word) (omega arith) h.1)

-- a word before a space
words_of-more : (word rest : List ℕ) → 0 < length word → AllByRecursion IsGlyph word → words_of (word ++ 32 ∷ rest) ≡ word ∷ words_of rest
words_of-more [] rest some h = absurd (omega arith)
words_of-more (byte ∷ []) rest some h = ap (λ b. cond b (words_of rest) ((byte ∷ []) ∷ words_of rest)) (no_blank byte h.0)
words_of-more (byte ∷ next ∷ word) rest some h =
    let tail : List ℕ = next ∷ word ++ 32 ∷ rest in
    ap (λ b. cond b (words_of tail) (onto_word byte tail (words_of tail))) (no_blank byte h.0)
    ∙ ap (λ b. cond b ((byte ∷ []) ∷ words_of tail) (onto_first byte (words_of tail))) (no_blank next h.1.0)
    ∙ ap (onto_first byte) (words_of-more (next ∷ word) rest (omega arith) h.1)

-- the words of a line are those that were written with a space between two
pub words_of-spaced : (words : List (List ℕ)) → AllByRecursion IsWord words → words_of (spaced words) ≡ words
words_of-spaced [] h = refl
words_of-spaced (word ∷ []) h = words_of-last word h.0.some h.0.glyphs
words_of-spaced (word ∷ next ∷ words) h =
    words_of-more word (spaced (next ∷ words)) h.0.some h.0.glyphs ∙ ap (λ (ws : List (List ℕ)). word ∷ ws) (words_of-spaced (next ∷ words) h.1)

-- bytes of written words
pub spaced-plain : (words : List (List ℕ)) → AllByRecursion IsWord words → AllByRecursion IsPlain (spaced words)
spaced-plain [] h = tt
spaced-plain (word ∷ []) h = all-weaker IsGlyph IsPlain plain_glyph word h.0.glyphs
spaced-plain (word ∷ next ∷ words) h =
    all-append IsPlain word (32 ∷ spaced (next ∷ words)) (all-weaker IsGlyph IsPlain plain_glyph word h.0.glyphs)
    (record { low = omega arith; high = omega arith }, spaced-plain (next ∷ words) h.1)

-- a written line has bytes that a line may hold
pub spaced-line : (words : List (List ℕ)) → AllByRecursion IsWord words → list_all is_line_byte (spaced words) ≡ true
spaced-line words h = list_all-from IsPlain is_line_byte plain_line (spaced words) (spaced-plain words h)

-- ---- lines

-- a line and its end
lines_of-more : (line rest : List ℕ) → AllByRecursion IsPlain line → lines_of (line ++ 10 ∷ rest) ≡ line ∷ lines_of rest
lines_of-more [] rest h = refl
lines_of-more (byte ∷ line) rest h =
    let tail : List ℕ = line ++ 10 ∷ rest in
    ap (λ b. cond b ([] ∷ lines_of tail) (onto_first byte (lines_of tail))) (no_end byte h.0) ∙ ap (onto_first byte) (lines_of-more line rest h.1)

-- the lines of a text are those that were written
pub lines_of-text : (lines : List (List (List ℕ))) → AllByRecursion (AllByRecursion IsWord) lines → lines_of (flat_map line_text lines) ≡ map spaced lines
lines_of-text [] h = refl
lines_of-text (words ∷ lines) h =
    let rest : List ℕ = flat_map line_text lines in
    ap lines_of (append_assoc (spaced words) (10 ∷ []) rest) ∙ lines_of-more (spaced words) rest (spaced-plain words h.0) ∙ ap (λ (ls : List (List ℕ)). spaced words ∷ ls) (lines_of-text lines h.1)

-- ---- parts between commas

pub record IsPart (separator byte : ℕ) : Type 0 where
  pub other : eqb byte separator ≡ false

cut-last : (separator : ℕ) (part : List ℕ) → AllByRecursion (IsPart separator) part → cut separator part ≡ part ∷ []
cut-last separator [] h = refl
cut-last separator (byte ∷ part) h =
    ap (λ b. cond b ([] ∷ cut separator part) (onto_first byte (cut separator part))) h.0.other ∙ ap (onto_first byte) (cut-last separator part h.1)

cut-more : (separator : ℕ) (part rest : List ℕ) → eqb separator separator ≡ true → AllByRecursion (IsPart separator) part → cut separator (part ++ separator ∷ rest) ≡ part ∷ cut separator rest
cut-more separator [] rest same h = ap (λ b. cond b ([] ∷ cut separator rest) (onto_first separator (cut separator rest))) same
cut-more separator (byte ∷ part) rest same h =
    let tail : List ℕ = part ++ separator ∷ rest in
    ap (λ b. cond b ([] ∷ cut separator tail) (onto_first byte (cut separator tail))) h.0.other ∙ ap (onto_first byte) (cut-more separator part rest same h.1)

-- one part or more that were joined are cut again
pub cut-joined : (separator : ℕ) (part : List ℕ) (parts : List (List ℕ)) → eqb separator separator ≡ true → AllByRecursion (AllByRecursion (IsPart separator)) (part ∷ parts)
    → cut separator (join_with_byte separator (part ∷ parts)) ≡ part ∷ parts
cut-joined separator part [] same h = cut-last separator part h.0
cut-joined separator part (next ∷ parts) same h =
    cut-more separator part (join_with_byte separator (next ∷ parts)) same h.0 ∙ ap (λ (ps : List (List ℕ)). part ∷ ps) (cut-joined separator next parts same h.1)
