-- Lines and words from the front.
use Rattle.std.proofs.Common.{◌≡◌, ℕ, zero, suc, ◌<◌, ◌≤◌, Bool, true, false, cond, List, [], ◌∷◌, length, get_or, take, drop, refl, ap, ◌∙◌, arith}
use Rattle.std.specs.Prelude.{not, ◌==◌}
use Rattle.umem_base.specs.Cut.{onto_first}
use Rattle.umem_base.specs.Lines.{BeginsWord, is_blank, lines_of, words_of}

-- a line end at a place, and none before it
pub lines_of-at : (bytes : List ℕ) (place : ℕ) → place < length bytes → (get_or bytes place 0 == 10) ≡ true → ((k : ℕ) → k < place → (get_or bytes k 0 == 10) ≡ false)
    → lines_of bytes ≡ take place bytes ∷ lines_of (drop (suc place) bytes)
lines_of-at [] place lt here before = absurd (omega arith)
lines_of-at (byte ∷ bytes) zero lt here before = rw here refl
lines_of-at (byte ∷ bytes) (suc place) lt here before =
    let other : (byte == 10) ≡ false = before 0 (omega arith) in
    rw other (ap (onto_first byte) (lines_of-at bytes place (omega arith) here (λ k below. before (suc k) (omega arith))))

-- no line end
pub lines_of-none : (bytes : List ℕ) → 0 < length bytes → ((k : ℕ) → k < length bytes → (get_or bytes k 0 == 10) ≡ false) → lines_of bytes ≡ bytes ∷ []
lines_of-none [] some none = absurd (omega arith)
lines_of-none (byte ∷ []) some none =
    let other : (byte == 10) ≡ false = none 0 (omega arith) in
    rw other refl
lines_of-none (byte ∷ next ∷ bytes) some none =
    let other : (byte == 10) ≡ false = none 0 (omega arith) in
    rw other (ap (onto_first byte) (lines_of-none (next ∷ bytes) (omega arith) (λ k below. none (suc k) (omega arith))))

-- blanks before a place
pub words_of-drop : (line : List ℕ) (place : ℕ) → place ≤ length line → ((k : ℕ) → k < place → is_blank (get_or line k 0) ≡ true) → words_of line ≡ words_of (drop place line)
words_of-drop line zero le blanks = refl
words_of-drop [] (suc place) le blanks = absurd (omega arith)
words_of-drop (byte ∷ line) (suc place) le blanks =
    let blank : is_blank byte ≡ true = blanks 0 (omega arith) in
    rw blank (words_of-drop line place (omega arith) (λ k below. blanks (suc k) (omega arith)))

-- blanks alone
pub words_of-blank : (line : List ℕ) → ((k : ℕ) → k < length line → is_blank (get_or line k 0) ≡ true) → words_of line ≡ []
words_of-blank [] blanks = refl
words_of-blank (byte ∷ line) blanks =
    let blank : is_blank byte ≡ true = blanks 0 (omega arith) in
    rw blank (words_of-blank line (λ k below. blanks (suc k) (omega arith)))

-- a blank behind the first word
pub words_of-at : (line : List ℕ) (place : ℕ) → BeginsWord line → place < length line → is_blank (get_or line place 0) ≡ true → ((k : ℕ) → k < place → is_blank (get_or line k 0) ≡ false)
    → words_of line ≡ take place line ∷ words_of (drop place line)
words_of-at [] place begins lt here before = absurd begins
words_of-at (byte ∷ line) zero begins lt here before = absurd (cc (begins, here))
words_of-at (byte ∷ []) (suc place) begins lt here before = absurd (omega arith)
words_of-at (byte ∷ next ∷ line) (suc zero) begins lt here before = rw (begins, here) refl
words_of-at (byte ∷ next ∷ line) (suc (suc place)) begins lt here before =
    let second : is_blank next ≡ false = before 1 (omega arith) in
    rw begins (go second (words_of-at (next ∷ line) (suc place) second (omega arith) here (λ k below. before (suc k) (omega arith))))
  where
    go : is_blank next ≡ false → words_of (next ∷ line) ≡ take (suc place) (next ∷ line) ∷ words_of (drop (suc place) (next ∷ line))
        → cond (is_blank next) ((byte ∷ []) ∷ words_of (next ∷ line)) (onto_first byte (words_of (next ∷ line))) ≡ take (suc (suc place)) (byte ∷ next ∷ line) ∷ words_of (drop (suc (suc place)) (byte ∷ next ∷ line))
    go second h = ap (λ b. cond b ((byte ∷ []) ∷ words_of (next ∷ line)) (onto_first byte (words_of (next ∷ line)))) second ∙ ap (onto_first byte) h

-- one word to the end
pub words_of-none : (line : List ℕ) → BeginsWord line → ((k : ℕ) → k < length line → is_blank (get_or line k 0) ≡ false) → words_of line ≡ line ∷ []
words_of-none [] begins none = absurd begins
words_of-none (byte ∷ []) begins none = rw begins refl
words_of-none (byte ∷ next ∷ line) begins none =
    let second : is_blank next ≡ false = none 1 (omega arith) in
    rw begins (go second (words_of-none (next ∷ line) second (λ k below. none (suc k) (omega arith))))
  where
    go : is_blank next ≡ false → words_of (next ∷ line) ≡ (next ∷ line) ∷ []
        → cond (is_blank next) ((byte ∷ []) ∷ words_of (next ∷ line)) (onto_first byte (words_of (next ∷ line))) ≡ (byte ∷ next ∷ line) ∷ []
    go second h = ap (λ b. cond b ((byte ∷ []) ∷ words_of (next ∷ line)) (onto_first byte (words_of (next ∷ line)))) second ∙ ap (onto_first byte) h

-- a word begins at a byte that is no blank
pub BeginsWord-drop : (line : List ℕ) (place : ℕ) → place < length line → is_blank (get_or line place 0) ≡ false → BeginsWord (drop place line)
BeginsWord-drop [] place lt word = absurd (omega arith)
BeginsWord-drop (byte ∷ line) zero lt word = word
BeginsWord-drop (byte ∷ line) (suc place) lt word = BeginsWord-drop line place (omega arith) word

pub blank_from_not : (b : Bool) → not b ≡ false → b ≡ true
blank_from_not true h = refl
blank_from_not false h = absurd (cc h)

pub word_from_not : (b : Bool) → not b ≡ true → b ≡ false
word_from_not true h = absurd (cc h)
word_from_not false h = refl
