-- The words of a buffer, one by one.
use Rattle.std.proofs.Common.{◌≡◌, ℕ, zero, suc, ◌+◌, ◌*◌, ◌<◌, List, length, get_or, drop, replicate, refl, ap, ◌∙◌, arith}
use Rattle.std.proofs.lemmas.List.{drop-drop, length-replicate}
use Rattle.byteorder.specs.Endian.{little_number}
use Rattle.case_table.specs.Record.{numbers_at}
use Rattle.case_table.proofs.RecordLemmas.{length-numbers_at}
use Rattle.core_format.specs.declared.whole.Core.{Core}
use Rattle.heap_view.specs.declared.buffer.Buffer.{Buffer}
use Rattle.heap_view.specs.Memory.{core_bytes_from, word_count, words_in}

-- a number of 8 bytes in a row of such numbers
number_at_row : (count : ℕ) (bytes : List ℕ) (i : ℕ) → i < count → get_or (numbers_at (replicate count 8) bytes) i 0 ≡ little_number 8 (drop (8 * i) bytes)
number_at_row zero bytes i lt = absurd (omega arith)
number_at_row (suc count) bytes zero lt = refl
number_at_row (suc count) bytes (suc i) lt =
    let rest = number_at_row count (drop 8 bytes) i (omega arith) in
    rest ∙ ap (little_number 8) (drop-drop (8 * i) 8 bytes ∙ ap (λ (n : ℕ). drop n bytes) (by_eight i))
  where
    by_eight : (i : ℕ) → 8 + 8 * i ≡ 8 * suc i
    by_eight i = omega arith

-- a buffer has a word for each 8 of its bytes
pub length-words_in : (core : Core) (b : Buffer) → length (words_in core b) ≡ word_count b
length-words_in core b =
    length-numbers_at (replicate (word_count b) 8) (core_bytes_from core b.address) ∙ length-replicate (word_count b) 8

pub word_at : (core : Core) (b : Buffer) (i : ℕ) → i < word_count b → get_or (words_in core b) i 0 ≡ little_number 8 (drop (8 * i) (core_bytes_from core b.address))
word_at core b i lt = number_at_row (word_count b) (core_bytes_from core b.address) i lt
