use Rattle.std.proofs.Common.{ℕ, ◌≤◌, length, sym, ◌∙◌, arith}
use Rattle.std.specs.Prelude.{not}
use Rattle.std.proofs.lemmas.List.Quantifiers.{position-Some}
use Rattle.umem_base.specs.Lines.{is_blank}
use Rattle.umem_base.proofs.LinesLemmas.{words_of-drop, words_of-blank, BeginsWord-drop, blank_from_not, word_from_not}
use Rattle.umem_base.proofs.Lists.{slice_rest, position-None}
use Rattle.umem_base.proofs.lines.split_word.Goals as goal

pub split_at_blank-requires : goal.split_at_blank-requires
split_at_blank-requires c =
    let line = c.args.line.now in
    let start = position-Some (λ (byte : ℕ). not (is_blank byte)) line c.in-Some.start 0 (sym c.in-Some.ensures) in
    rw slice_rest (BeginsWord-drop line c.in-Some.start start.0 (word_from_not _ start.1))

pub returns-in-Some : goal.returns-in-Some
returns-in-Some c =
    let line = c.args.line.now in
    let start = position-Some (λ (byte : ℕ). not (is_blank byte)) line c.in-Some.start 0 (sym c.in-Some.ensures) in
    let le : c.in-Some.start ≤ length line = omega (arith, start.0) in
    let rest = rw (slice_rest line c.in-Some.start) at c.split_at_blank.ensures.words in
    record { words = words_of-drop line c.in-Some.start le (λ k below. blank_from_not _ (start.2 k below)) ∙ rest }

pub returns-in-None : goal.returns-in-None
returns-in-None c =
    let line = c.args.line.now in
    record { words = words_of-blank line (λ k lt. blank_from_not _ (position-None (λ (byte : ℕ). not (is_blank byte)) line 0 (sym c.in-None.ensures) k lt)) }
