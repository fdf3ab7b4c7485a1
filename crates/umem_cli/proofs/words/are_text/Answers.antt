use Rattle.std.proofs.Common.{refl, sym, subst, ◌∙◌, below_more}
use Rattle.std.specs.Prelude.{slice_index_or}
use Rattle.std.specs.Str.{IsUtf8}
use Rattle.std.proofs.lemmas.List.{get_or_default}
use Rattle.umem_cli.proofs.words.are_text.Goals as goal

pub loop-word-preserved : goal.loop-word-preserved
loop-word-preserved c =
    let words = c.args.words.now in
    let index = c.loop-word.word-index in
    let word = c.word-item.result in
    λ k d lt.
    let same = c.word-item.is ∙ get_or_default words index word d c.loop-word-test.true in
    below_more (λ n. IsUtf8 (slice_index_or words n d)) index (λ n less. c.loop-word.invariant n d less) (subst IsUtf8 same (c.if-not-is_text.ensures.0 refl)) k lt

pub returns-then-not-is_text : goal.returns-then-not-is_text
returns-then-not-is_text c = (
  λ impossible. absurd (cc impossible),
  λ text. c.if-not-is_text.ensures.1 (subst IsUtf8 (sym c.word-item.is) (text c.loop-word.word-index c.word-item.result c.loop-word-test.true)),
)
