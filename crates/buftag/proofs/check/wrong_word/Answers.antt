use Rattle.std.proofs.Common.{◌∙◌, arith, below_more, sym}
use Rattle.buftag.proofs.FindingsLemmas.{wrong_word-Some, wrong_word-None}
use Rattle.buftag.proofs.check.wrong_word.Goals as goal

pub returns-then-tag_word : goal.returns-then-tag_word
returns-then-tag_word c =
    sym (wrong_word-Some c.args.bytes.now c.args.shape.now c.loop-index.index c.loop-index-test.true c.loop-index.invariant (λ e. c.if-tag_word.true (c.tag_word.ensures ∙ e)))

pub loop-index-preserved : goal.loop-index-preserved
loop-index-preserved c = below_more _ _ c.loop-index.invariant (sym c.tag_word.ensures ∙ c.if-tag_word.false)

pub returns : goal.returns
returns c = sym (wrong_word-None c.args.bytes.now c.args.shape.now (λ k h. c.loop-index.invariant k (omega arith)))
