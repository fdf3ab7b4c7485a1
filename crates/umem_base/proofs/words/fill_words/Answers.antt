use Rattle.std.proofs.Common.{◌≡◌, ℕ, ◌-◌, List, length, take, drop, length-take, length-drop, ap, ◌∙◌, arith}
use Rattle.std.specs.Int as int
use Rattle.std.specs.Int.{to_le_bytes}
use Rattle.umem_base.specs.Words.{repeated}
use Rattle.umem_base.proofs.WordsLemmas.{repeated_rest}
use Rattle.umem_base.proofs.words.fill_words.Goals as goal

pub returns : goal.returns
returns c =
    let bytes = c.loop-bytes.bytes in
    let at = c.loop-bytes.at in
    let put = c.copy_from_slice-2.new.self in
    let is : put ≡ take (length bytes - at) (to_le_bytes int.w64 c.args.value) = c.copy_from_slice-2.ensures.after ∙ ap (λ (word : List ℕ). take (length bytes - at) word) c.to_le_bytes-word.ensures in
    let len : length put ≡ length bytes - at = omega (arith, c.copy_from_slice-2.ensures.len, length-take (length bytes - at) (drop at bytes), length-drop at bytes) in
    repeated_rest bytes put at c.args.value c.loop-bytes-test.false c.loop-bytes.invariant.whole c.loop-bytes.invariant.within c.loop-bytes.invariant.filled len is
    ∙ ap (λ (n : ℕ). repeated n c.args.value) c.loop-bytes.auto.bytes
