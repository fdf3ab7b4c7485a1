use Rattle.std.proofs.Common.{◌≡◌, ℕ, List, ◌++◌, Result, ap, ◌∙◌, append_assoc, bit_xor}
use Rattle.std.specs.Prelude.{OnOk}
use Rattle.std.proofs.lemmas.Result.{on_ok_weaker}
use Rattle.byteorder.specs.Endian.{little_bytes}
use Rattle.buftag.specs.declared.patterns.TheConstants.{ALLOCATED_MARK}
use Rattle.yardstick.proofs.chunks.put_bufctl.Goals as goal

put_twice : {T E : Type 0} (r : Result T E) (old mid new a b : List ℕ) → mid ≡ old ++ a → OnOk r (new ≡ mid ++ b) → OnOk r (new ≡ old ++ (a ++ b))
put_twice r old mid new a b first second =
    on_ok_weaker r (λ (h : new ≡ mid ++ b). h ∙ ap (λ (front : List ℕ). front ++ b) first ∙ append_assoc old a b) second

pub returns : goal.returns
returns c =
    let bufctl = c.args.shape.now.bufctl in
    put_twice c.put_word-2.result c.args.out.now c.put_word.new.out c.put_word-2.new.out (little_bytes 8 bufctl)
    (little_bytes 8 (bit_xor bufctl ALLOCATED_MARK)) c.in_ok-put_word.ensures c.put_word-2.ensures
