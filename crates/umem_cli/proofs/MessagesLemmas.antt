-- Pieces that are written one behind the other.
use Rattle.std.proofs.Common.{ℕ, ◌+◌, ◌<◌, List, ◌++◌, length, take, Option, Some, None, sym, ap, subst, ◌∙◌, arith}
use Rattle.std.specs.Prelude.{Result, Ok, Err, IsErr}
use Rattle.std.specs.Io.KnownBytes.{Appends}
use Rattle.std.proofs.lemmas.List.{append_assoc, take-append-le, length-append}
use Rattle.std.proofs.Math.Seq.{take-append-add}
use Rattle.umem_base.specs.Transfer.{WritesWhole}
use Rattle.umem_base.specs.declared.transfer.WriteFault.{WriteFault}

-- a front of the bytes was taken, and not all of them
abbrev pub Front : Option (List ℕ) → Option (List ℕ) → List ℕ → Type 0
Front before after bytes = (n : ℕ) × (n < length bytes) × Appends before after (take n bytes)

appends_both : (a b c : Option (List ℕ)) (x y : List ℕ) → Appends a b x → Appends b c y → Appends a c (x ++ y)
appends_both None b c x y first second = tt
appends_both (Some s) None c x y first second = absurd first
appends_both (Some s) (Some t) None x y first second = absurd second
appends_both (Some s) (Some t) (Some u) x y first second = second ∙ ap (λ (l : List ℕ). l ++ y) first ∙ append_assoc s x y

pub front_more : (a b : Option (List ℕ)) (x y : List ℕ) → Front a b x → Front a b (x ++ y)
front_more a b x y front = (front.0, omega (arith, front.1, length-append x y), subst (λ (l : List ℕ). Appends a b l) (sym (take-append-le front.0 x y (omega (arith, front.1)))) front.2)

pub front_behind : (a b c : Option (List ℕ)) (x y : List ℕ) → Appends a b x → Front b c y → Front a c (x ++ y)
front_behind a b c x y first front = (length x + front.0, omega (arith, front.1, length-append x y), subst (λ (l : List ℕ). Appends a c l) (sym (take-append-add x y front.0)) (appends_both a b c x (take front.0 y) first front.2))

pub front_written : (a b : Option (List ℕ)) (x : List ℕ) (result : Result (Unit {0}) WriteFault) → IsErr result → Front a b x → WritesWhole a b x result
front_written a b x (Ok done) failed front = absurd (cc failed)
front_written a b x (Err fault) failed front = front

pub whole_behind : (a b c : Option (List ℕ)) (x y : List ℕ) (result : Result (Unit {0}) WriteFault) → Appends a b x → WritesWhole b c y result → WritesWhole a c (x ++ y) result
whole_behind a b c x y (Ok done) first second = appends_both a b c x y first second
whole_behind a b c x y (Err fault) first second = front_behind a b c x y first second
