-- The words of a device that are given one by one.
use Rattle.std.proofs.Common.{◌≡◌, ℕ, suc, ◌<◌, ◌≤◌, ◌∙◌, List, [], ◌∷◌, ◌++◌, Option, None, Some, length, take, get_or, ap, sym, arith}
use Rattle.std.specs.Prelude.{IfSome}
use Rattle.std.proofs.lemmas.Option.{get_or_from_slice_get, slice_get_within}
use Rattle.std.proofs.Math.Seq.{take-suc}
use Rattle.umem_cli.specs.Words.{IsWordAt}

-- so many of the words are given, where the device tells them
abbrev pub AreFirst : Option (List (List ℕ)) → ℕ → List (List ℕ) → Type 0
AreFirst told count given = IfSome told (λ words. (count ≤ length words) × (given ≡ take count words))

-- one more is given
pub AreFirst-more : (told : Option (List (List ℕ))) (index next : ℕ) (given : List (List ℕ)) (word : List ℕ) → next ≡ suc index
    → AreFirst told index given → IsWordAt told index (Some word) → AreFirst told next (given ++ word ∷ [])
AreFirst-more None index next given word step first is = tt
AreFirst-more (Some words) index next given word step first is =
    let within : index < length words = slice_get_within words index word (sym is) in
    let here : get_or words index word ≡ word = get_or_from_slice_get words index word word (sym is) in
    let more : take (suc index) words ≡ take index words ++ word ∷ [] =
    take-suc words index word within ∙ ap (λ (w : List ℕ). take index words ++ w ∷ []) here in
    (omega (arith, within, step), ap (λ (g : List (List ℕ)). g ++ word ∷ []) first.1 ∙ sym more ∙ ap (λ n. take n words) (sym step))
