-- Items that are read one after the other, as a loop does.
use Rattle.std.proofs.Common.{◌≡◌, ℕ, suc, ◌-◌, ◌+◌, ◌≤◌, ◌<◌, List, [], ◌∷◌, ◌++◌, Result, Ok, Err, refl, sym, ap, ◌∙◌, arith}
use Rattle.std.specs.List.{flat_map}
use Rattle.std.proofs.lemmas.Grind.{flat_map-append}
use Rattle.std.proofs.lemmas.List.{append-nil}
use Rattle.core_format.specs.declared.core_fault.CoreFault.{CoreFault}
use Rattle.core_format.specs.declared.core_fault.CoreFault.TheVariants.{Bad, NoMemory}
use Rattle.core_format.specs.Reader.{Flaw, IsToldBy, Reader}
use Rattle.core_format.specs.Items.{items_at}

-- one item more
pub items_at-more : {A : Type 0} (item : List A → Reader → Result (A × Reader) Flaw) (count i : ℕ) (before now : List A) (here there : Reader) (x : A) (total : Result (List A × Reader) Flaw)
    → i < count → item before here ≡ Ok (x, there) → now ≡ before ++ x ∷ [] → items_at item (count - i) before here ≡ total → items_at item (count - (i + 1)) now there ≡ total
unfolding items_at
items_at-more item count i before now here there x total lt h e so_far =
    let k : count - i ≡ suc (count - (i + 1)) = omega arith in
    let one : items_at item (count - i) before here ≡ items_at item (count - (i + 1)) (before ++ x ∷ []) there = rw (k, h) refl in
    rw e (sym one ∙ so_far)

-- an item that is none
pub items_at-told : {A : Type 0} (item : List A → Reader → Result (A × Reader) Flaw) (count i : ℕ) (before : List A) (here : Reader) (fault : CoreFault) (total : Result (List A × Reader) Flaw)
    → i < count → IsToldBy fault (item before here) → items_at item (count - i) before here ≡ total → IsToldBy fault total
unfolding items_at
items_at-told item count i before here NoMemory total lt h so_far = tt
items_at-told item count i before here (Bad offset fault) total lt h so_far =
    let k : count - i ≡ suc (count - (i + 1)) = omega arith in
    let one : items_at item (count - i) before here ≡ Err (record { offset = offset; fault = fault }) = rw (k, h) refl in
    sym so_far ∙ one

-- all items
pub items_at-done : {A : Type 0} (item : List A → Reader → Result (A × Reader) Flaw) (count i : ℕ) (before : List A) (here : Reader) (total : Result (List A × Reader) Flaw)
    → count ≤ i → items_at item (count - i) before here ≡ total → total ≡ Ok (before, here)
unfolding items_at
items_at-done item count i before here total le so_far =
    let k : count - i ≡ 0 = omega arith in
    let one : items_at item (count - i) before here ≡ Ok (before, here) = rw k refl in
    sym so_far ∙ one

-- the items of one list more
pub flat_map-push : {X A : Type 0} (f : X → List A) (xs : List X) (x : X) → flat_map f (xs ++ x ∷ []) ≡ flat_map f xs ++ f x
flat_map-push {X} {A} f xs x = flat_map-append f xs (x ∷ []) ∙ ap (λ (ys : List A). flat_map f xs ++ ys) (append-nil (f x))
