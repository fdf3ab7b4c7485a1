-- Items that are put one after the other, as a loop does.
use Rattle.std.proofs.Common.{◌≡◌, ℕ, suc, ◌+◌, ◌≤◌, ◌<◌, List, ◌∷◌, ◌++◌, length, get_or, take, drop, Result, Ok, Err, sym, ap, ◌∙◌, append_assoc, add-one, drop-cons}
use Rattle.std.specs.Prelude.{OnOk}
use Rattle.std.specs.List.{flat_map}
use Rattle.std.proofs.lemmas.List.{append-nil, drop_all}
use Rattle.core_format.specs.declared.items.LargeItem.{LargeItem}
use Rattle.core_format.specs.declared.items.SlabItem.{SlabItem}
use Rattle.core_format.specs.PageBytes.{lower_count}
use Rattle.core_format.specs.Spelling.{large_bytes, spelled_pages}

-- one item more
pub put_more : {X : Type 0} (f : X → List ℕ) (xs : List X) (i : ℕ) (x : X) (out now all : List ℕ) → i < length xs → x ≡ get_or xs i x → now ≡ out ++ f x
    → out ++ flat_map f (drop i xs) ≡ all → now ++ flat_map f (drop (i + 1) xs) ≡ all
put_more {X} f xs i x out now all lt is put so_far =
    let left : drop i xs ≡ x ∷ drop (i + 1) xs = rw add-one (drop-cons xs i x lt ∙ ap (λ (y : X). y ∷ drop (suc i) xs) (sym is)) in
    ap (λ (t : List ℕ). t ++ flat_map f (drop (i + 1) xs)) put ∙ append_assoc out (f x) (flat_map f (drop (i + 1) xs)) ∙ ap (λ (ys : List X). out ++ flat_map f ys) (sym left) ∙ so_far

-- all items
pub put_done : {X : Type 0} (f : X → List ℕ) (xs : List X) (i : ℕ) (out all : List ℕ) → length xs ≤ i → out ++ flat_map f (drop i xs) ≡ all → out ≡ all
put_done {X} f xs i out all le so_far = sym (ap (λ (ys : List X). out ++ flat_map f ys) (drop_all i xs le) ∙ append-nil out) ∙ so_far

-- two pieces
pub put_pair : (start first last a b : List ℕ) → first ≡ start ++ a → last ≡ first ++ b → last ≡ start ++ (a ++ b)
put_pair start first last a b p q = q ∙ ap (λ (t : List ℕ). t ++ b) p ∙ append_assoc start a b

-- a piece, and one that a call puts behind it
pub put_last : {E : Type 0} (result : Result (Unit {0}) E) (start first last a b : List ℕ) → first ≡ start ++ a → OnOk result (last ≡ first ++ b) → OnOk result (last ≡ start ++ (a ++ b))
put_last (Ok done) start first last a b p q = put_pair start first last a b p q
put_last (Err e) start first last a b p q = tt

-- the pages of one slab more, and of the large buffers below it
pub put_pages_more : (slabs : List SlabItem) (i n : ℕ) (slab : SlabItem) (left low over : List LargeItem) (out mid now all : List ℕ) → i < length slabs → slab ≡ get_or slabs i slab → n ≡ lower_count slab.base left → low ≡ take n left → over ≡ drop n left
    → mid ≡ out ++ large_bytes low → now ≡ mid ++ slab.bytes → out ++ spelled_pages (drop i slabs) left ≡ all → now ++ spelled_pages (drop (i + 1) slabs) over ≡ all
put_pages_more slabs i n slab left low over out mid now all lt is count low-is over-is put own so_far =
    let rest : drop i slabs ≡ slab ∷ drop (i + 1) slabs = rw add-one (drop-cons slabs i slab lt ∙ ap (λ (y : SlabItem). y ∷ drop (suc i) slabs) (sym is)) in
    let tail = spelled_pages (drop (i + 1) slabs) (drop n left) in
    let step : spelled_pages (drop i slabs) left ≡ large_bytes (take n left) ++ slab.bytes ++ tail = ap (λ (s : List SlabItem). spelled_pages s left) rest ∙ ap (λ (k : ℕ). large_bytes (take k left) ++ slab.bytes ++ spelled_pages (drop (i + 1) slabs) (drop k left)) (sym count) in
    let made : now ≡ out ++ (large_bytes (take n left) ++ slab.bytes) = put_pair out mid now (large_bytes (take n left)) slab.bytes (put ∙ ap (λ (l : List LargeItem). out ++ large_bytes l) low-is) own in
    ap (λ (o : List LargeItem). now ++ spelled_pages (drop (i + 1) slabs) o) over-is ∙ ap (λ (t : List ℕ). t ++ tail) made ∙ append_assoc out (large_bytes (take n left) ++ slab.bytes) tail ∙ ap (λ (t : List ℕ). out ++ t) (sym step) ∙ so_far

-- the pages of the large buffers above all slabs
pub put_pages_done : {E : Type 0} (result : Result (Unit {0}) E) (slabs : List SlabItem) (i : ℕ) (left : List LargeItem) (out now all : List ℕ) → length slabs ≤ i → OnOk result (now ≡ out ++ large_bytes left) → out ++ spelled_pages (drop i slabs) left ≡ all → OnOk result (now ≡ all)
put_pages_done (Ok done) slabs i left out now all le put so_far = put ∙ sym (ap (λ (s : List SlabItem). out ++ spelled_pages s left) (drop_all i slabs le)) ∙ so_far
put_pages_done (Err e) slabs i left out now all le put so_far = tt
