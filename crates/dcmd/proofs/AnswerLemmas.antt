-- A command has no more than one answer.
use Rattle.std.proofs.Common.{◌≡◌, ℕ, suc, Bool, List, [], ◌∷◌, refl, sym, ap, subst, ◌∙◌, arith, inl, inr}
use Rattle.std.specs.List.{AllPairs, Contains, flat_map}
use Rattle.std.specs.Ordering.{ordering_reverse}
use Rattle.umem_base.proofs.Lists.{Contains-here, Contains-there}
use Rattle.umem_base.proofs.OrderedLemmas.{Contains-cases, Contains-nil}
use Rattle.core_format.specs.declared.whole.Core.{Core}
use Rattle.heap_view.specs.declared.buffer.Buffer.{Buffer}
use Rattle.heap_view.specs.Buffers.{buffers_of}
use Rattle.umausers.specs.declared.group.Group.{Group}
use Rattle.umausers.specs.Groups.{AreGroups, IsGroupBefore}
use Rattle.umausers.proofs.GroupLemmas.{group_total}
use Rattle.findleaks.specs.Classes.{AreParted}
use Rattle.dcmd.specs.declared.dcmd.Dcmd.{Dcmd}
use Rattle.dcmd.specs.declared.dcmd.Dcmd.TheVariants.{Findleaks, Umausers, UmemCache, UmemContents, UmemLog, UmemVerify, WalkFreemem, WalkUmem, Whatis}
use Rattle.dcmd.specs.Answers.{IsAnswer}
use Rattle.dcmd.specs.Leaks.{TellsLeaks, leaks_text}
use Rattle.dcmd.specs.Users.{TellsUsers, group_lines}

-- ---- two lists in one order

-- no two items stand before one another
abbrev IsOneWay : {X : Type 0} → (X → X → Type 0) → Type 0
IsOneWay {X} R = (x y : X) → R x y → R y x → ⊥

tail_in_order : {X : Type 0} (R : X → X → Type 0) (x : X) (xs : List X) → AllPairs R (x ∷ xs) → AllPairs R xs
tail_in_order R x xs order = λ i j d lt within. order (suc i) (suc j) d (omega arith) (omega arith)

before_rest : {X : Type 0} (R : X → X → Type 0) (x y : X) (xs : List X) → AllPairs R (x ∷ xs) → Contains xs y → R x y
before_rest R x y xs order has = subst (λ z. R x z) has.2 (order 0 (suc has.0) y (omega arith) (omega (arith, has.1)))

first_same : {X : Type 0} (R : X → X → Type 0) (x y : X) (xs ys : List X) → IsOneWay R → AllPairs R (x ∷ xs) → AllPairs R (y ∷ ys) → Contains (y ∷ ys) x → Contains (x ∷ xs) y → x ≡ y
first_same R x y xs ys way one other here there =
    elim (Contains-cases y x ys here) [
      | inl e ↦ sym e
      | inr behind ↦ elim (Contains-cases x y xs there) [
        | inl e ↦ e
        | inr after ↦ absurd (way x y (before_rest R x y xs one after) (before_rest R y x ys other behind))
      ]
    ]

rest_has : {X : Type 0} (R : X → X → Type 0) (x y z : X) (xs ys : List X) → IsOneWay R → AllPairs R (x ∷ xs) → x ≡ y → Contains (y ∷ ys) z → Contains xs z → Contains ys z
rest_has R x y z xs ys way order e here behind =
    elim (Contains-cases y z ys here) [
      | inl same ↦
          let own : R x x = subst (λ w. R x w) (sym (e ∙ same)) (before_rest R x z xs order behind) in
          absurd (way x x own own)
      | inr after ↦ after
    ]

-- two lists in one order that have the same items are one
same_items : {X : Type 0} (R : X → X → Type 0) (xs ys : List X) → IsOneWay R → AllPairs R xs → AllPairs R ys → ((z : X) → Contains xs z → Contains ys z) → ((z : X) → Contains ys z → Contains xs z) → xs ≡ ys
same_items R [] [] way one other there back = refl
same_items R [] (y ∷ ys) way one other there back = Contains-nil y (back y (Contains-here y ys))
same_items R (x ∷ xs) [] way one other there back = Contains-nil x (there x (Contains-here x xs))
same_items {X} R (x ∷ xs) (y ∷ ys) way one other there back =
    let head : x ≡ y = first_same R x y xs ys way one other (there x (Contains-here x xs)) (back y (Contains-here y ys)) in
    let tail : xs ≡ ys = same_items R xs ys way (tail_in_order R x xs one) (tail_in_order R y ys other)
    (λ z has. rest_has R x y z xs ys way one head (there z (Contains-there x z xs has)) has)
    (λ z has. rest_has R y x z ys xs way other (sym head) (back z (Contains-there y z ys has)) has) in
    ap (λ (w : X). w ∷ xs) head ∙ ap (λ (ws : List X). y ∷ ws) tail

-- ---- the groups of a core, and its classes

one_way : (g h : Group) → IsGroupBefore g h → IsGroupBefore h g → ⊥
one_way g h before behind =
    let turned = group_total.antisymm g h ∙ ap ordering_reverse behind in
    cc

groups_one : (core : Core) (every : Bool) (groups others : List Group) → AreGroups core every groups → AreGroups core every others → groups ≡ others
groups_one core every groups others one other =
    same_items IsGroupBefore groups others one_way one.sorted other.sorted (λ g has. (other.exact g).1 ((one.exact g).0 has)) (λ g has. (one.exact g).1 ((other.exact g).0 has))

parts_one : (core : Core) (buffers reached leaked reached' leaked' : List Buffer) → AreParted core buffers reached leaked → AreParted core buffers reached' leaked' → (reached ≡ reached') × (leaked ≡ leaked')
parts_one core [] reached leaked reached' leaked' one other = (one.0 ∙ sym other.0, one.1 ∙ sym other.1)
parts_one core (b ∷ buffers) reached leaked reached' leaked' (inl here) (inl there) =
    let rest = parts_one core buffers here.0 leaked there.0 leaked' here.3 there.3 in
    (here.1 ∙ ap (λ (bs : List Buffer). b ∷ bs) rest.0 ∙ sym there.1, rest.1)
parts_one core (b ∷ buffers) reached leaked reached' leaked' (inl here) (inr there) = absurd (there.2.1 here.2)
parts_one core (b ∷ buffers) reached leaked reached' leaked' (inr here) (inl there) = absurd (here.2.1 there.2)
parts_one core (b ∷ buffers) reached leaked reached' leaked' (inr here) (inr there) =
    let rest = parts_one core buffers reached here.0 reached' there.0 here.3 there.3 in
    (rest.0, here.1 ∙ ap (λ (bs : List Buffer). b ∷ bs) rest.1 ∙ sym there.1)

-- ---- texts

users_one : (core : Core) (every : Bool) (text other : List ℕ) → TellsUsers core every text → TellsUsers core every other → text ≡ other
users_one core every text other one two =
    one.told ∙ ap (flat_map group_lines) (groups_one core every one.groups two.groups one.are two.are) ∙ sym two.told

leaks_one : (core : Core) (text other : List ℕ) → TellsLeaks core text → TellsLeaks core other → text ≡ other
leaks_one core text other one two =
    let same = parts_one core (buffers_of core) one.reached one.leaked two.reached two.leaked one.are two.are in
    one.told ∙ ap (λ (bs : List Buffer). leaks_text core bs one.leaked) same.0 ∙ ap (leaks_text core two.reached) same.1 ∙ sym two.told

pub answers_one : (core : Core) (dcmd : Dcmd) (text other : List ℕ) → IsAnswer core dcmd text → IsAnswer core dcmd other → text ≡ other
answers_one core UmemCache text other one two = one ∙ sym two
answers_one core UmemVerify text other one two = one ∙ sym two
answers_one core UmemLog text other one two = one ∙ sym two
answers_one core UmemContents text other one two = one ∙ sym two
answers_one core (Umausers every) text other one two = users_one core every text other one two
answers_one core (Whatis address) text other one two = one ∙ sym two
answers_one core Findleaks text other one two = leaks_one core text other one two
answers_one core (WalkUmem cache) text other one two = one ∙ sym two
answers_one core (WalkFreemem cache) text other one two = one ∙ sym two
