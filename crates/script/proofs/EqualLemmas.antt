-- Scripts that are equal say the same.
use Rattle.std.proofs.Common.{◌≡◌, ℕ, Bool, true, eqb, eq-eqb, List, [], ◌∷◌, map, ◌&&◌, Option, Some, None, refl, sym, ap, subst}
use Rattle.std.specs.Bool.{Decides}
use Rattle.std.specs.Option.{option_eq}
use Rattle.std.specs.Cmp.{unsigned_Decides}
use Rattle.std.specs.Cmp.Lexicographic.{pointwise, pointwise_decides, bytes_decides}
use Rattle.std.proofs.lemmas.Bool.{and_from, and_parts, eqb-true}
use Rattle.umem_base.specs.BoundedVec.{BoundedVec}
use Rattle.case_table.specs.declared.cache_def.CacheDef.{CacheDef}
use Rattle.case_table.specs.contracts.cache_def.CacheDefPartialEq.TheImpl as defs
use Rattle.script.specs.declared.operation.Op.{Op}
use Rattle.script.specs.declared.operation.Op.TheVariants.{Alloc, Zalloc, Free, CacheAlloc, CacheFree, Copy, Clear, Store, Link, Load, Reap}
use Rattle.script.specs.contracts.operation.OpPartialEq.TheImpl as ops
use Rattle.script.specs.declared.tree.Header.{Header}
use Rattle.script.specs.declared.tree.Script.{Script}
use Rattle.script.specs.declared.tree.Step.{Step}
use Rattle.script.specs.contracts.tree.StepPartialEq.TheImpl as steps
use Rattle.script.specs.Plan.{Turn, Plan, plan_of, turn_of, turns_of}

-- ---- tests that decide

both-Decides : {P Q : Type 0} (a b : Bool) → Decides a P → Decides b Q → Decides (a && b) (P × Q)
both-Decides a b h k = (λ e. let parts = and_parts a b e in (h.0 parts.0, k.0 parts.1), λ f. and_from a b (h.1 f.0) (k.1 f.1))

along-Decides : {P Q : Type 0} (a : Bool) → (P → Q) → (Q → P) → Decides a P → Decides a Q
along-Decides a f g h = (λ e. f (h.0 e), λ q. h.1 (g q))

head-equal : {X : Type 0} (x y : X) (xs ys : List X) → x ∷ xs ≡ y ∷ ys → x ≡ y
head-equal x y xs ys e = cc

tail-equal : {X : Type 0} (x y : X) (xs ys : List X) → x ∷ xs ≡ y ∷ ys → xs ≡ ys
tail-equal x y xs ys e = cc

-- lists are as equal as what is seen of their items
mapped-Decides : {X Y : Type 0} (E : X → X → Bool) (f : X → Y) → ((x y : X) → Decides (E x y) (f x ≡ f y)) → (xs ys : List X) → Decides (pointwise E xs ys) (map f xs ≡ map f ys)
mapped-Decides E f h [] [] = (λ e. refl, λ e. refl)
mapped-Decides E f h [] (y ∷ ys) = (λ e. absurd (cc e), λ e. absurd (cc e))
mapped-Decides E f h (x ∷ xs) [] = (λ e. absurd (cc e), λ e. absurd (cc e))
mapped-Decides E f h (x ∷ xs) (y ∷ ys) =
    along-Decides (E x y && pointwise E xs ys) (λ p. λ i. p.0 i ∷ p.1 i) (λ e. (head-equal (f x) (f y) (map f xs) (map f ys) e, tail-equal (f x) (f y) (map f xs) (map f ys) e))
    (both-Decides (E x y) (pointwise E xs ys) (h x y) (mapped-Decides E f h xs ys))

-- ---- operations

two_numbers : (a b d e : ℕ) → (eqb a d && eqb b e) ≡ true → (a ≡ d) × (b ≡ e)
two_numbers a b d e h = let parts = and_parts (eqb a d) (eqb b e) h in (eqb-true a d parts.0, eqb-true b e parts.1)

three_numbers : (a b k d e l : ℕ) → (eqb a d && (eqb b e && eqb k l)) ≡ true → (a ≡ d) × (b ≡ e) × (k ≡ l)
three_numbers a b k d e l h =
    let parts = and_parts (eqb a d) (eqb b e && eqb k l) h in
    let more = two_numbers b k e l parts.1 in
    (eqb-true a d parts.0, more.0, more.1)

two_itself : (a b : ℕ) → (eqb a a && eqb b b) ≡ true
two_itself a b = and_from (eqb a a) (eqb b b) (eq-eqb a a refl) (eq-eqb b b refl)

three_itself : (a b k : ℕ) → (eqb a a && (eqb b b && eqb k k)) ≡ true
three_itself a b k = and_from (eqb a a) (eqb b b && eqb k k) (eq-eqb a a refl) (two_itself b k)

op-itself : (x : Op) → (ops.ghosts).eq x x ≡ true
op-itself (Alloc a b) = two_itself a b
op-itself (Zalloc a b) = two_itself a b
op-itself (Free a b) = two_itself a b
op-itself (CacheAlloc a b) = two_itself a b
op-itself (CacheFree a b) = two_itself a b
op-itself (Copy a b) = two_itself a b
op-itself (Clear a) = eq-eqb a a refl
op-itself (Store a b bytes) = and_from (eqb a a) _ (eq-eqb a a refl) (and_from (eqb b b) _ (eq-eqb b b refl) ((bytes_decides bytes bytes).1 refl))
op-itself (Link a b k) = three_itself a b k
op-itself (Load a b k) = three_itself a b k
op-itself Reap = refl

op-equal : (x y : Op) → (ops.ghosts).eq x y ≡ true → x ≡ y
op-equal (Alloc a b) (Alloc d e) h = let same = two_numbers a b d e h in λ i. Alloc (same.0 i) (same.1 i)
op-equal (Zalloc a b) (Zalloc d e) h = let same = two_numbers a b d e h in λ i. Zalloc (same.0 i) (same.1 i)
op-equal (Free a b) (Free d e) h = let same = two_numbers a b d e h in λ i. Free (same.0 i) (same.1 i)
op-equal (CacheAlloc a b) (CacheAlloc d e) h = let same = two_numbers a b d e h in λ i. CacheAlloc (same.0 i) (same.1 i)
op-equal (CacheFree a b) (CacheFree d e) h = let same = two_numbers a b d e h in λ i. CacheFree (same.0 i) (same.1 i)
op-equal (Copy a b) (Copy d e) h = let same = two_numbers a b d e h in λ i. Copy (same.0 i) (same.1 i)
op-equal (Clear a) (Clear d) h = ap Clear (eqb-true a d h)
op-equal (Store a b bytes) (Store d e other) h =
    let first = and_parts (eqb a d) (eqb b e && pointwise eqb bytes other) h in
    let second = and_parts (eqb b e) (pointwise eqb bytes other) first.1 in
    λ i. Store (eqb-true a d first.0 i) (eqb-true b e second.0 i) ((bytes_decides bytes other).0 second.1 i)
op-equal (Link a b k) (Link d e l) h = let same = three_numbers a b k d e l h in λ i. Link (same.0 i) (same.1 i) (same.2 i)
op-equal (Load a b k) (Load d e l) h = let same = three_numbers a b k d e l h in λ i. Load (same.0 i) (same.1 i) (same.2 i)
op-equal Reap Reap h = refl
op-equal x y h = absurd (cc h)

op-Decides : (x y : Op) → Decides ((ops.ghosts).eq x y) (x ≡ y)
op-Decides x y = (op-equal x y, λ e. subst (λ (z : Op). (ops.ghosts).eq x z ≡ true) e (op-itself x))

-- ---- steps and caches

step-Decides : (s t : Step) → Decides ((steps.ghosts).eq s t) (turn_of s ≡ turn_of t)
step-Decides s t =
    along-Decides ((steps.ghosts).eq s t) (λ p. λ i. record { thread = p.0 i; call = record { op = p.1.0 i; frames = p.1.1 i } })
    (λ e. (ap (λ (turn : Turn). turn.thread) e, (ap (λ (turn : Turn). turn.call.op) e, ap (λ (turn : Turn). turn.call.frames) e)))
    (both-Decides (eqb s.thread t.thread) ((ops.ghosts).eq s.op t.op && pointwise eqb s.stack.items t.stack.items) (unsigned_Decides s.thread t.thread) (both-Decides ((ops.ghosts).eq s.op t.op) (pointwise eqb s.stack.items t.stack.items) (op-Decides s.op t.op) (bytes_decides s.stack.items t.stack.items)))

unsome : (x y : ℕ) → Some x ≡ Some y → x ≡ y
unsome x y e = cc

option-Decides : (x y : Option ℕ) → Decides (option_eq eqb x y) (x ≡ y)
option-Decides None None = (λ e. refl, λ e. refl)
option-Decides None (Some y) = (λ e. absurd (cc e), λ e. absurd (cc e))
option-Decides (Some x) None = (λ e. absurd (cc e), λ e. absurd (cc e))
option-Decides (Some x) (Some y) = (λ e. ap Some (eqb-true x y e), λ e. eq-eqb x y (unsome x y e))

def-Decides : (x y : CacheDef) → Decides (defs.eq-value.it x y) (x ≡ y)
def-Decides x y =
    along-Decides (defs.eq-value.it x y) (λ p. λ i. record { name = p.0 i; size = p.1.0 i; align = p.1.1.0 i; ctor = p.1.1.1 i })
    (λ e. (ap (λ (d : CacheDef). d.name) e, (ap (λ (d : CacheDef). d.size) e, (ap (λ (d : CacheDef). d.align) e, ap (λ (d : CacheDef). d.ctor) e))))
    (both-Decides (pointwise eqb x.name y.name) (eqb x.size y.size && (eqb x.align y.align && option_eq eqb x.ctor y.ctor)) (bytes_decides x.name y.name)
    (both-Decides (eqb x.size y.size) (eqb x.align y.align && option_eq eqb x.ctor y.ctor) (unsigned_Decides x.size y.size)
    (both-Decides (eqb x.align y.align) (option_eq eqb x.ctor y.ctor) (unsigned_Decides x.align y.align) (option-Decides x.ctor y.ctor))))

-- ---- scripts

phase-Decides : (v w : BoundedVec Step) → Decides (pointwise (steps.ghosts).eq v.items w.items) (turns_of v ≡ turns_of w)
phase-Decides v w = mapped-Decides (steps.ghosts).eq turn_of step-Decides v.items w.items

header-Decides : (a b : Header)
    → Decides (eqb a.version b.version && (eqb a.cpus b.cpus && (eqb a.threads b.threads && pointwise defs.eq-value.it a.caches b.caches))) (a ≡ b)
header-Decides a b =
    along-Decides (eqb a.version b.version && (eqb a.cpus b.cpus && (eqb a.threads b.threads && pointwise defs.eq-value.it a.caches b.caches)))
    (λ p. λ i. record { version = p.0 i; cpus = p.1.0 i; threads = p.1.1.0 i; caches = p.1.1.1 i })
    (λ e. (ap (λ (h : Header). h.version) e, (ap (λ (h : Header). h.cpus) e, (ap (λ (h : Header). h.threads) e, ap (λ (h : Header). h.caches) e))))
    (both-Decides (eqb a.version b.version) (eqb a.cpus b.cpus && (eqb a.threads b.threads && pointwise defs.eq-value.it a.caches b.caches)) (unsigned_Decides a.version b.version)
    (both-Decides (eqb a.cpus b.cpus) (eqb a.threads b.threads && pointwise defs.eq-value.it a.caches b.caches) (unsigned_Decides a.cpus b.cpus)
    (both-Decides (eqb a.threads b.threads) (pointwise defs.eq-value.it a.caches b.caches) (unsigned_Decides a.threads b.threads) (pointwise_decides def-Decides a.caches b.caches))))

-- what `==` answers at two scripts
pub script-Decides : (a b : Script) (r : Bool)
    → r ≡ ((eqb a.header.version b.header.version && (eqb a.header.cpus b.header.cpus && (eqb a.header.threads b.header.threads && pointwise defs.eq-value.it a.header.caches b.header.caches)))
    && pointwise (λ (v w : BoundedVec Step). pointwise (steps.ghosts).eq v.items w.items) a.phases b.phases)
    → Decides r (plan_of a ≡ plan_of b)
script-Decides a b r told =
    subst (λ (t : Bool). Decides t (plan_of a ≡ plan_of b)) (sym told)
    (along-Decides ((eqb a.header.version b.header.version && (eqb a.header.cpus b.header.cpus && (eqb a.header.threads b.header.threads && pointwise defs.eq-value.it a.header.caches b.header.caches)))
    && pointwise (λ (v w : BoundedVec Step). pointwise (steps.ghosts).eq v.items w.items) a.phases b.phases)
    (λ p. λ i. record { header = p.0 i; phases = p.1 i }) (λ e. (ap (λ (plan : Plan). plan.header) e, ap (λ (plan : Plan). plan.phases) e))
    (both-Decides (eqb a.header.version b.header.version && (eqb a.header.cpus b.header.cpus && (eqb a.header.threads b.header.threads && pointwise defs.eq-value.it a.header.caches b.header.caches)))
    (pointwise (λ (v w : BoundedVec Step). pointwise (steps.ghosts).eq v.items w.items) a.phases b.phases)
    (header-Decides a.header b.header) (mapped-Decides (λ (v w : BoundedVec Step). pointwise (steps.ghosts).eq v.items w.items) turns_of phase-Decides a.phases b.phases)))
