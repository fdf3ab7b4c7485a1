-- The sums of the usages of a core, sorted, are its groups.
use Rattle.std.proofs.Common.{◌≡◌, ℕ, ◌+◌, ◌*◌, ◌<◌, Bool, true, false, cond, eqb, List, [], ◌∷◌, length, get_or, map, filter, Some, None, true≢false, zero-add, refl, sym, ap, subst, ◌∙◌, arith, inl, inr}
use Rattle.std.specs.Cmp.{IsStrictWeakOrder, IsTotalOrder, back_total, nat_cmp_total, on_total, then_total}
use Rattle.std.specs.Cmp.Lexicographic.{nat_list_cmp_total}
use Rattle.std.specs.List.{AllPairs, Contains, IsDistinct}
use Rattle.std.specs.List.Sorted.{IsPermutation, IsSorted}
use Rattle.std.specs.Map.{keys_of, lookup}
use Rattle.std.specs.Ordering.{is_lt, ordering_reverse, ordering_then}
use Rattle.std.specs.declared.cmp.Ordering.{Ordering}
use Rattle.std.specs.declared.cmp.Ordering.TheVariants.{Equal, Greater, Less}
use Rattle.std.proofs.lemmas.List.{get_or-map, length-map}
use Rattle.std.proofs.lemmas.List.Kept.{AllPairs-filter}
use Rattle.std.proofs.lemmas.List.MinMax.{ranks_by}
use Rattle.std.proofs.lemmas.List.Sorted.{Contains-permutation, IsPermutation-sym, sorted_far}
use Rattle.std.proofs.lemmas.Map.Keys.{IsDistinct-IsPermutation, IsDistinct-from_apart, apart_from_distinct}
use Rattle.std.proofs.lemmas.Map.Lookups.{exact_bytes, exact_unsigned}
use Rattle.std.proofs.lemmas.Map.Views.{Contains-from_lookup, lookup-from_Contains}
use Rattle.umem_base.proofs.Lists.{Contains-here, Contains-there}
use Rattle.umem_base.proofs.OrderedLemmas.{Contains-cases, Contains-nil}
use Rattle.core_format.specs.declared.whole.Core.{Core}
use Rattle.umausers.specs.declared.group.Group.{Group}
use Rattle.umausers.specs.declared.sum.Sum.{Sum}
use Rattle.umausers.specs.declared.usage.Usage.{Usage}
use Rattle.umausers.specs.Groups.{AreGroups, IsGroup, IsGroupBefore, group_cmp, group_of, group_usage, is_asked_for}
use Rattle.umausers.specs.Tally.{HasSums, count_of_usage, is_same_usage, sum_in, sum_of_chunks}
use Rattle.umausers.specs.Usages.{usages_of}
use Rattle.umausers.proofs.UsageLemmas.{count_cons, not_zero, same_decides, same_equiv, same_is}

-- ---- the order

pub group_total : IsTotalOrder group_cmp
group_total =
    then_total (back_total (on_total (λ (g : Group). g.total) nat_cmp_total))
    (then_total (on_total (λ (g : Group). g.size) nat_cmp_total) (on_total (λ (g : Group). g.stack) nat_list_cmp_total))

pub group_ranks : IsStrictWeakOrder (λ x y. is_lt (group_cmp x y))
group_ranks = ranks_by group_total (λ (g : Group). g)

then_equal : (p q : Ordering) → ordering_then p q ≡ Equal → (p ≡ Equal) × (q ≡ Equal)
then_equal Less q e = (cc, cc)
then_equal Equal q e = (refl, e)
then_equal Greater q e = (cc, cc)

-- groups that tie are of one usage
tied_usage : (g h : Group) → group_cmp g h ≡ Equal → is_same_usage (group_usage g) (group_usage h) ≡ true
tied_usage g h e =
    let first = then_equal _ _ e in
    let second = then_equal _ _ first.1 in
    let size : g.size ≡ h.size = exact_unsigned g.size h.size second.0 in
    let stack : g.stack ≡ h.stack = exact_bytes g.stack h.stack second.1 in
    let make : ℕ → List ℕ → Usage = λ n s. record { size = n; stack = s } in
    (same_decides (group_usage g) (group_usage h)).1 (ap (λ (n : ℕ). make n g.stack) size ∙ ap (λ (s : List ℕ). make h.size s) stack)

-- ---- groups of different usages

is_of_one_usage : Group → Group → Bool
is_of_one_usage g h = is_same_usage (group_usage g) (group_usage h)

no_entry : Usage × Sum
no_entry = (record { size = 0; stack = [] }, record { total = 0; count = 0 })

-- groups of entries with different keys are of different usages
groups_differ : (entries : List (Usage × Sum)) → IsDistinct is_same_usage (keys_of entries) → AllPairs (λ g h. is_of_one_usage g h ≡ false) (map group_of entries)
unfolding is_of_one_usage
groups_differ entries distinct = λ i j d lt within.
    let long = length-map entries group_of in
    let li : i < length entries = omega (arith, long) in
    let lj : j < length entries = omega (arith, long) in
    let keys = length-map entries (λ (e : Usage × Sum). e.0) in
    let apart = apart_from_distinct is_same_usage (keys_of entries) i j (no_entry.0) distinct lt (omega (arith, keys)) in
    let at = get_or-map (λ (e : Usage × Sum). e.0) entries i no_entry no_entry.0 li in
    let behind = get_or-map (λ (e : Usage × Sum). e.0) entries j no_entry no_entry.0 lj in
    rw (get_or-map group_of entries i no_entry d li, get_or-map group_of entries j no_entry d lj)
    (sym (ap (λ (u : Usage). is_same_usage u (get_or (keys_of entries) j no_entry.0)) at ∙ ap (λ (u : Usage). is_same_usage (get_or entries i no_entry).0 u) behind) ∙ apart)

flips : (g h : Group) → is_of_one_usage g h ≡ is_of_one_usage h g
unfolding is_of_one_usage
flips g h = same_equiv.symm (group_usage g) (group_usage h)

-- ---- the order of the groups

-- what is not behind and of another usage is before
before : (g h : Group) (o : Ordering) → group_cmp g h ≡ o → is_lt (group_cmp h g) ≡ false → is_of_one_usage g h ≡ false → IsGroupBefore g h
unfolding is_of_one_usage
before g h Less e low apart = e
before g h Equal e low apart = absurd (true≢false (sym (tied_usage g h e) ∙ apart))
before g h Greater e low apart =
    let back : group_cmp h g ≡ Less = group_total.antisymm h g ∙ ap ordering_reverse e in
    absurd (true≢false (sym (ap is_lt back) ∙ low))

sorted_strictly : (groups : List Group) → IsSorted group_cmp groups → IsDistinct is_of_one_usage groups → AllPairs IsGroupBefore groups
sorted_strictly groups sorted distinct = λ i j d lt within.
    before (get_or groups i d) (get_or groups j d) (group_cmp (get_or groups i d) (get_or groups j d)) refl
    (sorted_far (λ x y. is_lt (group_cmp x y)) group_ranks groups sorted i j d (omega arith) within)
    (apart_from_distinct is_of_one_usage groups i j d distinct lt within)

-- ---- which groups there are

Contains-filtered : {X : Type 0} (p : X → Bool) (xs : List X) (x : X) → Contains xs x → p x ≡ true → Contains (filter p xs) x
Contains-filtered p [] x has passes = Contains-nil x has
Contains-filtered {X} p (y ∷ ys) x has passes = by_test (p y) refl (λ later. Contains-filtered p ys x later passes)
  where
    by_test : (b : Bool) → p y ≡ b → (Contains ys x → Contains (filter p ys) x) → Contains (cond b (y ∷ filter p ys) (filter p ys)) x
    by_test true e rest = elim (Contains-cases y x ys has) [
      | inl same ↦ subst (Contains (y ∷ filter p ys)) same (Contains-here y (filter p ys))
      | inr later ↦ Contains-there y x (filter p ys) (rest later)
    ]
    by_test false e rest = elim (Contains-cases y x ys has) [
      | inl same ↦ absurd (true≢false (sym (subst (λ z. p z ≡ true) (sym same) passes) ∙ e))
      | inr later ↦ rest later
    ]

from_filtered : {X : Type 0} (p : X → Bool) (xs : List X) (x : X) → Contains (filter p xs) x → Contains xs x × (p x ≡ true)
from_filtered p [] x has = Contains-nil x has
from_filtered {X} p (y ∷ ys) x has = by_test (p y) refl has (λ later. from_filtered p ys x later)
  where
    by_test : (b : Bool) → p y ≡ b → Contains (cond b (y ∷ filter p ys) (filter p ys)) x → (Contains (filter p ys) x → Contains ys x × (p x ≡ true)) → Contains (y ∷ ys) x × (p x ≡ true)
    by_test true e has rest = elim (Contains-cases y x (filter p ys) has) [
      | inl same ↦ (subst (Contains (y ∷ ys)) same (Contains-here y ys), subst (λ z. p z ≡ true) same e)
      | inr later ↦ let more = rest later in (Contains-there y x ys more.0, more.1)
    ]
    by_test false e has rest = let more = rest has in (Contains-there y x ys more.0, more.1)

Contains-mapped : {X Y : Type 0} (f : X → Y) (xs : List X) (x : X) → Contains xs x → Contains (map f xs) (f x)
Contains-mapped f [] x has = Contains-nil x has
Contains-mapped {X} {Y} f (y ∷ ys) x has = elim (Contains-cases y x ys has) [
  | inl same ↦ subst (λ z. Contains (map f (y ∷ ys)) (f z)) same (Contains-here (f y) (map f ys))
  | inr later ↦ Contains-there (f y) (f x) (map f ys) (Contains-mapped f ys x later)
]

from_mapped : {X Y : Type 0} (f : X → Y) (xs : List X) (y : Y) → Contains (map f xs) y → (x : X) × Contains xs x × (f x ≡ y)
from_mapped f [] y has = Contains-nil y has
from_mapped f (x ∷ xs) y has = elim (Contains-cases (f x) y (map f xs) has) [
  | inl same ↦ (x, Contains-here x xs, same)
  | inr later ↦ let rest = from_mapped f xs y later in (rest.0, Contains-there x rest.0 xs rest.1, rest.2)
]

-- a usage that is counted is one of the usages
used_from_count : (usages : List Usage) (u : Usage) → eqb (count_of_usage usages u) 0 ≡ false → Contains usages u
used_from_count [] u e = absurd (true≢false e)
used_from_count (v ∷ vs) u e = by_test (is_same_usage u v) refl (λ rest. used_from_count vs u rest)
  where
    by_test : (b : Bool) → is_same_usage u v ≡ b → (eqb (count_of_usage vs u) 0 ≡ false → Contains vs u) → Contains (v ∷ vs) u
    by_test true same rest = subst (Contains (v ∷ vs)) (sym (same_is u v same)) (Contains-here v vs)
    by_test false other rest =
        let count : count_of_usage (v ∷ vs) u ≡ count_of_usage vs u = count_cons v vs u ∙ ap (λ (b : Bool). cond b 1 0 + count_of_usage vs u) other ∙ zero-add (count_of_usage vs u) in
        Contains-there v u vs (rest (sym (ap (λ (n : ℕ). eqb n 0) count) ∙ e))

-- a usage that is one of the usages is counted
counted_from_use : (usages : List Usage) (u : Usage) → Contains usages u → 0 < count_of_usage usages u
counted_from_use [] u has = Contains-nil u has
counted_from_use (v ∷ vs) u has = elim (Contains-cases v u vs has) [
  | inl same ↦
      let own : is_same_usage u v ≡ true = (same_decides u v).1 (sym same) in
      let count : count_of_usage (v ∷ vs) u ≡ 1 + count_of_usage vs u = count_cons v vs u ∙ ap (λ (b : Bool). cond b 1 0 + count_of_usage vs u) own in
      omega arith
  | inr later ↦ let rest = counted_from_use vs u later in subst (λ (n : ℕ). 0 < n) (sym (count_cons v vs u)) (by_test (is_same_usage u v) rest)
]
  where
    by_test : (b : Bool) → 0 < count_of_usage vs u → 0 < cond b 1 0 + count_of_usage vs u
    by_test true rest = let more : 0 < 1 + count_of_usage vs u = omega arith in more
    by_test false rest = let more : 0 < 0 + count_of_usage vs u = omega arith in more

-- what a sum says
some_sum : (usages : List Usage) (u : Usage) (sum : Sum) → sum_in usages u ≡ Some sum → (eqb (count_of_usage usages u) 0 ≡ false) × (sum_of_chunks (count_of_usage usages u) u.size ≡ sum)
some_sum usages u sum e = by_test (eqb (count_of_usage usages u) 0) refl e
  where
    by_test : (b : Bool) → eqb (count_of_usage usages u) 0 ≡ b → cond b None (Some (sum_of_chunks (count_of_usage usages u) u.size)) ≡ Some sum → (eqb (count_of_usage usages u) 0 ≡ false) × (sum_of_chunks (count_of_usage usages u) u.size ≡ sum)
    by_test true z e = let never : true ≡ false = cc in absurd (true≢false never)
    by_test false z e = let same : sum_of_chunks (count_of_usage usages u) u.size ≡ sum = cc in (z, same)

sum_is : (usages : List Usage) (u : Usage) → 0 < count_of_usage usages u → sum_in usages u ≡ Some (sum_of_chunks (count_of_usage usages u) u.size)
sum_is usages u some = ap (λ (b : Bool). cond b None (Some (sum_of_chunks (count_of_usage usages u) u.size))) (not_zero (count_of_usage usages u) some)

-- an entry of the sums is a group of the core
group_from_entry : (core : Core) (every : Bool) (entries : List (Usage × Sum)) (group : Group) → HasSums (usages_of core) (λ u. lookup (is_same_usage u) entries) → IsDistinct is_same_usage (keys_of entries)
    → Contains (filter (is_asked_for every) (map group_of entries)) group → IsGroup core every group
group_from_entry core every entries group has distinct here =
    let listed = from_filtered (is_asked_for every) (map group_of entries) group here in
    let from = from_mapped group_of entries group listed.0 in
    let entry : Usage × Sum = from.0 in
    let looked : lookup (is_same_usage entry.0) entries ≡ Some entry.1 = lookup-from_Contains same_equiv entry.0 entry.1 entries distinct from.1 in
    let sum = some_sum (usages_of core) entry.0 entry.1 (sym (has entry.0) ∙ looked) in
    let made : IsGroup core every (group_of entry) = record {
      used = used_from_count (usages_of core) entry.0 sum.0;
      counted = sym (ap (λ (s : Sum). s.count) sum.1);
      summed = sym (ap (λ (s : Sum). s.total) sum.1) ∙ ap (λ (n : ℕ). n * (entry.0).size) (ap (λ (s : Sum). s.count) sum.1);
      listed = subst (λ (g : Group). is_asked_for every g ≡ true) (sym from.2) listed.1;
    } in
    subst (IsGroup core every) from.2 made

-- a group of the core is an entry of the sums
entry_from_group : (core : Core) (every : Bool) (entries : List (Usage × Sum)) (group : Group) → HasSums (usages_of core) (λ u. lookup (is_same_usage u) entries)
    → IsGroup core every group → Contains (filter (is_asked_for every) (map group_of entries)) group
entry_from_group core every entries group has is =
    let usage = group_usage group in
    let count = count_of_usage (usages_of core) usage in
    let sum : Sum = sum_of_chunks count usage.size in
    let looked : lookup (is_same_usage usage) entries ≡ Some sum = has usage ∙ sum_is (usages_of core) usage (counted_from_use (usages_of core) usage is.used) in
    let here : Contains entries (usage, sum) = Contains-from_lookup same_is usage sum entries looked in
    let total : sum.total ≡ group.total = sym (is.summed ∙ ap (λ (n : ℕ). n * group.size) is.counted) in
    let make : ℕ → ℕ → Group = λ t n. record { total = t; count = n; size = group.size; stack = group.stack } in
    let same : group_of (usage, sum) ≡ group = ap (λ (t : ℕ). make t count) total ∙ ap (λ (n : ℕ). make group.total n) (sym is.counted) in
    Contains-filtered (is_asked_for every) (map group_of entries) group (subst (Contains (map group_of entries)) same (Contains-mapped group_of entries (usage, sum) here)) is.listed

-- the sums of a core, each usage once, in groups that were sorted
pub are_groups : (core : Core) (every : Bool) (entries : List (Usage × Sum)) (groups sorted : List Group) → HasSums (usages_of core) (λ u. lookup (is_same_usage u) entries) → IsDistinct is_same_usage (keys_of entries)
    → groups ≡ filter (is_asked_for every) (map group_of entries) → IsPermutation groups sorted → IsSorted group_cmp sorted → AreGroups core every sorted
are_groups core every entries groups sorted has distinct e moves up =
    let apart : AllPairs (λ g h. is_of_one_usage g h ≡ false) groups = subst (AllPairs (λ g h. is_of_one_usage g h ≡ false)) (sym e) (AllPairs-filter (λ g h. is_of_one_usage g h ≡ false) (is_asked_for every) (map group_of entries) (groups_differ entries distinct)) in
    record {
      sorted = sorted_strictly sorted up (IsDistinct-IsPermutation is_of_one_usage flips groups sorted moves (IsDistinct-from_apart is_of_one_usage groups apart));
      exact = λ group. (
        λ here. group_from_entry core every entries group has distinct (subst (λ gs. Contains gs group) e (Contains-permutation sorted groups group (IsPermutation-sym groups sorted moves) here)),
        λ is. Contains-permutation groups sorted group moves (subst (λ gs. Contains gs group) (sym e) (entry_from_group core every entries group has is)),
      );
    }
