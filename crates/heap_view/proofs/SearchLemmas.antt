-- A search by halves among buffers that rise, and how many steps it takes.
use Rattle.std.proofs.Common.{◌≡◌, ℕ, ◌+◌, ◌-◌, ◌*◌, ◌/◌, ◌<◌, ◌≤◌, ◌^◌, Bool, true, false, ltb, cond, List, length, get_or, Some, None, refl, sym, ap, subst, arith, inl, inr}
use Rattle.std.specs.List.{position, position_or_len}
use Rattle.std.specs.declared.cmp.Ordering.TheVariants.{Equal, Greater, Less}
use Rattle.std.proofs.lemmas.Bool.{cases_lt, le-ltb, lt-ltb}
use Rattle.std.proofs.lemmas.Bool.Decides.{nat_tests}
use Rattle.std.proofs.lemmas.List.{get_or_default}
use Rattle.std.proofs.lemmas.List.Sums.{position_or_len_is}
use Rattle.std.proofs.lemmas.Nat.{mul-le, pow-add}
use Rattle.std.proofs.Math.Nat.{mul_assoc}
use Rattle.heap_view.specs.declared.buffer.Buffer.{Buffer}
use Rattle.heap_view.specs.Points.{AreBuffersApart, place_of_word, points_to}
use Rattle.heap_view.specs.Search.{order_of}

-- what a comparison says
equal_has : (b : Buffer) (address : ℕ) → order_of b address ≡ Equal → points_to address b ≡ true
equal_has b address e = by_tests (ltb address b.address) (ltb address (b.address + b.size)) refl refl e
  where
    by_tests : (low high : Bool) → low ≡ ltb address b.address → high ≡ ltb address (b.address + b.size) → cond low Greater (cond high Equal Less) ≡ Equal → points_to address b ≡ true
    by_tests true high p q e = absurd cc
    by_tests false true p q e = grind (arith, nat_tests)
    by_tests false false p q e = absurd cc

less_ends : (b : Buffer) (address : ℕ) → order_of b address ≡ Less → b.address + b.size ≤ address
less_ends b address e = by_tests (ltb address b.address) (ltb address (b.address + b.size)) refl refl e
  where
    by_tests : (low high : Bool) → low ≡ ltb address b.address → high ≡ ltb address (b.address + b.size) → cond low Greater (cond high Equal Less) ≡ Less → b.address + b.size ≤ address
    by_tests true high p q e = absurd cc
    by_tests false true p q e = absurd cc
    by_tests false false p q e = grind (arith, nat_tests)

greater_begins : (b : Buffer) (address : ℕ) → order_of b address ≡ Greater → address < b.address
greater_begins b address e = by_tests (ltb address b.address) (ltb address (b.address + b.size)) refl refl e
  where
    by_tests : (low high : Bool) → low ≡ ltb address b.address → high ≡ ltb address (b.address + b.size) → cond low Greater (cond high Equal Less) ≡ Greater → address < b.address
    by_tests true high p q e = grind (arith, nat_tests)
    by_tests false true p q e = absurd cc
    by_tests false false p q e = absurd cc

ends_before : (b : Buffer) (address : ℕ) → b.address + b.size ≤ address → points_to address b ≡ false
ends_before b address le = grind (arith, nat_tests)

begins_behind : (b : Buffer) (address : ℕ) → address < b.address → points_to address b ≡ false
begins_behind b address lt = grind (arith, nat_tests)

-- no buffer below low and none from high on has the address, and the steps that were taken halved what is left
pub record IsSearching (buffers : List Buffer) (address low high taken : ℕ) : Type 0 where
  pub ordered : low ≤ high
  pub within : high ≤ length buffers
  pub below : (k : ℕ) (d : Buffer) → k < low → points_to address (get_or buffers k d) ≡ false
  pub above : (k : ℕ) (d : Buffer) → high ≤ k → k < length buffers → points_to address (get_or buffers k d) ≡ false
  pub halved : 2 ^ taken * (high - low) ≤ length buffers
  pub bound : 2 ^ taken ≤ 2 * length buffers + 1

pub starts : (buffers : List Buffer) (address : ℕ) → IsSearching buffers address 0 (length buffers) 0
starts buffers address = record {
  ordered = omega arith;
  within = omega arith;
  below = λ k d lt. absurd (omega arith);
  above = λ k d le lt. absurd (omega arith);
  halved = omega arith;
  bound = omega arith;
}

one_step : (taken rest left n : ℕ) → 2 * rest ≤ left → 1 ≤ left → 2 ^ taken * left ≤ n → (2 ^ (taken + 1) * rest ≤ n) × (2 ^ (taken + 1) ≤ 2 * n + 1)
one_step taken rest left n half some le =
    let more : 2 ^ (taken + 1) ≡ 2 ^ taken * 2 = pow-add 2 taken 1 in
    let row : 2 ^ taken * 2 * rest ≡ 2 ^ taken * (2 * rest) = mul_assoc (2 ^ taken) 2 rest in
    let fits : 2 ^ taken * (2 * rest) ≤ 2 ^ taken * left = mul-le (2 ^ taken) (2 * rest) (2 ^ taken) left (omega arith) half in
    let one : 2 ^ taken * 1 ≤ 2 ^ taken * left = mul-le (2 ^ taken) 1 (2 ^ taken) left (omega arith) some in
    (subst (λ (p : ℕ). p * rest ≤ n) (sym more) (subst (λ (m : ℕ). m ≤ n) (sym row) (omega (arith, fits, le))), omega (arith, more, one, le))

-- the middle buffer stands below the address
pub goes_up : (buffers : List Buffer) (address low high taken middle : ℕ) (here : Buffer) → AreBuffersApart buffers → IsSearching buffers address low high taken → low < high → middle ≡ low + (high - low) / 2
    → here ≡ get_or buffers middle here → order_of here address ≡ Less → IsSearching buffers address (middle + 1) high (taken + 1)
goes_up buffers address low high taken middle here apart is lt mid at less =
    let end : (get_or buffers middle here).address + (get_or buffers middle here).size ≤ address = subst (λ (b : Buffer). b.address + b.size ≤ address) at (less_ends here address less) in
    let inside : middle < high = omega (arith, mid) in
    let step = one_step taken (high - (middle + 1)) (high - low) (length buffers) (omega (arith, mid)) (omega arith) is.halved in
    record {
      ordered = omega arith;
      within = is.within;
      below = λ k d before. elim (cases_lt k middle) [
        | inl lower ↦
            let last : (get_or buffers middle d).address ≤ address = subst (λ (b : Buffer). b.address ≤ address) (get_or_default buffers middle here d (omega (arith, is.within))) (omega arith) in
            ends_before (get_or buffers k d) address (omega (arith, apart k middle d lower (omega (arith, is.within)), last))
        | inr le ↦
            let same : k ≡ middle = omega arith in
            subst (λ (n : ℕ). points_to address (get_or buffers n d) ≡ false) (sym same) (subst (λ (b : Buffer). points_to address b ≡ false) (get_or_default buffers middle here d (omega (arith, is.within))) (ends_before (get_or buffers middle here) address end))
      ];
      above = is.above;
      halved = step.0;
      bound = step.1;
    }

-- it stands above
pub goes_down : (buffers : List Buffer) (address low high taken middle : ℕ) (here : Buffer) → AreBuffersApart buffers → IsSearching buffers address low high taken → low < high → middle ≡ low + (high - low) / 2
    → here ≡ get_or buffers middle here → order_of here address ≡ Greater → IsSearching buffers address low middle (taken + 1)
goes_down buffers address low high taken middle here apart is lt mid at greater =
    let begins : address < (get_or buffers middle here).address = subst (λ (b : Buffer). address < b.address) at (greater_begins here address greater) in
    let inside : middle < high = omega (arith, mid) in
    let step = one_step taken (middle - low) (high - low) (length buffers) (omega (arith, mid)) (omega arith) is.halved in
    record {
      ordered = omega (arith, mid);
      within = omega (arith, is.within);
      below = is.below;
      above = λ k d le within. elim (cases_lt middle k) [
        | inl upper ↦
            let first : address < (get_or buffers middle d).address = subst (λ (b : Buffer). address < b.address) (get_or_default buffers middle here d (omega arith)) begins in
            begins_behind (get_or buffers k d) address (omega (arith, apart middle k d upper within, first))
        | inr le' ↦
            let same : k ≡ middle = omega arith in
            subst (λ (n : ℕ). points_to address (get_or buffers n d) ≡ false) (sym same) (subst (λ (b : Buffer). points_to address b ≡ false) (get_or_default buffers middle here d (omega (arith, is.within))) (begins_behind (get_or buffers middle here) address begins))
      ];
      halved = step.0;
      bound = step.1;
    }

place_at : (p : Buffer → Bool) (xs : List Buffer) (i : ℕ) → position_or_len p xs ≡ i → i < length xs → position p xs ≡ Some i
place_at p xs i e lt =
    let found : ltb (position_or_len p xs) (length xs) ≡ true = lt-ltb _ _ (omega arith) in
    rw found (ap (λ (n : ℕ). Some n) e)

place_none : (p : Buffer → Bool) (xs : List Buffer) → position_or_len p xs ≡ length xs → position p xs ≡ None
place_none p xs e =
    let past : ltb (position_or_len p xs) (length xs) ≡ false = le-ltb _ _ (omega arith) in
    rw past refl

-- the buffer that has the address is the first that does, since no two do
pub found_here : (buffers : List Buffer) (address low high taken middle : ℕ) (here : Buffer) → AreBuffersApart buffers → IsSearching buffers address low high taken → low < high → middle ≡ low + (high - low) / 2
    → here ≡ get_or buffers middle here → order_of here address ≡ Equal → place_of_word address buffers ≡ Some middle
found_here buffers address low high taken middle here apart is lt mid at equal =
    let has : points_to address here ≡ true = equal_has here address equal in
    let begins : here.address ≤ address = grind (arith, nat_tests) in
    let inside : middle < length buffers = omega (arith, mid, is.within) in
    place_at (points_to address) buffers middle (position_or_len_is (points_to address) buffers middle here (omega arith)
    (λ k before. ends_before (get_or buffers k here) address (omega (arith, apart k middle here before inside, ap (λ (b : Buffer). b.address) at)))
    (λ within. subst (λ (b : Buffer). points_to address b ≡ true) at has)) inside

pub found_nowhere : (buffers : List Buffer) (address low high taken : ℕ) → IsSearching buffers address low high taken → high ≤ low → place_of_word address buffers ≡ None
found_nowhere buffers address low high taken is le =
    place_none (points_to address) buffers (position_or_len_is (points_to address) buffers (length buffers) no_buffer (omega arith)
    (λ k before. elim (cases_lt k low) [ inl lower ↦ is.below k no_buffer lower | inr upper ↦ is.above k no_buffer (omega arith) before ])
    (λ within. absurd (omega arith)))
  where
    no_buffer : Buffer
    no_buffer = record { address = 0; size = 0; cache = None; chunk = None }

-- one step more, and the last one
pub last_step : (buffers : List Buffer) (address low high taken : ℕ) → IsSearching buffers address low high taken → low < high → 2 ^ (taken + 1) ≤ 2 * length buffers + 1
last_step buffers address low high taken is lt = (one_step taken 0 (high - low) (length buffers) (omega arith) (omega arith) is.halved).1
