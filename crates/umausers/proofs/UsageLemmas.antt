-- Usages are compared by value, and the bytes of all of them have room in 64 bits.
use Rattle.std.proofs.Common.{◌≡◌, ℕ, suc, ◌+◌, ◌*◌, ◌^◌, ◌<◌, ◌≤◌, Bool, true, false, cond, eqb, List, [], ◌∷◌, Option, Some, None, Decides, refl, sym, ap, subst, ◌∙◌, arith}
use Rattle.std.specs.Cmp.{IsEquivalence, and_equiv, nat_eq_equiv, on_equiv}
use Rattle.std.specs.Cmp.Lexicographic.{bytes_decides, nat_list_eq_equiv, pointwise}
use Rattle.std.specs.List.{All, cons_option, filter_map, sum_by}
use Rattle.std.specs.Option.{option_map}
use Rattle.std.specs.Prelude.{option_and_then}
use Rattle.std.proofs.lemmas.Bool.{and_parts, eq-eqb, eqb-true}
use Rattle.std.proofs.lemmas.Bool.Decides.{nat_tests}
use Rattle.std.proofs.lemmas.List.Elements.{All-tail}
use Rattle.std.proofs.lemmas.List.Sums.{sum_by-cons}
use Rattle.core_format.specs.declared.items.AuditItem.{AuditItem}
use Rattle.core_format.specs.declared.whole.Core.{Core}
use Rattle.heap_view.specs.declared.buffer.Buffer.{Buffer}
use Rattle.heap_view.specs.Points.{AreBuffersApart, FitsAddresses}
use Rattle.umausers.specs.declared.usage.Usage.{Usage}
use Rattle.umausers.specs.Tally.{count_of_usage, is_same_usage}
use Rattle.umausers.specs.Usages.{audit_of_chunk, usage_by, usage_of}

-- usages that are the same are one
pub same_is : (u v : Usage) → is_same_usage u v ≡ true → u ≡ v
same_is u v e =
    let make : ℕ → List ℕ → Usage = λ n s. record { size = n; stack = s } in
    let parts = and_parts (eqb u.size v.size) (pointwise eqb u.stack v.stack) e in
    let size : u.size ≡ v.size = eqb-true u.size v.size parts.0 in
    let stack : u.stack ≡ v.stack = (bytes_decides u.stack v.stack).0 parts.1 in
    ap (λ (n : ℕ). make n u.stack) size ∙ ap (λ (s : List ℕ). make v.size s) stack

same_itself : (u : Usage) → is_same_usage u u ≡ true
same_itself u = let size = eq-eqb u.size u.size refl in let stack = (bytes_decides u.stack u.stack).1 refl in rw (size, stack) refl

pub same_decides : (u v : Usage) → Decides (is_same_usage u v) (u ≡ v)
same_decides u v = (same_is u v, λ e. subst (λ (w : Usage). is_same_usage u w ≡ true) e (same_itself u))

pub same_equiv : IsEquivalence is_same_usage
same_equiv = and_equiv (on_equiv (λ (u : Usage). u.size) nat_eq_equiv) (on_equiv (λ (u : Usage). u.stack) nat_list_eq_equiv)

-- buffers that stand apart have no more bytes than there are addresses
pub buffers_total : (low : ℕ) (buffers : List Buffer) → low < 2 ^ 64 → All (λ (b : Buffer). low ≤ b.address) buffers → AreBuffersApart buffers → All FitsAddresses buffers → low + sum_by (λ (b : Buffer). b.size) buffers < 2 ^ 64
buffers_total low [] small above apart fit = omega arith
buffers_total low (b ∷ bs) small above apart fit =
    let rest = buffers_total (b.address + b.size) bs (fit 0 b (omega arith)) (λ k d lt. apart 0 (suc k) d (omega arith) (omega arith))
    (λ i j d lt within. apart (suc i) (suc j) d (omega arith) (omega arith)) (All-tail FitsAddresses b bs fit) in
    let all = sum_by-cons (λ (c : Buffer). c.size) b bs in
    omega (arith, rest, above 0 b (omega arith))

-- a usage has the size of its buffer
pub usage_size : (core : Core) (b : Buffer) (u : Usage) → usage_of core b ≡ Some u → u.size ≡ b.size
usage_size core b u e = by_chunk b.chunk e
  where
    by_audit : (a : Option AuditItem) → option_map (usage_by b) a ≡ Some u → u.size ≡ b.size
    by_audit None e = cc
    by_audit (Some audit) e = let same : usage_by b audit ≡ u = cc in sym (ap (λ (v : Usage). v.size) same)

    by_chunk : (o : Option ℕ) → option_and_then (λ chunk. option_map (usage_by b) (audit_of_chunk core chunk)) o ≡ Some u → u.size ≡ b.size
    by_chunk None e = cc
    by_chunk (Some chunk) e = by_audit (audit_of_chunk core chunk) e

-- the usages have no more bytes than the buffers
pub usages_total : (core : Core) (buffers : List Buffer) → sum_by (λ (u : Usage). u.size) (filter_map (usage_of core) buffers) ≤ sum_by (λ (b : Buffer). b.size) buffers
usages_total core [] = omega arith
usages_total core (b ∷ bs) = by_usage (usage_of core b) refl (usages_total core bs)
  where
    by_usage : (o : Option Usage) → usage_of core b ≡ o → sum_by (λ (u : Usage). u.size) (filter_map (usage_of core) bs) ≤ sum_by (λ (b : Buffer). b.size) bs
        → sum_by (λ (u : Usage). u.size) (cons_option o (filter_map (usage_of core) bs)) ≤ sum_by (λ (b : Buffer). b.size) (b ∷ bs)
    by_usage None e rest = let all = sum_by-cons (λ (c : Buffer). c.size) b bs in let same : sum_by (λ (u : Usage). u.size) (filter_map (usage_of core) bs) ≤ sum_by (λ (c : Buffer). c.size) (b ∷ bs) = omega arith in same
    by_usage (Some u) e rest =
        let us = filter_map (usage_of core) bs in
        let all = sum_by-cons (λ (c : Buffer). c.size) b bs in
        let more = sum_by-cons (λ (v : Usage). v.size) u us in
        let same : sum_by (λ (v : Usage). v.size) (u ∷ us) ≤ sum_by (λ (c : Buffer). c.size) (b ∷ bs) = omega (arith, usage_size core b u e) in
        same

pub not_zero : (n : ℕ) → 0 < n → eqb n 0 ≡ false
not_zero n some = grind (arith, nat_tests)

-- a usage in front is counted where it is this one
pub count_cons : (v : Usage) (vs : List Usage) (u : Usage) → count_of_usage (v ∷ vs) u ≡ cond (is_same_usage u v) 1 0 + count_of_usage vs u
count_cons v vs u = sum_by-cons (λ (w : Usage). cond (is_same_usage u w) 1 0) v vs

-- those of one kind have no more than all
pub count_total : (usages : List Usage) (u : Usage) → count_of_usage usages u * u.size ≤ sum_by (λ (v : Usage). v.size) usages
count_total [] u = omega arith
count_total (v ∷ vs) u = by_test (is_same_usage u v) refl (count_total vs u)
  where
    by_test : (b : Bool) → is_same_usage u v ≡ b → count_of_usage vs u * u.size ≤ sum_by (λ (w : Usage). w.size) vs → count_of_usage (v ∷ vs) u * u.size ≤ sum_by (λ (w : Usage). w.size) (v ∷ vs)
    by_test true e rest =
        let count : count_of_usage (v ∷ vs) u ≡ 1 + count_of_usage vs u = count_cons v vs u ∙ ap (λ (b : Bool). cond b 1 0 + count_of_usage vs u) e in
        let all = sum_by-cons (λ (w : Usage). w.size) v vs in
        let size = ap (λ (w : Usage). w.size) (same_is u v e) in
        let more : (1 + count_of_usage vs u) * u.size ≤ sum_by (λ (w : Usage). w.size) (v ∷ vs) = omega arith in
        subst (λ (n : ℕ). n * u.size ≤ sum_by (λ (w : Usage). w.size) (v ∷ vs)) (sym count) more
    by_test false e rest =
        let count : count_of_usage (v ∷ vs) u ≡ 0 + count_of_usage vs u = count_cons v vs u ∙ ap (λ (b : Bool). cond b 1 0 + count_of_usage vs u) e in
        let all = sum_by-cons (λ (w : Usage). w.size) v vs in
        let more : (0 + count_of_usage vs u) * u.size ≤ sum_by (λ (w : Usage). w.size) (v ∷ vs) = omega arith in
        subst (λ (n : ℕ). n * u.size ≤ sum_by (λ (w : Usage). w.size) (v ∷ vs)) (sym count) more
