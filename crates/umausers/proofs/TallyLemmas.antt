-- Sums with one chunk more.
use Rattle.std.proofs.Common.{◌≡◌, ℕ, zero, suc, ◌+◌, ◌*◌, ◌^◌, ◌<◌, ◌≤◌, Bool, true, false, cond, eqb, List, [], ◌∷◌, ◌++◌, length, get_or, take, Option, Some, None, add-zero, refl, sym, ap, subst, ◌∙◌, arith}
use Rattle.std.specs.List.{cons_option, filter_map}
use Rattle.std.specs.Option.{ForSome}
use Rattle.std.specs.Prelude.{option_to_list}
use Rattle.std.proofs.lemmas.List.{append-nil, take_all, take_more}
use Rattle.std.proofs.lemmas.List.Elements.{filter_map-append}
use Rattle.std.proofs.lemmas.List.Sums.{sum_by_more_le, sum_by_push}
use Rattle.core_format.specs.declared.whole.Core.{Core}
use Rattle.heap_view.specs.declared.buffer.Buffer.{Buffer}
use Rattle.heap_view.specs.Buffers.{buffers_of}
use Rattle.heap_view.specs.Layout.{IsLaidOut}
use Rattle.heap_view.proofs.BuffersLemmas.{buffers_apart, buffers_fit, buffers_sound}
use Rattle.umausers.specs.declared.sum.Sum.{Sum}
use Rattle.umausers.specs.declared.usage.Usage.{Usage}
use Rattle.umausers.specs.Tally.{HasRoom, HasSums, count_of_usage, found_with, is_same_usage, one_more, sum_in, sum_of_chunks}
use Rattle.umausers.specs.Usages.{usage_of, usages_of}
use Rattle.umausers.proofs.UsageLemmas.{buffers_total, count_total, not_zero, same_decides, same_equiv, same_is, usage_size, usages_total}

-- what so many chunks come to, if there are some
sum_if_some : ℕ → ℕ → Option Sum
sum_if_some count size = cond (eqb count 0) None (Some (sum_of_chunks count size))

some_sum : (n size : ℕ) → 0 < n → sum_if_some n size ≡ Some (sum_of_chunks n size)
unfolding sum_if_some
some_sum n size some = ap (λ (b : Bool). cond b None (Some (sum_of_chunks n size))) (not_zero n some)

-- one chunk more
more_is : (n size : ℕ) → one_more (sum_if_some n size) size ≡ sum_of_chunks (n + 1) size
unfolding sum_if_some
more_is zero size =
    let make : ℕ → ℕ → Sum = λ t n. record { total = t; count = n } in
    let one : size ≡ 1 * size = omega arith in ap (λ (t : ℕ). make t 1) one
more_is (suc n) size =
    let make : ℕ → ℕ → Sum = λ t n. record { total = t; count = n } in
    let total : suc n * size + size ≡ (suc n + 1) * size = omega arith in
    ap (λ (o : Option Sum). one_more o size) (some_sum (suc n) size (omega arith)) ∙ ap (λ (t : ℕ). make t (suc n + 1)) total

count_push : (usages : List Usage) (u other : Usage) → count_of_usage (usages ++ u ∷ []) other ≡ count_of_usage usages other + cond (is_same_usage other u) 1 0
count_push usages u other = sum_by_push (λ (v : Usage). cond (is_same_usage other v) 1 0) usages u

-- the sums of one usage more
pub sums_more : (usages : List Usage) (old new : Usage → Option Sum) (found : Option Usage) → HasSums usages old → ((other : Usage) → new other ≡ found_with old found other) → HasSums (usages ++ option_to_list found) new
unfolding sum_if_some
sums_more usages old new None has step = subst (λ (xs : List Usage). HasSums xs new) (sym (append-nil usages)) (λ other. step other ∙ has other)
sums_more usages old new (Some u) has step = λ other. step other ∙ by_test other (is_same_usage u other) refl
  where
    by_test : (other : Usage) (b : Bool) → is_same_usage u other ≡ b → cond b (Some (one_more (old u) u.size)) (old other) ≡ sum_in (usages ++ u ∷ []) other
    by_test other true e =
        let same : u ≡ other = same_is u other e in
        let n = count_of_usage usages u in
        let count : count_of_usage (usages ++ u ∷ []) u ≡ n + 1 = count_push usages u u ∙ ap (λ (b : Bool). n + cond b 1 0) ((same_decides u u).1 refl) in
        let here : Some (one_more (old u) u.size) ≡ sum_in (usages ++ u ∷ []) u =
        ap (λ (o : Option Sum). Some (one_more o u.size)) (has u) ∙ ap (λ (s : Sum). Some s) (more_is n u.size) ∙ sym (some_sum (n + 1) u.size (omega arith)) ∙ ap (λ (c : ℕ). sum_if_some c u.size) (sym count) in
        subst (λ (v : Usage). Some (one_more (old u) u.size) ≡ sum_in (usages ++ u ∷ []) v) same here
    by_test other false e =
        let back : is_same_usage other u ≡ false = same_equiv.symm other u ∙ e in
        let count : count_of_usage (usages ++ u ∷ []) other ≡ count_of_usage usages other = count_push usages u other ∙ ap (λ (b : Bool). count_of_usage usages other + cond b 1 0) back ∙ add-zero (count_of_usage usages other) in
        has other ∙ ap (λ (c : ℕ). sum_if_some c other.size) (sym count)

at_least : (n s : ℕ) → 0 < s → n ≤ n * s
at_least n (suc s) some = omega arith
at_least n zero some = absurd (omega arith)

room_for : (n size : ℕ) → 0 < size → n * size + size < 2 ^ 64 → HasRoom (sum_if_some n size) size
room_for n size some fits =
    let more = more_is n size in
    let total : (n + 1) * size < 2 ^ 64 = omega arith in
    let count : n + 1 < 2 ^ 64 = omega (arith, at_least (n + 1) size some) in
    subst (λ (s : Sum). (s.total < 2 ^ 64) × (s.count < 2 ^ 64)) (sym more) (total, count)

-- the sum of a usage has room for one chunk more, since all buffers together have
pub has_room : (core : Core) (i : ℕ) (d : Buffer) (u : Usage) (sums : Usage → Option Sum) → IsLaidOut core → i < length (buffers_of core) → usage_of core (get_or (buffers_of core) i d) ≡ Some u
    → HasSums (filter_map (usage_of core) (take i (buffers_of core))) sums → HasRoom (sums u) u.size
unfolding sum_if_some
has_room core i d u sums laid lt e has =
    let buffers = buffers_of core in
    let size : u.size ≡ (get_or buffers i d).size = usage_size core (get_or buffers i d) u e in
    let some = (buffers_sound core laid i d lt).0 in
    let all = buffers_total 0 buffers (omega arith) (λ k d less. omega arith) (buffers_apart core laid) (buffers_fit core laid) in
    let before = usages_total core (take i buffers) in
    let more = sum_by_more_le (λ (c : Buffer). c.size) buffers i d lt in
    let own = count_total (filter_map (usage_of core) (take i buffers)) u in
    let n = count_of_usage (filter_map (usage_of core) (take i buffers)) u in
    let fits : n * u.size + u.size < 2 ^ 64 = omega arith in
    subst (λ (o : Option Sum). HasRoom o u.size) (sym (has u)) (room_for n u.size (omega arith) fits)

one_option : {X : Type 0} (o : Option X) → cons_option o [] ≡ option_to_list o
one_option None = refl
one_option (Some x) = refl

-- what is found of one buffer more
found_take : (core : Core) (buffers : List Buffer) (i : ℕ) (d : Buffer) (found : Option Usage) → i < length buffers → found ≡ usage_of core (get_or buffers i d)
    → filter_map (usage_of core) (take (i + 1) buffers) ≡ filter_map (usage_of core) (take i buffers) ++ option_to_list found
found_take core buffers i d found lt told =
    let before = filter_map (usage_of core) (take i buffers) in
    ap (filter_map (usage_of core)) (take_more buffers i d lt)
    ∙ filter_map-append (usage_of core) (take i buffers) (get_or buffers i d ∷ [])
    ∙ ap (λ (us : List Usage). before ++ us) (one_option (usage_of core (get_or buffers i d)))
    ∙ ap (λ (o : Option Usage). before ++ option_to_list o) (sym told)

-- the sums of one buffer more
pub tally_step : (core : Core) (buffers : List Buffer) (i : ℕ) (d : Buffer) (found : Option Usage) (old new : Usage → Option Sum) → i < length buffers → found ≡ usage_of core (get_or buffers i d)
    → HasSums (filter_map (usage_of core) (take i buffers)) old → ((other : Usage) → new other ≡ found_with old found other) → HasSums (filter_map (usage_of core) (take (i + 1) buffers)) new
tally_step core buffers i d found old new lt told has step =
    subst (λ (us : List Usage). HasSums us new) (sym (found_take core buffers i d found lt told)) (sums_more (filter_map (usage_of core) (take i buffers)) old new found has step)

-- there is room for what is found
pub tally_room : (view core : Core) (buffers : List Buffer) (i : ℕ) (d : Buffer) (found : Option Usage) (sums : Usage → Option Sum) → core ≡ view → buffers ≡ buffers_of view → IsLaidOut view → i < length buffers
    → found ≡ usage_of core (get_or buffers i d) → HasSums (filter_map (usage_of core) (take i buffers)) sums → ForSome found (λ u. HasRoom (sums u) u.size)
tally_room view core buffers i d found sums same all laid lt told has =
    let first = subst (λ (k : Core). HasSums (filter_map (usage_of k) (take i buffers)) sums) same has in
    let second = subst (λ (bs : List Buffer). HasSums (filter_map (usage_of view) (take i bs)) sums) all first in
    let own : found ≡ usage_of view (get_or (buffers_of view) i d) = told ∙ ap (λ (k : Core). usage_of k (get_or buffers i d)) same ∙ ap (λ (bs : List Buffer). usage_of view (get_or bs i d)) all in
    λ u e. has_room view i d u sums laid (subst (λ (bs : List Buffer). i < length bs) all lt) (sym own ∙ e) second

-- the sums of all buffers
pub tally_done : (view core : Core) (buffers : List Buffer) (i : ℕ) (sums : Usage → Option Sum) → core ≡ view → buffers ≡ buffers_of view → length buffers ≤ i → HasSums (filter_map (usage_of core) (take i buffers)) sums → HasSums (usages_of view) sums
unfolding usages_of
tally_done view core buffers i sums same all le has =
    let first = subst (λ (bs : List Buffer). HasSums (filter_map (usage_of core) bs) sums) (take_all i buffers le) has in
    let second = subst (λ (k : Core). HasSums (filter_map (usage_of k) buffers) sums) same first in
    subst (λ (bs : List Buffer). HasSums (filter_map (usage_of view) bs) sums) all second
