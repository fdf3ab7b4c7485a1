-- How many bytes numbers, records and lists of items have.
use Rattle.std.proofs.Common.{◌≡◌, ℕ, zero, suc, ◌+◌, ◌*◌, ◌≤◌, List, [], ◌∷◌, ◌++◌, length, get_or, Result, Ok, Err, refl, ap, ◌∙◌, arith}
use Rattle.std.specs.Prelude.{All, AllPairs, sum, sum_by}
use Rattle.std.specs.List.{flat_map}
use Rattle.std.proofs.lemmas.List.{length-append, length_push}
use Rattle.std.proofs.lemmas.List.Concat.{length-flat_map}
use Rattle.std.proofs.lemmas.List.Elements.{All-nil, All-push}
use Rattle.std.proofs.lemmas.List.Sums.{sum_by-cons, sum_by-le}
use Rattle.byteorder.specs.Endian.{little_bytes}
use Rattle.byteorder.specs.Numbers.{length-bytes_low_first}
use Rattle.case_table.specs.Record.{spelling}
use Rattle.case_table.proofs.RecordLemmas.{sum-cons}
use Rattle.core_format.specs.Items.{items_at}
use Rattle.core_format.specs.Reader.{Flaw, Reader}
use Rattle.core_format.proofs.SpellingLemmas.{When, after, after_any, when_is, when_map, when_ok}

-- ---- bytes

-- a number has as many bytes as it is given
pub number_long : (n x : ℕ) → length (little_bytes n x) ≡ n
number_long n x = length-bytes_low_first 0 n x

-- a record has as many bytes as its widths say
pub record_long : (widths values : List ℕ) → length values ≡ length widths
    → length (spelling widths values) ≡ sum widths
record_long [] [] e = refl
record_long [] (v ∷ values) e = absurd (omega (arith, e))
record_long (w ∷ widths) [] e = absurd (omega (arith, e))
record_long (w ∷ widths) (v ∷ values) e =
    let rest = record_long widths values (omega (arith, e)) in
    omega (arith, rest, number_long w v, sum-cons w widths, length-append (little_bytes w v) (spelling widths values))

-- items of so many bytes at most
pub items_long : {X : Type 0} (f : X → List ℕ) (most : ℕ) (xs : List X) → All (λ x. length (f x) ≤ most) xs
    → length (flat_map f xs) ≤ length xs * most
items_long f most xs all = omega (arith, length-flat_map f xs, sum_by-le (λ x. length (f x)) most xs all)

-- numbers of so many bytes
pub numbers_long : (n : ℕ) (xs : List ℕ) → length (flat_map (little_bytes n) xs) ≤ length xs * n
numbers_long n xs = items_long (little_bytes n) n xs (λ k d lt. omega (arith, number_long n (get_or xs k d)))

-- parts that stand one behind the other
pub three_joined : (a b c : List ℕ) → length (a ++ b ++ c) ≡ length a + length b + length c
three_joined a b c = length-append (a ++ b) c ∙ ap (λ n. n + length c) (length-append a b)

pub four_joined : (a b c d : List ℕ) → length (a ++ b ++ c ++ d) ≡ length a + length b + length c + length d
four_joined a b c d = length-append (a ++ b ++ c) d ∙ ap (λ n. n + length d) (three_joined a b c)

pub five_joined : (a b c d e : List ℕ)
    → length (a ++ b ++ c ++ d ++ e) ≡ length a + length b + length c + length d + length e
five_joined a b c d e = length-append (a ++ b ++ c ++ d) e ∙ ap (λ n. n + length e) (four_joined a b c d)

-- ---- sums

-- as many times the least of them
pub least_sum : {X : Type 0} (size : X → ℕ) (least : ℕ) (xs : List X) → All (λ x. least ≤ size x) xs
    → length xs * least ≤ sum_by size xs
least_sum size least [] all = omega arith
least_sum size least (x ∷ xs) all =
    let rest = least_sum size least xs (λ k d lt. all (suc k) d (omega (arith, lt))) in
    let here = all 0 x (omega arith) in
    omega (arith, rest, here, sum_by-cons size x xs)

-- each term is at most another one
pub larger_sum : {X : Type 0} (f g : X → ℕ) (xs : List X) → All (λ x. f x ≤ g x) xs → sum_by f xs ≤ sum_by g xs
larger_sum f g [] all = omega arith
larger_sum f g (x ∷ xs) all =
    let rest = larger_sum f g xs (λ k d lt. all (suc k) d (omega (arith, lt))) in
    let here = all 0 x (omega arith) in
    omega (arith, rest, here, sum_by-cons f x xs, sum_by-cons g x xs)

-- runs that stand one behind the other between two addresses have no more bytes than lie between these
pub runs_fit : {X : Type 0} (base size : X → ℕ) (xs : List X) (low high : ℕ) → low ≤ high
    → All (λ x. low ≤ base x) xs → All (λ x. base x + size x ≤ high) xs
    → AllPairs (λ x later. base x + size x ≤ base later) xs → low + sum_by size xs ≤ high
runs_fit base size [] low high le above below apart = omega (arith, le)
runs_fit base size (x ∷ xs) low high le above below apart =
    let begins = above 0 x (omega arith) in
    let ends = below 0 x (omega arith) in
    let rest = runs_fit base size xs (base x + size x) high ends
    (λ k d lt. apart 0 (suc k) d (omega arith) (omega (arith, lt)))
    (λ k d lt. below (suc k) d (omega (arith, lt)))
    (λ i j d less lt. apart (suc i) (suc j) d (omega (arith, less)) (omega (arith, lt))) in
    omega (arith, begins, rest, sum_by-cons size x xs)

-- ---- items that are read

-- how an item is read behind those before it
abbrev pub ItemReader : Type 0 → Type 0
ItemReader A = List A → Reader → Result (A × Reader) Flaw

-- what is read keeps both
pub when_both : {A : Type 0} (P Q : A → Type 0) (r : Result A Flaw) → When r P → When r Q
    → When r (λ x. P x × Q x)
when_both {A} P Q (Ok x) p q =
    when_ok x (λ y. P y × Q y) (when_is P (Ok x) x p refl, when_is Q (Ok x) x q refl)
when_both {A} P Q (Err flaw) p q =
    after_any {A = ⊥} {B = A} (λ y. P y × Q y) (Err flaw) (λ none. absurd none) (λ none. absurd none)

-- as many as are asked for
pub many_read : {A : Type 0} (item : ItemReader A) (count : ℕ) (before : List A) (here : Reader)
    → When (items_at item count before here) (λ out. length out.0 ≡ length before + count)
unfolding items_at
many_read item zero before here = when_ok (before, here) (λ out. length out.0 ≡ length before + zero) (omega arith)
many_read {A} item (suc count) before here =
    let are : ℕ → List A × Reader → Type 0 = λ n out. length out.0 ≡ n in
    after_any (are (length before + suc count)) (item before here)
    (λ next. items_at item count (before ++ next.0 ∷ []) next.1) (λ next.
    let now = before ++ next.0 ∷ [] in
    when_map (are (length now + count)) (are (length before + suc count)) _ (many_read item count now next.1)
    (λ out e. omega (arith, e, length_push before next.0)))

-- what holds of each that is read
pub each_read : {A : Type 0} (P : A → Type 0) (item : ItemReader A)
    → ((before : List A) (here : Reader) → When (item before here) (λ out. P out.0))
    → (count : ℕ) (before : List A) (here : Reader) → All P before
    → When (items_at item count before here) (λ out. All P out.0)
unfolding items_at
each_read P item each zero before here all = when_ok (before, here) (λ out. All P out.0) all
each_read {A} P item each (suc count) before here all =
    after (λ (out : List A × Reader). All P out.0) (λ next. P next.0) (item before here)
    (λ next. items_at item count (before ++ next.0 ∷ []) next.1) (each before here) (λ next p.
    each_read P item each count (before ++ next.0 ∷ []) next.1 (All-push P before next.0 all p))

-- so it is of a whole section
pub all_read : {A : Type 0} (P : A → Type 0) (item : ItemReader A)
    → ((before : List A) (here : Reader) → When (item before here) (λ out. P out.0))
    → (count : ℕ) (here : Reader) (out : List A × Reader) → items_at item count [] here ≡ Ok out → All P out.0
all_read {A} P item each count here out e =
    when_is (λ (o : List A × Reader). All P o.0) (items_at item count [] here) out
    (each_read P item each count [] here (All-nil P)) e
