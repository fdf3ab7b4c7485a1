-- A record that is read is the record that was written, and the bytes that are read are the values'.
use Rattle.std.proofs.Common.{◌≡◌, ℕ, zero, suc, ◌+◌, ◌-◌, ◌*◌, ◌/◌, ◌%◌, ◌^◌, ◌<◌, ◌≤◌, true, List, [], ◌∷◌, ◌++◌, length, get_or, set, take, drop, refl, sym, ap, ◌∙◌, append_assoc, arith, ◌⊎◌, inl, inr}
use Rattle.std.specs.Prelude.{All, sum}
use Rattle.std.specs.Int.{byte_at, bytes_low_first}
use Rattle.std.proofs.Math.Nat.{div-div-eq-div-mul, div-one, pow-succ'}
use Rattle.std.proofs.lemmas.List.{append-nil, take-append-drop, take_at, drop_at, take_all, take_more as take_more_item, take_more_set, length-append, length-take, length-drop, get_or-drop, get_or_past}
use Rattle.std.proofs.lemmas.Bool.{and_parts, cases_lt}
use Rattle.std.proofs.lemmas.Bool.Decides.{nat_tests}
use Rattle.std.proofs.lemmas.List.Sums.{sum_by-cons}
use Rattle.std.specs.List.{list_all}
use Rattle.std.proofs.Math.Seq.{take-add}
use Rattle.byteorder.specs.Endian.{little_bytes, little_number, little_from}
use Rattle.byteorder.specs.Numbers.{little_from-cons, little_number-reads_back, length-bytes_low_first, little_from-lt}
use Rattle.case_table.specs.Record.{AreWidths, Fit, StandAt, is_width, numbers_at, spelling}

abbrev pub IsBytes : List ℕ → Type 0
IsBytes bytes = (i : ℕ) → get_or bytes i 0 < 256

-- what is left of b + 256 * r above its lowest byte is r
high_of : (b r : ℕ) → b < 256 → (b + 256 * r) / 256 ≡ r
high_of b r h = omega arith

byte_at-pow : (k x : ℕ) → byte_at k x ≡ x / 256 ^ k % 256
byte_at-pow zero x = ap (λ (y : ℕ). y % 256) (sym (div-one x))
byte_at-pow (suc k) x = refl

byte_at-suc : (j b r : ℕ) → b < 256 → byte_at (suc j) (b + 256 * r) ≡ byte_at j r
byte_at-suc j b r h =
    let shift : (b + 256 * r) / 256 ^ suc j ≡ (b + 256 * r) / 256 / 256 ^ j = ap (λ (p : ℕ). (b + 256 * r) / p) (pow-succ' 256 j) ∙ sym (div-div-eq-div-mul (b + 256 * r) 256 (256 ^ j)) in
    ap (λ (x : ℕ). x % 256) (shift ∙ ap (λ (x : ℕ). x / 256 ^ j) (high_of b r h)) ∙ sym (byte_at-pow j r)

bytes_low_first-suc : (n j b r : ℕ) → b < 256 → bytes_low_first (suc j) n (b + 256 * r) ≡ bytes_low_first j n r
bytes_low_first-suc zero j b r h = refl
bytes_low_first-suc (suc n) j b r h = rw (byte_at-suc j b r h, bytes_low_first-suc n (suc j) b r h) refl

-- the bytes that a number was read from are its bytes
pub bytes_of_number : (n : ℕ) (bytes : List ℕ) → IsBytes bytes → n ≤ length bytes → little_bytes n (little_number n bytes) ≡ take n bytes
bytes_of_number zero bytes fits h = refl
bytes_of_number (suc n) [] fits h = absurd (omega arith)
bytes_of_number (suc n) (b ∷ bytes) fits h =
    let byte = fits 0 in
    let rest = bytes_of_number n bytes (λ i. fits (suc i)) (omega arith) in
    let moved = little_from-cons 0 n b bytes in
    let low : (b + 256 * little_from 0 n bytes) % 256 ≡ b = omega arith in
    rw (moved, low, bytes_low_first-suc n 0 b (little_from 0 n bytes) byte) (ap (λ (t : List ℕ). b ∷ t) rest)

-- ---- records

pub sum-cons : (x : ℕ) (xs : List ℕ) → sum (x ∷ xs) ≡ x + sum xs
sum-cons x xs = sum_by-cons (λ (y : ℕ). y) x xs

pub sum-append : (xs ys : List ℕ) → sum (xs ++ ys) ≡ sum xs + sum ys
sum-append [] ys = omega arith
sum-append (x ∷ xs) ys = omega (arith, sum-cons x (xs ++ ys), sum-cons x xs, sum-append xs ys)

-- a record has as many bytes as its widths say
pub length-spelling : (widths values : List ℕ) → Fit widths values → length (spelling widths values) ≡ sum widths
length-spelling [] [] fit = refl
length-spelling [] (v ∷ vs) fit = absurd fit
length-spelling (w ∷ ws) [] fit = absurd fit
length-spelling (w ∷ ws) (v ∷ vs) fit =
    omega (arith, length-append (little_bytes w v) (spelling ws vs), length-bytes_low_first 0 w v, length-spelling ws vs fit.1, sum-cons w ws)

-- there are as many values as widths
pub Fit-length : (widths values : List ℕ) → Fit widths values → length values ≡ length widths
Fit-length [] [] fit = refl
Fit-length [] (v ∷ vs) fit = absurd fit
Fit-length (w ∷ ws) [] fit = absurd fit
Fit-length (w ∷ ws) (v ∷ vs) fit = omega (arith, Fit-length ws vs fit.1)

-- one more field at the end
pub spelling-push : (widths values : List ℕ) (w v : ℕ) → length values ≡ length widths → spelling (widths ++ w ∷ []) (values ++ v ∷ []) ≡ spelling widths values ++ little_bytes w v
spelling-push [] [] w v e = append-nil (little_bytes w v)
spelling-push [] (y ∷ ys) w v e = absurd (omega arith)
spelling-push (x ∷ xs) [] w v e = absurd (omega arith)
spelling-push (x ∷ xs) (y ∷ ys) w v e =
    ap (λ (t : List ℕ). little_bytes x y ++ t) (spelling-push xs ys w v (omega arith)) ∙ sym (append_assoc (little_bytes x y) (spelling xs ys) (little_bytes w v))

pub Fit-push : (widths values : List ℕ) (w v : ℕ) → Fit widths values → v < 256 ^ w → Fit (widths ++ w ∷ []) (values ++ v ∷ [])
Fit-push [] [] w v fit h = (h, tt)
Fit-push [] (y ∷ ys) w v fit h = absurd fit
Fit-push (x ∷ xs) [] w v fit h = absurd fit
Fit-push (x ∷ xs) (y ∷ ys) w v fit h = (fit.0, Fit-push xs ys w v fit.1 h)

-- a value fits its width
pub Fit-at : (widths values : List ℕ) (i : ℕ) → Fit widths values → i < length widths → get_or values i 0 < 256 ^ get_or widths i 0
Fit-at [] [] i fit h = absurd (omega arith)
Fit-at [] (y ∷ ys) i fit h = absurd fit
Fit-at (x ∷ xs) [] i fit h = absurd fit
Fit-at (x ∷ xs) (y ∷ ys) zero fit h = fit.0
Fit-at (x ∷ xs) (y ∷ ys) (suc i) fit h = Fit-at xs ys i fit.1 (omega arith)

-- each width is the width of a field
pub width_at : (widths : List ℕ) (i : ℕ) → list_all is_width widths ≡ true → i < length widths → is_width (get_or widths i 0) ≡ true
width_at [] i h lt = absurd (omega arith)
width_at (w ∷ ws) zero h lt = (and_parts (is_width w) (list_all is_width ws) h).0
width_at (w ∷ ws) (suc i) h lt = width_at ws i (and_parts (is_width w) (list_all is_width ws) h).1 (omega arith)

-- a width is from 1 to 8
pub width_bounds : (w : ℕ) → is_width w ≡ true → (1 ≤ w) × (w ≤ 8)
width_bounds w h = let cases : (w ≡ 1) ⊎ ((w ≡ 2) ⊎ ((w ≡ 4) ⊎ (w ≡ 8))) = grind (arith, nat_tests) in (omega arith, omega arith)

pub sum-widths : (widths : List ℕ) → list_all is_width widths ≡ true → sum widths ≤ 8 * length widths
sum-widths [] h = omega arith
sum-widths (w ∷ ws) h =
    let parts = and_parts (is_width w) (list_all is_width ws) h in
    omega (arith, (width_bounds w parts.0).1, sum-widths ws parts.1, sum-cons w ws)

pub sum-take : (widths : List ℕ) (i : ℕ) → sum (take i widths) ≤ sum widths
sum-take widths i = omega (arith, sum-append (take i widths) (drop i widths), ap sum (take-append-drop i widths))

-- values that fit are known by their bytes, whatever follows
pub same_from_spelling : (widths xs ys rest more : List ℕ) → Fit widths xs → Fit widths ys → spelling widths xs ++ rest ≡ spelling widths ys ++ more → xs ≡ ys
same_from_spelling [] [] [] rest more fx fy e = refl
same_from_spelling [] (x ∷ xs) ys rest more fx fy e = absurd fx
same_from_spelling [] [] (y ∷ ys) rest more fx fy e = absurd fy
same_from_spelling (w ∷ ws) [] ys rest more fx fy e = absurd fx
same_from_spelling (w ∷ ws) (x ∷ xs) [] rest more fx fy e = absurd fy
same_from_spelling (w ∷ ws) (x ∷ xs) (y ∷ ys) rest more fx fy e =
    let parts : little_bytes w x ++ (spelling ws xs ++ rest) ≡ little_bytes w y ++ (spelling ws ys ++ more) =
    sym (append_assoc (little_bytes w x) (spelling ws xs) rest) ∙ e ∙ append_assoc (little_bytes w y) (spelling ws ys) more in
    let first : x ≡ y = sym (little_number-reads_back w x (spelling ws xs ++ rest) fx.0) ∙ ap (little_number w) parts ∙ little_number-reads_back w y (spelling ws ys ++ more) fy.0 in
    let others : spelling ws xs ++ rest ≡ spelling ws ys ++ more =
    sym (drop_at (little_bytes w x) (spelling ws xs ++ rest) w (length-bytes_low_first 0 w x)) ∙ ap (drop w) parts ∙ drop_at (little_bytes w y) (spelling ws ys ++ more) w (length-bytes_low_first 0 w y) in
    let tail = same_from_spelling ws xs ys rest more fx.1 fy.1 others in
    cc

-- the values that stand somewhere are the only ones
pub same_from_place : (widths bytes : List ℕ) (at : ℕ) (xs ys : List ℕ) → StandAt widths bytes at xs → StandAt widths bytes at ys → xs ≡ ys
same_from_place widths bytes at xs ys sx sy =
    same_from_spelling widths xs ys [] [] sx.fit sy.fit (append-nil (spelling widths xs) ∙ sym sx.spelled ∙ sy.spelled ∙ sym (append-nil (spelling widths ys)))

-- where values stand, their bytes are there
pub room_from_place : (widths bytes : List ℕ) (at : ℕ) (xs : List ℕ) → StandAt widths bytes at xs → sum widths ≤ length bytes - at
room_from_place widths bytes at xs s =
    omega (arith, length-spelling widths xs s.fit, ap length s.spelled, length-take (sum widths) (drop at bytes), length-drop at bytes)

-- ---- one field after the other

-- the width of one field more
sum-push : (widths : List ℕ) (w : ℕ) → sum (widths ++ w ∷ []) ≡ sum widths + w
sum-push widths w = omega (arith, sum-append widths (w ∷ []), sum-cons w [])

pub record IsTaken (widths bytes : List ℕ) (place : ℕ) (values : List ℕ) : Type 0 where
  pub passed : place ≡ sum widths
  pub stand : StandAt widths bytes 0 values

take_push : (widths bytes values : List ℕ) (place w : ℕ) → IsBytes bytes → place + w ≤ length bytes → IsTaken widths bytes place values
    → IsTaken (widths ++ w ∷ []) bytes (place + w) (values ++ little_number w (drop place bytes) ∷ [])
take_push widths bytes values place w fits room so_far =
    let v = little_number w (drop place bytes) in
    let rest_fits : IsBytes (drop place bytes) = λ i. rw get_or-drop (fits (place + i)) in
    let back : little_bytes w v ≡ take w (drop place bytes) = bytes_of_number w (drop place bytes) rest_fits (omega (arith, length-drop place bytes)) in
    let below : v < 256 ^ w = little_from-lt 0 w (drop place bytes) rest_fits in
    let front : take place bytes ≡ spelling widths values = ap (λ (n : ℕ). take n bytes) so_far.passed ∙ so_far.stand.spelled in
    record {
      passed = omega (arith, sum-push widths w, so_far.passed);
      stand = record {
        fit = Fit-push widths values w v so_far.stand.fit below;
        spelled = rw (sum-push widths w, ← so_far.passed, take-add place w bytes, front, ← back) (sym (spelling-push widths values w v (Fit-length widths values so_far.stand.fit)));
      };
    }

pub take_more : (widths bytes values : List ℕ) (i place w : ℕ) → IsBytes bytes → sum widths ≤ length bytes → i < length widths → length values ≡ length widths → w ≡ get_or widths i 0
    → IsTaken (take i widths) bytes place (take i values)
    → IsTaken (take (i + 1) widths) bytes (place + w) (take (i + 1) (set values i (little_number w (drop place bytes))))
take_more widths bytes values i place w fits room lt same e so_far =
    let more : take (i + 1) widths ≡ take i widths ++ w ∷ [] = rw e (take_more_item widths i 0 lt) in
    let put : take (i + 1) (set values i (little_number w (drop place bytes))) ≡ take i values ++ little_number w (drop place bytes) ∷ [] = take_more_set values i (little_number w (drop place bytes)) (omega arith) in
    let inside : place + w ≤ length bytes = omega (arith, so_far.passed, sum-push (take i widths) w, ap sum more, sum-take widths (i + 1)) in
    rw (more, put) (take_push (take i widths) bytes (take i values) place w fits inside so_far)

pub put_more : (start out widths values now : List ℕ) (i w v : ℕ) → length values ≡ length widths → i < length widths → w ≡ get_or widths i 0 → v ≡ get_or values i 0
    → out ≡ start ++ spelling (take i widths) (take i values) → now ≡ out ++ little_bytes w v
    → now ≡ start ++ spelling (take (i + 1) widths) (take (i + 1) values)
put_more start out widths values now i w v same lt we ve so_far step =
    let lengths : length (take i values) ≡ length (take i widths) = omega (arith, length-take i values, length-take i widths) in
    let push = spelling-push (take i widths) (take i values) w v lengths in
    let ws : take (i + 1) widths ≡ take i widths ++ w ∷ [] = rw we (take_more_item widths i 0 lt) in
    let vs : take (i + 1) values ≡ take i values ++ v ∷ [] = rw ve (take_more_item values i 0 (omega arith)) in
    rw (ws, vs, push) (step ∙ ap (λ (t : List ℕ). t ++ little_bytes w v) so_far ∙ append_assoc start (spelling (take i widths) (take i values)) (little_bytes w v))

-- the bytes of a record are few
pub sum-small : (widths : List ℕ) → AreWidths widths → sum widths < 2 ^ 63
sum-small widths h = omega (arith, h.1, sum-widths widths h.0)

-- what stands at the front of the rest stands at its place
pub stand_behind : (widths bytes : List ℕ) (at : ℕ) (values : List ℕ) → StandAt widths (take (length bytes - at) (drop at bytes)) 0 values → StandAt widths bytes at values
stand_behind widths bytes at values s =
    let whole : take (length bytes - at) (drop at bytes) ≡ drop at bytes = take_all (length bytes - at) (drop at bytes) (omega (arith, length-drop at bytes)) in
    record { fit = s.fit; spelled = ap (λ (t : List ℕ). take (sum widths) t) (sym whole) ∙ s.spelled }

-- values stand where their record was put
pub put_stands : (before widths values behind : List ℕ) → Fit widths values → StandAt widths ((before ++ spelling widths values) ++ behind) (length before) values
put_stands before widths values behind fit =
    let rest : drop (length before) ((before ++ spelling widths values) ++ behind) ≡ spelling widths values ++ behind =
    ap (drop (length before)) (append_assoc before (spelling widths values) behind) ∙ drop_at before (spelling widths values ++ behind) (length before) refl in
    record { fit = fit; spelled = ap (take (sum widths)) rest ∙ take_at (spelling widths values) behind (sum widths) (length-spelling widths values fit) }

-- what follows values that fit is known too
pub same_behind_spelling : (widths xs ys more rest : List ℕ) → Fit widths xs → Fit widths ys → spelling widths xs ++ more ≡ spelling widths ys ++ rest → more ≡ rest
same_behind_spelling widths xs ys more rest fx fy e =
    sym (drop_at (spelling widths xs) more (sum widths) (length-spelling widths xs fx)) ∙ ap (drop (sum widths)) e ∙ drop_at (spelling widths ys) rest (sum widths) (length-spelling widths ys fy)

-- ---- the numbers at a place

-- bytes as they are told of one by one
pub IsBytes-from_All : (bytes : List ℕ) → All (λ byte. byte < 256) bytes → IsBytes bytes
IsBytes-from_All bytes all i = elim (cases_lt i (length bytes)) [
  | inl lt ↦ all i 0 lt
  | inr past ↦ let none = get_or_past bytes i 0 past in omega arith
]

IsBytes-drop : (bytes : List ℕ) (n : ℕ) → IsBytes bytes → IsBytes (drop n bytes)
IsBytes-drop bytes n fits i = rw get_or-drop (fits (n + i))

-- the numbers are spelled as the bytes that they are read from
pub spelling-numbers_at : (widths bytes : List ℕ) → IsBytes bytes → sum widths ≤ length bytes → spelling widths (numbers_at widths bytes) ≡ take (sum widths) bytes
spelling-numbers_at [] bytes fits room = refl
spelling-numbers_at (w ∷ ws) bytes fits room =
    let all : sum (w ∷ ws) ≡ w + sum ws = sum-cons w ws in
    let first = bytes_of_number w bytes fits (omega arith) in
    let rest = spelling-numbers_at ws (drop w bytes) (IsBytes-drop bytes w fits) (omega (arith, length-drop w bytes)) in
    rw (all, first, rest) (sym (take-add w (sum ws) bytes))

-- each fits its width
pub Fit-numbers_at : (widths bytes : List ℕ) → IsBytes bytes → Fit widths (numbers_at widths bytes)
Fit-numbers_at [] bytes fits = tt
Fit-numbers_at (w ∷ ws) bytes fits = (little_from-lt 0 w bytes fits, Fit-numbers_at ws (drop w bytes) (IsBytes-drop bytes w fits))

-- there is one for each width
pub length-numbers_at : (widths bytes : List ℕ) → length (numbers_at widths bytes) ≡ length widths
length-numbers_at [] bytes = refl
length-numbers_at (w ∷ ws) bytes = omega (arith, length-numbers_at ws (drop w bytes))

-- a spelling has its numbers at the front
pub numbers_at-spelling : (widths values behind : List ℕ) → Fit widths values → numbers_at widths (spelling widths values ++ behind) ≡ values
numbers_at-spelling [] [] behind fit = refl
numbers_at-spelling [] (v ∷ vs) behind fit = absurd fit
numbers_at-spelling (w ∷ ws) [] behind fit = absurd fit
numbers_at-spelling (w ∷ ws) (v ∷ vs) behind fit =
    let others = spelling ws vs ++ behind in
    let first : little_number w (little_bytes w v ++ others) ≡ v = little_number-reads_back w v others fit.0 in
    let rest : drop w (little_bytes w v ++ others) ≡ others = drop_at (little_bytes w v) others w (length-bytes_low_first 0 w v) in
    rw (append_assoc (little_bytes w v) (spelling ws vs) behind, first, rest) (ap (λ (t : List ℕ). v ∷ t) (numbers_at-spelling ws vs behind fit.1))

-- values that stand somewhere are the numbers there
pub numbers_at-place : (widths bytes : List ℕ) (at : ℕ) (values : List ℕ) → StandAt widths bytes at values → values ≡ numbers_at widths (drop at bytes)
numbers_at-place widths bytes at values s =
    let rest = drop (sum widths) (drop at bytes) in
    let whole : drop at bytes ≡ spelling widths values ++ rest = sym (take-append-drop (sum widths) (drop at bytes)) ∙ ap (λ (t : List ℕ). t ++ rest) s.spelled in
    sym (ap (numbers_at widths) whole ∙ numbers_at-spelling widths values rest s.fit)

-- where there are bytes enough, the numbers stand
pub stand_numbers : (widths bytes : List ℕ) (at : ℕ) → IsBytes bytes → sum widths ≤ length bytes - at → StandAt widths bytes at (numbers_at widths (drop at bytes))
stand_numbers widths bytes at fits room =
    let rest_fits = IsBytes-drop bytes at fits in
    record { fit = Fit-numbers_at widths (drop at bytes) rest_fits; spelled = sym (spelling-numbers_at widths (drop at bytes) rest_fits (omega (arith, length-drop at bytes))) }
