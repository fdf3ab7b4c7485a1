-- The runs of a space rise and hold no address twice; the byte at an address; what a call leaves of a space.
use Rattle.std.proofs.Common.{◌≡◌, ◌≢◌, ℕ, zero, suc, ◌+◌, ◌-◌, ◌*◌, ◌/◌, ◌^◌, ◌<◌, ◌≤◌, ◌⊎◌, not, cond, List, [], ◌∷◌, ◌++◌, length, get_or, take, drop, Option, Some, None, refl, sym, ap, subst, ◌∙◌, arith, inl, inr}
use Rattle.std.specs.Prelude.{All, AllPairs, Contains, MatchOption, is_some, Bool, true, IsSome, insert, remove, replicate, slice_set}
use Rattle.std.specs.List.{HoldsAt, between, refill}
use Rattle.std.specs.Option.{option_or}
use Rattle.std.proofs.lemmas.Bool.{cases_lt, cases_order, false≢true, lt-ltb, le-ltb}
use Rattle.std.proofs.lemmas.List.{get_or_default, get_or-map, length-map, get_or-take, get_or-drop, length-take, length-drop, length-replicate, get_or-replicate, take-append-drop, length-append, take_at, get_or_append_left, get_or-append_right, length-set, get_or-set_same}
use Rattle.std.proofs.lemmas.List.Edits.{get_or-between}
use Rattle.std.proofs.lemmas.List.Elements.{All-append}
use Rattle.std.proofs.lemmas.List.Quantifiers.{all_pairs_remove}
use Rattle.std.proofs.lemmas.Option.{slice_get-get_or, slice_get_past}
use Rattle.umem_base.specs.declared.pages.TheConstants.{PAGE_BYTES}
use Rattle.umem_base.specs.declared.span.Span.{Span}
use Rattle.umem_base.specs.Ordered.{SplitsBy, put_by, left_out_by}
use Rattle.umem_base.specs.Pages.{IsPage}
use Rattle.umem_base.specs.Span.{EndsBelow, IsSpanWithin}
use Rattle.umem_base.proofs.OrderedLemmas.{AllPairs-insert_split, All-insert, All-remove, SplitsBy-from_sides, SplitsBy-weaker, insert-put_by, map-put_by, map-left_out_by, remove-left_out_by_own}
use Rattle.addr_space.specs.MappedRun.{MappedRun, IsMappedRun, bytes_end, run_of, Holds, HoldsRange, Meets, byte_in, spliced, with_part}
use Rattle.addr_space.specs.Space.{Space, IsSpace, IsInRun, IsSound, HasBytes, HasMapped, IsMappedRange, Maps, Unmaps, Writes, byte_at, runs_of, with_part_at, with_bytes}

abbrev pub no_run : MappedRun
no_run = record { base = 0; bytes = [] }

-- ==== the mapped runs rise, and no two hold one address

pub base_le : (ms : Space) (i k : ℕ) (d e : MappedRun) → IsSpace ms → i ≤ k → k < length ms → (get_or ms i d).base ≤ (get_or ms k e).base
base_le ms i k d e space le lt =
    elim (cases_lt i k) [
      | inl less ↦
          let first : (get_or ms i d).base ≤ (get_or ms i e).base = rw (get_or_default ms i d e (omega arith)) (omega arith) in
          let second = space.apart i k e less lt in
          omega arith
      | inr more ↦ let same : k ≡ i = omega arith in rw (same, get_or_default ms i d e (omega arith)) (omega arith)
    ]

-- one address lies in one run
pub holds_one : (ms : Space) (i k a : ℕ) (d e : MappedRun) → IsSpace ms → i < length ms → k < length ms → Holds a (get_or ms i d) → Holds a (get_or ms k e) → k ≡ i
holds_one ms i k a d e space il kl here there =
    let here' : Holds a (get_or ms i e) = rw (get_or_default ms i e d il) here in
    elim (cases_order k i) [
      | inl same ↦ same
      | inr (inl less) ↦ let apart = space.apart k i e less il in absurd (omega (arith, here'.0, there.1))
      | inr (inr more) ↦ let apart = space.apart i k e more kl in absurd (omega (arith, here'.1, there.0))
    ]

-- a fact at one default holds at each
pub HoldsAt-from : (P : MappedRun → Type 0) (ms : Space) (i : ℕ) (d : MappedRun) → i < length ms → P (get_or ms i d) → HoldsAt P ms i
HoldsAt-from P ms i d lt p e = rw (get_or_default ms i e d lt) p

-- all of a run is whole pages
pub pages_whole : (m : MappedRun) → IsMappedRun m → PAGE_BYTES * (length m.bytes / PAGE_BYTES) ≡ length m.bytes
pages_whole m is = let whole = is.whole in omega arith

-- a mapped run is one of the runs
pub Contains-run : (ms : Space) (i : ℕ) (d : MappedRun) → i < length ms → Contains (runs_of ms) (run_of (get_or ms i d))
Contains-run ms i d lt = (i, omega (arith, length-map ms run_of), get_or-map run_of ms i d (run_of (get_or ms i d)) lt)

-- one of the runs is a mapped run
pub run_index : (ms : Space) (r : Span) → Contains (runs_of ms) r → (i : ℕ) × (i < length ms) × HoldsAt (λ m. run_of m ≡ r) ms i
run_index ms r h =
    let lt : h.0 < length ms = omega (arith, h.1, length-map ms run_of) in
    (h.0, lt, λ d. sym (get_or-map run_of ms h.0 d r lt) ∙ h.2)

pub IsInRun-from_place : (ms : Space) (i at from count : ℕ) (d : MappedRun) → IsSpace ms → i < length ms → HoldsRange at from count (get_or ms i d) → IsInRun (runs_of ms) at count
IsInRun-from_place ms i at from count d space lt h =
    let whole = pages_whole (get_or ms i d) (space.each i d lt) in
    (run_of (get_or ms i d), Contains-run ms i d lt, omega (arith, h.0), omega (arith, h.0, h.1))

pub not_IsInRun : (ms : Space) (at count : ℕ) → IsSpace ms → All (λ m. (m.base ≤ at) → (at + count ≤ m.base + length m.bytes) → ⊥) ms → IsInRun (runs_of ms) at count → ⊥
not_IsInRun ms at count space none h =
    let place = run_index ms h.0 h.1 in
    let d : MappedRun = record { base = 0; bytes = [] } in
    let is = place.2 d in
    let base : (get_or ms place.0 d).base ≡ h.0.base = ap (λ (r : Span). r.base) is in
    let pages : length (get_or ms place.0 d).bytes / PAGE_BYTES ≡ h.0.pages = ap (λ (r : Span). r.pages) is in
    let whole = pages_whole (get_or ms place.0 d) (space.each place.0 d place.1) in
    none place.0 d place.1 (omega (arith, h.2)) (omega (arith, h.3))

-- where a range lies in no run, though the run of its first byte is known
pub no_place : (ms : Space) (i at count : ℕ) (m : MappedRun) → IsSpace ms → i < length ms → m ≡ get_or ms i m → Holds at m → 0 < count → m.base + length m.bytes < at + count → All (λ n. (n.base ≤ at) → (at + count ≤ n.base + length n.bytes) → ⊥) ms
no_place ms i at count m space lt is here some short k d kl low high =
    let there : Holds at (get_or ms k d) = (low, omega arith) in
    let one = holds_one ms i k at m d space lt kl (rw (← is) here) there in
    let same : get_or ms k d ≡ m = rw (one, get_or_default ms i d m lt) (sym is) in
    omega (arith, rw same at high)

pub match_weaker : {X : Type 0} (o : Option X) {P P' : Type 0} {Q Q' : X → Type 0} → MatchOption o P Q → (P → P') → ((x : X) → Q x → Q' x) → MatchOption o P' Q'
match_weaker None h f g = f h
match_weaker (Some x) h f g = g x h

-- the runs that end at the one address or below, and those that begin at the other or above
abbrev pub IsSplit : Space → ℕ → ℕ → ℕ → Type 0
IsSplit ms from to index = SplitsBy (λ m. bytes_end m ≤ from) (λ m. to ≤ m.base) ms index

-- a gap, by the runs beside it
pub IsSplit-from_sides : (ms : Space) (from to index : ℕ) → IsSpace ms → index ≤ length ms → (0 < index → (d : MappedRun) → bytes_end (get_or ms (index - 1) d) ≤ from) → (index < length ms → (d : MappedRun) → to ≤ (get_or ms index d).base) → IsSplit ms from to index
IsSplit-from_sides ms from to index space within below above =
    SplitsBy-from_sides (λ m. bytes_end m ≤ from) (λ m. to ≤ m.base) ms index within (λ i j d less lt h. omega (arith, space.apart i j d less lt)) (λ i j d less lt h. omega (arith, space.apart i j d less lt)) below above

-- a range in a run lies below 2 ^ 32
pub run_below : (ms : Space) (at count : ℕ) → IsSpace ms → IsInRun (runs_of ms) at count → at + count ≤ 2 ^ 32
run_below ms at count space h =
    let place = run_index ms h.0 h.1 in
    let d : MappedRun = record { base = 0; bytes = [] } in
    let is = place.2 d in
    let base : (get_or ms place.0 d).base ≡ h.0.base = ap (λ (r : Span). r.base) is in
    let pages : length (get_or ms place.0 d).bytes / PAGE_BYTES ≡ h.0.pages = ap (λ (r : Span). r.pages) is in
    let mapping = space.each place.0 d place.1 in
    let whole = pages_whole (get_or ms place.0 d) mapping in
    omega (arith, h.3, mapping.to)

pub decides_some : {X : Type 0} (o : Option X) (b : Bool) {N P : Type 0} {Q : X → Type 0} → MatchOption o N Q → b ≡ is_some o → (N → P → ⊥) → ((x : X) → Q x → P) → (b ≡ true → P) × (P → b ≡ true)
decides_some None b none is refuses gives = (λ e. absurd (false≢true (sym is ∙ e)), λ p. absurd (refuses none p))
decides_some (Some x) b q is refuses gives = (λ e. gives x q, λ p. is)

-- ==== the byte at an address, by the run that holds it

pub holds_cases : (a : ℕ) (m : MappedRun) → Holds a m ⊎ (Holds a m → ⊥)
holds_cases a m =
    elim (cases_lt a m.base) [
      | inl low ↦ inr (λ h. omega (arith, h.0))
      | inr le ↦ elim (cases_lt a (m.base + length m.bytes)) [ inl lt ↦ inl (le, lt) | inr high ↦ inr (λ h. omega (arith, h.1)) ]
    ]

pub byte_in-holds : (a : ℕ) (m : MappedRun) → Holds a m → byte_in m a ≡ Some (get_or m.bytes (a - m.base) 0)
byte_in-holds a m h = rw (le-ltb a m.base h.0) (slice_get-get_or m.bytes (a - m.base) 0 (omega (arith, h.0, h.1)))

pub byte_in-not : (a : ℕ) (m : MappedRun) → (Holds a m → ⊥) → byte_in m a ≡ None
byte_in-not a m h =
    elim (cases_lt a m.base) [
      | inl low ↦ rw (lt-ltb a m.base low) refl
      | inr le ↦ elim (cases_lt a (m.base + length m.bytes)) [
        | inl lt ↦ absurd (h (le, lt))
        | inr high ↦ rw (le-ltb a m.base le) (slice_get_past m.bytes (a - m.base) (omega arith))
      ]
    ]

byte_at-skip : (a : ℕ) (m : MappedRun) (ms : Space) → (Holds a m → ⊥) → byte_at (m ∷ ms) a ≡ byte_at ms a
byte_at-skip a m ms h = ap (λ (o : Option ℕ). option_or o (byte_at ms a)) (byte_in-not a m h)

byte_at-head : (a : ℕ) (m : MappedRun) (ms : Space) → Holds a m → byte_at (m ∷ ms) a ≡ Some (get_or m.bytes (a - m.base) 0)
byte_at-head a m ms h = ap (λ (o : Option ℕ). option_or o (byte_at ms a)) (byte_in-holds a m h)

option_or-assoc : (x y z : Option ℕ) → option_or (option_or x y) z ≡ option_or x (option_or y z)
option_or-assoc None y z = refl
option_or-assoc (Some b) y z = refl

pub byte_at-append : (a : ℕ) (xs ys : List MappedRun) → byte_at (xs ++ ys) a ≡ option_or (byte_at xs a) (byte_at ys a)
byte_at-append a [] ys = refl
byte_at-append a (x ∷ xs) ys = ap (λ (o : Option ℕ). option_or (byte_in x a) o) (byte_at-append a xs ys) ∙ sym (option_or-assoc (byte_in x a) (byte_at xs a) (byte_at ys a))

pub byte_at-none : (a : ℕ) (ms : Space) → All (λ m. Holds a m → ⊥) ms → byte_at ms a ≡ None
byte_at-none a [] h = refl
byte_at-none a (m ∷ ms) h = byte_at-skip a m ms (h 0 m (omega arith)) ∙ byte_at-none a ms (λ k d lt. h (suc k) d (omega arith))

-- the first run that holds the address has the byte
pub byte_at-first : (a : ℕ) (ms : Space) (i : ℕ) (d : MappedRun) → i < length ms → ((k : ℕ) (e : MappedRun) → k < i → Holds a (get_or ms k e) → ⊥) → Holds a (get_or ms i d) → byte_at ms a ≡ Some (get_or (get_or ms i d).bytes (a - (get_or ms i d).base) 0)
byte_at-first a [] i d lt below here = absurd (omega arith)
byte_at-first a (m ∷ ms) zero d lt below here = byte_at-head a m ms here
byte_at-first a (m ∷ ms) (suc i) d lt below here =
    byte_at-skip a m ms (below 0 m (omega arith)) ∙ byte_at-first a ms i d (omega arith) (λ k e less. below (suc k) e (omega arith)) here

-- in a space, the run that holds the address has the byte
pub byte_at-here : (a : ℕ) (ms : Space) (i : ℕ) (d : MappedRun) → IsSpace ms → i < length ms → Holds a (get_or ms i d) → byte_at ms a ≡ Some (get_or (get_or ms i d).bytes (a - (get_or ms i d).base) 0)
byte_at-here a ms i d space lt here =
    byte_at-first a ms i d lt (λ k e less holds. let same = holds_one ms i k a d e space lt (omega arith) here holds in omega arith) here

-- where there is a byte, a run holds the address
pub byte_at-some : (a : ℕ) (ms : Space) (d : MappedRun) → IsSome (byte_at ms a) → (k : ℕ) × (k < length ms) × Holds a (get_or ms k d)
byte_at-some a [] d h = absurd cc
byte_at-some a (m ∷ ms) d h =
    elim (holds_cases a m) [
      | inl here ↦ (0, omega arith, here)
      | inr not ↦ let rest = byte_at-some a ms d (rw (byte_at-skip a m ms not) at h) in (suc rest.0, omega (arith, rest.1), rest.2)
    ]

-- a run in another's place, which holds neither now nor before the address
pub byte_at-set_other : (a : ℕ) (m n : MappedRun) (ms : Space) → (Holds a m → ⊥) → (Holds a n → ⊥) → byte_at (n ∷ ms) a ≡ byte_at (m ∷ ms) a
byte_at-set_other a m n ms was is = byte_at-skip a n ms is ∙ sym (byte_at-skip a m ms was)

-- no byte at 2 ^ 32 or above
pub byte_at-past : (a : ℕ) (ms : Space) → IsSpace ms → 2 ^ 32 ≤ a → byte_at ms a ≡ None
byte_at-past a ms space high = byte_at-none a ms (λ k d lt h. omega (arith, (space.each k d lt).to, h.1))

-- the byte that a run has at an offset
pub byte_at-read : (a : ℕ) (ms : Space) (i : ℕ) (m : MappedRun) → IsSpace ms → i < length ms → m ≡ get_or ms i m → Holds a m → byte_at ms a ≡ Some (get_or m.bytes (a - m.base) 0)
byte_at-read a ms i m space lt is here = rw (← is) at (byte_at-here a ms i m space lt (rw (← is) here))

-- the bytes of a part of a run
pub HasBytes-part : (ms : Space) (i at from count : ℕ) (m : MappedRun) → IsSpace ms → i < length ms → m ≡ get_or ms i m → HoldsRange at from count m → HasBytes ms at count (λ k. get_or (between from (from + count) m.bytes) k 0)
HasBytes-part ms i at from count m space lt is range k below =
    let offset : at + k - m.base ≡ from + k = omega (arith, range.0) in
    byte_at-read (at + k) ms i m space lt is (omega (arith, range.0), omega (arith, range.0, range.1))
    ∙ rw (offset, get_or-between m.bytes from (from + count) k 0 (omega arith)) refl

-- a byte lies in a run
pub IsInRun-from_byte : (ms : Space) (a : ℕ) → IsSpace ms → IsSome (byte_at ms a) → IsInRun (runs_of ms) a 1
IsInRun-from_byte ms a space h =
    let d : MappedRun = record { base = 0; bytes = [] } in
    let held = byte_at-some a ms d h in
    IsInRun-from_place ms held.0 a (a - (get_or ms held.0 d).base) 1 d space held.1 (omega (arith, held.2.0), omega (arith, held.2.0, held.2.1))

-- ==== what the list of mapped runs says of the runs and of the bytes

run_at : (ms : Space) (k : ℕ) (d : Span) → k < length ms → get_or (runs_of ms) k d ≡ run_of (get_or ms k no_run)
run_at ms k d lt = get_or-map run_of ms k no_run d lt

pub IsSound-from_space : (ms : Space) → IsSpace ms → IsSound ms
IsSound-from_space ms space = record {
  runs = λ k d lt.
      let lt' : k < length ms = omega (arith, length-map ms run_of) in
      let mapping = space.each k no_run lt' in
      let whole = pages_whole (get_or ms k no_run) mapping in
      let run : IsSpanWithin 0 (2 ^ 32) (run_of (get_or ms k no_run)) = record { page = mapping.page; some = omega (arith, mapping.some); low = omega arith; high = omega (arith, mapping.to) } in
      rw (run_at ms k d lt') run;
  apart = λ i j d less lt.
      let lt' : j < length ms = omega (arith, length-map ms run_of) in
      let mapping = space.each i no_run (omega arith) in
      let whole = pages_whole (get_or ms i no_run) mapping in
      let apart = space.apart i j no_run less lt' in
      let runs : EndsBelow (run_of (get_or ms i no_run)) (run_of (get_or ms j no_run)) = omega arith in
      rw (run_at ms i d (omega arith), run_at ms j d lt') runs;
  held = λ address h. IsInRun-from_byte ms address space h;
  mapped = λ address h.
      let place = run_index ms h.0 h.1 in
      let m : MappedRun = get_or ms place.0 no_run in
      let base : m.base ≡ h.0.base = ap (λ (r : Span). r.base) (place.2 no_run) in
      let pages : length m.bytes / PAGE_BYTES ≡ h.0.pages = ap (λ (r : Span). r.pages) (place.2 no_run) in
      let mapping = space.each place.0 no_run place.1 in
      let whole = pages_whole m mapping in
      let here : Holds address m = (omega (arith, h.2), omega (arith, h.3)) in
      rw (byte_at-here address ms place.0 no_run space place.1 here) refl;
}

-- ==== a run more, and a run less

-- ---- a run more

-- the pages of the runs with one more, at an index between lower and higher ones
runs_of-insert : (ms : Space) (i : ℕ) (m : MappedRun) → SplitsBy (λ n. n.base ≤ m.base) (λ n. m.base < n.base) ms i → runs_of (insert ms i m) ≡ put_by (λ (r : Span). r.base) (runs_of ms) (run_of m)
runs_of-insert ms i m place =
    ap runs_of (insert-put_by (λ (n : MappedRun). n.base) ms i m place) ∙ map-put_by run_of (λ (r : Span). r.base) ms m

-- where the new run doesn't hold the address
byte_at-insert_other : (a : ℕ) (ms : Space) (i : ℕ) (m : MappedRun) → (Holds a m → ⊥) → byte_at (insert ms i m) a ≡ byte_at ms a
byte_at-insert_other a ms i m not =
    byte_at-append a (take i ms) (m ∷ drop i ms)
    ∙ ap (λ (o : Option ℕ). option_or (byte_at (take i ms) a) (option_or o (byte_at (drop i ms) a))) (byte_in-not a m not)
    ∙ sym (byte_at-append a (take i ms) (drop i ms))
    ∙ ap (λ (xs : List MappedRun). byte_at xs a) (take-append-drop i ms)

-- where it does
byte_at-insert_here : (a : ℕ) (ms : Space) (i : ℕ) (m : MappedRun) → i ≤ length ms → ((k : ℕ) (d : MappedRun) → k < i → Holds a (get_or ms k d) → ⊥) → Holds a m → byte_at (insert ms i m) a ≡ Some (get_or m.bytes (a - m.base) 0)
byte_at-insert_here a ms i m within below here =
    let front : byte_at (take i ms) a ≡ None = byte_at-none a (take i ms) (λ k d lt h. let in_front : k < i = omega (arith, length-take i ms) in below k d in_front (rw (get_or-take i ms k d in_front) at h)) in
    byte_at-append a (take i ms) (m ∷ drop i ms)
    ∙ ap (λ (o : Option ℕ). option_or o (option_or (byte_in m a) (byte_at (drop i ms) a))) front
    ∙ ap (λ (o : Option ℕ). option_or o (byte_at (drop i ms) a)) (byte_in-holds a m here)

abbrev pub zeros : ℕ → ℕ → MappedRun
zeros base size = record { base = base; bytes = replicate size 0 }

pub IsSpace-insert : (ms : Space) (base pages i : ℕ) → IsSpace ms → IsPage base → 1 ≤ pages → base + PAGE_BYTES * pages ≤ 2 ^ 32 → IsSplit ms base (base + PAGE_BYTES * pages) i → IsSpace (insert ms i (zeros base (PAGE_BYTES * pages)))
IsSpace-insert ms base pages i space page some to gap =
    let m = zeros base (PAGE_BYTES * pages) in
    let size : length m.bytes ≡ PAGE_BYTES * pages = length-replicate (PAGE_BYTES * pages) 0 in
    let is : IsMappedRun m = record { page = page; some = omega arith; whole = omega arith; to = omega arith } in
    record {
      each = All-insert IsMappedRun ms i m is space.each;
      apart = AllPairs-insert_split (λ lower upper. bytes_end lower ≤ upper.base) (λ n. bytes_end n ≤ base) (λ n. base + PAGE_BYTES * pages ≤ n.base) ms i m gap space.apart (λ n h. h) (λ n h. omega arith);
    }

pub Maps-insert : (ms : Space) (base pages i : ℕ) → IsSpace ms → 1 ≤ pages → IsSplit ms base (base + PAGE_BYTES * pages) i → Maps ms (insert ms i (zeros base (PAGE_BYTES * pages))) (record { base = base; pages = pages })
Maps-insert ms base pages i space some gap =
    let m = zeros base (PAGE_BYTES * pages) in
    let size : length m.bytes ≡ PAGE_BYTES * pages = length-replicate (PAGE_BYTES * pages) 0 in
    let run : ℕ → Span = λ n. record { base = base; pages = n } in
    record {
      zeros = λ k lt.
          let here : Holds (base + k) m = (omega arith, omega arith) in
          let offset : base + k - base ≡ k = omega arith in
          byte_at-insert_here (base + k) ms i m gap.within (λ j d less h. omega (arith, gap.before j d less, h.1)) here
          ∙ rw (offset, get_or-replicate {A = ℕ} (PAGE_BYTES * pages) k 0 0 lt) refl;
      others = λ a out. byte_at-insert_other a ms i m (λ h. elim out [ inl low ↦ omega (arith, h.0) | inr high ↦ omega (arith, h.1) ]);
      runs = runs_of-insert ms i m (SplitsBy-weaker (λ n. bytes_end n ≤ base) (λ n. n.base ≤ base) (λ n. base + PAGE_BYTES * pages ≤ n.base) (λ n. base < n.base) ms i (λ n h. omega arith) (λ n h. omega arith) gap)
          ∙ ap (λ (n : ℕ). put_by (λ (r : Span). r.base) (runs_of ms) (run n)) (omega arith);
    }

-- a gap has no mapped byte
pub no_byte_in_gap : (ms : Space) (base size i : ℕ) → IsSplit ms base (base + size) i → HasMapped ms base size → ⊥
no_byte_in_gap ms base size i gap h =
    let held = byte_at-some (base + h.0) ms no_run h.2 in
    elim (cases_lt held.0 i) [
      | inl less ↦ omega (arith, gap.before held.0 no_run less, held.2.0, held.2.1)
      | inr more ↦ omega (arith, gap.behind held.0 no_run more held.1, held.2.0, h.1)
    ]

-- a run that meets the range has a byte there
pub byte_where_met : (ms : Space) (base size : ℕ) → IsSpace ms → 0 < size → (k : ℕ) × (k < length ms) × HoldsAt (Meets base (base + size)) ms k → HasMapped ms base size
byte_where_met ms base size space some h =
    let m : MappedRun = get_or ms h.0 no_run in
    let meets = h.2 no_run in
    let is = space.each h.0 no_run h.1 in
    elim (cases_lt base m.base) [
      | inl above ↦
          let offset : base + (m.base - base) ≡ m.base = omega arith in
          let here : Holds (base + (m.base - base)) m = (omega arith, omega (arith, is.some)) in
          (m.base - base, omega (arith, meets.0), rw (byte_at-here (base + (m.base - base)) ms h.0 no_run space h.1 here) refl)
      | inr below ↦
          let here : Holds (base + 0) m = (omega arith, omega (arith, meets.1)) in
          (0, omega (arith, meets.0), rw (byte_at-here (base + 0) ms h.0 no_run space h.1 here) refl)
    ]

-- ---- a run less

-- the bases of two runs differ
AllPairs-bases : (ms : Space) → IsSpace ms → AllPairs (λ (m n : MappedRun). m.base ≢ n.base) ms
AllPairs-bases ms space i j d less lt e = omega (arith, space.apart i j d less lt, (space.each i d (omega arith)).some, e)

-- the pages of the runs but for one
runs_of-remove : (ms : Space) (i : ℕ) (m : MappedRun) → IsSpace ms → i < length ms → m ≡ get_or ms i m → runs_of (remove ms i) ≡ left_out_by (λ (r : Span). r.base) (runs_of ms) m.base
runs_of-remove ms i m space lt is =
    ap runs_of (remove-left_out_by_own (λ (n : MappedRun). n.base) ms i m (AllPairs-bases ms space) lt is) ∙ map-left_out_by run_of (λ (r : Span). r.base) ms m.base

byte_at-remove_other : (a : ℕ) (ms : Space) (i : ℕ) (d : MappedRun) → i < length ms → (Holds a (get_or ms i d) → ⊥) → byte_at (remove ms i) a ≡ byte_at ms a
byte_at-remove_other a [] i d lt not = absurd (omega arith)
byte_at-remove_other a (m ∷ ms) zero d lt not = sym (ap (λ (o : Option ℕ). option_or o (byte_at ms a)) (byte_in-not a m not))
byte_at-remove_other a (m ∷ ms) (suc i) d lt not = ap (λ (o : Option ℕ). option_or (byte_in m a) o) (byte_at-remove_other a ms i d (omega arith) not)

byte_at-remove_here : (a : ℕ) (ms : Space) (i : ℕ) (d : MappedRun) → IsSpace ms → i < length ms → Holds a (get_or ms i d) → byte_at (remove ms i) a ≡ None
byte_at-remove_here a ms i d space lt here =
    let P : MappedRun → Type 0 = λ m. Holds a m → ⊥ in
    byte_at-none a (remove ms i) (All-append P (take i ms) (drop (suc i) ms)
    (λ k e below h. let in_front : k < i = omega (arith, length-take i ms) in let same = holds_one ms i k a d e space lt (omega arith) here (rw (get_or-take i ms k e in_front) at h) in omega arith)
    (λ k e below h. let within : suc i + k < length ms = omega (arith, length-drop (suc i) ms) in let same = holds_one ms i (suc i + k) a d e space lt within here (rw (get_or-drop (suc i) ms k e) at h) in omega arith))

pub IsSpace-remove : (ms : Space) (i : ℕ) → IsSpace ms → i < length ms → IsSpace (remove ms i)
IsSpace-remove ms i space lt = record {
  each = All-remove IsMappedRun ms i space.each;
  apart = all_pairs_remove (λ lower upper. bytes_end lower ≤ upper.base) ms i lt space.apart;
}

pub Unmaps-remove : (ms : Space) (i base pages : ℕ) → IsSpace ms → i < length ms → HoldsAt (λ m. run_of m ≡ record { base = base; pages = pages }) ms i → Unmaps ms (remove ms i) (record { base = base; pages = pages })
Unmaps-remove ms i base pages space lt is =
    let m : MappedRun = get_or ms i no_run in
    let base_is : (d : MappedRun) → (get_or ms i d).base ≡ base = λ d. ap (λ (r : Span). r.base) (is d) in
    let pages_is : length m.bytes / PAGE_BYTES ≡ pages = ap (λ (r : Span). r.pages) (is no_run) in
    let whole = pages_whole m (space.each i no_run lt) in
    let first : m.base ≡ base = base_is no_run in
    let size : length m.bytes ≡ PAGE_BYTES * pages = rw (← pages_is) (sym whole) in
    record {
      gone = λ k below. byte_at-remove_here (base + k) ms i no_run space lt (omega arith, omega arith);
      others = λ a out. byte_at-remove_other a ms i no_run lt (λ h. elim out [ inl low ↦ omega (arith, h.0) | inr high ↦ omega (arith, h.1) ]);
      runs = runs_of-remove ms i m space lt (get_or_default ms i no_run m lt) ∙ ap (λ (b : ℕ). left_out_by (λ (r : Span). r.base) (runs_of ms) b) first;
    }

-- the run that holds a base is the one that begins there
pub unmapped_index : (ms : Space) (i base pages : ℕ) → IsSpace ms → Contains (runs_of ms) (record { base = base; pages = pages }) → i < length ms → HoldsAt (Holds base) ms i → HoldsAt (λ m. run_of m ≡ record { base = base; pages = pages }) ms i
unmapped_index ms i base pages space run lt here d =
    let run' : Span = record { base = base; pages = pages } in
    let place = run_index ms run' run in
    let base_is : (get_or ms place.0 d).base ≡ base = ap (λ (r : Span). r.base) (place.2 d) in
    let its : Holds base (get_or ms place.0 d) = (omega (arith, base_is), omega (arith, base_is, (space.each place.0 d place.1).some)) in
    let one = holds_one ms i place.0 base d d space lt place.1 (here d) its in
    rw (← one) (place.2 d)

pub some_holds : (ms : Space) (base pages : ℕ) → IsSpace ms → Contains (runs_of ms) (record { base = base; pages = pages }) → All (λ m. Holds base m → ⊥) ms → ⊥
some_holds ms base pages space run none =
    let run' : Span = record { base = base; pages = pages } in
    let place = run_index ms run' run in
    let base_is : (get_or ms place.0 no_run).base ≡ base = ap (λ (r : Span). r.base) (place.2 no_run) in
    none place.0 no_run place.1 (omega (arith, base_is), omega (arith, base_is, (space.each place.0 no_run place.1).some))

-- ==== bytes written over a part of a mapped run

-- ---- one run

length-refill : (xs ws : List ℕ) → length (refill (length xs) xs ws) ≡ length xs
length-refill xs ws =
    omega (arith, length-take (length xs) (ws ++ drop (length ws) xs), length-append ws (drop (length ws) xs), length-drop (length ws) xs)

pub length-with_part : (m : MappedRun) (from : ℕ) (w : List ℕ) → length (with_part m from w).bytes ≡ length m.bytes
length-with_part m from w = length-refill m.bytes (spliced m.bytes from w)

length-spliced : (xs : List ℕ) (from : ℕ) (w : List ℕ) → from + length w ≤ length xs → length (spliced xs from w) ≡ length xs
length-spliced xs from w fits =
    omega (arith, length-append (take from xs) (w ++ drop (length w) (drop from xs)), length-append w (drop (length w) (drop from xs)), length-take from xs, length-drop (length w) (drop from xs), length-drop from xs)

bytes-with_part : (m : MappedRun) (from : ℕ) (w : List ℕ) → from + length w ≤ length m.bytes → (with_part m from w).bytes ≡ spliced m.bytes from w
bytes-with_part m from w fits =
    let same : length (spliced m.bytes from w) ≡ length m.bytes = length-spliced m.bytes from w fits in
    take_at (spliced m.bytes from w) (drop (length (spliced m.bytes from w)) m.bytes) (length m.bytes) same

pub get_or-with_part_in : (m : MappedRun) (from : ℕ) (w : List ℕ) (k : ℕ) → from + length w ≤ length m.bytes → k < length w → get_or (with_part m from w).bytes (from + k) 0 ≡ get_or w k 0
get_or-with_part_in m from w k fits lt =
    let front : length (take from m.bytes) ≡ from = omega (arith, length-take from m.bytes) in
    let back : from + k - from ≡ k = omega arith in
    rw (bytes-with_part m from w fits, get_or-append_right (take from m.bytes) (w ++ drop (length w) (drop from m.bytes)) from (from + k) 0 front (omega arith), back)
    (get_or_append_left w (drop (length w) (drop from m.bytes)) 0 k lt)

pub get_or-with_part_out : (m : MappedRun) (from : ℕ) (w : List ℕ) (j : ℕ) → from + length w ≤ length m.bytes → (j < from) ⊎ (from + length w ≤ j) → get_or (with_part m from w).bytes j 0 ≡ get_or m.bytes j 0
get_or-with_part_out m from w j fits out =
    let front : length (take from m.bytes) ≡ from = omega (arith, length-take from m.bytes) in
    elim out [
      | inl low ↦
          rw (bytes-with_part m from w fits, get_or_append_left (take from m.bytes) (w ++ drop (length w) (drop from m.bytes)) 0 j (omega arith))
          (get_or-take from m.bytes j 0 low)
      | inr high ↦
          let back : from + (length w + (j - from - length w)) ≡ j = omega arith in
          rw (bytes-with_part m from w fits, get_or-append_right (take from m.bytes) (w ++ drop (length w) (drop from m.bytes)) from j 0 front (omega arith), get_or-append_right w (drop (length w) (drop from m.bytes)) (length w) (j - from) 0 refl (omega arith), get_or-drop (length w) (drop from m.bytes) (j - from - length w) 0, get_or-drop from m.bytes (length w + (j - from - length w)) 0, back) refl
    ]

-- ---- one run of a space

pub length-with_part_at : (ms : Space) (i from : ℕ) (w : List ℕ) → length (with_part_at ms i from w) ≡ length ms
length-with_part_at [] i from w = refl
length-with_part_at (m ∷ ms) zero from w = refl
length-with_part_at (m ∷ ms) (suc i) from w = ap suc (length-with_part_at ms i from w)

pub base-with_part_at : (ms : Space) (i from : ℕ) (w : List ℕ) (k : ℕ) (d : MappedRun) → (get_or (with_part_at ms i from w) k d).base ≡ (get_or ms k d).base
base-with_part_at [] i from w k d = refl
base-with_part_at (m ∷ ms) zero from w zero d = refl
base-with_part_at (m ∷ ms) zero from w (suc k) d = refl
base-with_part_at (m ∷ ms) (suc i) from w zero d = refl
base-with_part_at (m ∷ ms) (suc i) from w (suc k) d = base-with_part_at ms i from w k d

pub size-with_part_at : (ms : Space) (i from : ℕ) (w : List ℕ) (k : ℕ) (d : MappedRun) → length (get_or (with_part_at ms i from w) k d).bytes ≡ length (get_or ms k d).bytes
size-with_part_at [] i from w k d = refl
size-with_part_at (m ∷ ms) zero from w zero d = length-with_part m from w
size-with_part_at (m ∷ ms) zero from w (suc k) d = refl
size-with_part_at (m ∷ ms) (suc i) from w zero d = refl
size-with_part_at (m ∷ ms) (suc i) from w (suc k) d = size-with_part_at ms i from w k d

pub get_or-with_part_at : (ms : Space) (i from : ℕ) (w : List ℕ) (d : MappedRun) → i < length ms → get_or (with_part_at ms i from w) i d ≡ with_part (get_or ms i d) from w
get_or-with_part_at [] i from w d lt = absurd (omega arith)
get_or-with_part_at (m ∷ ms) zero from w d lt = refl
get_or-with_part_at (m ∷ ms) (suc i) from w d lt = get_or-with_part_at ms i from w d (omega arith)

-- as a write to an element
pub set-with_part_at : (ms : Space) (i from : ℕ) (w : List ℕ) (m : MappedRun) → i < length ms → m ≡ get_or ms i m → slice_set ms i (with_part m from w) ≡ with_part_at ms i from w
set-with_part_at [] i from w m lt is = absurd (omega arith)
set-with_part_at (n ∷ ms) zero from w m lt is = ap (λ (x : MappedRun). with_part x from w ∷ ms) is
set-with_part_at (n ∷ ms) (suc i) from w m lt is = ap (λ (xs : List MappedRun). n ∷ xs) (set-with_part_at ms i from w m (omega arith) is)

pub IsSpace-with_part_at : (ms : Space) (i from : ℕ) (w : List ℕ) → IsSpace ms → IsSpace (with_part_at ms i from w)
IsSpace-with_part_at ms i from w space = record {
  each = λ k d lt.
      let is = space.each k d (omega (arith, length-with_part_at ms i from w)) in
      let base = base-with_part_at ms i from w k d in
      let size = size-with_part_at ms i from w k d in
      record { page = rw base is.page; some = rw size is.some; whole = rw size is.whole; to = rw (base, size) is.to };
  apart = λ k j d less lt.
      rw (base-with_part_at ms i from w k d, size-with_part_at ms i from w k d, base-with_part_at ms i from w j d)
      (space.apart k j d less (omega (arith, length-with_part_at ms i from w)));
}

run_of-with_part : (m : MappedRun) (from : ℕ) (w : List ℕ) → run_of (with_part m from w) ≡ run_of m
run_of-with_part m from w = let run : ℕ → Span = λ n. record { base = m.base; pages = n / PAGE_BYTES } in ap run (length-with_part m from w)

pub runs_of-with_part_at : (ms : Space) (i from : ℕ) (w : List ℕ) → runs_of (with_part_at ms i from w) ≡ runs_of ms
runs_of-with_part_at [] i from w = refl
runs_of-with_part_at (m ∷ ms) zero from w = ap (λ (r : Span). r ∷ runs_of ms) (run_of-with_part m from w)
runs_of-with_part_at (m ∷ ms) (suc i) from w = ap (λ (rs : List Span). run_of m ∷ rs) (runs_of-with_part_at ms i from w)

-- an address that the run doesn't hold
byte_at-with_part_at_other : (a : ℕ) (ms : Space) (i from : ℕ) (w : List ℕ) (d : MappedRun) → i < length ms → (Holds a (get_or ms i d) → ⊥) → byte_at (with_part_at ms i from w) a ≡ byte_at ms a
byte_at-with_part_at_other a [] i from w d lt not = absurd (omega arith)
byte_at-with_part_at_other a (m ∷ ms) zero from w d lt not =
    byte_at-set_other a m (with_part m from w) ms not (λ h. not (h.0, omega (arith, h.1, length-with_part m from w)))
byte_at-with_part_at_other a (m ∷ ms) (suc i) from w d lt not =
    ap (λ (o : Option ℕ). option_or (byte_in m a) o) (byte_at-with_part_at_other a ms i from w d (omega arith) not)

-- an address that the run holds
byte_at-with_part_at_here : (a : ℕ) (ms : Space) (i from : ℕ) (w : List ℕ) (d : MappedRun) → IsSpace ms → i < length ms → Holds a (get_or ms i d) → byte_at (with_part_at ms i from w) a ≡ Some (get_or (with_part (get_or ms i d) from w).bytes (a - (get_or ms i d).base) 0)
byte_at-with_part_at_here a ms i from w d space lt here =
    let m = get_or ms i d in
    let holds : Holds a (with_part m from w) = (here.0, omega (arith, here.1, length-with_part m from w)) in
    let is = get_or-with_part_at ms i from w d lt in
    let found = byte_at-here a (with_part_at ms i from w) i d (IsSpace-with_part_at ms i from w space) (omega (arith, length-with_part_at ms i from w)) (rw is holds) in
    rw is at found

pub Writes-with_part_at : (ms : Space) (i from at count : ℕ) (w : List ℕ) → IsSpace ms → i < length ms → HoldsAt (HoldsRange at from count) ms i → length w ≡ count → Writes ms (with_part_at ms i from w) at count (λ k. get_or w k 0)
Writes-with_part_at ms i from at count w space lt holds len =
    let d : MappedRun = record { base = 0; bytes = [] } in
    let m : MappedRun = get_or ms i d in
    let range = holds d in
    let fits : from + length w ≤ length m.bytes = omega (arith, range.1) in
    record {
      stored = λ k below.
          let here : Holds (at + k) m = (omega (arith, range.0), omega (arith, range.0, range.1)) in
          let offset : at + k - m.base ≡ from + k = omega (arith, range.0) in
          byte_at-with_part_at_here (at + k) ms i from w d space lt here
          ∙ rw (offset, get_or-with_part_in m from w k fits (omega arith)) refl;
      others = λ a out. elim (holds_cases a m) [
        | inl here ↦
            let away : (a - m.base < from) ⊎ (from + length w ≤ a - m.base) = elim out [ inl low ↦ inl (omega (arith, range.0, here.0)) | inr high ↦ inr (omega (arith, range.0, here.0)) ] in
            byte_at-with_part_at_here a ms i from w d space lt here
            ∙ rw (get_or-with_part_out m from w (a - m.base) fits away) (sym (byte_at-here a ms i d space lt here))
        | inr not ↦ byte_at-with_part_at_other a ms i from w d lt not
      ];
      runs = runs_of-with_part_at ms i from w;
    }

-- ---- writes

-- an address is at an offset of a range, or outside of it
in_range : (a at count : ℕ) → ((k : ℕ) × (k < count) × (at + k ≡ a)) ⊎ ((a < at) ⊎ (at + count ≤ a))
in_range a at count =
    elim (cases_lt a at) [
      | inl low ↦ inr (inl low)
      | inr from ↦ elim (cases_lt a (at + count)) [ inl to ↦ inl (a - at, omega arith, omega arith) | inr past ↦ inr (inr past) ]
    ]

pub Writes-none : (ms : Space) (at count : ℕ) (f : ℕ → ℕ) → count ≡ 0 → Writes ms ms at count f
Writes-none ms at count f none = record { stored = λ k lt. absurd (omega arith); others = λ a out. refl; runs = refl }

pub Writes-same : (old new : List MappedRun) (at count : ℕ) (f g : ℕ → ℕ) → Writes old new at count f → ((k : ℕ) → k < count → f k ≡ g k) → Writes old new at count g
Writes-same old new at count f g h same = record { stored = λ k lt. h.stored k lt ∙ ap (λ (b : ℕ). Some b) (same k lt); others = h.others; runs = h.runs }

pub Writes-more : (old mid new : List MappedRun) (at n b : ℕ) (f : ℕ → ℕ) → Writes old mid at n f → Writes mid new (at + n) 1 (λ _. b) → b ≡ f n → Writes old new at (n + 1) f
Writes-more old mid new at n b f h one is = record {
  stored = λ k lt. elim (cases_lt k n) [
    | inl less ↦ one.others (at + k) (inl (omega arith)) ∙ h.stored k less
    | inr more ↦
        let same : k ≡ n = omega arith in
        let place : at + k ≡ at + n + 0 = omega arith in
        rw (place, one.stored 0 (omega arith), is, same) refl
  ];
  others = λ a out.
      let out' : (a < at + n) ⊎ (at + n + 1 ≤ a) = elim out [ inl low ↦ inl (omega arith) | inr high ↦ inr (omega arith) ] in
      let out'' : (a < at) ⊎ (at + n ≤ a) = elim out [ inl low ↦ inl low | inr high ↦ inr (omega arith) ] in
      one.others a out' ∙ h.others a out'';
  runs = one.runs ∙ h.runs;
}

pub IsMappedRange-rest : (old mid : List MappedRun) (at n count : ℕ) (f : ℕ → ℕ) → IsMappedRange old at count → Writes old mid at n f → n < count → IsMappedRange mid (at + n) 1
IsMappedRange-rest old mid at n count f mapped h lt k one =
    let place : at + n + k ≡ at + n = omega arith in
    rw (place, h.others (at + n) (inr (omega arith))) (mapped n lt)

pub put_one : (ms : Space) (i from at b : ℕ) (part : List ℕ) → IsSpace ms → i < length ms → HoldsAt (HoldsRange at from 1) ms i → length part ≡ 1 → Writes ms (with_part_at ms i from (slice_set part 0 b)) at 1 (λ _. b)
put_one ms i from at b part space lt holds len =
    let set_len : length (slice_set part 0 b) ≡ 1 = length-set part 0 b ∙ len in
    Writes-same ms (with_part_at ms i from (slice_set part 0 b)) at 1 (λ k. get_or (slice_set part 0 b) k 0) (λ _. b)
    (Writes-with_part_at ms i from at 1 (slice_set part 0 b) space lt holds set_len)
    (λ k below. let first : k ≡ 0 = omega arith in rw (first, get_or-set_same part 0 b 0 (omega arith)) refl)

with_bytes-here : (m : MappedRun) (ms : Space) (at : ℕ) (w : List ℕ) → Holds at m → with_bytes (m ∷ ms) at w ≡ with_part m (at - m.base) w ∷ ms
with_bytes-here m ms at w h = ap (λ (o : Option ℕ). cond (is_some o) (with_part m (at - m.base) w ∷ ms) (m ∷ with_bytes ms at w)) (byte_in-holds at m h)

with_bytes-there : (m : MappedRun) (ms : Space) (at : ℕ) (w : List ℕ) → (Holds at m → ⊥) → with_bytes (m ∷ ms) at w ≡ m ∷ with_bytes ms at w
with_bytes-there m ms at w h = ap (λ (o : Option ℕ). cond (is_some o) (with_part m (at - m.base) w ∷ ms) (m ∷ with_bytes ms at w)) (byte_in-not at m h)

with_bytes-place : (ms : Space) (i from at : ℕ) (w : List ℕ) (d : MappedRun) → i < length ms → ((k : ℕ) (e : MappedRun) → k < i → Holds at (get_or ms k e) → ⊥) → Holds at (get_or ms i d) → (get_or ms i d).base + from ≡ at → with_bytes ms at w ≡ with_part_at ms i from w
with_bytes-place [] i from at w d lt below here is = absurd (omega arith)
with_bytes-place (m ∷ ms) zero from at w d lt below here is =
    let offset : at - m.base ≡ from = omega arith in
    with_bytes-here m ms at w here ∙ ap (λ (n : ℕ). with_part m n w ∷ ms) offset
with_bytes-place (m ∷ ms) (suc i) from at w d lt below here is =
    with_bytes-there m ms at w (below 0 m (omega arith)) ∙ ap (λ (xs : List MappedRun). m ∷ xs) (with_bytes-place ms i from at w d (omega arith) (λ k e less. below (suc k) e (omega arith)) here is)

pub with_part_at-bytes : (ms : Space) (i from at count : ℕ) (w : List ℕ) → IsSpace ms → 0 < count → i < length ms → HoldsAt (HoldsRange at from count) ms i → with_part_at ms i from w ≡ with_bytes ms at w
with_part_at-bytes ms i from at count w space some lt range =
    let d : MappedRun = record { base = 0; bytes = [] } in
    let r = range d in
    let here : Holds at (get_or ms i d) = (omega (arith, r.0), omega (arith, r.0, r.1)) in
    sym (with_bytes-place ms i from at w d lt (λ k e less h. let same = holds_one ms i k at d e space lt (omega arith) here h in omega arith) here r.0)

-- a range that one run holds is mapped
pub IsMappedRange-place : (ms : Space) (i from at count : ℕ) → IsSpace ms → i < length ms → HoldsAt (HoldsRange at from count) ms i → IsMappedRange ms at count
IsMappedRange-place ms i from at count space lt range k below =
    let r = range no_run in
    let here : Holds (at + k) (get_or ms i no_run) = (omega (arith, r.0), omega (arith, r.0, r.1)) in
    rw (byte_at-here (at + k) ms i no_run space lt here) refl

pub IsSound-with_part_at : (ms : Space) (i from : ℕ) (w : List ℕ) → IsSpace ms → IsSound (with_part_at ms i from w)
IsSound-with_part_at ms i from w space = IsSound-from_space (with_part_at ms i from w) (IsSpace-with_part_at ms i from w space)

-- bytes written from an address on are written over a part of one run, or of none
part_of_bytes : (ms : Space) (at : ℕ) (w : List ℕ) → (i : ℕ) × (from : ℕ) × (with_bytes ms at w ≡ with_part_at ms i from w)
part_of_bytes [] at w = (0, 0, refl)
part_of_bytes (m ∷ ms) at w =
    elim (holds_cases at m) [
      | inl here ↦ (0, at - m.base, with_bytes-here m ms at w here)
      | inr not ↦ let rest = part_of_bytes ms at w in (suc rest.0, rest.1, with_bytes-there m ms at w not ∙ ap (λ (xs : Space). m ∷ xs) rest.2)
    ]

pub IsSound-with_bytes : (ms : Space) (at : ℕ) (w : List ℕ) → IsSpace ms → IsSound (with_bytes ms at w)
IsSound-with_bytes ms at w space = let part = part_of_bytes ms at w in rw part.2 (IsSound-with_part_at ms part.0 part.1 w space)

-- bytes written to a range that was mapped leave a sound space
pub IsSound-writes : (old new : Space) (at count : ℕ) (f : ℕ → ℕ) → IsSound old → IsMappedRange old at count → Writes old new at count f → IsSound new
IsSound-writes old new at count f sound mapped written = record {
  runs = rw written.runs sound.runs;
  apart = rw written.runs sound.apart;
  held = λ a h. rw written.runs (elim (in_range a at count) [
    | inl inside ↦ sound.held a (rw inside.2 at (mapped inside.0 inside.1))
    | inr outside ↦ sound.held a (rw (written.others a outside) at h)
  ]);
  mapped = λ a h.
      let was = sound.mapped a (rw written.runs at h) in
      elim (in_range a at count) [
        | inl inside ↦ let byte : byte_at new a ≡ Some (f inside.0) = rw inside.2 at (written.stored inside.0 inside.1) in rw byte refl
        | inr outside ↦ rw (written.others a outside) was
      ];
}

-- what a lent part of a run gives
pub record IsLent (ms : Space) (at count : ℕ) (part : List ℕ) : Type 0 where
  pub writes : (w : List ℕ) → length w ≡ count → Writes ms (with_bytes ms at w) at count (λ k. get_or w k 0)
  pub bytes : HasBytes ms at count (λ k. get_or part k 0)

pub IsLent-part : (ms : Space) (i from at count : ℕ) (part : List ℕ) → IsSpace ms → 0 < count → i < length ms → HoldsAt (HoldsRange at from count) ms i → HoldsAt (λ m. part ≡ between from (from + count) m.bytes) ms i → IsLent ms at count part
IsLent-part ms i from at count part space some lt range is =
    let d : MappedRun = record { base = 0; bytes = [] } in
    let m : MappedRun = get_or ms i d in
    record {
      writes = λ w len. subst (λ (new : List MappedRun). Writes ms new at count (λ k. get_or w k 0)) (with_part_at-bytes ms i from at count w space some lt range) (Writes-with_part_at ms i from at count w space lt range len);
      bytes = subst (λ (xs : List ℕ). HasBytes ms at count (λ k. get_or xs k 0)) (sym (is d)) (HasBytes-part ms i at from count m space lt (get_or_default ms i d m lt) (range d));
    }
