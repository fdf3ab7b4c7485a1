-- What a contents log has after an item was entered, and how its items are read.
use Rattle.std.proofs.Common.{◌≡◌, ℕ, suc, ◌+◌, ◌-◌, ◌*◌, ◌^◌, ◌<◌, ◌≤◌, ◌∙◌, Bool, cond, ltb, min, List, [], ◌∷◌, ◌++◌, length, take, drop, Option, None, refl, sym, ap, inl, inr, arith, length-append, length-drop, append_assoc}
use Rattle.std.specs.Prelude.{slice_get, slice_range}
use Rattle.std.specs.List.{All}
use Rattle.std.specs.Option.{option_map_or}
use Rattle.std.proofs.lemmas.Bool.{cases_lt, lt-ltb, le-ltb}
use Rattle.std.proofs.lemmas.Grind.{common_steps}
use Rattle.std.proofs.lemmas.List.{append-nil, length-take, take-append-le, drop-append-le}
use Rattle.std.proofs.lemmas.List.Elements.{All-cons, All-head, All-nil, All-push, All-tail}
use Rattle.std.proofs.lemmas.List.Sums.{sum_by-append, sum_by-cons, sum_by-le}
use Rattle.std.proofs.Math.Seq.{drop-append-add, take-append-add, take-length}
use Rattle.circular_buffer.specs.Buffer.{Buffer, buffer, keep_last}
use Rattle.trans_log.specs.declared.record.Saved.{Saved}
use Rattle.trans_log.specs.declared.saved_record.SavedRecord.{SavedRecord}
use Rattle.trans_log.specs.Last.{last_of}
use Rattle.trans_log.specs.SavedLog.{IsSavedLog, bytes_in_all, saved_by, saved_of}

-- where there is room nothing goes
last_of-all : {T : Type 0} (c : ℕ) (xs : List T) → length xs ≤ c → last_of c xs ≡ xs
last_of-all c xs le = let none : length xs - c ≡ 0 = omega arith in ap (λ n. drop n xs) none

-- what is dropped so that one part less is kept
drop-kept : (gone : ℕ) (bs : List ℕ) → gone ≤ length bs → keep_last (length bs - gone) bs ≡ drop gone bs
drop-kept gone bs le = let same : length bs - (length bs - gone) ≡ gone = omega arith in ap (λ n. drop n bs) same

pub bytes_in_all-cons : (r : SavedRecord) (rs : List SavedRecord) → bytes_in_all (r ∷ rs) ≡ r.length + bytes_in_all rs
bytes_in_all-cons r rs = sum_by-cons (λ (r : SavedRecord). r.length) r rs

length-saved_by : (rs : List SavedRecord) (bs : List ℕ) → length (saved_by rs bs) ≡ length rs
length-saved_by [] bs = refl
length-saved_by (r ∷ rs) bs = ap suc (length-saved_by rs (drop r.length bs))

saved_by-append : (rs : List SavedRecord) (bs : List ℕ) (r : SavedRecord) (new : List ℕ) → bytes_in_all rs ≡ length bs → r.length ≡ length new
    → saved_by (rs ++ r ∷ []) (bs ++ new) ≡ saved_by rs bs ++ saved_of r new ∷ []
saved_by-append [] [] r new whole fits = ap (λ (bytes : List ℕ). saved_of r bytes ∷ []) (grind (arith, common_steps))
saved_by-append [] (b ∷ bs) r new whole fits = absurd (omega arith)
saved_by-append (x ∷ xs) bs r new whole fits =
    let whole : x.length + bytes_in_all xs ≡ length bs = sym (bytes_in_all-cons x xs) ∙ whole in
    let within : x.length ≤ length bs = omega arith in
    let front : take x.length (bs ++ new) ≡ take x.length bs = take-append-le x.length bs new within in
    let behind : drop x.length (bs ++ new) ≡ drop x.length bs ++ new = drop-append-le x.length bs new within in
    let rest : saved_by (xs ++ r ∷ []) (drop x.length bs ++ new) ≡ saved_by xs (drop x.length bs) ++ saved_of r new ∷ [] =
    saved_by-append xs (drop x.length bs) r new (omega (arith, length-drop x.length bs)) fits in
    cc

-- one more record has room, and so have its bytes
bytes-within : (cap count : ℕ) (rs : List SavedRecord) (bs new : List ℕ) → length rs < cap → All (λ r. r.length ≤ count) rs
    → bytes_in_all rs ≡ length bs → length new ≤ count → length (bs ++ new) ≤ cap * count
bytes-within cap count rs bs new room short whole le =
    let most : bytes_in_all rs ≤ length rs * count = sum_by-le (λ r. r.length) count rs short in
    within (length rs) most room
  where
    within : (n : ℕ) → bytes_in_all rs ≤ n * count → n < cap → length (bs ++ new) ≤ cap * count
    within n most room = grind (arith, length-append bs new)

-- what the log is and has after an item was entered
abbrev Entered : ℕ → ℕ → ℕ → List SavedRecord → List ℕ → List Saved → Type 0
Entered cap count room rs bs items = IsSavedLog cap count room rs bs × (saved_by rs bs ≡ items)

-- the item is entered where there is room
entered-spare : (cap count room : ℕ) (rs : List SavedRecord) (bs : List ℕ) (r : SavedRecord) (new : List ℕ) → IsSavedLog cap count room rs bs → length rs < cap
    → length new ≤ count → r.length ≡ length new → Entered cap count room (rs ++ r ∷ []) (keep_last room (bs ++ new)) (saved_by rs bs ++ saved_of r new ∷ [])
entered-spare cap count room rs bs r new log spare le fits =
    let within : length (bs ++ new) ≤ room = let most = bytes-within cap count rs bs new spare log.short log.whole le in omega (arith, log.fits) in
    let all : keep_last room (bs ++ new) ≡ bs ++ new = last_of-all room (bs ++ new) within in
    let sums : bytes_in_all (rs ++ r ∷ []) ≡ length (bs ++ new) =
    omega (arith, sum_by-append (λ (r : SavedRecord). r.length) rs (r ∷ []), length-append bs new, log.whole) in
    rw all (
      record {
        within = omega (arith, length-append rs (r ∷ []));
        small = log.small;
        fits = log.fits;
        short = All-push (λ (r : SavedRecord). r.length ≤ count) rs r log.short (omega arith);
        whole = sums;
      },
      saved_by-append rs bs r new log.whole fits,
    )

-- without its oldest item it is a log
IsSavedLog-drop : (cap count room : ℕ) (x : SavedRecord) (rs : List SavedRecord) (bs : List ℕ) → IsSavedLog cap count room (x ∷ rs) bs
    → IsSavedLog cap count room rs (drop x.length bs)
IsSavedLog-drop cap count room x rs bs log =
    record {
      within = omega (arith, log.within);
      small = log.small;
      fits = log.fits;
      short = All-tail (λ (r : SavedRecord). r.length ≤ count) x rs log.short;
      whole = omega (arith, log.whole, bytes_in_all-cons x rs, length-drop x.length bs);
    }

-- the item is entered, and the oldest one goes where the log is full
entered-items : (cap count room : ℕ) (rs : List SavedRecord) (bs : List ℕ) (r : SavedRecord) (new : List ℕ) (oldest : Option SavedRecord) (gone : ℕ) → IsSavedLog cap count room rs bs → 0 < cap
    → length new ≤ count → r.length ≡ length new → oldest ≡ cond (ltb (length rs) cap) None (slice_get (rs ++ r ∷ []) 0) → gone ≡ option_map_or (λ r. r.length) oldest 0
    → Entered cap count room (keep_last cap (rs ++ r ∷ [])) (keep_last room (keep_last (length bs - gone) bs ++ new)) (last_of cap (saved_by rs bs ++ saved_of r new ∷ []))
entered-items cap count room rs bs r new oldest gone log some le fits first less =
    elim (cases_lt (length rs) cap) [
      | inl spare ↦
          let none : oldest ≡ None = first ∙ ap (λ (b : Bool). cond b None (slice_get (rs ++ r ∷ []) 0)) (lt-ltb (length rs) cap spare) in
          let nothing : gone ≡ 0 = less ∙ ap (λ (o : Option SavedRecord). option_map_or (λ r. r.length) o 0) none in
          let records : keep_last cap (rs ++ r ∷ []) ≡ rs ++ r ∷ [] = last_of-all cap (rs ++ r ∷ []) (omega (arith, length-append rs (r ∷ []))) in
          let bytes : keep_last (length bs - gone) bs ≡ bs = last_of-all (length bs - gone) bs (omega arith) in
          let items : last_of cap (saved_by rs bs ++ saved_of r new ∷ []) ≡ saved_by rs bs ++ saved_of r new ∷ [] =
          last_of-all cap _ (omega (arith, length-append (saved_by rs bs) (saved_of r new ∷ []), length-saved_by rs bs)) in
          rw (records, bytes, items) (entered-spare cap count room rs bs r new log spare le fits)
      | inr full ↦ entered-full rs log full (first ∙ ap (λ (b : Bool). cond b None (slice_get (rs ++ r ∷ []) 0)) (le-ltb (length rs) cap full))
    ]
  where
    entered-full : (rs : List SavedRecord) → IsSavedLog cap count room rs bs → cap ≤ length rs → oldest ≡ slice_get (rs ++ r ∷ []) 0
        → Entered cap count room (keep_last cap (rs ++ r ∷ [])) (keep_last room (keep_last (length bs - gone) bs ++ new)) (last_of cap (saved_by rs bs ++ saved_of r new ∷ []))
    entered-full [] log full first = absurd (omega arith)
    entered-full (x ∷ xs) log full first =
        let one : gone ≡ x.length = less ∙ ap (λ (o : Option SavedRecord). option_map_or (λ r. r.length) o 0) first in
        let within : x.length ≤ length bs = omega (arith, log.whole, bytes_in_all-cons x xs) in
        let records : keep_last cap ((x ∷ xs) ++ r ∷ []) ≡ xs ++ r ∷ [] =
        let drops : length ((x ∷ xs) ++ r ∷ []) - cap ≡ 1 = omega (arith, log.within, length-append xs (r ∷ [])) in ap (λ n. drop n ((x ∷ xs) ++ r ∷ [])) drops in
        let bytes : keep_last (length bs - gone) bs ≡ drop x.length bs = drop-kept gone bs (omega arith) ∙ ap (λ n. drop n bs) one in
        let rest = saved_by xs (drop x.length bs) in
        let items : last_of cap (saved_by (x ∷ xs) bs ++ saved_of r new ∷ []) ≡ rest ++ saved_of r new ∷ [] =
        let drops : length (saved_by (x ∷ xs) bs ++ saved_of r new ∷ []) - cap ≡ 1 = omega (arith, log.within, length-append rest (saved_of r new ∷ []), length-saved_by xs (drop x.length bs)) in ap (λ n. drop n (saved_by (x ∷ xs) bs ++ saved_of r new ∷ [])) drops in
        rw (records, bytes, items) (entered-spare cap count room xs (drop x.length bs) r new (IsSavedLog-drop cap count room x xs bs log) (omega (arith, log.within)) le fits)

-- the same for the buffers of a log
pub entered-log : (records after : Buffer SavedRecord) (bytes left now : Buffer ℕ) (count : ℕ) (r : SavedRecord) (new : List ℕ) (oldest : Option SavedRecord) (gone : ℕ)
    → IsSavedLog records.capacity count bytes.capacity records.items bytes.items → 0 < records.capacity → length new ≤ count → r.length ≡ length new
    → after ≡ buffer (keep_last records.capacity (records.items ++ r ∷ [])) records.capacity
    → oldest ≡ cond (ltb (length records.items) records.capacity) None (slice_get (records.items ++ r ∷ []) 0)
    → gone ≡ option_map_or (λ r. r.length) oldest 0
    → left ≡ buffer (keep_last (length bytes.items - gone) bytes.items) bytes.capacity
    → now ≡ buffer (keep_last left.capacity (left.items ++ new)) left.capacity
    → Entered after.capacity count now.capacity after.items now.items (last_of records.capacity (saved_by records.items bytes.items ++ saved_of r new ∷ []))
entered-log records after bytes left now count r new oldest gone log some le fits pushed first less cut extended =
    let both = entered-items records.capacity count bytes.capacity records.items bytes.items r new oldest gone log some le fits first less in
    rw (pushed, extended, cut) both

-- ---- reading

-- a range over two pieces
pub joined-range : (front back : List ℕ) (start end : ℕ) → start ≤ end → end ≤ length front + length back
    → slice_range front (min start (length front)) (min end (length front)) ++ slice_range back (start - length front) (end - length front) ≡ slice_range (front ++ back) start end
joined-range front back start end le within =
    let middle = length front in
    elim (cases_lt middle start) [
      | inl behind ↦
          let left : min end middle - min start middle ≡ 0 = omega arith in
          let start-is : start ≡ middle + (start - middle) = omega arith in
          let count-is : end - middle - (start - middle) ≡ end - start = omega arith in
          let dropped : drop start (front ++ back) ≡ drop (start - middle) back = ap (λ n. drop n (front ++ back)) start-is ∙ drop-append-add front back (start - middle) in
          rw (left, count-is, dropped)
      | inr before ↦
          elim (cases_lt middle end) [
            | inl across ↦
                let first : min start middle ≡ start = omega arith in
                let last : min end middle ≡ middle = omega arith in
                let none : start - middle ≡ 0 = omega arith in
                let rest : end - middle - 0 ≡ end - middle = omega arith in
                let whole : take (middle - start) (drop start front) ≡ drop start front =
                ap (λ n. take n (drop start front)) (sym (length-drop start front)) ∙ take-length (drop start front) in
                let count-is : end - start ≡ length (drop start front) + (end - middle) = omega (arith, length-drop start front) in
                let range : take (end - start) (drop start (front ++ back)) ≡ drop start front ++ take (end - middle) back =
                ap (take (end - start)) (drop-append-le start front back before) ∙ ap (λ n. take n (drop start front ++ back)) count-is ∙ take-append-add (drop start front) back (end - middle) in
                rw (first, last, none, rest, whole, range)
            | inr front_alone ↦
                let first : min start middle ≡ start = omega arith in
                let last : min end middle ≡ end = omega arith in
                let none : end - middle - (start - middle) ≡ 0 = omega arith in
                let range : take (end - start) (drop start (front ++ back)) ≡ take (end - start) (drop start front) =
                ap (take (end - start)) (drop-append-le start front back before) ∙ take-append-le (end - start) (drop start front) back (omega (arith, length-drop start front)) in
                rw (first, last, none, range) (append-nil _)
          ]
    ]

-- the same from its parts
pub joined-parts : (front back : List ℕ) (start end from to behind until : ℕ) (text all : List ℕ) → start ≤ end → end ≤ length front + length back
    → from ≡ min start (length front) → to ≡ min end (length front) → behind ≡ start - length front → until ≡ end - length front
    → text ≡ slice_range front from to → all ≡ text ++ slice_range back behind until → all ≡ slice_range (front ++ back) start end
joined-parts front back start end from to behind until text all le within a b c d first both =
    both ∙ rw (first, a, b, c, d) (joined-range front back start end le within)

-- one more item is read
pub saved_by-read : (start end : ℕ) (r : SavedRecord) (rs : List SavedRecord) (bytes text : List ℕ) (items now : List Saved) (item : Saved) (all : List Saved)
    → end ≡ start + r.length → text ≡ slice_range bytes start end → item ≡ saved_of r text → now ≡ items ++ item ∷ []
    → items ++ saved_by (r ∷ rs) (drop start bytes) ≡ all → now ++ saved_by rs (drop end bytes) ≡ all
saved_by-read start end r rs bytes text items now item all next read whole pushed left =
    let count-is : end - start ≡ r.length = omega arith in
    let text-is : text ≡ take r.length (drop start bytes) = read ∙ ap (λ n. take n (drop start bytes)) count-is in
    let rest : drop end bytes ≡ drop r.length (drop start bytes) = grind (arith, common_steps) in
    let first : item ≡ saved_of r (take r.length (drop start bytes)) = whole ∙ ap (saved_of r) text-is in
    rw (pushed, rest, first, append_assoc) left

-- a log has no more items than it keeps
pub saved_by-within : (cap count room : ℕ) (rs : List SavedRecord) (bs : List ℕ) → IsSavedLog cap count room rs bs → (length (saved_by rs bs) ≤ cap) × (cap < 2 ^ 32)
saved_by-within cap count room rs bs log = (omega (arith, length-saved_by rs bs, log.within), log.small)

-- an item has no more bytes than its record says
pub saved_by-short : (count : ℕ) (rs : List SavedRecord) (bs : List ℕ) → All (λ r. r.length ≤ count) rs
    → All (λ item. length item.bytes ≤ count) (saved_by rs bs)
saved_by-short count [] bs short = All-nil (λ (item : Saved). length item.bytes ≤ count)
saved_by-short count (r ∷ rs) bs short =
    let first : r.length ≤ count = All-head (λ (r : SavedRecord). r.length ≤ count) r rs short in
    All-cons (λ (item : Saved). length item.bytes ≤ count) (saved_of r (take r.length bs)) (saved_by rs (drop r.length bs)) (omega (arith, first, length-take r.length bs))
    (saved_by-short count rs (drop r.length bs) (All-tail (λ (r : SavedRecord). r.length ≤ count) r rs short))
