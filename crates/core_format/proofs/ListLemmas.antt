-- The list of a slab rises within the slab's chunks.
use Rattle.std.proofs.Common.{◌≡◌, ℕ, zero, suc, ◌-◌, ◌<◌, ◌≤◌, true, ◌&&◌, ltb, leb, List, [], ◌∷◌, ◌++◌, length, get_or, Option, Some, Result, Ok, Err, refl, sym, ap, subst, ◌∙◌, arith, inl, inr}
use Rattle.std.specs.Prelude.{slice_index}
use Rattle.std.proofs.lemmas.Bool.{and_parts, cases_lt, leb-true, ltb-true}
use Rattle.std.proofs.lemmas.List.{get_or_append_left}
use Rattle.core_format.specs.declared.fault.Fault.TheVariants.{BadRound, RoundTwice, Unsorted}
use Rattle.core_format.specs.Items.{is_above, is_unlike, items_at, last_of_list}
use Rattle.core_format.specs.Reader.{Flaw, Reader, ◌>>=◌, record_at, rule}
use Rattle.core_format.specs.Slabs.{listed_at}
use Rattle.core_format.specs.SlabTable.{IsRisingWithin}
use Rattle.core_format.proofs.CacheLemmas.{rule-holds}
use Rattle.core_format.proofs.RangeLemmas.{last_get}
use Rattle.core_format.proofs.SlabTableLemmas.{at_push}

-- the value of a step that had no flaw
pub bind_ok : {A B : Type 0} (r : Result A Flaw) (next : A → Result B Flaw) (y : B) → (r >>= next) ≡ Ok y → (x : A) × (r ≡ Ok x) × (next x ≡ Ok y)
bind_ok (Ok x) next y e = (x, refl, e)
bind_ok (Err d) next y e = absurd cc

abbrev done : {A : Type 0} → A → Result A Flaw
done x = Ok x

pub ok_is : {A : Type 0} (x y : A) → done x ≡ done y → x ≡ y
ok_is x y e = cc

above_last : (numbers : List ℕ) (number i : ℕ) → is_above (last_of_list numbers) number ≡ true → ((i j : ℕ) → i < j → j < length numbers → get_or numbers i 0 < get_or numbers j 0) → i < length numbers → get_or numbers i 0 < number
above_last numbers number i above rises lt =
    let last : last_of_list numbers ≡ Some (get_or numbers (length numbers - 1) 0) = last_get numbers (length numbers - 1) 0 (omega arith) in
    let low : get_or numbers (length numbers - 1) 0 < number = ltb-true _ _ (sym (ap (λ (o : Option ℕ). is_above o number) last) ∙ above) in
    elim (cases_lt i (length numbers - 1)) [
      | inl less ↦ omega (arith, rises i (length numbers - 1) less (omega arith))
      | inr more ↦ let same : i ≡ length numbers - 1 = omega arith in rw same low
    ]

pub rises_push : (first past chunk : ℕ) (numbers : List ℕ) → IsRisingWithin first past numbers → first ≤ chunk → chunk < past → is_above (last_of_list numbers) chunk ≡ true → IsRisingWithin first past (numbers ++ chunk ∷ [])
rises_push first past chunk numbers within low high above = record {
  rising = λ i j lt bound. elim (at_push numbers chunk 0 j bound) [
    | inl before ↦ rw (before.1, get_or_append_left numbers (chunk ∷ []) 0 i (omega (arith, before.0))) (within.rising i j lt before.0)
    | inr last ↦ rw (last.1, get_or_append_left numbers (chunk ∷ []) 0 i (omega (arith, last.0))) (above_last numbers chunk i above within.rising (omega (arith, last.0)))
  ];
  low = λ i bound. elim (at_push numbers chunk 0 i bound) [ inl before ↦ rw before.1 (within.low i before.0) | inr last ↦ rw last.1 low ];
  high = λ i bound. elim (at_push numbers chunk 0 i bound) [ inl before ↦ rw before.1 (within.high i before.0) | inr last ↦ rw last.1 high ];
}

listed_keeps : (first past : ℕ) (before : List ℕ) (here : Reader) (x : ℕ × Reader) → IsRisingWithin first past before → listed_at first past before here ≡ Ok x → IsRisingWithin first past (before ++ x.0 ∷ [])
unfolding listed_at
listed_keeps first past before here x within e =
    let fields = bind_ok (record_at (4 ∷ []) here) (λ fields. rule (leb first (slice_index fields.0 0) && ltb (slice_index fields.0 0) past) here.at BadRound >>= λ _. rule (is_unlike (last_of_list before) (slice_index fields.0 0)) here.at RoundTwice >>= λ _. rule (is_above (last_of_list before) (slice_index fields.0 0)) here.at Unsorted >>= λ _. Ok (slice_index fields.0 0, fields.1)) x e in
    let chunk = slice_index fields.0.0 0 in
    let after = fields.0.1 in
    let a = rule-holds (leb first chunk && ltb chunk past) here.at BadRound (λ _. rule (is_unlike (last_of_list before) chunk) here.at RoundTwice >>= λ _. rule (is_above (last_of_list before) chunk) here.at Unsorted >>= λ _. Ok (chunk, after)) x fields.2 in
    let b = rule-holds (is_unlike (last_of_list before) chunk) here.at RoundTwice (λ _. rule (is_above (last_of_list before) chunk) here.at Unsorted >>= λ _. Ok (chunk, after)) x a.1 in
    let d = rule-holds (is_above (last_of_list before) chunk) here.at Unsorted (λ _. Ok (chunk, after)) x b.1 in
    let bounds = and_parts (leb first chunk) (ltb chunk past) a.0 in
    let made : ℕ × Reader = (chunk, after) in
    subst (λ (y : ℕ × Reader). IsRisingWithin first past (before ++ y.0 ∷ [])) (ok_is made x d.1) (rises_push first past chunk before within (leb-true _ _ bounds.0) (ltb-true _ _ bounds.1) d.0)

-- what is read of a list rises
pub listed_rises : (first past count : ℕ) (before out : List ℕ) (here there : Reader) → IsRisingWithin first past before → items_at (listed_at first past) count before here ≡ Ok (out, there) → IsRisingWithin first past out
unfolding items_at
listed_rises first past zero before out here there within e =
    let made : List ℕ × Reader = (before, here) in
    let found : List ℕ × Reader = (out, there) in
    subst (λ (y : List ℕ × Reader). IsRisingWithin first past y.0) (ok_is made found e) within
listed_rises first past (suc count) before out here there within e =
    let found : List ℕ × Reader = (out, there) in
    let next = bind_ok (listed_at first past before here) (λ next. items_at (listed_at first past) count (before ++ next.0 ∷ []) next.1) found e in
    listed_rises first past count (before ++ next.0.0 ∷ []) out next.0.1 there (listed_keeps first past before here next.0 within next.1) next.2

pub none_rises : (first past : ℕ) → IsRisingWithin first past []
none_rises first past = record { rising = λ i j lt bound. absurd (omega arith); low = λ i bound. absurd (omega arith); high = λ i bound. absurd (omega arith) }
