-- Entries that stand legal and tidy behind others, by the state that those left.
use Rattle.std.proofs.Common.{◌≡◌, ℕ, zero, suc, ◌+◌, List, [], ◌∷◌, ◌++◌, length, take, drop, Option, Some, None, refl, sym, ap, ◌∙◌, subst, arith, inl, inr}
use Rattle.std.specs.List.{slice_get}
use Rattle.std.proofs.lemmas.List.{append_assoc, length-append}
use Rattle.std.proofs.Math.Seq.{take-append_seam}
use Rattle.plain_heap.specs.declared.entry.Body.{Body}
use Rattle.plain_heap.specs.declared.entry.Body.TheVariants.{Call, Grow, Shrink}
use Rattle.plain_heap.specs.declared.entry.Entry.{Entry}
use Rattle.plain_heap.specs.Answers.{AreTidy, IsTidyBody}
use Rattle.plain_heap.specs.Legal.{IsLegal, IsLegalBody, IsLegalEntry, next_of_thread}
use Rattle.plain_heap.specs.Setting.{Setting}
use Rattle.plain_heap.specs.State.{State, after_entry, state_of}
use Rattle.plain_heap.proofs.EntryLemmas.{get_either, get_front, legal_grow, one_more, take_front}

-- entries are numbered from a number on, and each is legal and tidy, by the state before it and the entries behind it
abbrev pub Stand : Setting → State → ℕ → List Entry → Type 0
Stand setting state number [] = Unit {0}
Stand setting state number (entry ∷ more) =
    (entry.number ≡ number) × IsLegalBody setting state entry.thread entry.body (next_of_thread entry.thread more)
    × IsTidyBody setting state entry.thread entry.body (slice_get more 0) × Stand setting (after_entry setting state entry) (number + 1) more

-- ---- places behind a front

get_behind : (front rest : List Entry) (entry : Entry) → slice_get (front ++ entry ∷ rest) (suc (length front)) ≡ slice_get rest 0
get_behind [] rest entry = refl
get_behind (first ∷ front) rest entry = get_behind front rest entry

drop_behind : (front rest : List Entry) (entry : Entry) → drop (suc (length front)) (front ++ entry ∷ rest) ≡ rest
drop_behind [] rest entry = refl
drop_behind (first ∷ front) rest entry = drop_behind front rest entry

pub get_seam : (front rest : List Entry) (entry : Entry) → slice_get (front ++ entry ∷ rest) (length front + 1) ≡ slice_get rest 0
get_seam front rest entry =
    let one : length front + 1 ≡ suc (length front) = omega arith in
    ap (slice_get (front ++ entry ∷ rest)) one ∙ get_behind front rest entry

pub drop_seam : (front rest : List Entry) (entry : Entry) → drop (length front + 1) (front ++ entry ∷ rest) ≡ rest
drop_seam front rest entry =
    let one : length front + 1 ≡ suc (length front) = omega arith in
    ap (λ n. drop n (front ++ entry ∷ rest)) one ∙ drop_behind front rest entry

-- what stands at a place behind others, by what is known of entries behind a front
module _ (setting : Setting) (P : List Entry → ℕ → Entry → Type 0) (here : (front rest : List Entry) (entry : Entry)
    → Stand setting (state_of setting front) (length front) (entry ∷ rest) → P (front ++ entry ∷ rest) (length front) entry) where
  pub each : (front more : List Entry) (n : ℕ) (entry : Entry) → Stand setting (state_of setting front) (length front) more → slice_get more n ≡ Some entry → P (front ++ more) (length front + n) entry
  each front [] n entry stand at = absurd (cc at)
  each front (first ∷ more) zero entry stand at =
      let same : first ≡ entry = cc in
      let place : length front ≡ length front + 0 = omega arith in
      subst (λ i. P (front ++ first ∷ more) i entry) place (subst (λ (e : Entry). P (front ++ first ∷ more) (length front) e) same (here front more first stand))
  each front (first ∷ more) (suc n) entry stand at =
      let longer = front ++ first ∷ [] in
      let count : length front + 1 ≡ length longer = sym (length-append front (first ∷ [])) in
      let moved : longer ++ more ≡ front ++ first ∷ more = append_assoc front (first ∷ []) more in
      let behind = subst (λ i. Stand setting (state_of setting longer) i more) count
      (subst (λ (s : State). Stand setting s (length front + 1) more) (sym (one_more setting front first)) stand.3) in
      let place : length longer + n ≡ length front + suc n = omega (arith, count) in
      subst (λ i. P (front ++ first ∷ more) i entry) place (subst (λ (whole : List Entry). P whole (length longer + n) entry) moved (each longer more n entry behind at))

legal_here : (setting : Setting) (front rest : List Entry) (entry : Entry) → Stand setting (state_of setting front) (length front) (entry ∷ rest) → IsLegalEntry setting (front ++ entry ∷ rest) (length front) entry
legal_here setting front rest entry stand =
    let before = take-append_seam front (entry ∷ rest) in
    record {
      number = stand.0;
      body = subst (λ (b : List Entry). IsLegalBody setting (state_of setting b) entry.thread entry.body (next_of_thread entry.thread (drop (length front + 1) (front ++ entry ∷ rest)))) (sym before)
          (subst (λ (d : List Entry). IsLegalBody setting (state_of setting front) entry.thread entry.body (next_of_thread entry.thread d)) (sym (drop_seam front rest entry)) stand.1);
    }

-- an entry at a place is tidy, by the entries before it and the very next one
abbrev IsTidyAt : Setting → List Entry → ℕ → Entry → Type 0
IsTidyAt setting entries n entry = IsTidyBody setting (state_of setting (take n entries)) entry.thread entry.body (slice_get entries (n + 1))

tidy_here : (setting : Setting) (front rest : List Entry) (entry : Entry) → Stand setting (state_of setting front) (length front) (entry ∷ rest) → IsTidyAt setting (front ++ entry ∷ rest) (length front) entry
tidy_here setting front rest entry stand =
    let before = take-append_seam front (entry ∷ rest) in
    subst (λ (b : List Entry). IsTidyBody setting (state_of setting b) entry.thread entry.body (slice_get (front ++ entry ∷ rest) (length front + 1))) (sym before)
    (subst (λ (o : Option Entry). IsTidyBody setting (state_of setting front) entry.thread entry.body o) (sym (get_seam front rest entry)) stand.2)

-- a tidy body stays tidy with more behind: where nothing stood behind it, it is a call
tidy_front : (setting : Setting) (state : State) (thread : ℕ) (body : Body) (next later : Option Entry) → ((entry : Entry) → next ≡ Some entry → later ≡ Some entry)
    → IsTidyBody setting state thread body next → IsTidyBody setting state thread body later
tidy_front setting state thread (Call op frames answer) next later same tidy = tidy
tidy_front setting state thread (Grow cache base) None later same tidy = absurd tidy.1
tidy_front setting state thread (Grow cache base) (Some entry) later same tidy = subst (λ (o : Option Entry). IsTidyBody setting state thread (Grow cache base) o) (sym (same entry refl)) tidy
tidy_front setting state thread (Shrink cache base) None later same tidy = absurd tidy.0
tidy_front setting state thread (Shrink cache base) (Some entry) later same tidy = subst (λ (o : Option Entry). IsTidyBody setting state thread (Shrink cache base) o) (sym (same entry refl)) tidy

-- a legal history stays legal by entries that stand so behind it
pub legal_behind : (setting : Setting) (entries more : List Entry) → IsLegal setting entries → Stand setting (state_of setting entries) (length entries) more → IsLegal setting (entries ++ more)
legal_behind setting entries more legal stand =
    legal_grow setting entries more legal (λ n entry at. each setting (IsLegalEntry setting) (legal_here setting) entries more n entry stand at)

-- and tidy
pub tidy_behind : (setting : Setting) (entries more : List Entry) → AreTidy setting entries → Stand setting (state_of setting entries) (length entries) more → AreTidy setting (entries ++ more)
tidy_behind setting entries more tidy stand n entry at = elim (get_either entries more n entry at) [
  | inl here ↦
      let kept = tidy_front setting (state_of setting (take n entries)) entry.thread entry.body (slice_get entries (n + 1)) (slice_get (entries ++ more) (n + 1)) (λ e there. get_front entries more (n + 1) e there) (tidy n entry here) in
      subst (λ (b : List Entry). IsTidyBody setting (state_of setting b) entry.thread entry.body (slice_get (entries ++ more) (n + 1))) (sym (take_front entries more n entry here)) kept
  | inr there ↦ subst (λ i. IsTidyAt setting (entries ++ more) i entry) (sym there.1) (each setting (IsTidyAt setting) (tidy_here setting) entries more there.0 entry stand there.2)
]
