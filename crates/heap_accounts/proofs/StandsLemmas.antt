-- What is known of an entry of a legal, tidy and placed history, by the entries before it and behind it.
use Rattle.std.proofs.Common.{◌≡◌, ℕ, ◌+◌, List, [], ◌∷◌, ◌++◌, length, take, drop, Option, Some, sym, ap, ◌∙◌, subst}
use Rattle.std.specs.List.{slice_get}
use Rattle.std.proofs.lemmas.List.{append_assoc}
use Rattle.std.proofs.Math.Seq.{take-append_seam}
use Rattle.plain_heap.specs.declared.entry.Body.{Body}
use Rattle.plain_heap.specs.declared.entry.Entry.{Entry}
use Rattle.plain_heap.specs.Answers.{IsTidyBody}
use Rattle.plain_heap.specs.Legal.{IsLegalBody, next_of_thread}
use Rattle.plain_heap.specs.Setting.{Setting}
use Rattle.plain_heap.specs.State.{state_of}
use Rattle.heap_ledger.proofs.GrowthLemmas.{drop_seam, get_seam}
use Rattle.heap_ledger.proofs.MayCommitLemmas.{first_of_thread}
use Rattle.heap_accounts.specs.Laws.{IsDecided}
use Rattle.heap_accounts.specs.Placed.{IsPlacedBody}
use Rattle.heap_accounts.specs.Places.{placing_of}
use Rattle.heap_accounts.proofs.PlacingLemmas.{get_here}

pub record Stands (setting : Setting) (before rest : List Entry) (first : Entry) : Type 0 where
  pub number : first.number ≡ length before
  pub legal : IsLegalBody setting (state_of setting before) first.thread first.body (next_of_thread first.thread rest)
  pub tidy : IsTidyBody setting (state_of setting before) first.thread first.body (slice_get rest 0)
  pub placed : IsPlacedBody setting (placing_of setting before) first.thread first.body

pub stands : (setting : Setting) (whole before rest : List Entry) (first : Entry) → whole ≡ before ++ first ∷ rest → IsDecided setting whole → Stands setting before rest first
stands setting whole before rest first is decided =
    let n = length before in
    let at : slice_get whole n ≡ Some first = ap (λ (l : List Entry). slice_get l n) is ∙ get_here before rest first in
    let front : take n whole ≡ before = ap (take n) is ∙ take-append_seam before (first ∷ rest) in
    let behind : drop (n + 1) whole ≡ rest = ap (drop (n + 1)) is ∙ drop_seam before rest first in
    let next : slice_get whole (n + 1) ≡ slice_get rest 0 = ap (λ (l : List Entry). slice_get l (n + 1)) is ∙ get_seam before rest first in
    let h = decided.legal n first at in
    record {
      number = h.number;
      legal = subst (λ (b : List Entry). IsLegalBody setting (state_of setting b) first.thread first.body (next_of_thread first.thread rest)) front
          (subst (λ (d : List Entry). IsLegalBody setting (state_of setting (take n whole)) first.thread first.body (next_of_thread first.thread d)) behind h.body);
      tidy = subst (λ (b : List Entry). IsTidyBody setting (state_of setting b) first.thread first.body (slice_get rest 0)) front
          (subst (λ (o : Option Entry). IsTidyBody setting (state_of setting (take n whole)) first.thread first.body o) next (decided.tidy n first at));
      placed = subst (λ (b : List Entry). IsPlacedBody setting (placing_of setting b) first.thread first.body) front (decided.placed n first at);
    }

-- the same list, with one entry more in front
pub moved : (whole before rest : List Entry) (first : Entry) → whole ≡ before ++ first ∷ rest → whole ≡ (before ++ first ∷ []) ++ rest
moved whole before rest first is = is ∙ sym (append_assoc before (first ∷ []) rest)

-- the first of some entries that is one of the thread is the one that is found
pub next_is_first : (thread : ℕ) (first found : Entry) (more : List Entry) → first.thread ≡ thread → next_of_thread thread (first ∷ more) ≡ Some found → found ≡ first
next_is_first thread first found more its is =
    let there = ap (λ t. next_of_thread t (first ∷ more)) its ∙ is in
    let here = first_of_thread first more in
    cc

-- an entry is made of its parts
pub entry_of : (first : Entry) (number thread : ℕ) (content : Body) → first.number ≡ number → first.thread ≡ thread → first.body ≡ content
    → first ≡ record { number = number; thread = thread; body = content }
entry_of first number thread content numbers threads bodies =
    let with_number : ℕ → Entry = λ n. record { number = n; thread = first.thread; body = first.body } in
    let with_thread : ℕ → Entry = λ t. record { number = number; thread = t; body = first.body } in
    let with_body : Body → Entry = λ b. record { number = number; thread = thread; body = b } in
    ap with_number numbers ∙ ap with_thread threads ∙ ap with_body bodies
