-- What commits of calls that take no chunk have to do with the magazine rules.
use Rattle.std.proofs.Common.{◌≡◌, ℕ, Bool, true, false, cond, eqb, not, [], Option, None, Some, refl, sym, ap, ◌∙◌, subst}
use Rattle.std.specs.Prelude.{is_none, is_some}
use Rattle.std.proofs.lemmas.Bool.{and_parts, eqb-true, false≢true}
use Rattle.case_table.specs.Sizes.{class_for}
use Rattle.case_table.proofs.SizesLemmas.{class_for-zero}
use Rattle.script.specs.declared.operation.Op.{Op}
use Rattle.script.specs.declared.operation.Op.TheVariants.{Alloc, Zalloc, Free, CacheAlloc, CacheFree, Copy, Clear, Store, Link, Load, Reap}
use Rattle.plain_heap.specs.declared.reply.Reply.{Reply}
use Rattle.plain_heap.specs.Setting.{Setting}
use Rattle.plain_heap.specs.State.{State}
use Rattle.heap_ledger.specs.Commits.{IsTidyReply}
use Rattle.heap_ledger.specs.Ledger.{Ledger, after_commit, run_setting, run_state, shrunk}
use Rattle.heap_accounts.specs.declared.large_request.LargeRequest.{LargeRequest}
use Rattle.heap_accounts.specs.Kinds.{is_free, is_large, is_large_size, is_plain_call, is_reap_call}
use Rattle.heap_accounts.specs.Laws.{at_rest}
use Rattle.heap_accounts.specs.Performed.{IsPerformed, IsPerformedReap, IsPerformedRequest}
use Rattle.heap_accounts.specs.Places.{Places, places_by_call, places_by_request}
use Rattle.heap_accounts.specs.Turns.{Makes, MakesFree, MakesReap}
use Rattle.heap_core.specs.Heap.{run_places}
use Rattle.heap_core.specs.Performs.{PerformsCall}
use Rattle.heap_core.proofs.DueLemmas.{is_due}

-- ---- calls without inner entries

module _ (setting : Setting) (state : State) (places : Places) (thread : ℕ) where
  -- such a call is performed with an answer that is allowed and tidy, and changes no place
  pub record IsAlone (op : Op) : Type 0 where
    pub performed : (answer : Reply) → IsTidyReply setting state thread op answer → IsPerformed setting state places thread op [] answer
    pub stays : (answer : Reply) → places_by_call setting (at_rest state places) thread op answer ≡ places

  -- an allocation that no class serves
  unserved : (op : Op) (size : ℕ) → class_for size ≡ None
      → ((answer : Reply) → IsPerformedRequest setting state places thread op (class_for size) [] answer → IsPerformed setting state places thread op [] answer)
      → ((answer : Reply) → places_by_call setting (at_rest state places) thread op answer ≡ places_by_request setting places None thread (class_for size)) → IsAlone op
  unserved op size none performs leaves = record {
    performed = λ answer tidy.
        let its : IsPerformedRequest setting state places thread op (class_for size) [] answer =
        subst (λ (o : Option ℕ). IsPerformedRequest setting state places thread op o [] answer) (sym none) (refl, tidy) in
        performs answer its;
    stays = λ answer. leaves answer ∙ ap (λ (o : Option ℕ). places_by_request setting places None thread o) none;
  }

  no_bytes : (size : ℕ) → eqb size 0 ≡ true → class_for size ≡ None
  no_bytes size is = class_for-zero size (eqb-true size 0 is)

  pub plain_alone : (op : Op) → is_plain_call op ≡ true → IsAlone op
  plain_alone (Alloc slot size) is = unserved (Alloc slot size) size (no_bytes size is) (λ answer its. its) (λ answer. refl)
  plain_alone (Zalloc slot size) is = unserved (Zalloc slot size) size (no_bytes size is) (λ answer its. its) (λ answer. refl)
  plain_alone (Free slot size) is = absurd (false≢true is)
  plain_alone (CacheAlloc slot cache) is = absurd (false≢true is)
  plain_alone (CacheFree slot cache) is = absurd (false≢true is)
  plain_alone (Copy to from) is = record { performed = λ answer tidy. (refl, tidy); stays = λ answer. refl }
  plain_alone (Clear slot) is = record { performed = λ answer tidy. (refl, tidy); stays = λ answer. refl }
  plain_alone (Store slot offset stored) is = record { performed = λ answer tidy. (refl, tidy); stays = λ answer. refl }
  plain_alone (Link slot offset value) is = record { performed = λ answer tidy. (refl, tidy); stays = λ answer. refl }
  plain_alone (Load to slot offset) is = record { performed = λ answer tidy. (refl, tidy); stays = λ answer. refl }
  plain_alone Reap is = absurd (false≢true is)

  -- a size of whole pages is served by no class
  abbrev asked_if : ℕ → ℕ → Bool → Option LargeRequest
  asked_if slot size b = cond b (Some (record { slot = slot; size = size })) None

  large_size : (slot size : ℕ) → is_some (asked_if slot size (is_large_size size)) ≡ true → class_for size ≡ None
  large_size slot size is = by_size (is_large_size size) refl is
    where
      none_of : (o : Option ℕ) → is_none o ≡ true → o ≡ None
      none_of None e = refl
      none_of (Some class) e = absurd (false≢true e)

      by_size : (b : Bool) → is_large_size size ≡ b → is_some (asked_if slot size b) ≡ true → class_for size ≡ None
      by_size true tells e = none_of (class_for size) (and_parts (not (eqb size 0)) (is_none (class_for size)) tells).1
      by_size false tells e = absurd (false≢true e)

  pub large_alone : (op : Op) → is_large op ≡ true → IsAlone op
  large_alone (Alloc slot size) is = unserved (Alloc slot size) size (large_size slot size is) (λ answer its. its) (λ answer. refl)
  large_alone (Zalloc slot size) is = unserved (Zalloc slot size) size (large_size slot size is) (λ answer its. its) (λ answer. refl)
  large_alone (Free slot size) is = absurd (false≢true is)
  large_alone (CacheAlloc slot cache) is = absurd (false≢true is)
  large_alone (CacheFree slot cache) is = absurd (false≢true is)
  large_alone (Copy to from) is = absurd (false≢true is)
  large_alone (Clear slot) is = absurd (false≢true is)
  large_alone (Store slot offset stored) is = absurd (false≢true is)
  large_alone (Link slot offset value) is = absurd (false≢true is)
  large_alone (Load to slot offset) is = absurd (false≢true is)
  large_alone Reap is = absurd (false≢true is)

  -- a free
  pub free_performed : (op : Op) (answer : Reply) → is_free op ≡ true → IsTidyReply setting state thread op answer → IsPerformed setting state places thread op [] answer
  free_performed (Alloc slot size) answer is tidy = absurd (false≢true is)
  free_performed (Zalloc slot size) answer is tidy = absurd (false≢true is)
  free_performed (Free slot size) answer is tidy = (refl, tidy)
  free_performed (CacheAlloc slot cache) answer is tidy = absurd (false≢true is)
  free_performed (CacheFree slot cache) answer is tidy = (refl, tidy)
  free_performed (Copy to from) answer is tidy = absurd (false≢true is)
  free_performed (Clear slot) answer is tidy = absurd (false≢true is)
  free_performed (Store slot offset stored) answer is tidy = absurd (false≢true is)
  free_performed (Link slot offset value) answer is tidy = absurd (false≢true is)
  free_performed (Load to slot offset) answer is tidy = absurd (false≢true is)
  free_performed Reap answer is tidy = absurd (false≢true is)

-- the one operation that is a reap
pub is_reap_op : (op : Op) → is_reap_call op ≡ true → op ≡ Reap
is_reap_op (Alloc slot size) is = absurd (false≢true is)
is_reap_op (Zalloc slot size) is = absurd (false≢true is)
is_reap_op (Free slot size) is = absurd (false≢true is)
is_reap_op (CacheAlloc slot cache) is = absurd (false≢true is)
is_reap_op (CacheFree slot cache) is = absurd (false≢true is)
is_reap_op (Copy to from) is = absurd (false≢true is)
is_reap_op (Clear slot) is = absurd (false≢true is)
is_reap_op (Store slot offset stored) is = absurd (false≢true is)
is_reap_op (Link slot offset value) is = absurd (false≢true is)
is_reap_op (Load to slot offset) is = absurd (false≢true is)
is_reap_op Reap is = refl

-- ---- what their commits perform

pub plain_performs : (old new : Ledger) (thread number : ℕ) (answer : Reply) → Makes is_plain_call old new thread number answer → PerformsCall old new thread number answer
plain_performs old new thread number answer makes =
    let its = is_due is_plain_call old thread number makes.call makes.due in
    let alone = plain_alone (run_setting old) (run_state old) (run_places old) thread makes.call.op its.is_of in
    record { call = makes.call; due = its.due; inner = []; performed = alone.performed answer makes.reply; made = makes.made }

pub large_performs : (old new : Ledger) (thread number : ℕ) (answer : Reply) → Makes is_large old new thread number answer → PerformsCall old new thread number answer
large_performs old new thread number answer makes =
    let its = is_due is_large old thread number makes.call makes.due in
    let alone = large_alone (run_setting old) (run_state old) (run_places old) thread makes.call.op its.is_of in
    record { call = makes.call; due = its.due; inner = []; performed = alone.performed answer makes.reply; made = makes.made }

pub free_performs : (old new : Ledger) (thread number : ℕ) (answer : Reply) (round : Option ℕ) → MakesFree old new thread number answer round → PerformsCall old new thread number answer
free_performs old new thread number answer round makes =
    let its = is_due is_free old thread number makes.call makes.due in
    record {
      call = makes.call;
      due = its.due;
      inner = [];
      performed = free_performed (run_setting old) (run_state old) (run_places old) thread makes.call.op answer its.is_of makes.reply;
      made = makes.made;
    }

pub reap_performs : (old new : Ledger) (thread number : ℕ) (answer : Reply) → MakesReap old new thread number answer → PerformsCall old new thread number answer
reap_performs old new thread number answer makes =
    let its = is_due is_reap_call old thread number makes.call makes.due in
    let reaps : IsPerformedReap (run_setting old) (run_state old) (shrunk makes.slabs) answer =
    record { slabs = makes.slabs; shrinks = refl; exactly = makes.reaped; ok = makes.ok } in
    let op = is_reap_op makes.call.op its.is_of in
    record {
      call = makes.call;
      due = its.due;
      inner = shrunk makes.slabs;
      performed = subst (λ (o : Op). IsPerformed (run_setting old) (run_state old) (run_places old) thread o (shrunk makes.slabs) answer) (sym op) reaps;
      made = subst (λ (a : Reply). new ≡ after_commit old thread (shrunk makes.slabs) makes.call a) (sym makes.ok) makes.made;
    }
