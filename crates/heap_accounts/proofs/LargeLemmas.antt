-- What allocations of whole pages leave.
use Rattle.std.proofs.Common.{◌≡◌, ◌≢◌, ℕ, zero, suc, ◌<◌, Bool, true, false, cond, eqb, List, [], ◌∷◌, Option, Some, None, refl, sym, ap, ◌∙◌, subst, arith}
use Rattle.std.specs.Prelude.{All, find, is_none, option_map}
use Rattle.std.specs.Option.{unwrap_or}
use Rattle.std.proofs.lemmas.Bool.{and_parts, eqb-true, false≢true}
use Rattle.umem_base.specs.Pages.{IsFreeRun, pages_for}
use Rattle.case_table.specs.Sizes.{class_for}
use Rattle.script.specs.declared.operation.Op.{Op}
use Rattle.script.specs.declared.operation.Op.TheVariants.{Alloc, Zalloc, Free, CacheAlloc, CacheFree, Copy, Clear, Store, Link, Load, Reap}
use Rattle.script.specs.Rules.{IsHeader}
use Rattle.plain_heap.specs.declared.held.Held.{Held}
use Rattle.plain_heap.specs.declared.reply.Reply.{Reply}
use Rattle.plain_heap.specs.declared.reply.Reply.TheVariants as reply
use Rattle.plain_heap.specs.declared.reply.Report.TheVariants as report
use Rattle.plain_heap.specs.Answers.{IsLowestRequest}
use Rattle.plain_heap.specs.Laws.{large}
use Rattle.plain_heap.specs.Live.{Live, TellsLive}
use Rattle.plain_heap.specs.Replies.{IsAllocReply, IsSomeReply}
use Rattle.plain_heap.specs.Setting.{Setting}
use Rattle.plain_heap.specs.State.{IsFreePage, LiveBuffer, State, after_alloc, after_call, hand_out, held_at, request_of, with_slot}
use Rattle.plain_heap.proofs.PlacesLemmas.{AreInPlace}
use Rattle.plain_heap.proofs.RunsLemmas.{new_run}
use Rattle.plain_heap.proofs.StepsLemmas.{with_large}
use Rattle.heap_ledger.specs.Commits.{IsTidyReply}
use Rattle.heap_memory.specs.Memory.{IsMemoryOf, Memory}
use Rattle.heap_memory.specs.States.{Becomes, ForEachState, IsLowestOrNone, after_large}
use Rattle.heap_accounts.specs.declared.large_request.LargeRequest.{LargeRequest}
use Rattle.heap_accounts.specs.Kinds.{is_large_size, large_request}
use Rattle.heap_accounts.specs.Large.{IsLowestAnswer, MakesLarge}
use Rattle.heap_accounts.specs.Entering.{IsFreeFor, MayEnter}

-- where no buffer has an address, none lives there
none_there : (live : List LiveBuffer) (at : ℕ) → All (λ b. at ≢ b.address) live → held_at live at ≡ None
none_there [] at h = refl
none_there (b ∷ live) at h = go (eqb b.address at) refl (none_there live at (λ k d lt. h (suc k) d (omega (arith, lt))))
  where
    go : (test : Bool) → eqb b.address at ≡ test → held_at live at ≡ None → option_map (λ (x : LiveBuffer). x.held) (cond test (Some b) (find (λ x. eqb x.address at) live)) ≡ None
    go true is rest = absurd (h 0 b (omega arith) (sym (eqb-true b.address at is)))
    go false is rest = rest

-- nothing lives at the base of free pages
pub nothing_lives : (setting : Setting) (state : State) (base size : ℕ) → IsHeader setting.header → AreInPlace setting state.live state.slabs
    → IsFreeRun (IsFreePage setting state) (pages_for size) base → 0 < size → held_at state.live base ≡ None
nothing_lives setting state base size header places free some =
    let run = new_run setting state base (pages_for size) places free (omega arith) in
    let now = with_large setting state.live state.slabs base size header places run in
    none_there state.live base (λ k d lt. now.addresses 0 (suc k) d (omega arith) (omega (arith, lt)))

-- ---- what the memory answers

-- the answer, by the run that was found
abbrev pub answer_for : Option ℕ → Reply
answer_for None = reply.NoSpace
answer_for (Some base) = reply.At base report.Clean

pub answered : (old opened new : Memory) (thread : ℕ) (request : LargeRequest) (base : Option ℕ) (word : ℕ) → ForEachState (IsLowestOrNone (pages_for request.size) base) old
    → ((zero : Bool) → Becomes (after_large request.size zero base) old opened) → Becomes (λ setting state. with_slot state thread request.slot word) opened new
    → word ≡ unwrap_or base 0 → MakesLarge old new thread request (answer_for base)
answered old opened new thread request None word lowest took put is = record {
  lowest = lowest;
  after = λ zero setting state header of. subst (λ (w : ℕ). IsMemoryOf setting (with_slot state thread request.slot w) new) is (put setting state header (took zero setting state header of));
}
answered old opened new thread request (Some base) word lowest took put is = record {
  lowest = λ setting state header of. (lowest setting state header of, refl);
  after = λ zero setting state header of.
      subst (λ (w : ℕ). IsMemoryOf setting (with_slot (hand_out setting state base (large request.size) zero) thread request.slot w) new) is
      (put setting (hand_out setting state base (large request.size) zero) header (took zero setting state header of));
}

-- ---- what is asked

-- the answer is one to a size that no class serves
sized : (setting : Setting) (state : State) (size : ℕ) (answer : Reply) → is_large_size size ≡ true → IsLowestAnswer size answer setting state
    → IsAllocReply setting state size answer × IsLowestRequest setting state size (class_for size) answer
sized setting state zero answer is lowest = absurd (false≢true is)
sized setting state (suc n) answer is lowest = by (class_for (suc n)) (and_parts _ _ is).1 answer lowest
  where
    by : (class : Option ℕ) → is_none class ≡ true → (answer : Reply) → IsLowestAnswer (suc n) answer setting state
        → IsSomeReply setting state (suc n) class answer × IsLowestRequest setting state (suc n) class answer
    by (Some class) none answer lowest = absurd (false≢true none)
    by None none (reply.At address found) lowest = ((lowest.0.free, lowest.1), lowest.0)
    by None none reply.NoSpace lowest = (lowest, tt)
    by None none reply.Ok lowest = absurd lowest
    by None none reply.Null lowest = absurd lowest
    by None none reply.Dup lowest = absurd lowest
    by None none reply.BadAddr lowest = absurd lowest
    by None none reply.BadCache lowest = absurd lowest
    by None none reply.BadSize lowest = absurd lowest
    by None none reply.Redzone lowest = absurd lowest
    by None none reply.Fault lowest = absurd lowest
    by None none (reply.Word word) lowest = absurd lowest

-- what a large request asks for is a large buffer
requested : (size : ℕ) → is_large_size size ≡ true → request_of size ≡ large size
requested zero is = absurd (false≢true is)
requested (suc n) is = by (class_for (suc n)) (and_parts _ _ is).1
  where
    by : (class : Option ℕ) → is_none class ≡ true → record { size = suc n; cache = class } ≡ large (suc n)
    by None none = refl
    by (Some class) none = absurd (false≢true none)

-- what is known of an operation that asks for whole pages
pub record AsksForPages (setting : Setting) (state : State) (thread : ℕ) (op : Op) (request : LargeRequest) : Type 0 where
  pub some : 0 < request.size
  pub told : (answer : Reply) → IsLowestAnswer request.size answer setting state → IsTidyReply setting state thread op answer
  pub zero : Bool
  pub after : (answer : Reply) → after_call setting state thread op answer ≡ after_alloc setting state thread request.slot (large request.size) zero answer

some_bytes : (size : ℕ) → is_large_size size ≡ true → 0 < size
some_bytes zero is = absurd (false≢true is)
some_bytes (suc n) is = omega arith

-- what a slot and a size ask for
abbrev asked : ℕ → ℕ → LargeRequest
asked slot size = record { slot = slot; size = size }

pub asks : (setting : Setting) (state : State) (thread : ℕ) (op : Op) (request : LargeRequest) → large_request op ≡ Some request → AsksForPages setting state thread op request
asks setting state thread op request is = by op is
  where
    by_size : (slot size : ℕ) (b : Bool) → is_large_size size ≡ b → cond b (Some (asked slot size)) None ≡ Some request → (is_large_size size ≡ true) × (asked slot size ≡ request)
    by_size slot size true its is = (its, cc)
    by_size slot size false its is = absurd (cc is)

    by : (op : Op) → large_request op ≡ Some request → AsksForPages setting state thread op request
    by (Alloc slot size) is =
        let both = by_size slot size (is_large_size size) refl is in
        subst (AsksForPages setting state thread (Alloc slot size)) both.1 (record {
          some = some_bytes size both.0;
          told = λ answer lowest. let parts = sized setting state size answer both.0 lowest in record { reply = parts.0; tidy = parts.1 };
          zero = false;
          after = λ answer. ap (λ (h : Held). after_alloc setting state thread slot h false answer) (requested size both.0);
        })
    by (Zalloc slot size) is =
        let both = by_size slot size (is_large_size size) refl is in
        subst (AsksForPages setting state thread (Zalloc slot size)) both.1 (record {
          some = some_bytes size both.0;
          told = λ answer lowest. let parts = sized setting state size answer both.0 lowest in record { reply = parts.0; tidy = parts.1 };
          zero = true;
          after = λ answer. ap (λ (h : Held). after_alloc setting state thread slot h true answer) (requested size both.0);
        })
    by (Free slot size) is = absurd (cc is)
    by (CacheAlloc slot cache) is = absurd (cc is)
    by (CacheFree slot cache) is = absurd (cc is)
    by (Copy to from) is = absurd (cc is)
    by (Clear slot) is = absurd (cc is)
    by (Store slot offset stored) is = absurd (cc is)
    by (Link slot offset value) is = absurd (cc is)
    by (Load to slot offset) is = absurd (cc is)
    by Reap is = absurd (cc is)

-- the same by the operation that was looked at
pub asks_told : (setting : Setting) (state : State) (thread : ℕ) (op shown : Op) (request : LargeRequest) → Some request ≡ large_request shown → shown ≡ op
    → AsksForPages setting state thread op request
asks_told setting state thread op shown request is same = asks setting state thread op request (sym (is ∙ ap large_request same))

-- ---- the book of live buffers

-- an answer may be entered
pub may_enter : (setting : Setting) (state : State) (live : Live) (size : ℕ) (answer : Reply) → IsHeader setting.header → AreInPlace setting state.live state.slabs → TellsLive live.buffers state
    → 0 < live.spare → 0 < size → IsLowestAnswer size answer setting state → MayEnter live answer
may_enter setting state live size (reply.At address found) header places tells room some lowest = (room, tells.live address ∙ nothing_lives setting state address size header places lowest.0.free some)
may_enter setting state live size reply.NoSpace header places tells room some lowest = tt
may_enter setting state live size reply.Ok header places tells room some lowest = tt
may_enter setting state live size reply.Null header places tells room some lowest = tt
may_enter setting state live size reply.Dup header places tells room some lowest = tt
may_enter setting state live size reply.BadAddr header places tells room some lowest = tt
may_enter setting state live size reply.BadCache header places tells room some lowest = tt
may_enter setting state live size reply.BadSize header places tells room some lowest = tt
may_enter setting state live size reply.Redzone header places tells room some lowest = tt
may_enter setting state live size reply.Fault header places tells room some lowest = tt
may_enter setting state live size (reply.Word word) header places tells room some lowest = tt

-- nothing lives where it is entered
pub free_for : (setting : Setting) (state : State) (size : ℕ) (answer : Reply) → IsHeader setting.header → AreInPlace setting state.live state.slabs
    → 0 < size → IsLowestAnswer size answer setting state → IsFreeFor answer setting state
free_for setting state size (reply.At address found) header places some lowest = nothing_lives setting state address size header places lowest.0.free some
free_for setting state size reply.NoSpace header places some lowest = tt
free_for setting state size reply.Ok header places some lowest = tt
free_for setting state size reply.Null header places some lowest = tt
free_for setting state size reply.Dup header places some lowest = tt
free_for setting state size reply.BadAddr header places some lowest = tt
free_for setting state size reply.BadCache header places some lowest = tt
free_for setting state size reply.BadSize header places some lowest = tt
free_for setting state size reply.Redzone header places some lowest = tt
free_for setting state size reply.Fault header places some lowest = tt
free_for setting state size (reply.Word word) header places some lowest = tt
