-- Calls that are due, and of which kind they are.
use Rattle.std.proofs.Common.{◌≡◌, ℕ, Bool, true, false, cond, Option, None, Some, subst, refl}
use Rattle.std.specs.Prelude.{IsSome, option_map}
use Rattle.std.specs.Option.{option_and_then}
use Rattle.std.proofs.lemmas.Bool.{false≢true}
use Rattle.script.specs.declared.operation.Op.{Op}
use Rattle.script.specs.Plan.{Call}
use Rattle.plain_heap.specs.Calls.{due_call}
use Rattle.heap_ledger.specs.Ledger.{Ledger}
use Rattle.heap_accounts.specs.declared.asked.Asked.TheVariants as asked
use Rattle.heap_accounts.specs.Asked.{asked_of}
use Rattle.heap_accounts.specs.Laws.{IsOfKindAsked}
use Rattle.heap_accounts.specs.Turns.{Waits, due_of}
use Rattle.heap_accounts.proofs.AskedLemmas.{asked_kind}
use Rattle.heap_core.specs.ChunkCalls.{IsChunkDue}

-- a call that is due and of a kind
pub record IsDue (kind : Op → Bool) (ledger : Ledger) (thread number : ℕ) (call : Call) : Type 0 where
  pub due : due_call ledger.plan ledger.entries thread number ≡ Some call
  pub is_of : kind call.op ≡ true

-- what is due of a kind is due, and of the kind
pub is_due : (kind : Op → Bool) (ledger : Ledger) (thread number : ℕ) (call : Call) → due_of kind ledger thread number ≡ Some call → IsDue kind ledger thread number call
is_due kind ledger thread number call is = by_call (due_call ledger.plan ledger.entries thread number) refl is
  where
    by_kind : (its : Call) → due_call ledger.plan ledger.entries thread number ≡ Some its → (b : Bool) → kind its.op ≡ b → cond b (Some its) None ≡ Some call → IsDue kind ledger thread number call
    by_kind its found true passes same =
        let one : its ≡ call = cc in
        subst (IsDue kind ledger thread number) one (record { due = found; is_of = passes })
    by_kind its found false passes same = absurd (cc same)

    by_call : (o : Option Call) → due_call ledger.plan ledger.entries thread number ≡ o → option_and_then (λ (c : Call). cond (kind c.op) (Some c) None) o ≡ Some call → IsDue kind ledger thread number call
    by_call None found same = absurd (cc same)
    by_call (Some its) found same = by_kind its found (kind its.op) refl same

-- where a call of the kind is due, the commit of the kind does not wait
pub waits_not : (kind : Op → Bool) (old new : Ledger) (thread number : ℕ) → IsSome (due_of kind old thread number) → Waits kind old new thread number → ⊥
waits_not kind old new thread number due waits = false≢true (subst (λ (o : Option Call). IsSome o) waits.none due)

-- ---- what a call asks for

-- a call that asks a chunk of a cache is due
pub chunk_asked : (ledger : Ledger) (thread number cache : ℕ) → Some (asked.Chunk cache) ≡ option_map (λ (c : Call). asked_of c.op) (due_call ledger.plan ledger.entries thread number)
    → IsChunkDue ledger thread number cache
chunk_asked ledger thread number cache is = by_call (due_call ledger.plan ledger.entries thread number) refl is
  where
    by_call : (o : Option Call) → due_call ledger.plan ledger.entries thread number ≡ o → Some (asked.Chunk cache) ≡ option_map (λ (c : Call). asked_of c.op) o → IsChunkDue ledger thread number cache
    by_call None found same = absurd (cc same)
    by_call (Some call) found same =
        let asks : asked_of call.op ≡ asked.Chunk cache = cc in
        record { call = call; due = found; asks = (subst (IsOfKindAsked call.op) asks (asked_kind call.op)).1 }
