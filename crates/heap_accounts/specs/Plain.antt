-- How a memory makes a call that hands nothing out and gives nothing back.
use Rattle.std.specs.Prelude.{◌≡◌, ◌≢◌, ℕ, false, Option, None, Some, IsTrue}
use Rattle.script.specs.declared.operation.Op.{Op}
use Rattle.plain_heap.specs.declared.reply.Reply.{Reply}
use Rattle.plain_heap.specs.declared.reply.Reply.TheVariants as reply
use Rattle.plain_heap.specs.State.{after_call, with_slot}
use Rattle.heap_ledger.specs.Commits.{IsTidyReply}
use Rattle.heap_memory.specs.Memory.{Memory}
use Rattle.heap_memory.specs.States.{Becomes, ForEachState}
use Rattle.heap_accounts.specs.Kinds.{is_plain_call}

-- it was answered as each state that the memory is of allows, and the memory is that of what the answer leaves
pub record MakesPlain (old new : Memory) (thread : ℕ) (op : Op) (answer : Reply) : Type 0 where
  pub kind : IsTrue (is_plain_call op)
  pub reply : ForEachState (λ setting state. IsTidyReply setting state thread op answer) old
  pub after : Becomes (λ setting state. after_call setting state thread op answer) old new

-- nothing was asked for, and the slot holds 0; or some bytes were, and nothing changed
abbrev pub AnswersNothing : Memory → Memory → ℕ → ℕ → ℕ → Option Reply → Type 0
AnswersNothing old new thread slot size None = (size ≢ 0) × (new ≡ old)
AnswersNothing old new thread slot size (Some answer) =
    (size ≡ 0) × (answer ≡ reply.Null) × Becomes (λ setting state. with_slot state thread slot 0) old new

-- the call was made, or it is of another kind, and then nothing changed
abbrev pub PlainlyMakes : Memory → Memory → ℕ → Op → Option Reply → Type 0
PlainlyMakes old new thread op None = (is_plain_call op ≡ false) × (new ≡ old)
PlainlyMakes old new thread op (Some answer) = MakesPlain old new thread op answer
