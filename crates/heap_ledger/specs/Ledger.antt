-- What a run was given, and what it made so far.
use Rattle.std.specs.Prelude.{◌≡◌, IfSome, ℕ, ◌+◌, List, [], ◌∷◌, ◌++◌, length, map, Option, ⊤}
use Rattle.std.specs.List.{AllByRecursion}
use Rattle.umem_options.specs.declared.options.Logging.{Logging}
use Rattle.umem_options.specs.declared.options.Options.{Options}
use Rattle.umem_options.specs.Flags.{has_guards}
use Rattle.script.specs.declared.tree.Header.{Header}
use Rattle.script.specs.Plan.{Call, Plan}
use Rattle.script.specs.Rules.{IsPlan, IsTurn}
use Rattle.plain_heap.specs.declared.entry.Body.{Body}
use Rattle.plain_heap.specs.declared.entry.Body.TheVariants as body
use Rattle.plain_heap.specs.declared.entry.Entry.{Entry}
use Rattle.plain_heap.specs.declared.reply.Reply.{Reply}
use Rattle.plain_heap.specs.Answers.{AreTidy, setting_for}
use Rattle.plain_heap.specs.Calls.{Follows, next_call}
use Rattle.plain_heap.specs.Legal.{IsLegal}
use Rattle.plain_heap.specs.Setting.{Setting}
use Rattle.plain_heap.specs.State.{State, state_of}
use Rattle.heap_ledger.specs.declared.slab_at.SlabAt.{SlabAt}

-- the plan, the options and the sizes of the logs that a run was given, and the entries that it made
pub record Ledger : Type 0 where
  pub plan : Plan
  pub options : Options
  pub logging : Logging
  pub entries : List Entry

-- what is fixed for the history of a run
abbrev pub run_setting : Ledger → Setting
run_setting ledger = setting_for (has_guards ledger.options) ledger.plan

-- what the entries that were made leave
abbrev pub run_state : Ledger → State
run_state ledger = state_of (run_setting ledger) ledger.entries

-- the entries are legal and tidy, and their calls follow the plan
pub record IsLedger (ledger : Ledger) : Type 0 where
  pub plan : IsPlan ledger.plan
  pub legal : IsLegal (run_setting ledger) ledger.entries
  pub follows : Follows ledger.plan ledger.entries
  pub tidy : AreTidy (run_setting ledger) ledger.entries

-- the inner entry of a slab that was made
abbrev pub grown : SlabAt → Body
grown slab = body.Grow slab.cache slab.base

-- the inner entries of slabs that were given back
abbrev pub shrunk : List SlabAt → List Body
shrunk slabs = map (λ slab. body.Shrink slab.cache slab.base) slabs

-- a call of a thread, if there is one, is a turn of the header, and so keeps its limits
abbrev pub KeepsTurnLimits : Header → ℕ → Option Call → Type 0
KeepsTurnLimits header thread call = IfSome call (λ its. IsTurn header (record { thread = thread; call = its }))

-- the body of an inner entry, which is no call
abbrev pub IsInner : Body → Type 0
IsInner (body.Call op frames answer) = ⊥
IsInner (body.Grow cache base) = ⊤
IsInner (body.Shrink cache base) = ⊤

-- none of them is a call
abbrev pub AreInner : List Body → Type 0
AreInner inner = AllByRecursion IsInner inner

-- an entry
abbrev pub entry : ℕ → ℕ → Body → Entry
entry number thread content = record { number = number; thread = thread; body = content }

-- inner entries of a thread, from a number on
abbrev pub inner_entries : ℕ → ℕ → List Body → List Entry
inner_entries number thread [] = []
inner_entries number thread (inner ∷ others) = entry number thread inner ∷ inner_entries (number + 1) thread others

-- the entries of a commit of a thread from a number on: inner ones, and the call with its answer behind them
abbrev pub commit_entries : ℕ → ℕ → List Body → Call → Reply → List Entry
commit_entries number thread inner call answer =
    inner_entries number thread inner
    ++ entry (number + length inner) thread (body.Call call.op call.frames answer) ∷ []

-- the ledger after a commit
abbrev pub after_commit : Ledger → ℕ → List Body → Call → Reply → Ledger
after_commit ledger thread inner call answer = record {
  plan = ledger.plan;
  options = ledger.options;
  logging = ledger.logging;
  entries = ledger.entries ++ commit_entries (length ledger.entries) thread inner call answer;
}

-- the ledger stays legal and tidy by a commit
pub record KeepsLegal (ledger : Ledger) (thread : ℕ) (inner : List Body) (answer : Reply) (call : Call) : Type 0 where
  pub legal : IsLegal (run_setting ledger) (after_commit ledger thread inner call answer).entries
  pub tidy : AreTidy (run_setting ledger) (after_commit ledger thread inner call answer).entries

-- the next call of a thread, with inner entries directly before it, keeps the ledger legal and tidy
abbrev pub MayCommit : Ledger → ℕ → List Body → Reply → Type 0
MayCommit ledger thread inner answer =
    IfSome (next_call ledger.plan ledger.entries thread) (KeepsLegal ledger thread inner answer)

-- that call was committed, and nothing else was changed
abbrev pub Commits : Ledger → Ledger → ℕ → List Body → Reply → Type 0
Commits old new thread inner answer =
    IfSome (next_call old.plan old.entries thread) (λ call. new ≡ after_commit old thread inner call answer)
