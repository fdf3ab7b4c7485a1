-- What a script says, as plain data: without the room of its lists.
use Rattle.std.specs.Prelude.{ℕ, List, map, length, sum_by}
use Rattle.umem_base.specs.BoundedVec.{BoundedVec}
use Rattle.case_table.specs.declared.cache_def.CacheDef.{CacheDef}
use Rattle.script.specs.declared.operation.Op.{Op}
use Rattle.script.specs.declared.tree.Header.{Header}
use Rattle.script.specs.declared.tree.Step.{Step}
use Rattle.script.specs.declared.tree.Script.{Script}

-- a call: its operation, and the frames that it comes from
pub record Call : Type 0 where
  pub op : Op
  pub frames : List ℕ

-- a call of a thread
pub record Turn : Type 0 where
  pub thread : ℕ
  pub call : Call

-- the header, and the calls of each phase
pub record Plan : Type 0 where
  pub header : Header
  pub phases : List (List Turn)

-- a step without the room of its stack
abbrev pub turn_of : Step → Turn
turn_of step = record { thread = step.thread; call = record { op = step.op; frames = step.stack.items } }

-- the calls of a phase
abbrev pub turns_of : BoundedVec Step → List Turn
turns_of phase = map turn_of phase.items

-- what a script says
abbrev pub plan_of : Script → Plan
plan_of script = record { header = script.header; phases = map turns_of script.phases }

-- how many calls a plan has
abbrev pub call_count : Plan → ℕ
call_count plan = sum_by length plan.phases

-- the plan of these parts
abbrev pub plan_with : ℕ → ℕ → ℕ → List CacheDef → List (List Turn) → Plan
plan_with version cpus threads caches phases = record {
  header = record { version = version; cpus = cpus; threads = threads; caches = caches };
  phases = phases;
}
