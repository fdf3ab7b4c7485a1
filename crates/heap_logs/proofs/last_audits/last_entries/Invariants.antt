use Rattle.std.proofs.Common.{ℕ, take}
use Rattle.std.specs.Prelude.{zip}
use Rattle.umem_options.specs.declared.options.Options.{Options}
use Rattle.heap_logs.specs.LastActs.{TellsLast}
use Rattle.heap_logs.proofs.last_audits.last_entries.Given as goal

abbrev pub invariant-loop-index : goal.invariant-loop-index
invariant-loop-index l = (options : Options) (cpus : ℕ) → TellsLast options cpus (zip l.entries l.acts) (take l.index (zip l.entries l.acts)) l.table.entries
