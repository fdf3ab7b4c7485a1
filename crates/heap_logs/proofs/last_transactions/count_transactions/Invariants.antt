use Rattle.std.proofs.Common.{◌≡◌, ◌≤◌, ℕ, length, take}
use Rattle.std.specs.Prelude.{filter_map, zip}
use Rattle.umem_options.specs.declared.options.Options.{Options}
use Rattle.heap_logs.specs.Transactions.{transaction_of}
use Rattle.heap_logs.proofs.last_transactions.count_transactions.Given as goal

abbrev pub invariant-loop-index : goal.invariant-loop-index
invariant-loop-index l = record {
  few : l.count ≤ l.index;
  exact : (options : Options) (cpus : ℕ) → l.count ≡ length (filter_map (transaction_of options cpus) (take l.index (zip l.entries l.acts)));
}
