use Rattle.std.proofs.Common.{take}
use Rattle.std.specs.Prelude.{zip}
use Rattle.heap_logs.specs.Transactions.{transaction_of}
use Rattle.heap_logs.proofs.PassedLemmas.{ArePassed}
use Rattle.heap_logs.proofs.last_transactions.transactions_behind.Given as goal

abbrev pub invariant-loop-index : goal.invariant-loop-index
invariant-loop-index l = ArePassed (transaction_of l.options l.cpus) (take l.index (zip l.entries l.acts)) l.passed l.left l.items.items
