use Rattle.shelf.proofs.StockLemmas.{IsBare-taken_from, held_none, taken_any-none, taken_any_is, taken_from-none, taken_from_is}
use Rattle.shelf.proofs.laws.allocations_take_one.Goals as goal

pub returns-clause-from : goal.returns-clause-from
returns-clause-from c = taken_from_is

pub returns-clause-any : goal.returns-clause-any
returns-clause-any c = taken_any_is

pub returns-clause-bare : goal.returns-clause-bare
returns-clause-bare c = λ stock cpu lt h. (IsBare-taken_from stock cpu lt h, taken_from-none stock cpu)

pub returns-clause-none : goal.returns-clause-none
returns-clause-none c = λ stock cpu lt h. (held_none stock cpu lt h, taken_any-none stock cpu lt h)
