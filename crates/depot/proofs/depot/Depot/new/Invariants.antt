use Rattle.std.proofs.Common.{◌≡◌, ◌+◌, All, length}
use Rattle.depot.specs.declared.depot.TheConstants.{MAGAZINES}
use Rattle.depot.specs.Depot.{IsEmptyOf}
use Rattle.depot.proofs.depot.Depot.new.Given as goal

abbrev pub invariant-loop : goal.invariant-loop
invariant-loop l = record {
  count : length l.empty.items ≡ l.counter;
  room : l.empty.spare + l.counter ≡ MAGAZINES;
  empty : All (IsEmptyOf l.size) l.empty.items;
}
