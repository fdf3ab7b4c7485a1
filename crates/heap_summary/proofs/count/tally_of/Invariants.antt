use Rattle.std.proofs.Common.{◌≡◌, ◌*◌, ◌≤◌, take}
use Rattle.heap_summary.specs.Tallies.{tally_of}
use Rattle.heap_summary.proofs.count.tally_of.Given as goal

abbrev pub invariant-loop-entry : goal.invariant-loop-entry
invariant-loop-entry l = record {
  are : l.tally ≡ tally_of l.caches (take l.entry-index l.entries);
  handed : l.tally.handed ≤ l.entry-index * 4294967295;
  back : l.tally.back ≤ l.entry-index * 4294967295;
}
