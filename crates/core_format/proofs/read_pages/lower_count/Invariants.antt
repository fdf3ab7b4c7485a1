use Rattle.std.proofs.Common.{◌≡◌, ◌+◌, drop}
use Rattle.core_format.specs.PageBytes.{lower_count}
use Rattle.core_format.proofs.read_pages.lower_count.Given as goal

abbrev pub invariant-loop-item : goal.invariant-loop-item
invariant-loop-item l = record {
  count : l.count ≡ l.item-index;
  value : l.count + lower_count l.base (drop l.item-index l.large) ≡ lower_count l.base l.large;
}
