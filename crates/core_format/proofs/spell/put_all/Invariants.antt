use Rattle.std.proofs.Common.{◌≡◌, ◌++◌, drop}
use Rattle.std.specs.List.{flat_map}
use Rattle.core_format.proofs.spell.put_all.Given as goal

abbrev pub invariant-loop-item : goal.invariant-loop-item
invariant-loop-item g l = l.out.items ++ flat_map g.T.Spell.spelled (drop l.item-index l.items) ≡ l.fn.out.items ++ flat_map g.T.Spell.spelled l.items
