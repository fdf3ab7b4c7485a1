use Rattle.std.proofs.Common.{◌≡◌, ◌++◌, drop}
use Rattle.core_format.specs.Spelling.{large_bytes}
use Rattle.core_format.proofs.put_pages.put_large_bytes.Given as goal

abbrev pub invariant-loop-item : goal.invariant-loop-item
invariant-loop-item l = l.out.items ++ large_bytes (drop l.item-index l.large) ≡ l.fn.out.items ++ large_bytes l.large
