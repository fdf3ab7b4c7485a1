use Rattle.std.proofs.Common.{◌≡◌, ◌++◌, drop}
use Rattle.core_format.specs.Spelling.{spelled_pages}
use Rattle.core_format.proofs.put_pages.put_pages.Given as goal

abbrev pub invariant-loop-slab : goal.invariant-loop-slab
invariant-loop-slab l = l.out.items ++ spelled_pages (drop l.slab-index l.slabs) l.left ≡ l.fn.out.items ++ spelled_pages l.fn.slabs l.fn.large
