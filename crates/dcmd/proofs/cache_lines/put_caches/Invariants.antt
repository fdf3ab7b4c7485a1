use Rattle.std.proofs.Common.{◌≡◌, ◌++◌, take}
use Rattle.std.specs.List.{enumerate_from, flat_map}
use Rattle.dcmd.specs.CacheLines.{cache_line}
use Rattle.dcmd.proofs.cache_lines.put_caches.Given as goal

abbrev pub invariant-loop-index : goal.invariant-loop-index
invariant-loop-index l = l.out ≡ l.initial.out ++ flat_map (cache_line l.core) (enumerate_from 0 (take l.index l.core.caches))
