use Rattle.std.proofs.Common.{◌≡◌, ℕ, ◌<◌, get_or, length, take}
use Rattle.dcmd.specs.CacheLines.{chunk_count}
use Rattle.dcmd.proofs.cache_lines.chunk_counts.Given as goal

abbrev pub invariant-loop-slab : goal.invariant-loop-slab
invariant-loop-slab l = record {
  all : length l.counts.items ≡ length l.core.caches;
  counted : (cache : ℕ) → cache < length l.core.caches → get_or l.counts.items cache 0 ≡ chunk_count l.core (take l.slab-index l.core.slabs) cache;
}
