use Rattle.std.proofs.Common.{◌≡◌, ◌∙◌, true, subst, sym, arith}
use Rattle.core_format.specs.declared.items.CacheItem.{CacheItem}
use Rattle.core_format.specs.Caches.{is_size_of}
use Rattle.core_format.specs.Chunks.{is_guarded_core}
use Rattle.verify.proofs.LineLemmas.{cache_at, cache_bytes, cache_got, finding-guarded, finding-unguarded, room_for_tag}
use Rattle.verify.proofs.check.finding_of.Goals as goal

pub guarded_finding-requires-clause-sized : goal.guarded_finding-requires-clause-sized
guarded_finding-requires-clause-sized c =
    let core = c.args.core.now in
    let cache = c.args.slab.now.cache in
    let item = c.index-as_slice-slab.result in
    let at = cache_at core cache _ item c.as_slice.ensures c.index-as_slice-slab.is in
    subst (λ (i : CacheItem). is_size_of cache i.def.size ≡ true) (sym at) (c.requires.laid_out.sized cache item c.requires.slab.of_cache)

pub guarded_finding-requires-clause-room : goal.guarded_finding-requires-clause-room
guarded_finding-requires-clause-room c =
    let core = c.args.core.now in
    let cache = c.args.slab.now.cache in
    let item = c.index-as_slice-slab.result in
    let at = cache_at core cache _ item c.as_slice.ensures c.index-as_slice-slab.is in
    let bytes = cache_bytes core cache item c.requires.slab.of_cache at in
    omega (arith, c.chunk_bytes-bytes.ensures.count, room_for_tag _ item.def.size (is_guarded_core core) c.args.geometry.now.chunk bytes (sym c.is_guarded.ensures ∙ c.if-is_guarded.true) c.requires.shape.tagged)

pub unguarded_finding-requires-clause-room : goal.unguarded_finding-requires-clause-room
unguarded_finding-requires-clause-room c =
    let core = c.args.core.now in
    let cache = c.args.slab.now.cache in
    let item = c.index-as_slice-slab.result in
    let at = cache_at core cache _ item c.as_slice.ensures c.index-as_slice-slab.is in
    omega (arith, c.chunk_bytes-bytes.ensures.count, cache_bytes core cache item c.requires.slab.of_cache at, c.requires.shape.size_fits)

pub returns-then-is_guarded : goal.returns-then-is_guarded
returns-then-is_guarded c =
    let core = c.args.core.now in
    let slab = c.args.slab.now in
    let item = c.index-as_slice-slab.result in
    let at = cache_at core slab.cache _ item c.as_slice.ensures c.index-as_slice-slab.is in
    finding-guarded core slab c.args.chunk c.args.state item c.chunk_bytes-bytes.result.now c.guarded_finding.result (cache_got core slab.cache item c.requires.slab.of_cache at)
    (sym c.is_guarded.ensures ∙ c.if-is_guarded.true) c.chunk_bytes-bytes.ensures.value c.guarded_finding.ensures

pub returns-else-is_guarded : goal.returns-else-is_guarded
returns-else-is_guarded c =
    let core = c.args.core.now in
    let slab = c.args.slab.now in
    let item = c.index-as_slice-slab.result in
    let at = cache_at core slab.cache _ item c.as_slice.ensures c.index-as_slice-slab.is in
    finding-unguarded core slab c.args.chunk c.args.state item c.chunk_bytes-bytes.result.now c.unguarded_finding.result (cache_got core slab.cache item c.requires.slab.of_cache at)
    (sym c.is_guarded.ensures ∙ c.if-is_guarded.false) c.chunk_bytes-bytes.ensures.value c.unguarded_finding.ensures
