use Rattle.std.proofs.Common.{◌≡◌, ◌∙◌, ◌+◌, List, get_or, ap, sym, arith}
use Rattle.core_format.specs.declared.items.CacheItem.{CacheItem}
use Rattle.heap_view.specs.Buffers.{buffer_bytes}
use Rattle.heap_view.proofs.BuffersLemmas.{bytes_are, chunk_buffer_is}
use Rattle.heap_view.proofs.build.chunk_buffer.Goals as goal

pub overflow_add-result-2 : goal.overflow_add-result-2
overflow_add-result-2 c = omega (arith, c.requires.slab.numbered, c.requires.shape.rounds, c.requires.within)

pub returns : goal.returns
returns c =
    let core = c.args.core.now in
    let slab = c.args.slab.now in
    let item = c.index-as_slice-slab.result in
    let size : c.from-2.result ≡ buffer_bytes core slab.cache = c.from-2.ensures ∙ ap (λ (xs : List CacheItem). (get_or xs slab.cache item).def.size) c.as_slice.ensures ∙ sym (bytes_are core slab.cache item c.requires.slab.of_cache) in
    chunk_buffer_is core slab c.args.geometry.now c.args.index (slab.base + c.from.result) c.from-2.result c.requires.shape (ap (λ n. slab.base + n) c.from.ensures) size
