use Rattle.std.proofs.Common.{◌≡◌, ◌∙◌, ◌++◌, List, map, ap, rules}
use Rattle.std.proofs.lemmas.List.Sorted.{IsNonDecreasingBy-from_sort_by_key}
use Rattle.core_format.specs.declared.items.LargeItem.{LargeItem}
use Rattle.core_format.specs.Chunks.{allocated_in}
use Rattle.heap_view.specs.declared.buffer.Buffer.{Buffer}
use Rattle.heap_view.specs.Buffers.{allocated_buffers, chunk_buffers, large_buffer}
use Rattle.heap_view.proofs.BuffersLemmas.{allocated_same}
use Rattle.heap_view.proofs.build.allocated_by_address.Goals as goal

pub returns : goal.returns
returns c =
    let core = c.args.core.now in
    let all : c.put_large.new.out.items ≡ allocated_buffers core =
    c.in_ok-put_large.ensures ∙ ap (λ (xs : List Buffer). xs ++ map large_buffer c.as_slice.result.now) c.in_ok-buffers.ensures
    ∙ ap (λ (ls : List LargeItem). chunk_buffers core (allocated_in core) ++ map large_buffer ls) c.as_slice.ensures in
    let up = IsNonDecreasingBy-from_sort_by_key (λ (b : Buffer). b.address) _ c.in_ok-sort_by_key.ensures.sorted (λ a r q k. search rules) in
    allocated_same core c.put_large.new.out.items _ c.requires.laid_out all up c.in_ok-sort_by_key.ensures.permutation
