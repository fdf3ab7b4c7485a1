use Rattle.std.proofs.Common.{rules}
use Rattle.std.proofs.lemmas.List.Sorted.{IsNonDecreasingBy-from_sort_by_key}
use Rattle.heap_view.specs.declared.buffer.Buffer.{Buffer}
use Rattle.heap_view.proofs.BuffersLemmas.{free_same}
use Rattle.heap_view.proofs.build.free_by_address.Goals as goal

pub returns : goal.returns
returns c =
    let core = c.args.core.now in
    let up = IsNonDecreasingBy-from_sort_by_key (λ (b : Buffer). b.address) _ c.in_ok-sort_by_key.ensures.sorted (λ a r q k. search rules) in
    free_same core _ _ c.requires.laid_out c.in_ok-buffers.ensures up c.in_ok-sort_by_key.ensures.permutation
