use Rattle.std.proofs.Common.{◌≡◌, ◌∙◌, ap, ℕ}
use Rattle.std.specs.List.{flat_map}
use Rattle.std.proofs.lemmas.List.{take_all}
use Rattle.std.proofs.lemmas.List.Sorted.{IsNonDecreasingBy-from_sort}
use Rattle.heap_view.specs.Buffers.{chunks_of}
use Rattle.heap_view.proofs.NumbersLemmas.{chunks_are}
use Rattle.heap_view.proofs.build.all_chunks.Goals as goal

pub returns : goal.returns
returns c =
    let core = c.args.core.now in
    let all : c.loop-slab.chunks.items ≡ flat_map (chunks_of core) core.slabs = c.loop-slab.invariant ∙ ap (flat_map (chunks_of core)) (take_all c.loop-slab.slab-index c.as_slice-slab-items.result.now c.loop-slab-test.false ∙ c.as_slice-slab-items.ensures) in
    record {
      rise = IsNonDecreasingBy-from_sort (λ (n : ℕ). n) _ c.sort_unstable.ensures.sorted;
      are = chunks_are core c.loop-slab.chunks.items _ all c.sort_unstable.ensures.permutation;
    }
