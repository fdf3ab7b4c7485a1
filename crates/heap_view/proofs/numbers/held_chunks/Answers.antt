use Rattle.std.proofs.Common.{◌≡◌, ◌∙◌, ◌++◌, ap, ℕ, List}
use Rattle.std.specs.List.{flat_map}
use Rattle.std.proofs.lemmas.List.Sorted.{IsNonDecreasingBy-from_sort}
use Rattle.core_format.specs.declared.items.CpuPlace.{CpuPlace}
use Rattle.core_format.specs.declared.items.DepotItem.{DepotItem}
use Rattle.core_format.specs.declared.items.SlabItem.{SlabItem}
use Rattle.core_format.specs.Magazines.{depot_rounds_of, place_rounds}
use Rattle.heap_view.proofs.NumbersLemmas.{held_are}
use Rattle.heap_view.proofs.numbers.held_chunks.Goals as goal

pub returns : goal.returns
returns c =
    let core = c.args.core.now in
    let listed : c.put_listed.new.out.items ≡ flat_map (λ (slab : SlabItem). slab.free) core.slabs =
    c.in_ok-put_listed.ensures ∙ ap (λ (xs : List ℕ). xs ++ flat_map (λ (slab : SlabItem). slab.free) c.as_slice.result.now) c.new-held.ensures.items ∙ ap (flat_map (λ (slab : SlabItem). slab.free)) c.as_slice.ensures in
    let placed : c.put_places.new.out.items ≡ flat_map (λ (slab : SlabItem). slab.free) core.slabs ++ flat_map place_rounds core.cpu_places =
    c.in_ok-put_places.ensures ∙ ap (λ (xs : List ℕ). xs ++ flat_map place_rounds c.as_slice-2.result.now) listed ∙ ap (λ (ps : List CpuPlace). flat_map (λ (slab : SlabItem). slab.free) core.slabs ++ flat_map place_rounds ps) c.as_slice-2.ensures in
    let stored : c.put_depots.new.out.items ≡ (flat_map (λ (slab : SlabItem). slab.free) core.slabs ++ flat_map place_rounds core.cpu_places) ++ flat_map depot_rounds_of core.depots =
    c.in_ok-put_depots.ensures ∙ ap (λ (xs : List ℕ). xs ++ flat_map depot_rounds_of c.as_slice-3.result.now) placed
    ∙ ap (λ (ds : List DepotItem). (flat_map (λ (slab : SlabItem). slab.free) core.slabs ++ flat_map place_rounds core.cpu_places) ++ flat_map depot_rounds_of ds) c.as_slice-3.ensures in
    record {
      rise = IsNonDecreasingBy-from_sort (λ (n : ℕ). n) _ c.sort_unstable.ensures.sorted;
      are = held_are core c.put_depots.new.out.items _ stored c.sort_unstable.ensures.permutation;
    }
