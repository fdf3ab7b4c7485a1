use Rattle.std.proofs.Common.{◌≡◌, List, ℕ, sym, ap, ◌∙◌}
use Rattle.shelf.specs.Stock.{Stock}
use Rattle.heap_core.specs.FreePlaces.{list_from}
use Rattle.heap_core.proofs.ReadLemmas.{list_found, list_missing}
use Rattle.heap_core.proofs.ShelvesLemmas.{stock_there}
use Rattle.heap_core.proofs.free_places.free_list.Goals as goal
use Rattle.heap_core.proofs.free_places.free_list.Goals.{in-Some+in_ok-chunks-in-Some, in-None}

pub returns : goal.returns
returns c =
    let shelf = c.index-shelves-slab.result in
    let slab = c.args.slab.now in
    let there = stock_there c.args.shelves.now slab.cache shelf c.requires c.index-shelves-slab.is in
    let bases = c.cache.ensures.sound.slabs.bases in
    let from : c.match-list.chunks ≡ list_from shelf.stock slab.base = elim c.match-list.branch [
      | in-Some+in_ok-chunks-in-Some w ↦
          w.chunks-is ∙ w.in_ok-chunks-in-Some.ensures
          ∙ sym (list_found shelf.stock slab.base w.in-Some.rounds.now bases w.in-Some.ensures)
      | in-None w ↦
          w.chunks-is ∙ w.new-chunks.ensures ∙ w.new.ensures.items
          ∙ sym (list_missing shelf.stock slab.base w.in-None.ensures)
    ] in
    ap (λ (l : List ℕ). record { base = slab.base; chunks = l })
    (from ∙ ap (λ (s : Stock). list_from s slab.base) (sym there))
