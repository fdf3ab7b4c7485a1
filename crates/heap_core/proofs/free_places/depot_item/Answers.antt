use Rattle.std.proofs.Common.{List, ℕ, ap, ◌∙◌}
use Rattle.heap_core.proofs.ReadLemmas.{depot_read}
use Rattle.heap_core.proofs.free_places.depot_item.Goals as goal

pub returns : goal.returns
returns c =
    let stock = c.args.shelf.now.stock in
    let turn = c.loop-magazine in
    let magazines = c.full-magazine-items in
    let read =
    depot_read stock.size turn.magazine-index stock.depot turn.full.items magazines.result.now magazines.ensures
    c.loop-magazine-test.false turn.invariant in
    ap (λ (l : List (List ℕ)). record { full = l }) (c.new.ensures ∙ read)
