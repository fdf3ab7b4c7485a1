use Rattle.std.proofs.Common.{◌∙◌, ap, subst, sym}
use Rattle.shelf.specs.Shelf.{Shelf}
use Rattle.heap_core.specs.ChunkCalls.{IsAskedOf}
use Rattle.heap_core.proofs.HeapLemmas.{asked_of, cache_within, heap_kept, turn_heap}
use Rattle.heap_core.proofs.chunk_calls.perform_chunk.Goals as goal

pub bounds-shelves-cache : goal.bounds-shelves-cache
bounds-shelves-cache c = cache_within c.args.books.now c.args.shelves.now c.requires.heap c.args.thread c.args.call c.args.cache c.requires.due

pub perform_on-requires : goal.perform_on-requires
perform_on-requires c =
    let at = c.index-shelves-cache.is in
    subst (λ (s : Shelf). IsAskedOf c.args.books.now c.args.thread c.args.call s.stock) at
    (asked_of c.args.books.now c.args.shelves.now c.requires.heap c.args.thread c.args.call c.args.cache c.requires.due c.index-shelves-cache.result at)

pub returns-in_err-turn-clause-heap : goal.returns-in_err-turn-clause-heap
returns-in_err-turn-clause-heap c =
    let at = c.index-shelves-cache.is in
    let kept = c.in_err-turn.ensures.kept ∙ ap (λ (s : Shelf). s.stock) (sym at) in
    heap_kept c.args.books.now c.args.shelves.now c.requires.heap c.args.thread c.args.call c.args.cache c.requires.due c.index-shelves-cache.result c.perform_on.new.shelf c.perform_on.new.books at
    c.in_err-turn.ensures.err kept

pub returns-clause-heap : goal.returns-clause-heap
returns-clause-heap c =
    turn_heap c.args.books.now c.args.shelves.now c.requires.heap c.args.thread c.args.call c.args.cache c.requires.due c.perform_on.new.shelf c.perform_on.new.books c.in_ok-turn.turn
    c.history.ensures.sound c.history.ensures.few c.in_ok-turn.ensures.ok
