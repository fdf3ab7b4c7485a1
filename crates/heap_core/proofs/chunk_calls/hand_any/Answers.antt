use Rattle.std.proofs.Common.{ap, refl}
use Rattle.shelf.specs.Shelf.{Shelf}
use Rattle.heap_core.proofs.FoundLemmas.{can_hand, has_nothing, result_none, turn_any}
use Rattle.heap_core.proofs.GrownLemmas.{has_no_run}
use Rattle.heap_core.proofs.chunk_calls.hand_any.Goals as goal

pub refuse-requires : goal.refuse-requires
refuse-requires c =
    let asked = c.requires.asked in
    let no_run = has_no_run c.args.books.now c.args.thread c.args.call c.args.shelf.now.stock asked c.args.books.now c.requires.no_run in
    has_nothing c.args.books.now c.args.thread c.args.call c.args.shelf.now.stock asked no_run (c.in_default.ensures.none.0 refl)

pub returns-in_default-clause-ok : goal.returns-in_default-clause-ok
returns-in_default-clause-ok c =
    let asked = c.requires.asked in
    let no_run = has_no_run c.args.books.now c.args.thread c.args.call c.args.shelf.now.stock asked c.args.books.now c.requires.no_run in
    result_none c.args.books.now c.args.thread c.args.call c.args.shelf.now.stock asked c.args.cpu c.requires.cpu c.find_any.new.self.stock c.refuse.new.books c.refuse.result c.requires.bare no_run
    c.in_default.ensures.round (ap (λ (s : Shelf). s.stock) c.in_default.ensures.left) c.refuse.ensures.ok

pub hand-requires : goal.hand-requires
hand-requires c = can_hand c.args.books.now c.args.thread c.args.call c.args.shelf.now.stock c.requires.asked c.in-Some.round _ c.in-Some.ensures.holds

pub returns-clause-ok : goal.returns-clause-ok
returns-clause-ok c =
    let asked = c.requires.asked in
    let no_run = has_no_run c.args.books.now c.args.thread c.args.call c.args.shelf.now.stock asked c.args.books.now c.requires.no_run in
    turn_any c.args.books.now c.args.thread c.args.call c.args.shelf.now.stock asked c.args.cpu c.requires.cpu c.find_any.new.self.stock c.hand.new.books c.in-Some.round c.hand.result c.requires.bare no_run
    c.in-Some.ensures.round (ap (λ (s : Shelf). s.stock) c.in-Some.ensures.left) c.hand.ensures
