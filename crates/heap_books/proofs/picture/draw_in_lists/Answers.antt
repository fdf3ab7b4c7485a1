use Rattle.std.proofs.lemmas.Result.{IfOk-weaker}
use Rattle.heap_ledger.specs.Ledger.{run_setting, run_state}
use Rattle.heap_pictures.specs.Pictures.{DrawnWith, Pictures}
use Rattle.heap_books.specs.InLists.{DrawnInLists}
use Rattle.heap_books.proofs.FitLemmas.{fitting_picture}
use Rattle.heap_books.proofs.InListsLemmas.{drawn_in_lists, in_lists_fit}
use Rattle.heap_books.proofs.RunLemmas.{good_run}
use Rattle.heap_books.proofs.picture.draw_in_lists.Goals as goal

pub returns-clause-drawn : goal.returns-clause-drawn
returns-clause-drawn c =
    let ledger = c.args.accounts.now in
    IfOk-weaker c.draw.result (DrawnWith ledger c.args.places) (DrawnInLists ledger)
    (λ core drawn. drawn_in_lists ledger c.args.places core c.requires.are drawn) c.draw.ensures

pub returns-clause-pictures : goal.returns-clause-pictures
returns-clause-pictures c =
    let ledger = c.args.accounts.now in
    let books = c.requires.books in
    let fit =
    in_lists_fit (run_setting ledger) (run_state ledger) c.args.places (good_run ledger c.history.ensures.sound)
    c.requires.are in
    IfOk-weaker c.draw.result (DrawnWith ledger c.args.places) (Pictures ledger)
    (λ core drawn. fitting_picture ledger c.args.places core c.history.ensures.sound books.options books.logging fit
    drawn) c.draw.ensures
