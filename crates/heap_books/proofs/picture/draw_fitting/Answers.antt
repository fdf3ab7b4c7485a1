use Rattle.std.proofs.lemmas.Result.{IfOk-weaker}
use Rattle.heap_pictures.specs.Pictures.{DrawnWith, Pictures}
use Rattle.heap_books.proofs.FitLemmas.{fitting_picture}
use Rattle.heap_books.proofs.picture.draw_fitting.Goals as goal

pub returns-clause-pictures : goal.returns-clause-pictures
returns-clause-pictures c =
    let ledger = c.args.accounts.now in
    let books = c.requires.books in
    IfOk-weaker c.draw.result (DrawnWith ledger c.args.places) (Pictures ledger)
    (λ core drawn. fitting_picture ledger c.args.places core c.history.ensures.sound books.options books.logging
    c.requires.fit drawn) c.draw.ensures
