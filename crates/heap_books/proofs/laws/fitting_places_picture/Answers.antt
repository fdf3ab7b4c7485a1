use Rattle.heap_books.proofs.FitLemmas.{fitting_picture}
use Rattle.heap_books.proofs.laws.fitting_places_picture.Goals as goal

pub returns : goal.returns
returns c = fitting_picture
