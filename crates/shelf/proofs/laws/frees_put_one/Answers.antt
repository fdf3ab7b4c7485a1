use Rattle.shelf.proofs.StockLemmas.{put_on_is}
use Rattle.shelf.proofs.laws.frees_put_one.Goals as goal

pub returns : goal.returns
returns c = put_on_is
