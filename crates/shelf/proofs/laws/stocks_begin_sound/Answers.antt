use Rattle.std.proofs.Common.{arith}
use Rattle.shelf.proofs.PartsLemmas.{IsStock-empty}
use Rattle.shelf.proofs.laws.stocks_begin_sound.Goals as goal

pub returns : goal.returns
returns c = λ size cpus some. IsStock-empty size cpus (omega arith)
