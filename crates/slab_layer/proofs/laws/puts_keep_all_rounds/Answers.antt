use Rattle.slab_layer.proofs.SlabsLemmas.{KeepsRounds-after_puts, AreSlabs-after_puts}
use Rattle.slab_layer.proofs.laws.puts_keep_all_rounds.Goals as goal

pub returns-clause-holds : goal.returns-clause-holds
returns-clause-holds c = KeepsRounds-after_puts

pub returns-clause-sound : goal.returns-clause-sound
returns-clause-sound c = AreSlabs-after_puts
