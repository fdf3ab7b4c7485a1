use Rattle.findleaks.proofs.ChainsLemmas.{reached_from_chain}
use Rattle.findleaks.proofs.laws.nothing_reachable_from_a_reached_buffer_is_leaked.Goals as goal

pub returns-clause-reached : goal.returns-clause-reached
returns-clause-reached c = λ core start buffer chain. reached_from_chain core start chain buffer

pub returns-clause-not_leaked : goal.returns-clause-not_leaked
returns-clause-not_leaked c = λ core start buffer chain reached contains leads leaked. leaked.1 (reached_from_chain core start chain buffer reached contains leads)
