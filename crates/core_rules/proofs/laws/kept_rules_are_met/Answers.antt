use Rattle.core_format.specs.Spelling.{spelled_core}
use Rattle.core_rules.proofs.ByteLemmas.{spelled_in_bytes}
use Rattle.core_rules.proofs.WholeLemmas.{rules_are_read}
use Rattle.core_rules.proofs.laws.kept_rules_are_met.Goals as goal

pub returns-clause-again : goal.returns-clause-again
returns-clause-again c = rules_are_read

pub returns-clause-met : goal.returns-clause-met
returns-clause-met c = λ core rules. (spelled_core core, spelled_in_bytes core rules, rules_are_read core rules)
