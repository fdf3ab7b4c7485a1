use Rattle.std.proofs.Common.{arith}
use Rattle.case_table.specs.declared.addresses.TheConstants.{BUFCTLS_BASE, BUFCTL_STEP}
use Rattle.case_table.proofs.AddressesLemmas.{number_at-own, number_at-only}
use Rattle.case_table.proofs.laws.bufctls_are_known_by_their_addresses.Goals as goal

pub returns-clause-own : goal.returns-clause-own
returns-clause-own c = λ number small. number_at-own BUFCTLS_BASE BUFCTL_STEP number (omega arith) small

pub returns-clause-only : goal.returns-clause-only
returns-clause-only c = number_at-only BUFCTLS_BASE BUFCTL_STEP
