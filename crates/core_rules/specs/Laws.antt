-- What this crate proves of its definitions.
use Rattle.core_format.specs.declared.whole.Core.{Core}
use Rattle.core_format.specs.Cores.{IsCore, MeetsTheRules}
use Rattle.core_format.specs.Spelling.{spelled_core}
use Rattle.core_rules.specs.Rules.{KeepsTheRules}

-- a core that keeps the rules is read again from the bytes that it is spelled as
abbrev pub KeptRulesAreReadAgain : Type 0
KeptRulesAreReadAgain = (core : Core) → KeepsTheRules core → IsCore (spelled_core core) core

-- and those are bytes, so that the core meets the rules
abbrev pub KeptRulesAreMet : Type 0
KeptRulesAreMet = (core : Core) → KeepsTheRules core → MeetsTheRules core
