-- The rules of a core, said of its fields.
use Rattle.core_format.specs.declared.whole.Core.{Core}
use Rattle.core_rules.specs.CacheRules.{KeepsCacheRules}
use Rattle.core_rules.specs.HeaderRules.{KeepsCountRules, KeepsNumberRules, KeepsSegmentRules, KeepsVersionRules}
use Rattle.core_rules.specs.LogRules.{KeepsLogRules}
use Rattle.core_rules.specs.PlaceRules.{KeepsPlacesRules}
use Rattle.core_rules.specs.SlabRules.{KeepLargeRules, KeepSlabsRules}

-- a core that keeps them may be written, and is read again
pub record KeepsTheRules (core : Core) : Type 0 where
  pub numbers : KeepsNumberRules core
  pub counts : KeepsCountRules core
  pub version : KeepsVersionRules core
  pub segments : KeepsSegmentRules core
  pub caches : KeepsCacheRules core
  pub slabs : KeepSlabsRules core
  pub large : KeepLargeRules core
  pub places : KeepsPlacesRules core
  pub logs : KeepsLogRules core
