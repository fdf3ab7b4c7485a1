use Rattle.std.proofs.Common.{rules}
use Rattle.magazine.proofs.CpuCacheLemmas.{IsPermutation-TakesLoaded, holds_for_option}
use Rattle.magazine.proofs.cpu_cache.CpuCache.take_any.Goals as goal

pub returns-in-Some-clause-holds : goal.returns-in-Some-clause-holds
returns-in-Some-clause-holds c =
    IsPermutation-TakesLoaded {old = c.args.self.now} {new = record { size = c.pop.new.self.size; loaded = c.pop.new.self.rounds; previous = c.self.inside.previous.rounds }} (search rules)

pub returns-clause-holds : goal.returns-clause-holds
returns-clause-holds c =
    holds_for_option c.pop-2.result c.args.self.now (record { size = c.pop.new.self.size; loaded = c.pop.new.self.rounds; previous = c.pop-2.new.self.rounds }) (search rules)
