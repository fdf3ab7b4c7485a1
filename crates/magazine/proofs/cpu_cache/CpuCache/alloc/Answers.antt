use Rattle.std.proofs.Common.{rules}
use Rattle.magazine.proofs.CpuCacheLemmas.{holds_for_need}
use Rattle.magazine.proofs.cpu_cache.CpuCache.alloc.Goals as goal

pub returns-clause-holds : goal.returns-clause-holds
returns-clause-holds c =
    holds_for_need c.match-pop.result c.args.self.now (record { size = c.pop.new.self.size; loaded = c.pop.new.self.rounds; previous = c.if-is_empty.self-inside.previous.rounds }) (search rules)
