use Rattle.std.proofs.Common.{rules}
use Rattle.magazine.proofs.CpuCacheLemmas.{holds_for_room}
use Rattle.magazine.proofs.cpu_cache.CpuCache.free.Goals as goal

pub returns-clause-holds : goal.returns-clause-holds
returns-clause-holds c =
    holds_for_room c.match-push.result c.args.self.now (record { size = c.push.new.self.size; loaded = c.push.new.self.rounds; previous = c.if-is_full.self-inside.previous.rounds }) c.args.round (search rules)
