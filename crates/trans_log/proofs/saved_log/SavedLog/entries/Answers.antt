use Rattle.trans_log.proofs.SavedLogLemmas.{saved_by-short, saved_by-within}
use Rattle.trans_log.proofs.saved_log.SavedLog.entries.Goals as goal

pub returns-clause-within : goal.returns-clause-within
returns-clause-within c =
    rw (← c.self.view_is) (saved_by-within c.self.inside.records.capacity c.self.inside.count c.self.inside.bytes.capacity c.self.inside.records.items c.self.inside.bytes.items c.self.invariant)

pub returns-clause-short : goal.returns-clause-short
returns-clause-short c =
    rw (← c.self.view_is) (saved_by-short c.self.inside.count c.self.inside.records.items c.self.inside.bytes.items c.self.invariant.short)
