use Rattle.std.proofs.Common.{◌≡◌, [], ◌∷◌, ◌++◌, Option, Some, None}
use Rattle.std.specs.Prelude.{MatchOption}
use Rattle.umem_base.specs.BoundedVec.{BoundedVec}
use Rattle.plain_heap.specs.declared.entry.Entry.{Entry}
use Rattle.plain_heap.specs.History.{IsNumbered}
use Rattle.plain_heap.proofs.HistoryLemmas.{numbered_pop}
use Rattle.plain_heap.proofs.history.History.pop.Goals as goal

still_numbered : (result : Option Entry) (old new : BoundedVec Entry) → IsNumbered 0 old.items → MatchOption result (new ≡ old) (λ entry. old.items ≡ new.items ++ entry ∷ []) → IsNumbered 0 new.items
still_numbered None old new h is = rw is h
still_numbered (Some entry) old new h is = numbered_pop 0 new.items entry (rw is at h)

pub invariant_of-self : goal.invariant_of-self
invariant_of-self c = still_numbered c.pop.result c.self.inside.entries c.pop.new.self c.self.invariant c.pop.ensures.items
