use Rattle.std.proofs.Common.{Option, ap, sym, subst, ◌∙◌}
use Rattle.std.specs.Prelude.{None, IsSome, is_some}
use Rattle.std.proofs.lemmas.Bool.{false≢true}
use Rattle.plain_heap.specs.declared.held.Held.{Held}
use Rattle.std.specs.Ordering.{nat_cmp}
use Rattle.std.specs.FinMap as map
use Rattle.plain_heap.specs.declared.live.Live.TheInside.{Inside}
use Rattle.plain_heap.specs.Live.{Live}
use Rattle.plain_heap.specs.Live.{live_in}
use Rattle.plain_heap.proofs.LiveLemmas.{live_get, live_set}
use Rattle.plain_heap.proofs.live.Live.freed.Goals as goal
use Rattle.plain_heap.proofs.live.Live.freed.Goals.{in-Some, in_default}

pub returns-clause-buffers : goal.returns-clause-buffers
returns-clause-buffers c =
    let old = c.self.inside.buffers.entries in
    elim c.match-get_mut.branch [
      | in-Some w ↦
          let there = sym (ap is_some w.in-Some.ensures.value) in
          let updates = (c.get_mut.follows.holds None).3 there in
          ap (λ (i : Inside). map.from_entries {R = nat_cmp} i.buffers.entries) w.self-inside-is
          ∙ live_set old (c.get_mut.follows.lender None).entries c.args.address None updates.0
          ∙ ap (λ (b : Live). map.insert b.buffers c.args.address None) c.self.view_is
      | in_default w ↦
          let none = sym (ap (λ (b : Live). map.get b.buffers c.args.address) c.self.view_is) ∙ live_get old c.args.address ∙ sym w.in_default.ensures.value in
          let some = subst (λ (o : Option (Option Held)). IsSome (live_in o)) none c.requires in absurd (false≢true some)
    ]
