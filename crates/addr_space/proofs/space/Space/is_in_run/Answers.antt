use Rattle.addr_space.proofs.SpaceLemmas.{no_run, IsInRun-from_place, decides_some, IsSound-from_space}
use Rattle.addr_space.proofs.space.Space.is_in_run.Goals as goal

pub returns : goal.returns
returns c =
    let ms = c.self.inside.runs.items in
    rw (← c.self.view_is) (record {
      sound = IsSound-from_space ms c.self.invariant;
      inside = decides_some c.place_of.result c.is_some.result (rw (← c.self.view_is) at c.place_of.ensures.found) c.is_some.ensures
          (λ none in_run. none in_run.0 in_run.1)
          (λ p place. (place.0, IsInRun-from_place ms p.index c.args.at p.from c.args.count no_run c.self.invariant place.1 (place.2 no_run)));
    })
