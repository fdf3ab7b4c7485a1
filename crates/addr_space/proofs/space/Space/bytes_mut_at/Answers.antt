use Rattle.std.proofs.Common.{refl}
use Rattle.addr_space.proofs.SpaceLemmas.{no_run, IsSound-with_bytes, IsInRun-from_place, IsLent, IsLent-part, with_part_at-bytes}
use Rattle.addr_space.proofs.space.Space.bytes_mut_at.Goals as goal

pub returns : goal.returns
returns c =
    let ms = c.self.inside.runs.items in
    let place = c.args.place in
    let asked = rw (← c.self.view_is) at c.requires in
    let value = rw (← c.self.view_is) at c.part_mut.ensures.value in
    let lent : IsLent ms c.args.at c.args.count c.part_mut.result.now = IsLent-part ms place.index place.from c.args.at c.args.count c.part_mut.result.now c.self.invariant asked.some asked.within asked.range value in
    rw (← c.self.view_is) (
      (refl, λ w. with_part_at-bytes ms place.index place.from c.args.at c.args.count w c.self.invariant asked.some asked.within asked.range),
      record {
        writes_back = tt;
        writes = lent.writes;
        sound = λ w. IsSound-with_bytes ms c.args.at w c.self.invariant;
        inside = IsInRun-from_place ms place.index c.args.at place.from c.args.count no_run c.self.invariant asked.within (asked.range no_run);
        len = c.part_mut.ensures.len;
        bytes = lent.bytes;
      },
    )
