use Rattle.std.proofs.Common.{◌+◌, ◌∙◌, arith}
use Rattle.std.proofs.lemmas.List.Edits.{length-between}
use Rattle.addr_space.specs.MappedRun.{HoldsRange}
use Rattle.addr_space.proofs.SpaceLemmas.{IsInRun-from_place, HasBytes-part}
use Rattle.addr_space.proofs.space.Space.bytes_of.Goals as goal

pub returns-clause-some : goal.returns-clause-some
returns-clause-some c =
    let ms = c.self.inside.runs.items in
    let m = c.index.result.now in
    let place = rw (← c.self.view_is) at c.in_ok-place.ensures.found in
    rw (← c.self.view_is) (place.0, IsInRun-from_place ms c.in_ok-place.place.index c.args.at c.in_ok-place.place.from c.args.count m c.self.invariant place.1 (place.2 m))

pub returns-clause-bytes : goal.returns-clause-bytes
returns-clause-bytes c =
    let ms = c.self.inside.runs.items in
    let m = c.index.result.now in
    let place = rw (← c.self.view_is) at c.in_ok-place.ensures.found in
    let range : HoldsRange c.args.at c.in_ok-place.place.from c.args.count m = rw c.index.ensures (place.2 m) in
    rw (← c.self.view_is, c.bytes-bytes.ensures) (
      length-between m.bytes c.in_ok-place.place.from (c.in_ok-place.place.from + c.args.count) range.1 ∙ omega arith,
      HasBytes-part ms c.in_ok-place.place.index c.args.at c.in_ok-place.place.from c.args.count m c.self.invariant place.1 c.index.ensures range,
    )
