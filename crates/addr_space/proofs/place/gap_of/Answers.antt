use Rattle.std.proofs.Common.{◌-◌, ◌<◌, ◌≤◌, length, arith}
use Rattle.std.proofs.lemmas.List.{get_or_default}
use Rattle.addr_space.specs.MappedRun.{MappedRun, Meets}
use Rattle.addr_space.proofs.SpaceLemmas.{HoldsAt-from, IsSplit-from_sides}
use Rattle.addr_space.proofs.place.gap_of.Goals as goal
use Rattle.addr_space.proofs.place.gap_of.Goals.{then-index-gt0+else-from-base, else-index-gt0, else-index-runs-via-then-index-runs+else-base-to, else-index-runs-via-else-index-runs}

pub returns-then-from-base : goal.returns-then-from-base
returns-then-from-base c =
    let ms = c.args.runs.now in
    let i = c.count_from_below-index.result - 1 in
    let m = c.index-runs-index.result in
    let lt : i < length ms = omega arith in
    let below = c.count_from_below-index.ensures.before i m (omega arith) in
    let low : m.base ≤ c.args.from = rw c.index-runs-index.is below in
    let inside : c.args.from - m.base < length m.bytes = rw (← c.base.ensures, ← c.bytes.ensures) c.if-from-base.true in
    let meets : Meets c.args.from c.args.to m = (omega arith, omega arith) in
    (i, lt, HoldsAt-from (Meets c.args.from c.args.to) ms i m lt (rw (← c.index-runs-index.is) meets))

pub returns : goal.returns
returns c =
    let ms = c.args.runs.now in
    let index = c.count_from_below-index.result in
    let low = c.count_from_below-index.ensures.before in
    IsSplit-from_sides ms c.args.from c.args.to index c.requires.space c.count_from_below-index.ensures.within
    (λ some d. elim c.if-index-gt0.branch [
      | then-index-gt0+else-from-base w ↦
          let m : MappedRun = w.index-runs-index.result in
          let outside : length m.bytes ≤ c.args.from - m.base = rw (← w.base.ensures, ← w.bytes.ensures) w.if-from-base.false in
          let same = get_or_default ms (index - 1) d m (omega arith) in
          let low' = rw (same, ← w.index-runs-index.is) at (low (index - 1) d (omega arith)) in
          rw (same, ← w.index-runs-index.is) (omega arith)
      | else-index-gt0 w ↦ absurd (omega arith)
    ])
    (λ less d. elim c.else-index-runs.branch [
      | else-index-runs-via-then-index-runs+else-base-to w ↦
          let m : MappedRun = w.index-runs-index-then-index-runs.result in
          let high : c.args.to ≤ m.base = rw (← w.base-then-index-runs.ensures) w.if-base-to.false in
          rw (get_or_default ms index d m less, ← w.index-runs-index-then-index-runs.is) high
      | else-index-runs-via-else-index-runs w ↦ absurd (omega arith)
    ])
