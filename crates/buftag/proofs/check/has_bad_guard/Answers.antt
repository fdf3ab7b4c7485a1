use Rattle.std.proofs.Common.{◌≤◌, ◌∙◌, arith, sym}
use Rattle.buftag.proofs.ShapeLemmas.{told_size-within}
use Rattle.buftag.proofs.check.has_bad_guard.Goals as goal

pub bounds-bytes-size : goal.bounds-bytes-size
bounds-bytes-size c =
    let within : c.in-Some.size ≤ c.args.shape.now.content = told_size-within c.args.bytes.now c.args.shape.now c.in-Some.size c.requires.shape (sym c.requires.told ∙ c.in-Some.is) in
    omega arith
