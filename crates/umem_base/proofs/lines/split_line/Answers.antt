use Rattle.std.proofs.Common.{ℕ, ◌+◌, add-one, length, sym, arith}
use Rattle.std.specs.Prelude.{◌==◌}
use Rattle.std.proofs.lemmas.List.Quantifiers.{position-Some}
use Rattle.umem_base.proofs.LinesLemmas.{lines_of-at, lines_of-none}
use Rattle.std.proofs.lemmas.List.{drop_all}
use Rattle.umem_base.proofs.Lists.{slice_rest, position-None}
use Rattle.umem_base.proofs.lines.split_line.Goals as goal

pub returns-in-Some-clause-lines : goal.returns-in-Some-clause-lines
returns-in-Some-clause-lines c =
    let bytes = c.args.bytes.now in
    let end = position-Some (λ (byte : ℕ). byte == 10) bytes c.in-Some.end 0 (sym c.in-Some.ensures) in
    rw (slice_rest bytes (c.in-Some.end + 1), add-one) (lines_of-at bytes c.in-Some.end end.0 end.1 end.2)

pub returns-in-None-clause-lines : goal.returns-in-None-clause-lines
returns-in-None-clause-lines c =
    let bytes = c.args.bytes.now in
    rw (slice_rest bytes (length bytes), drop_all (length bytes) bytes (omega arith)) (lines_of-none bytes c.requires (position-None (λ (byte : ℕ). byte == 10) bytes 0 (sym c.in-None.ensures)))
