use Rattle.std.proofs.Common.{length, sym, arith}
use Rattle.std.proofs.lemmas.List.Quantifiers.{position-Some}
use Rattle.umem_base.specs.Lines.{is_blank}
use Rattle.umem_base.proofs.LinesLemmas.{words_of-at, words_of-none}
use Rattle.std.proofs.lemmas.List.{drop_all}
use Rattle.umem_base.proofs.Lists.{slice_rest, position-None}
use Rattle.umem_base.proofs.lines.split_at_blank.Goals as goal

pub returns-in-Some : goal.returns-in-Some
returns-in-Some c =
    let line = c.args.line.now in
    let end = position-Some is_blank line c.in-Some.end 0 (sym c.in-Some.ensures) in
    record { words = rw (slice_rest line c.in-Some.end) (words_of-at line c.in-Some.end c.requires end.0 end.1 end.2) }

pub returns-in-None : goal.returns-in-None
returns-in-None c =
    let line = c.args.line.now in
    record { words = rw (slice_rest line (length line), drop_all (length line) line (omega arith)) (words_of-none line c.requires (position-None is_blank line 0 (sym c.in-None.ensures))) }
