use Rattle.std.proofs.Common.{sym, ◌∙◌, add-one}
use Rattle.umem_base.proofs.MemFolderLemmas.{first_at, none_more, placed}
use Rattle.umem_base.proofs.memory.table.place_of.Goals as goal

pub returns-then-eq : goal.returns-then-eq
returns-then-eq c =
    let at = placed c.args.files.now c.loop-place.place c.index-files-place.result c.loop-place-test.true c.index-files-place.is in
    let same = rw (c.as_slice.ensures, c.as_slice-in-loop-place.ensures) at (sym c.eq.ensures ∙ c.if-eq.true) in
    first_at _ _ _ _ c.loop-place.invariant at same

pub loop-place-preserved : goal.loop-place-preserved
loop-place-preserved c =
    let at = placed c.args.files.now c.loop-place.place c.index-files-place.result c.loop-place-test.true c.index-files-place.is in
    let other = rw (c.as_slice.ensures, c.as_slice-in-loop-place.ensures) at (sym c.eq.ensures ∙ c.if-eq.false) in
    rw add-one (none_more _ _ _ _ c.loop-place.invariant at other)
