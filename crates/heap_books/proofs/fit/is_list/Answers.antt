use Rattle.std.proofs.Common.{sym, ap, ◌∙◌, subst}
use Rattle.std.specs.List.{list_all}
use Rattle.std.specs.List.Sorted.{IsStrictlyIncreasing}
use Rattle.heap_books.specs.Tests.{is_own}
use Rattle.heap_books.proofs.TestLemmas.{own_tells, own_told}
use Rattle.heap_books.proofs.fit.is_list.Goals as goal

pub returns : goal.returns
returns c =
    let slab = c.args.slab.now in
    let chunks = c.args.list.now.chunks in
    let rising = subst IsStrictlyIncreasing c.as_slice.ensures (c.rise.ensures.0 c.if-not-rise.false) in
    let told = c.are_own.ensures ∙ ap (list_all (is_own slab)) c.as_slice-2.ensures in (
      λ e. record { base = c.if-list-slab.false; rising = rising; own = own_told slab chunks (sym told ∙ e) },
      λ is. told ∙ own_tells slab chunks is.own,
    )
