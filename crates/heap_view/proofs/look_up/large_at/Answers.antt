use Rattle.std.proofs.Common.{◌≡◌, ◌<◌, ◌-◌, List, get_or, subst, sym, arith}
use Rattle.std.specs.List.Sorted.{IsNonDecreasingBy}
use Rattle.core_format.specs.declared.items.LargeItem.{LargeItem}
use Rattle.heap_view.specs.Search.{IsCut}
use Rattle.heap_view.proofs.MemoryLemmas.{large_begins, large_found, large_missed, large_start_rising, large_test}
use Rattle.heap_view.proofs.look_up.large_at.Goals as goal

pub count_large-index-requires : goal.count_large-index-requires
count_large-index-requires c = subst (IsNonDecreasingBy (λ (l : LargeItem). l.base)) (sym c.as_slice-large.ensures) (large_start_rising c.args.core.now c.requires)

pub returns-then-index-eq0-clause-large : goal.returns-then-index-eq0-clause-large
returns-then-index-eq0-clause-large c =
    let cut = subst (λ (xs : List LargeItem). IsCut (λ (l : LargeItem). l.base) xs c.args.address c.count_large-index.result) c.as_slice-large.ensures c.count_large-index.ensures in
    sym (large_missed c.args.core.now c.args.address c.count_large-index.result cut c.if-index-eq0.true)

pub overflow_sub-address : goal.overflow_sub-address
overflow_sub-address c =
    let item = c.index-large-index.result in
    large_begins c.as_slice-large.result.now c.args.address c.count_large-index.result item c.count_large-index.ensures (omega (arith, c.if-index-eq0.false)) c.index-large-index.is

pub returns-clause-large : goal.returns-clause-large
returns-clause-large c =
    let core = c.args.core.now in
    let item = c.index-large-index.result in
    let index = c.count_large-index.result in
    let cut = subst (λ (xs : List LargeItem). IsCut (λ (l : LargeItem). l.base) xs c.args.address index) c.as_slice-large.ensures c.count_large-index.ensures in
    let at : item ≡ get_or core.large (index - 1) item = subst (λ (xs : List LargeItem). item ≡ get_or xs (index - 1) item) c.as_slice-large.ensures c.index-large-index.is in
    let some : 0 < index = omega (arith, c.if-index-eq0.false) in
    let low = large_begins core.large c.args.address index item cut some at in
    rw (c.then_some.ensures, c.pages_for.ensures) (large_found core c.args.address index _ item c.requires cut some cut.within (large_test core c.args.address index item at low))
