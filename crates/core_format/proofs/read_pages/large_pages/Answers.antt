use Rattle.std.proofs.Common.{◌<◌, length, ap, sym, subst, ◌∙◌, arith}
use Rattle.std.proofs.lemmas.Result.{err_from_is_err_and}
use Rattle.std.proofs.lemmas.List.{length_push}
use Rattle.core_format.specs.declared.items.LargeItem.{LargeItem}
use Rattle.core_format.specs.Items.{items_at}
use Rattle.core_format.specs.PageBytes.{large_bytes_at, large_page_at}
use Rattle.core_format.specs.Reader.{IsToldBy}
use Rattle.core_format.proofs.ItemsLemmas.{items_at-done, items_at-more, items_at-told}
use Rattle.core_format.proofs.PageLemmas.{next_large}
use Rattle.core_format.proofs.read_pages.large_pages.Goals as goal

pub returns-in_err-item-clause-read : goal.returns-in_err-item-clause-read
returns-in_err-item-clause-read c =
    let p = err_from_is_err_and c.from_residual.result c.from_residual.ensures.1 in
    let large = c.args.large.now in
    let lt : length c.loop.pages.items < length large = omega (arith, c.loop.invariant.many, c.loop-test.true, c.requires) in
    let is = next_large large c.loop.pages.items c.len.result c.index-large-len.result (omega (arith, c.len.ensures)) lt c.index-large-len.is in
    rw (p.1, p.2) (items_at-told (large_page_at large) c.args.count c.loop.counter c.loop.pages.items c.loop.reader c.in_err-item.field-0.0 (items_at (large_page_at large) c.args.count c.args.before.items c.args.reader.now) c.loop-test.true
    (subst (λ (x : LargeItem). IsToldBy c.in_err-item.field-0.0 (large_bytes_at x c.loop.reader)) (sym is) c.in_err-item.ensures) c.loop.invariant.read)

pub loop-preserved : goal.loop-preserved
loop-preserved c =
    let large = c.args.large.now in
    let lt : length c.loop.pages.items < length large = omega (arith, c.loop.invariant.many, c.loop-test.true, c.requires) in
    let is = next_large large c.loop.pages.items c.len.result c.index-large-len.result (omega (arith, c.len.ensures)) lt c.index-large-len.is in
    record {
      read = items_at-more (large_page_at large) c.args.count c.loop.counter c.loop.pages.items c.push.new.self.items c.loop.reader c.large_page.new.reader c.in_ok-item.item (items_at (large_page_at large) c.args.count c.args.before.items c.args.reader.now) c.loop-test.true
          (ap (λ (x : LargeItem). large_bytes_at x c.loop.reader) is ∙ c.in_ok-item.ensures) c.in_ok-push.ensures.items c.loop.invariant.read;
      many = rw c.in_ok-push.ensures.items (omega (arith, length_push c.loop.pages.items c.in_ok-item.item, c.loop.invariant.many));
    }

pub returns-clause-read : goal.returns-clause-read
returns-clause-read c =
    items_at-done (large_page_at c.args.large.now) c.args.count c.loop.counter c.loop.pages.items c.loop.reader (items_at (large_page_at c.args.large.now) c.args.count c.args.before.items c.args.reader.now) c.loop-test.false c.loop.invariant.read
