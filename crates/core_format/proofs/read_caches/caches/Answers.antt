use Rattle.std.proofs.Common.{[], sym, ◌≡◌, ◌++◌, ◌∷◌, arith}
use Rattle.std.proofs.lemmas.Result.{err_from_is_err_and}
use Rattle.std.proofs.lemmas.List.{map_push, length_push}
use Rattle.core_format.specs.Items.{items_at}
use Rattle.core_format.specs.Caches.{cache_item_at, is_guarded, shape_of}
use Rattle.core_format.proofs.ItemsLemmas.{items_at-done, items_at-more, items_at-told}
use Rattle.core_format.proofs.read_caches.caches.Goals as goal

pub returns-in_err-item-clause-read : goal.returns-in_err-item-clause-read
returns-in_err-item-clause-read c =
    let p = err_from_is_err_and c.from_residual.result c.from_residual.ensures.1 in
    let h = c.args.header.now in
    rw (p.1, p.2) (items_at-told (cache_item_at h) h.caches c.loop.counter c.loop.caches.items c.loop.reader c.in_err-item.field-0.0 (items_at (cache_item_at h) h.caches [] c.args.reader.now) c.loop-test.true (rw c.deref.ensures.value at c.in_err-item.ensures.read) c.loop.invariant.read)

pub loop-preserved : goal.loop-preserved
loop-preserved c =
    let h = c.args.header.now in
    let item = c.in_ok-item.item in
    let pushed : c.push-in-loop.new.self.items ≡ c.loop.caches.items ++ item ∷ [] = c.in_ok-push-2.ensures.items in
    record {
      read = items_at-more (cache_item_at h) h.caches c.loop.counter c.loop.caches.items c.push-in-loop.new.self.items c.loop.reader c.cache.new.reader item (items_at (cache_item_at h) h.caches [] c.args.reader.now) c.loop-test.true (rw c.deref.ensures.value at c.in_ok-item.ensures.read) pushed c.loop.invariant.read;
      shapes = rw (c.in_ok-push.ensures.items, c.shape_of.ensures, c.is_guarded-guards.ensures, c.loop.invariant.shapes, pushed) (sym (map_push (shape_of (is_guarded h)) c.loop.caches.items item));
      many = rw pushed (omega (arith, length_push c.loop.caches.items item, c.loop.invariant.many));
    }

pub returns-clause-read : goal.returns-clause-read
returns-clause-read c =
    let h = c.args.header.now in
    items_at-done (cache_item_at h) h.caches c.loop.counter c.loop.caches.items c.loop.reader (items_at (cache_item_at h) h.caches [] c.args.reader.now) c.loop-test.false c.loop.invariant.read
