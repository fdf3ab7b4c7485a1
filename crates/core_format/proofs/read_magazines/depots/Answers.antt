use Rattle.std.proofs.Common.{ℕ, List, [], ◌++◌, ap, sym, ◌∙◌, append_assoc, arith}
use Rattle.std.specs.List.{flat_map}
use Rattle.std.proofs.lemmas.List.{length_push}
use Rattle.core_format.specs.declared.items.DepotItem.{DepotItem}
use Rattle.std.proofs.lemmas.Result.{err_from_is_err_and}
use Rattle.core_format.specs.Items.{items_at}
use Rattle.core_format.proofs.ItemsLemmas.{flat_map-push, items_at-done, items_at-more, items_at-told}
use Rattle.core_format.specs.Magazines.{depot_item_at, depot_rounds_of}
use Rattle.core_format.proofs.read_magazines.depots.Goals as goal

pub returns-in_err-depot : goal.returns-in_err-depot
returns-in_err-depot c =
    let p = err_from_is_err_and c.from_residual.result c.from_residual.ensures.1 in
    rw (p.1, p.2) (items_at-told (depot_item_at c.args.table.now.shapes c.args.table.now.slabs c.args.seen) c.args.caches c.loop-cache.cache c.loop-cache.depots.items c.loop-cache.reader c.in_err-depot.field-0.0 (items_at (depot_item_at c.args.table.now.shapes c.args.table.now.slabs c.args.seen) c.args.caches [] c.args.reader.now) c.loop-cache-test.true (rw (c.loop-cache.invariant.seen, ← c.loop-cache.invariant.many) at c.in_err-depot.ensures.read) c.loop-cache.invariant.read)

pub loop-cache-preserved : goal.loop-cache-preserved
loop-cache-preserved c =
    let depot = c.in_ok-depot.depot in
    let depots = c.loop-cache.depots.items in
    record {
      read = items_at-more (depot_item_at c.args.table.now.shapes c.args.table.now.slabs c.args.seen) c.args.caches c.loop-cache.cache depots c.push.new.self.items c.loop-cache.reader c.depot.new.reader depot (items_at (depot_item_at c.args.table.now.shapes c.args.table.now.slabs c.args.seen) c.args.caches [] c.args.reader.now) c.loop-cache-test.true (rw (c.loop-cache.invariant.seen, ← c.loop-cache.invariant.many) at c.in_ok-depot.ensures.read) c.in_ok-push.ensures.items c.loop-cache.invariant.read;
      seen = c.in_ok-depot.ensures.seen ∙ ap (λ (s : List ℕ). s ++ depot_rounds_of depot) c.loop-cache.invariant.seen ∙ append_assoc c.args.seen (flat_map depot_rounds_of depots) (depot_rounds_of depot) ∙ ap (λ (r : List ℕ). c.args.seen ++ r) (sym (flat_map-push depot_rounds_of depots depot)) ∙ ap (λ (ds : List DepotItem). c.args.seen ++ flat_map depot_rounds_of ds) (sym c.in_ok-push.ensures.items);
      many = rw c.in_ok-push.ensures.items (omega (arith, length_push depots depot, c.loop-cache.invariant.many));
    }

pub returns : goal.returns
returns c = items_at-done (depot_item_at c.args.table.now.shapes c.args.table.now.slabs c.args.seen) c.args.caches c.loop-cache.cache c.loop-cache.depots.items c.loop-cache.reader (items_at (depot_item_at c.args.table.now.shapes c.args.table.now.slabs c.args.seen) c.args.caches [] c.args.reader.now) c.loop-cache-test.false c.loop-cache.invariant.read
