use Rattle.std.proofs.Common.{ℕ, List, [], ◌++◌, ap, sym, ◌∙◌, append_assoc, arith}
use Rattle.std.specs.List.{flat_map}
use Rattle.std.proofs.lemmas.List.{length_push}
use Rattle.core_format.specs.declared.items.CpuPlace.{CpuPlace}
use Rattle.std.proofs.lemmas.Result.{err_from_is_err_and}
use Rattle.core_format.specs.Items.{items_at}
use Rattle.core_format.proofs.ItemsLemmas.{flat_map-push, items_at-done, items_at-more, items_at-told}
use Rattle.core_format.specs.Magazines.{cpu_place_at, place_rounds}
use Rattle.core_format.proofs.read_magazines.cpu_places.Goals as goal

pub returns-in_err-place-clause-read : goal.returns-in_err-place-clause-read
returns-in_err-place-clause-read c =
    let p = err_from_is_err_and c.from_residual.result c.from_residual.ensures.1 in
    rw (p.1, p.2) (items_at-told (cpu_place_at c.args.caches c.args.table.now.shapes c.args.table.now.slabs) c.args.count c.loop-index.index c.loop-index.places.items c.loop-index.reader c.in_err-place.field-0.0 (items_at (cpu_place_at c.args.caches c.args.table.now.shapes c.args.table.now.slabs) c.args.count [] c.args.reader.now) c.loop-index-test.true (rw (c.loop-index.invariant.seen, ← c.loop-index.invariant.many) at c.in_err-place.ensures.read) c.loop-index.invariant.read)

pub loop-index-preserved : goal.loop-index-preserved
loop-index-preserved c =
    let place = c.in_ok-place.place in
    let places = c.loop-index.places.items in
    record {
      read = items_at-more (cpu_place_at c.args.caches c.args.table.now.shapes c.args.table.now.slabs) c.args.count c.loop-index.index places c.push.new.self.items c.loop-index.reader c.cpu_place.new.reader place (items_at (cpu_place_at c.args.caches c.args.table.now.shapes c.args.table.now.slabs) c.args.count [] c.args.reader.now) c.loop-index-test.true (rw (c.loop-index.invariant.seen, ← c.loop-index.invariant.many) at c.in_ok-place.ensures.read) c.in_ok-push.ensures.items c.loop-index.invariant.read;
      seen = c.in_ok-place.ensures.seen ∙ append_assoc c.loop-index.seen place.loaded place.previous ∙ ap (λ (s : List ℕ). s ++ (place.loaded ++ place.previous)) c.loop-index.invariant.seen ∙ sym (flat_map-push place_rounds places place) ∙ ap (λ (ps : List CpuPlace). flat_map place_rounds ps) (sym c.in_ok-push.ensures.items);
      many = rw c.in_ok-push.ensures.items (omega (arith, length_push places place, c.loop-index.invariant.many));
    }

pub returns-clause-read : goal.returns-clause-read
returns-clause-read c = items_at-done (cpu_place_at c.args.caches c.args.table.now.shapes c.args.table.now.slabs) c.args.count c.loop-index.index c.loop-index.places.items c.loop-index.reader (items_at (cpu_place_at c.args.caches c.args.table.now.shapes c.args.table.now.slabs) c.args.count [] c.args.reader.now) c.loop-index-test.false c.loop-index.invariant.read
