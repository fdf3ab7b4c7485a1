use Rattle.std.proofs.Common.{◌≡◌, ◌-◌, ◌∙◌, [], length, drop, arith}
use Rattle.std.proofs.lemmas.Result.{err_from_is_err_and}
use Rattle.std.proofs.lemmas.List.{nil_from_length, length-drop, length-take}
use Rattle.std.specs.Vec.Iter.{into_iter_items}
use Rattle.core_format.specs.PageBytes.{lower_count, pages_at}
use Rattle.core_format.proofs.PageLemmas.{lower_rest, pages_at-done, pages_at-more, pages_at-told_lower, pages_at-told_slab, pages_at-told_upper}
use Rattle.core_format.proofs.read_pages.pages.Goals as goal

pub returns-in_err-done : goal.returns-in_err-done
returns-in_err-done c =
    let p = err_from_is_err_and c.from_residual.result c.from_residual.ensures.1 in
    let large = c.args.large.now in
    let s = c.loop-slab in
    let count : c.lower_count-lower.result ≡ lower_count c.in-Some.slab.base (drop (length s.done.items) large) = c.lower_count-lower.ensures.value ∙ lower_rest c.in-Some.slab.base c.len.result large s.done.items (omega (arith, c.len.ensures)) in
    rw (p.1, p.2) (pages_at-told_lower c.args.shapes.now large (into_iter_items s.slab-iterator) (into_iter_items c.next.new.self) s.slab_pages.items c.in-Some.slab s.done.items s.reader c.in_err-done.field-0.0
    (pages_at c.args.shapes.now large c.args.slabs.items [] [] c.args.reader.now) c.in-Some.ensures.steps.0 (rw count at c.in_err-done.ensures.read) s.invariant.read)

pub returns-in_err-page : goal.returns-in_err-page
returns-in_err-page c =
    let p = err_from_is_err_and c.from_residual-in_err-page.result c.from_residual-in_err-page.ensures.1 in
    let large = c.args.large.now in
    let s = c.loop-slab in
    let count : c.lower_count-lower.result ≡ lower_count c.in-Some.slab.base (drop (length s.done.items) large) = c.lower_count-lower.ensures.value ∙ lower_rest c.in-Some.slab.base c.len.result large s.done.items (omega (arith, c.len.ensures)) in
    rw (p.1, p.2) (pages_at-told_slab c.args.shapes.now large (into_iter_items s.slab-iterator) (into_iter_items c.next.new.self) s.slab_pages.items c.in-Some.slab s.done.items c.in_ok-done.done.items s.reader c.large_pages.new.reader c.in_err-page.field-0.0
    (pages_at c.args.shapes.now large c.args.slabs.items [] [] c.args.reader.now) c.in-Some.ensures.steps.0 (rw count at c.in_ok-done.ensures.read) c.in_err-page.ensures s.invariant.read)

pub loop-slab-preserved : goal.loop-slab-preserved
loop-slab-preserved c =
    let large = c.args.large.now in
    let s = c.loop-slab in
    let count : c.lower_count-lower.result ≡ lower_count c.in-Some.slab.base (drop (length s.done.items) large) = c.lower_count-lower.ensures.value ∙ lower_rest c.in-Some.slab.base c.len.result large s.done.items (omega (arith, c.len.ensures)) in
    record {
      read = pages_at-more c.args.shapes.now large (into_iter_items s.slab-iterator) (into_iter_items c.next.new.self) s.slab_pages.items c.push.new.self.items c.in-Some.slab c.in_ok-page.page s.done.items c.in_ok-done.done.items s.reader c.large_pages.new.reader c.slab_page.new.reader
          (pages_at c.args.shapes.now large c.args.slabs.items [] [] c.args.reader.now) c.in-Some.ensures.steps.0 (rw count at c.in_ok-done.ensures.read) c.in_ok-page.ensures c.in_ok-push.ensures.items s.invariant.read;
      within = omega (arith, c.in_ok-done.ensures.many, c.lower_count-lower.ensures.within, s.invariant.within, c.len.ensures, length-take (length large - c.len.result) (drop c.len.result large), length-drop c.len.result large);
    }

pub returns-in_err-large : goal.returns-in_err-large
returns-in_err-large c =
    let p = err_from_is_err_and c.from_residual-in_err-large.result c.from_residual-in_err-large.ensures.1 in
    let large = c.args.large.now in
    let s = c.loop-slab in
    let nothing : into_iter_items s.slab-iterator ≡ [] = nil_from_length (into_iter_items s.slab-iterator) (omega (arith, c.in-None.ensures.steps.0)) in
    let count : length large - c.len-2.result ≡ length large - length s.done.items = omega (arith, c.len-2.ensures) in
    rw (p.1, p.2) (pages_at-told_upper c.args.shapes.now large (into_iter_items s.slab-iterator) s.slab_pages.items s.done.items s.reader c.in_err-large.field-0.0 (pages_at c.args.shapes.now large c.args.slabs.items [] [] c.args.reader.now) nothing (rw count at c.in_err-large.ensures.read) s.invariant.read)

pub returns : goal.returns
returns c =
    let large = c.args.large.now in
    let s = c.loop-slab in
    let nothing : into_iter_items s.slab-iterator ≡ [] = nil_from_length (into_iter_items s.slab-iterator) (omega (arith, c.in-None.ensures.steps.0)) in
    let count : length large - c.len-2.result ≡ length large - length s.done.items = omega (arith, c.len-2.ensures) in
    pages_at-done c.args.shapes.now large (into_iter_items s.slab-iterator) s.slab_pages.items s.done.items c.in_ok-large.large.items s.reader c.large_pages-2.new.reader (pages_at c.args.shapes.now large c.args.slabs.items [] [] c.args.reader.now) nothing (rw count at c.in_ok-large.ensures.read) s.invariant.read
