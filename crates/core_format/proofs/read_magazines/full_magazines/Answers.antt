use Rattle.std.proofs.Common.{◌≡◌, ℕ, List, [], ◌∷◌, ◌++◌, ap, sym, ◌∙◌, append_assoc}
use Rattle.std.proofs.lemmas.Result.{err_from_is_err_and}
use Rattle.core_format.specs.Items.{items_at}
use Rattle.core_format.proofs.ItemsLemmas.{flat_map-push, items_at-done, items_at-more, items_at-told}
use Rattle.core_format.specs.Magazines.{all_rounds, full_at}
use Rattle.core_format.proofs.read_magazines.full_magazines.Goals as goal

pub returns-in_err-magazine-clause-read : goal.returns-in_err-magazine-clause-read
returns-in_err-magazine-clause-read c =
    let p = err_from_is_err_and c.from_residual.result c.from_residual.ensures.1 in
    rw (p.1, p.2) (items_at-told (full_at c.args.table.now.shapes c.args.table.now.slabs c.args.cache c.args.seen) c.args.count c.loop.counter c.loop.full.items c.loop.reader c.in_err-magazine.field-0.0 (items_at (full_at c.args.table.now.shapes c.args.table.now.slabs c.args.cache c.args.seen) c.args.count [] c.args.reader.now) c.loop-test.true (rw (c.loop.invariant.seen, c.shape_at-shape.ensures) at c.in_err-magazine.ensures.read) c.loop.invariant.read)

pub loop-preserved : goal.loop-preserved
loop-preserved c =
    let magazine = c.in_ok-magazine.magazine.items in
    let full = c.loop.full.items in
    let pushed : c.push.new.self.items ≡ full ++ magazine ∷ [] = c.in_ok-push.ensures.items ∙ ap (λ (m : List ℕ). full ++ m ∷ []) c.new-sequence.ensures in
    record {
      read = items_at-more (full_at c.args.table.now.shapes c.args.table.now.slabs c.args.cache c.args.seen) c.args.count c.loop.counter full c.push.new.self.items c.loop.reader c.rounds.new.reader magazine (items_at (full_at c.args.table.now.shapes c.args.table.now.slabs c.args.cache c.args.seen) c.args.count [] c.args.reader.now) c.loop-test.true (rw (c.loop.invariant.seen, c.shape_at-shape.ensures) at c.in_ok-magazine.ensures.read) pushed c.loop.invariant.read;
      seen = c.in_ok-magazine.ensures.seen ∙ ap (λ (s : List ℕ). s ++ magazine) c.loop.invariant.seen ∙ append_assoc c.args.seen (all_rounds full) magazine ∙ ap (λ (r : List ℕ). c.args.seen ++ r) (sym (flat_map-push (λ (r : List ℕ). r) full magazine)) ∙ ap (λ (f : List (List ℕ)). c.args.seen ++ all_rounds f) (sym pushed);
    }

pub returns-clause-read : goal.returns-clause-read
returns-clause-read c = items_at-done (full_at c.args.table.now.shapes c.args.table.now.slabs c.args.cache c.args.seen) c.args.count c.loop.counter c.loop.full.items c.loop.reader (items_at (full_at c.args.table.now.shapes c.args.table.now.slabs c.args.cache c.args.seen) c.args.count [] c.args.reader.now) c.loop-test.false c.loop.invariant.read
