use Rattle.std.proofs.Common.{ℕ, List, [], ◌∷◌, ◌++◌, ap, sym, ◌∙◌, append_assoc}
use Rattle.std.proofs.lemmas.Result.{err_from_is_err_and}
use Rattle.core_format.proofs.ItemsLemmas.{items_at-done, items_at-more, items_at-told}
use Rattle.core_format.specs.Magazines.{round_at, rounds_at}
use Rattle.core_format.proofs.read_magazines.rounds.Goals as goal

pub returns-in_err-chunk-clause-read : goal.returns-in_err-chunk-clause-read
returns-in_err-chunk-clause-read c =
    let p = err_from_is_err_and c.from_residual.result c.from_residual.ensures.1 in
    rw (p.1, p.2) (items_at-told (round_at c.args.table.now.shapes c.args.table.now.slabs c.args.cache c.args.seen) c.args.count c.loop.counter c.loop.rounds.items c.loop.reader c.in_err-chunk.field-0.0 (rounds_at c.args.table.now.shapes c.args.table.now.slabs c.args.cache c.args.seen c.args.count c.args.reader.now) c.loop-test.true (rw c.loop.invariant.seen at c.in_err-chunk.ensures) c.loop.invariant.read)

pub loop-preserved : goal.loop-preserved
loop-preserved c =
    let chunk = c.in_ok-chunk.chunk in
    let rounds = c.loop.rounds.items in
    record {
      read = items_at-more (round_at c.args.table.now.shapes c.args.table.now.slabs c.args.cache c.args.seen) c.args.count c.loop.counter rounds c.push.new.self.items c.loop.reader c.round.new.reader chunk (rounds_at c.args.table.now.shapes c.args.table.now.slabs c.args.cache c.args.seen c.args.count c.args.reader.now) c.loop-test.true (rw c.loop.invariant.seen at c.in_ok-chunk.ensures) c.in_ok-push.ensures.items c.loop.invariant.read;
      seen = c.in_ok-more.ensures ∙ ap (λ (s : List ℕ). s ++ chunk ∷ []) c.loop.invariant.seen ∙ append_assoc c.args.seen rounds (chunk ∷ []) ∙ ap (λ (r : List ℕ). c.args.seen ++ r) (sym c.in_ok-push.ensures.items);
    }

pub returns-clause-read : goal.returns-clause-read
returns-clause-read c = items_at-done (round_at c.args.table.now.shapes c.args.table.now.slabs c.args.cache c.args.seen) c.args.count c.loop.counter c.loop.rounds.items c.loop.reader (rounds_at c.args.table.now.shapes c.args.table.now.slabs c.args.cache c.args.seen c.args.count c.args.reader.now) c.loop-test.false c.loop.invariant.read
