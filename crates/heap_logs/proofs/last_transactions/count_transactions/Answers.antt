use Rattle.std.proofs.Common.{None, ap, arith, get_or, length, refl, ◌∙◌}
use Rattle.std.specs.Prelude.{filter_map, zip}
use Rattle.std.proofs.lemmas.List.{take_all}
use Rattle.heap_logs.specs.Transactions.{transaction_of}
use Rattle.heap_logs.proofs.PassedLemmas.{both_at, both_count, byte_small, count_by_byte}
use Rattle.heap_logs.proofs.last_transactions.count_transactions.Goals as goal

pub loop-index-preserved : goal.loop-index-preserved
loop-index-preserved c =
    let entries = c.args.entries.now in
    let acts = c.args.acts.now in
    let i = c.loop-index.index in
    let entry = c.index-entries-index.result in
    let act = get_or acts i None in
    let at = both_at entries acts i entry entry None act c.loop-index-test.true c.requires c.index-entries-index.is refl in
    let small = byte_small c.from-count.result c.is_transaction.result c.from-count.ensures in
    record {
      few = omega (arith, c.loop-index.invariant.few, small);
      exact = λ options cpus.
          count_by_byte (transaction_of options cpus) (zip entries acts) i c.loop-index.count c.from-count.result (entry, act) c.is_transaction.result at (c.is_transaction.ensures options cpus) c.from-count.ensures
          (c.loop-index.invariant.exact options cpus);
    }

pub returns : goal.returns
returns c = λ options cpus.
    let z = zip c.args.entries.now c.args.acts.now in
    c.loop-index.invariant.exact options cpus
    ∙ ap (λ l. length (filter_map (transaction_of options cpus) l)) (take_all c.loop-index.index z (omega (arith, c.loop-index-test.false, both_count c.args.entries.now c.args.acts.now c.requires)))
