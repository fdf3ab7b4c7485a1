use Rattle.std.proofs.Common.{None, ap, arith, drop, get_or, refl, ◌∙◌}
use Rattle.std.specs.Prelude.{filter_map, zip}
use Rattle.std.proofs.lemmas.List.{take_all}
use Rattle.heap_logs.specs.Transactions.{transaction_of}
use Rattle.heap_logs.proofs.PassedLemmas.{both_at, both_count, pass_by, push_by}
use Rattle.heap_logs.proofs.last_transactions.transactions_behind.Goals as goal

pub loop-index-preserved-then-left-gt0 : goal.loop-index-preserved-then-left-gt0
loop-index-preserved-then-left-gt0 c =
    let entries = c.args.entries.now in
    let acts = c.args.acts.now in
    let i = c.loop-index.index in
    let entry = c.index-entries-index.result in
    let act = get_or acts i None in
    let at = both_at entries acts i entry entry None act c.loop-index-test.true c.requires.acts c.index-entries-index.is refl in
    pass_by (transaction_of c.args.options.now c.args.cpus) (zip entries acts) i c.args.passed c.loop-index.left c.from.result c.loop-index.items.items (entry, act) c.is_transaction.result at
    (c.is_transaction.ensures c.args.options.now c.args.cpus) c.from.ensures c.if-left-gt0.true c.loop-index.invariant

pub loop-index-preserved : goal.loop-index-preserved
loop-index-preserved c =
    let entries = c.args.entries.now in
    let acts = c.args.acts.now in
    let i = c.loop-index.index in
    let entry = c.index-entries-index.result in
    let act = get_or acts i None in
    let at = both_at entries acts i entry entry None act c.loop-index-test.true c.requires.acts c.index-entries-index.is refl in
    push_by (transaction_of c.args.options.now c.args.cpus) (zip entries acts) i c.args.passed c.loop-index.left c.loop-index.items.items c.push_some.new.items.items (entry, act) _ at
    c.in_ok-transaction.ensures c.in_ok-push_some.ensures c.if-left-gt0.false c.loop-index.invariant

pub returns : goal.returns
returns c =
    let z = zip c.args.entries.now c.args.acts.now in
    c.loop-index.invariant.items_are
    ∙ ap (λ l. drop c.args.passed (filter_map (transaction_of c.args.options.now c.args.cpus) l))
    (take_all c.loop-index.index z (omega (arith, c.loop-index-test.false, both_count c.args.entries.now c.args.acts.now c.requires.acts)))
