use Rattle.std.proofs.Common.{map, rules, ap, ◌∙◌, arith}
use Rattle.std.proofs.lemmas.List.{take_all}
use Rattle.std.proofs.lemmas.List.Sorted.{IsNonDecreasingBy-from_sort_by_key}
use Rattle.heap_ledger.specs.Ledger.{run_setting, run_state}
use Rattle.heap_logs.specs.declared.chunk_range.ChunkRange.{ChunkRange}
use Rattle.heap_books.proofs.RangeLemmas.{range_of, ranges_are, ranges_fit}
use Rattle.heap_books.proofs.logs.standing_ranges.Goals as goal

pub returns-clause-ranges : goal.returns-clause-ranges
returns-clause-ranges c =
    let ledger = c.args.accounts.now in
    let standing = c.standing-slab-items.result.now in
    let made = c.loop-slab.invariant ∙ ap (map range_of) (take_all c.loop-slab.slab-index standing (omega (arith, c.loop-slab-test.false))) in
    let up = IsNonDecreasingBy-from_sort_by_key (λ (r : ChunkRange). r.first) _ c.in_ok-sort_by_key.ensures.sorted (λ a r q k. search rules) in
    ranges_are (run_setting ledger) (run_state ledger) standing c.standing-slab-items.ensures.sound c.standing-slab-items.ensures.exactly c.loop-slab.ranges.items c.sort_by_key.new.self.items made
    c.in_ok-sort_by_key.ensures.permutation up (c.standing_chunks_rise.ensures (run_setting ledger) ledger.entries).apart

pub returns-clause-numbers : goal.returns-clause-numbers
returns-clause-numbers c =
    let ledger = c.args.accounts.now in
    let standing = c.standing-slab-items.result.now in
    let made = c.loop-slab.invariant ∙ ap (map range_of) (take_all c.loop-slab.slab-index standing (omega (arith, c.loop-slab-test.false))) in
    ranges_fit (run_setting ledger) (run_state ledger) standing c.standing-slab-items.ensures.sound c.standing-slab-items.ensures.exactly c.loop-slab.ranges.items c.sort_by_key.new.self.items made
    c.in_ok-sort_by_key.ensures.permutation
