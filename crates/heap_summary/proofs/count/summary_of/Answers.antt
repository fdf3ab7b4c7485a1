use Rattle.std.proofs.Common.{arith, ◌≡◌, ap, ◌∙◌}
use Rattle.heap_summary.specs.Sums.{setting_with}
use Rattle.heap_summary.specs.declared.tally.Tally.{Tally}
use Rattle.heap_summary.specs.Tallies.{tally_of}
use Rattle.heap_summary.proofs.BalanceLemmas.{history_balance, history_summed, summary_from}
use Rattle.heap_summary.proofs.count.summary_of.Goals as goal

pub overflow_sub-result : goal.overflow_sub-result
overflow_sub-result c =
    let setting = setting_with c.args.header.now c.requires.legal.guards in
    let balance = history_balance setting c.args.history.now.items c.requires.header c.requires.caches c.requires.legal.legal in
    let is : c.tally_of-tally.result ≡ tally_of c.args.header.now.caches c.args.history.now.items = cc in
    omega (arith, balance.count, ap (λ (t : Tally). t.allocs) is, ap (λ (t : Tally). t.frees) is)

pub overflow_sub-result-2 : goal.overflow_sub-result-2
overflow_sub-result-2 c =
    let setting = setting_with c.args.header.now c.requires.legal.guards in
    let balance = history_balance setting c.args.history.now.items c.requires.header c.requires.caches c.requires.legal.legal in
    let is : c.tally_of-tally.result ≡ tally_of c.args.header.now.caches c.args.history.now.items = cc in
    omega (arith, balance.bytes, ap (λ (t : Tally). t.handed) is, ap (λ (t : Tally). t.back) is)

pub returns : goal.returns
returns c =
    let header = c.args.header.now in
    let entries = c.args.history.now.items in
    let is : c.tally_of-tally.result ≡ tally_of header.caches entries = cc in
    λ guards legal. ap summary_from is ∙ history_summed (setting_with header guards) entries c.requires.header c.requires.caches legal
