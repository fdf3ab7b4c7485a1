use Rattle.std.proofs.Common.{ap, arith}
use Rattle.core_rules.proofs.PieceLemmas.{made_more}
use Rattle.script.specs.declared.tree.Header.{Header}
use Rattle.heap_ledger.specs.Ledger.{run_state}
use Rattle.heap_pictures.specs.Items.{own_item}
use Rattle.heap_pictures.proofs.roots.own_items.Goals as goal

pub loop-thread-preserved : goal.loop-thread-preserved
loop-thread-preserved c = record {
  made = made_more (own_item (run_state c.args.accounts.now).bytes) c.loop-thread.thread c.loop-thread.roots.items c.push.new.self.items _ c.in_ok-push.ensures.items c.loop-thread.invariant.made c.in_ok-own_item.ensures;
  within = omega (arith, c.loop-thread-test.true, ap (λ (h : Header). h.threads) c.header-header.ensures);
}
