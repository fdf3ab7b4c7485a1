use Rattle.heap_accounts.proofs.CloseLemmas.{closes_all, closes_more, next_has_span}
use Rattle.heap_accounts.proofs.reap_calls.close_slabs.Goals as goal

pub close_slab-requires : goal.close_slab-requires
close_slab-requires c =
    next_has_span c.args.memory.now c.loop-slab.memory c.args.slabs.now c.loop-slab.slab-index _ c.slabs_have_a_span.ensures c.requires c.loop-slab-test.true c.loop-slab.invariant

pub loop-slab-preserved : goal.loop-slab-preserved
loop-slab-preserved c =
    closes_more c.args.memory.now c.loop-slab.memory c.close_slab.new.self c.args.slabs.now c.loop-slab.slab-index _ c.loop-slab-test.true c.loop-slab.invariant c.close_slab.ensures

pub returns : goal.returns
returns c =
    closes_all c.args.memory.now c.loop-slab.memory c.args.slabs.now c.loop-slab.slab-index c.loop-slab-test.false c.loop-slab.invariant
