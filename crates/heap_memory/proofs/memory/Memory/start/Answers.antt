use Rattle.heap_memory.proofs.StartLemmas.{start_memory}
use Rattle.heap_memory.proofs.memory.Memory.start.Goals as goal

pub invariant_of-result : goal.invariant_of-result
invariant_of-result c = start_memory c.args.header.now c.in_ok-space.space c.new-arena.result c.arena_pages.result c.in_ok-space.ensures c.new-arena.ensures.value c.new-arena.ensures.sound
