use Rattle.std.proofs.Common.{ℕ, List, refl, subst, sym}
use Rattle.plain_heap.specs.State.{hand_out, handed_chunk}
use Rattle.heap_memory.specs.Memory.{IsMemoryOf, Memory}
use Rattle.heap_memory.proofs.ChunkLemmas.{chunk_written}
use Rattle.heap_memory.proofs.WriteLemmas.{mapped_before, still_memory}
use Rattle.heap_memory.proofs.memory.Memory.hand_chunk.Goals as goal

pub invariant_of-self : goal.invariant_of-self
invariant_of-self c = still_memory c.self.inside.space c.write_handed.new.space c.self.inside.arena c.self.invariant c.write_handed.ensures.sound c.write_handed.ensures.runs

pub returns-clause-handed : goal.returns-clause-handed
returns-clause-handed c = λ setting state header is at.
    let old : Memory = record { space = c.self.inside.space; arena = c.self.inside.arena } in
    let new : Memory = record { space = c.write_handed.new.space; arena = c.self.inside.arena } in
    let was : IsMemoryOf setting state old = subst (IsMemoryOf setting state) (sym c.self.view_is) is in
    let writes = c.write_handed.ensures.written setting at.its_kind in
    let there = mapped_before c.self.inside.space c.write_handed.new.space c.args.chunk.address _ _ c.self.invariant.space c.write_handed.ensures.sound writes in
    chunk_written setting state _ old new c.args.kind.now c.args.chunk (λ cache number. handed_chunk setting cache number c.args.requested c.args.zero)
    was at there writes refl refl (λ a. refl)
