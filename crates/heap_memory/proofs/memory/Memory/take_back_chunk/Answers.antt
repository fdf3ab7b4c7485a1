use Rattle.std.proofs.Common.{refl, subst, sym}
use Rattle.heap_memory.specs.Memory.{IsMemoryOf, Memory}
use Rattle.heap_memory.proofs.ChunkLemmas.{chunk_taken_back}
use Rattle.heap_memory.proofs.WriteLemmas.{mapped_before, still_memory}
use Rattle.heap_memory.proofs.memory.Memory.take_back_chunk.Goals as goal

pub invariant_of-self : goal.invariant_of-self
invariant_of-self c = still_memory c.self.inside.space c.write_freed.new.space c.self.inside.arena c.self.invariant c.write_freed.ensures.sound c.write_freed.ensures.runs

pub returns : goal.returns
returns c = λ setting state header is fits.
    let old : Memory = record { space = c.self.inside.space; arena = c.self.inside.arena } in
    let new : Memory = record { space = c.write_freed.new.space; arena = c.self.inside.arena } in
    let was : IsMemoryOf setting state old = subst (IsMemoryOf setting state) (sym c.self.view_is) is in
    let writes = c.write_freed.ensures.written setting fits.1.its_kind in
    let there = mapped_before c.self.inside.space c.write_freed.new.space c.args.chunk.address _ _ c.self.invariant.space c.write_freed.ensures.sound writes in
    chunk_taken_back setting state old new c.args.kind.now c.args.chunk header fits.0 was fits.1 there writes refl
