use Rattle.std.proofs.Common.{ℕ, refl, subst, sym}
use Rattle.addr_space.specs.Space.{IsMappedRange, Writes, byte_of_word}
use Rattle.plain_heap.specs.Setting.{slot_address}
use Rattle.plain_heap.specs.State.{with_slot}
use Rattle.heap_memory.specs.Memory.{IsMemoryOf, Memory}
use Rattle.heap_memory.specs.Pages.{HasSlot}
use Rattle.heap_memory.proofs.WriteLemmas.{still_memory, word_beside, word_here, written}
use Rattle.heap_memory.proofs.memory.Memory.put_slot.Goals as goal

pub invariant_of-self : goal.invariant_of-self
invariant_of-self c = still_memory c.self.inside.space c.put_word.new.space c.self.inside.arena c.self.invariant c.put_word.ensures.sound c.put_word.ensures.written.runs

pub returns : goal.returns
returns c = λ setting state header is.
    let old : Memory = record { space = c.self.inside.space; arena = c.self.inside.arena } in
    let new : Memory = record { space = c.put_word.new.space; arena = c.self.inside.arena } in
    let was : IsMemoryOf setting state old = subst (IsMemoryOf setting state) (sym c.self.view_is) is in
    let at : ℕ = slot_address c.args.thread c.args.slot in
    let there : IsMappedRange c.self.inside.space at 8 = subst (λ (m : Memory). HasSlot m c.args.thread c.args.slot) (sym c.self.view_is) c.requires in
    let writes : Writes c.self.inside.space c.put_word.new.space at 8 (byte_of_word c.args.word) =
    subst (λ (a : ℕ). Writes c.self.inside.space c.put_word.new.space a 8 (byte_of_word c.args.word)) c.slot_address.ensures c.put_word.ensures.written in
    written setting state (with_slot state c.args.thread c.args.slot c.args.word) old new at 8 (byte_of_word c.args.word) was refl refl there writes
    (word_here state.bytes at c.args.word) (word_beside state.bytes at c.args.word)
