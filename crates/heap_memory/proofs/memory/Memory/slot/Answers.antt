use Rattle.std.proofs.Common.{◌≡◌, ℕ, ◌^◌, ◌<◌, ap, rules, subst, sym, ◌∙◌}
use Rattle.addr_space.specs.Space.{HasBytes, byte_of_word}
use Rattle.plain_heap.specs.Setting.{slot_address}
use Rattle.heap_memory.specs.Memory.{IsMemoryOf, Memory}
use Rattle.heap_memory.proofs.WriteLemmas.{bytes_there, word_read}
use Rattle.heap_memory.proofs.memory.Memory.slot.Goals as goal

pub returns : goal.returns
returns c = λ setting state header is.
    let memory : Memory = record { space = c.self.inside.space; arena = c.self.inside.arena } in
    let was : IsMemoryOf setting state memory = subst (IsMemoryOf setting state) (sym c.self.view_is) is in
    let fits : c.in-Ok.word < 2 ^ 64 = search rules in
    let at : ℕ = slot_address c.args.thread c.args.slot in
    let has : HasBytes c.self.inside.space at 8 (byte_of_word c.in-Ok.word) =
    subst (λ (a : ℕ). HasBytes c.self.inside.space a 8 (byte_of_word c.in-Ok.word)) c.slot_address.ensures c.in-Ok.ensures in
    sym (word_read state.bytes at c.in-Ok.word fits (bytes_there setting state memory was at 8 (byte_of_word c.in-Ok.word) has))
