use Rattle.std.proofs.Common.{◌≡◌, ℕ, ◌+◌, ◌^◌, ◌≤◌, ap, arith, length, refl, subst, sym, ◌∙◌}
use Rattle.heap_memory.specs.Memory.{IsMemoryOf, Memory}
use Rattle.heap_memory.proofs.WriteLemmas.{runs_kept, still_memory, store_fault, link_becomes, stored_answer, unmapped_past}
use Rattle.heap_memory.proofs.memory.Memory.link.Goals as goal

pub returns-in_default-clause-answer : goal.returns-in_default-clause-answer
returns-in_default-clause-answer c = λ setting state header is.
    let memory : Memory = record { space = c.self.inside.space; arena = c.self.inside.arena } in
    let was : IsMemoryOf setting state memory = subst (IsMemoryOf setting state) (sym c.self.view_is) is in
    let high : 2 ^ 32 ≤ c.args.word + c.args.offset = omega (arith, c.in_default.ensures, c.from.ensures) in
    store_fault setting state memory was c.args.word c.args.offset c.if-word-eq0.false (c.args.word + c.args.offset) 8 refl
    (unmapped_past c.self.inside.space (c.args.word + c.args.offset) 8 c.self.invariant.space high (omega arith))

pub invariant_of-self : goal.invariant_of-self
invariant_of-self c =
    still_memory c.self.inside.space c.store_word.new.self c.self.inside.arena c.self.invariant c.store_word.ensures.sound
    (runs_kept c.store_word.result c.self.inside.space c.store_word.new.self c.in-Some.at 8 _ c.store_word.ensures.stored c.store_word.ensures.err)

pub returns-clause-answer : goal.returns-clause-answer
returns-clause-answer c = λ setting state header is.
    let memory : Memory = record { space = c.self.inside.space; arena = c.self.inside.arena } in
    let was : IsMemoryOf setting state memory = subst (IsMemoryOf setting state) (sym c.self.view_is) is in
    let place : c.in-Some.at ≡ c.args.word + c.args.offset = c.in-Some.ensures.1 ∙ ap (λ (n : ℕ). c.args.word + n) c.from.ensures in
    stored_answer setting state memory was c.args.word c.args.offset c.if-word-eq0.false c.store_word.result c.in-Some.at 8 c.reply_of.result place
    c.store_word.ensures.mapped c.store_word.ensures.refused c.reply_of.ensures

pub returns-clause-stored : goal.returns-clause-stored
returns-clause-stored c = λ setting state header is.
    let memory : Memory = record { space = c.self.inside.space; arena = c.self.inside.arena } in
    let new : Memory = record { space = c.store_word.new.self; arena = c.self.inside.arena } in
    let was : IsMemoryOf setting state memory = subst (IsMemoryOf setting state) (sym c.self.view_is) is in
    let place : c.in-Some.at ≡ c.args.word + c.args.offset = c.in-Some.ensures.1 ∙ ap (λ (n : ℕ). c.args.word + n) c.from.ensures in
    link_becomes setting state memory was c.args.word c.args.offset c.if-word-eq0.false c.store_word.result new c.in-Some.at c.args.value c.reply_of.result place
    c.store_word.ensures.mapped c.store_word.ensures.stored c.store_word.ensures.err refl c.reply_of.ensures
