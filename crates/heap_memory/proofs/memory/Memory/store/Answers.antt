use Rattle.std.proofs.Common.{◌≡◌, ℕ, ◌+◌, ◌^◌, ◌≤◌, ap, arith, length, refl, subst, sym, ◌∙◌}
use Rattle.heap_memory.specs.Memory.{IsMemoryOf, Memory}
use Rattle.heap_memory.proofs.WriteLemmas.{runs_kept, still_memory, store_fault, store_becomes, stored_answer, unmapped_past}
use Rattle.heap_memory.proofs.memory.Memory.store.Goals as goal

pub returns-in_default-clause-answer : goal.returns-in_default-clause-answer
returns-in_default-clause-answer c = λ setting state header is.
    let memory : Memory = record { space = c.self.inside.space; arena = c.self.inside.arena } in
    let was : IsMemoryOf setting state memory = subst (IsMemoryOf setting state) (sym c.self.view_is) is in
    let high : 2 ^ 32 ≤ c.args.word + c.args.offset = omega (arith, c.in_default.ensures, c.from.ensures) in
    store_fault setting state memory was c.args.word c.args.offset c.if-word-eq0.false (c.args.word + c.args.offset) (length c.args.bytes.now) refl
    (unmapped_past c.self.inside.space (c.args.word + c.args.offset) (length c.args.bytes.now) c.self.invariant.space high c.requires)

pub invariant_of-self : goal.invariant_of-self
invariant_of-self c =
    still_memory c.self.inside.space c.store_bytes.new.self c.self.inside.arena c.self.invariant c.store_bytes.ensures.sound
    (runs_kept c.store_bytes.result c.self.inside.space c.store_bytes.new.self c.in-Some.at (length c.args.bytes.now) _ c.store_bytes.ensures.stored c.store_bytes.ensures.err)

pub returns-clause-answer : goal.returns-clause-answer
returns-clause-answer c = λ setting state header is.
    let memory : Memory = record { space = c.self.inside.space; arena = c.self.inside.arena } in
    let was : IsMemoryOf setting state memory = subst (IsMemoryOf setting state) (sym c.self.view_is) is in
    let place : c.in-Some.at ≡ c.args.word + c.args.offset = c.in-Some.ensures.1 ∙ ap (λ (n : ℕ). c.args.word + n) c.from.ensures in
    stored_answer setting state memory was c.args.word c.args.offset c.if-word-eq0.false c.store_bytes.result c.in-Some.at (length c.args.bytes.now) c.reply_of.result place
    c.store_bytes.ensures.mapped c.store_bytes.ensures.refused c.reply_of.ensures

pub returns-clause-stored : goal.returns-clause-stored
returns-clause-stored c = λ setting state header is.
    let memory : Memory = record { space = c.self.inside.space; arena = c.self.inside.arena } in
    let new : Memory = record { space = c.store_bytes.new.self; arena = c.self.inside.arena } in
    let was : IsMemoryOf setting state memory = subst (IsMemoryOf setting state) (sym c.self.view_is) is in
    let place : c.in-Some.at ≡ c.args.word + c.args.offset = c.in-Some.ensures.1 ∙ ap (λ (n : ℕ). c.args.word + n) c.from.ensures in
    store_becomes setting state memory was c.args.word c.args.offset c.if-word-eq0.false c.store_bytes.result new c.in-Some.at c.args.bytes.now c.reply_of.result place
    c.store_bytes.ensures.mapped c.store_bytes.ensures.stored c.store_bytes.ensures.err refl c.reply_of.ensures
