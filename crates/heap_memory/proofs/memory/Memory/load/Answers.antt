use Rattle.std.proofs.Common.{◌≡◌, ℕ, ◌+◌, ◌^◌, ◌<◌, ◌≤◌, ap, arith, refl, rules, subst, sym, ◌∙◌}
use Rattle.heap_memory.specs.Memory.{IsMemoryOf, Memory}
use Rattle.heap_memory.proofs.WriteLemmas.{load_fault, load_word_answer, unmapped_past}
use Rattle.heap_memory.proofs.memory.Memory.load.Goals as goal

pub returns-in_default : goal.returns-in_default
returns-in_default c = λ setting state header is.
    let memory : Memory = record { space = c.self.inside.space; arena = c.self.inside.arena } in
    let was : IsMemoryOf setting state memory = subst (IsMemoryOf setting state) (sym c.self.view_is) is in
    let high : 2 ^ 32 ≤ c.args.word + c.args.offset = omega (arith, c.in_default.ensures, c.from.ensures) in
    load_fault setting state memory was c.args.word c.args.offset c.if-word-eq0.false (c.args.word + c.args.offset) refl
    (unmapped_past c.self.inside.space (c.args.word + c.args.offset) 8 c.self.invariant.space high (omega arith))

pub returns-in-Ok : goal.returns-in-Ok
returns-in-Ok c = λ setting state header is.
    let memory : Memory = record { space = c.self.inside.space; arena = c.self.inside.arena } in
    let was : IsMemoryOf setting state memory = subst (IsMemoryOf setting state) (sym c.self.view_is) is in
    let place : c.in-Some.at ≡ c.args.word + c.args.offset = c.in-Some.ensures.1 ∙ ap (λ (n : ℕ). c.args.word + n) c.from.ensures in
    let fits : c.in-Ok.loaded < 2 ^ 64 = search rules in
    load_word_answer setting state memory was c.args.word c.args.offset c.if-word-eq0.false c.in-Some.at c.in-Ok.loaded place fits c.in-Ok.ensures

pub returns-in-Err : goal.returns-in-Err
returns-in-Err c = λ setting state header is.
    let memory : Memory = record { space = c.self.inside.space; arena = c.self.inside.arena } in
    let was : IsMemoryOf setting state memory = subst (IsMemoryOf setting state) (sym c.self.view_is) is in
    let place : c.in-Some.at ≡ c.args.word + c.args.offset = c.in-Some.ensures.1 ∙ ap (λ (n : ℕ). c.args.word + n) c.from.ensures in
    load_fault setting state memory was c.args.word c.args.offset c.if-word-eq0.false c.in-Some.at place c.in-Err.ensures
