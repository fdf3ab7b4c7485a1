use Rattle.std.proofs.Common.{ℕ, Option, subst}
use Rattle.heap_accounts.specs.Large.{MakesLarge}
use Rattle.heap_accounts.proofs.LargeLemmas.{answer_for, answered}
use Rattle.heap_accounts.proofs.large_calls.make_large.Goals as goal

pub returns-in-None-clause-ok : goal.returns-in-None-clause-ok
returns-in-None-clause-ok c =
    subst (λ (b : Option ℕ). MakesLarge c.args.memory.now c.put_slot.new.self c.args.thread c.args.request (answer_for b)) c.in-None.is
    (answered c.args.memory.now c.open_large.new.self c.put_slot.new.self c.args.thread c.args.request c.in_ok-base.base c.unwrap_or.result c.in_ok-base.ensures.lowest c.in_ok-base.ensures.opened
    c.put_slot.ensures c.unwrap_or.ensures)

pub returns-in-Some-clause-ok : goal.returns-in-Some-clause-ok
returns-in-Some-clause-ok c =
    subst (λ (b : Option ℕ). MakesLarge c.args.memory.now c.put_slot.new.self c.args.thread c.args.request (answer_for b)) c.in-Some.is
    (answered c.args.memory.now c.open_large.new.self c.put_slot.new.self c.args.thread c.args.request c.in_ok-base.base c.unwrap_or.result c.in_ok-base.ensures.lowest c.in_ok-base.ensures.opened
    c.put_slot.ensures c.unwrap_or.ensures)
