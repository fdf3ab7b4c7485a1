use Rattle.std.proofs.Common.{sym, subst}
use Rattle.plain_heap.specs.declared.reply.Reply.{Reply}
use Rattle.heap_accounts.specs.Entering.{EntersTable}
use Rattle.heap_accounts.proofs.entering.enter.Goals as goal

pub returns-in-At-clause-slabs : goal.returns-in-At-clause-slabs
returns-in-At-clause-slabs c = subst (λ (a : Reply). EntersTable a c.args.slabs.now c.took.new.self) (sym c.in-At.is) c.took.ensures.took
