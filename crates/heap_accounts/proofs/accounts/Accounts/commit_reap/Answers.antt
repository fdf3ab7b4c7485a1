use Rattle.std.proofs.Common.{◌≡◌, true, List, sym, ◌∙◌, subst}
use Rattle.script.specs.declared.operation.Op.{Op}
use Rattle.plain_heap.specs.declared.reply.Reply.TheVariants as reply
use Rattle.heap_ledger.specs.declared.slab_at.SlabAt.{SlabAt}
use Rattle.heap_ledger.specs.Ledger.{Commits, MayCommit, shrunk}
use Rattle.heap_accounts.specs.Kinds.{is_reap_call}
use Rattle.heap_accounts.proofs.CommitReapLemmas.{may_reap, stand_reaped}
use Rattle.heap_accounts.proofs.accounts.Accounts.commit_reap.Goals as goal

pub commit_shrunk-requires-clause-legal : goal.commit_shrunk-requires-clause-legal
commit_shrunk-requires-clause-legal c =
    let kind = subst (λ (op : Op). is_reap_call op ≡ true) c.op.ensures (sym c.is_reap.ensures ∙ c.if-not-is_reap.false) in
    subst (λ (slabs : List SlabAt). MayCommit c.self.inside.ledger c.args.thread (shrunk slabs) reply.Ok) (sym c.reaped.ensures)
    (may_reap c.self.inside.ledger c.args.thread c.args.call c.in-Some.ready.now (sym c.in-Some.ensures.call) c.self.inside.tables c.self.invariant kind c.reap.new.tables c.reap.ensures)

pub invariant_of-self : goal.invariant_of-self
invariant_of-self c =
    let kind = subst (λ (op : Op). is_reap_call op ≡ true) c.op.ensures (sym c.is_reap.ensures ∙ c.if-not-is_reap.false) in
    let commits = subst (λ (slabs : List SlabAt). Commits c.self.inside.ledger c.commit_shrunk.new.self c.args.thread (shrunk slabs) reply.Ok) c.reaped.ensures c.commit_shrunk.ensures in
    stand_reaped c.self.inside.ledger c.args.thread c.args.call c.in-Some.ready.now (sym c.in-Some.ensures.call) c.self.inside.tables c.self.invariant kind c.reap.new.tables c.reap.ensures
    c.commit_shrunk.new.self commits
