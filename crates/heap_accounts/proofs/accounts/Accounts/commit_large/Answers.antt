use Rattle.std.proofs.Common.{◌≡◌, true, Some, sym, subst}
use Rattle.script.specs.declared.operation.Op.{Op}
use Rattle.heap_ledger.specs.Ledger.{Ledger}
use Rattle.heap_accounts.specs.Kinds.{is_large}
use Rattle.heap_accounts.specs.Tables.{Performs, PerformsKind}
use Rattle.heap_accounts.specs.Turns.{Makes}
use Rattle.heap_accounts.proofs.AccountsLemmas.{gives, is_known, may, stand}
use Rattle.heap_accounts.proofs.accounts.Accounts.commit_large.Goals as goal

pub large-requires : goal.large-requires
large-requires c =
    let limits = c.in-Some.ensures.limits in
    is_known c.self.inside.ledger c.args.thread c.args.call c.in-Some.ready.now (sym c.in-Some.ensures.call) c.self.inside.tables c.self.invariant c.op.result.now c.op.ensures limits.thread limits.op

both : (c : goal.After-commit-arg-1) → PerformsKind is_large c.self.inside.tables c.large.new.tables c.args.thread c.op.result.now (Some c.in-Some-made.reply)
both c = subst (PerformsKind is_large c.self.inside.tables c.large.new.tables c.args.thread c.op.result.now) c.in-Some-made.is c.in_ok-made.ensures.ok

done : (c : goal.After-commit-arg-1) → Performs c.self.inside.tables c.large.new.tables c.args.thread c.in-Some.ready.now.op c.in-Some-made.reply
done c = subst (λ (op : Op). Performs c.self.inside.tables c.large.new.tables c.args.thread op c.in-Some-made.reply) c.op.ensures (both c).1

pub commit-requires-clause-legal : goal.commit-requires-clause-legal
commit-requires-clause-legal c =
    may c.self.inside.ledger c.args.thread c.args.call c.in-Some.ready.now (sym c.in-Some.ensures.call) c.self.inside.tables c.self.invariant c.in-Some-made.reply c.large.new.tables (done c)

pub invariant_of-self-2 : goal.invariant_of-self-2
invariant_of-self-2 c =
    stand c.self.inside.ledger c.args.thread c.args.call c.in-Some.ready.now (sym c.in-Some.ensures.call) c.self.inside.tables c.self.invariant c.in-Some-made.reply c.large.new.tables (done (c.before))
    c.commit.new.self c.commit.ensures

pub returns-clause-ok : goal.returns-clause-ok
returns-clause-ok c =
    subst (λ (l : Ledger). Makes is_large l c.commit.new.self c.args.thread c.args.call c.in-Some-made.reply) c.self.view_is
    (gives c.self.inside.ledger c.args.thread c.args.call c.in-Some.ready.now (sym c.in-Some.ensures.call) c.self.inside.tables c.self.invariant c.in-Some-made.reply c.large.new.tables (done (c.before))
    is_large c.commit.new.self (subst (λ (op : Op). is_large op ≡ true) c.op.ensures (both (c.before)).0) c.commit.ensures)
