use Rattle.std.proofs.Common.{◌≡◌, true, sym, subst}
use Rattle.script.specs.declared.operation.Op.{Op}
use Rattle.heap_ledger.specs.Ledger.{Ledger}
use Rattle.heap_accounts.specs.Kinds.{is_plain_call}
use Rattle.heap_accounts.specs.Tables.{Performs}
use Rattle.heap_accounts.specs.Turns.{Makes}
use Rattle.heap_accounts.proofs.AccountsLemmas.{gives, is_known, may, stand}
use Rattle.heap_accounts.proofs.accounts.Accounts.commit_plain.Goals as goal

pub plain-requires : goal.plain-requires
plain-requires c =
    let limits = c.in-Some.ensures.limits in
    is_known c.self.inside.ledger c.args.thread c.args.call c.in-Some.ready.now (sym c.in-Some.ensures.call) c.self.inside.tables c.self.invariant c.op.result.now c.op.ensures limits.thread limits.op

done : (c : goal.After-commit-arg-1) → Performs c.self.inside.tables c.plain.new.tables c.args.thread c.in-Some.ready.now.op c.in-Some-plain.reply
done c = subst (λ (op : Op). Performs c.self.inside.tables c.plain.new.tables c.args.thread op c.in-Some-plain.reply) c.op.ensures c.in-Some-plain.ensures.1

pub commit-requires-clause-legal : goal.commit-requires-clause-legal
commit-requires-clause-legal c =
    may c.self.inside.ledger c.args.thread c.args.call c.in-Some.ready.now (sym c.in-Some.ensures.call) c.self.inside.tables c.self.invariant c.in-Some-plain.reply c.plain.new.tables (done c)

pub invariant_of-self-2 : goal.invariant_of-self-2
invariant_of-self-2 c =
    stand c.self.inside.ledger c.args.thread c.args.call c.in-Some.ready.now (sym c.in-Some.ensures.call) c.self.inside.tables c.self.invariant c.in-Some-plain.reply c.plain.new.tables (done (c.before))
    c.commit.new.self c.commit.ensures

pub returns : goal.returns
returns c =
    subst (λ (l : Ledger). Makes is_plain_call l c.commit.new.self c.args.thread c.args.call c.in-Some-plain.reply) c.self.view_is
    (gives c.self.inside.ledger c.args.thread c.args.call c.in-Some.ready.now (sym c.in-Some.ensures.call) c.self.inside.tables c.self.invariant c.in-Some-plain.reply c.plain.new.tables (done (c.before))
    is_plain_call c.commit.new.self (subst (λ (op : Op). is_plain_call op ≡ true) c.op.ensures c.in-Some-plain.ensures.0) c.commit.ensures)
