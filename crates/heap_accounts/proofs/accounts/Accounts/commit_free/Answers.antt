use Rattle.std.proofs.Common.{◌≡◌, true, sym, subst}
use Rattle.script.specs.declared.operation.Op.{Op}
use Rattle.heap_ledger.specs.Ledger.{Ledger}
use Rattle.heap_accounts.specs.Frees.{IsRoundOf}
use Rattle.heap_accounts.specs.Kinds.{is_free}
use Rattle.heap_accounts.specs.Tables.{ForEachHistory, Performs}
use Rattle.heap_accounts.specs.Turns.{MakesFree}
use Rattle.heap_accounts.proofs.AccountsLemmas.{is_known, may, stand}
use Rattle.heap_accounts.proofs.CommitFreeLemmas.{gives_free}
use Rattle.heap_accounts.proofs.accounts.Accounts.commit_free.Goals as goal

pub free-requires : goal.free-requires
free-requires c =
    let limits = c.in-Some.ensures.limits in
    is_known c.self.inside.ledger c.args.thread c.args.call c.in-Some.ready.now (sym c.in-Some.ensures.call) c.self.inside.tables c.self.invariant c.op.result.now c.op.ensures limits.thread limits.op

done : (c : goal.After-commit-arg-1) → Performs c.self.inside.tables c.free.new.tables c.args.thread c.in-Some.ready.now.op c.in-Made.reply
done c = subst (λ (op : Op). Performs c.self.inside.tables c.free.new.tables c.args.thread op c.in-Made.reply) c.op.ensures c.in-Made.ensures.1

pub commit-requires-clause-legal : goal.commit-requires-clause-legal
commit-requires-clause-legal c =
    may c.self.inside.ledger c.args.thread c.args.call c.in-Some.ready.now (sym c.in-Some.ensures.call) c.self.inside.tables c.self.invariant c.in-Made.reply c.free.new.tables (done c)

pub invariant_of-self-2 : goal.invariant_of-self-2
invariant_of-self-2 c =
    stand c.self.inside.ledger c.args.thread c.args.call c.in-Some.ready.now (sym c.in-Some.ensures.call) c.self.inside.tables c.self.invariant c.in-Made.reply c.free.new.tables (done (c.before))
    c.commit.new.self c.commit.ensures

pub returns : goal.returns
returns c =
    let back = subst (λ (op : Op). ForEachHistory (λ setting state. IsRoundOf setting state c.args.thread op c.in-Made.reply c.in-Made.round) c.self.inside.tables) c.op.ensures c.in-Made.ensures.2 in
    subst (λ (l : Ledger). MakesFree l c.commit.new.self c.args.thread c.args.call c.in-Made.reply c.in-Made.round) c.self.view_is
    (gives_free c.self.inside.ledger c.args.thread c.args.call c.in-Some.ready.now (sym c.in-Some.ensures.call) c.self.inside.tables c.self.invariant c.in-Made.reply c.free.new.tables (done (c.before))
    c.in-Made.round back (subst (λ (op : Op). is_free op ≡ true) c.op.ensures c.in-Made.ensures.0) c.commit.new.self c.commit.ensures)
