use Rattle.heap_ledger.specs.Ledger.{run_setting, run_state}
use Rattle.heap_books.proofs.StandingLemmas.{lists_at, lists_for}
use Rattle.heap_books.proofs.fit.are_lists.Goals as goal

pub returns : goal.returns
returns c =
    let setting = run_setting c.args.accounts.now in
    let state = run_state c.args.accounts.now in
    let standing = c.standing.result.now in
    let sound = c.standing.ensures.sound in
    let exactly = c.standing.ensures.exactly in (
      λ e. lists_for setting state standing sound exactly c.args.lists.now (c.are_lists_at.ensures.0 e),
      λ are. c.are_lists_at.ensures.1 (lists_at setting state standing sound exactly c.args.lists.now are),
    )
