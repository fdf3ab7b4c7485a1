use Rattle.std.proofs.Common.{◌≡◌, map, sym, subst}
use Rattle.std.proofs.lemmas.Result.{IfOk-weaker}
use Rattle.heap_ledger.specs.Ledger.{run_setting, run_state}
use Rattle.heap_books.specs.InLists.{AreFreeLists, free_list_of}
use Rattle.heap_books.proofs.StandingLemmas.{free_lists_are}
use Rattle.heap_books.proofs.free_lists.free_lists.Goals as goal

pub returns : goal.returns
returns c =
    let setting = run_setting c.args.accounts.now in
    let state = run_state c.args.accounts.now in
    let standing = c.standing.result.now in
    IfOk-weaker c.lists_of.result (λ lists. lists.items ≡ map (free_list_of state) standing)
    (λ lists. AreFreeLists setting state lists.items)
    (λ lists is. subst (AreFreeLists setting state) (sym is)
    (free_lists_are setting state standing c.standing.ensures.sound c.standing.ensures.exactly))
    c.lists_of.ensures
