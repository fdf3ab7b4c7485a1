use Rattle.std.proofs.Common.{◌≡◌, ◌<◌, ◌≤◌, length, refl, sym, ◌∙◌, arith}
use Rattle.heap_ledger.specs.Ledger.{run_setting, run_state}
use Rattle.heap_accounts.specs.Places.{cache_count}
use Rattle.heap_books.proofs.TestLemmas.{depot_fails, depots_pass, tells_not}
use Rattle.heap_books.proofs.fit.are_depots.Goals as goal

pub returns-then-not-is_depot : goal.returns-then-not-is_depot
returns-then-not-is_depot c =
    let within : c.loop-cache.cache < length c.args.depots.now = omega (arith, c.loop-cache-test.true) in
    tells_not
    (depot_fails (run_setting c.args.accounts.now) (run_state c.args.accounts.now) c.args.depots.now c.loop-cache.cache
    c.index-depots-cache.result within c.index-depots-cache.is (sym c.is_depot.ensures ∙ c.if-not-is_depot.true))

pub returns : goal.returns
returns c =
    let setting = run_setting c.args.accounts.now in
    let depots = c.args.depots.now in
    let many : length depots ≡ cache_count setting = c.if-depots-caches.false ∙ c.requires in
    let past : length depots ≤ c.loop-cache.cache = omega (arith, c.loop-cache-test.false) in (
      λ e. depots_pass setting (run_state c.args.accounts.now) depots c.loop-cache.cache many past c.loop-cache.invariant,
      λ are. refl,
    )
