use Rattle.std.proofs.Common.{◌≡◌, ◌*◌, ◌<◌, ◌≤◌, length, refl, sym, ap, ◌∙◌, arith}
use Rattle.script.specs.declared.tree.Header.{Header}
use Rattle.heap_ledger.specs.Ledger.{run_setting, run_state}
use Rattle.heap_accounts.specs.Places.{cache_count}
use Rattle.heap_books.proofs.TestLemmas.{place_fails, places_more, places_pass, tells_not}
use Rattle.heap_books.proofs.fit.are_places.Goals as goal

pub returns-then-not-is_cpu_place : goal.returns-then-not-is_cpu_place
returns-then-not-is_cpu_place c =
    let within : c.loop-index.index < length c.args.places.now = omega (arith, c.loop-index-test.true) in
    tells_not
    (place_fails (run_setting c.args.accounts.now) (run_state c.args.accounts.now) c.args.places.now c.loop-index.index
    c.index-places-index.result within c.index-places-index.is (sym c.is_cpu_place.ensures ∙ c.if-not-is_cpu_place.true))

pub loop-index-preserved : goal.loop-index-preserved
loop-index-preserved c =
    let within : c.loop-index.index < length c.args.places.now = omega (arith, c.loop-index-test.true) in
    places_more (run_setting c.args.accounts.now) (run_state c.args.accounts.now) c.args.places.now c.loop-index.index
    c.index-places-index.result within c.index-places-index.is c.loop-index.invariant
    (sym c.is_cpu_place.ensures ∙ c.if-not-is_cpu_place.false)

pub returns : goal.returns
returns c =
    let setting = run_setting c.args.accounts.now in
    let places = c.args.places.now in
    let many : length places ≡ setting.header.cpus * cache_count setting =
    c.if-places-header.false ∙ ap (λ (h : Header). h.cpus * c.args.caches) c.header.ensures
    ∙ ap (λ n. setting.header.cpus * n) c.requires in
    let past : length places ≤ c.loop-index.index = omega (arith, c.loop-index-test.false) in (
      λ e. places_pass setting (run_state c.args.accounts.now) places c.loop-index.index many past c.loop-index.invariant,
      λ are. refl,
    )
