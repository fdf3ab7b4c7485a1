use Rattle.std.proofs.Common.{◌≡◌, ◌∙◌, None, ap, arith, subst, sym}
use Rattle.std.specs.Prelude.{All}
use Rattle.slab_layer.specs.Slab.{IsApartBelow, slab_of}
use Rattle.slab_layer.specs.Slabs.{listed_rounds}
use Rattle.shelf.specs.Shelf.{Shelf}
use Rattle.shelf.specs.Steps.{taken_from, with_slab_of}
use Rattle.shelf.specs.Stock.{Stock}
use Rattle.heap_ledger.specs.Ledger.{run_setting, run_state}
use Rattle.heap_accounts.specs.Grows.{IsFresh}
use Rattle.heap_accounts.specs.Turns.{MakesGrown, TakesGrow}
use Rattle.heap_core.proofs.GrownLemmas.{fresh_is, lists_empty, performs_grown, rounds_few, rounds_rise, rounds_some, slab_apart}
use Rattle.heap_core.proofs.chunk_calls.grow_on.Goals as goal

-- the stock is as it was before room was made
stock : (c : goal.After-add_slab-arg-1) → c.make_room.new.self.stock ≡ c.args.shelf.now.stock
stock c = ap (λ (s : Shelf). s.stock) c.in_ok-make_room.ensures.ok

-- what the commit gave
makes : (c : goal.After-add_slab-arg-1) → MakesGrown c.args.books.now c.commit_grow.new.self c.args.thread c.args.call c.in-Made.reply c.in-Made.fresh
makes c = subst (TakesGrow c.args.books.now c.commit_grow.new.self c.args.thread c.args.call) c.in-Made.is c.in_ok-reply.ensures.ok

its : (c : goal.After-add_slab-arg-1) → IsFresh c.requires.asked.cache c.in-Made.fresh (run_setting c.args.books.now) (run_state c.args.books.now)
its c = fresh_is c.args.books.now c.args.thread c.args.call c.args.shelf.now.stock c.requires.asked c.commit_grow.new.self c.in-Made.reply c.in-Made.fresh (makes c)

pub add_slab-first-requires-clause-some : goal.add_slab-first-requires-clause-some
add_slab-first-requires-clause-some c = rounds_some c.args.books.now c.args.thread c.args.call c.args.shelf.now.stock c.requires.asked c.in-Made.fresh (its c)

pub add_slab-first-requires-clause-room : goal.add_slab-first-requires-clause-room
add_slab-first-requires-clause-room c =
    let few = rounds_few c.args.books.now c.args.thread c.args.call c.args.shelf.now.stock c.requires.asked c.in-Made.fresh (its c) in
    let spare = ap (λ (s : Shelf). s.spare) c.in_ok-make_room.ensures.ok in
    omega (arith, few, spare)

pub add_slab-first-requires-clause-rising : goal.add_slab-first-requires-clause-rising
add_slab-first-requires-clause-rising c = rounds_rise c.args.books.now c.args.thread c.args.call c.args.shelf.now.stock c.requires.asked c.in-Made.fresh (its c)

pub add_slab-first-requires-clause-apart : goal.add_slab-first-requires-clause-apart
add_slab-first-requires-clause-apart c =
    subst (λ (s : Stock). All (IsApartBelow (slab_of c.in-Made.fresh.base c.in-Made.fresh.rounds.items)) s.slabs) (sym (stock c))
    (slab_apart c.args.books.now c.args.thread c.args.call c.args.shelf.now.stock c.requires.asked c.in-Made.fresh (its c))

pub add_slab-first-requires-clause-empty : goal.add_slab-first-requires-clause-empty
add_slab-first-requires-clause-empty c =
    let bare = subst (λ i. taken_from c.args.shelf.now.stock i ≡ None) c.requires.cpu c.requires.bare in
    ap (λ (s : Stock). listed_rounds s.slabs) (stock c) ∙ lists_empty c.args.books.now c.args.thread c.args.call c.args.shelf.now.stock c.requires.asked bare

pub returns-in-Made-clause-ok : goal.returns-in-Made-clause-ok
returns-in-Made-clause-ok c =
    let bare = subst (λ i. taken_from c.args.shelf.now.stock i ≡ None) c.requires.cpu c.requires.bare in
    let after = ap (λ (s : Shelf). s.stock) c.add_slab-first.ensures.after in
    performs_grown c.args.books.now c.args.thread c.args.call c.args.shelf.now.stock c.requires.asked c.commit_grow.new.self c.in-Made.reply c.in-Made.fresh (makes (c.before)) bare c.add_slab-first.new.self.stock
    (after ∙ ap (λ (s : Stock). with_slab_of s c.in-Made.fresh.base c.in-Made.fresh.rounds.items) (stock (c.before)))
