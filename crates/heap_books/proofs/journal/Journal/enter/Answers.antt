use Rattle.std.proofs.Common.{◌≡◌, ap, arith, refl}
use Rattle.heap_books.specs.Journal.{Journal}
use Rattle.heap_books.proofs.EnterLemmas.{acts_on, entered, no_acts}
use Rattle.heap_books.proofs.journal.Journal.enter.Goals as goal

pub loop-init : goal.loop-init
loop-init c = record { items = no_acts c.self.inside.acts.items; spare = omega arith; saved = refl; piece = refl }

pub push-requires : goal.push-requires
push-requires c =
    omega (arith, c.requires, c.loop.invariant.spare, c.loop-test.true, ap (λ (j : Journal). j.acts.spare) c.self.view_is)

pub loop-preserved : goal.loop-preserved
loop-preserved c = record {
  items = acts_on c.self.inside.acts.items c.loop.self-inside.acts.items c.push.new.self.items c.loop.counter c.loop.invariant.items c.push.ensures.items;
  spare = omega (arith, c.push.ensures.spare, c.loop.invariant.spare);
  saved = c.loop.invariant.saved;
  piece = c.loop.invariant.piece;
}

pub push-requires-2 : goal.push-requires-2
push-requires-2 c =
    omega (arith, c.requires, c.loop.invariant.spare, c.loop.auto.counter-end, ap (λ (j : Journal). j.acts.spare) c.self.view_is)

pub returns : goal.returns
returns c =
    let count : c.loop.counter ≡ c.args.inner = omega (arith, c.loop.auto.counter-end, c.loop-test.false) in
    entered c.args.self.now c.self.inside.acts c.loop.self-inside.acts c.push-2.new.self c.loop.self-inside.saved c.self.inside.saved c.loop.self-inside.piece.items c.self.inside.piece.items c.loop.counter c.args.inner c.args.act count
    c.loop.invariant.items c.loop.invariant.spare c.push-2.ensures.items c.push-2.ensures.spare
    c.loop.invariant.saved (ap (λ p. p.items) c.loop.invariant.piece) c.self.view_is
