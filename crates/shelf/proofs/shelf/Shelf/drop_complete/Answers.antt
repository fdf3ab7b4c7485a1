use Rattle.std.proofs.Common.{◌≡◌, ap}
use Rattle.slab_layer.specs.Slabs.{Slabs, without_complete}
use Rattle.shelf.specs.Laws.{DropsComplete}
use Rattle.shelf.specs.Shelf.{Shelf, stock_of}
use Rattle.shelf.proofs.StandingLemmas.{without_complete_is}
use Rattle.shelf.proofs.shelf.Shelf.drop_complete.Goals as goal

slabs : (c : goal.After-drop_complete) → c.drop_complete.new.slabs.slabs ≡ without_complete c.self.inside.slabs.slabs
slabs c = ap (λ (s : Slabs). s.slabs) c.drop_complete.ensures

stock : (c : goal.After-drop_complete) → stock_of c.self.inside.cpus.items c.self.inside.depot c.self.inside.slabs.slabs ≡ c.args.self.now.stock
stock c = ap (λ (s : Shelf). s.stock) c.self.view_is

drops : (c : goal.After-drop_complete) → DropsComplete c.args.self.now.stock (stock_of c.self.inside.cpus.items c.self.inside.depot c.drop_complete.new.slabs.slabs)
drops c = rw (← stock c, slabs c) (without_complete_is (stock_of c.self.inside.cpus.items c.self.inside.depot c.self.inside.slabs.slabs) c.self.invariant.stock)

pub invariant_of-self : goal.invariant_of-self
invariant_of-self c = record { sizes = c.self.invariant.sizes; stock = (drops c).sound }

pub returns-clause-holds : goal.returns-clause-holds
returns-clause-holds c = (drops c).holds

pub returns-clause-sound : goal.returns-clause-sound
returns-clause-sound c = (drops c).sound
