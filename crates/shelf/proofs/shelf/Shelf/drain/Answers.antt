use Rattle.std.proofs.Common.{◌≡◌, ap, ◌∙◌, map, rules}
use Rattle.std.specs.Vec.{with_items}
use Rattle.std.proofs.lemmas.List.{with_items_is}
use Rattle.slab_layer.specs.Slabs.{Slabs}
use Rattle.depot.specs.Depot.{Depot}
use Rattle.shelf.specs.Laws.{KeepsAll}
use Rattle.shelf.specs.Shelf.{Shelf, emptied, stock_of}
use Rattle.shelf.specs.Steps.{drained}
use Rattle.shelf.specs.Stock.{Stock}
use Rattle.shelf.proofs.DrainLemmas.{drained_is}
use Rattle.shelf.proofs.PartsLemmas.{drain_of-parts, shelf_of, sizes-emptied}
use Rattle.shelf.proofs.shelf.Shelf.drain.Goals as goal

cpus : (c : goal.After-drain_into) → (with_items c.self.inside.cpus c.drain_cpus.new.cpus).items ≡ c.drain_cpus.new.cpus
cpus c = with_items_is c.self.inside.cpus c.drain_cpus.new.cpus (search rules)

abbrev new : goal.After-drain_into → Stock
new c = stock_of c.drain_cpus.new.cpus c.drain_into.new.self c.drain_into.new.slabs.slabs

stock : (c : goal.After-drain_into) → stock_of c.self.inside.cpus.items c.self.inside.depot c.self.inside.slabs.slabs ≡ c.args.self.now.stock
stock c = ap (λ (s : Shelf). s.stock) c.self.view_is

after : (c : goal.After-drain_into) → new c ≡ drained c.args.self.now.stock
after c =
    rw (← stock c)
    (drain_of-parts c.self.inside.cpus.items c.drain_cpus.new.cpus c.self.inside.depot c.drain_into.new.self c.self.inside.slabs.slabs c.drain_into.new.slabs.slabs c.self.invariant.stock (search rules) c.drain_into.ensures.emptied (ap (λ (s : Slabs). s.slabs) c.drain_into.ensures.put ∙ rw c.drain_cpus.ensures.put (search rules)))

keeps : (c : goal.After-drain_into) → KeepsAll c.args.self.now.stock (new c)
keeps c = rw (after c) (drained_is c.args.self.now.stock (rw (← stock c) c.self.invariant.stock))

pub invariant_of-self : goal.invariant_of-self
invariant_of-self c =
    let was : c.drain_cpus.new.cpus ≡ map emptied c.self.inside.cpus.items = search rules in
    rw (cpus c)
    (record {
      sizes = rw was (sizes-emptied c.self.inside.cpus.items c.self.inside.depot c.drain_into.new.self (ap (λ (d : Depot). d.size) c.drain_into.ensures.emptied) c.self.invariant.sizes);
      stock = (keeps c).sound;
    })

pub returns-clause-after : goal.returns-clause-after
returns-clause-after c =
    let is : stock_of (with_items c.self.inside.cpus c.drain_cpus.new.cpus).items c.drain_into.new.self c.drain_into.new.slabs.slabs ≡ drained c.args.self.now.stock = rw (cpus c) (after c) in
    shelf_of (record { cache = c.drain_into.new.slabs.cache; spare = c.drain_into.new.slabs.spare; stock = stock_of (with_items c.self.inside.cpus c.drain_cpus.new.cpus).items c.drain_into.new.self c.drain_into.new.slabs.slabs }) _ _ _
    (ap (λ (s : Slabs). s.cache) c.drain_into.ensures.put ∙ ap (λ (s : Slabs). s.cache) c.drain_cpus.ensures.put ∙ ap (λ (s : Shelf). s.cache) c.self.view_is)
    (ap (λ (s : Slabs). s.spare) c.drain_into.ensures.put ∙ ap (λ (s : Slabs). s.spare) c.drain_cpus.ensures.put ∙ ap (λ (s : Shelf). s.spare) c.self.view_is)
    is

pub returns-clause-holds : goal.returns-clause-holds
returns-clause-holds c = rw (cpus c) (keeps c).holds

pub returns-clause-sound : goal.returns-clause-sound
returns-clause-sound c = rw (cpus c) (keeps c).sound

pub returns-clause-shape : goal.returns-clause-shape
returns-clause-shape c = rw (cpus c) (keeps c).shape
