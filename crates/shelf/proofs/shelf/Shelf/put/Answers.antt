use Rattle.std.proofs.Common.{◌≡◌, ◌<◌, ◌∙◌, ap, arith, get_or, length, rules, set}
use Rattle.std.proofs.lemmas.List.{length-map}
use Rattle.slab_layer.specs.Slabs.{Slabs}
use Rattle.shelf.specs.Laws.{PutsOne}
use Rattle.shelf.specs.Shelf.{Shelf, stock_of}
use Rattle.shelf.specs.Steps.{put_on}
use Rattle.shelf.specs.Stock.{IsStock, Stock}
use Rattle.shelf.proofs.PartsLemmas.{put_of-parts, shelf_of, sizes-set}
use Rattle.shelf.proofs.StockLemmas.{missing_from_out, put_on_is}
use Rattle.shelf.proofs.shelf.Shelf.put.Goals as goal

pub put-requires-clause-missing : goal.put-requires-clause-missing
put-requires-clause-missing c =
    let stock : stock_of c.self.inside.cpus.items c.self.inside.depot c.self.inside.slabs.slabs ≡ c.args.self.now.stock = ap (λ (s : Shelf). s.stock) c.self.view_is in
    missing_from_out (stock_of c.self.inside.cpus.items c.self.inside.depot c.self.inside.slabs.slabs) c.args.round (rw (← stock) at c.requires.out)

abbrev new : goal.After-self-1 → Stock
new c = stock_of (set c.self.inside.cpus.items c.args.cpu c.put.new.cpu) c.put.new.depot c.put.new.slabs.slabs

stock : (c : goal.After-self-1) → stock_of c.self.inside.cpus.items c.self.inside.depot c.self.inside.slabs.slabs ≡ c.args.self.now.stock
stock c = ap (λ (s : Shelf). s.stock) c.self.view_is

within : (c : goal.After-self-1) → c.args.cpu < length c.self.inside.cpus.items
within c = omega (arith, rw (← stock c, length-map) at c.requires.cpu)

at : (c : goal.After-self-1) → c.index_mut-at.result.now ≡ get_or c.self.inside.cpus.items c.args.cpu c.index_mut-at.result.now
at c = search rules

after : (c : goal.After-self-1) → new c ≡ put_on c.args.self.now.stock c.args.cpu c.args.round
after c =
    rw (← stock c)
    (put_of-parts c.self.inside.cpus.items c.args.cpu c.args.round c.index_mut-at.result.now c.put.new.cpu c.self.inside.depot c.put.new.depot c.self.inside.slabs c.put.new.slabs (within c) (at c) c.put.ensures.sizes c.put.ensures.left)

puts : (c : goal.After-self-1) → PutsOne c.args.self.now.stock c.args.round (new c)
puts c = rw (after c) (put_on_is c.args.self.now.stock c.args.cpu c.args.round c.requires.cpu (rw (← stock c) c.self.invariant.stock) c.requires.out)

pub invariant_of-self : goal.invariant_of-self
invariant_of-self c = record {
  sizes = sizes-set c.self.inside.cpus.items c.args.cpu c.index_mut-at.result.now c.put.new.cpu c.self.inside.depot c.put.new.depot c.self.inside.slabs c.put.new.slabs (within c) (at c) c.put.ensures.sizes c.self.invariant.sizes;
  stock = (puts c).sound;
}

pub returns-clause-after : goal.returns-clause-after
returns-clause-after c =
    shelf_of (record { cache = c.put.new.slabs.cache; spare = c.put.new.slabs.spare; stock = new c }) _ _ _
    (ap (λ (s : Slabs). s.cache) c.put.ensures.sizes.slabs ∙ ap (λ (s : Shelf). s.cache) c.self.view_is)
    (ap (λ (s : Slabs). s.spare) c.put.ensures.sizes.slabs ∙ ap (λ (s : Shelf). s.spare) c.self.view_is)
    (after c)

pub returns-clause-holds : goal.returns-clause-holds
returns-clause-holds c = (puts c).holds

pub returns-clause-sound : goal.returns-clause-sound
returns-clause-sound c = (puts c).sound

pub returns-clause-shape : goal.returns-clause-shape
returns-clause-shape c = (puts c).shape
