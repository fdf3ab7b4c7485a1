use Rattle.std.proofs.Common.{◌≡◌, ◌<◌, ◌∙◌, ap, arith, get_or, length, refl, rules, set}
use Rattle.std.proofs.lemmas.List.{length-map}
use Rattle.slab_layer.specs.Slabs.{Slabs}
use Rattle.shelf.specs.Shelf.{Shelf, cpu_stock, stock_of}
use Rattle.shelf.specs.Steps.{chunk_in, left_in, taken_from, taken_in}
use Rattle.shelf.specs.Stock.{IsStock, Stock}
use Rattle.shelf.proofs.PartsLemmas.{Took, none_is, round_of-parts, shelf_of, sizes-set, taken_of-parts, took}
use Rattle.shelf.proofs.StockLemmas.{IsBare-taken_from, taken_from-none, taken_from_is}
use Rattle.shelf.proofs.shelf.Shelf.find.Goals as goal

-- the stock of the parts, before and after
abbrev old : goal.After-self-1 → Stock
old c = stock_of c.self.inside.cpus.items c.self.inside.depot c.self.inside.slabs.slabs

abbrev new : goal.After-self-1 → Stock
new c = stock_of (set c.self.inside.cpus.items c.args.cpu c.take.new.cpu) c.take.new.depot c.take.new.slabs.slabs

stock : (c : goal.After-self-1) → old c ≡ c.args.self.now.stock
stock c = ap (λ (s : Shelf). s.stock) c.self.view_is

within : (c : goal.After-self-1) → c.args.cpu < length c.self.inside.cpus.items
within c = omega (arith, rw (← stock c, length-map) at c.requires)

at : (c : goal.After-self-1) → c.index_mut-at.result.now ≡ get_or c.self.inside.cpus.items c.args.cpu c.index_mut-at.result.now
at c = search rules

left : (c : goal.After-self-1) → new c ≡ left_in c.args.self.now.stock (taken_from c.args.self.now.stock c.args.cpu)
left c =
    rw (← stock c)
    (taken_of-parts taken_in c.self.inside.cpus.items c.args.cpu c.index_mut-at.result.now c.take.new.cpu c.self.inside.depot c.take.new.depot c.self.inside.slabs c.take.new.slabs (within c) (at c) c.take.ensures.sizes c.take.ensures.left)

round : (c : goal.After-self-1) → c.take.result ≡ chunk_in (taken_from c.args.self.now.stock c.args.cpu)
round c =
    rw (← stock c)
    (round_of-parts taken_in c.self.inside.cpus.items c.args.cpu c.index_mut-at.result.now c.self.inside.depot c.self.inside.slabs c.take.result (within c) (at c) c.take.ensures.round)

sound : (c : goal.After-self-1) → IsStock c.args.self.now.stock
sound c = rw (← stock c) c.self.invariant.stock

took_it : (c : goal.After-self-1) → Took c.args.self.now.stock c.take.result (new c)
took_it c =
    took c.args.self.now.stock (taken_from c.args.self.now.stock c.args.cpu) c.take.result (new c) (sound c)
    (taken_from_is c.args.self.now.stock c.args.cpu c.requires (sound c)) (round c) (left c)

pub invariant_of-self : goal.invariant_of-self
invariant_of-self c = record {
  sizes = sizes-set c.self.inside.cpus.items c.args.cpu c.index_mut-at.result.now c.take.new.cpu c.self.inside.depot c.take.new.depot c.self.inside.slabs c.take.new.slabs (within c) (at c) c.take.ensures.sizes c.self.invariant.sizes;
  stock = (took_it c).sound;
}

pub returns-clause-left : goal.returns-clause-left
returns-clause-left c =
    shelf_of (record { cache = c.take.new.slabs.cache; spare = c.take.new.slabs.spare; stock = new c }) _ _ _
    (ap (λ (s : Slabs). s.cache) c.take.ensures.sizes.slabs ∙ ap (λ (s : Shelf). s.cache) c.self.view_is)
    (ap (λ (s : Slabs). s.spare) c.take.ensures.sizes.slabs ∙ ap (λ (s : Shelf). s.spare) c.self.view_is)
    (left c)

pub returns-clause-holds : goal.returns-clause-holds
returns-clause-holds c = (took_it c).holds

pub returns-clause-out : goal.returns-clause-out
returns-clause-out c = (took_it c).out

pub returns-clause-none : goal.returns-clause-none
returns-clause-none c =
    let none = none_is (taken_from c.args.self.now.stock c.args.cpu) c.take.result (round c) in
    (λ e. IsBare-taken_from c.args.self.now.stock c.args.cpu c.requires (sound c) (none.0 e), λ bare. none.1 (taken_from-none c.args.self.now.stock c.args.cpu bare))

pub returns-clause-sound : goal.returns-clause-sound
returns-clause-sound c = (took_it c).sound

pub returns-clause-shape : goal.returns-clause-shape
returns-clause-shape c = (took_it c).shape
