use Rattle.std.proofs.Common.{◌≡◌, ap, arith, length, rules}
use Rattle.std.specs.Vec.{with_items}
use Rattle.std.proofs.lemmas.List.{with_items_is}
use Rattle.shelf.specs.Shelf.{Shelf, stock_of}
use Rattle.shelf.specs.Steps.{chunk_in, left_in, taken_any}
use Rattle.shelf.specs.Stock.{IsStock, Stock}
use Rattle.shelf.proofs.PartsLemmas.{Took, none_is, took}
use Rattle.shelf.proofs.StockLemmas.{held_none, taken_any-none, taken_any_is}
use Rattle.shelf.proofs.shelf.Shelf.find_any.Goals as goal

cpus : (c : goal.After-self-1) → (with_items c.self.inside.cpus c.take_any.new.cpus).items ≡ c.take_any.new.cpus
cpus c = with_items_is c.self.inside.cpus c.take_any.new.cpus (search rules)

stock : (c : goal.After-self-1) → stock_of c.self.inside.cpus.items c.self.inside.depot c.self.inside.slabs.slabs ≡ c.args.self.now.stock
stock c = ap (λ (s : Shelf). s.stock) c.self.view_is

sound : (c : goal.After-self-1) → IsStock c.args.self.now.stock
sound c = rw (← stock c) c.self.invariant.stock

-- the parts afterwards
abbrev new : goal.After-self-1 → Stock
new c = stock_of c.take_any.new.cpus c.take_any.new.depot c.take_any.new.slabs.slabs

round : (c : goal.After-self-1) → c.take_any.result ≡ chunk_in (taken_any c.args.self.now.stock c.args.cpu)
round c = search rules

left : (c : goal.After-self-1) → new c ≡ left_in c.args.self.now.stock (taken_any c.args.self.now.stock c.args.cpu)
left c = search rules

took_it : (c : goal.After-self-1) → Took c.args.self.now.stock c.take_any.result (new c)
took_it c =
    took c.args.self.now.stock (taken_any c.args.self.now.stock c.args.cpu) c.take_any.result (new c) (sound c)
    (taken_any_is c.args.self.now.stock c.args.cpu c.requires (sound c)) (round c) (left c)

pub invariant_of-self : goal.invariant_of-self
invariant_of-self c = rw (cpus c) (record { sizes = c.take_any.ensures.sizes; stock = (took_it c).sound })

pub returns-clause-holds : goal.returns-clause-holds
returns-clause-holds c = rw (cpus c) (took_it c).holds

pub returns-clause-out : goal.returns-clause-out
returns-clause-out c = rw (cpus c) (took_it c).out

pub returns-clause-none : goal.returns-clause-none
returns-clause-none c =
    let none = none_is (taken_any c.args.self.now.stock c.args.cpu) c.take_any.result (round c) in
    (λ e. held_none c.args.self.now.stock c.args.cpu c.requires (sound c) (none.0 e), λ e. none.1 (taken_any-none c.args.self.now.stock c.args.cpu c.requires (sound c) e))

pub returns-clause-sound : goal.returns-clause-sound
returns-clause-sound c = rw (cpus c) (took_it c).sound

pub returns-clause-shape : goal.returns-clause-shape
returns-clause-shape c = rw (cpus c) (took_it c).shape
