use Rattle.std.proofs.Common.{◌≡◌, ◌∙◌, List, [], ◌∷◌, ◌++◌, ap, refl}
use Rattle.std.specs.Prelude.{All, slice_index}
use Rattle.slab_layer.specs.Slab.{IsApartBelow, IsSlab, Slab, slab_of}
use Rattle.slab_layer.specs.Slabs.{Slabs, listed_rounds, without_round}
use Rattle.slab_layer.proofs.SlabsLemmas.{with_slab-last}
use Rattle.shelf.specs.Laws.{AddsSlab}
use Rattle.shelf.specs.Shelf.{Shelf, stock_of}
use Rattle.shelf.specs.Steps.{opened_slab, with_slab_of}
use Rattle.shelf.specs.Stock.{IsStock}
use Rattle.shelf.proofs.PartsLemmas.{shelf_of}
use Rattle.shelf.proofs.StandingLemmas.{first_round, last_slab, some_taken, taken_first, with_slab_of_is}
use Rattle.shelf.proofs.shelf.Shelf.add_slab.Goals as goal

pub unwrap-requires : goal.unwrap-requires
unwrap-requires c =
    let slabs : c.self.inside.slabs.slabs ≡ c.args.self.now.stock.slabs = ap (λ (s : Shelf). s.stock.slabs) c.self.view_is in
    let apart = rw (← slabs) at c.requires.apart in
    let is : c.add_slab.new.self.slabs ≡ c.self.inside.slabs.slabs ++ slab_of c.args.base c.args.rounds.items ∷ [] =
    ap (λ (s : Slabs). s.slabs) c.add_slab.ensures.value ∙ with_slab-last c.self.inside.slabs.slabs (slab_of c.args.base c.args.rounds.items) apart in
    some_taken c.self.inside.slabs.slabs c.add_slab.new.self.slabs c.args.base c.args.rounds.items c.take.result c.requires.some (rw (← slabs) at c.requires.empty) is c.take.ensures.none.0

slabs : (c : goal.After-unwrap) → c.self.inside.slabs.slabs ≡ c.args.self.now.stock.slabs
slabs c = ap (λ (s : Shelf). s.stock.slabs) c.self.view_is

apart : (c : goal.After-unwrap) → All (IsApartBelow (slab_of c.args.base c.args.rounds.items)) c.self.inside.slabs.slabs
apart c = rw (← slabs c) at c.requires.apart

-- the slab came behind the others
added : (c : goal.After-unwrap) → c.add_slab.new.self.slabs ≡ c.self.inside.slabs.slabs ++ slab_of c.args.base c.args.rounds.items ∷ []
added c = ap (λ (s : Slabs). s.slabs) c.add_slab.ensures.value ∙ with_slab-last c.self.inside.slabs.slabs (slab_of c.args.base c.args.rounds.items) (apart c)

taken : (c : goal.After-unwrap) → c.take.new.self ≡ record c.add_slab.new.self { slabs = without_round c.add_slab.new.self.slabs c.unwrap.result }
taken c = rw c.unwrap.ensures at c.take.ensures.taken

-- its first round was taken
first : (c : goal.After-unwrap) → (c.unwrap.result ≡ slice_index c.args.rounds.items 0) × (c.take.new.self.slabs ≡ c.self.inside.slabs.slabs ++ opened_slab c.args.base c.args.rounds.items ∷ [])
first c =
    taken_first c.self.inside.slabs.slabs c.add_slab.new.self.slabs c.take.new.self.slabs c.args.base c.args.rounds.items c.unwrap.result c.requires.some c.requires.rising (rw (← slabs c) at c.requires.empty) (added c) (rw c.unwrap.ensures at c.take.ensures.holds) (ap (λ (s : Slabs). s.slabs) (taken c))

stock : (c : goal.After-unwrap) → stock_of c.self.inside.cpus.items c.self.inside.depot c.self.inside.slabs.slabs ≡ c.args.self.now.stock
stock c = ap (λ (s : Shelf). s.stock) c.self.view_is

after : (c : goal.After-unwrap) → stock_of c.self.inside.cpus.items c.self.inside.depot c.take.new.self.slabs ≡ with_slab_of c.args.self.now.stock c.args.base c.args.rounds.items
after c = rw (← stock c, (first c).1) refl

adds : (c : goal.After-unwrap) → AddsSlab c.args.self.now.stock c.args.rounds.items (stock_of c.self.inside.cpus.items c.self.inside.depot c.take.new.self.slabs)
adds c =
    let slab : IsSlab (slab_of c.args.base c.args.rounds.items) = last_slab c.self.inside.slabs.slabs (slab_of c.args.base c.args.rounds.items) (rw (added c) at c.add_slab.ensures.sound) in
    let sound : IsStock c.args.self.now.stock = rw (← stock c) c.self.invariant.stock in
    rw (after c) (with_slab_of_is c.args.self.now.stock c.args.base c.args.rounds.items sound slab c.requires.apart)

pub invariant_of-self : goal.invariant_of-self
invariant_of-self c = record { sizes = c.self.invariant.sizes; stock = (adds c).sound }

pub returns-clause-first : goal.returns-clause-first
returns-clause-first c = rw (first c).0 (first_round c.args.rounds.items c.requires.some)

pub returns-clause-after : goal.returns-clause-after
returns-clause-after c =
    shelf_of (record { cache = c.take.new.self.cache; spare = c.take.new.self.spare; stock = stock_of c.self.inside.cpus.items c.self.inside.depot c.take.new.self.slabs }) _ _ _
    (ap (λ (s : Slabs). s.cache) (taken c) ∙ ap (λ (s : Slabs). s.cache) c.add_slab.ensures.value ∙ ap (λ (s : Shelf). s.cache) c.self.view_is)
    (ap (λ (s : Slabs). s.spare) (taken c) ∙ ap (λ (s : Slabs). s.spare) c.add_slab.ensures.value)
    (after c)

pub returns-clause-holds : goal.returns-clause-holds
returns-clause-holds c = rw (first c).0 (adds c).holds

pub returns-clause-out : goal.returns-clause-out
returns-clause-out c = rw (first c).0 (adds c).out

pub returns-clause-sound : goal.returns-clause-sound
returns-clause-sound c = (adds c).sound
