use Rattle.std.proofs.Common.{List, sym, subst}
use Rattle.std.specs.Prelude.{IfOk}
use Rattle.std.proofs.lemmas.Result.{IfOk-weaker}
use Rattle.core_format.specs.declared.whole.Core.{Core}
use Rattle.script.specs.declared.tree.Header.{Header}
use Rattle.shelf.specs.Shelf.{Shelf}
use Rattle.heap_ledger.specs.Ledger.{Ledger}
use Rattle.heap_pictures.specs.Pictures.{DrawnWith, Pictures, TellsPlaces}
use Rattle.heap_pictures.proofs.WholeLemmas.{pictures}
use Rattle.heap_core.specs.FreePlaces.{CanBeRead}
use Rattle.heap_core.specs.Heap.{run_places}
use Rattle.heap_core.specs.Shelves.{stocks_of}
use Rattle.heap_core.proofs.SnapshotLemmas.{AreRead, can_be_read, drawn_can, drawn_tells, lists_read, shown_read}
use Rattle.heap_core.proofs.heap.Heap.snapshot.Goals as goal

pub free_places-requires : goal.free_places-requires
free_places-requires c =
    subst (λ (h : Header). CanBeRead h.cpus (stocks_of c.deref.result.now) c.slabs.result.now) (sym c.header.ensures)
    (subst (λ (s : List Shelf). CanBeRead c.self.inside.books.plan.header.cpus (stocks_of s) c.slabs.result.now)
    (sym c.deref.ensures.value)
    (can_be_read c.self.inside.books c.self.inside.shelves.items c.slabs.result.now c.self.invariant
    c.slabs.ensures.rising c.slabs.ensures.exactly))

pub draw-requires : goal.draw-requires
draw-requires c =
    lists_read c.self.inside.books c.self.inside.shelves.items c.slabs.result.now c.in_ok-places.places
    c.self.invariant c.slabs.ensures.rising c.slabs.ensures.exactly
    (shown_read c.self.inside.books c.self.inside.shelves.items c.deref.result.now c.header.result.now c.slabs.result.now
    c.in_ok-places.places c.header.ensures c.deref.ensures.value (record {
      cpu_places = c.in_ok-places.ensures.cpu_places;
      depots = c.in_ok-places.ensures.depots;
      lists = c.in_ok-places.ensures.lists;
    }))

-- what the shelves of the heap gave
read : (c : goal.After-draw)
    → AreRead c.self.inside.books.plan.header.cpus (stocks_of c.self.inside.shelves.items) c.slabs.result.now
    c.in_ok-places.places
read c =
    shown_read c.self.inside.books c.self.inside.shelves.items c.deref.result.now c.header.result.now c.slabs.result.now
    c.in_ok-places.places c.header.ensures c.deref.ensures.value (record {
      cpu_places = c.in_ok-places.ensures.cpu_places;
      depots = c.in_ok-places.ensures.depots;
      lists = c.in_ok-places.ensures.lists;
    })

-- a core that is drawn with them tells the run and its places
told : (c : goal.After-draw) (core : Core) → DrawnWith c.self.inside.books c.in_ok-places.places core
    → TellsPlaces c.self.inside.books (run_places c.self.inside.books) core
told c =
    drawn_tells c.self.inside.books c.self.inside.shelves.items c.slabs.result.now c.in_ok-places.places
    c.self.invariant c.slabs.ensures.rising c.slabs.ensures.exactly (read c)

-- and so it pictures the run
pictured : (c : goal.After-draw) (core : Core) → DrawnWith c.self.inside.books c.in_ok-places.places core
    → Pictures c.self.inside.books core
pictured c core drawn =
    pictures c.self.inside.books (run_places c.self.inside.books) core
    (drawn_can c.self.inside.books c.self.inside.shelves.items c.slabs.result.now c.in_ok-places.places
    c.self.invariant c.slabs.ensures.rising c.slabs.ensures.exactly (read c) core c.history.ensures.options
    c.history.ensures.logging drawn) (told c core drawn)

pub returns-clause-pictures : goal.returns-clause-pictures
returns-clause-pictures c =
    subst (λ (l : Ledger). IfOk c.draw.result (Pictures l)) c.self.view_is
    (IfOk-weaker c.draw.result (DrawnWith c.self.inside.books c.in_ok-places.places) (Pictures c.self.inside.books)
    (λ core drawn. pictured c core drawn) c.draw.ensures)

pub returns-clause-places : goal.returns-clause-places
returns-clause-places c =
    subst (λ (l : Ledger). IfOk c.draw.result (TellsPlaces l (run_places l))) c.self.view_is
    (IfOk-weaker c.draw.result (DrawnWith c.self.inside.books c.in_ok-places.places)
    (TellsPlaces c.self.inside.books (run_places c.self.inside.books)) (λ core drawn. told c core drawn) c.draw.ensures)
