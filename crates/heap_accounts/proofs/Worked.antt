-- A worked history of one CPU, whose places compute: chunks of 4,096 bytes, of which a slab has eight and a magazine
-- three.
use Rattle.std.proofs.Common.{◌≡◌, ℕ, List, [], ◌∷◌, false, Some, take, refl}
use Rattle.case_table.specs.Geometry.{geometry_of}
use Rattle.case_table.specs.Sizes.{class_for, class_sizes, size_of}
use Rattle.script.specs.declared.operation.Op.TheVariants as op
use Rattle.shelf.specs.Steps.{chunk_in, taken_from}
use Rattle.shelf.specs.Stock.{Stock}
use Rattle.plain_heap.specs.declared.entry.Body.TheVariants.{Call, Grow}
use Rattle.plain_heap.specs.declared.entry.Entry.{Entry}
use Rattle.plain_heap.specs.declared.reply.Reply.TheVariants as reply
use Rattle.plain_heap.specs.declared.reply.Report.TheVariants as report
use Rattle.plain_heap.specs.Setting.{Setting}
use Rattle.plain_heap.specs.State.{state_of}
use Rattle.heap_accounts.specs.Places.{address_of, places_of, stock_at}

-- one CPU, one thread, no declared cache, and no guards
abbrev plain : Setting
plain = record { header = record { version = 1; cpus = 1; threads = 1; caches = [] }; guards = false }

-- a slab is made, two of its chunks are handed out, the first of them is freed, and all magazines are emptied
abbrev entries : List Entry
entries =
    record { number = 0; thread = 0; body = Grow 31 1048576 }
    ∷ record { number = 1; thread = 0; body = Call (op.Alloc 1 4096) [] (reply.At 1048576 report.Clean) }
    ∷ record { number = 2; thread = 0; body = Call (op.Alloc 2 4096) [] (reply.At 1052672 report.Clean) }
    ∷ record { number = 3; thread = 0; body = Call (op.Free 1 4096) [] reply.Ok }
    ∷ record { number = 4; thread = 0; body = Call op.Reap [] reply.Ok } ∷ []

-- the stock of their class after the first so many of them
abbrev stock_after : ℕ → Stock
stock_after n = stock_at (places_of plain (take n entries)) 31

-- the freed chunk stands in the loaded magazine, and six chunks in the slab's list
pub the_freed_round : stock_after 4
    ≡ record {
      size = 3;
      cpus = record { loaded = 0 ∷ []; previous = [] } ∷ [];
      depot = [];
      slabs = record { base = 1048576; first = 0; count = 8; list = 2 ∷ 3 ∷ 4 ∷ 5 ∷ 6 ∷ 7 ∷ [] } ∷ [];
    }
unfolding geometry_of class_for class_sizes size_of
the_freed_round = refl

-- which the next allocation takes
pub the_next_round : chunk_in (taken_from (stock_after 4) 0) ≡ Some 0
unfolding geometry_of class_for class_sizes size_of
the_next_round = refl

-- after the reap it stands in the list
pub the_drained_round : stock_after 5
    ≡ record {
      size = 3;
      cpus = record { loaded = []; previous = [] } ∷ [];
      depot = [];
      slabs = record { base = 1048576; first = 0; count = 8; list = 0 ∷ 2 ∷ 3 ∷ 4 ∷ 5 ∷ 6 ∷ 7 ∷ [] } ∷ [];
    }
unfolding geometry_of class_for class_sizes size_of
the_drained_round = refl

-- the second chunk begins behind the first
pub the_second_address : address_of plain (state_of plain (take 2 entries)) 1 ≡ Some 1052672
unfolding geometry_of class_for class_sizes size_of
the_second_address = refl
