-- When shelves are those of a history, and a heap is one of the magazine rules.
use Rattle.std.specs.Prelude.{◌≡◌, ◌^◌, ◌≤◌, List, map}
use Rattle.shelf.specs.Shelf.{Shelf}
use Rattle.umem_options.specs.declared.options.Logging.{Logging}
use Rattle.umem_options.specs.declared.options.Options.{Options}
use Rattle.script.specs.Plan.{Plan}
use Rattle.plain_heap.specs.State.{next_chunk}
use Rattle.heap_ledger.specs.Ledger.{IsLedger, Ledger, run_setting, run_state}
use Rattle.heap_accounts.specs.Placed.{IsPlaced}
use Rattle.heap_accounts.specs.Places.{Places, places_of}

-- the places of the history of a run
abbrev pub run_places : Ledger → Places
run_places ledger = places_of (run_setting ledger) ledger.entries

-- the shelf of each cache, by its number, holds the stock that the history leaves the cache
abbrev pub AreShelvesOf : Ledger → List Shelf → Type 0
AreShelvesOf ledger shelves = map (λ shelf. shelf.stock) shelves ≡ run_places ledger

-- it was given these
pub record IsGiven (its : Plan) (flags : Options) (sizes : Logging) (ledger : Ledger) : Type 0 where
  pub plan : ledger.plan ≡ its
  pub options : ledger.options ≡ flags
  pub logging : ledger.logging ≡ sizes

-- what a heap keeps of a run: it is legal, tidy and placed, its chunks have numbers of 32 bits, and the shelves are
-- those of the history
pub record IsHeap (ledger : Ledger) (shelves : List Shelf) : Type 0 where
  pub legal : IsLedger ledger
  pub placed : IsPlaced (run_setting ledger) ledger.entries
  pub few : next_chunk (run_setting ledger) (run_state ledger) ≤ 2 ^ 32
  pub are : AreShelvesOf ledger shelves
