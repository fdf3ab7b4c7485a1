-- What the calls of the magazine rules do to a stock: where a round is found, and where one goes.
use Rattle.std.specs.Prelude.{◌≡◌, ℕ, List, [], ◌∷◌, ◌++◌, Option, Some, None, drop, filter, if◌then◌else◌, length, map, min, nat_lt, slice_index_or, slice_set}
use Rattle.std.specs.List.{range_with_len}
use Rattle.std.specs.Option.{option_map, option_map_or, option_or}
use Rattle.umem_base.specs.Ordered.{split_newest}
use Rattle.slab_layer.specs.Slab.{Slab, is_complete, slab_of}
use Rattle.slab_layer.specs.Slabs.{listed_rounds, with_round, without_complete, without_round}
use Rattle.depot.specs.declared.depot.TheConstants.{MAGAZINES}
use Rattle.shelf.specs.Stock.{CpuStock, Stock, empty_cpu, has_round}

-- a round that was taken from somewhere, and what is left there
pub record InHand (A : Type 0) : Type 0 where
  pub chunk : ℕ
  pub left : A

-- the round alone, if one was taken
abbrev pub chunk_in : {A : Type 0} → Option (InHand A) → Option ℕ
chunk_in taken = option_map (λ hand. hand.chunk) taken

-- what is left, which is all where none was taken
abbrev pub left_in : {A : Type 0} → A → Option (InHand A) → A
left_in all taken = option_map_or (λ hand. hand.left) taken all

-- the same round, taken from a whole that this is a part of
abbrev pub in_whole : {A B : Type 0} → (A → B) → Option (InHand A) → Option (InHand B)
in_whole whole taken = option_map (λ hand. record { chunk = hand.chunk; left = whole hand.left }) taken

-- the newest of some rounds
abbrev pub newest_of : List ℕ → Option (InHand (List ℕ))
newest_of rounds = option_map (λ split. record { chunk = split.1; left = split.0 }) (split_newest rounds)

-- the lowest of some numbers
abbrev pub lowest_of : List ℕ → Option ℕ
lowest_of [] = None
lowest_of (chunk ∷ chunks) = Some (option_map_or (λ other. min chunk other) (lowest_of chunks) chunk)

-- ---- what one CPU reaches

-- its two magazines, the depot and the slabs
pub record Reach : Type 0 where
  pub cpu : CpuStock
  pub depot : List (List ℕ)
  pub slabs : List Slab

-- the newest round of the loaded magazine
abbrev pub from_loaded : Reach → Option (InHand Reach)
from_loaded reach = in_whole
    (λ rounds. record reach { cpu = record { loaded = rounds; previous = reach.cpu.previous } })
    (newest_of reach.cpu.loaded)

-- the two magazines change places
abbrev pub exchanged : Reach → Reach
exchanged reach = record reach { cpu = record { loaded = reach.cpu.previous; previous = reach.cpu.loaded } }

-- a full magazine comes for the previous one, and leaves these in the depot: it is loaded, and the loaded one becomes
-- the previous one
abbrev pub with_full : Reach → List (List ℕ) × List ℕ → Reach
with_full reach split =
    record reach { cpu = record { loaded = split.1; previous = reach.cpu.loaded }; depot = split.0 }

-- the newest full magazine of the depot comes, if there is one
abbrev pub traded_full : Reach → Reach
traded_full reach = option_map_or (with_full reach) (split_newest reach.depot) reach

-- the lowest round of all lists of the slabs
abbrev pub from_slabs : Reach → Option (InHand Reach)
from_slabs reach = option_map
    (λ chunk. record { chunk = chunk; left = record reach { slabs = without_round reach.slabs chunk } })
    (lowest_of (listed_rounds reach.slabs))

-- where the CPU has none: from a full magazine of the depot, else from the slabs
abbrev pub from_behind : Reach → Option (InHand Reach)
from_behind reach = option_or (from_loaded (traded_full reach)) (from_slabs reach)

-- an allocation: from the loaded magazine, else from the previous one, exchanged, else from behind the CPU
abbrev pub taken_in : Reach → Option (InHand Reach)
taken_in reach = option_or (from_loaded reach) (option_or (from_loaded (exchanged reach)) (from_behind reach))

-- nothing is within reach
pub record IsBare (reach : Reach) : Type 0 where
  pub loaded : reach.cpu.loaded ≡ []
  pub previous : reach.cpu.previous ≡ []
  pub depot : reach.depot ≡ []
  pub listed : listed_rounds reach.slabs ≡ []

-- a round more in the loaded magazine
abbrev pub pushed : Reach → ℕ → Reach
pushed reach chunk =
    record reach { cpu = record { loaded = reach.cpu.loaded ++ chunk ∷ []; previous = reach.cpu.previous } }

-- an empty magazine of the depot comes for the previous one, which is full: it is loaded, and the loaded one becomes
-- the previous one
abbrev pub traded_empty : Reach → Reach
traded_empty reach = record reach {
  cpu = record { loaded = []; previous = reach.cpu.loaded };
  depot = reach.depot ++ reach.cpu.previous ∷ [];
}

-- where the CPU has no room: into an empty magazine of the depot, else into the list of its slab
abbrev pub put_behind : Reach → ℕ → Reach
put_behind reach chunk =
    if nat_lt (length reach.depot) MAGAZINES then pushed (traded_empty reach) chunk
    else record reach { slabs = with_round reach.slabs chunk }

-- a free, with magazines of that size: into the loaded magazine, else into the previous one, exchanged, else behind the
-- CPU
abbrev pub put_in : ℕ → Reach → ℕ → Reach
put_in size reach chunk =
    if nat_lt (length reach.cpu.loaded) size then pushed reach chunk
    else if nat_lt (length reach.cpu.previous) size then pushed (exchanged reach) chunk
    else put_behind reach chunk

-- ---- the calls

-- what the CPU of that number reaches
abbrev pub reach_of : Stock → ℕ → Reach
reach_of stock cpu =
    record { cpu = slice_index_or stock.cpus cpu empty_cpu; depot = stock.depot; slabs = stock.slabs }

-- the stock with that in place of what the CPU reaches
abbrev pub with_reach : Stock → ℕ → Reach → Stock
with_reach stock cpu reach =
    record stock { cpus = slice_set stock.cpus cpu reach.cpu; depot = reach.depot; slabs = reach.slabs }

-- the round that an allocation of the CPU takes
abbrev pub taken_from : Stock → ℕ → Option (InHand Stock)
taken_from stock cpu = in_whole (with_reach stock cpu) (taken_in (reach_of stock cpu))

-- the newest round of a CPU's loaded magazine, else of its previous one, which stay in their places
abbrev pub from_cpu : CpuStock → Option (InHand CpuStock)
from_cpu cpu = option_or
    (in_whole (λ rounds. record { loaded = rounds; previous = cpu.previous }) (newest_of cpu.loaded))
    (in_whole (λ rounds. record { loaded = cpu.loaded; previous = rounds }) (newest_of cpu.previous))

-- that of the first CPU that has one
abbrev pub from_cpus : List CpuStock → Option (InHand (List CpuStock))
from_cpus [] = None
from_cpus (cpu ∷ cpus) = option_or
    (in_whole (λ left. left ∷ cpus) (from_cpu cpu))
    (in_whole (λ left. cpu ∷ left) (from_cpus cpus))

-- the round that an allocation of the CPU takes where all CPUs are looked at: from the one with the lowest number that
-- has one, else from behind this one
abbrev pub taken_any : Stock → ℕ → Option (InHand Stock)
taken_any stock cpu = option_or
    (in_whole (λ cpus. record stock { cpus = cpus }) (from_cpus stock.cpus))
    (in_whole (with_reach stock cpu) (from_behind (reach_of stock cpu)))

-- the stock after a free of the CPU
abbrev pub put_on : Stock → ℕ → ℕ → Stock
put_on stock cpu chunk = with_reach stock cpu (put_in stock.size (reach_of stock cpu) chunk)

-- a slab with these rounds, the first of which is in hand
abbrev pub opened_slab : ℕ → List ℕ → Slab
opened_slab base rounds = record (slab_of base rounds) { list = drop 1 rounds }

-- the stock after such a slab has come, behind the others
abbrev pub with_slab_of : Stock → ℕ → List ℕ → Stock
with_slab_of stock base rounds = record stock { slabs = stock.slabs ++ opened_slab base rounds ∷ [] }

-- a slab with all of its chunks in its list whose rounds stand anywhere
abbrev pub gathered : Stock → Slab → Slab
gathered stock slab = record slab { list = filter (has_round stock) (range_with_len slab.first slab.count) }

-- the stock after every magazine was emptied: each round stands in the list of its slab
abbrev pub drained : Stock → Stock
drained stock = record {
  size = stock.size;
  cpus = map (λ _. empty_cpu) stock.cpus;
  depot = [];
  slabs = map (gathered stock) stock.slabs;
}

-- the slabs that have all of their rounds in their lists
abbrev pub complete_slabs : Stock → List Slab
complete_slabs stock = filter is_complete stock.slabs

-- the stock without the slabs that have all of their rounds in their lists
abbrev pub without_complete_slabs : Stock → Stock
without_complete_slabs stock = record stock { slabs = without_complete stock.slabs }
