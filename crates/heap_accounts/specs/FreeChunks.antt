-- What the places of a history have to do with what it left: the rounds that a stock holds are those of the free chunks
-- of its cache.
use Rattle.std.specs.Prelude.{◌≡◌, ℕ, ◌+◌, ◌<◌, ◌↔◌, ◌==◌, List, [], None, Contains, filter, length, map, reverse}
use Rattle.slab_layer.specs.Slab.{Slab}
use Rattle.shelf.specs.Stock.{IsStock, Stock, held_rounds, standing}
use Rattle.plain_heap.specs.Setting.{Setting, geometry_in}
use Rattle.plain_heap.specs.State.{HeapSlab, State, chunk_start, held_at}
use Rattle.heap_accounts.specs.Places.{Places, cache_count, stock_at}

-- the round of that number is one of a slab of the cache that stands, and its chunk does not live
pub record IsFreeRound (setting : Setting) (state : State) (cache chunk : ℕ) : Type 0 where
  pub slab : HeapSlab
  pub stands : Contains state.slabs slab
  pub its : slab.cache ≡ cache
  pub index : ℕ
  pub within : index < (geometry_in setting slab.cache).rounds
  pub number : chunk ≡ slab.first + index
  pub free : held_at state.live (chunk_start setting slab index) ≡ None

-- a slab of a history as one of a stock, with no round in its list
abbrev pub bare_of : Setting → HeapSlab → Slab
bare_of setting slab =
    record { base = slab.base; first = slab.first; count = (geometry_in setting slab.cache).rounds; list = [] }

-- the slabs of a cache that stand, the oldest first
abbrev pub slabs_of_cache : Setting → ℕ → List HeapSlab → List Slab
slabs_of_cache setting cache slabs = map (bare_of setting) (reverse (filter (λ slab. slab.cache == cache) slabs))

-- The stock is one of the cache in that state: it has magazines of the cache's size for each CPU and is sound, its
-- slabs are those that stand, and a round stands in it exactly where its chunk is free.
pub record IsStockOf (setting : Setting) (state : State) (cache : ℕ) (stock : Stock) : Type 0 where
  pub size : stock.size ≡ (geometry_in setting cache).magazine
  pub cpus : length stock.cpus ≡ setting.header.cpus
  pub sound : IsStock stock
  pub slabs : standing stock.slabs ≡ slabs_of_cache setting cache state.slabs
  pub held : (chunk : ℕ) → Contains (held_rounds stock) chunk ↔ IsFreeRound setting state cache chunk

-- each cache has such a stock
pub record ArePlacesOf (setting : Setting) (state : State) (places : Places) : Type 0 where
  pub count : length places ≡ cache_count setting
  pub each : (cache : ℕ) → cache < cache_count setting → IsStockOf setting state cache (stock_at places cache)
