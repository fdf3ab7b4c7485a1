-- The magazines of the CPUs and the depots.
use Rattle.std.specs.Prelude.{ℕ, ◌/◌, ◌%◌, Bool, not, ◌&&◌, ◌==◌, List, [], ◌∷◌, ◌++◌, length, Result, Ok, nat_le, slice_index}
use Rattle.std.specs.List.{flat_map, list_any}
use Rattle.core_format.specs.declared.cache_shape.CacheShape.{CacheShape}
use Rattle.core_format.specs.declared.items.CpuPlace.{CpuPlace}
use Rattle.core_format.specs.declared.items.DepotItem.{DepotItem}
use Rattle.core_format.specs.declared.items.SlabItem.{SlabItem}
use Rattle.core_format.specs.declared.fault.Fault.TheVariants.{BadLength, BadRound, RoundTwice}
use Rattle.core_format.specs.declared.limits.TheConstants.{MOST_FULL}
use Rattle.core_format.specs.Reader.{Flaw, Reader, ◌>>=◌, record_at, rule}
use Rattle.core_format.specs.Items.{has_number, items_at}
use Rattle.core_format.specs.Slabs.{holds_chunk, shape_at}

-- the chunk is one of a slab of that cache
abbrev pub is_chunk_of : List CacheShape → List SlabItem → ℕ → ℕ → Bool
is_chunk_of shapes slabs cache chunk = list_any (λ slab. slab.cache == cache && holds_chunk shapes chunk slab) slabs

-- the chunk stands in the list of a slab
abbrev pub is_listed : List SlabItem → ℕ → Bool
is_listed slabs chunk = list_any (λ slab. has_number slab.free chunk) slabs

-- a chunk of a magazine of that cache, where those that were seen stand in magazines before it
unfoldable pub one_round_at : List CacheShape → List SlabItem → ℕ → List ℕ → Reader → Result (ℕ × Reader) Flaw
one_round_at shapes slabs cache seen here = do
  fields ← record_at (4 ∷ []) here
  let chunk = slice_index fields.0 0
  _ ← rule (is_chunk_of shapes slabs cache chunk) here.at BadRound
  _ ← rule (not (is_listed slabs chunk) && not (has_number seen chunk)) here.at RoundTwice
  Ok (chunk, fields.1)

-- the same, where these of its magazine stand before it besides
abbrev pub round_at : List CacheShape → List SlabItem → ℕ → List ℕ → List ℕ → Reader → Result (ℕ × Reader) Flaw
round_at shapes slabs cache seen before here = one_round_at shapes slabs cache (seen ++ before) here

-- so many chunks of a magazine
abbrev pub rounds_at : List CacheShape → List SlabItem → ℕ → List ℕ → ℕ → Reader → Result (List ℕ × Reader) Flaw
rounds_at shapes slabs cache seen count here = items_at (round_at shapes slabs cache seen) count [] here

-- a number of items, which has a bound
unfoldable pub count_at : ℕ → Reader → Result (ℕ × Reader) Flaw
count_at most here = do
  fields ← record_at (4 ∷ []) here
  _ ← rule (nat_le (slice_index fields.0 0) most) here.at BadLength
  Ok (slice_index fields.0 0, fields.1)

-- a magazine: how many chunks it holds, and their numbers
unfoldable pub magazine_at : List CacheShape → List SlabItem → ℕ → List ℕ → Reader → Result (List ℕ × Reader) Flaw
magazine_at shapes slabs cache seen here = do
  count ← count_at (shape_at shapes cache).magazine here
  rounds_at shapes slabs cache seen count.0 count.1

-- the chunks of some CPU's magazines
abbrev pub place_rounds : CpuPlace → List ℕ
place_rounds place = place.loaded ++ place.previous

-- the two magazines of a CPU for a cache
unfoldable pub one_place_at : List CacheShape → List SlabItem → ℕ → ℕ → List ℕ → Reader
    → Result (CpuPlace × Reader) Flaw
one_place_at shapes slabs cpu cache seen here = do
  loaded ← magazine_at shapes slabs cache seen here
  previous ← magazine_at shapes slabs cache (seen ++ loaded.0) loaded.1
  Ok (record { cpu = cpu; cache = cache; loaded = loaded.0; previous = previous.0 }, previous.1)

-- those of the next CPU and cache, of so many caches: those of a CPU stand together, by cache
abbrev pub cpu_place_at : ℕ → List CacheShape → List SlabItem → List CpuPlace → Reader → Result (CpuPlace × Reader) Flaw
cpu_place_at caches shapes slabs before here =
    one_place_at shapes slabs (length before / caches) (length before % caches) (flat_map place_rounds before) here

-- the chunks of some magazines
abbrev pub all_rounds : List (List ℕ) → List ℕ
all_rounds magazines = flat_map (λ rounds. rounds) magazines

-- the next full magazine of a depot
abbrev pub full_at : List CacheShape → List SlabItem → ℕ → List ℕ → List (List ℕ) → Reader
    → Result (List ℕ × Reader) Flaw
full_at shapes slabs cache seen before here =
    rounds_at shapes slabs cache (seen ++ all_rounds before) (shape_at shapes cache).magazine here

-- the chunks of a depot
abbrev pub depot_rounds_of : DepotItem → List ℕ
depot_rounds_of depot = all_rounds depot.full

-- the depot of a cache
unfoldable pub one_depot_at : List CacheShape → List SlabItem → ℕ → List ℕ → Reader → Result (DepotItem × Reader) Flaw
one_depot_at shapes slabs cache seen here = do
  count ← count_at MOST_FULL here
  full ← items_at (full_at shapes slabs cache seen) count.0 [] count.1
  Ok (record { full = full.0 }, full.1)

-- that of the next cache, where those that were seen stand in the CPUs' magazines
abbrev pub depot_item_at : List CacheShape → List SlabItem → List ℕ → List DepotItem → Reader
    → Result (DepotItem × Reader) Flaw
depot_item_at shapes slabs seen before here =
    one_depot_at shapes slabs (length before) (seen ++ flat_map depot_rounds_of before) here
