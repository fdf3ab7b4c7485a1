-- The pieces of a core that are the same whatever a heap did: its caches, and magazines and depots that are empty.
use Rattle.std.specs.Prelude.{ℕ, ◌+◌, ◌-◌, ◌*◌, ◌/◌, ◌%◌, List, [], length, map, nat_lt, slice_index, slice_index_or, if◌then◌else◌}
use Rattle.std.specs.List.{range_with_len}
use Rattle.case_table.specs.CacheDef.{class_def}
use Rattle.case_table.specs.declared.cache_def.CacheDef.{CacheDef}
use Rattle.case_table.specs.declared.limits.TheConstants.{CLASS_COUNT}
use Rattle.core_format.specs.declared.items.CacheItem.{CacheItem}
use Rattle.core_format.specs.declared.items.CpuPlace.{CpuPlace}
use Rattle.core_format.specs.declared.items.DepotItem.{DepotItem}

-- how many caches there are: the size classes, and the declared ones
abbrev pub count_of_caches : List CacheDef → ℕ
count_of_caches declared = CLASS_COUNT + length declared

-- the cache of a number: the size classes, and behind them the declared ones
abbrev pub numbered_def : List CacheDef → ℕ → CacheDef
numbered_def declared cache =
    if nat_lt cache CLASS_COUNT then class_def cache
    else slice_index_or declared (cache - CLASS_COUNT) (class_def 0)

-- the cache of a number, which made so many slabs
abbrev pub cache_item : List CacheDef → List ℕ → ℕ → CacheItem
cache_item declared grows cache = record { def = numbered_def declared cache; grows = slice_index grows cache }

-- all caches
abbrev pub cache_items_of : List CacheDef → List ℕ → List CacheItem
cache_items_of declared grows = map (cache_item declared grows) (range_with_len 0 (count_of_caches declared))

-- two empty magazines of a CPU for a cache, of so many caches, by their index
abbrev pub empty_place : ℕ → ℕ → CpuPlace
empty_place caches index = record { cpu = index / caches; cache = index % caches; loaded = []; previous = [] }

-- those of all CPUs for all caches
abbrev pub empty_places_of : ℕ → ℕ → List CpuPlace
empty_places_of cpus caches = map (empty_place caches) (range_with_len 0 (cpus * caches))

-- a depot with no full magazine
abbrev pub empty_depot : ℕ → DepotItem
empty_depot cache = record { full = [] }

-- one for each cache
abbrev pub empty_depots_of : ℕ → List DepotItem
empty_depots_of caches = map empty_depot (range_with_len 0 caches)
