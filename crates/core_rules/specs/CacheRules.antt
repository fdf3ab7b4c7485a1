-- The rules of caches: the size classes, and behind them the declared ones.
use Rattle.std.specs.Prelude.{◌≡◌, ◌≢◌, ℕ, ◌^◌, ◌<◌, ◌≤◌, All, AllPairs, IsTrue, false, drop, slice_index_or, Option, Some, None}
use Rattle.case_table.specs.CacheName.{class_name, is_cache_name, is_reserved_name}
use Rattle.case_table.specs.Geometry.{IsAlign}
use Rattle.case_table.specs.Sizes.{size_of}
use Rattle.case_table.specs.declared.limits.TheConstants.{CLASS_COUNT, MOST_CACHE_BYTES}
use Rattle.case_table.specs.declared.size_classes.TheConstants.{CLASS_ALIGN}
use Rattle.core_format.specs.declared.items.CacheItem.{CacheItem}
use Rattle.core_format.specs.declared.whole.Core.{Core}

-- a constructor is a byte, if there is one
abbrev pub IsByteIfAny : Option ℕ → Type 0
IsByteIfAny None = Unit {0}
IsByteIfAny (Some byte) = byte < 256

-- a cache is the size class of that number
pub record IsClass (class : ℕ) (item : CacheItem) : Type 0 where
  pub name : item.def.name ≡ class_name class
  pub size : item.def.size ≡ size_of class
  pub align : item.def.align ≡ CLASS_ALIGN
  pub ctor : item.def.ctor ≡ None

-- a cache may be declared: its name is formed and not reserved, its size and alignment are those that a cache may have
pub record IsDeclared (item : CacheItem) : Type 0 where
  pub named : IsTrue (is_cache_name item.def.name)
  pub free : is_reserved_name item.def.name ≡ false
  pub some : 1 ≤ item.def.size
  pub fits : item.def.size ≤ MOST_CACHE_BYTES
  pub aligned : IsAlign item.def.align
  pub ctor : IsByteIfAny item.def.ctor

-- two caches have not one name
abbrev pub AreNamedApart : CacheItem → CacheItem → Type 0
AreNamedApart item other = item.def.name ≢ other.def.name

-- the first caches are the size classes; of the others no two have one name, and none has a class's, which is reserved
pub record KeepsCacheRules (core : Core) : Type 0 where
  pub classes : (class : ℕ) (d : CacheItem) → class < CLASS_COUNT → IsClass class (slice_index_or core.caches class d)
  pub declared : All IsDeclared (drop CLASS_COUNT core.caches)
  pub apart : AllPairs AreNamedApart (drop CLASS_COUNT core.caches)
  pub grows : All (λ item. item.grows < 2 ^ 32) core.caches
