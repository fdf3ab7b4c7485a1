-- What is fixed for a history: the header of its script, and whether guards are on. From it follow the caches, the
-- quantities of their slabs, and where the words of slots stand.
use Rattle.std.specs.Prelude.{ℕ, ◌+◌, ◌-◌, ◌*◌, ◌<◌, Bool, ◌&&◌, ◌||◌, ◌==◌, List, length, slice_index_or, nat_lt, if◌then◌else◌}
use Rattle.umem_base.specs.declared.pages.TheConstants.{PAGE_BYTES}
use Rattle.umem_base.specs.declared.roots.TheConstants.{OWN_ROOTS, SHARED_ROOT}
use Rattle.umem_base.specs.Roots.{own_root}
use Rattle.case_table.specs.declared.cache_def.CacheDef.{CacheDef}
use Rattle.case_table.specs.declared.limits.TheConstants.{CLASS_COUNT}
use Rattle.case_table.specs.declared.slab_quantities.Geometry.{Geometry}
use Rattle.case_table.specs.Addresses.{bufctl_address}
use Rattle.case_table.specs.CacheDef.{class_def}
use Rattle.case_table.specs.Geometry.{geometry_of}
use Rattle.buftag.specs.declared.shape.Shape.{Shape}
use Rattle.buftag.specs.Shape.{shape_of_cache, shape_of_class}
use Rattle.script.specs.declared.limits.TheConstants.{FIRST_OWN_SLOT}
use Rattle.script.specs.declared.tree.Header.{Header}
use Rattle.plain_heap.specs.Bytes.{is_within}

-- what is fixed for a history
pub record Setting : Type 0 where
  pub header : Header
  pub guards : Bool

-- ---- caches

-- the number is that of a size class or of one of the declared caches
abbrev pub IsCache : List CacheDef → ℕ → Type 0
IsCache caches cache = cache < CLASS_COUNT + length caches

-- the cache of a number: the size classes, and behind them the declared caches in the order of their lines
abbrev pub def_of : List CacheDef → ℕ → CacheDef
def_of caches cache =
    if nat_lt cache CLASS_COUNT then class_def cache
    else slice_index_or caches (cache - CLASS_COUNT) (class_def 0)

-- the cache of a number in a setting
abbrev pub cache_def_in : Setting → ℕ → CacheDef
cache_def_in setting cache = def_of setting.header.caches cache

-- the quantities of a cache's slabs
abbrev pub geometry_in : Setting → ℕ → Geometry
geometry_in setting cache =
    let def = cache_def_in setting cache in geometry_of def.size def.align setting.guards

-- the bytes of a cache's slab
abbrev pub slab_bytes : Setting → ℕ → ℕ
slab_bytes setting cache = PAGE_BYTES * (geometry_in setting cache).pages

-- what the tag of a chunk of a cache depends on, by the chunk's number
abbrev pub shape_in : Setting → ℕ → ℕ → Shape
shape_in setting cache number =
    if nat_lt cache CLASS_COUNT then shape_of_class cache (bufctl_address number)
    else shape_of_cache (cache_def_in setting cache).size (bufctl_address number)

-- ---- root pages

-- where the word of a slot stands for a thread: the slots up to 511 are shared, those above are the thread's own
abbrev pub slot_address : ℕ → ℕ → ℕ
slot_address thread slot =
    if nat_lt slot FIRST_OWN_SLOT then SHARED_ROOT + 8 * slot else own_root thread + 8 * (slot - FIRST_OWN_SLOT)

-- an address is in the shared root page, or in version 2 in the own root page of a thread
abbrev pub is_in_root : Header → ℕ → Bool
is_in_root header address =
    is_within SHARED_ROOT PAGE_BYTES address
    || (header.version == 2 && is_within OWN_ROOTS (PAGE_BYTES * header.threads) address)
