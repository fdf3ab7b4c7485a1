-- What holds of the caches of a setting whose header keeps the rules.
use Rattle.std.proofs.Common.{◌≡◌, ℕ, ◌-◌, ◌<◌, ◌≤◌, List, get_or, refl, sym, subst, arith, inl, inr}
use Rattle.std.proofs.lemmas.Bool.{cases_lt, lt-ltb, le-ltb}
use Rattle.std.proofs.lemmas.List.Elements.{All-from_recursion}
use Rattle.case_table.specs.declared.cache_def.CacheDef.{CacheDef}
use Rattle.case_table.specs.CacheDef.{IsCacheDef, class_def}
use Rattle.case_table.specs.Geometry.{IsSlabGeometry, KeepsChunksApart}
use Rattle.case_table.proofs.GeometryLemmas.{chunks_stand, geometry_is_sound}
use Rattle.case_table.proofs.SizesLemmas.{size_of-small, size_of-some}
use Rattle.script.specs.Rules.{IsDeclarable, IsHeader}
use Rattle.plain_heap.specs.Setting.{IsCache, Setting, cache_def_in, def_of, geometry_in}

pub def_of-class : (caches : List CacheDef) (cache : ℕ) → cache < 32 → def_of caches cache ≡ class_def cache
def_of-class caches cache lt = rw (lt-ltb cache 32 lt) refl

pub def_of-declared : (caches : List CacheDef) (cache : ℕ) → 32 ≤ cache → def_of caches cache ≡ get_or caches (cache - 32) (class_def 0)
def_of-declared caches cache le = rw (le-ltb cache 32 le) refl

class_has_shape : (cache : ℕ) → cache < 32 → IsCacheDef (class_def cache)
class_has_shape cache lt = record { some = size_of-some cache lt; fits = size_of-small cache; aligned = refl }

declarable_has_shape : (version : ℕ) (def : CacheDef) → IsDeclarable version def → IsCacheDef def
declarable_has_shape version def h = record { some = omega (arith, h.size.0); fits = h.size.1; aligned = h.align }

-- each cache of the setting has a size and an alignment that a cache may have
pub cache_has_shape : (setting : Setting) (cache : ℕ) → IsHeader setting.header → IsCache setting.header.caches cache → IsCacheDef (cache_def_in setting cache)
cache_has_shape setting cache header is =
    let caches = setting.header.caches in
    elim (cases_lt cache 32) [
      | inl lt ↦ subst IsCacheDef (sym (def_of-class caches cache lt)) (class_has_shape cache lt)
      | inr le ↦
          let declared = All-from_recursion (IsDeclarable setting.header.version) caches header.caches (cache - 32) (class_def 0) (omega arith) in
          subst IsCacheDef (sym (def_of-declared caches cache le)) (declarable_has_shape setting.header.version (get_or caches (cache - 32) (class_def 0)) declared)
    ]

-- the quantities of its slabs are sound
pub geometry_in-sound : (setting : Setting) (cache : ℕ) → IsHeader setting.header → IsCache setting.header.caches cache
    → IsSlabGeometry (cache_def_in setting cache).size (cache_def_in setting cache).align setting.guards (geometry_in setting cache)
geometry_in-sound setting cache header is =
    let def = cache_def_in setting cache in
    geometry_is_sound def.size def.align setting.guards (cache_has_shape setting cache header is)

-- and its chunks stand in their slab, whatever its colour
pub chunks_stand_in : (setting : Setting) (cache made : ℕ) → IsHeader setting.header → IsCache setting.header.caches cache
    → KeepsChunksApart (cache_def_in setting cache).align made (geometry_in setting cache)
chunks_stand_in setting cache made header is =
    let def = cache_def_in setting cache in
    chunks_stand def.size def.align setting.guards made (cache_has_shape setting cache header is)
