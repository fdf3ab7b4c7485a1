-- What holds of the cache of each number, also where no cache has it.
use Rattle.std.proofs.Common.{◌≡◌, ℕ, ◌+◌, ◌-◌, ◌<◌, ◌≤◌, false, List, length, get_or, sym, ◌∙◌, subst, arith, inl, inr}
use Rattle.std.proofs.lemmas.Bool.{cases_lt}
use Rattle.std.proofs.lemmas.List.{get_or_past}
use Rattle.case_table.specs.declared.cache_def.CacheDef.{CacheDef}
use Rattle.case_table.specs.CacheDef.{IsCacheDef, class_def}
use Rattle.case_table.specs.Geometry.{IsCacheShape, IsSlabGeometry}
use Rattle.case_table.proofs.GeometryLemmas.{geometry_is_sound}
use Rattle.script.specs.declared.tree.Header.{Header}
use Rattle.script.specs.Rules.{IsHeader}
use Rattle.plain_heap.specs.Setting.{Setting, cache_def_in, def_of, geometry_in}
use Rattle.plain_heap.proofs.SettingLemmas.{cache_has_shape, def_of-declared}

undeclared : (caches : List CacheDef) (cache : ℕ) → 32 + length caches ≤ cache → def_of caches cache ≡ class_def 0
undeclared caches cache le = def_of-declared caches cache (omega arith) ∙ get_or_past caches (cache - 32) (class_def 0) (omega arith)

-- its size and alignment are such as a cache may have
pub any_has_shape : (setting : Setting) (cache : ℕ) → IsHeader setting.header → IsCacheDef (cache_def_in setting cache)
any_has_shape setting cache header =
    elim (cases_lt cache (32 + length setting.header.caches)) [
      | inl lt ↦ cache_has_shape setting cache header lt
      | inr le ↦ subst IsCacheDef (sym (undeclared setting.header.caches cache le)) (cache_has_shape setting 0 header (omega arith))
    ]

-- the quantities of its slabs are sound
pub any_is_sound : (setting : Setting) (cache : ℕ) → IsHeader setting.header
    → IsSlabGeometry (cache_def_in setting cache).size (cache_def_in setting cache).align setting.guards (geometry_in setting cache)
any_is_sound setting cache header =
    let def = cache_def_in setting cache in
    geometry_is_sound def.size def.align setting.guards (any_has_shape setting cache header)

-- the size and alignment of a number among the caches of a header are such as a cache may have
pub shape_of_rule : (header : Header) (caches : List CacheDef) (cache size align : ℕ) → IsHeader header → caches ≡ header.caches
    → size ≡ (def_of caches cache).size → align ≡ (def_of caches cache).align → IsCacheShape size align
shape_of_rule header caches cache size align rules same size_is align_is =
    let has : IsCacheShape (def_of header.caches cache).size (def_of header.caches cache).align =
    any_has_shape (record { header = header; guards = false }) cache rules in
    rw (size_is, align_is, same) has
