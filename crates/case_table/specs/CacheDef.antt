-- Caches as they are declared.
use Rattle.std.specs.Prelude.{ℕ, None}
use Rattle.case_table.specs.declared.cache_def.CacheDef.{CacheDef}
use Rattle.case_table.specs.declared.size_classes.TheConstants.{CLASS_ALIGN}
use Rattle.case_table.specs.CacheName.{class_name}
use Rattle.case_table.specs.Geometry.{IsCacheShape}
use Rattle.case_table.specs.Sizes.{size_of}

-- a cache that may be declared, its name aside
abbrev pub IsCacheDef : CacheDef → Type 0
IsCacheDef def = IsCacheShape def.size def.align

-- the cache of a size class
abbrev pub class_def : ℕ → CacheDef
class_def class = record { name = class_name class; size = size_of class; align = CLASS_ALIGN; ctor = None }
