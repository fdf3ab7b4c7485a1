-- Which shapes a chunk may have.
use Rattle.std.specs.Prelude.{◌≡◌, ℕ, ◌+◌, ◌<◌, ◌≤◌, List, None, Some, length, MatchOption, ⊤}
use Rattle.case_table.specs.declared.limits.TheConstants.{CLASS_COUNT, MOST_CACHE_BYTES}
use Rattle.case_table.specs.declared.slab_formulas.TheConstants.{TAG_BYTES}
use Rattle.case_table.specs.Geometry.{content_of}
use Rattle.case_table.specs.Sizes.{class_for, size_of}
use Rattle.buftag.specs.declared.shape.Shape.{Shape}

-- the size is that of a cache, the content is it in whole words, and a class has exactly that size
pub record IsShape (shape : Shape) : Type 0 where
  pub some : 0 < shape.size
  pub small : shape.size ≤ MOST_CACHE_BYTES
  pub words : shape.content ≡ content_of shape.size
  pub class : MatchOption shape.class ⊤ (λ class. (class < CLASS_COUNT) × (shape.size ≡ size_of class))

-- the shape of a chunk of a size class
abbrev pub shape_of_class : ℕ → ℕ → Shape
shape_of_class class bufctl =
    record { size = size_of class; content = size_of class; bufctl = bufctl; class = Some class }

-- the shape of a chunk of a declared cache
abbrev pub shape_of_cache : ℕ → ℕ → Shape
shape_of_cache size bufctl = record { size = size; content = content_of size; bufctl = bufctl; class = None }

-- the size may be requested of such a chunk: its class serves it, or it is the declared cache's own
abbrev pub IsRequest : Shape → ℕ → Type 0
IsRequest shape requested =
    MatchOption shape.class (requested ≡ shape.size) (λ class. class_for requested ≡ Some class)

-- so many bytes as a chunk has
abbrev pub IsChunk : List ℕ → Shape → Type 0
IsChunk bytes shape = length bytes ≡ shape.content + TAG_BYTES
