-- The size classes.
use Rattle.std.specs.Prelude.{ℕ, zero, suc, ◌<◌, ◌≤◌, List, Option, None, nat_le, position, slice_index}
use Rattle.case_table.specs.declared.limits.TheConstants.{CLASS_COUNT}
use Rattle.case_table.specs.declared.size_classes.TheConstants.{SIZE_TABLE}

-- the sizes of the classes, by class number
unfoldable pub class_sizes : List ℕ
class_sizes = SIZE_TABLE

-- the size of a class, which is 0 where there is no such class
unfoldable pub size_of : ℕ → ℕ
size_of class = slice_index class_sizes class

-- the class that serves a size: the first one that holds it
unfoldable pub class_for : ℕ → Option ℕ
class_for zero = None
class_for (suc n) = position (nat_le (suc n)) class_sizes

-- the class holds the size, and no class before it does
pub record IsLeastClass (size class : ℕ) : Type 0 where
  pub some : 0 < size
  pub is_class : class < CLASS_COUNT
  pub holds : size ≤ size_of class
  pub least : (before : ℕ) → before < class → size_of before < size
