-- What `::umausers` prints: for each group a line, and then one for each frame of its stack.
use Rattle.std.specs.Prelude.{◌≡◌, ℕ, Bool, List, [], ◌∷◌, ◌++◌, codes, decimal}
use Rattle.std.specs.List.{flat_map}
use Rattle.umem_base.specs.Numbers.{hexadecimal}
use Rattle.core_format.specs.declared.whole.Core.{Core}
use Rattle.umausers.specs.declared.group.Group.{Group}
use Rattle.umausers.specs.Groups.{AreGroups}

-- a number and words behind it
abbrev pub number_and : ℕ → List ℕ → List ℕ
number_and number words = decimal number ++ words

-- the line of a group
abbrev pub group_line : Group → List ℕ
group_line group =
    number_and group.total (codes " bytes for ") ++ number_and group.count (codes " allocations with data size ")
    ++ number_and group.size (codes ":" ++ 10 ∷ [])

-- the line of a frame
abbrev pub frame_line : ℕ → List ℕ
frame_line frame = codes "    " ++ hexadecimal frame ++ 10 ∷ []

-- the lines of a group
abbrev pub group_lines : Group → List ℕ
group_lines group = group_line group ++ flat_map frame_line group.stack

-- the text tells the groups of the core, in their order
pub record TellsUsers (core : Core) (every : Bool) (text : List ℕ) : Type 0 where
  pub groups : List Group
  pub are : AreGroups core every groups
  pub told : text ≡ flat_map group_lines groups
