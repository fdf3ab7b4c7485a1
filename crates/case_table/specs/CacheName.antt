-- The names of caches: those that a declared cache may have, and those of the size classes.
use Rattle.std.specs.Prelude.{ℕ, Bool, false, ◌&&◌, ◌||◌, ◌==◌, List, [], ◌∷◌, ◌++◌, length, decimal, nat_eq, nat_le}
use Rattle.std.specs.Char.{is_ascii_digit, is_ascii_lowercase}
use Rattle.std.specs.Cmp.Lexicographic.{pointwise}
use Rattle.std.specs.List.{list_all, starts_with}
use Rattle.case_table.specs.declared.cache_name.TheConstants.{CLASS_PREFIX, MOST_NAME_BYTES, OVERSIZE_NAME}
use Rattle.case_table.specs.Sizes.{size_of}

-- a lower-case letter, a digit or an underscore
abbrev pub is_name_byte : ℕ → Bool
is_name_byte byte = is_ascii_lowercase byte || is_ascii_digit byte || byte == 95

-- the first byte is a lower-case letter
abbrev pub begins_with_letter : List ℕ → Bool
begins_with_letter [] = false
begins_with_letter (first ∷ _) = is_ascii_lowercase first

-- the name is not too long, begins with a letter and has name bytes alone
abbrev pub is_cache_name : List ℕ → Bool
is_cache_name name = nat_le (length name) MOST_NAME_BYTES && begins_with_letter name && list_all is_name_byte name

-- the name is kept for the size classes or for large buffers
abbrev pub is_reserved_name : List ℕ → Bool
is_reserved_name name = starts_with nat_eq name CLASS_PREFIX.now || pointwise nat_eq name OVERSIZE_NAME.now

-- the name of a size class
abbrev pub class_name : ℕ → List ℕ
class_name class = CLASS_PREFIX.now ++ decimal (size_of class)
