-- A text of options, cut at commas into items, and an item cut at its first `=`.
use Rattle.std.specs.Prelude.{ℕ, ◌+◌, ◌==◌, List, drop, take, position, Option, option_map}
use Rattle.std.specs.List.{slice_split}

-- the items, of which there is at least one, and any may be empty
abbrev pub items_of : List ℕ → List (List ℕ)
items_of text = slice_split (λ byte. byte == 44) text

-- the name and the value of an item NAME=VALUE
abbrev pub setting_of : List ℕ → Option (List ℕ × List ℕ)
setting_of item = option_map (λ at. (take at item, drop (at + 1) item)) (position (λ byte. byte == 61) item)
