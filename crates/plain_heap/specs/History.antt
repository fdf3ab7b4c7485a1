-- Which lists of entries a history may have.
use Rattle.std.specs.Prelude.{◌≡◌, ℕ, ◌+◌, List, [], ◌∷◌, ⊤}
use Rattle.plain_heap.specs.declared.entry.Entry.{Entry}

-- the entries are numbered one after another from a number on
abbrev pub IsNumbered : ℕ → List Entry → Type 0
IsNumbered first [] = ⊤
IsNumbered first (entry ∷ entries) = (entry.number ≡ first) × IsNumbered (first + 1) entries
