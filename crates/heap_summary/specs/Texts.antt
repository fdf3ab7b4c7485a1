-- The printed line of a summary.
use Rattle.std.specs.Prelude.{ℕ, List, ◌++◌, codes, decimal}
use Rattle.heap_summary.specs.declared.summary.Summary.{Summary}

-- a number behind its name
abbrev pub named_number : List ℕ → ℕ → List ℕ
named_number name number = name ++ decimal number

-- the line, with its end
abbrev pub summary_text : Summary → List ℕ
summary_text summary =
    named_number (codes "# summary allocs ") summary.allocs
    ++ (named_number (codes " frees ") summary.frees
    ++ (named_number (codes " live ") summary.live
    ++ (named_number (codes " bytes ") summary.bytes
    ++ (named_number (codes " grows ") summary.grows ++ codes "\n"))))
