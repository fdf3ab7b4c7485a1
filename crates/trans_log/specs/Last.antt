-- The last items of a list.
use Rattle.std.specs.Prelude.{ℕ, ◌-◌, List, [], ◌∷◌, ◌++◌, length, drop}

-- the last c items of a list, or all of it where it has fewer
abbrev pub last_of : {T : Type 0} → ℕ → List T → List T
last_of c xs = drop (length xs - c) xs

-- the last c of some items and one more behind them
abbrev pub with_new : {T : Type 0} → ℕ → List T → T → List T
with_new c kept x = last_of c (kept ++ x ∷ [])

-- what a log of capacity c has that had `kept`, once the items are entered one by one
abbrev pub entered : {T : Type 0} → ℕ → List T → List T → List T
entered c kept [] = kept
entered c kept (x ∷ xs) = entered c (with_new c kept x) xs
