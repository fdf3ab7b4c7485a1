use Rattle.std.proofs.Common.{◌≡◌, ◌∷◌, ◌++◌, take}
use Rattle.std.specs.List.{flat_map}
use Rattle.dcmd.specs.Columns.{column_text}
use Rattle.dcmd.specs.declared.column.Column.{Column}
use Rattle.dcmd.proofs.lines.put_behind.Given as goal

abbrev pub invariant-loop-column : goal.invariant-loop-column
invariant-loop-column l = l.out ≡ l.initial.out ++ flat_map (λ (column : Column). 32 ∷ column_text column) (take l.column-index l.columns)
