-- What is fixed for the histories that are measured.
use Rattle.std.specs.Prelude.{Bool}
use Rattle.script.specs.declared.tree.Header.{Header}
use Rattle.plain_heap.specs.Setting.{Setting}

-- what a header and the choice of guards fix
abbrev pub setting_from : Header → Bool → Setting
setting_from header guards = record { header = header; guards = guards }
