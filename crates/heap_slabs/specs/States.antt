-- How contracts speak of a table of slabs by the states that it may be of.
use Rattle.script.specs.Rules.{IsHeader}
use Rattle.plain_heap.specs.Setting.{Setting}
use Rattle.plain_heap.specs.State.{State}
use Rattle.heap_slabs.specs.HeapSlabs.{IsTableOf, HeapSlabs}

-- a fact holds of each state that the table is of, whatever the setting
abbrev pub ForEachTabled : (Setting → State → Type 0) → HeapSlabs → Type 0
ForEachTabled Fact table =
    (setting : Setting) (state : State) → IsHeader setting.header → IsTableOf setting state table → Fact setting state

-- the table of a state that meets a condition is then that of what a step makes of it
abbrev pub TableBecomes : (Setting → State → Type 0) → (Setting → State → State) → HeapSlabs → HeapSlabs → Type 0
TableBecomes Fits step old new =
    ForEachTabled (λ setting state. Fits setting state → IsTableOf setting (step setting state) new) old
