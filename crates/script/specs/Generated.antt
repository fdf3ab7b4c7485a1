-- Scripts that are drawn from a seed.
use Rattle.std.specs.Prelude.{ℕ, zero, suc, ◌+◌, ◌*◌, ◌/◌, ◌%◌, ◌^◌, ◌==◌, if◌then◌else◌, List, [], ◌∷◌, slice_index, slice_set}
use Rattle.script.specs.declared.make.TheConstants.{INCREMENT, MADE_SIZES, MADE_SLOTS, MULTIPLIER}
use Rattle.script.specs.declared.operation.Op.{Op}
use Rattle.script.specs.declared.operation.Op.TheVariants.{Alloc, Free}
use Rattle.script.specs.declared.tree.Header.{Header}
use Rattle.script.specs.Plan.{Turn, Plan}

-- the state behind a state
abbrev pub next_state : ℕ → ℕ
next_state state = (state * MULTIPLIER + INCREMENT) % 2 ^ 64

-- the draw that a state gives
abbrev pub draw_of : ℕ → ℕ
draw_of state = state / 2 ^ 33

-- so many draws behind a state
abbrev pub draws : ℕ → ℕ → List ℕ
draws state zero = []
draws state (suc count) = draw_of (next_state state) ∷ draws (next_state state) count

-- the slot of a draw
abbrev pub drawn_slot : ℕ → ℕ
drawn_slot draw = 1 + draw % MADE_SLOTS

-- the size of a draw
abbrev pub drawn_size : ℕ → ℕ
drawn_size draw = 1 + draw / MADE_SLOTS % MADE_SIZES

-- the size that stands in the slot of a draw behind its call, 0 for none, if this one stood there before
abbrev pub size_behind : ℕ → ℕ → ℕ
size_behind held draw = if held == 0 then drawn_size draw else 0

-- the size of the buffer in a slot behind draws, the newest first: 0 where the slot is empty
abbrev pub size_held : List ℕ → ℕ → ℕ
size_held [] slot = 0
size_held (draw ∷ before) slot =
    if drawn_slot draw == slot then size_behind (size_held before slot) draw else size_held before slot

-- the sizes of the slots from the first on, with that of a draw's slot as the draw leaves it
abbrev pub sizes_behind : List ℕ → ℕ → List ℕ
sizes_behind sizes draw =
    slice_set sizes (draw % MADE_SLOTS) (size_behind (slice_index sizes (draw % MADE_SLOTS)) draw)

-- a draw allocates where its slot is empty, and else frees what stands there
abbrev pub drawn_op : ℕ → ℕ → Op
drawn_op held draw = if held == 0 then Alloc (drawn_slot draw) (drawn_size draw) else Free (drawn_slot draw) held

-- a call of the one thread, without a stack
abbrev pub made_turn : Op → Turn
made_turn op = record { thread = 0; call = record { op = op; frames = [] } }

-- the calls of draws behind others, of which the newest stands first
abbrev pub drawn_turns : List ℕ → List ℕ → List Turn
drawn_turns before [] = []
drawn_turns before (draw ∷ later) =
    made_turn (drawn_op (size_held before (drawn_slot draw)) draw) ∷ drawn_turns (draw ∷ before) later

-- one CPU, one thread, no declared cache
abbrev pub made_header : Header
made_header = record { version = 1; cpus = 1; threads = 1; caches = [] }

-- the plan of so many draws from a seed
abbrev pub made_plan : ℕ → ℕ → Plan
made_plan seed ops = record { header = made_header; phases = drawn_turns [] (draws seed ops) ∷ [] }
