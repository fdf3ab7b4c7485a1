-- How a buffer that an allocation was answered with is entered in the book of live buffers and in the table of slabs.
use Rattle.std.specs.Prelude.{◌≡◌, ◌<◌, Bool, Some, None, ⊤}
use Rattle.std.specs.FinMap.{insert}
use Rattle.plain_heap.specs.declared.held.Held.{Held}
use Rattle.plain_heap.specs.declared.reply.Reply.{Reply}
use Rattle.plain_heap.specs.declared.reply.Reply.TheVariants as reply
use Rattle.plain_heap.specs.Live.{HeldByAddress, Live, live_at}
use Rattle.plain_heap.specs.Setting.{Setting}
use Rattle.plain_heap.specs.State.{State, hand_out}
use Rattle.heap_slabs.specs.Chunks.{IsFreeAt}
use Rattle.heap_slabs.specs.States.{TableBecomes}
use Rattle.heap_slabs.specs.HeapSlabs.{HeapSlabs}

-- an answer may be entered: there is room, and nothing lives where a buffer was handed out
abbrev pub MayEnter : Live → Reply → Type 0
MayEnter live (reply.At address found) = (0 < live.spare) × (live_at live.buffers address ≡ None)
MayEnter live other = ⊤

-- what lives where, after an allocation was answered
abbrev pub entered_held : HeldByAddress → Held → Reply → HeldByAddress
entered_held buffers held (reply.At address found) = insert buffers address (Some held)
entered_held buffers held other = buffers

-- nothing lives where the answer handed out a buffer, if it did
abbrev pub IsFreeFor : Reply → Setting → State → Type 0
IsFreeFor (reply.At address found) setting state = IsFreeAt address setting state
IsFreeFor other setting state = ⊤

-- the buffer was handed out that an allocation was answered with, if it was
abbrev pub handed : Held → Bool → Reply → Setting → State → State
handed held zero (reply.At address found) setting state = hand_out setting state address held zero
handed held zero other setting state = state

-- the table of slabs has it
abbrev pub EntersTable : Reply → HeapSlabs → HeapSlabs → Type 0
EntersTable answer old new =
    (held : Held) (zero : Bool) → TableBecomes (IsFreeFor answer) (handed held zero answer) old new
