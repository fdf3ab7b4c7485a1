-- What both accounts tell once a buffer was entered.
use Rattle.std.proofs.Common.{ℕ, Bool, refl}
use Rattle.plain_heap.specs.declared.held.Held.{Held}
use Rattle.plain_heap.specs.declared.reply.Reply.{Reply}
use Rattle.plain_heap.specs.declared.reply.Reply.TheVariants as reply
use Rattle.plain_heap.specs.Live.{HeldByAddress, TellsLive}
use Rattle.plain_heap.specs.Setting.{Setting}
use Rattle.plain_heap.specs.State.{State, after_alloc, hand_out, with_slot}
use Rattle.plain_heap.proofs.LiveLemmas.{tells_handed}
use Rattle.heap_slabs.specs.Laws.{TablesLookAtSlabs}
use Rattle.heap_slabs.specs.HeapSlabs.{IsTableOf, HeapSlabs}
use Rattle.heap_accounts.specs.Entering.{entered_held, handed}

-- words of slots are not the accounts' matter
pub slot_tells : (state : State) (buffers : HeldByAddress) (thread slot word : ℕ) → TellsLive buffers state → TellsLive buffers (with_slot state thread slot word)
slot_tells state buffers thread slot word tells = record { live = tells.live; given = tells.given }

pub slot_table : (setting : Setting) (state : State) (slabs : HeapSlabs) (thread slot word : ℕ) → TablesLookAtSlabs → IsTableOf setting state slabs → IsTableOf setting (with_slot state thread slot word) slabs
slot_table setting state slabs thread slot word look is = look setting state (with_slot state thread slot word) slabs is (λ at. refl) refl refl

module _ (setting : Setting) (state : State) (thread slot : ℕ) (held : Held) (zeroed : Bool) where
  -- the book of live buffers is that of the state behind the answer
  pub entered_tells : (buffers : HeldByAddress) (answer : Reply) → TellsLive buffers state → TellsLive (entered_held buffers held answer) (after_alloc setting state thread slot held zeroed answer)
  entered_tells buffers (reply.At address found) tells =
      slot_tells (hand_out setting state address held zeroed) _ thread slot address (tells_handed setting state buffers address held zeroed tells)
  entered_tells buffers reply.NoSpace tells = slot_tells state buffers thread slot 0 tells
  entered_tells buffers reply.Null tells = slot_tells state buffers thread slot 0 tells
  entered_tells buffers reply.Ok tells = tells
  entered_tells buffers reply.Dup tells = tells
  entered_tells buffers reply.BadAddr tells = tells
  entered_tells buffers reply.BadCache tells = tells
  entered_tells buffers reply.BadSize tells = tells
  entered_tells buffers reply.Redzone tells = tells
  entered_tells buffers reply.Fault tells = tells
  entered_tells buffers (reply.Word word) tells = tells

  -- and so is the table of slabs
  pub entered_table : (slabs : HeapSlabs) (answer : Reply) → TablesLookAtSlabs → IsTableOf setting (handed held zeroed answer setting state) slabs
      → IsTableOf setting (after_alloc setting state thread slot held zeroed answer) slabs
  entered_table slabs (reply.At address found) look is = slot_table setting (hand_out setting state address held zeroed) slabs thread slot address look is
  entered_table slabs reply.NoSpace look is = slot_table setting state slabs thread slot 0 look is
  entered_table slabs reply.Null look is = slot_table setting state slabs thread slot 0 look is
  entered_table slabs reply.Ok look is = is
  entered_table slabs reply.Dup look is = is
  entered_table slabs reply.BadAddr look is = is
  entered_table slabs reply.BadCache look is = is
  entered_table slabs reply.BadSize look is = is
  entered_table slabs reply.Redzone look is = is
  entered_table slabs reply.Fault look is = is
  entered_table slabs (reply.Word word) look is = is
