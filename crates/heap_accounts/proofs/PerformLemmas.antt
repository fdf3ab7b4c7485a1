-- What calls make of the tables.
use Rattle.std.proofs.Common.{◌≡◌, ℕ, ◌+◌, ◌≤◌, true, Option, Some, None, sym, ap, subst, arith}
use Rattle.std.specs.Prelude.{is_some}
use Rattle.script.specs.declared.operation.Op.{Op}
use Rattle.plain_heap.specs.declared.reply.Reply.{Reply}
use Rattle.plain_heap.specs.Laws.{large}
use Rattle.plain_heap.specs.Live.{HeldByAddress, Live, TellsLive}
use Rattle.plain_heap.specs.State.{State, after_alloc, state_of}
use Rattle.plain_heap.proofs.SeparateLemmas.{history_in_place}
use Rattle.heap_memory.specs.Memory.{Memory}
use Rattle.heap_memory.specs.States.{Keeps}
use Rattle.heap_slabs.specs.Laws.{TablesLookAtSlabs}
use Rattle.heap_slabs.specs.HeapSlabs.{HeapSlabs}
use Rattle.heap_accounts.specs.declared.large_request.LargeRequest.{LargeRequest}
use Rattle.heap_accounts.specs.declared.tables.Tables.{Tables}
use Rattle.heap_accounts.specs.Entering.{EntersTable, MayEnter, entered_held}
use Rattle.heap_accounts.specs.Kinds.{is_large, is_plain_call, large_request}
use Rattle.heap_accounts.specs.Large.{MakesLarge}
use Rattle.heap_accounts.specs.Plain.{PlainlyMakes}
use Rattle.heap_accounts.specs.Tables.{AreTablesOf, IsKnown, KeepsTables, Performs, PerformsKind}
use Rattle.heap_accounts.proofs.AccountsLemmas.{plain_keeps_live, plain_keeps_slabs}
use Rattle.heap_accounts.proofs.EnteringLemmas.{entered_table, entered_tells}
use Rattle.heap_accounts.proofs.LargeLemmas.{asks, free_for, may_enter}

-- the same tables with another memory
abbrev pub with_memory : Tables → Memory → Tables
with_memory tables memory = record { memory = memory; live = tables.live; slabs = tables.slabs }

-- ---- plain calls

pub plain_performs : (tables : Tables) (memory : Memory) (thread : ℕ) (op : Op) (answer : Option Reply) → TablesLookAtSlabs → PlainlyMakes tables.memory memory thread op answer
    → PerformsKind is_plain_call tables (with_memory tables memory) thread op answer
plain_performs tables memory thread op None look made = (made.0, ap (with_memory tables) made.1)
plain_performs tables memory thread op (Some answer) look made = (
  made.kind,
  record {
    reply = λ setting entries of. made.reply setting (state_of setting entries) of.header of.are.bytes;
    after = λ setting entries of.
        let state = state_of setting entries in
        let told = made.reply setting state of.header of.are.bytes in
        record {
          bytes = made.after setting state of.header of.are.bytes;
          buffers = plain_keeps_live setting state thread tables.live.buffers op answer made.kind told of.are.buffers;
          slabs = plain_keeps_slabs setting state thread tables.slabs op answer look made.kind told of.are.slabs;
        };
    room = omega arith;
  },
)

-- ---- large buffers

module _ (tables : Tables) (thread : ℕ) (op : Op) (request : LargeRequest) (asked : large_request op ≡ Some request) (memory : Memory) (answer : Reply) (made : MakesLarge tables.memory memory thread request answer) where
  pub large_enters : IsKnown tables thread op → MayEnter tables.live answer
  large_enters known =
      let of = known.its in
      let state = state_of known.setting known.entries in
      let asks_it = asks known.setting state thread op request asked in
      may_enter known.setting state tables.live request.size answer of.header (history_in_place known.setting known.entries of.header of.legal) of.are.buffers known.room asks_it.some
      (made.lowest known.setting state of.header of.are.bytes)

  pub large_performs : (live : Live) (slabs : HeapSlabs) → TablesLookAtSlabs → live.buffers ≡ entered_held tables.live.buffers (large request.size) answer
      → EntersTable answer tables.slabs slabs → tables.live.spare ≤ live.spare + 1
      → (is_large op ≡ true) × Performs tables (record { memory = memory; live = live; slabs = slabs }) thread op answer
  large_performs live slabs look buffers enters room = (
    ap is_some asked,
    record {
      reply = λ setting entries of.
          let state = state_of setting entries in
          (asks setting state thread op request asked).told answer (made.lowest setting state of.header of.are.bytes);
      after = λ setting entries of.
          let state = state_of setting entries in
          let asks_it = asks setting state thread op request asked in
          let lowest = made.lowest setting state of.header of.are.bytes in
          let free = free_for setting state request.size answer of.header (history_in_place setting entries of.header of.legal) asks_it.some lowest in
          subst (λ (s : State). AreTablesOf setting s (record { memory = memory; live = live; slabs = slabs })) (sym (asks_it.after answer)) (record {
            bytes = made.after asks_it.zero setting state of.header of.are.bytes;
            buffers = subst (λ (b : HeldByAddress). TellsLive b (after_alloc setting state thread request.slot (large request.size) asks_it.zero answer)) (sym buffers)
                (entered_tells setting state thread request.slot (large request.size) asks_it.zero tables.live.buffers answer of.are.buffers);
            slabs = entered_table setting state thread request.slot (large request.size) asks_it.zero slabs answer look
                (enters (large request.size) asks_it.zero setting state of.header of.are.slabs free);
          });
      room = room;
    },
  )

-- where memory ran out the tables are those of the same histories
pub large_keeps : (tables : Tables) (memory : Memory) → Keeps tables.memory memory → KeepsTables tables (with_memory tables memory)
large_keeps tables memory keeps = record {
  after = λ setting entries of. record { bytes = keeps setting (state_of setting entries) of.header of.are.bytes; buffers = of.are.buffers; slabs = of.are.slabs };
  room = omega arith;
}
