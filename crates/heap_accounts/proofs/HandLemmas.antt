-- What is made of the tables by an allocation that is answered with a free chunk.
use Rattle.std.proofs.Common.{◌≡◌, ℕ, ◌+◌, ◌<◌, ◌≤◌, List, Some, None, length, refl, sym, ap, ◌∙◌, subst, arith}
use Rattle.script.specs.Rules.{IsHeader}
use Rattle.plain_heap.specs.declared.entry.Entry.{Entry}
use Rattle.plain_heap.specs.declared.held.Held.{Held}
use Rattle.plain_heap.specs.declared.reply.Reply.TheVariants as reply
use Rattle.plain_heap.specs.declared.reply.Report.{Report}
use Rattle.plain_heap.specs.Live.{HeldByAddress, Live, TellsLive, live_at}
use Rattle.plain_heap.specs.Replies.{IsCacheReply, report_at}
use Rattle.plain_heap.specs.Setting.{Setting}
use Rattle.plain_heap.specs.State.{HeapSlab, State, after_alloc, hand_out, held_at, next_chunk, state_of, with_slot}
use Rattle.heap_memory.specs.declared.chunk.Chunk.{Chunk}
use Rattle.heap_memory.specs.declared.chunk_kind.ChunkKind.{ChunkKind}
use Rattle.heap_memory.specs.Chunks.{HoldsChunk, IsChunkAt, kind_in}
use Rattle.heap_memory.specs.Laws.{AreChunksInsideOfRuns, chunk_of_slab}
use Rattle.heap_memory.specs.Memory.{IsMemoryOf, Memory}
use Rattle.heap_memory.specs.States.{Becomes, BecomesIf, ForEachState}
use Rattle.heap_slabs.specs.declared.placed.Placed.{Placed}
use Rattle.heap_slabs.specs.Chunks.{HasNoChunk, IsNumberedAs, IsAtItsPlace}
use Rattle.heap_slabs.specs.Laws.{PlacedChunksAreKnown, TablesLookAtSlabs}
use Rattle.heap_slabs.specs.States.{ForEachTabled}
use Rattle.heap_slabs.specs.HeapSlabs.{HeapSlabs}
use Rattle.heap_accounts.specs.declared.chunk_request.ChunkRequest.{ChunkRequest}
use Rattle.heap_accounts.specs.declared.tables.Tables.{Tables}
use Rattle.heap_accounts.specs.Allocs.{CanHand, HandsChunk, HasFreeNumber, HasNoFreeNumber}
use Rattle.heap_accounts.specs.Entering.{EntersTable, MayEnter, entered_held}
use Rattle.heap_accounts.specs.Kinds.{held_by}
use Rattle.heap_accounts.specs.Tables.{AreTablesOf}
use Rattle.heap_accounts.proofs.EnteringLemmas.{entered_table, entered_tells}
use Rattle.heap_accounts.proofs.NumberLemmas.{counted, same_slab}

-- ---- which chunk has a number

-- two chunks of slabs that stand, which have one number, are one
pub one_placed : (setting : Setting) (entries : List Entry) (a b : Placed) → IsAtItsPlace setting (state_of setting entries) a → IsAtItsPlace setting (state_of setting entries) b
    → a.chunk.number ≡ b.chunk.number → (a.chunk ≡ b.chunk) × (a.cache ≡ b.cache)
one_placed setting entries a b p q same =
    let state = state_of setting entries in
    let numbers : p.slab.first + p.index ≡ q.slab.first + q.index = sym (ap (λ (c : Chunk). c.number) p.chunk) ∙ same ∙ ap (λ (c : Chunk). c.number) q.chunk in
    let slabs : p.slab ≡ q.slab = same_slab setting state.slabs (next_chunk setting state) p.slab q.slab p.index q.index (counted setting entries) p.stands q.stands p.within q.within numbers in
    let indices : p.index ≡ q.index = omega (arith, numbers, ap (λ (s : HeapSlab). s.first) slabs) in (
      p.chunk ∙ ap (λ (s : HeapSlab). chunk_of_slab setting s p.index) slabs ∙ ap (chunk_of_slab setting q.slab) indices ∙ sym q.chunk,
      p.cache ∙ ap (λ (s : HeapSlab). s.cache) slabs ∙ sym q.cache,
    )

-- where no chunk has the number, no free one of a cache has it
pub none_numbered : (setting : Setting) (state : State) (cache number : ℕ) → HasNoChunk number setting state → HasNoFreeNumber cache number setting state
none_numbered setting state cache number none chunk free is = none (record { chunk = chunk; cache = cache }) free.0 is

-- nor where the chunk that has it is of another cache, or lives
pub not_free : (setting : Setting) (entries : List Entry) (buffers : HeldByAddress) (cache number : ℕ) (placed : Placed) → TellsLive buffers (state_of setting entries) → IsNumberedAs number placed setting (state_of setting entries)
    → ((placed.cache ≡ cache) × (live_at buffers placed.chunk.address ≡ None) → ⊥) → HasNoFreeNumber cache number setting (state_of setting entries)
not_free setting entries buffers cache number placed tells at isnt chunk free is =
    let same = one_placed setting entries placed (record { chunk = chunk; cache = cache }) at.0 free.0 (at.1 ∙ sym is) in
    isnt (same.1, tells.live placed.chunk.address ∙ subst (λ (c : Chunk). held_at (state_of setting entries).live c.address ≡ None) (sym same.0) free.1)

-- else it is free
pub is_free_chunk : (setting : Setting) (state : State) (buffers : HeldByAddress) (cache number : ℕ) (placed : Placed) → TellsLive buffers state → IsNumberedAs number placed setting state
    → (placed.cache ≡ cache) × (live_at buffers placed.chunk.address ≡ None) → HasFreeNumber cache number placed.chunk setting state
is_free_chunk setting state buffers cache number placed tells at is =
    ((subst (λ (n : ℕ). IsAtItsPlace setting state (record { chunk = placed.chunk; cache = n })) is.0 at.0, sym (tells.live placed.chunk.address) ∙ is.1), at.1)

-- ---- handing out

module _ (tables : Tables) (request : ChunkRequest) (chunk : Chunk) (setting : Setting) (state : State) (header : IsHeader setting.header) (are : AreTablesOf setting state tables) (can : CanHand request chunk setting state) where
  pub cache_there : request.cache < length tables.slabs.caches
  cache_there = omega (arith, can.is_cache, are.slabs.count)

  module _ (known : PlacedChunksAreKnown) (kind : ChunkKind) (is : kind ≡ kind_in setting request.cache) where
    pub chunk_there : IsChunkAt kind chunk setting state
    chunk_there = subst (λ (k : ChunkKind). IsChunkAt k chunk setting state) (sym is) (known setting state (record { chunk = chunk; cache = request.cache }) header can.separate can.free.0)

    pub chunk_inside : AreChunksInsideOfRuns → HoldsChunk tables.memory kind chunk
    chunk_inside inside = inside tables.memory kind chunk setting state header are.bytes chunk_there

  pub chunk_enters : (report : Report) → 0 < tables.live.spare → MayEnter tables.live (reply.At chunk.address report)
  chunk_enters report room = (room, are.buffers.live chunk.address ∙ can.free.1)

  pub chunk_told : (report : Report) → report ≡ report_at setting state chunk.address → IsCacheReply setting state request.cache (reply.At chunk.address report)
  chunk_told report is =
      let at = can.free.0 in (
        record {
          chunk = record { slab = at.slab; stands = at.stands; its = sym at.cache; chunk = record { index = at.index; within = at.within; there = ap (λ (c : Chunk). c.address) at.chunk } };
          free = can.free.1;
        },
        is,
      )

pub hands : (tables : Tables) (thread : ℕ) (request : ChunkRequest) (chunk : Chunk) (kind : ChunkKind) (given memory : Memory) (live : Live) (slabs : HeapSlabs) (report : Report)
    → PlacedChunksAreKnown → TablesLookAtSlabs → ForEachTabled (λ setting state. kind ≡ kind_in setting request.cache) tables.slabs
    → ForEachState (λ setting state. IsChunkAt kind chunk setting state → report ≡ report_at setting state chunk.address) tables.memory
    → BecomesIf (IsChunkAt kind chunk) (λ setting state. hand_out setting state chunk.address (record { size = request.size; cache = Some kind.cache }) request.zero) tables.memory given
    → Becomes (λ setting state. with_slot state thread request.slot chunk.address) given memory
    → live.buffers ≡ entered_held tables.live.buffers (held_by request) (reply.At chunk.address report) → EntersTable (reply.At chunk.address report) tables.slabs slabs
    → tables.live.spare ≤ live.spare + 1 → HandsChunk tables (record { memory = memory; live = live; slabs = slabs }) thread request chunk (reply.At chunk.address report)
hands tables thread request chunk kind given memory live slabs report known look kinds reports handed put buffers enters room = record {
  at = refl;
  reply = λ setting state header are can.
      let there = chunk_there tables request chunk setting state header are can known kind (kinds setting state header are.slabs) in
      chunk_told tables request chunk setting state header are can report (reports setting state header are.bytes there);
  after = λ setting state header are can.
      let is = kinds setting state header are.slabs in
      let there = chunk_there tables request chunk setting state header are can known kind is in
      let out = handed setting state header are.bytes there in
      let same : record { size = request.size; cache = Some kind.cache } ≡ held_by request = ap (λ (k : ChunkKind). let h : Held = record { size = request.size; cache = Some k.cache } in h) is in
      record {
        bytes = put setting (hand_out setting state chunk.address (held_by request) request.zero) header
            (subst (λ (h : Held). IsMemoryOf setting (hand_out setting state chunk.address h request.zero) given) same out);
        buffers = subst (λ (b : HeldByAddress). TellsLive b (after_alloc setting state thread request.slot (held_by request) request.zero (reply.At chunk.address report))) (sym buffers)
            (entered_tells setting state thread request.slot (held_by request) request.zero tables.live.buffers (reply.At chunk.address report) are.buffers);
        slabs = entered_table setting state thread request.slot (held_by request) request.zero slabs (reply.At chunk.address report) look
            (enters (held_by request) request.zero setting state header are.slabs can.free.1);
      };
  room = room;
}
