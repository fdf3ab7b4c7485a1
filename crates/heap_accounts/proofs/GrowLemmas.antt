-- What is made of the tables by an allocation that is answered with the first chunk of a new slab.
use Rattle.std.proofs.Common.{◌≡◌, ℕ, ◌+◌, ◌<◌, List, length, Option, Some, None, refl, sym, ap, ◌∙◌, subst, arith}
use Rattle.std.specs.Prelude.{OnErr, Result, Ok, Err}
use Rattle.std.specs.List.{range_with_len}
use Rattle.umem_base.specs.BoundedVec.{BoundedVec}
use Rattle.umem_base.specs.Pages.{IsLowestRun}
use Rattle.umem_base.proofs.Lists.{Contains-here}
use Rattle.case_table.specs.declared.slab_quantities.Geometry.{Geometry}
use Rattle.case_table.specs.Geometry.{geometry_of}
use Rattle.plain_heap.specs.declared.entry.Body.TheVariants as body
use Rattle.plain_heap.specs.declared.entry.Entry.{Entry}
use Rattle.plain_heap.specs.declared.reply.Reply.{Reply}
use Rattle.plain_heap.specs.Laws.{AreSeparate, IsAnsweredAt}
use Rattle.plain_heap.specs.Setting.{Setting, cache_def_in, geometry_in}
use Rattle.plain_heap.specs.State.{HeapSlab, IsFreePage, State, after_grow, chunk_start, held_at, new_slab, next_chunk, state_of}
use Rattle.plain_heap.proofs.PlacesLemmas.{AreInPlace}
use Rattle.plain_heap.proofs.RunsLemmas.{new_run}
use Rattle.plain_heap.proofs.SeparateLemmas.{history_in_place, history_is_separate, separate}
use Rattle.plain_heap.proofs.SettingLemmas.{geometry_in-sound}
use Rattle.plain_heap.proofs.StepsLemmas.{with_slab}
use Rattle.heap_memory.specs.declared.chunk.Chunk.{Chunk}
use Rattle.heap_memory.specs.declared.chunk_kind.ChunkKind.{ChunkKind}
use Rattle.heap_memory.specs.declared.new_slab.NewSlab.{NewSlab}
use Rattle.heap_memory.specs.Chunks.{IsNextSlab, kind_in}
use Rattle.heap_memory.specs.Laws.{chunk_of_slab}
use Rattle.heap_memory.specs.Memory.{IsMemoryOf, Memory}
use Rattle.heap_memory.specs.States.{BecomesIf, ForEachState, IsLowestOrNone, after_slab}
use Rattle.heap_slabs.specs.declared.placed.Placed.{Placed}
use Rattle.heap_slabs.specs.Chunks.{HasNoChunk, IsNextUnused, IsNumberedAs}
use Rattle.heap_slabs.specs.Laws.{FreeRunsArePlaces, NewSlabsAreUnused}
use Rattle.heap_slabs.specs.States.{ForEachTabled, TableBecomes}
use Rattle.heap_slabs.specs.HeapSlabs.{HasPlace, HeapSlabs, IsTableOf}
use Rattle.heap_accounts.specs.declared.chunk_request.ChunkRequest.{ChunkRequest}
use Rattle.heap_accounts.specs.declared.fresh.Fresh.{Fresh}
use Rattle.heap_accounts.specs.declared.tables.Tables.{Tables}
use Rattle.heap_accounts.specs.Allocs.{CanHand, CanHandIn, HandsChunk}
use Rattle.heap_accounts.specs.Frees.{AreOfSome}
use Rattle.heap_accounts.specs.Grows.{CanGrowFor, HandsFirst, HasNoRunOf, HasNumbersFor, IsAsked, IsFresh, OpensSlab, fresh_start, fresh_state}
use Rattle.heap_accounts.specs.Tables.{AreOfHistory, ForEachHistory, KeepsTables}
use Rattle.heap_accounts.proofs.NumberLemmas.{body_counted, counted, same_slab}

-- what holds in any case holds on an `Err`
pub on_err : {X Y : Type 0} (r : Result X Y) (P : Type 0) → P → OnErr r P
on_err (Ok x) P p = tt
on_err (Err y) P p = p

-- ---- room for a slab

-- a table with room for so many slabs more
abbrev roomier : HeapSlabs → ℕ → HeapSlabs
roomier table spare = record { caches = table.caches; next = table.next; slabs = table.slabs; reaped = table.reaped; spare = spare }

roomy : (setting : Setting) (state : State) (table new : HeapSlabs) (spare : ℕ) → new ≡ roomier table spare → IsTableOf setting state table → IsTableOf setting state new
roomy setting state table new spare is of = subst (IsTableOf setting state) (sym is) (record { count = of.count; caches = of.caches; next = of.next; slabs = of.slabs })

-- the tables are those of the same histories where the memory is
pub kept_with : (tables : Tables) (memory : Memory) (slabs : HeapSlabs) (spare : ℕ) → slabs ≡ roomier tables.slabs spare
    → ((setting : Setting) (entries : List Entry) → AreOfHistory setting entries tables → IsMemoryOf setting (state_of setting entries) memory)
    → KeepsTables tables (record { memory = memory; live = tables.live; slabs = slabs })
kept_with tables memory slabs spare is keeps = record {
  after = λ setting entries of. record { bytes = keeps setting entries of; buffers = of.are.buffers; slabs = roomy setting (state_of setting entries) tables.slabs slabs spare is of.are.slabs };
  room = omega arith;
}

-- ---- the slab that is made

-- its quantities are those of the cache
next_geometry : (setting : Setting) (state : State) (slab : NewSlab) → IsNextSlab slab setting state → geometry_of slab.kind.size slab.align slab.kind.guards ≡ geometry_in setting slab.kind.cache
next_geometry setting state slab next =
    let def = cache_def_in setting slab.kind.cache in
    ap (λ (kind : ChunkKind). geometry_of kind.size slab.align kind.guards) next.kind ∙ ap (λ (align : ℕ). geometry_of def.size align setting.guards) next.align

module _ (tables : Tables) (cache : ℕ) (slab : NewSlab) (kinds : ForEachTabled (λ setting state. slab.kind ≡ kind_in setting cache) tables.slabs) (nexts : ForEachTabled (IsNextSlab slab) tables.slabs)
    (memory : Memory) (base : Option ℕ)
    (lowest : ForEachState (λ setting state. IsNextSlab slab setting state → IsLowestOrNone (geometry_in setting slab.kind.cache).pages base setting state) tables.memory)
    (opened : BecomesIf (IsNextSlab slab) (after_slab slab.kind.cache base) tables.memory memory) where
  module _ (setting : Setting) (entries : List Entry) (of : AreOfHistory setting entries tables) where
    next : IsNextSlab slab setting (state_of setting entries)
    next = nexts setting (state_of setting entries) of.header of.are.slabs

    its_cache : slab.kind.cache ≡ cache
    its_cache = ap (λ (k : ChunkKind). k.cache) (kinds setting (state_of setting entries) of.header of.are.slabs)

    low : IsLowestOrNone (geometry_in setting cache).pages base setting (state_of setting entries)
    low = subst (λ (c : ℕ). IsLowestOrNone (geometry_in setting c).pages base setting (state_of setting entries)) its_cache (lowest setting (state_of setting entries) of.header of.are.bytes next)

    bytes : IsMemoryOf setting (after_slab cache base setting (state_of setting entries)) memory
    bytes = subst (λ (c : ℕ). IsMemoryOf setting (after_slab c base setting (state_of setting entries)) memory) its_cache (opened setting (state_of setting entries) of.header of.are.bytes next)

  -- no run of its pages is free
  module _ (none : base ≡ None) where
    pub no_run : ForEachHistory (HasNoRunOf cache) tables
    no_run setting entries of = subst (λ (b : Option ℕ). IsLowestOrNone (geometry_in setting cache).pages b setting (state_of setting entries)) none (low setting entries of)

    pub same_bytes : (setting : Setting) (entries : List Entry) → AreOfHistory setting entries tables → IsMemoryOf setting (state_of setting entries) memory
    same_bytes setting entries of = subst (λ (b : Option ℕ). IsMemoryOf setting (after_slab cache b setting (state_of setting entries)) memory) none (bytes setting entries of)

  -- or it is made at the lowest
  module _ (at : ℕ) (some : base ≡ Some at) (roomy_slabs : HeapSlabs) (spare : ℕ) (is : roomy_slabs ≡ roomier tables.slabs spare) where
    lowest_run : (setting : Setting) (entries : List Entry) → AreOfHistory setting entries tables → IsLowestRun (IsFreePage setting (state_of setting entries)) (geometry_in setting cache).pages at
    lowest_run setting entries of = subst (λ (b : Option ℕ). IsLowestOrNone (geometry_in setting cache).pages b setting (state_of setting entries)) some (low setting entries of)

    pub has_place : FreeRunsArePlaces → AreOfSome tables → cache < length tables.slabs.caches → HasNumbersFor tables.slabs cache → HasPlace roomy_slabs cache at
    has_place law its there numbers =
        let setting = its.setting in
        let state = state_of setting its.entries in
        let of = its.its in
        let run = lowest_run setting its.entries of in
        let place : HasPlace tables.slabs cache at =
        law tables.slabs cache at there numbers setting state of.header of.are.slabs (history_is_separate setting its.entries of.header of.legal) run.free in
        subst (λ (t : HeapSlabs). HasPlace t cache at) (sym is) (record { below = place.below; clear = place.clear; numbers = place.numbers })

    pub opens : (rounds : BoundedVec ℕ) (count : Geometry) (added : HeapSlabs) → NewSlabsAreUnused → rounds.items ≡ range_with_len slab.first count.rounds
        → count ≡ geometry_of slab.kind.size slab.align slab.kind.guards
        → TableBecomes (IsNextUnused cache at) (λ setting state. after_grow setting state cache at) roomy_slabs added
        → OpensSlab tables (record { memory = memory; live = tables.live; slabs = added }) cache (record { base = at; rounds = rounds })
    opens rounds count added law items counts adds = record {
      its = λ setting entries of.
          let state = state_of setting entries in
          let its = next setting entries of in
          let same : count ≡ geometry_in setting cache = counts ∙ next_geometry setting state slab its ∙ ap (geometry_in setting) (its_cache setting entries of) in
          record {
            lowest = lowest_run setting entries of;
            rounds = items ∙ ap (λ (n : ℕ). range_with_len n count.rounds) its.first ∙ ap (λ (g : Geometry). range_with_len (next_chunk setting state) g.rounds) same;
          };
      after = λ setting entries of.
          let state = state_of setting entries in
          let run = lowest_run setting entries of in
          let unused = law setting state cache at of.header (history_is_separate setting entries of.header of.legal) run.free in
          record {
            bytes = subst (λ (b : Option ℕ). IsMemoryOf setting (after_slab cache b setting state) memory) some (bytes setting entries of);
            buffers = record { live = of.are.buffers.live; given = of.are.buffers.given };
            slabs = adds setting state of.header (roomy setting state tables.slabs roomy_slabs spare is of.are.slabs) unused;
          };
      room = omega arith;
    }

-- ---- its first chunk

module _ (setting : Setting) (entries : List Entry) (tables : Tables) (of : AreOfHistory setting entries tables) (request : ChunkRequest) (asked : IsAsked request setting) (fresh : Fresh)
    (its : IsFresh request.cache fresh setting (state_of setting entries)) where
  abbrev before : State
  before = state_of setting entries

  abbrev behind : State
  behind = fresh_state request.cache fresh setting before

  abbrev slab : HeapSlab
  slab = new_slab setting before request.cache fresh.base

  places : AreInPlace setting behind.live behind.slabs
  places =
      let old = history_in_place setting entries of.header of.legal in
      let sound = geometry_in-sound setting request.cache of.header asked.is_cache in
      with_slab setting before.live before.slabs slab old asked.is_cache (new_run setting before fresh.base (geometry_in setting request.cache).pages old its.lowest.free sound.pages_some)

  pub separate_behind : AreSeparate setting behind
  separate_behind = separate setting behind of.header places

  rounds_some : 0 < (geometry_in setting request.cache).rounds
  rounds_some = let many = (geometry_in-sound setting request.cache of.header asked.is_cache).rounds_many in omega (arith, many)

  -- some chunk has the number
  pub first_there : HasNoChunk (next_chunk setting before) setting behind → ⊥
  first_there none =
      let number : next_chunk setting before + 0 ≡ next_chunk setting before = omega arith in
      none (record { chunk = chunk_of_slab setting slab 0; cache = request.cache })
      (record { slab = slab; stands = Contains-here slab before.slabs; index = 0; within = rounds_some; chunk = refl; cache = refl }) number

  -- and it is the first of the slab
  module _ (placed : Placed) (numbered : IsNumberedAs (next_chunk setting before) placed setting behind) where
    numbers : numbered.0.slab.first + numbered.0.index ≡ next_chunk setting before + 0
    numbers = let e : numbered.0.slab.first + numbered.0.index ≡ next_chunk setting before = sym (ap (λ (c : Chunk). c.number) numbered.0.chunk) ∙ numbered.1 in omega (arith, e)

    same : numbered.0.slab ≡ slab
    same =
        same_slab setting behind.slabs (next_chunk setting behind) numbered.0.slab slab numbered.0.index 0 (body_counted setting before 0 (body.Grow request.cache fresh.base) (counted setting entries))
        numbered.0.stands (Contains-here slab before.slabs) numbered.0.within rounds_some numbers

    index_zero : numbered.0.index ≡ 0
    index_zero = let firsts : numbered.0.slab.first ≡ next_chunk setting before = ap (λ (s : HeapSlab). s.first) same in omega (arith, firsts, numbers)

    pub first_address : placed.chunk.address ≡ fresh_start request.cache fresh setting before
    first_address =
        ap (λ (c : Chunk). c.address) numbered.0.chunk ∙ ap (λ (s : HeapSlab). chunk_start setting s numbered.0.index) same ∙ ap (chunk_start setting slab) index_zero

    first_cache : request.cache ≡ numbered.0.slab.cache
    first_cache = sym (ap (λ (s : HeapSlab). s.cache) same)

    pub can_hand : NewSlabsAreUnused → CanHand request placed.chunk setting behind
    can_hand law =
        let unused = law setting before request.cache fresh.base of.header (history_is_separate setting entries of.header of.legal) its.lowest.free in
        let free : held_at before.live (fresh_start request.cache fresh setting before) ≡ None =
        unused (fresh_start request.cache fresh setting before) (record { index = 0; within = rounds_some; there = refl }) in
        record {
          separate = separate_behind;
          is_cache = asked.is_cache;
          requested = asked.requested;
          free = (
            record { slab = numbered.0.slab; stands = numbered.0.stands; index = numbered.0.index; within = numbered.0.within; chunk = numbered.0.chunk; cache = first_cache },
            ap (held_at before.live) first_address ∙ free,
          );
        }

answered_at : (answer : Reply) (one other : ℕ) → one ≡ other → IsAnsweredAt answer one → IsAnsweredAt answer other
answered_at answer one other is at = subst (IsAnsweredAt answer) is at

-- ---- both

module _ (tables : Tables) (thread : ℕ) (request : ChunkRequest) where
  module _ (slab : NewSlab) (nexts : ForEachTabled (IsNextSlab slab) tables.slabs) (opened : Tables) (fresh : Fresh) (opens_it : OpensSlab tables opened request.cache fresh) where
    module _ (setting : Setting) (entries : List Entry) (of : AreOfHistory setting entries tables) where
      number_is : slab.first ≡ next_chunk setting (state_of setting entries)
      number_is = (nexts setting (state_of setting entries) of.header of.are.slabs).first

    pub not_missing : CanGrowFor tables thread request → ForEachTabled (HasNoChunk slab.first) opened.slabs → ⊥
    not_missing can none =
        let setting = can.setting in
        let entries = can.entries in
        let of = can.its in
        let behind = fresh_state request.cache fresh setting (state_of setting entries) in
        first_there setting entries tables of request can.asked fresh (opens_it.its setting entries of)
        (subst (λ (n : ℕ). HasNoChunk n setting behind) (number_is setting entries of) (none setting behind of.header (opens_it.after setting entries of).slabs))

    module _ (placed : Placed) (numbered : ForEachTabled (IsNumberedAs slab.first placed) opened.slabs) (law : NewSlabsAreUnused) where
      module _ (setting : Setting) (entries : List Entry) (of : AreOfHistory setting entries tables) (asked : IsAsked request setting) where
        its_number : IsNumberedAs (next_chunk setting (state_of setting entries)) placed setting (fresh_state request.cache fresh setting (state_of setting entries))
        its_number =
            let behind = fresh_state request.cache fresh setting (state_of setting entries) in
            subst (λ (n : ℕ). IsNumberedAs n placed setting behind) (number_is setting entries of) (numbered setting behind of.header (opens_it.after setting entries of).slabs)

        can : CanHand request placed.chunk setting (fresh_state request.cache fresh setting (state_of setting entries))
        can = can_hand setting entries tables of request asked fresh (opens_it.its setting entries of) placed its_number law

        address_is : placed.chunk.address ≡ fresh_start request.cache fresh setting (state_of setting entries)
        address_is = first_address setting entries tables of request asked fresh (opens_it.its setting entries of) placed its_number

      pub can_hand_in : CanGrowFor tables thread request → CanHandIn opened thread request placed.chunk
      can_hand_in grows = record {
        setting = grows.setting;
        state = fresh_state request.cache fresh grows.setting (state_of grows.setting grows.entries);
        header = grows.its.header;
        are = opens_it.after grows.setting grows.entries grows.its;
        can = can grows.setting grows.entries grows.its grows.asked;
        within = grows.within;
        slot = grows.slot;
        room = omega (arith, grows.room, opens_it.room);
      }

      pub hands_first : (handed : Tables) (answer : Reply) → HandsChunk opened handed thread request placed.chunk answer → HandsFirst tables handed thread request answer fresh
      hands_first handed answer done = record {
        its = opens_it.its;
        at = λ setting entries of asked. answered_at answer placed.chunk.address (fresh_start request.cache fresh setting (state_of setting entries)) (address_is setting entries of asked) done.at;
        reply = λ setting entries of asked.
            done.reply setting (fresh_state request.cache fresh setting (state_of setting entries)) of.header (opens_it.after setting entries of) (can setting entries of asked);
        after = λ setting entries of asked.
            done.after setting (fresh_state request.cache fresh setting (state_of setting entries)) of.header (opens_it.after setting entries of) (can setting entries of asked);
        room = omega (arith, opens_it.room, done.room);
      }
