-- What is known of the chunk that begins at an address, and of a buffer where none does.
use Rattle.std.proofs.Common.{◌≡◌, ℕ, Bool, true, false, cond, eqb, List, [], ◌∷◌, Option, Some, None, refl, sym, ap, ◌∙◌, subst, arith}
use Rattle.std.specs.Prelude.{Contains, IsSome, find, is_some, option_map}
use Rattle.std.proofs.lemmas.Bool.{eqb-true, false≢true}
use Rattle.std.proofs.lemmas.List.Elements.{All-contains}
use Rattle.umem_base.proofs.Lists.{Contains-here, Contains-there}
use Rattle.buftag.specs.declared.finding.Finding.{Finding}
use Rattle.buftag.specs.declared.state.State.TheVariants.{Allocated}
use Rattle.script.specs.Rules.{IsHeader}
use Rattle.plain_heap.specs.declared.entry.Entry.{Entry}
use Rattle.plain_heap.specs.declared.held.Held.{Held}
use Rattle.plain_heap.specs.Laws.{AreSeparate, LiesInPlace}
use Rattle.plain_heap.specs.Live.{live_at}
use Rattle.plain_heap.specs.Replies.{finding_at, has_finding_at}
use Rattle.plain_heap.specs.Setting.{Setting}
use Rattle.plain_heap.specs.State.{HeapSlab, LiveBuffer, State, chunk_number, held_at, slab_with_chunk, state_of}
use Rattle.plain_heap.proofs.LiveLemmas.{held_lives}
use Rattle.plain_heap.proofs.SeparateLemmas.{history_is_separate}
use Rattle.heap_memory.specs.declared.chunk_kind.ChunkKind.{ChunkKind}
use Rattle.heap_memory.specs.Chunks.{HoldsChunk, IsChunkAt, kind_in}
use Rattle.heap_memory.specs.Laws.{AreChunksInsideOfRuns, AreChunksKnownByTheirPlaces}
use Rattle.heap_memory.specs.Memory.{IsMemoryOf, Memory}
use Rattle.heap_memory.specs.States.{IsLargeAt}
use Rattle.heap_slabs.specs.declared.placed.Placed.{Placed}
use Rattle.heap_slabs.specs.Chunks.{placed_at}
use Rattle.heap_accounts.specs.declared.tables.Tables.{Tables}
use Rattle.heap_accounts.specs.Tables.{AreOfHistory}

-- the chunk of a slab that begins at an address
abbrev placed_of : Setting → ℕ → HeapSlab → Placed
placed_of setting address slab = record { chunk = record { address = address; number = chunk_number setting slab address }; cache = slab.cache }

module _ (setting : Setting) (state : State) (address : ℕ) where
  -- where none begins
  pub no_chunk : None ≡ placed_at setting state address → slab_with_chunk setting state.slabs address ≡ None
  no_chunk none = go (slab_with_chunk setting state.slabs address) refl none
    where
      go : (o : Option HeapSlab) → slab_with_chunk setting state.slabs address ≡ o → None ≡ option_map (placed_of setting address) o → slab_with_chunk setting state.slabs address ≡ None
      go None is e = is
      go (Some h) is e = absurd (cc e)

  -- the chunk that was found is one of the state
  pub known_at : (placed : Placed) → Some placed ≡ placed_at setting state address → IsChunkAt (kind_in setting placed.cache) placed.chunk setting state × (placed.chunk.address ≡ address)
  known_at placed found = go (slab_with_chunk setting state.slabs address) refl found
    where
      go : (o : Option HeapSlab) → slab_with_chunk setting state.slabs address ≡ o → Some placed ≡ option_map (placed_of setting address) o
          → IsChunkAt (kind_in setting placed.cache) placed.chunk setting state × (placed.chunk.address ≡ address)
      go None is e = absurd (cc e)
      go (Some h) is e =
          let same : placed_of setting address h ≡ placed = cc in
          subst (λ (p : Placed). IsChunkAt (kind_in setting p.cache) p.chunk setting state × (p.chunk.address ≡ address)) same
          (record { its_kind = refl; slab = h; found = is; its_cache = refl; its_number = refl }, refl)

  -- and of the kind that was looked up
  pub chunk_for : (placed : Placed) (kind : ChunkKind) → Some placed ≡ placed_at setting state address → kind ≡ kind_in setting placed.cache → IsChunkAt kind placed.chunk setting state
  chunk_for placed kind found is = subst (λ (k : ChunkKind). IsChunkAt k placed.chunk setting state) (sym is) (known_at placed found).0

  pub inside_for : (memory : Memory) (placed : Placed) (kind : ChunkKind) → AreChunksInsideOfRuns → IsHeader setting.header → IsMemoryOf setting state memory
      → Some placed ≡ placed_at setting state address → kind ≡ kind_in setting placed.cache → HoldsChunk memory kind placed.chunk
  inside_for memory placed kind inside header bytes found is = inside memory kind placed.chunk setting state header bytes (chunk_for placed kind found is)

  -- ---- findings

  pub finding_for : (placed : Placed) (found : Option Finding) → Some placed ≡ placed_at setting state address → found ≡ finding_at setting state placed.chunk.address Allocated
      → is_some found ≡ has_finding_at setting state address
  finding_for placed found at is = ap is_some (is ∙ ap (λ (a : ℕ). finding_at setting state a Allocated) (known_at placed at).1)

-- ---- large buffers

-- a buffer that lives where no chunk begins is a large one
pub large_at : (setting : Setting) (entries : List Entry) (tables : Tables) (address : ℕ) → AreChunksKnownByTheirPlaces → AreOfHistory setting entries tables → IsSome (live_at tables.live.buffers address)
    → None ≡ placed_at setting (state_of setting entries) address → IsLargeAt address setting (state_of setting entries)
large_at setting entries tables address known of lives none = by (live_at tables.live.buffers address) lives (of.are.buffers.live address)
  where
    state : State
    state = state_of setting entries

    separate : AreSeparate setting state
    separate = history_is_separate setting entries of.header of.legal

    none_of_cache : (size : ℕ) (cache : Option ℕ) → LiesInPlace setting state address size cache → cache ≡ None
    none_of_cache size None lies = refl
    none_of_cache size (Some cache) lies =
        let at = known setting state lies.0.slab lies.0.chunk.index of.header separate lies.0.stands lies.0.chunk.within in
        let found : slab_with_chunk setting state.slabs address ≡ Some at.slab = subst (λ (a : ℕ). slab_with_chunk setting state.slabs a ≡ Some at.slab) (sym lies.0.chunk.there) at.found in
        absurd (some_of_none at.slab (sym (no_chunk setting state address none) ∙ found))
      where
        some_of_none : (slab : HeapSlab) → None ≡ Some slab → ⊥
        some_of_none slab e = absurd (cc e)

    by : (o : Option Held) → IsSome o → o ≡ held_at state.live address → IsLargeAt address setting state
    by None lives is = absurd (false≢true lives)
    by (Some held) lives is =
        let there = held_lives state.live address held (sym is) in
        let lies = All-contains (λ (b : LiveBuffer). LiesInPlace setting state b.address b.held.size b.held.cache) state.live (record { address = address; held = held }) separate.inside there in
        let cache = none_of_cache held.size held.cache lies in
        record { separate = separate; size = held.size; lives = sym is ∙ ap (λ (c : Option ℕ). let h : Held = record { size = held.size; cache = c } in Some h) cache }
