-- What the chunks of a slab hold when it is made.
use Rattle.std.proofs.Common.{◌≡◌, ◌≢◌, ℕ, zero, suc, ◌+◌, ◌-◌, ◌*◌, ◌/◌, ◌%◌, ◌^◌, ◌<◌, ◌≤◌, ◌⊎◌, inl, inr, Bool, true, false, cond, List, [], ◌∷◌, get_or, length, Option, Some, None, Ok, Err, refl, sym, ap, ◌∙◌, subst, arith}
use Rattle.std.specs.Prelude.{◌↔◌, Contains, IsSome, OnErr, Result, slice_index}
use Rattle.std.specs.Option.{option_map_or}
use Rattle.std.proofs.lemmas.Bool.{cases_lt}
use Rattle.std.proofs.lemmas.List.{get_or_past}
use Rattle.std.proofs.lemmas.Nat.{div-add-mod', div-mul-add, mod-mul-add}
use Rattle.std.proofs.Math.Nat.{mul-le-mul_right}
use Rattle.umem_base.specs.declared.span.Span.{Span}
use Rattle.umem_base.proofs.OrderedLemmas.{Gains-put_by}
use Rattle.umem_base.specs.declared.pages.TheConstants.{PAGE_BYTES}
use Rattle.case_table.specs.declared.slab_quantities.Geometry.{Geometry}
use Rattle.case_table.specs.Geometry.{colour_of, geometry_of}
use Rattle.addr_space.specs.Space.{HasBytes, IsInRun, IsMappedRange, Space, Writes, byte_at, runs_of}
use Rattle.script.specs.Rules.{IsHeader}
use Rattle.plain_heap.specs.Bytes.{Bytes, is_within, with_zeros}
use Rattle.plain_heap.specs.Setting.{Setting, cache_def_in, geometry_in, slab_bytes}
use Rattle.plain_heap.specs.State.{HeapSlab, State, after_grow, chunk_start, grows_of, index_at, made_byte, made_chunk, new_slab, spans_of, with_made}
use Rattle.heap_memory.specs.declared.chunk_kind.ChunkKind.{ChunkKind}
use Rattle.heap_memory.specs.declared.new_slab.NewSlab.{NewSlab}
use Rattle.heap_memory.specs.Chunks.{IsNextSlab, WritesAt, byte_of_chunks}
use Rattle.heap_memory.specs.Memory.{IsMemoryOf, Memory}
use Rattle.heap_memory.specs.Pages.{OpensRun}
use Rattle.heap_memory.proofs.PagesLemmas.{opened}
use Rattle.heap_memory.proofs.StateLemmas.{grown_members}
use Rattle.heap_memory.proofs.ChunkLemmas.{any_chunks, any_geometry}
use Rattle.heap_memory.proofs.WriteLemmas.{beside, some_of, where_of, within, written, zeros_beside, zeros_here}

-- ---- one chunk more

-- nothing is written yet
pub no_chunks : (space : Space) (start count : ℕ) (byte : ℕ → ℕ) → count ≡ 0 → Writes space space start count byte
no_chunks space start count byte none = record { stored = λ k lt. absurd (omega arith); others = λ a out. refl; runs = refl }

-- the place of an offset in the chunk after so many
div_there : (i chunk j : ℕ) → j < chunk → (i * chunk + j) / chunk ≡ i
div_there i chunk j lt = div-mul-add i chunk j lt

mod_there : (i chunk j : ℕ) → j < chunk → (i * chunk + j) % chunk ≡ j
mod_there i chunk j lt = mod-mul-add i chunk j lt

pub one_chunk_more : (old between new : Space) (start i chunk rounds : ℕ) (content : ℕ → List ℕ) (at : ℕ)
    → at ≡ start + i * chunk → i < rounds → length (content i) ≤ chunk → HasBytes old start (rounds * chunk) (λ _. 0)
    → Writes old between start (i * chunk) (byte_of_chunks chunk content) → WritesAt between new at (content i)
    → Writes old new start ((i + 1) * chunk) (byte_of_chunks chunk content)
one_chunk_more old between new start i chunk rounds content at is less fits zeros before writes = record {
  stored = stored;
  others = λ a out. writes.others a (apart a out) ∙ before.others a (less_out a out);
  runs = writes.runs ∙ before.runs;
}
  where
    more : (i + 1) * chunk ≡ i * chunk + chunk
    more = omega arith

    up : i * chunk + chunk ≤ rounds * chunk
    up = omega (arith, mul-le-mul_right chunk (le_suc i rounds less), more)
      where
        le_suc : (n m : ℕ) → n < m → n + 1 ≤ m
        le_suc n m lt = omega arith

    apart : (a : ℕ) → (a < start) ⊎ (start + (i + 1) * chunk ≤ a) → (a < at) ⊎ (at + length (content i) ≤ a)
    apart a (inl low) = inl (omega (arith, is))
    apart a (inr past) = inr (omega (arith, is, fits, more))

    less_out : (a : ℕ) → (a < start) ⊎ (start + (i + 1) * chunk ≤ a) → (a < start) ⊎ (start + i * chunk ≤ a)
    less_out a (inl low) = inl low
    less_out a (inr past) = inr (omega (arith, more))

    here : (j : ℕ) → j < chunk → byte_at new (start + (i * chunk + j)) ≡ Some (byte_of_chunks chunk content (i * chunk + j))
    here j lt =
        let place : start + (i * chunk + j) ≡ at + j = omega (arith, is) in
        let it : byte_of_chunks chunk content (i * chunk + j) ≡ slice_index (content i) j =
        ap (λ (d : ℕ). slice_index (content d) ((i * chunk + j) % chunk)) (div_there i chunk j lt) ∙ ap (slice_index (content i)) (mod_there i chunk j lt) in
        ap (byte_at new) place ∙ value j lt ∙ ap Some (sym it)
      where
        value : (j : ℕ) → j < chunk → byte_at new (at + j) ≡ Some (slice_index (content i) j)
        value j lt = elim (cases_lt j (length (content i))) [
          | inl inside ↦ writes.stored j inside
          | inr past ↦
              let far : start + (i * chunk + j) ≡ at + j = omega (arith, is) in
              let none : slice_index (content i) j ≡ 0 = get_or_past (content i) j 0 past in
              let zero_there = zeros (i * chunk + j) (omega (arith, up)) in
              writes.others (at + j) (inr (omega arith)) ∙ before.others (at + j) (inr (omega (arith, is)))
              ∙ ap (byte_at old) (sym far) ∙ zero_there ∙ ap Some (sym none)
        ]

    stored : HasBytes new start ((i + 1) * chunk) (byte_of_chunks chunk content)
    stored k lt = elim (cases_lt k (i * chunk)) [
      | inl low ↦ writes.others (start + k) (inl (omega (arith, is))) ∙ before.stored k low
      | inr from ↦
          let j : ℕ = k - i * chunk in
          let back : i * chunk + j ≡ k = omega arith in
          subst (λ (n : ℕ). byte_at new (start + n) ≡ Some (byte_of_chunks chunk content n)) back (here j (omega (arith, more)))
    ]

-- ---- all chunks

-- what a made slab holds at an offset from its first chunk
module _ (setting : Setting) (slab : HeapSlab) (header : IsHeader setting.header) where
  abbrev chunk_bytes : ℕ
  chunk_bytes = (geometry_in setting slab.cache).chunk

  abbrev all_bytes : ℕ
  all_bytes = (geometry_in setting slab.cache).rounds * chunk_bytes

  abbrev first_start : ℕ
  first_start = chunk_start setting slab 0

  abbrev made_content : ℕ → List ℕ
  made_content index = made_chunk setting slab.cache (slab.first + index)

  made_here : (k : ℕ) → k < all_bytes → made_byte setting slab (first_start + k) ≡ byte_of_chunks chunk_bytes made_content k
  made_here k lt =
      let back : (first_start + k) - first_start ≡ k = omega arith in
      let colour = colour_of (cache_def_in setting slab.cache).align (geometry_in setting slab.cache).leftover slab.made in
      let offset : (first_start + k) - chunk_start setting slab (k / chunk_bytes) ≡ k % chunk_bytes = rest slab.base colour k chunk_bytes in
      ap (λ (b : Bool). option_map_or (λ index. slice_index (made_content index) ((first_start + k) - chunk_start setting slab index)) (cond b (Some (((first_start + k) - first_start) / chunk_bytes)) None) 0) (within first_start all_bytes k lt)
      ∙ ap (λ (n : ℕ). slice_index (made_content (n / chunk_bytes)) ((first_start + k) - chunk_start setting slab (n / chunk_bytes))) back
      ∙ ap (λ (n : ℕ). slice_index (made_content (k / chunk_bytes)) n) offset
    where
      rest : (base colour k chunk : ℕ) → ((base + (colour + 0 * chunk)) + k) - (base + (colour + k / chunk * chunk)) ≡ k % chunk
      rest base colour k chunk = omega (arith, div-add-mod' k chunk)

  made_beside : (a : ℕ) → (a < first_start) ⊎ (first_start + all_bytes ≤ a) → made_byte setting slab a ≡ 0
  made_beside a out =
      ap (λ (b : Bool). option_map_or (λ index. slice_index (made_content index) (a - chunk_start setting slab index)) (cond b (Some ((a - first_start) / chunk_bytes)) None) 0) (beside first_start all_bytes a out)

  -- the chunks stand in the pages
  chunks_inside : (slab.base ≤ first_start) × (first_start + all_bytes ≤ slab.base + slab_bytes setting slab.cache)
  chunks_inside =
      let rounds = (geometry_in setting slab.cache).rounds in
      let colour = colour_of (cache_def_in setting slab.cache).align (geometry_in setting slab.cache).leftover slab.made in
      let many : 1 ≤ rounds = omega (arith, (any_geometry setting slab.cache header).rounds_many) in
      let last = (any_chunks setting slab.cache slab.made header).inside (rounds - 1) (omega arith) in
      (at_base slab.base colour chunk_bytes, to_end slab.base colour rounds chunk_bytes (geometry_in setting slab.cache).pages many last)
    where
      at_base : (base colour chunk : ℕ) → base ≤ base + (colour + 0 * chunk)
      at_base base colour chunk = omega arith

      one_less : (rounds chunk : ℕ) → 1 ≤ rounds → (rounds - 1) * chunk + chunk ≡ rounds * chunk
      one_less zero chunk h = absurd (omega arith)
      one_less (suc n) chunk h = let e : suc n - 1 ≡ n = omega arith in rw e (omega arith)

      to_end : (base colour rounds chunk pages : ℕ) → 1 ≤ rounds → (colour + (rounds - 1) * chunk) + chunk ≤ pages * 4096
          → (base + (colour + 0 * chunk)) + rounds * chunk ≤ base + 4096 * pages
      to_end base colour rounds chunk pages many last = let e = one_less rounds chunk many in omega arith

  -- what a made slab holds, by the bytes that its chunks hold and the zeros beside them
  pub made_in : (bytes : Bytes) (k : ℕ) → k < all_bytes → with_made setting bytes slab (first_start + k) ≡ byte_of_chunks chunk_bytes made_content k
  made_in bytes k lt =
      let place : first_start + k ≡ slab.base + ((first_start - slab.base) + k) = omega (arith, chunks_inside.0) in
      let inside : is_within slab.base (slab_bytes setting slab.cache) (first_start + k) ≡ true =
      subst (λ (a : ℕ). is_within slab.base (slab_bytes setting slab.cache) a ≡ true) (sym place)
      (within slab.base (slab_bytes setting slab.cache) ((first_start - slab.base) + k) (omega (arith, chunks_inside.0, chunks_inside.1))) in
      ap (λ (b : Bool). cond b (made_byte setting slab (first_start + k)) (bytes (first_start + k))) inside ∙ made_here k lt

  pub made_out : (bytes : Bytes) (a : ℕ) → (a < first_start) ⊎ (first_start + all_bytes ≤ a)
      → with_made setting bytes slab a ≡ with_zeros bytes slab.base (slab_bytes setting slab.cache) a
  made_out bytes a out = elim (where_of a slab.base (slab_bytes setting slab.cache)) [
    | inl in_it ↦
        let inside : is_within slab.base (slab_bytes setting slab.cache) a ≡ true =
        subst (λ (x : ℕ). is_within slab.base (slab_bytes setting slab.cache) x ≡ true) in_it.2 (within slab.base (slab_bytes setting slab.cache) in_it.0 in_it.1) in
        ap (λ (b : Bool). cond b (made_byte setting slab a) (bytes a)) inside ∙ made_beside a out ∙ sym (ap (λ (b : Bool). cond b 0 (bytes a)) inside)
    | inr past ↦
        let outside = beside slab.base (slab_bytes setting slab.cache) a past in
        ap (λ (b : Bool). cond b (made_byte setting slab a) (bytes a)) outside ∙ sym (ap (λ (b : Bool). cond b 0 (bytes a)) outside)
  ]

-- ---- a slab that is made

-- a range inside of bytes is mapped
pub mapped_inside : (space : Space) (base size start count : ℕ) (byte : ℕ → ℕ) → HasBytes space base size byte → base ≤ start → start + count ≤ base + size → IsMappedRange space start count
mapped_inside space base size start count byte has low high k lt =
    let place : base + ((start - base) + k) ≡ start + k = omega arith in
    subst (λ (a : ℕ). IsSome (byte_at space a)) place (some_of (byte_at space (base + ((start - base) + k))) (byte ((start - base) + k)) (has ((start - base) + k) (omega arith)))

-- a slab was made whose pages hold zeros
abbrev with_blank_slab : Setting → State → ℕ → ℕ → State
with_blank_slab setting state cache base = record {
  live = state.live;
  given = state.given;
  slabs = new_slab setting state cache base ∷ state.slabs;
  grown = cache ∷ state.grown;
  bytes = with_zeros state.bytes base (slab_bytes setting cache);
}

pub grown : (setting : Setting) (state : State) (old between new : Memory) (cache base start count chunk : ℕ) (content : ℕ → List ℕ) (run : Span)
    → IsHeader setting.header → IsMemoryOf setting state old → OpensRun old between run → run ≡ record { base = base; pages = (geometry_in setting cache).pages }
    → Writes between.space new.space start count (byte_of_chunks chunk content) → new.arena ≡ between.arena
    → start ≡ chunk_start setting (new_slab setting state cache base) 0 → chunk ≡ (geometry_in setting cache).chunk → count ≡ (geometry_in setting cache).rounds * chunk
    → ((index : ℕ) → content index ≡ made_chunk setting cache ((new_slab setting state cache base).first + index)) → IsMemoryOf setting (after_grow setting state cache base) new
grown setting state old between new cache base start count chunk content run header was opens is_run writes arena is_start is_chunk is_count is_content =
    let slab = new_slab setting state cache base in
    let blank = with_blank_slab setting state cache base in
    let first : run.base ≡ base = ap (λ (s : Span). s.base) is_run in
    let size : PAGE_BYTES * run.pages ≡ slab_bytes setting cache = ap (λ (s : Span). PAGE_BYTES * s.pages) is_run in
    let half : IsMemoryOf setting blank between = opened setting state blank old between run was opens
    (λ span. grown_members setting state cache base run span is_run)
    (λ k lt. ap (λ (b : ℕ). blank.bytes (b + k)) first ∙ zeros_here state.bytes base (slab_bytes setting cache) k (omega (arith, size)))
    (λ a out. zeros_beside state.bytes base (slab_bytes setting cache) a (moved a base run.base (PAGE_BYTES * run.pages) (slab_bytes setting cache) first size out)) in
    let all : count ≡ (geometry_in setting cache).rounds * (geometry_in setting cache).chunk = is_count ∙ ap (λ (n : ℕ). (geometry_in setting cache).rounds * n) is_chunk in
    let bytes : (k : ℕ) → byte_of_chunks chunk content k ≡ byte_of_chunks (geometry_in setting cache).chunk (λ index. made_chunk setting cache (slab.first + index)) k =
    λ k. ap (λ (xs : List ℕ). slice_index xs (k % chunk)) (is_content (k / chunk)) ∙ ap (λ (n : ℕ). slice_index (made_chunk setting cache (slab.first + k / n)) (k % n)) is_chunk in
    written setting blank (after_grow setting state cache base) between new start count (byte_of_chunks chunk content) half refl arena
    (mapped_inside between.space run.base (PAGE_BYTES * run.pages) start count (λ _. 0) opens.maps.zeros
    (omega (arith, is_start, first, (chunks_inside setting slab header).0)) (omega (arith, is_start, first, size, all, (chunks_inside setting slab header).1))) writes
    (λ k lt. ap (λ (a : ℕ). with_made setting state.bytes slab (a + k)) is_start ∙ made_in setting slab header state.bytes k (omega (arith, all)) ∙ sym (bytes k))
    (λ a out. made_out setting slab header state.bytes a (elim out [ inl low ↦ inl (omega (arith, is_start)) | inr past ↦ inr (omega (arith, is_start, all)) ]))
  where
    moved : (a base first size whole : ℕ) → first ≡ base → size ≡ whole → (a < first) ⊎ (first + size ≤ a) → (a < base) ⊎ (base + whole ≤ a)
    moved a base first size whole e f (inl low) = inl (omega arith)
    moved a base first size whole e f (inr past) = inr (omega arith)

-- ---- the next slab of a cache

-- its quantities are those of the cache
pub next_geometry : (setting : Setting) (state : State) (slab : NewSlab) → IsNextSlab slab setting state
    → geometry_of slab.kind.size slab.align slab.kind.guards ≡ geometry_in setting slab.kind.cache
next_geometry setting state slab next =
    let def = cache_def_in setting slab.kind.cache in
    ap (λ (kind : ChunkKind). geometry_of kind.size slab.align kind.guards) next.kind ∙ ap (λ (align : ℕ). geometry_of def.size align setting.guards) next.align

-- its first chunk begins behind its colour
pub next_start : (setting : Setting) (state : State) (slab : NewSlab) (layout : Geometry) (base colour : ℕ) → IsNextSlab slab setting state → layout ≡ geometry_in setting slab.kind.cache
    → colour ≡ colour_of slab.align layout.leftover slab.made → base + colour ≡ chunk_start setting (new_slab setting state slab.kind.cache base) 0
next_start setting state slab layout base colour next e is =
    let def = cache_def_in setting slab.kind.cache in
    let its : colour ≡ colour_of def.align (geometry_in setting slab.kind.cache).leftover (grows_of state slab.kind.cache) =
    is ∙ ap (λ (align : ℕ). colour_of align layout.leftover slab.made) next.align ∙ ap (λ (g : Geometry). colour_of def.align g.leftover slab.made) e
    ∙ ap (λ (made : ℕ). colour_of def.align (geometry_in setting slab.kind.cache).leftover made) next.made in
    behind base colour (colour_of def.align (geometry_in setting slab.kind.cache).leftover (grows_of state slab.kind.cache)) (geometry_in setting slab.kind.cache).chunk its
  where
    behind : (base colour its chunk : ℕ) → colour ≡ its → base + colour ≡ base + (its + 0 * chunk)
    behind base colour its chunk e = omega arith

-- what is inside of a run that was opened
pub inside_opened : (old new : Memory) (run : Span) (start count : ℕ) → OpensRun old new run → run.base ≤ start → start + count ≤ run.base + PAGE_BYTES * run.pages → IsInRun (runs_of new.space) start count
inside_opened old new run start count opens low high =
    let key : Span → ℕ = λ s. s.base in
    let there = subst (λ (rs : List Span). Contains rs run) (sym opens.maps.runs) (Gains-put_by key (runs_of old.space) run).gained in
    (run, there, low, high)

pub zeros_opened : (old new : Memory) (run : Span) (start count : ℕ) → OpensRun old new run → run.base ≤ start → start + count ≤ run.base + PAGE_BYTES * run.pages → HasBytes new.space start count (λ _. 0)
zeros_opened old new run start count opens low high k lt =
    let place : run.base + ((start - run.base) + k) ≡ start + k = omega arith in
    ap (byte_at new.space) (sym place) ∙ opens.maps.zeros ((start - run.base) + k) (omega arith)

-- the pages of a slab hold its colour and its chunks
pub chunks_in_pages : (base colour start count pages leftover : ℕ) → start ≡ base + colour → colour ≤ leftover → count + leftover ≡ pages * PAGE_BYTES → start + count ≤ base + PAGE_BYTES * pages
chunks_in_pages base colour start count pages leftover is within filled = omega arith

-- whatever the answer is that tells of a refusal
pub on_err : {X Y : Type 0} (r : Result X Y) (P : Type 0) → P → OnErr r P
on_err (Ok x) P p = tt
on_err (Err y) P p = p
