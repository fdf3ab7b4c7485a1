-- The chunks of slabs: where they lie, what they hold, and what a state becomes by one of them.
use Rattle.std.proofs.Common.{◌≡◌, ◌≢◌, ℕ, zero, suc, ◌+◌, ◌-◌, ◌*◌, ◌/◌, ◌<◌, ◌≤◌, ◌⊎◌, inl, inr, Bool, true, false, cond, eqb, List, [], ◌∷◌, ◌++◌, drop, get_or, length, map, replicate, Option, Some, None, refl, sym, ap, ◌∙◌, subst, arith, length-append, length-drop}
use Rattle.std.specs.Prelude.{◌||◌, ◌↔◌, AllPairs, Contains, find, slice_index}
use Rattle.std.specs.Option.{option_and_then, option_map_or}
use Rattle.std.proofs.lemmas.Bool.{and_from, and_parts, cases_lt, eq-eqb, eqb-true, false≢true, le-leb, le-ltb, leb-true, lt-ltb, ltb-true}
use Rattle.std.proofs.lemmas.List.{get_or_past, length-replicate}
use Rattle.std.proofs.lemmas.List.Elements.{Contains-append_left, Contains-append_right}
use Rattle.std.proofs.lemmas.List.FromFn.{fill_by_all}
use Rattle.std.proofs.Math.Nat.{div-lt_iff_lt-mul, mul-div_cancel, mul-lt-mul_of_pos_right}
use Rattle.umem_base.specs.declared.span.Span.{Span}
use Rattle.umem_base.specs.Pages.{pages_for}
use Rattle.umem_base.specs.Span.{span_end}
use Rattle.umem_base.proofs.Lists.{Contains-here, Contains-there}
use Rattle.umem_base.proofs.OrderedLemmas.{Contains-cases, Contains-nil}
use Rattle.case_table.specs.declared.cache_def.CacheDef.{CacheDef}
use Rattle.case_table.specs.declared.slab_formulas.TheConstants.{TAG_BYTES}
use Rattle.case_table.specs.declared.slab_quantities.Geometry.{Geometry}
use Rattle.case_table.specs.Addresses.{bufctl_address}
use Rattle.case_table.specs.CacheDef.{IsCacheDef, class_def}
use Rattle.case_table.specs.Geometry.{IsSlabGeometry, KeepsChunksApart, chunk_at, colour_of, content_of, geometry_of, tag_of}
use Rattle.case_table.specs.Sizes.{size_of}
use Rattle.case_table.proofs.SizesLemmas.{least_from_class, size_of-words}
use Rattle.case_table.proofs.GeometryLemmas.{chunks_stand, geometry_is_sound}
use Rattle.addr_space.specs.Space.{AreBytesAt, IsInRun, IsMappedRange, IsSound as IsSoundSpace, Space, Writes, byte_at, runs_of}
use Rattle.buftag.specs.declared.finding.Finding.{Finding}
use Rattle.buftag.specs.declared.shape.Shape.{Shape}
use Rattle.buftag.specs.declared.state.State.{State as ChunkState}
use Rattle.buftag.specs.Findings.{finding}
use Rattle.buftag.specs.Shape.{shape_of_cache, shape_of_class}
use Rattle.buftag.specs.Written.{allocated_chunk, free_chunk}
use Rattle.buftag.proofs.WrittenLemmas.{length-free_chunk}
use Rattle.script.specs.Rules.{IsHeader}
use Rattle.plain_heap.specs.declared.held.Held.{Held}
use Rattle.plain_heap.specs.Bytes.{Bytes, bytes_from, is_within, with_stored}
use Rattle.plain_heap.specs.Laws.{AreSeparate, StandApart, large}
use Rattle.plain_heap.specs.Replies.{finding_at, finding_of_chunk}
use Rattle.plain_heap.specs.Setting.{IsCache, Setting, cache_def_in, def_of, geometry_in, shape_in}
use Rattle.plain_heap.specs.State.{HeapSlab, IsChunkOf, State, begins_chunk, chunk_number, chunk_start, constructed, freed_chunk, give_back, hand_out, handed_chunk, held_at, is_mapped, is_taken, is_in_span, made_chunk, slab_with_chunk, span_of_slab, spans_of, with_bytes_of, with_chunk_at}
use Rattle.plain_heap.proofs.PairsLemmas.{Contains-seen, pair_of}
use Rattle.plain_heap.proofs.SettingLemmas.{cache_has_shape, def_of-class, def_of-declared}
use Rattle.plain_heap.proofs.SlabOfChunk.{begins, begun, find_alone, find_found}
use Rattle.heap_memory.specs.declared.chunk.Chunk.{Chunk}
use Rattle.heap_memory.specs.declared.chunk_kind.ChunkKind.{ChunkKind}
use Rattle.heap_memory.specs.Chunks.{IsChunkAt, IsKind, IsRequested, WritesAt, bytes_of_kind, kind_in, shape_of_kind}
use Rattle.heap_memory.specs.Laws.{chunk_of_slab}
use Rattle.heap_memory.specs.Memory.{IsMemoryOf, Memory}
use Rattle.heap_memory.specs.Pages.{HasSpan}
use Rattle.heap_memory.specs.States.{HasSlabAt, IsLargeAt}
use Rattle.heap_memory.proofs.PagesLemmas.{alike}
use Rattle.heap_memory.proofs.StateLemmas.{chunk_members, large_pages, large_run, pairs_of_first, pairs_seen, slab_and_large}
use Rattle.heap_memory.proofs.WriteLemmas.{bytes_there, stored_beside, stored_here, written}

-- ---- kinds

-- whatever its number, a cache has a size and an alignment that a cache may have
pub any_shape : (setting : Setting) (cache : ℕ) → IsHeader setting.header → IsCacheDef (cache_def_in setting cache)
any_shape setting cache header =
    let caches = setting.header.caches in
    elim (cases_lt cache (32 + length caches)) [
      | inl is ↦ cache_has_shape setting cache header is
      | inr past ↦
          let none : get_or caches (cache - 32) (class_def 0) ≡ class_def 0 = get_or_past caches (cache - 32) (class_def 0) (omega arith) in
          let zeroth = subst IsCacheDef (def_of-class caches 0 (omega arith)) (cache_has_shape setting 0 header (omega arith)) in
          subst IsCacheDef (sym (def_of-declared caches cache (omega arith) ∙ none)) zeroth
    ]

pub kind_sound : (setting : Setting) (cache : ℕ) → IsHeader setting.header → IsKind (kind_in setting cache)
kind_sound setting cache header =
    let shape = any_shape setting cache header in
    record {
      some = shape.some;
      small = shape.fits;
      class = λ lt. ap (λ (def : CacheDef). def.size) (def_of-class setting.header.caches cache lt);
    }

pub any_geometry : (setting : Setting) (cache : ℕ) → IsHeader setting.header
    → IsSlabGeometry (cache_def_in setting cache).size (cache_def_in setting cache).align setting.guards (geometry_in setting cache)
any_geometry setting cache header =
    let def = cache_def_in setting cache in geometry_is_sound def.size def.align setting.guards (any_shape setting cache header)

pub any_chunks : (setting : Setting) (cache made : ℕ) → IsHeader setting.header → KeepsChunksApart (cache_def_in setting cache).align made (geometry_in setting cache)
any_chunks setting cache made header =
    let def = cache_def_in setting cache in chunks_stand def.size def.align setting.guards made (any_shape setting cache header)

pub content_in : (setting : Setting) (cache : ℕ) → (geometry_in setting cache).content ≡ content_of (cache_def_in setting cache).size
unfolding geometry_of
content_in setting cache = refl

-- ---- the slab of a chunk

-- the chunks of a slab follow one another
step : (base colour index chunk : ℕ) → (base + (colour + index * chunk)) - (base + (colour + 0 * chunk)) ≡ index * chunk
step base colour index chunk = omega arith

divided : (index chunk : ℕ) → 0 < chunk → index * chunk / chunk ≡ index
divided index chunk some = mul-div_cancel index some

-- where a chunk of the slab begins, one begins by its place, and its number is that of the place
pub index_is : (setting : Setting) (slab : HeapSlab) (index : ℕ) → 8 ≤ (geometry_in setting slab.cache).chunk
    → (chunk_start setting slab index - chunk_start setting slab 0) / (geometry_in setting slab.cache).chunk ≡ index
index_is setting slab index some =
    let g = geometry_in setting slab.cache in
    ap (λ (n : ℕ). n / g.chunk) (step slab.base (colour_of (cache_def_in setting slab.cache).align g.leftover slab.made) index g.chunk) ∙ divided index g.chunk (omega arith)

-- a chunk of a slab lies in the slab's pages
pub chunk_lies : (setting : Setting) (slab : HeapSlab) (address : ℕ) → IsHeader setting.header → IsChunkOf setting slab address
    → (slab.base ≤ address) × (address + (geometry_in setting slab.cache).chunk ≤ span_end (span_of_slab setting slab))
chunk_lies setting slab address header chunk =
    let g = geometry_in setting slab.cache in
    let stand = any_chunks setting slab.cache slab.made header in
    moved slab.base (chunk_at (cache_def_in setting slab.cache).align slab.made g chunk.index) g.chunk g.pages address chunk.there (stand.inside chunk.index chunk.within)
  where
    moved : (base at chunk pages address : ℕ) → address ≡ base + at → at + chunk ≤ pages * 4096 → (base ≤ address) × (address + chunk ≤ base + 4096 * pages)
    moved base at chunk pages address there inside = (omega arith, omega arith)

-- what is known of a chunk that is found
pub record IsSeen (setting : Setting) (state : State) (slab : HeapSlab) (address : ℕ) : Type 0 where
  pub stands : Contains state.slabs slab
  pub begins : IsChunkOf setting slab address
  pub low : slab.base ≤ address
  pub high : address + (geometry_in setting slab.cache).chunk ≤ span_end (span_of_slab setting slab)
  pub some : 8 ≤ (geometry_in setting slab.cache).chunk

pub seen : (setting : Setting) (state : State) (slab : HeapSlab) (address : ℕ) → IsHeader setting.header → slab_with_chunk setting state.slabs address ≡ Some slab → IsSeen setting state slab address
seen setting state slab address header found =
    let both = find_found (λ (s : HeapSlab). begins_chunk setting s address) state.slabs slab found in
    let some = (any_geometry setting slab.cache header).chunk_some in
    let chunk = begun setting slab address (omega (arith, some)) both.1 in
    let lies = chunk_lies setting slab address header chunk in
    record { stands = both.0; begins = chunk; low = lies.0; high = lies.1; some = some }

-- the chunk at a place of a slab that stands is found there
pub found_at_place : (setting : Setting) (state : State) (slab : HeapSlab) (index : ℕ) → IsHeader setting.header → AreSeparate setting state → Contains state.slabs slab
    → index < (geometry_in setting slab.cache).rounds → IsChunkAt (kind_in setting slab.cache) (chunk_of_slab setting slab index) setting state
found_at_place setting state slab index header separate stands less =
    let some = (any_geometry setting slab.cache header).chunk_some in
    let at = chunk_start setting slab index in
    let here = chunk_lies setting slab at header (record { index = index; within = less; there = refl }) in
    let apart = pairs_seen StandApart (span_of_slab setting) state.slabs (pairs_of_first StandApart (map (span_of_slab setting) state.slabs) _ separate.apart) in
    record {
      its_kind = refl;
      slab = slab;
      found = find_alone (λ (s : HeapSlab). begins_chunk setting s at) state.slabs slab stands (begins setting slab at (omega (arith, some)) (record { index = index; within = less; there = refl })) (λ other there passes.
          let more = (any_geometry setting other.cache header).chunk_some in
          let lies = chunk_lies setting other at header (begun setting other at (omega (arith, more)) passes) in
          elim (pair_of (λ (a b : HeapSlab). StandApart (span_of_slab setting a) (span_of_slab setting b)) state.slabs other slab apart there stands) [
            | inl same ↦ same
            | inr (inl (inl below)) ↦ absurd (omega (arith, below, lies.1, here.0, more))
            | inr (inl (inr above)) ↦ absurd (omega (arith, above, lies.0, here.1, some))
            | inr (inr (inl below)) ↦ absurd (omega (arith, below, lies.0, here.1, some))
            | inr (inr (inr above)) ↦ absurd (omega (arith, above, lies.1, here.0, more))
          ]);
      its_cache = refl;
      its_number = ap (λ (i : ℕ). slab.first + i) (sym (index_is setting slab index some));
    }

-- a chunk lies inside of one run of the memory
pub chunk_in_run : (setting : Setting) (state : State) (memory : Memory) (kind : ChunkKind) (chunk : Chunk) → IsHeader setting.header → IsMemoryOf setting state memory → IsChunkAt kind chunk setting state
    → IsInRun (runs_of memory.space) chunk.address (bytes_of_kind kind)
chunk_in_run setting state memory kind chunk header is at =
    let slab = at.slab in
    let there = seen setting state slab chunk.address header at.found in
    let run = span_of_slab setting slab in
    let inside = is.runs run (Contains-append_left (map (span_of_slab setting) state.slabs) _ run (Contains-seen (span_of_slab setting) state.slabs slab there.stands)) in
    let fits = (any_geometry setting slab.cache header).tag_fits in
    let kinds : kind ≡ kind_in setting slab.cache = at.its_kind ∙ ap (kind_in setting) (sym at.its_cache) in
    let small : bytes_of_kind (kind_in setting slab.cache) ≤ (geometry_in setting slab.cache).chunk =
    subst (λ (n : ℕ). n + tag_of setting.guards ≤ (geometry_in setting slab.cache).chunk) (content_in setting slab.cache) fits in
    let little : bytes_of_kind kind ≤ (geometry_in setting slab.cache).chunk = subst (λ (k : ChunkKind). bytes_of_kind k ≤ (geometry_in setting slab.cache).chunk) (sym kinds) small in
    (run, inside, there.low, within_end chunk.address (bytes_of_kind kind) (geometry_in setting slab.cache).chunk (span_end run) little there.high)
  where
    within_end : (a n c e : ℕ) → n ≤ c → a + c ≤ e → a + n ≤ e
    within_end a n c e little high = omega arith

-- a live large buffer has a span of the arena
pub large_has_span : (setting : Setting) (state : State) (memory : Memory) (address : ℕ) → IsMemoryOf setting state memory → IsLargeAt address setting state → HasSpan memory address
large_has_span setting state memory address is at =
    let run : Span = record { base = address; pages = pages_for at.size } in
    (pages_for at.size, (is.spans run).1 (Contains-append_right (map (span_of_slab setting) state.slabs) _ run (large_run setting state at.separate address at.size at.lives)))

-- and so has a slab that stands
pub slab_has_span : (setting : Setting) (state : State) (memory : Memory) (base : ℕ) → IsMemoryOf setting state memory → HasSlabAt base setting state → HasSpan memory base
slab_has_span setting state memory base is at =
    let run = span_of_slab setting at.slab in
    let there = (is.spans run).1 (Contains-append_left (map (span_of_slab setting) state.slabs) _ run (Contains-seen (span_of_slab setting) state.slabs at.slab at.stands)) in
    subst (λ (b : ℕ). HasSpan memory b) at.there (run.pages, there)

-- ---- kinds and settings

guards_are : (setting : Setting) (kind : ChunkKind) (on : Bool) → kind ≡ kind_in setting kind.cache → kind.guards ≡ on → setting.guards ≡ on
guards_are setting kind on is guards = sym (ap (λ (k : ChunkKind). k.guards) is) ∙ guards

shape_is : (setting : Setting) (kind : ChunkKind) (number : ℕ) (shape : Shape) → kind ≡ kind_in setting kind.cache → shape ≡ shape_of_kind kind number → shape ≡ shape_in setting kind.cache number
shape_is setting kind number shape is e = e ∙ ap (λ (k : ChunkKind). shape_of_kind k number) is

pub freed_with_guards : (setting : Setting) (kind : ChunkKind) (number : ℕ) (shape : Shape) → kind ≡ kind_in setting kind.cache → kind.guards ≡ true → shape ≡ shape_of_kind kind number
    → free_chunk shape ≡ freed_chunk setting kind.cache number
freed_with_guards setting kind number shape is guards e =
    ap free_chunk (shape_is setting kind number shape is e)
    ∙ sym (ap (λ (b : Bool). cond b (free_chunk (shape_in setting kind.cache number)) []) (guards_are setting kind true is guards))

pub made_with_guards : (setting : Setting) (kind : ChunkKind) (number : ℕ) (shape : Shape) → kind ≡ kind_in setting kind.cache → kind.guards ≡ true → shape ≡ shape_of_kind kind number
    → free_chunk shape ≡ made_chunk setting kind.cache number
made_with_guards setting kind number shape is guards e =
    let def = cache_def_in setting kind.cache in
    ap free_chunk (shape_is setting kind number shape is e)
    ∙ sym (ap (λ (b : Bool). cond b (free_chunk (shape_in setting kind.cache number)) (constructed def.ctor def.size [])) (guards_are setting kind true is guards))

pub handed_with_guards : (setting : Setting) (kind : ChunkKind) (number requested : ℕ) (zeroed : Bool) (shape : Shape) → kind ≡ kind_in setting kind.cache → kind.guards ≡ true → shape ≡ shape_of_kind kind number
    → constructed kind.ctor kind.size (allocated_chunk shape requested zeroed) ≡ handed_chunk setting kind.cache number requested zeroed
handed_with_guards setting kind number requested zeroed shape is guards e =
    let def = cache_def_in setting kind.cache in
    ap (λ (k : ChunkKind). constructed k.ctor k.size (allocated_chunk shape requested zeroed)) is
    ∙ ap (λ (s : Shape). constructed def.ctor def.size (allocated_chunk s requested zeroed)) (shape_is setting kind number shape is e)
    ∙ sym (ap (λ (b : Bool). cond b (constructed def.ctor def.size (allocated_chunk (shape_in setting kind.cache number) requested zeroed)) (cond zeroed (replicate requested 0) [])) (guards_are setting kind true is guards))

content_holds : (size : ℕ) → size ≤ content_of size
content_holds size = omega arith

-- the content of a kind's chunks
content_is : (setting : Setting) (kind : ChunkKind) (number : ℕ) → IsKind kind → kind ≡ kind_in setting kind.cache → (shape_in setting kind.cache number).content ≡ content_of kind.size
content_is setting kind number is e =
    ap (λ (k : ChunkKind). (shape_of_kind k number).content) (sym e) ∙ elim (cases_lt kind.cache 32) [
      | inl lt ↦ ap (λ (b : Bool). (cond b (shape_of_class kind.cache (bufctl_address number)) (shape_of_cache kind.size (bufctl_address number))).content) (lt-ltb kind.cache 32 lt) ∙ sym (size_of-words kind.cache lt) ∙ ap content_of (sym (is.class lt))
      | inr le ↦ ap (λ (b : Bool). (cond b (shape_of_class kind.cache (bufctl_address number)) (shape_of_cache kind.size (bufctl_address number))).content) (le-ltb kind.cache 32 le)
    ]

-- what a chunk gets when its slab is made, fits it
pub made_fits : (setting : Setting) (kind : ChunkKind) (number : ℕ) → IsKind kind → kind ≡ kind_in setting kind.cache → length (made_chunk setting kind.cache number) ≤ bytes_of_kind kind
made_fits setting kind number is e = go setting.guards refl
  where
    bare : (ctor : Option ℕ) (size : ℕ) → length (constructed ctor size []) ≤ size
    bare None size = omega arith
    bare (Some byte) size = omega (arith, length-append (replicate size byte) (drop size []), length-replicate {A = ℕ} size byte, length-drop {A = ℕ} size [])

    go : (on : Bool) → setting.guards ≡ on
        → length (cond on (free_chunk (shape_in setting kind.cache number)) (constructed (cache_def_in setting kind.cache).ctor (cache_def_in setting kind.cache).size [])) ≤ bytes_of_kind kind
    go true on =
        let tag : tag_of kind.guards ≡ 24 = ap (λ (k : ChunkKind). tag_of k.guards) e ∙ ap tag_of on in
        omega (arith, length-free_chunk (shape_in setting kind.cache number), content_is setting kind number is e, tag)
    go false off =
        let def = cache_def_in setting kind.cache in
        let same : kind.size ≡ def.size = ap (λ (k : ChunkKind). k.size) e in
        omega (arith, bare def.ctor def.size, same, content_holds kind.size)

-- a size that may be requested of a kind is one that it holds
pub requested_fits : (kind : ChunkKind) (requested : ℕ) → IsKind kind → IsRequested kind requested → (0 < requested) × (requested ≤ kind.size)
requested_fits kind requested is asked = elim (cases_lt kind.cache 32) [
  | inl lt ↦
      let least = least_from_class requested kind.cache (asked.class lt) in
      (least.some, subst (λ (n : ℕ). requested ≤ n) (sym (is.class lt)) least.holds)
  | inr le ↦ let same = asked.declared le in (omega (arith, is.some), omega arith)
]

-- the front of a chunk is inside of the run that the chunk is in
pub front_in_run : (runs : List Span) (at count more : ℕ) → count ≤ more → IsInRun runs at more → IsInRun runs at count
front_in_run runs at count more less inside = (inside.0, inside.1, inside.2, omega (arith, inside.3))

pub request_in_run : (runs : List Span) (at requested : ℕ) (kind : ChunkKind) → IsKind kind → IsRequested kind requested → IsInRun runs at (bytes_of_kind kind) → IsInRun runs at requested
request_in_run runs at requested kind is asked inside =
    front_in_run runs at requested (bytes_of_kind kind) (omega (arith, (requested_fits kind requested is asked).1, content_holds kind.size)) inside

-- ---- what a chunk gets

-- what is written at a chunk that is found, byte by byte
pub chunk_byte : (setting : Setting) (state : State) (kind : ChunkKind) (chunk : Chunk) (what : ℕ → ℕ → List ℕ) → IsChunkAt kind chunk setting state
    → (a : ℕ) → with_chunk_at setting state chunk.address what a ≡ with_stored state.bytes chunk.address (what kind.cache chunk.number) a
chunk_byte setting state kind chunk what at a =
    ap (λ (found : Option HeapSlab). option_map_or (λ slab. with_stored state.bytes chunk.address (what slab.cache (chunk_number setting slab chunk.address))) found state.bytes a) at.found
    ∙ ap (λ (cache : ℕ). with_stored state.bytes chunk.address (what cache (chunk_number setting at.slab chunk.address)) a) at.its_cache
    ∙ ap (λ (number : ℕ). with_stored state.bytes chunk.address (what kind.cache number) a) (sym at.its_number)

-- the memory of a state is that of what it becomes by the bytes of one chunk
pub chunk_written : (setting : Setting) (state next : State) (old new : Memory) (kind : ChunkKind) (chunk : Chunk) (what : ℕ → ℕ → List ℕ)
    → IsMemoryOf setting state old → IsChunkAt kind chunk setting state → IsMappedRange old.space chunk.address (length (what kind.cache chunk.number))
    → WritesAt old.space new.space chunk.address (what kind.cache chunk.number) → new.arena ≡ old.arena → spans_of setting next ≡ spans_of setting state
    → ((a : ℕ) → next.bytes a ≡ with_chunk_at setting state chunk.address what a) → IsMemoryOf setting next new
chunk_written setting state next old new kind chunk what was at there writes arena same bytes =
    let list = what kind.cache chunk.number in
    written setting state next old new chunk.address (length list) (slice_index list) was same arena there writes
    (λ k lt. bytes (chunk.address + k) ∙ chunk_byte setting state kind chunk what at (chunk.address + k) ∙ stored_here state.bytes chunk.address list k lt)
    (λ a out. bytes a ∙ chunk_byte setting state kind chunk what at a ∙ stored_beside state.bytes chunk.address list a out)

-- a chunk is taken back
pub chunk_taken_back : (setting : Setting) (state : State) (old new : Memory) (kind : ChunkKind) (chunk : Chunk) → IsHeader setting.header → AreSeparate setting state
    → IsMemoryOf setting state old → IsChunkAt kind chunk setting state → IsMappedRange old.space chunk.address (length (freed_chunk setting kind.cache chunk.number))
    → WritesAt old.space new.space chunk.address (freed_chunk setting kind.cache chunk.number) → new.arena ≡ old.arena → IsMemoryOf setting (give_back setting state chunk.address) new
chunk_taken_back setting state old new kind chunk header separate was at there writes arena =
    let between = with_bytes_of state (with_chunk_at setting state chunk.address (freed_chunk setting)) in
    let half = chunk_written setting state between old new kind chunk (freed_chunk setting) was at there writes arena refl (λ a. refl) in
    let place = seen setting state at.slab chunk.address header at.found in
    alike setting between (give_back setting state chunk.address) new half
    (λ span. chunk_members setting state separate at.slab chunk.address span place.stands place.low (omega (arith, place.high, place.some)))
    (λ a. refl)

-- no chunk begins where a large buffer lives
pub no_chunk_at_large : (setting : Setting) (state : State) (at size : ℕ) → IsHeader setting.header → AreSeparate setting state → held_at state.live at ≡ Some (large size)
    → slab_with_chunk setting state.slabs at ≡ None
no_chunk_at_large setting state at size header separate lives = none_unless (slab_with_chunk setting state.slabs at) (λ slab found.
    let place = seen setting state slab at header found in
    let its = large_run setting state separate at size lives in
    elim (slab_and_large setting state separate (span_of_slab setting slab) _ (Contains-seen (span_of_slab setting) state.slabs slab place.stands) its) [
      | inl below ↦ omega (arith, below, place.high, place.some)
      | inr above ↦ omega (arith, above, place.low, large_pages setting state separate at size lives)
    ])
  where
    none_unless : (x : Option HeapSlab) → ((slab : HeapSlab) → x ≡ Some slab → ⊥) → x ≡ None
    none_unless None h = refl
    none_unless (Some slab) h = absurd (h slab refl)

-- so that its bytes stay
pub large_bytes : (setting : Setting) (state : State) (at size : ℕ) → IsHeader setting.header → AreSeparate setting state → held_at state.live at ≡ Some (large size)
    → (a : ℕ) → (give_back setting state at).bytes a ≡ state.bytes a
large_bytes setting state at size header separate lives a =
    ap (λ (found : Option HeapSlab). option_map_or (λ slab. with_stored state.bytes at (freed_chunk setting slab.cache (chunk_number setting slab at))) found state.bytes a)
    (no_chunk_at_large setting state at size header separate lives)

-- ---- what a chunk's bytes tell

pub bytes_told : (setting : Setting) (state : State) (memory : Memory) (address count : ℕ) (bytes : List ℕ)
    → IsMemoryOf setting state memory → AreBytesAt memory.space address count bytes → bytes ≡ bytes_from state.bytes address count
bytes_told setting state memory address count bytes is there =
    fill_by_all (λ k. state.bytes (address + k)) bytes count 0 there.0
    (λ k lt. sym (bytes_there setting state memory is address count (slice_index bytes) there.1 k lt))

pub finding_told : (setting : Setting) (state : State) (memory : Memory) (kind : ChunkKind) (chunk : Chunk) (as_one : ChunkState) (shape : Shape) (bytes : List ℕ)
    → IsMemoryOf setting state memory → IsChunkAt kind chunk setting state → kind.guards ≡ true → shape ≡ shape_of_kind kind chunk.number
    → AreBytesAt memory.space chunk.address (shape.content + TAG_BYTES) bytes → finding bytes shape as_one ≡ finding_at setting state chunk.address as_one
finding_told setting state memory kind chunk as_one shape bytes is at guards is_shape there =
    let on : setting.guards ≡ true = sym (ap (λ (k : ChunkKind). k.guards) at.its_kind) ∙ guards in
    let its : shape_in setting at.slab.cache (chunk_number setting at.slab chunk.address) ≡ shape =
    ap (λ (cache : ℕ). shape_in setting cache (chunk_number setting at.slab chunk.address)) at.its_cache
    ∙ ap (λ (number : ℕ). shape_in setting kind.cache number) (sym at.its_number)
    ∙ ap (λ (k : ChunkKind). shape_of_kind k chunk.number) (sym at.its_kind) ∙ sym is_shape in
    let same = bytes_told setting state memory chunk.address (shape.content + TAG_BYTES) bytes is there in
    sym (
    ap (λ (b : Bool). cond b (option_and_then (finding_of_chunk setting state chunk.address as_one) (slab_with_chunk setting state.slabs chunk.address)) None) on
    ∙ ap (λ (found : Option HeapSlab). option_and_then (finding_of_chunk setting state chunk.address as_one) found) at.found
    ∙ ap (λ (s : Shape). finding (bytes_from state.bytes chunk.address (s.content + TAG_BYTES)) s as_one) its
    ∙ ap (λ (list : List ℕ). finding list shape as_one) (sym same))

pub finding_without_guards : (setting : Setting) (state : State) (kind : ChunkKind) (chunk : Chunk) (as_one : ChunkState) → IsChunkAt kind chunk setting state → kind.guards ≡ false
    → finding_at setting state chunk.address as_one ≡ None
finding_without_guards setting state kind chunk as_one at off =
    let none : setting.guards ≡ false = sym (ap (λ (k : ChunkKind). k.guards) at.its_kind) ∙ off in
    ap (λ (b : Bool). cond b (option_and_then (finding_of_chunk setting state chunk.address as_one) (slab_with_chunk setting state.slabs chunk.address)) None) none
