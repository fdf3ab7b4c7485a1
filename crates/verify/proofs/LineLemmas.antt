-- Lines of one chunk more, and of one slab more.
use Rattle.std.proofs.Common.{◌≡◌, ℕ, ◌+◌, ◌<◌, List, [], ◌∷◌, ◌++◌, length, get_or, Option, Some, None, ◌*◌, ◌≤◌, Bool, true, false, cond, take, append_assoc, refl, sym, ap, subst, ◌∙◌, arith, add-one}
use Rattle.std.specs.List.{Contains, cons_option, filter_map}
use Rattle.std.specs.Prelude.{option_to_list}
use Rattle.std.proofs.lemmas.List.Elements.{filter_map-append}
use Rattle.std.proofs.lemmas.Bool.Decides.{nat_tests}
use Rattle.std.specs.Option.{option_map}
use Rattle.std.specs.Prelude.{option_and_then, slice_get}
use Rattle.buftag.specs.declared.finding.Finding.{Finding}
use Rattle.buftag.specs.declared.finding.Finding.TheVariants.{Unconstructed}
use Rattle.buftag.specs.declared.state.State.{State}
use Rattle.buftag.specs.declared.state.State.TheVariants.{Allocated, Free}
use Rattle.buftag.specs.Unconstructed.{unconstructed_at}
use Rattle.case_table.specs.Geometry.{content_of, tag_of}
use Rattle.case_table.specs.declared.slab_formulas.TheConstants.{TAG_BYTES}
use Rattle.core_format.specs.declared.cache_shape.CacheShape.{CacheShape}
use Rattle.core_format.specs.declared.items.CacheItem.{CacheItem}
use Rattle.core_format.specs.declared.items.SlabItem.{SlabItem}
use Rattle.core_format.specs.declared.whole.Core.{Core}
use Rattle.core_format.specs.Chunks.{chunk_address, chunk_bytes, chunk_state, core_shapes, finding_in_cache, finding_in_slab, guarded_finding, is_guarded_core, unguarded_finding}
use Rattle.core_format.specs.Slabs.{holds_chunk, past_chunks, shape_at}
use Rattle.core_format.proofs.LawLemmas.{follows}
use Rattle.core_format.proofs.RangeLemmas.{last_get}
use Rattle.heap_view.specs.Buffers.{buffer_bytes, numbers_from}
use Rattle.heap_view.specs.Layout.{IsLaidOut}
use Rattle.heap_view.proofs.BuffersLemmas.{bytes_are}
use Rattle.heap_view.proofs.LayoutLemmas.{slab_of_chunk-own}
use Rattle.heap_view.proofs.ListLemmas.{numbers_push}
use Rattle.verify.specs.declared.line.Line.{Line}
use Rattle.verify.specs.Lines.{NoneBreaks, chunk_line, line_in_state, line_of}

one_option : {X : Type 0} (o : Option X) → cons_option o [] ≡ option_to_list o
one_option None = refl
one_option (Some x) = refl

-- what a test gives of one number more
pub filter_map-numbers : {X : Type 0} (h : ℕ → Option X) (first i : ℕ) → filter_map h (numbers_from first (i + 1)) ≡ filter_map h (numbers_from first i) ++ option_to_list (h (first + i))
filter_map-numbers {X} h first i =
    ap (filter_map h) (numbers_push first i (i + 1) (add-one i))
    ∙ filter_map-append h (numbers_from first i) ((first + i) ∷ [])
    ∙ ap (λ (ys : List X). filter_map h (numbers_from first i) ++ ys) (one_option (h (first + i)))

-- lines behind others, with what is told of one number more
pub lines_more : (h : ℕ → Option Line) (first i : ℕ) (start old now : List Line) (line : Option Line) → old ≡ start ++ filter_map h (numbers_from first i) → now ≡ old ++ option_to_list line → line ≡ h (first + i)
    → now ≡ start ++ filter_map h (numbers_from first (i + 1))
lines_more h first i start old now line before put told =
    let kept = filter_map h (numbers_from first i) in
    put ∙ ap (λ (ls : List Line). ls ++ option_to_list line) before ∙ append_assoc start kept (option_to_list line)
    ∙ ap (λ (ls : List Line). start ++ ls) (ap (λ (o : Option Line). kept ++ option_to_list o) told ∙ sym (filter_map-numbers h first i))

-- the bytes of a content and of its tag
pub room_for_tag : (a b : ℕ) (guards : Bool) (chunk : ℕ) → a ≡ b → guards ≡ true → content_of a + tag_of guards ≤ chunk → content_of b + TAG_BYTES ≤ chunk
room_for_tag a b guards chunk same on le = subst (λ (n : ℕ). content_of n + TAG_BYTES ≤ chunk) same (subst (λ (g : Bool). content_of a + tag_of g ≤ chunk) on le)

-- a number within those of a slab
pub holds_from : (shapes : List CacheShape) (chunk : ℕ) (slab : SlabItem) → slab.first ≤ chunk → chunk < past_chunks shapes slab → holds_chunk shapes chunk slab ≡ true
holds_from shapes chunk slab low high = grind (arith, nat_tests)

-- what is told of a chunk of a slab, where this is wrong with it in its state
pub chunk_line-is : (core : Core) (slab : SlabItem) (chunk : ℕ) (state : State) (o : Option Finding) → IsLaidOut core → Contains core.slabs slab → holds_chunk (core_shapes core) chunk slab ≡ true
    → chunk_state core chunk ≡ Some state → o ≡ finding_in_slab core chunk state slab → chunk_line core slab chunk ≡ option_map (line_of core slab chunk state) o
chunk_line-is core slab chunk state o laid has holds in_state found =
    let own = slab_of_chunk-own core slab chunk laid has holds in
    ap (λ (s : Option State). option_and_then (line_in_state core slab chunk) s) in_state
    ∙ ap (λ (s : Option SlabItem). option_map (line_of core slab chunk state) (option_and_then (finding_in_slab core chunk state) s)) own
    ∙ ap (λ (f : Option Finding). option_map (line_of core slab chunk state) f) (sym found)

-- a cache that stands in the list of caches
pub cache_at : (core : Core) (cache : ℕ) (caches : List CacheItem) (item : CacheItem) → caches ≡ core.caches → item ≡ get_or caches cache item → item ≡ get_or core.caches cache item
cache_at core cache caches item same at = subst (λ (items : List CacheItem). item ≡ get_or items cache item) same at

pub cache_bytes : (core : Core) (cache : ℕ) (item : CacheItem) → cache < length core.caches → item ≡ get_or core.caches cache item → buffer_bytes core cache ≡ item.def.size
cache_bytes core cache item lt at = bytes_are core cache item lt ∙ sym (ap (λ (i : CacheItem). i.def.size) at)

pub cache_got : (core : Core) (cache : ℕ) (item : CacheItem) → cache < length core.caches → item ≡ get_or core.caches cache item → slice_get core.caches cache ≡ Some item
cache_got core cache item lt at = last_get core.caches cache item lt ∙ ap (λ (i : CacheItem). Some i) (sym at)

-- where a chunk of a slab stands
pub chunk_address-is : (core : Core) (slab : SlabItem) (index chunk place : ℕ) → place ≡ slab.colour + index * chunk → (shape_at (core_shapes core) slab.cache).chunk ≡ chunk → slab.base + place ≡ chunk_address (core_shapes core) slab (slab.first + index)
chunk_address-is core slab index chunk place at same =
    ap (λ (n : ℕ). slab.base + n) at ∙ ap (λ (k : ℕ). slab.base + (slab.colour + index * k)) (sym same)
    ∙ sym (follows slab.base slab.colour slab.first index (shape_at (core_shapes core) slab.cache).chunk)

-- what is wrong with a chunk, as it is found with guards, and without
pub finding-guarded : (core : Core) (slab : SlabItem) (chunk : ℕ) (state : State) (item : CacheItem) (bytes : List ℕ) (r : Option Finding) → slice_get core.caches slab.cache ≡ Some item → is_guarded_core core ≡ true
    → bytes ≡ chunk_bytes (core_shapes core) slab chunk → r ≡ guarded_finding item slab.cache chunk bytes state → r ≡ finding_in_slab core chunk state slab
finding-guarded core slab chunk state item bytes r got guards at e =
    let with = guarded_finding item slab.cache chunk (chunk_bytes (core_shapes core) slab chunk) state in
    let without = unguarded_finding item (chunk_bytes (core_shapes core) slab chunk) state in
    e ∙ ap (λ (bs : List ℕ). guarded_finding item slab.cache chunk bs state) at
    ∙ sym (ap (λ (o : Option CacheItem). option_and_then (finding_in_cache core slab chunk state) o) got ∙ ap (λ (b : Bool). cond b with without) guards)

pub finding-unguarded : (core : Core) (slab : SlabItem) (chunk : ℕ) (state : State) (item : CacheItem) (bytes : List ℕ) (r : Option Finding) → slice_get core.caches slab.cache ≡ Some item → is_guarded_core core ≡ false
    → bytes ≡ chunk_bytes (core_shapes core) slab chunk → r ≡ unguarded_finding item bytes state → r ≡ finding_in_slab core chunk state slab
finding-unguarded core slab chunk state item bytes r got guards at e =
    let with = guarded_finding item slab.cache chunk (chunk_bytes (core_shapes core) slab chunk) state in
    let without = unguarded_finding item (chunk_bytes (core_shapes core) slab chunk) state in
    e ∙ ap (λ (bs : List ℕ). unguarded_finding item bs state) at
    ∙ sym (ap (λ (o : Option CacheItem). option_and_then (finding_in_cache core slab chunk state) o) got ∙ ap (λ (b : Bool). cond b with without) guards)

-- ---- caches that no finding is of

unmade : (item : CacheItem) (bytes : List ℕ) (state : State) → item.def.ctor ≡ None → unguarded_finding item bytes state ≡ None
unmade item bytes Allocated none = refl
unmade item bytes Free none = ap (λ (o : Option ℕ). option_and_then (λ value. option_map Unconstructed (unconstructed_at (take item.def.size bytes) value)) o) none

pub none_breaks : (core : Core) (cache : ℕ) (item : CacheItem) → slice_get core.caches cache ≡ Some item → is_guarded_core core ≡ false → item.def.ctor ≡ None → NoneBreaks core cache
none_breaks core cache item got guards none slab chunk state its =
    let bytes = chunk_bytes (core_shapes core) slab chunk in
    let there : slice_get core.caches slab.cache ≡ Some item = ap (λ (c : ℕ). slice_get core.caches c) its ∙ got in
    sym (finding-unguarded core slab chunk state item bytes None there guards refl (sym (unmade item bytes state none)))

-- of a chunk that can have no finding nothing is told
pub none_told : (core : Core) (slab : SlabItem) (chunk : ℕ) → IsLaidOut core → Contains core.slabs slab → holds_chunk (core_shapes core) chunk slab ≡ true → NoneBreaks core slab.cache
    → chunk_line core slab chunk ≡ None
none_told core slab chunk laid has holds none = go (chunk_state core chunk) refl
  where
    go : (o : Option State) → chunk_state core chunk ≡ o → chunk_line core slab chunk ≡ None
    go None is = ap (λ (s : Option State). option_and_then (line_in_state core slab chunk) s) is
    go (Some state) is = chunk_line-is core slab chunk state None laid has holds is (sym (none slab chunk state refl))
