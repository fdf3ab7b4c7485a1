-- Without guards and without constructors no chunk has a finding.
use Rattle.std.proofs.Common.{◌≡◌, ℕ, List, [], ◌∷◌, ◌++◌, Option, Some, None, refl, ap, subst, ◌∙◌}
use Rattle.std.specs.List.{cons_option, filter_map, flat_map}
use Rattle.std.specs.Option.{option_map}
use Rattle.std.specs.Prelude.{option_and_then, slice_get}
use Rattle.std.proofs.lemmas.Option.{get_or_from_slice_get, slice_get_within}
use Rattle.buftag.specs.declared.finding.Finding.{Finding}
use Rattle.buftag.specs.declared.state.State.{State}
use Rattle.core_format.specs.declared.items.CacheItem.{CacheItem}
use Rattle.core_format.specs.declared.items.SlabItem.{SlabItem}
use Rattle.core_format.specs.declared.whole.Core.{Core}
use Rattle.core_format.specs.Chunks.{chunk_state, finding_in_cache, finding_in_slab, finding_in_state, slab_of_chunk}
use Rattle.heap_view.specs.Buffers.{chunks_of}
use Rattle.verify.specs.declared.line.Line.{Line}
use Rattle.verify.specs.Lines.{IsUntagged, chunk_line, findings_of, line_in_state, line_of, slab_lines}
use Rattle.verify.proofs.LineLemmas.{none_breaks}

in_slab : (core : Core) (chunk : ℕ) (state : State) (slab : SlabItem) → IsUntagged core → finding_in_slab core chunk state slab ≡ None
in_slab core chunk state slab bare = by_cache (slice_get core.caches slab.cache) refl
  where
    by_cache : (o : Option CacheItem) → slice_get core.caches slab.cache ≡ o → finding_in_slab core chunk state slab ≡ None
    by_cache None is = ap (λ (o : Option CacheItem). option_and_then (finding_in_cache core slab chunk state) o) is
    by_cache (Some item) is =
        let none = bare.unmade slab.cache item (slice_get_within core.caches slab.cache item is) in
        let unmade : item.def.ctor ≡ None = subst (λ (i : CacheItem). i.def.ctor ≡ None) (get_or_from_slice_get core.caches slab.cache item item is) none in
        none_breaks core slab.cache item is bare.unguarded unmade slab chunk state refl

in_state : (core : Core) (chunk : ℕ) (state : State) → IsUntagged core → finding_in_state core chunk state ≡ None
in_state core chunk state bare = by_slab (slab_of_chunk core chunk)
  where
    by_slab : (o : Option SlabItem) → option_and_then (finding_in_slab core chunk state) o ≡ None
    by_slab None = refl
    by_slab (Some slab) = in_slab core chunk state slab bare

no_line : (core : Core) (slab : SlabItem) (chunk : ℕ) → IsUntagged core → chunk_line core slab chunk ≡ None
no_line core slab chunk bare = by_state (chunk_state core chunk)
  where
    by_state : (o : Option State) → option_and_then (line_in_state core slab chunk) o ≡ None
    by_state None = refl
    by_state (Some state) = ap (λ (f : Option Finding). option_map (line_of core slab chunk state) f) (in_state core chunk state bare)

no_lines : (core : Core) (slab : SlabItem) (chunks : List ℕ) → IsUntagged core → filter_map (chunk_line core slab) chunks ≡ []
no_lines core slab [] bare = refl
no_lines core slab (chunk ∷ chunks) bare =
    ap (λ (o : Option Line). cons_option o (filter_map (chunk_line core slab) chunks)) (no_line core slab chunk bare) ∙ no_lines core slab chunks bare

none_of_slabs : (core : Core) (slabs : List SlabItem) → IsUntagged core → flat_map (slab_lines core) slabs ≡ []
none_of_slabs core [] bare = refl
none_of_slabs core (slab ∷ slabs) bare =
    ap (λ (lines : List Line). lines ++ flat_map (slab_lines core) slabs) (no_lines core slab (chunks_of core slab) bare) ∙ none_of_slabs core slabs bare

pub bare_findings : (core : Core) → IsUntagged core → findings_of core ≡ []
unfolding findings_of
bare_findings core bare = none_of_slabs core core.slabs bare
