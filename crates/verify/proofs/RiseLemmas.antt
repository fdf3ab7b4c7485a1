-- The lines of a core rise by address, as its chunks do.
use Rattle.std.proofs.Common.{◌≡◌, ℕ, ◌<◌, Bool, cond, List, [], ◌∷◌, ◌++◌, length, map, filter, Option, Some, None, refl, sym, ap, subst, ◌∙◌, arith}
use Rattle.std.specs.List.{AllPairs, cons_option, filter_map, flat_map}
use Rattle.std.specs.Option.{option_map}
use Rattle.std.specs.Prelude.{is_some, option_and_then}
use Rattle.std.proofs.lemmas.List.{get_or-map, length-map, map-append}
use Rattle.std.proofs.lemmas.Simd.{map-map}
use Rattle.buftag.specs.declared.finding.Finding.{Finding}
use Rattle.buftag.specs.declared.state.State.{State}
use Rattle.core_format.specs.declared.items.SlabItem.{SlabItem}
use Rattle.core_format.specs.declared.whole.Core.{Core}
use Rattle.core_format.specs.Chunks.{chunk_state, finding_in, finding_in_state}
use Rattle.heap_view.specs.declared.buffer.Buffer.{Buffer}
use Rattle.heap_view.specs.Buffers.{chunk_buffer, chunk_buffers, chunks_of, slab_buffers}
use Rattle.heap_view.specs.Layout.{IsLaidOut}
use Rattle.heap_view.proofs.BuffersLemmas.{chunks_apart, chunks_sound}
use Rattle.verify.specs.declared.line.Line.{Line}
use Rattle.verify.specs.Lines.{IsLineBelow, chunk_line, findings_of, line_in_state, line_of, slab_lines}

-- something is wrong with the chunk
is_found : Core → ℕ → Bool
is_found core n = is_some (finding_in core n)

place : Core → SlabItem → ℕ → ℕ
place core slab n = (chunk_buffer core slab n).address

-- the line of a chunk tells where its buffer begins
line_place : (core : Core) (slab : SlabItem) (n : ℕ) → option_map (λ (l : Line). l.address) (chunk_line core slab n) ≡ option_map (λ (f : Finding). place core slab n) (finding_in core n)
unfolding place
line_place core slab n = by_state (chunk_state core n)
  where
    by_finding : (state : State) (f : Option Finding) → option_map (λ (l : Line). l.address) (option_map (line_of core slab n state) f) ≡ option_map (λ (f : Finding). place core slab n) f
    by_finding state None = refl
    by_finding state (Some f) = refl

    by_state : (s : Option State) → option_map (λ (l : Line). l.address) (option_and_then (line_in_state core slab n) s) ≡ option_map (λ (f : Finding). place core slab n) (option_and_then (finding_in_state core n) s)
    by_state None = refl
    by_state (Some state) = by_finding state (finding_in_state core n state)

-- one line more where there is one
one_more : (p : ℕ) (l : Option Line) (f : Option Finding) (lines : List Line) (n : ℕ) (kept : List ℕ) (g : ℕ → ℕ) → g n ≡ p → option_map (λ (l : Line). l.address) l ≡ option_map (λ (f : Finding). p) f
    → map (λ (l : Line). l.address) lines ≡ map g kept → map (λ (l : Line). l.address) (cons_option l lines) ≡ map g (cond (is_some f) (n ∷ kept) kept)
one_more p None None lines n kept g at e rest = rest
one_more p None (Some f) lines n kept g at e rest = cc
one_more p (Some l) None lines n kept g at e rest = cc
one_more p (Some l) (Some f) lines n kept g at e rest =
    let same : l.address ≡ p = cc in
    let here : l.address ≡ g n = same ∙ sym at in
    ap (λ (a : ℕ). a ∷ map (λ (l : Line). l.address) lines) here ∙ ap (λ (rest : List ℕ). g n ∷ rest) rest

numbers_place : (core : Core) (slab : SlabItem) (ns : List ℕ) → map (λ (l : Line). l.address) (filter_map (chunk_line core slab) ns) ≡ map (place core slab) (filter (is_found core) ns)
unfolding is_found
numbers_place core slab [] = refl
numbers_place core slab (n ∷ ns) =
    one_more (place core slab n) (chunk_line core slab n) (finding_in core n) (filter_map (chunk_line core slab) ns) n (filter (is_found core) ns) (place core slab) refl (line_place core slab n) (numbers_place core slab ns)

slab_place : (core : Core) (slab : SlabItem) → map (λ (l : Line). l.address) (slab_lines core slab) ≡ map (λ (b : Buffer). b.address) (slab_buffers core (is_found core) slab)
unfolding place
slab_place core slab = numbers_place core slab (chunks_of core slab) ∙ sym (map-map (λ (b : Buffer). b.address) (chunk_buffer core slab) (filter (is_found core) (chunks_of core slab)))

slabs_place : (core : Core) (slabs : List SlabItem) → map (λ (l : Line). l.address) (flat_map (slab_lines core) slabs) ≡ map (λ (b : Buffer). b.address) (flat_map (slab_buffers core (is_found core)) slabs)
slabs_place core [] = refl
slabs_place core (slab ∷ slabs) =
    map-append (λ (l : Line). l.address) (slab_lines core slab) (flat_map (slab_lines core) slabs)
    ∙ ap (λ (rest : List ℕ). rest ++ map (λ (l : Line). l.address) (flat_map (slab_lines core) slabs)) (slab_place core slab)
    ∙ ap (λ (rest : List ℕ). map (λ (b : Buffer). b.address) (slab_buffers core (is_found core) slab) ++ rest) (slabs_place core slabs)
    ∙ sym (map-append (λ (b : Buffer). b.address) (slab_buffers core (is_found core) slab) (flat_map (slab_buffers core (is_found core)) slabs))

places_rise : (core : Core) → IsLaidOut core → AllPairs (λ (a b : ℕ). a < b) (map (λ (b : Buffer). b.address) (chunk_buffers core (is_found core)))
places_rise core laid = λ i j d lt within.
    let buffers = chunk_buffers core (is_found core) in
    let long = length-map buffers (λ (b : Buffer). b.address) in
    let no_buffer : Buffer = record { address = d; size = 0; cache = None; chunk = None } in
    let li : i < length buffers = omega (arith, long) in
    let lj : j < length buffers = omega (arith, long) in
    rw (get_or-map (λ (b : Buffer). b.address) buffers i no_buffer d li, get_or-map (λ (b : Buffer). b.address) buffers j no_buffer d lj)
    (omega (arith, chunks_apart core (is_found core) laid i j no_buffer lt lj, (chunks_sound core (is_found core) laid i no_buffer li).0))

-- the lines rise by address, so that none is told twice
pub findings_rise : (core : Core) → IsLaidOut core → AllPairs IsLineBelow (findings_of core)
unfolding findings_of
findings_rise core laid = λ i j d lt within.
    let lines = flat_map (slab_lines core) core.slabs in
    let long = length-map lines (λ (l : Line). l.address) in
    let rise = subst (AllPairs (λ (a b : ℕ). a < b)) (sym (slabs_place core core.slabs)) (places_rise core laid) in
    let pair = rise i j d.address lt (omega (arith, long)) in
    let low = get_or-map (λ (l : Line). l.address) lines i d d.address (omega arith) in
    let high = get_or-map (λ (l : Line). l.address) lines j d d.address within in
    omega (arith, pair, low, high)
