-- The chunks of the slabs as they stand, sorted by number, are those of the slabs of the run from the oldest on.
use Rattle.std.proofs.Common.{◌≡◌, ◌≢◌, ℕ, ◌+◌, ◌<◌, List, length, map, get_or, sym, ap, ◌∙◌, subst, arith, inl, inr}
use Rattle.std.specs.Prelude.{◌^◌, All, AllPairs, Contains, reverse}
use Rattle.std.specs.List.Sorted.{IsNonDecreasingBy, IsPermutation}
use Rattle.std.proofs.lemmas.List.{get_or-map, length-map}
use Rattle.std.proofs.lemmas.List.Elements.{All-map, Contains-get_or}
use Rattle.std.proofs.lemmas.List.Sorted.{All-permutation, Contains-permutation, IsPermutation-map, IsPermutation-reverse, IsPermutation-sym}
use Rattle.shelf.proofs.Lists.{AreDistinct-permutation}
use Rattle.plain_heap.specs.Setting.{Setting}
use Rattle.plain_heap.specs.State.{State}
use Rattle.heap_slabs.specs.declared.standing.Standing.{Standing}
use Rattle.heap_slabs.specs.HeapSlabs.{AreStandingSlabs, standing_in}
use Rattle.heap_slabs.specs.Standing.{AreStanding, HaveOtherNumbers}
use Rattle.heap_logs.specs.declared.chunk_range.ChunkRange.{ChunkRange}
use Rattle.heap_logs.specs.Audits.{chunks_of_slab, standing_chunks}
use Rattle.heap_logs.specs.Laws.{StandsBelow}
use Rattle.heap_accounts.proofs.SlabLemmas.{Contains-from_mapped, Contains-mapped}
use Rattle.heap_books.proofs.OneListLemmas.{same_items}

-- the chunks of a slab as it stands
abbrev pub range_of : Standing → ChunkRange
range_of slab = record { first = slab.first; count = slab.rounds }

abbrev first_of : ChunkRange → ℕ
first_of range = range.first

module _ (setting : Setting) (state : State) (standing : List Standing) (sound : AreStanding standing) (exactly : AreStandingSlabs setting state standing) where
  to_chunks : (range : ChunkRange) → Contains (map range_of standing) range → Contains (standing_chunks setting state) range
  to_chunks range has =
      let one = Contains-from_mapped range_of standing range has in
      let slab = Contains-from_mapped (standing_in setting state) state.slabs one.item ((exactly one.item).0 one.there) in
      let back = Contains-permutation state.slabs (reverse state.slabs) slab.item (IsPermutation-reverse state.slabs) slab.there in
      subst (Contains (standing_chunks setting state)) (ap range_of slab.is ∙ one.is) (Contains-mapped (chunks_of_slab setting) (reverse state.slabs) slab.item back)

  from_chunks : (range : ChunkRange) → Contains (standing_chunks setting state) range → Contains (map range_of standing) range
  from_chunks range has =
      let slab = Contains-from_mapped (chunks_of_slab setting) (reverse state.slabs) range has in
      let there = Contains-permutation (reverse state.slabs) state.slabs slab.item (IsPermutation-sym state.slabs (reverse state.slabs) (IsPermutation-reverse state.slabs)) slab.there in
      let one = (exactly (standing_in setting state slab.item)).1 (Contains-mapped (standing_in setting state) state.slabs slab.item there) in
      subst (Contains (map range_of standing)) slab.is (Contains-mapped range_of standing (standing_in setting state slab.item) one)

  -- each slab has a chunk
  some : (range : ChunkRange) → Contains (map range_of standing) range → 0 < range.count
  some range has =
      let one = Contains-from_mapped range_of standing range has in
      let at = one.there in
      subst (λ (r : ChunkRange). 0 < r.count) (ap range_of at.2 ∙ one.is) (sound.each at.0 one.item at.1).rounds

  -- no two begin with one number
  firsts_differ : AllPairs (λ a b. a ≢ b) (map first_of (map range_of standing))
  firsts_differ i j d less lt e =
      let many : j < length standing = omega (arith, lt, length-map (map range_of standing) first_of, length-map standing range_of) in
      let z : Standing = record { cache = 0; base = 0; first = 0; start = 0; chunk = 0; rounds = 0; live = 0 } in
      let at = λ (k : ℕ) (kl : k < length standing).
      get_or-map first_of (map range_of standing) k (range_of z) d (subst (λ (n : ℕ). k < n) (sym (length-map standing range_of)) kl) ∙ ap first_of (get_or-map range_of standing k z (range_of z) kl) in
      let within : i < length standing = omega arith in
      let same : (get_or standing i z).first ≡ (get_or standing j z).first = sym (at i within) ∙ e ∙ at j many in
      meet (get_or standing i z) (get_or standing j z) (sound.numbers i j z less many) same (sound.each i z within).rounds (sound.each j z many).rounds
    where
      meet : (one other : Standing) → HaveOtherNumbers one other → one.first ≡ other.first → 0 < one.rounds → 0 < other.rounds → ⊥
      meet one other (inl below) same a b = omega (arith, below, same, a)
      meet one other (inr above) same a b = omega (arith, above, same, b)

  -- sorted by number they are those of the run
  pub ranges_are : (ranges sorted : List ChunkRange) → ranges ≡ map range_of standing → IsPermutation ranges sorted → IsNonDecreasingBy first_of sorted
      → AllPairs StandsBelow (standing_chunks setting state) → sorted ≡ standing_chunks setting state
  ranges_are ranges sorted made moves up below =
      same_items (λ (a b : ChunkRange). a.first < b.first) sorted (standing_chunks setting state) (λ a b less more. omega (arith, less, more)) rising
      (λ i j d less lt.
      let within : i < length (standing_chunks setting state) = omega arith in
      let own = some (get_or (standing_chunks setting state) i d) (from_chunks (get_or (standing_chunks setting state) i d) (Contains-get_or (standing_chunks setting state) i d within)) in
      omega (arith, below i j d less lt, own))
      (λ range has. to_chunks range (subst (λ (xs : List ChunkRange). Contains xs range) made (Contains-permutation sorted ranges range (IsPermutation-sym ranges sorted moves) has)))
      (λ range has. Contains-permutation ranges sorted range moves (subst (λ (xs : List ChunkRange). Contains xs range) (sym made) (from_chunks range has)))
    where
      differ : AllPairs (λ a b. a ≢ b) (map first_of sorted)
      differ = AreDistinct-permutation (map first_of ranges) (map first_of sorted) (IsPermutation-map first_of ranges sorted moves)
          (subst (λ (xs : List ChunkRange). AllPairs (λ a b. a ≢ b) (map first_of xs)) (sym made) firsts_differ)

      rising : AllPairs (λ (a b : ChunkRange). a.first < b.first) sorted
      rising i j d less lt =
          let within : i < length sorted = omega arith in
          let other = differ i j 0 less (subst (λ (n : ℕ). j < n) (sym (length-map sorted first_of)) lt) in
          omega (
            arith,
            up i j d (omega arith) lt,
            λ (same : (get_or sorted i d).first ≡ (get_or sorted j d).first). other (get_or-map first_of sorted i d 0 within ∙ same ∙ sym (get_or-map first_of sorted j d 0 lt)),
          )

  -- and their numbers have 32 bits
  pub ranges_fit : (ranges sorted : List ChunkRange) → ranges ≡ map range_of standing → IsPermutation ranges sorted → All (λ range. range.first + range.count < 2 ^ 32) sorted
  ranges_fit ranges sorted made moves =
      All-permutation (λ (range : ChunkRange). range.first + range.count < 2 ^ 32) ranges sorted moves
      (subst (λ (xs : List ChunkRange). All (λ range. range.first + range.count < 2 ^ 32) xs) (sym made) (All-map (λ (range : ChunkRange). range.first + range.count < 2 ^ 32) range_of standing
      (λ k d lt. (sound.each k d lt).numbers)))
