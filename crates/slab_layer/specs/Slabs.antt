-- The slabs of a cache, and what the calls on them look at and leave.
use Rattle.std.specs.Prelude.{◌≡◌, ◌≢◌, ℕ, ◌+◌, ◌<◌, ◌≤◌, ◌⊎◌, Bool, ◌&&◌, ◌==◌, List, [], ◌∷◌, ◌++◌, length, map, filter, not, All, AllPairs, Any, Contains, slice_index_or, if◌then◌else◌}
use Rattle.std.specs.List.{HoldsAt, flat_map, list_any}
use Rattle.std.specs.List.Sorted.{IsPermutation}
use Rattle.umem_base.specs.Ordered.{left_out_by, put_by}
use Rattle.slab_layer.specs.Slab.{HasChunk, IsComplete, IsSlab, Slab, clashes, has_chunk, is_complete, with_chunk, without_chunk}

-- the slabs of a cache, in the order of their chunks; spare is how many rounds one more slab may bring
pub record Slabs : Type 0 where
  pub cache : ℕ
  pub spare : ℕ
  pub slabs : List Slab

-- the slabs of a cache have no base and no chunk in common, and stand in the order of their chunks
pub record AreSlabs (slabs : List Slab) : Type 0 where
  pub each : All IsSlab slabs
  pub apart : AllPairs (λ one other. one.first + one.count ≤ other.first) slabs
  pub bases : AllPairs (λ one other. one.base ≢ other.base) slabs

-- the numbers in the lists of all slabs
abbrev pub listed_rounds : List Slab → List ℕ
listed_rounds slabs = flat_map (λ slab. slab.list) slabs

-- the chunk stands in a list, and no lower one does
pub record IsLowestRound (slabs : List Slab) (chunk : ℕ) : Type 0 where
  pub listed : Contains (listed_rounds slabs) chunk
  pub lowest : All (λ other. chunk ≤ other) (listed_rounds slabs)

-- the slabs after a chunk has left the lists
abbrev pub without_round : List Slab → ℕ → List Slab
without_round slabs chunk = map (without_chunk chunk) slabs

-- the slabs after a chunk has come to the list of its slab
abbrev pub with_round : List Slab → ℕ → List Slab
with_round slabs chunk = map (with_chunk chunk) slabs

-- the chunk is none of the slabs'
abbrev pub IsForeign : List Slab → ℕ → Type 0
IsForeign slabs chunk = All (λ slab. ¬ HasChunk chunk slab) slabs

-- the slab at the index has the chunk
abbrev pub HasChunkAt : List Slab → ℕ → ℕ → Type 0
HasChunkAt slabs chunk index = (index < length slabs) × HoldsAt (HasChunk chunk) slabs index

-- the slab at the index has rounds in its list, and none before it has
pub record IsFirstWithRounds (slabs : List Slab) (index : ℕ) : Type 0 where
  pub within : index < length slabs
  pub some : HoldsAt (λ slab. slab.list ≢ []) slabs index
  pub first : (k : ℕ) (d : Slab) → k < index → (slice_index_or slabs k d).list ≡ []

-- a slab with these rounds in its list begins at the base
abbrev pub HasListAt : List Slab → ℕ → List ℕ → Type 0
HasListAt slabs base rounds = Any (λ slab. (slab.base ≡ base) × (slab.list ≡ rounds)) slabs

-- the chunk is one of a slab's and stands in no list
pub record IsMissing (slabs : List Slab) (chunk : ℕ) : Type 0 where
  pub known : Any (HasChunk chunk) slabs
  pub missing : ¬ Contains (listed_rounds slabs) chunk

-- a round that is not taken: it is none of the slabs', or stands in a list already
abbrev pub IsRefused : List Slab → ℕ → Type 0
IsRefused slabs chunk = IsForeign slabs chunk ⊎ Contains (listed_rounds slabs) chunk

-- whether it is missing, as a test
abbrev pub is_missing : List Slab → ℕ → Bool
is_missing slabs chunk =
    list_any (has_chunk chunk) slabs && not (list_any (λ other. other == chunk) (listed_rounds slabs))

-- each of the chunks is missing, and stands once among them
pub record AreMissing (slabs : List Slab) (chunks : List ℕ) : Type 0 where
  pub each : All (IsMissing slabs) chunks
  pub distinct : AllPairs (λ one other. one ≢ other) chunks

-- the slabs after a round was put, which is taken where it is missing
abbrev pub after_put : List Slab → ℕ → List Slab
after_put slabs chunk = if is_missing slabs chunk then with_round slabs chunk else slabs

-- the slabs after rounds were put one by one
abbrev pub after_puts : List Slab → List ℕ → List Slab
after_puts slabs [] = slabs
after_puts slabs (chunk ∷ chunks) = after_puts (after_put slabs chunk) chunks

-- where the rounds were missing, each once, the lists hold them now, and all that they held before
abbrev pub KeepsRounds : List Slab → List Slab → List ℕ → Type 0
KeepsRounds old new rounds = AreMissing old rounds → IsPermutation (rounds ++ listed_rounds old) (listed_rounds new)

-- the slabs that have neither the base of a slab nor a chunk in common with it
abbrev pub without_clashes : List Slab → Slab → List Slab
without_clashes slabs new = filter (λ slab. not (clashes slab new)) slabs

-- the slabs with one more at its place; those that clash with it are gone
abbrev pub with_slab : List Slab → Slab → List Slab
with_slab slabs new = put_by (λ slab. slab.first) (without_clashes slabs new) new

-- the rounds of one slab more stand in the lists, with those of the slabs that do not clash with it
abbrev pub AddsRounds : List Slab → List Slab → Slab → Type 0
AddsRounds old new slab = IsPermutation (slab.list ++ listed_rounds (without_clashes old slab)) (listed_rounds new)

-- the slabs but for the one that begins at a base
abbrev pub without_slab_at : List Slab → ℕ → List Slab
without_slab_at slabs base = left_out_by (λ slab. slab.base) slabs base

-- the slab is complete, and none that is complete begins below it
pub record IsLowestComplete (slabs : List Slab) (slab : Slab) : Type 0 where
  pub complete : IsComplete slab
  pub lowest : All (λ other. IsComplete other → slab.base ≤ other.base) slabs

-- the slab at the index is that one
abbrev pub IsLowestCompleteAt : List Slab → ℕ → Type 0
IsLowestCompleteAt slabs index = (index < length slabs) × HoldsAt (IsLowestComplete slabs) slabs index

-- that one begins at the base, with these rounds in its list
abbrev pub HasLowestComplete : List Slab → ℕ → List ℕ → Type 0
HasLowestComplete slabs base rounds =
    Any (λ slab. IsLowestComplete slabs slab × (base ≡ slab.base) × (rounds ≡ slab.list)) slabs

-- the slabs that are not complete
abbrev pub without_complete : List Slab → List Slab
without_complete slabs = filter (λ slab. not (is_complete slab)) slabs
