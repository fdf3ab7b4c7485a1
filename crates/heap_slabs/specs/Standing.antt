-- The slabs that stand, each with what a look-up in it needs, and which chunks they have.
use Rattle.std.specs.Prelude.{◌≡◌, ◌≢◌, ℕ, ◌+◌, ◌-◌, ◌*◌, ◌/◌, ◌^◌, ◌<◌, ◌≤◌, ◌⊎◌, Bool, ◌&&◌, ◌==◌, None, List, length, map, nat_lt, All, AllPairs, Contains, if◌then◌else◌}
use Rattle.std.specs.List.{HoldsAt, list_any}
use Rattle.heap_ledger.specs.declared.slab_at.SlabAt.{SlabAt}
use Rattle.plain_heap.specs.Bytes.{is_within}
use Rattle.plain_heap.specs.Live.{HeldByAddress, live_at}
use Rattle.heap_memory.specs.declared.chunk.Chunk.{Chunk}
use Rattle.heap_slabs.specs.declared.numbered.Numbered.{Numbered}
use Rattle.heap_slabs.specs.declared.place.Place.{Place}
use Rattle.heap_slabs.specs.declared.standing.Standing.{Standing}

-- the slabs that stand, by rising base; those that were dropped last, by cache and then by base; and for how many more
-- there is room
pub record StandingSlabs : Type 0 where
  pub slabs : List Standing
  pub reaped : List SlabAt
  pub spare : ℕ

-- ---- one slab

-- the slab by its cache and its base alone
abbrev pub as_slab_at : Standing → SlabAt
as_slab_at slab = record { cache = slab.cache; base = slab.base }

-- the slab by the number of its first chunk
abbrev pub numbered : Standing → Numbered
numbered slab = record { first = slab.first; base = slab.base }

-- the address behind the chunks of a slab
abbrev pub chunks_end : Standing → ℕ
chunks_end slab = slab.start + slab.rounds * slab.chunk

-- the chunk of that index begins at an address
abbrev pub BeginsAt : ℕ → ℕ → Standing → Type 0
BeginsAt address index slab = (index < slab.rounds) × (address ≡ slab.start + index * slab.chunk)

-- a chunk begins at an address, as a test
abbrev pub has_start : ℕ → Standing → Bool
has_start address slab =
    is_within slab.start (slab.rounds * slab.chunk) address
    && (slab.start + (address - slab.start) / slab.chunk * slab.chunk == address)

-- the chunk of that index has a number
abbrev pub HasNumberAt : ℕ → ℕ → Standing → Type 0
HasNumberAt number index slab = (index < slab.rounds) × (number ≡ slab.first + index)

-- a chunk has a number
abbrev pub HasNumber : ℕ → Standing → Type 0
HasNumber number slab = (slab.first ≤ number) × (number < slab.first + slab.rounds)

-- the slab has chunks, which begin behind its base, and have addresses of 64 bits and numbers of 32
pub record IsStanding (slab : Standing) : Type 0 where
  pub chunk : 0 < slab.chunk
  pub rounds : 0 < slab.rounds
  pub from : slab.base ≤ slab.start
  pub to : chunks_end slab < 2 ^ 64
  pub numbers : slab.first + slab.rounds < 2 ^ 32

-- ---- counts

-- no chunk of it lives
abbrev pub is_idle : Standing → Bool
is_idle slab = slab.live == 0

-- the slab with one live chunk more, where it has as many, and with one less
abbrev pub one_live_more : Standing → Standing
one_live_more slab = if nat_lt slab.live slab.rounds then record slab { live = slab.live + 1 } else slab

abbrev pub one_live_less : Standing → Standing
one_live_less slab = record slab { live = slab.live - 1 }

-- the slab after the chunk that begins at an address has come to live, if one of its own does
abbrev pub with_taken : ℕ → Standing → Standing
with_taken address slab = if has_start address slab then one_live_more slab else slab

-- the slab after the chunk that begins at an address lives no more, if one of its own does
abbrev pub with_given : ℕ → Standing → Standing
with_given address slab = if has_start address slab then one_live_less slab else slab

-- ---- free chunks

-- a slab of the cache, of which a chunk does not live
abbrev pub HasFree : ℕ → Standing → Type 0
HasFree cache slab = (slab.cache ≡ cache) × (slab.live < slab.rounds)

-- the first so many chunks of the slab live
abbrev pub AreLive : HeldByAddress → Standing → ℕ → Type 0
AreLive buffers slab count =
    (index : ℕ) → index < count → live_at buffers (slab.start + index * slab.chunk) ≢ None

-- the first chunk of the slab that does not live
pub record IsFirstFree (buffers : HeldByAddress) (slab : Standing) (chunk : Chunk) : Type 0 where
  pub index : ℕ
  pub within : index < slab.rounds
  pub address : chunk.address ≡ slab.start + index * slab.chunk
  pub number : chunk.number ≡ slab.first + index
  pub free : live_at buffers chunk.address ≡ None
  pub first : AreLive buffers slab index

-- ---- all slabs

-- no number is one of a chunk of both
abbrev pub HaveOtherNumbers : Standing → Standing → Type 0
HaveOtherNumbers one other = (one.first + one.rounds ≤ other.first) ⊎ (other.first + other.rounds ≤ one.first)

-- the chunks of each slab end below the base of the next, and no two have one number
pub record AreStanding (slabs : List Standing) : Type 0 where
  pub each : All IsStanding slabs
  pub apart : AllPairs (λ one other. chunks_end one ≤ other.base) slabs
  pub numbers : AllPairs HaveOtherNumbers slabs

-- one of the slabs begins at a base, as a test
abbrev pub has_base : List Standing → ℕ → Bool
has_base slabs base = list_any (λ slab. slab.base == base) slabs

-- each of these stands once among the numbered ones, which rise
pub record AreNumbered (slabs : List Standing) (numbers : List Numbered) : Type 0 where
  pub rise : AllPairs (λ one other. one.first < other.first) numbers
  pub all : (slab : Standing) → Contains slabs slab → Contains numbers (numbered slab)
  pub only : (one : Numbered) → Contains numbers one → Contains (map numbered slabs) one

-- a slab that may come to these: its chunks end below each other slab's base or it begins behind their end, and its
-- numbers are above theirs
abbrev pub IsApartFrom : Standing → Standing → Type 0
IsApartFrom slab other =
    ((chunks_end slab ≤ other.base) ⊎ (chunks_end other ≤ slab.base)) × (other.first + other.rounds ≤ slab.first)

-- of the slabs of the cache with a free chunk it has the lowest numbers
abbrev pub IsLowestOf : ℕ → List Standing → Standing → Type 0
IsLowestOf cache slabs slab = HasFree cache slab × All (λ other. HasFree cache other → slab.first ≤ other.first) slabs

-- the slab at the index is that one
abbrev pub IsLowestWithFree : ℕ → List Standing → ℕ → Type 0
IsLowestWithFree cache slabs index = (index < length slabs) × HoldsAt (IsLowestOf cache slabs) slabs index

-- the place is that of the chunk which begins at an address
abbrev pub IsPlaceOf : ℕ → List Standing → Place → Type 0
IsPlaceOf address slabs place = (place.slab < length slabs) × HoldsAt (BeginsAt address place.index) slabs place.slab

-- the place is that of the chunk which has a number
abbrev pub IsPlaceOfNumber : ℕ → List Standing → Place → Type 0
IsPlaceOfNumber number slabs place =
    (place.slab < length slabs) × HoldsAt (HasNumberAt number place.index) slabs place.slab
