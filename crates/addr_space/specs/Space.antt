-- What a space is seen as: the byte at each address, its runs, and how a call changes both.
use Rattle.std.specs.Prelude.{◌≡◌, ℕ, zero, suc, ◌+◌, ◌-◌, ◌*◌, ◌^◌, ◌<◌, ◌≤◌, ◌⊎◌, List, [], ◌∷◌, length, map, Option, Some, None, IsSome, is_some, All, AllPairs, Contains, slice_index, if◌then◌else◌}
use Rattle.std.specs.Int as int
use Rattle.std.specs.Int.{to_le_bytes}
use Rattle.std.specs.Option.{option_or}
use Rattle.umem_base.specs.declared.pages.TheConstants.{PAGE_BYTES}
use Rattle.umem_base.specs.declared.span.Span.{Span}
use Rattle.umem_base.specs.Ordered.{put_by, left_out_by}
use Rattle.umem_base.specs.Span.{span_end, EndsBelow, IsSpanWithin}
use Rattle.addr_space.specs.MappedRun.{MappedRun, IsMappedRun, bytes_end, byte_in, run_of, with_part}

-- the mapped runs, by rising base
abbrev pub Space : Type 0
Space = List MappedRun

-- ---- bytes

-- the byte at an address, or none where it is not mapped
abbrev pub byte_at : Space → ℕ → Option ℕ
byte_at [] address = None
byte_at (run ∷ space) address = option_or (byte_in run address) (byte_at space address)

-- the bytes from an address on: at each offset below count, the one that is given
abbrev pub HasBytes : Space → ℕ → ℕ → (ℕ → ℕ) → Type 0
HasBytes space at count byte = (k : ℕ) → k < count → byte_at space (at + k) ≡ Some (byte k)

-- from an address on stand these bytes, so many
abbrev pub AreBytesAt : Space → ℕ → ℕ → List ℕ → Type 0
AreBytesAt space at count bytes = (length bytes ≡ count) × HasBytes space at count (λ k. slice_index bytes k)

-- the byte of a word at an offset, the lowest byte first
abbrev pub byte_of_word : ℕ → ℕ → ℕ
byte_of_word word k = slice_index (to_le_bytes int.w64 word) k

-- some byte of a range is mapped
abbrev pub HasMapped : Space → ℕ → ℕ → Type 0
HasMapped space at count = (k : ℕ) × (k < count) × IsSome (byte_at space (at + k))

-- each byte of a range is mapped
abbrev pub IsMappedRange : Space → ℕ → ℕ → Type 0
IsMappedRange space at count = (k : ℕ) → k < count → IsSome (byte_at space (at + k))

-- some byte of a range is not mapped
abbrev pub HasUnmapped : Space → ℕ → ℕ → Type 0
HasUnmapped space at count = (k : ℕ) × (k < count) × (byte_at space (at + k) ≡ None)

-- outside of a range each address has what it had
abbrev pub KeepsOthers : Space → Space → ℕ → ℕ → Type 0
KeepsOthers old new at count =
    (address : ℕ) → (address < at) ⊎ (at + count ≤ address) → byte_at new address ≡ byte_at old address

-- ---- runs

-- the pages of each mapped run, by rising base
abbrev pub runs_of : Space → List Span
runs_of space = map run_of space

-- a range is inside of one run
abbrev pub IsInRun : List Span → ℕ → ℕ → Type 0
IsInRun runs at count = (run : Span) × Contains runs run × (run.base ≤ at) × (at + count ≤ span_end run)

-- the mapped runs rise and never meet
pub record IsSpace (space : Space) : Type 0 where
  pub each : All IsMappedRun space
  pub apart : AllPairs (λ lower upper. bytes_end lower ≤ upper.base) space

-- the runs of a space are pages below 2 ^ 32, rise and never meet, and its mapped bytes are those that lie in them
pub record IsSound (space : Space) : Type 0 where
  pub runs : All (IsSpanWithin 0 (2 ^ 32)) (runs_of space)
  pub apart : AllPairs EndsBelow (runs_of space)
  pub held : (address : ℕ) → IsSome (byte_at space address) → IsInRun (runs_of space) address 1
  pub mapped : (address : ℕ) → IsInRun (runs_of space) address 1 → IsSome (byte_at space address)

-- ---- changes

-- the bytes from an address on are the given ones now, and nothing else changed
pub record Writes (old new : Space) (at count : ℕ) (byte : ℕ → ℕ) : Type 0 where
  pub stored : HasBytes new at count byte
  pub others : KeepsOthers old new at count
  pub runs : runs_of new ≡ runs_of old

-- a run of zeros is mapped now, and nothing else changed
pub record Maps (old new : Space) (run : Span) : Type 0 where
  pub zeros : HasBytes new run.base (PAGE_BYTES * run.pages) (λ _. 0)
  pub others : KeepsOthers old new run.base (PAGE_BYTES * run.pages)
  pub runs : runs_of new ≡ put_by (λ r. r.base) (runs_of old) run

-- a run is no longer mapped, and nothing else changed
pub record Unmaps (old new : Space) (run : Span) : Type 0 where
  pub gone : (k : ℕ) → k < PAGE_BYTES * run.pages → byte_at new (run.base + k) ≡ None
  pub others : KeepsOthers old new run.base (PAGE_BYTES * run.pages)
  pub runs : runs_of new ≡ left_out_by (λ r. r.base) (runs_of old) run.base

-- the space with bytes written over those of one of its runs, from an offset on
abbrev pub with_part_at : Space → ℕ → ℕ → List ℕ → Space
with_part_at [] index from bytes = []
with_part_at (run ∷ space) zero from bytes = with_part run from bytes ∷ space
with_part_at (run ∷ space) (suc index) from bytes = run ∷ with_part_at space index from bytes

-- the space with bytes written over those of the run that an address lies in, from that address on
abbrev pub with_bytes : Space → ℕ → List ℕ → Space
with_bytes [] at bytes = []
with_bytes (run ∷ space) at bytes =
    if is_some (byte_in run at) then with_part run (at - run.base) bytes ∷ space else run ∷ with_bytes space at bytes
