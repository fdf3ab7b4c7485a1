-- A mapped run of pages with its bytes, and which addresses it holds.
use Rattle.std.specs.Prelude.{◌≡◌, ℕ, ◌+◌, ◌-◌, ◌/◌, ◌%◌, ◌^◌, ◌<◌, ◌≤◌, List, ◌++◌, length, take, drop, Option, None, slice_get, nat_lt, if◌then◌else◌}
use Rattle.std.specs.List.{refill}
use Rattle.umem_base.specs.declared.pages.TheConstants.{PAGE_BYTES}
use Rattle.umem_base.specs.declared.span.Span.{Span}
use Rattle.umem_base.specs.Pages.{IsPage}

-- where a mapped run begins, and its bytes
pub record MappedRun : Type 0 where
  pub base : ℕ
  pub bytes : List ℕ

-- the address past the last byte
abbrev pub bytes_end : MappedRun → ℕ
bytes_end run = run.base + length run.bytes

-- the pages that a mapped run has
abbrev pub run_of : MappedRun → Span
run_of run = record { base = run.base; pages = length run.bytes / PAGE_BYTES }

-- a mapped run is one page or more below 2 ^ 32
pub record IsMappedRun (run : MappedRun) : Type 0 where
  pub page : IsPage run.base
  pub some : 0 < length run.bytes
  pub whole : length run.bytes % PAGE_BYTES ≡ 0
  pub to : bytes_end run ≤ 2 ^ 32

-- an address lies in a mapped run
abbrev pub Holds : ℕ → MappedRun → Type 0
Holds address run = (run.base ≤ address) × (address < bytes_end run)

-- a range lies in a mapped run, from an offset on
abbrev pub HoldsRange : ℕ → ℕ → ℕ → MappedRun → Type 0
HoldsRange at from count run = (run.base + from ≡ at) × (from + count ≤ length run.bytes)

-- a mapped run has an address that is not below the first and is below the second
abbrev pub Meets : ℕ → ℕ → MappedRun → Type 0
Meets from to run = (run.base < to) × (from < bytes_end run)

-- the byte of a mapped run at an address, if the address lies in it
abbrev pub byte_in : MappedRun → ℕ → Option ℕ
byte_in run address = if nat_lt address run.base then None else slice_get run.bytes (address - run.base)

-- the list with bytes in the place of those from an offset on
abbrev pub spliced : List ℕ → ℕ → List ℕ → List ℕ
spliced old from bytes = take from old ++ (bytes ++ drop (length bytes) (drop from old))

-- the run with bytes written over those from an offset on; it keeps its length
abbrev pub with_part : MappedRun → ℕ → List ℕ → MappedRun
with_part run from bytes =
    record { base = run.base; bytes = refill (length run.bytes) run.bytes (spliced run.bytes from bytes) }
