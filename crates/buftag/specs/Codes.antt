-- The code by which a tag tells the requested size.
use Rattle.std.specs.Prelude.{◌≡◌, ◌≢◌, ℕ, ◌+◌, ◌-◌, ◌*◌, ◌/◌, ◌≤◌, ◌&&◌, ◌==◌, nat_le, Option, Some, None, MatchOption, if◌then◌else◌}
use Rattle.case_table.specs.declared.limits.TheConstants.{MOST_CACHE_BYTES}
use Rattle.buftag.specs.declared.patterns.TheConstants.{SIZE_FACTOR}

-- the code of a size
abbrev pub code_of : ℕ → ℕ
code_of size = SIZE_FACTOR * size + 1

-- the size of a cache's buffer that has the code, or none where there is none
abbrev pub coded_size : ℕ → Option ℕ
coded_size code =
    let size = (code - 1) / SIZE_FACTOR in
    if code == code_of size && nat_le size MOST_CACHE_BYTES then Some size else None

-- it is the code of the size, and of none where there is no size
abbrev pub IsCoded : ℕ → Option ℕ → Type 0
IsCoded code size =
    MatchOption size ((size : ℕ) → size ≤ MOST_CACHE_BYTES → code ≢ code_of size)
    (λ size. (size ≤ MOST_CACHE_BYTES) × (code ≡ code_of size))
