-- Where caches and bufctls stand: those of one kind follow one another from a base on, by their numbers.
use Rattle.std.specs.Prelude.{ℕ, ◌+◌, ◌-◌, ◌*◌, ◌/◌, ◌^◌, ◌&&◌, ◌==◌, Option, Some, None, nat_lt, if◌then◌else◌}
use Rattle.case_table.specs.declared.addresses.TheConstants.{CACHES_BASE, CACHE_STEP, BUFCTLS_BASE, BUFCTL_STEP}

-- the address of a cache, by its number
abbrev pub cache_address : ℕ → ℕ
cache_address cache = CACHES_BASE + CACHE_STEP * cache

-- the address of a bufctl, by the number of its chunk
abbrev pub bufctl_address : ℕ → ℕ
bufctl_address chunk = BUFCTLS_BASE + BUFCTL_STEP * chunk

-- the number of 32 bits of what stands at an address, where one stands at each step from the base on
abbrev pub number_at : ℕ → ℕ → ℕ → Option ℕ
number_at base step address =
    let number = (address - base) / step in
    if nat_lt number (2 ^ 32) && (base + step * number == address) then Some number else None

-- the number of the cache that has the address
abbrev pub cache_at : ℕ → Option ℕ
cache_at address = number_at CACHES_BASE CACHE_STEP address

-- the number of the chunk whose bufctl has the address
abbrev pub bufctl_chunk : ℕ → Option ℕ
bufctl_chunk address = number_at BUFCTLS_BASE BUFCTL_STEP address
