-- The caches of a core by their names and addresses.
use Rattle.std.specs.Prelude.{ℕ, List, Option, Some, None, length, nat_lt, option_and_then, if◌then◌else◌}
use Rattle.case_table.specs.Addresses.{cache_at}
use Rattle.case_table.specs.declared.cache_name.TheConstants.{OVERSIZE_NAME}
use Rattle.core_format.specs.declared.whole.Core.{Core}
use Rattle.heap_view.specs.Whatis.{name_in}

-- what a buffer was allocated from: its cache, or whole pages
abbrev pub source_name : Core → Option ℕ → List ℕ
source_name core (Some cache) = name_in core cache
source_name core None = OVERSIZE_NAME.now

-- the number, where the core has such a cache
abbrev pub own_cache : Core → ℕ → Option ℕ
own_cache core cache = if nat_lt cache (length core.caches) then Some cache else None

-- the number of the core's cache that has the address
abbrev pub cache_with_address : Core → ℕ → Option ℕ
cache_with_address core address = option_and_then (own_cache core) (cache_at address)
