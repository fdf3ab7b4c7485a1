-- What `::walk` prints: an address a line.
use Rattle.std.specs.Prelude.{ℕ, Bool, false, ◌==◌, List, [], ◌∷◌, ◌++◌, Option, Some, None, codes, filter}
use Rattle.std.specs.List.{flat_map}
use Rattle.umem_base.specs.Numbers.{hexadecimal}
use Rattle.core_format.specs.declared.whole.Core.{Core}
use Rattle.heap_view.specs.declared.buffer.Buffer.{Buffer}
use Rattle.dcmd.specs.Columns.{line_of}
use Rattle.dcmd.specs.Names.{cache_with_address}

-- the line of a buffer
abbrev pub address_line : Buffer → List ℕ
address_line buffer = line_of (hexadecimal buffer.address ∷ [])

-- the number is that of a cache
abbrev pub is_number_of : ℕ → Option ℕ → Bool
is_number_of cache None = false
is_number_of cache (Some own) = own == cache

-- the buffer is a chunk of the cache
abbrev pub is_of_cache : ℕ → Buffer → Bool
is_of_cache cache buffer = is_number_of cache buffer.cache

-- the lines of the chunks of a cache, or of an address that is no cache's
abbrev pub cache_walk : ℕ → List Buffer → Option ℕ → List ℕ
cache_walk address buffers None = hexadecimal address ++ codes ": no such cache" ++ 10 ∷ []
cache_walk address buffers (Some cache) = flat_map address_line (filter (is_of_cache cache) buffers)

-- the lines of buffers: of all, or of the chunks of the cache that has the address
abbrev pub walk_text : Core → List Buffer → Option ℕ → List ℕ
walk_text core buffers None = flat_map address_line buffers
walk_text core buffers (Some address) = cache_walk address buffers (cache_with_address core address)
