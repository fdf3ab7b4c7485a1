-- The line that tells what stands at an address.
use Rattle.std.specs.Prelude.{ℕ, ◌-◌, Bool, List, [], ◌∷◌, ◌++◌, Option, Some, None, codes, decimal, slice_get, unwrap_or, if◌then◌else◌}
use Rattle.std.specs.Option.{option_map}
use Rattle.umem_base.specs.Numbers.{hexadecimal}
use Rattle.case_table.specs.Addresses.{bufctl_address}
use Rattle.case_table.specs.declared.cache_name.TheConstants.{OVERSIZE_NAME}
use Rattle.core_format.specs.declared.whole.Core.{Core}
use Rattle.core_format.specs.Chunks.{is_held}
use Rattle.heap_view.specs.declared.hit.Hit.{Hit}
use Rattle.heap_view.specs.declared.hit.Hit.TheVariants.{Chunk, Large, OwnRoot, Root, Slab, Tail}
use Rattle.heap_view.specs.Hits.{hit_of}
use Rattle.heap_view.specs.Memory.{large_at, slab_at}

-- the name of a cache, by its number
abbrev pub name_in : Core → ℕ → List ℕ
name_in core cache = unwrap_or (option_map (λ item. item.def.name) (slice_get core.caches cache)) []

-- the name of the cache of the slab that has the address
abbrev pub name_at : Core → ℕ → List ℕ
name_at core address = unwrap_or (option_map (λ slab. name_in core slab.cache) (slab_at core address)) []

-- words and a number behind them
abbrev pub numbered_text : List ℕ → ℕ → List ℕ
numbered_text words number = words ++ decimal number

-- an address told by a base and what comes behind it
abbrev pub based_text : ℕ → ℕ → List ℕ
based_text base offset = hexadecimal base ++ codes "+" ++ hexadecimal offset

-- whether a chunk was given or is back
abbrev pub given_text : Bool → List ℕ
given_text is_held = if is_held then codes " freed from " else codes " allocated from "

-- the bytes of the large buffer that has the address
abbrev pub large_size_at : Core → ℕ → ℕ
large_size_at core address = unwrap_or (option_map (λ item. item.size) (large_at core address)) 0

-- what is told of a byte of a chunk
abbrev pub chunk_text : Core → ℕ → ℕ → ℕ → List ℕ
chunk_text core address chunk offset =
    based_text (address - offset) offset ++ codes ", bufctl " ++ hexadecimal (bufctl_address chunk)
    ++ given_text (is_held core chunk) ++ name_at core address

-- what is told of a byte of a large buffer
abbrev pub large_text : Core → ℕ → ℕ → ℕ → List ℕ
large_text core address base offset =
    based_text base offset ++ numbered_text (codes ", ") (large_size_at core address)
    ++ codes " bytes allocated from " ++ OVERSIZE_NAME.now

-- what is told of a byte past a large buffer's end
abbrev pub tail_text : ℕ → List ℕ
tail_text base = codes "past the end of " ++ hexadecimal base

-- what is told of a byte of a slab that no chunk has
abbrev pub beside_text : Core → ℕ → List ℕ
beside_text core cache = codes "in a slab of " ++ name_in core cache

-- what is told of a word that all threads share
abbrev pub root_text : ℕ → List ℕ
root_text word = numbered_text (codes "in the root segment, word ") word

-- what is told of a thread's own word
abbrev pub own_text : ℕ → ℕ → List ℕ
own_text thread word =
    numbered_text (codes "in the root segment of thread ") thread ++ numbered_text (codes ", word ") word

-- what is told of a hit at an address
abbrev pub hit_text : Core → ℕ → Hit → List ℕ
hit_text core address (Chunk chunk offset) = chunk_text core address chunk offset
hit_text core address (Large base offset) = large_text core address base offset
hit_text core address (Tail base) = tail_text base
hit_text core address (Slab cache) = beside_text core cache
hit_text core address (Root word) = root_text word
hit_text core address (OwnRoot thread word) = own_text thread word

-- the same, and what is told where there is none
abbrev pub found_text : Core → ℕ → Option Hit → List ℕ
found_text core address None = codes "unknown"
found_text core address (Some hit) = hit_text core address hit

-- the line, with its end
unfoldable pub whatis_line : Core → ℕ → List ℕ
whatis_line core address =
    hexadecimal address ++ codes " is " ++ found_text core address (hit_of core address) ++ 10 ∷ []
