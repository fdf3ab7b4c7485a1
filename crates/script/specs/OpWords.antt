-- The words of operations.
use Rattle.std.specs.Prelude.{ℕ, ◌-◌, List, [], ◌∷◌, map, Option, find, codes, decimal, nat_lt, if◌then◌else◌, slice_index_or}
use Rattle.std.specs.Str.{bytes_eq}
use Rattle.hex.specs.Hex.{encode_lower}
use Rattle.case_table.specs.declared.limits.TheConstants.{CLASS_COUNT}
use Rattle.case_table.specs.declared.cache_def.CacheDef.{CacheDef}
use Rattle.script.specs.declared.limits.TheConstants.{FIRST_OWN_SLOT}
use Rattle.script.specs.declared.operation.Op.{Op}
use Rattle.script.specs.declared.operation.Op.TheVariants.{Alloc, Zalloc, Free, CacheAlloc, CacheFree, Copy, Clear, Store, Link, Load, Reap}
use Rattle.script.specs.declared.operation.OpName.{OpName}
use Rattle.script.specs.declared.operation.OpName.TheVariants as names

-- what each operation is called
abbrev pub op_word : OpName → List ℕ
op_word names.Alloc = codes "alloc"
op_word names.Zalloc = codes "zalloc"
op_word names.Free = codes "free"
op_word names.CacheAlloc = codes "cache_alloc"
op_word names.CacheFree = codes "cache_free"
op_word names.Copy = codes "copy"
op_word names.Clear = codes "clear"
op_word names.Store = codes "store"
op_word names.Link = codes "link"
op_word names.Load = codes "load"
op_word names.Reap = codes "reap"

-- all operations
abbrev pub op_names : List OpName
op_names =
    names.Alloc ∷ names.Zalloc ∷ names.Free ∷ names.CacheAlloc ∷ names.CacheFree
    ∷ names.Copy ∷ names.Clear ∷ names.Store ∷ names.Link ∷ names.Load ∷ names.Reap ∷ []

-- the operation that is called so
abbrev pub op_named : List ℕ → Option OpName
op_named word = find (λ name. bytes_eq word (op_word name)) op_names

-- a shared slot behind a dollar sign, an own one behind a percent sign
abbrev pub slot_text : ℕ → List ℕ
slot_text slot = if nat_lt slot FIRST_OWN_SLOT then 36 ∷ decimal slot else 37 ∷ decimal (slot - FIRST_OWN_SLOT)

-- the name of the declared cache of that number
abbrev pub cache_word : List CacheDef → ℕ → List ℕ
cache_word caches cache = slice_index_or (map (λ def. def.name) caches) (cache - CLASS_COUNT) []

-- the words of an operation and its arguments
abbrev pub op_words : List CacheDef → Op → List (List ℕ)
op_words caches (Alloc slot size) = op_word names.Alloc ∷ slot_text slot ∷ decimal size ∷ []
op_words caches (Zalloc slot size) = op_word names.Zalloc ∷ slot_text slot ∷ decimal size ∷ []
op_words caches (Free slot size) = op_word names.Free ∷ slot_text slot ∷ decimal size ∷ []
op_words caches (CacheAlloc slot cache) = op_word names.CacheAlloc ∷ slot_text slot ∷ cache_word caches cache ∷ []
op_words caches (CacheFree slot cache) = op_word names.CacheFree ∷ slot_text slot ∷ cache_word caches cache ∷ []
op_words caches (Copy to from) = op_word names.Copy ∷ slot_text to ∷ slot_text from ∷ []
op_words caches (Clear slot) = op_word names.Clear ∷ slot_text slot ∷ []
op_words caches (Store slot offset bytes) =
    op_word names.Store ∷ slot_text slot ∷ decimal offset ∷ encode_lower bytes ∷ []
op_words caches (Link slot offset value) =
    op_word names.Link ∷ slot_text slot ∷ decimal offset ∷ slot_text value ∷ []
op_words caches (Load to slot offset) = op_word names.Load ∷ slot_text to ∷ slot_text slot ∷ decimal offset ∷ []
op_words caches Reap = op_word names.Reap ∷ []
