-- Worked lines compute to what is printed.
use Rattle.std.proofs.Common.{◌≡◌, ℕ, List, [], ◌∷◌, ◌++◌, None, Some, refl}
use Rattle.std.specs.Fmt.{digits}
use Rattle.std.specs.Prelude.{codes}
use Rattle.buftag.specs.declared.finding.Finding.TheVariants.{Content, GuardByte, Unconstructed}
use Rattle.buftag.specs.declared.state.State.TheVariants.{Allocated, Free}
use Rattle.umem_options.specs.Flags.{bits_of}
use Rattle.core_format.specs.declared.items.CacheItem.{CacheItem}
use Rattle.core_format.specs.declared.whole.Core.{Core}
use Rattle.heap_view.specs.Whatis.{name_in}
use Rattle.heap_view.specs.declared.buffer.Buffer.{Buffer}
use Rattle.hex.specs.Hex.{encode_with}
use Rattle.dcmd.specs.CacheLines.{counted_line}
use Rattle.dcmd.specs.Columns.{line_of}
use Rattle.dcmd.specs.Contents.{saved_line}
use Rattle.dcmd.specs.Findings.{finding_line, findings_count}
use Rattle.dcmd.specs.Leaks.{leak_line, leaks_count}
use Rattle.dcmd.specs.Transactions.{trans_line}
use Rattle.dcmd.specs.Users.{group_lines}
use Rattle.dcmd.specs.Walks.{address_line, cache_walk}

-- a text and the end of its line
ended : List ℕ → List ℕ
ended text = text ++ 10 ∷ []

-- ---- lines of caches and transactions

class_24 : CacheItem
class_24 = record { def = record { name = codes "umem_alloc_24"; size = 24; align = 8; ctor = None }; grows = 1 }

cache_worked : (core : Core) → bits_of core.flags ≡ 4 → counted_line core 2 class_24 85 ≡ ended (codes "30000800 umem_alloc_24             0004 000001       24       85")
unfolding line_of ended class_24 digits
cache_worked core e = rw e refl

trans_worked : trans_line (record { kind = 1; cpu = 0; thread = 0; chunk = 42; address = 1052672; time = 4; stack = [] }) ≡ ended (codes "  0 40000a80   101000         4      0")
unfolding line_of ended digits
trans_worked = refl

-- ---- lines of findings

guard_worked : (core : Core) → name_in core 4 ≡ codes "umem_alloc_40" → finding_line core (record { address = 1056768; state = Allocated; cache = 4; finding = GuardByte }) ≡ ended (codes "102000 allocated umem_alloc_40 guard")
unfolding line_of ended digits
guard_worked core e = rw e refl

content_worked : (core : Core) → name_in core 2 ≡ codes "umem_alloc_24" → finding_line core (record { address = 1048672; state = Free; cache = 2; finding = Content 8 }) ≡ ended (codes "100060 free umem_alloc_24 content 8")
unfolding line_of ended digits
content_worked core e = rw e refl

object_worked : (core : Core) → name_in core 32 ≡ codes "conn" → finding_line core (record { address = 1048576; state = Free; cache = 32; finding = Unconstructed 3 }) ≡ ended (codes "100000 free conn unconstructed 3")
unfolding line_of ended digits
object_worked core e = rw e refl

none_worked : findings_count [] ≡ ended (codes "findings 0")
unfolding line_of ended digits
none_worked = refl

-- ---- lines of leaks, groups and walks

chunk_1 : Buffer
chunk_1 = record { address = 1048672; size = 72; cache = Some 32; chunk = Some 1 }

large : Buffer
large = record { address = 1085440; size = 4097; cache = None; chunk = None }

leak_worked : (core : Core) → name_in core 32 ≡ codes "conn" → leak_line core chunk_1 ≡ ended (codes "100060 conn 72 40000040")
unfolding line_of ended chunk_1 digits
leak_worked core e = rw e refl

large_worked : (core : Core) → leak_line core large ≡ ended (codes "109000 umem_oversize 4097 -")
unfolding line_of ended large digits
large_worked core = refl

leaks_worked : leaks_count (chunk_1 ∷ []) (chunk_1 ∷ large ∷ []) ≡ ended (codes "reached 1 leaked 2 bytes 4169")
unfolding line_of ended chunk_1 large digits
leaks_worked = refl

group_worked : group_lines (record { total = 72; count = 1; size = 72; stack = 4198912 ∷ 4198400 ∷ [] }) ≡ ended (codes "72 bytes for 1 allocations with data size 72:") ++ ended (codes "    401200") ++ ended (codes "    401000")
unfolding ended digits
group_worked = refl

walk_worked : address_line chunk_1 ≡ ended (codes "100060")
unfolding line_of ended chunk_1 digits
walk_worked = refl

no_cache_worked : cache_walk 5 [] None ≡ ended (codes "5: no such cache")
unfolding ended digits
no_cache_worked = refl

-- ---- lines of saved contents

saved_worked : saved_line (record { time = 3; chunk = 0; bytes = 65 ∷ 66 ∷ 221 ∷ 186 ∷ [] }) ≡ ended (codes "3 40000000 4 4142ddba")
unfolding line_of ended encode_with digits
saved_worked = refl

empty_worked : saved_line (record { time = 3; chunk = 0; bytes = [] }) ≡ ended (codes "3 40000000 0 -")
unfolding line_of ended digits
empty_worked = refl
