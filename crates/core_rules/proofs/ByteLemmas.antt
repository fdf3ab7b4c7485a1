-- A core that keeps the rules is spelled in bytes.
use Rattle.std.proofs.Common.{◌≡◌, ℕ, zero, suc, ◌<◌, Bool, true, false, cond, List, [], ◌∷◌, ◌++◌, length, take, drop, get_or, refl, sym, ap, ◌∙◌, drop-cons, arith}
use Rattle.std.specs.Prelude.{All, ◌==◌}
use Rattle.std.specs.Int.{byte_at, bytes_low_first}
use Rattle.std.specs.List.{flat_map, list_all}
use Rattle.std.proofs.lemmas.Bool.{and_parts, eqb-true}
use Rattle.std.proofs.lemmas.List.{take-append-drop}
use Rattle.byteorder.specs.Endian.{little_bytes}
use Rattle.case_table.specs.CacheName.{is_cache_name, is_name_byte}
use Rattle.case_table.specs.Record.{spelling}
use Rattle.case_table.proofs.CacheNameLemmas.{name_byte, named}
use Rattle.trans_log.specs.declared.record.Fail.{Fail}
use Rattle.trans_log.specs.declared.record.Saved.{Saved}
use Rattle.trans_log.specs.declared.record.Trans.{Trans}
use Rattle.core_format.specs.declared.header.Header.{Header}
use Rattle.core_format.specs.declared.header.SecondHeader.{SecondHeader}
use Rattle.core_format.specs.declared.items.AuditItem.{AuditItem}
use Rattle.core_format.specs.declared.items.CacheItem.{CacheItem}
use Rattle.core_format.specs.declared.items.CpuPlace.{CpuPlace}
use Rattle.core_format.specs.declared.items.DepotItem.{DepotItem}
use Rattle.core_format.specs.declared.read_header.TheConstants.{MAGIC}
use Rattle.core_format.specs.Header.{header_widths, second_widths}
use Rattle.core_format.specs.Logs.{audit_widths, fail_widths, saved_widths, trans_widths}
use Rattle.core_format.specs.Slabs.{slab_widths}
use Rattle.core_format.specs.declared.items.LargeItem.{LargeItem}
use Rattle.core_format.specs.declared.items.SlabItem.{SlabItem}
use Rattle.core_format.specs.declared.limits.TheConstants.{NAME_PADDING}
use Rattle.core_format.specs.declared.whole.Core.{Core}
use Rattle.core_format.specs.Caches.{is_zero}
use Rattle.core_format.specs.PageBytes.{lower_count}
use Rattle.core_format.specs.Spelling.{ctor_number, header_of_core, large_bytes, second_of_core, spelled_audit, spelled_cache, spelled_cache_numbers, spelled_core, spelled_depot, spelled_fail, spelled_front, spelled_header, spelled_large, spelled_magazine, spelled_middle, spelled_name, spelled_numbers, spelled_own, spelled_pages, spelled_place, spelled_records, spelled_saved, spelled_second, spelled_slab, spelled_trans, spelled_words}
use Rattle.core_rules.specs.HeaderRules.{AreByteValues}
use Rattle.core_rules.specs.Rules.{KeepsTheRules}
use Rattle.core_rules.proofs.CacheLemmas.{all_at, passes, zeros-drop}

-- ---- lists of bytes

both : (xs ys : List ℕ) → AreByteValues xs → AreByteValues ys → AreByteValues (xs ++ ys)
both [] ys p q k d lt = q k d lt
both (x ∷ xs) ys p q zero d lt = p zero x (omega arith)
both (x ∷ xs) ys p q (suc k) d lt = both xs ys (λ j e less. p (suc j) e (omega arith)) q k d (omega arith)

none : AreByteValues []
none k d lt = absurd (omega arith)

flat : {A : Type 0} (f : A → List ℕ) (xs : List A) → All (λ x. AreByteValues (f x)) xs → AreByteValues (flat_map f xs)
flat f [] all = none
flat f (x ∷ xs) all = both (f x) (flat_map f xs) (all zero x (omega arith)) (flat f xs (λ k d lt. all (suc k) d (omega arith)))

either : (b : Bool) (xs ys : List ℕ) → AreByteValues xs → AreByteValues ys → AreByteValues (cond b xs ys)
either true xs ys p q = p
either false xs ys p q = q

all_take : {A : Type 0} (P : A → Type 0) (n : ℕ) (xs : List A) → All P xs → All P (take n xs)
all_take P zero xs all k d lt = absurd (omega arith)
all_take P (suc n) [] all k d lt = absurd (omega arith)
all_take P (suc n) (x ∷ xs) all zero d lt = all zero x (omega arith)
all_take P (suc n) (x ∷ xs) all (suc k) d lt = all_take P n xs (λ j e less. all (suc j) e (omega arith)) k d (omega arith)

all_drop : {A : Type 0} (P : A → Type 0) (n : ℕ) (xs : List A) → All P xs → All P (drop n xs)
all_drop P zero xs all = all
all_drop P (suc n) [] all = all
all_drop P (suc n) (x ∷ xs) all = all_drop P n xs (λ j e less. all (suc j) e (omega arith))

-- ---- numbers

one_byte : (i x : ℕ) → byte_at i x < 256
one_byte zero x = omega arith
one_byte (suc i) x = omega arith

low_first : (i n x : ℕ) → AreByteValues (bytes_low_first i n x)
low_first i zero x k d lt = absurd (omega arith)
low_first i (suc n) x zero d lt = one_byte i x
low_first i (suc n) x (suc k) d lt = low_first (suc i) n x k d (omega arith)

little : (n x : ℕ) → AreByteValues (little_bytes n x)
little n x = low_first 0 n x

record_bytes : (widths values : List ℕ) → AreByteValues (spelling widths values)
record_bytes [] values = none
record_bytes (w ∷ ws) [] = none
record_bytes (w ∷ ws) (v ∷ vs) = both (little_bytes w v) (spelling ws vs) (little w v) (record_bytes ws vs)

number_bytes : (numbers : List ℕ) → AreByteValues (spelled_numbers numbers)
number_bytes numbers = flat (little_bytes 4) numbers (λ k d lt. little 4 (get_or numbers k d))

word_bytes : (words : List ℕ) → AreByteValues (spelled_words words)
word_bytes words = flat (little_bytes 8) words (λ k d lt. little 8 (get_or words k d))

magazine_bytes : (rounds : List ℕ) → AreByteValues (spelled_magazine rounds)
magazine_bytes rounds = both (little_bytes 4 (length rounds)) (spelled_numbers rounds) (little 4 (length rounds)) (number_bytes rounds)

-- ---- caches

zeros : (xs : List ℕ) → list_all is_zero xs ≡ true → AreByteValues xs
zeros [] e k d lt = absurd (omega arith)
zeros (x ∷ xs) e zero d lt = omega (arith, eqb-true x 0 (and_parts (is_zero x) (list_all is_zero xs) e).0)
zeros (x ∷ xs) e (suc k) d lt = zeros xs (and_parts (is_zero x) (list_all is_zero xs) e).1 k d (omega arith)

name_bytes : (name : List ℕ) → is_cache_name name ≡ true → AreByteValues (spelled_name name)
name_bytes name formed =
    both name (drop (length name) NAME_PADDING) (λ k d lt. omega (arith, (name_byte (get_or name k d) (all_at is_name_byte name (named name formed).bytes k d lt)).1)) (zeros (drop (length name) NAME_PADDING) (zeros-drop (length name) NAME_PADDING refl))

cache_number_bytes : (first : Bool) (x : CacheItem) → AreByteValues (cond first (spelling (4 ∷ 4 ∷ 4 ∷ []) (x.def.size ∷ x.def.align ∷ x.grows ∷ [])) (spelling (4 ∷ 4 ∷ 4 ∷ 4 ∷ []) (x.def.size ∷ x.def.align ∷ x.grows ∷ ctor_number x.def.ctor ∷ [])))
cache_number_bytes true x = record_bytes (4 ∷ 4 ∷ 4 ∷ []) (x.def.size ∷ x.def.align ∷ x.grows ∷ [])
cache_number_bytes false x = record_bytes (4 ∷ 4 ∷ 4 ∷ 4 ∷ []) (x.def.size ∷ x.def.align ∷ x.grows ∷ ctor_number x.def.ctor ∷ [])

cache_bytes : (version : ℕ) (x : CacheItem) → is_cache_name x.def.name ≡ true → AreByteValues (spelled_cache version x)
cache_bytes version x formed = both (spelled_name x.def.name) (spelled_cache_numbers version x) (name_bytes x.def.name formed) (cache_number_bytes (version == 1) x)

-- a list is what stands before an item of it, the item, and what stands behind
split_there : {A : Type 0} (xs : List A) (k : ℕ) (d : A) → k < length xs → xs ≡ take k xs ++ get_or xs k d ∷ drop (suc k) xs
split_there {A} xs k d lt = sym (take-append-drop k xs) ∙ ap (λ (t : List A). take k xs ++ t) (drop-cons xs k d lt)

all_named : (core : Core) → KeepsTheRules core → All (λ item. is_cache_name item.def.name ≡ true) core.caches
all_named core rules k d lt = (passes core (take k core.caches) (get_or core.caches k d) (drop (suc k) core.caches) rules.caches (split_there core.caches k d lt)).formed

-- ---- items

header_bytes : (h : Header) → AreByteValues (spelled_header h)
header_bytes h = record_bytes header_widths (MAGIC ∷ h.version ∷ h.flags ∷ h.frames ∷ h.contents ∷ h.cpus ∷ h.caches ∷ h.slabs ∷ h.large ∷ h.audits ∷ h.trans_capacity ∷ h.trans ∷ h.fail_capacity ∷ h.fails ∷ h.next_chunk ∷ h.entries ∷ [])

second_bytes : (version : ℕ) (s : SecondHeader) → AreByteValues (spelled_second version s)
second_bytes version s =
    let numbers = spelling second_widths (s.threads ∷ s.contents_capacity ∷ s.saved ∷ []) in
    either (version == 1) [] numbers none (record_bytes second_widths (s.threads ∷ s.contents_capacity ∷ s.saved ∷ []))

slab_bytes : (x : SlabItem) → AreByteValues (spelled_slab x)
slab_bytes x =
    let values = x.base ∷ x.cache ∷ x.colour ∷ x.first ∷ length x.free ∷ [] in
    both (spelling slab_widths values) (spelled_numbers x.free) (record_bytes slab_widths values) (number_bytes x.free)

place_bytes : (x : CpuPlace) → AreByteValues (spelled_place x)
place_bytes x = both (spelled_magazine x.loaded) (spelled_magazine x.previous) (magazine_bytes x.loaded) (magazine_bytes x.previous)

depot_bytes : (x : DepotItem) → AreByteValues (spelled_depot x)
depot_bytes x = both (little_bytes 4 (length x.full)) (flat_map spelled_numbers x.full) (little 4 (length x.full)) (flat spelled_numbers x.full (λ k d lt. number_bytes (get_or x.full k d)))

audit_bytes : (x : AuditItem) → AreByteValues (spelled_audit x)
audit_bytes x =
    let values = x.chunk ∷ x.thread ∷ x.time ∷ length x.stack ∷ [] in
    both (spelling audit_widths values) (spelled_words x.stack) (record_bytes audit_widths values) (word_bytes x.stack)

trans_bytes : (x : Trans) → AreByteValues (spelled_trans x)
trans_bytes x =
    let values = x.kind ∷ x.cpu ∷ x.thread ∷ x.chunk ∷ x.address ∷ x.time ∷ length x.stack ∷ [] in
    both (spelling trans_widths values) (spelled_words x.stack) (record_bytes trans_widths values) (word_bytes x.stack)

fail_bytes : (x : Fail) → AreByteValues (spelled_fail x)
fail_bytes x = record_bytes fail_widths (x.thread ∷ x.cache ∷ x.size ∷ x.time ∷ [])

saved_bytes : (x : Saved) → AreByteValues x.bytes → AreByteValues (spelled_saved x)
saved_bytes x own =
    let values = x.time ∷ x.chunk ∷ length x.bytes ∷ [] in
    both (spelling saved_widths values) x.bytes (record_bytes saved_widths values) own

-- ---- pages

page_bytes : (slabs : List SlabItem) (large : List LargeItem) → All (λ slab. AreByteValues slab.bytes) slabs → All (λ item. AreByteValues item.bytes) large → AreByteValues (spelled_pages slabs large)
page_bytes [] large p q = flat (λ item. item.bytes) large q
page_bytes (slab ∷ slabs) large p q =
    let n = lower_count slab.base large in
    both (large_bytes (take n large) ++ slab.bytes) (spelled_pages slabs (drop n large))
    (both (large_bytes (take n large)) slab.bytes (flat (λ item. item.bytes) (take n large) (all_take (λ item. AreByteValues item.bytes) n large q)) (p zero slab (omega arith)))
    (page_bytes slabs (drop n large) (λ k d lt. p (suc k) d (omega arith)) (all_drop (λ item. AreByteValues item.bytes) n large q))

-- ---- the whole

four : (a b c d : List ℕ) → AreByteValues a → AreByteValues b → AreByteValues c → AreByteValues d → AreByteValues (a ++ b ++ c ++ d)
four a b c d p q r s = both (a ++ b ++ c) d (both (a ++ b) c (both a b p q) r) s

front_bytes : (core : Core) → KeepsTheRules core → AreByteValues (spelled_front core)
front_bytes core rules =
    let first = spelled_header (header_of_core core) in
    let second = spelled_second core.version (second_of_core core) in
    let root = spelled_words core.root in
    let own = flat_map spelled_own core.own in
    let caches = flat_map (spelled_cache core.version) core.caches in
    both (first ++ second ++ root ++ own) caches
    (four first second root own (header_bytes (header_of_core core)) (second_bytes core.version (second_of_core core)) (word_bytes core.root) (flat spelled_own core.own (λ k d lt. word_bytes (get_or core.own k d).words)))
    (flat (spelled_cache core.version) core.caches (λ k d lt. cache_bytes core.version (get_or core.caches k d) (all_named core rules k d lt)))

middle_bytes : (core : Core) → AreByteValues (spelled_middle core)
middle_bytes core =
    four (flat_map spelled_slab core.slabs) (flat_map spelled_large core.large) (flat_map spelled_place core.cpu_places) (flat_map spelled_depot core.depots)
    (flat spelled_slab core.slabs (λ k d lt. slab_bytes (get_or core.slabs k d)))
    (flat spelled_large core.large (λ k d lt. record_bytes (8 ∷ 8 ∷ []) ((get_or core.large k d).base ∷ (get_or core.large k d).size ∷ [])))
    (flat spelled_place core.cpu_places (λ k d lt. place_bytes (get_or core.cpu_places k d)))
    (flat spelled_depot core.depots (λ k d lt. depot_bytes (get_or core.depots k d)))

records_bytes : (core : Core) → KeepsTheRules core → AreByteValues (spelled_records core)
records_bytes core rules =
    four (flat_map spelled_audit core.audits) (flat_map spelled_trans core.trans) (flat_map spelled_fail core.fails) (flat_map spelled_saved core.saved)
    (flat spelled_audit core.audits (λ k d lt. audit_bytes (get_or core.audits k d)))
    (flat spelled_trans core.trans (λ k d lt. trans_bytes (get_or core.trans k d)))
    (flat spelled_fail core.fails (λ k d lt. fail_bytes (get_or core.fails k d)))
    (flat spelled_saved core.saved (λ k d lt. saved_bytes (get_or core.saved k d) (rules.logs.saved k d lt).bytes))

pub spelled_in_bytes : (core : Core) → KeepsTheRules core → AreByteValues (spelled_core core)
spelled_in_bytes core rules =
    four (spelled_front core) (spelled_middle core) (spelled_records core) (spelled_pages core.slabs core.large)
    (front_bytes core rules) (middle_bytes core) (records_bytes core rules)
    (page_bytes core.slabs core.large (λ k d lt. (rules.slabs.each k d lt).bytes) (λ k d lt. (rules.large.each k d lt).bytes))
