-- How many bytes stand before the slabs of a core: its headers, its root segments and its caches.
use Rattle.std.proofs.Common.{◌≡◌, ℕ, ◌+◌, ◌*◌, ◌≤◌, Bool, true, false, cond, eqb, leb, List, [], ◌∷◌, length, get_or, drop, refl, ap, subst, arith}
use Rattle.std.specs.Prelude.{All}
use Rattle.std.specs.List.{flat_map}
use Rattle.std.proofs.lemmas.List.{length-append, length-drop, length-take}
use Rattle.std.proofs.lemmas.List.FromFn.{length-map-range_with_len}
use Rattle.case_table.specs.Record.{spelling}
use Rattle.core_format.specs.declared.header.Header.{Header}
use Rattle.core_format.specs.declared.header.SecondHeader.{SecondHeader}
use Rattle.core_format.specs.declared.items.CacheItem.{CacheItem}
use Rattle.core_format.specs.declared.limits.TheConstants.{NAME_PADDING}
use Rattle.core_format.specs.declared.parts.Front.{Front}
use Rattle.core_format.specs.declared.read_header.TheConstants.{MAGIC}
use Rattle.core_format.specs.declared.whole.Core.{Core}
use Rattle.core_format.specs.Caches.{cache_bytes, cache_item_at, cache_numbers_at, is_name_behind, is_padded, number_rules, padded_length, padded_name}
use Rattle.core_format.specs.Cores.{MeetsTheRules}
use Rattle.core_format.specs.Header.{header_widths, second_widths}
use Rattle.core_format.specs.Reader.{Reader, bytes_at, left}
use Rattle.core_format.specs.Spelling.{ctor_number, header_of_core, second_of_core, spelled_cache, spelled_cache_numbers, spelled_front, spelled_header, spelled_name, spelled_own, spelled_second, spelled_words}
use Rattle.core_format.proofs.SpellingLemmas.{Passed, When, after, after_any, after_rule, bytes_passed, when_ok}
use Rattle.core_rules.specs.Pieces.{cache_item, count_of_caches}
use Rattle.heap_view.proofs.LayoutLemmas.{laid_out}
use Rattle.heap_view.proofs.PartsLemmas.{front_parts_of, parts_of}
use Rattle.heap_ledger.specs.Ledger.{IsLedger, Ledger, run_setting, run_state}
use Rattle.heap_pictures.specs.Items.{grows_by_cache}
use Rattle.heap_pictures.specs.Pictures.{Pictures}
use Rattle.core_sizes.proofs.LengthLemmas.{all_read, five_joined, items_long, numbers_long, record_long}

-- two headers, 33 segments and 96 caches
abbrev pub most_front : ℕ
most_front = 84 + 33 * 4096 + 96 * 48

-- ---- headers

header_long : (h : Header) → length (spelled_header h) ≡ 72
header_long h =
    record_long header_widths
    (MAGIC ∷ h.version ∷ h.flags ∷ h.frames ∷ h.contents ∷ h.cpus ∷ h.caches ∷ h.slabs ∷ h.large ∷ h.audits
    ∷ h.trans_capacity ∷ h.trans ∷ h.fail_capacity ∷ h.fails ∷ h.next_chunk ∷ h.entries ∷ []) refl

second_long : (version : ℕ) (second : SecondHeader) → length (spelled_second version second) ≤ 12
second_long version second = by_version (eqb version 1)
  where
    fields : List ℕ
    fields = second.threads ∷ second.contents_capacity ∷ second.saved ∷ []

    by_version : (b : Bool) → length (cond b [] (spelling second_widths fields)) ≤ 12
    by_version true = omega arith
    by_version false = omega (arith, record_long second_widths fields refl)

-- ---- caches

-- a cache with a name that has room in its field
abbrev IsNamedShort : CacheItem → Type 0
IsNamedShort item = length item.def.name ≤ 32

name_read : (h : Header) (before : List CacheItem) (here : Reader)
    → When (cache_item_at h before here) (λ out. IsNamedShort out.0)
unfolding cache_item_at
name_read h before here =
    after_rule _ (leb (cache_bytes h) (left here)) _ _ _ (λ room.
    after _ (λ (out : List ℕ × Reader). Passed here out.1 out.0 × (length out.0 ≡ 32)) (bytes_at 32 here) _
    (bytes_passed 32 here) (λ field long.
    after_any _ (cache_numbers_at h field.1) _ (λ numbers.
    after_rule _ (is_padded field.0) _ _ _ (λ padded.
    after_rule _ (is_name_behind before (padded_name field.0)) _ _ _ (λ named.
    after_any _ (number_rules (length before) numbers.0 here.at) _ (λ ruled.
    when_ok _ _ (omega (arith, long.1, length-take (padded_length field.0) field.0))))))))

-- the names of a core that was read have room
names_short : (core : Core) → MeetsTheRules core → All IsNamedShort core.caches
names_short core met =
    let parts = parts_of core met in
    let front = front_parts_of parts.start parts.front parts.front_read in
    let h : Header = front.heads.0.0 in
    let all = all_read IsNamedShort (cache_item_at h) (name_read h) h.caches front.own.1 front.caches
    front.caches_read in
    let read = subst (λ (f : Front × Reader). All IsNamedShort f.0.caches) front.is all in
    subst (λ (c : Core). All IsNamedShort c.caches) parts.is read

numbers_behind : (version : ℕ) (item : CacheItem) → length (spelled_cache_numbers version item) ≤ 16
numbers_behind version item = by_version (eqb version 1)
  where
    first : List ℕ
    first = item.def.size ∷ item.def.align ∷ item.grows ∷ []

    later : List ℕ
    later = item.def.size ∷ item.def.align ∷ item.grows ∷ ctor_number item.def.ctor ∷ []

    by_version : (b : Bool)
        → length (cond b (spelling (4 ∷ 4 ∷ 4 ∷ []) first) (spelling (4 ∷ 4 ∷ 4 ∷ 4 ∷ []) later)) ≤ 16
    by_version true = omega (arith, record_long (4 ∷ 4 ∷ 4 ∷ []) first refl)
    by_version false = omega (arith, record_long (4 ∷ 4 ∷ 4 ∷ 4 ∷ []) later refl)

cache_long : (version : ℕ) (item : CacheItem) → IsNamedShort item → length (spelled_cache version item) ≤ 48
cache_long version item short =
    let name = item.def.name in
    let zeros = drop (length name) NAME_PADDING in
    let padded : length (spelled_name name) ≤ 32 =
    omega (arith, short, length-append name zeros, length-drop (length name) NAME_PADDING) in
    let joined = length-append (spelled_name name) (spelled_cache_numbers version item) in
    omega (arith, padded, numbers_behind version item, joined)

-- there are the size classes and those that were declared
pub caches_few : (ledger : Ledger) (core : Core) → IsLedger ledger → Pictures ledger core → length core.caches ≤ 96
caches_few ledger core legal is =
    let declared = ledger.plan.header.caches in
    let grows = grows_by_cache (run_setting ledger) (run_state ledger) in
    let many = length-map-range_with_len (cache_item declared grows) 0 (count_of_caches declared) in
    omega (arith, ap length is.tells.caches, many, legal.plan.header.count)

-- ---- all of it

pub front_long : (ledger : Ledger) (core : Core) → IsLedger ledger → Pictures ledger core
    → length (spelled_front core) ≤ most_front
front_long ledger core legal is =
    let laid = laid_out core is.rules in
    let names = names_short core is.rules in
    let header = spelled_header (header_of_core core) in
    let second = spelled_second core.version (second_of_core core) in
    let root = spelled_words core.root in
    let own = flat_map spelled_own core.own in
    let caches = flat_map (spelled_cache core.version) core.caches in
    let all : length (spelled_front core)
    ≡ length header + length second + length root + length own + length caches =
    five_joined header second root own caches in
    let one : length header ≡ 72 = header_long (header_of_core core) in
    let two : length second ≤ 12 = second_long core.version (second_of_core core) in
    let three : length root ≤ 4096 = omega (arith, numbers_long 8 core.root, laid.root) in
    let four : length own ≤ length core.own * 4096 = items_long spelled_own 4096 core.own (λ k d lt.
    omega (arith, numbers_long 8 (get_or core.own k d).words, laid.own_words k d lt)) in
    let five : length caches ≤ length core.caches * 48 =
    items_long (spelled_cache core.version) 48 core.caches (λ k d lt.
    cache_long core.version (get_or core.caches k d) (names k d lt)) in
    omega (arith, all, one, two, three, four, five, laid.own, caches_few ledger core legal is)
