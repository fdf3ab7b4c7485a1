-- How many caches a core has, and how many chunks each of them.
use Rattle.std.proofs.Common.{◌≡◌, ◌≢◌, ℕ, suc, ◌+◌, ◌*◌, ◌<◌, ◌≤◌, ◌^◌, Bool, true, false, cond, eqb, leb, List, [], ◌∷◌, ◌++◌, length, get_or, take, Result, Ok, true≢false, append_assoc, refl, sym, ap, subst, ◌∙◌, arith}
use Rattle.std.proofs.Math.ListN.{set}
use Rattle.std.specs.List.{All, AllPairs, enumerate_from, flat_map, sum_by}
use Rattle.std.proofs.lemmas.Bool.{and_parts, eq-eqb, eqb-true, leb-true}
use Rattle.std.proofs.lemmas.Grind.{flat_map-append}
use Rattle.std.proofs.lemmas.List.{append-nil, get_or-set_other, get_or-set_same, length-take, take_more}
use Rattle.std.proofs.lemmas.List.Elements.{All-tail}
use Rattle.std.proofs.lemmas.List.Sums.{sum_by-cons, sum_by_more, sum_by_more_le_part}
use Rattle.std.proofs.lemmas.Nat.{mul-le}
use Rattle.umem_base.specs.Roots.{arena_end, arena_pages}
use Rattle.case_table.specs.declared.limits.TheConstants.{CLASS_COUNT, MOST_CACHES, MOST_CPUS}
use Rattle.case_table.specs.declared.slab_quantities.Geometry.{Geometry}
use Rattle.core_format.specs.declared.fault.Fault.TheVariants.{BadFlags, BadLength, BadMagic, BadVersion}
use Rattle.core_format.specs.declared.header.Header.{Header}
use Rattle.core_format.specs.declared.header.SecondHeader.{SecondHeader}
use Rattle.core_format.specs.declared.items.CacheItem.{CacheItem}
use Rattle.core_format.specs.declared.items.SlabItem.{SlabItem}
use Rattle.core_format.specs.declared.parts.Front.{Front}
use Rattle.core_format.specs.declared.read_header.TheConstants.{MAGIC}
use Rattle.core_format.specs.declared.whole.Core.{Core}
use Rattle.core_format.specs.Caches.{cache_item_at}
use Rattle.core_format.specs.Chunks.{core_shapes}
use Rattle.core_format.specs.Cores.{MeetsTheRules, front_at}
use Rattle.core_format.specs.Header.{has_audits, has_known_flags, header_at, header_of, header_rules, header_widths, headers_at, is_core_version, is_count, no_second, second_header_at}
use Rattle.core_format.specs.Reader.{Flaw, Reader, ◌>>=◌, record_at, rule}
use Rattle.core_format.specs.Slabs.{shape_at, slab_end}
use Rattle.core_format.proofs.CacheLemmas.{rule-holds}
use Rattle.core_format.proofs.ListLemmas.{bind_ok, ok_is}
use Rattle.umem_options.specs.declared.limits.TheConstants.{MOST_CONTENTS, MOST_FAILS, MOST_FRAMES, MOST_TRANSACTIONS}
use Rattle.heap_view.specs.Buffers.{chunks_of}
use Rattle.heap_view.specs.Layout.{IsLaidOut, IsShapeIn, IsSlabBelow, IsSoundSlab, core_geometry}
use Rattle.heap_view.proofs.BuffersLemmas.{shape_in}
use Rattle.heap_view.proofs.ListLemmas.{numbers_length}
use Rattle.heap_view.proofs.PartsLemmas.{front_parts_of, parts_of}
use Rattle.heap_view.proofs.ReadLemmas.{items_count}
use Rattle.dcmd.specs.declared.cache_lines.TheConstants.{CACHE_HEADING}
use Rattle.dcmd.specs.CacheLines.{cache_heading, cache_line, cache_text, chunk_count, chunks_for, counted_line}
use Rattle.dcmd.proofs.LineLemmas.{cache_heading_is}

-- ---- no more caches than there may be

few_by_rules : (h : Header) (start : ℕ) → header_rules h start ≡ Ok tt → h.caches ≤ MOST_CACHES
unfolding header_rules
few_by_rules h start e =
    let k12 : Unit {0} → Result (Unit {0}) Flaw = λ _. rule (leb h.fails h.fail_capacity) (start + 56) BadLength in
    let k11 : Unit {0} → Result (Unit {0}) Flaw = λ _. rule (leb h.fail_capacity MOST_FAILS) (start + 52) BadLength >>= k12 in
    let k10 : Unit {0} → Result (Unit {0}) Flaw = λ _. rule (leb h.trans h.trans_capacity) (start + 48) BadLength >>= k11 in
    let k9 : Unit {0} → Result (Unit {0}) Flaw = λ _. rule (leb h.trans_capacity MOST_TRANSACTIONS) (start + 44) BadLength >>= k10 in
    let k8 : Unit {0} → Result (Unit {0}) Flaw = λ _. rule (has_audits h.flags h.audits) (start + 40) BadLength >>= k9 in
    let k7 : Unit {0} → Result (Unit {0}) Flaw = λ _. rule (leb h.large (arena_pages h.version)) (start + 36) BadLength >>= k8 in
    let k6 : Unit {0} → Result (Unit {0}) Flaw = λ _. rule (leb h.slabs (arena_pages h.version)) (start + 32) BadLength >>= k7 in
    let k5 : Unit {0} → Result (Unit {0}) Flaw = λ _. rule (is_count CLASS_COUNT h.caches MOST_CACHES) (start + 28) BadLength >>= k6 in
    let k4 : Unit {0} → Result (Unit {0}) Flaw = λ _. rule (is_count 1 h.cpus MOST_CPUS) (start + 24) BadLength >>= k5 in
    let k3 : Unit {0} → Result (Unit {0}) Flaw = λ _. rule (leb h.contents MOST_CONTENTS) (start + 20) BadLength >>= k4 in
    let k2 : Unit {0} → Result (Unit {0}) Flaw = λ _. rule (leb h.frames MOST_FRAMES) (start + 16) BadLength >>= k3 in
    let k1 : Unit {0} → Result (Unit {0}) Flaw = λ _. rule (has_known_flags h.flags) (start + 12) BadFlags >>= k2 in
    let one = rule-holds (is_core_version h.version) (start + 8) BadVersion k1 tt e in
    let two = rule-holds (has_known_flags h.flags) (start + 12) BadFlags k2 tt one.1 in
    let three = rule-holds (leb h.frames MOST_FRAMES) (start + 16) BadLength k3 tt two.1 in
    let four = rule-holds (leb h.contents MOST_CONTENTS) (start + 20) BadLength k4 tt three.1 in
    let five = rule-holds (is_count 1 h.cpus MOST_CPUS) (start + 24) BadLength k5 tt four.1 in
    let six = rule-holds (is_count CLASS_COUNT h.caches MOST_CACHES) (start + 28) BadLength k6 tt five.1 in
    leb-true h.caches MOST_CACHES (and_parts (leb CLASS_COUNT h.caches) (leb h.caches MOST_CACHES) six.0).1

few_in_header : (here : Reader) (head : Header × Reader) → header_at here ≡ Ok head → head.0.caches ≤ MOST_CACHES
unfolding header_at
few_in_header here head e =
    let fields = bind_ok (record_at header_widths here) _ head e in
    let numbers : List ℕ = fields.0.0 in
    let h : Header = header_of numbers in
    let k2 : Unit {0} → Result (Header × Reader) Flaw = λ _. Ok (h, fields.0.1) in
    let k1 : Unit {0} → Result (Header × Reader) Flaw = λ _. header_rules h here.at >>= k2 in
    let magic = rule-holds (eqb (get_or numbers 0 0) MAGIC) here.at BadMagic k1 head fields.2 in
    let rules = bind_ok (header_rules h here.at) k2 head magic.1 in
    let made : Header × Reader = (h, fields.0.1) in
    subst (λ (y : Header × Reader). y.0.caches ≤ MOST_CACHES) (ok_is made head rules.2) (few_by_rules h here.at rules.1)

abbrev second_of_first : Header → Reader → Result (SecondHeader × Reader) Flaw
second_of_first h there = cond (eqb h.version 1) (Ok (no_second, there)) (second_header_at h there)

few_in_headers : (here : Reader) (heads : (Header × SecondHeader) × Reader) → headers_at here ≡ Ok heads → heads.0.0.caches ≤ MOST_CACHES
unfolding headers_at
few_in_headers here heads e =
    let k1 : Header × Reader → Result ((Header × SecondHeader) × Reader) Flaw = λ first. second_of_first first.0 first.1 >>= λ second. Ok ((first.0, second.0), second.1) in
    let first = bind_ok (header_at here) k1 heads e in
    let h : Header = first.0.0 in
    let k2 : SecondHeader × Reader → Result ((Header × SecondHeader) × Reader) Flaw = λ second. Ok ((h, second.0), second.1) in
    let second = bind_ok (second_of_first h first.0.1) k2 heads first.2 in
    let made : (Header × SecondHeader) × Reader = ((h, second.0.0), second.0.1) in
    subst (λ (y : (Header × SecondHeader) × Reader). y.0.0.caches ≤ MOST_CACHES) (ok_is made heads second.2) (few_in_header here first.0 first.1)

few_in_front : (here : Reader) (front : Front × Reader) → front_at here ≡ Ok front → length front.0.caches ≤ MOST_CACHES
few_in_front here front e =
    let parts = front_parts_of here front e in
    let h : Header = parts.heads.0.0 in
    let many = items_count (cache_item_at h) h.caches parts.own.1 parts.caches.0 parts.caches.1 parts.caches_read in
    let few = few_in_headers here parts.heads parts.heads_read in
    subst (λ (y : Front × Reader). length y.0.caches ≤ MOST_CACHES) parts.is (subst (λ (n : ℕ). n ≤ MOST_CACHES) (sym many) few)

pub few_caches : (core : Core) → MeetsTheRules core → length core.caches ≤ MOST_CACHES
few_caches core met =
    let parts = parts_of core met in
    subst (λ (c : Core). length c.caches ≤ MOST_CACHES) parts.is (few_in_front parts.start parts.front parts.front_read)

-- ---- how many chunks there are

-- a slab has no more chunks than bytes
chunks_in_slab : (core : Core) (slab : SlabItem) → IsLaidOut core → IsSoundSlab core slab → slab.base + length (chunks_of core slab) ≤ slab_end (core_shapes core) slab
chunks_in_slab core slab laid sound =
    let g = core_geometry core slab.cache in
    let shape = shape_in core slab.cache laid sound.of_cache in
    let many = numbers_length slab.first (shape_at (core_shapes core) slab.cache).rounds in
    let wide : g.rounds * 1 ≤ g.rounds * g.chunk = mul-le g.rounds 1 g.rounds g.chunk (omega arith) (omega (arith, shape.chunk_some)) in
    omega (arith, many, wide, shape.rounds, shape.pages, shape.filled)

-- so slabs that rise have no more than the arena has bytes
chunks_in_arena : (core : Core) (slabs : List SlabItem) (low : ℕ) → IsLaidOut core → All (IsSoundSlab core) slabs → AllPairs (IsSlabBelow (core_shapes core)) slabs → All (λ (slab : SlabItem). low ≤ slab.base) slabs → low ≤ arena_end core.version
    → low + sum_by (λ (slab : SlabItem). length (chunks_of core slab)) slabs ≤ arena_end core.version
chunks_in_arena core [] low laid sound rise above within = omega arith
chunks_in_arena core (slab ∷ slabs) low laid sound rise above within =
    let first = sound 0 slab (omega arith) in
    let rest = chunks_in_arena core slabs (slab_end (core_shapes core) slab) laid (All-tail (IsSoundSlab core) slab slabs sound) (λ i j d lt inside. rise (suc i) (suc j) d (omega arith) (omega arith)) (λ k d lt. rise 0 (suc k) d (omega arith) (omega arith)) first.ends in
    let all = sum_by-cons (λ (s : SlabItem). length (chunks_of core s)) slab slabs in
    omega (arith, rest, all, above 0 slab (omega arith), chunks_in_slab core slab laid first)

arena_low : (version : ℕ) → arena_end version < 2 ^ 63
arena_low version = by_version (eqb version 1)
  where
    by_version : (b : Bool) → 1048576 + 4096 * cond b 1024 4096 < 2 ^ 63
    by_version true = omega arith
    by_version false = omega arith

no_more : (core : Core) (cache : ℕ) (slab : SlabItem) → chunks_for core cache slab ≤ length (chunks_of core slab)
no_more core cache slab = by_test (eqb slab.cache cache)
  where
    by_test : (b : Bool) → cond b (length (chunks_of core slab)) 0 ≤ length (chunks_of core slab)
    by_test true = omega arith
    by_test false = omega arith

-- the chunks of a cache in the slabs so far and those of the next slab have 63 bits
pub count_fits : (core : Core) (cache index : ℕ) (d : SlabItem) → IsLaidOut core → index < length core.slabs → chunk_count core (take index core.slabs) cache + length (chunks_of core (get_or core.slabs index d)) < 2 ^ 63
count_fits core cache index d laid lt =
    let part = sum_by_more_le_part (chunks_for core cache) (λ (slab : SlabItem). length (chunks_of core slab)) core.slabs index d lt (no_more core cache) in
    let all = chunks_in_arena core core.slabs 0 laid laid.slabs laid.slabs_rise (λ k e within. omega arith) (omega arith) in
    omega (arith, part, all, arena_low core.version)

-- ---- each cache with its number

-- a cache more
enumerated : {X : Type 0} (n : ℕ) (xs : List X) (x : X) (k : ℕ) → k ≡ n + length xs → enumerate_from n (xs ++ x ∷ []) ≡ enumerate_from n xs ++ (k, x) ∷ []
enumerated n [] x k e = ap (λ (m : ℕ). (m, x) ∷ []) (omega (arith, e))
enumerated n (y ∷ xs) x k e = ap (λ t. (n, y) ∷ t) (enumerated (n + 1) xs x k (omega (arith, e)))

abbrev slab_chunks : Core → SlabItem → ℕ
slab_chunks core slab = length (chunks_of core slab)

-- what a slab adds to a cache's count
pub count_more : (core : Core) (counts : List ℕ) (index : ℕ) (slab : SlabItem) (rounds sum : ℕ) → index < length core.slabs → slab ≡ get_or core.slabs index slab → slab.cache < length counts → rounds ≡ slab_chunks core slab → sum ≡ get_or counts slab.cache 0 + rounds
    → ((cache : ℕ) → cache < length core.caches → get_or counts cache 0 ≡ chunk_count core (take index core.slabs) cache)
    → (cache : ℕ) → cache < length core.caches → get_or (set counts slab.cache sum) cache 0 ≡ chunk_count core (take (index + 1) core.slabs) cache
count_more core counts index slab rounds sum lt is within rounds-are sum-is counted cache low =
    let more = sum_by_more (chunks_for core cache) core.slabs index slab lt in
    let last : chunks_for core cache (get_or core.slabs index slab) ≡ chunks_for core cache slab = ap (chunks_for core cache) (sym is) in
    by_test (eqb slab.cache cache) refl (more ∙ ap (λ (n : ℕ). chunk_count core (take index core.slabs) cache + n) last)
  where
    by_test : (b : Bool) → eqb slab.cache cache ≡ b → chunk_count core (take (index + 1) core.slabs) cache ≡ chunk_count core (take index core.slabs) cache + cond b (slab_chunks core slab) 0 → get_or (set counts slab.cache sum) cache 0 ≡ chunk_count core (take (index + 1) core.slabs) cache
    by_test true e all =
        let same : slab.cache ≡ cache = eqb-true slab.cache cache e in
        let here : get_or (set counts slab.cache sum) cache 0 ≡ sum = subst (λ (n : ℕ). get_or (set counts slab.cache sum) n 0 ≡ sum) same (get_or-set_same counts slab.cache sum 0 within) in
        let before : get_or counts slab.cache 0 ≡ get_or counts cache 0 = ap (λ (n : ℕ). get_or counts n 0) same in
        omega (arith, here, before, all, counted cache low, sum-is, rounds-are)
    by_test false e all =
        let other : cache ≢ slab.cache = λ same. true≢false (sym (eq-eqb slab.cache cache (sym same)) ∙ e) in
        omega (arith, get_or-set_other counts slab.cache cache sum 0 other, all, counted cache low)

-- the sum has 64 bits
pub sum_fits : (core : Core) (index : ℕ) (slab : SlabItem) (now rounds : ℕ) → IsLaidOut core → index < length core.slabs → slab ≡ get_or core.slabs index slab → now ≡ chunk_count core (take index core.slabs) slab.cache → rounds ≡ slab_chunks core slab → now + rounds < 2 ^ 64
sum_fits core index slab now rounds laid lt is now-is rounds-are =
    let few = count_fits core slab.cache index slab laid lt in
    let last : slab_chunks core (get_or core.slabs index slab) ≡ slab_chunks core slab = ap (slab_chunks core) (sym is) in
    omega (arith, few, last, now-is, rounds-are)

-- the chunks of a slab by the quantities of its cache
pub rounds_are : (core : Core) (slab : SlabItem) (g : Geometry) → IsShapeIn core slab.cache g → g.rounds ≡ slab_chunks core slab
rounds_are core slab g shape = omega (arith, numbers_length slab.first (shape_at (core_shapes core) slab.cache).rounds, shape.rounds)

-- the lines with that of a cache more
pub line_more : (core : Core) (index : ℕ) (item : CacheItem) (count : ℕ) (start old new : List ℕ) → index < length core.caches → item ≡ get_or core.caches index item → count ≡ chunk_count core core.slabs index
    → old ≡ start ++ flat_map (cache_line core) (enumerate_from 0 (take index core.caches)) → new ≡ old ++ counted_line core index item count → new ≡ start ++ flat_map (cache_line core) (enumerate_from 0 (take (index + 1) core.caches))
line_more core index item count start old new lt is counted old-is new-is =
    let before = take index core.caches in
    let lines : List (ℕ × CacheItem) → List ℕ = flat_map (cache_line core) in
    let many : index ≡ 0 + length before = omega (arith, length-take index core.caches) in
    let one_more : take (index + 1) core.caches ≡ before ++ item ∷ [] = take_more core.caches index item lt ∙ ap (λ (i : CacheItem). before ++ i ∷ []) (sym is) in
    let numbered : enumerate_from 0 (take (index + 1) core.caches) ≡ enumerate_from 0 before ++ (index, item) ∷ [] = ap (enumerate_from 0) one_more ∙ enumerated 0 before item index many in
    let told : lines (enumerate_from 0 (take (index + 1) core.caches)) ≡ lines (enumerate_from 0 before) ++ (cache_line core (index, item) ++ []) = ap lines numbered ∙ flat_map-append (cache_line core) (enumerate_from 0 before) ((index, item) ∷ []) in
    let last : counted_line core index item count ≡ cache_line core (index, item) ++ [] = ap (counted_line core index item) counted ∙ sym (append-nil (cache_line core (index, item))) in
    new-is ∙ ap (λ (t : List ℕ). old ++ t) last ∙ ap (λ (t : List ℕ). t ++ (cache_line core (index, item) ++ [])) old-is
    ∙ append_assoc start (lines (enumerate_from 0 before)) (cache_line core (index, item) ++ []) ∙ ap (λ (t : List ℕ). start ++ t) (sym told)

-- the heading and all lines
pub text_is : (core seen : Core) (empty one two : List ℕ) → empty ≡ [] → one ≡ empty ++ CACHE_HEADING.now → seen ≡ core → two ≡ one ++ flat_map (cache_line seen) (enumerate_from 0 seen.caches) → two ≡ cache_text core
unfolding cache_text
text_is core seen empty one two none first same second =
    let lines : Core → List ℕ = λ c. flat_map (cache_line c) (enumerate_from 0 c.caches) in
    let heading : one ≡ cache_heading = first ∙ ap (λ (t : List ℕ). t ++ CACHE_HEADING.now) none ∙ cache_heading_is in
    second ∙ ap (λ (t : List ℕ). t ++ lines seen) heading ∙ ap (λ (c : Core). cache_heading ++ lines c) same
