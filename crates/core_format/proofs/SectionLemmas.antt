-- Each section is spelled as it was read.
use Rattle.std.proofs.Common.{◌≡◌, ℕ, zero, suc, ◌+◌, ◌-◌, ◌%◌, ◌≤◌, Bool, true, false, ◌&&◌, cond, leb, ltb, List, [], ◌∷◌, ◌++◌, length, take, drop, Ok, refl, sym, ap, ◌∙◌, arith, inl, inr}
use Rattle.std.specs.Prelude.{sum, slice_index, not, ◌||◌, ◌==◌}
use Rattle.std.specs.List.{flat_map, list_all, list_any}
use Rattle.std.specs.Option.{option_map}
use Rattle.std.proofs.lemmas.List.{append-nil, length-drop, length-take, take-append-drop}
use Rattle.std.proofs.lemmas.Bool.{and_parts, cases_lt, eqb-true, lt-ltb}
use Rattle.std.proofs.lemmas.Bool.Decides.{nat_tests}
use Rattle.byteorder.specs.Endian.{little_bytes}
use Rattle.umem_base.specs.Pages.{pages_for}
use Rattle.case_table.specs.Record.{numbers_at, spelling}
use Rattle.case_table.specs.declared.limits.TheConstants.{MOST_CACHE_BYTES, MOST_THREADS}
use Rattle.case_table.proofs.RecordLemmas.{IsBytes}
use Rattle.core_format.specs.declared.cache_numbers.CacheNumbers.{CacheNumbers}
use Rattle.core_format.specs.declared.cache_shape.CacheShape.{CacheShape}
use Rattle.core_format.specs.declared.header.Header.{Header}
use Rattle.core_format.specs.declared.header.SecondHeader.{SecondHeader}
use Rattle.core_format.specs.declared.items.AuditItem.{AuditItem}
use Rattle.core_format.specs.declared.items.CacheItem.{CacheItem}
use Rattle.core_format.specs.declared.items.CpuPlace.{CpuPlace}
use Rattle.core_format.specs.declared.items.DepotItem.{DepotItem}
use Rattle.core_format.specs.declared.items.LargeItem.{LargeItem}
use Rattle.core_format.specs.declared.items.OwnRoot.{OwnRoot}
use Rattle.core_format.specs.declared.items.SlabItem.{SlabItem}
use Rattle.core_format.specs.declared.limits.TheConstants.{MOST_FULL, NAME_PADDING}
use Rattle.core_format.specs.declared.read_header.TheConstants.{MAGIC}
use Rattle.trans_log.specs.declared.record.Fail.{Fail}
use Rattle.trans_log.specs.declared.record.Saved.{Saved}
use Rattle.trans_log.specs.declared.record.Trans.{Trans}
use Rattle.core_format.specs.Caches.{cache_bytes, cache_item_at, cache_numbers_at, ctor_of, first_numbers_at, is_align_of, is_ctor_of, is_name_behind, is_padded, is_size_of, is_zero, later_numbers_at, number_rules, padded_length, padded_name}
use Rattle.core_format.specs.Header.{has_contents_log, header_at, header_of, header_rules, header_widths, headers_at, is_count, no_second, second_header_at, second_widths}
use Rattle.core_format.specs.Items.{has_number, is_above, is_unlike, items_at, last_of_list, words_at}
use Rattle.core_format.specs.Logs.{audit_item_at, audit_widths, fail_item_at, fail_widths, is_in_arena, kept_bytes, saved_item_at, saved_widths, trans_item_at, trans_widths}
use Rattle.core_format.specs.Magazines.{all_rounds, count_at, cpu_place_at, depot_item_at, depot_rounds_of, full_at, is_chunk_of, is_listed, magazine_at, one_depot_at, one_place_at, one_round_at, place_rounds, round_at, rounds_at}
use Rattle.core_format.specs.Reader.{Reader, bytes_at, further}
use Rattle.core_format.specs.Segments.{one_own_root, own_root_at, segment_at}
use Rattle.core_format.specs.Slabs.{ends_in_arena, first_rules, holds_chunk, is_arena_page, large_end, large_item_at, large_of, listed_at, meets_chunks, meets_some, past_chunks, shape_at, slab_head_at, slab_item_at, slab_rules, slab_widths}
use Rattle.core_format.specs.Spelling.{ctor_number, spelled_audit, spelled_cache, spelled_depot, spelled_fail, spelled_header, spelled_large, spelled_magazine, spelled_name, spelled_numbers, spelled_own, spelled_place, spelled_saved, spelled_second, spelled_slab, spelled_trans, spelled_words}
use Rattle.core_format.proofs.SpellingLemmas.{Passed, Section, When, after, after_any, after_record, after_rule, bytes_passed, good_behind, passed_as, passed_more, passed_none, rest, section_passed, when_map, when_ok, when_rule, words_passed}

-- ---- segments

pub segment_passed : (here : Reader) → IsBytes here.bytes → When (segment_at here) (λ out. Passed here out.1 (spelled_words out.0))
unfolding segment_at
segment_passed here good =
    after_rule _ (leb 4096 (length here.bytes - here.at)) _ _ _ (λ y. when_map _ _ _ (words_passed 512 here good) (λ out s. s.passed))

pub own_passed : (before : List OwnRoot) (here : Reader) → IsBytes here.bytes → When (own_root_at before here) (λ out. Passed here out.1 (spelled_own out.0))
unfolding one_own_root
own_passed before here good =
    after _ (λ (out : List ℕ × Reader). Passed here out.1 (spelled_words out.0)) (segment_at here) _ (segment_passed here good) (λ words p. when_ok _ _ p)

-- ---- logs

pub fail_passed : (h : Header) (before : List Fail) (here : Reader) → IsBytes here.bytes → When (fail_item_at h before here) (λ out. Passed here out.1 (spelled_fail out.0))
unfolding fail_item_at
fail_passed h before here good =
    let v = numbers_at fail_widths (rest here) in
    let there = further (sum fail_widths) here in
    after_record _ fail_widths here _ good (λ p. after_rule _ (ltb (slice_index v 0) MOST_THREADS) _ _ _ (λ y. after_rule _ (ltb (slice_index v 1) h.caches) _ _ _ (λ y. after_rule _ (leb 1 (slice_index v 2) && leb (slice_index v 2) MOST_CACHE_BYTES) _ _ _ (λ y. after_rule _ (ltb (slice_index v 3) h.entries) _ _ _ (λ y. after_rule _ (is_above (option_map (λ f. f.time) (last_of_list before)) (slice_index v 3)) _ _ _ (λ y. when_ok _ _ p))))))

pub trans_passed : (h : Header) (before : List Trans) (here : Reader) → IsBytes here.bytes → When (trans_item_at h before here) (λ out. Passed here out.1 (spelled_trans out.0))
unfolding trans_item_at
trans_passed h before here good =
    let v = numbers_at trans_widths (rest here) in
    let there = further (sum trans_widths) here in
    after_record _ trans_widths here _ good (λ p. after_rule _ ((slice_index v 0 == 1) || (slice_index v 0 == 2)) _ _ _ (λ y. after_rule _ (ltb (slice_index v 1) h.cpus) _ _ _ (λ y. after_rule _ (ltb (slice_index v 2) MOST_THREADS) _ _ _ (λ y. after_rule _ (ltb (slice_index v 3) h.next_chunk) _ _ _ (λ y. after_rule _ (is_in_arena h.version (slice_index v 4)) _ _ _ (λ y. after_rule _ (ltb (slice_index v 5) h.entries) _ _ _ (λ y. after_rule _ (is_above (option_map (λ t. t.time) (last_of_list before)) (slice_index v 5)) _ _ _ (λ y. after_rule _ (leb (slice_index v 6) h.frames) _ _ _ (λ y. after _ (Section (little_bytes 8) (slice_index v 6) there) (words_at (slice_index v 6) there) _ (words_passed (slice_index v 6) there (good_behind here there _ p good)) (λ frames w. when_ok _ _ (passed_as here frames.1 _ _ (ap (λ (n : ℕ). spelling trans_widths (slice_index v 0 ∷ slice_index v 1 ∷ slice_index v 2 ∷ slice_index v 3 ∷ slice_index v 4 ∷ slice_index v 5 ∷ n ∷ []) ++ spelled_words frames.0) (sym w.many)) (passed_more here there frames.1 _ _ p w.passed))))))))))))

pub audit_passed : (h : Header) (shapes : List CacheShape) (slabs : List SlabItem) (before : List AuditItem) (here : Reader) → IsBytes here.bytes → When (audit_item_at h shapes slabs before here) (λ out. Passed here out.1 (spelled_audit out.0))
unfolding audit_item_at
audit_passed h shapes slabs before here good =
    let v = numbers_at audit_widths (rest here) in
    let there = further (sum audit_widths) here in
    after_record _ audit_widths here _ good (λ p. after_rule _ (list_any (holds_chunk shapes (slice_index v 0)) slabs) _ _ _ (λ y. after_rule _ (is_above (option_map (λ a. a.chunk) (last_of_list before)) (slice_index v 0)) _ _ _ (λ y. after_rule _ (ltb (slice_index v 1) MOST_THREADS) _ _ _ (λ y. after_rule _ (ltb (slice_index v 2) h.entries) _ _ _ (λ y. after_rule _ (leb (slice_index v 3) h.frames) _ _ _ (λ y. after _ (Section (little_bytes 8) (slice_index v 3) there) (words_at (slice_index v 3) there) _ (words_passed (slice_index v 3) there (good_behind here there _ p good)) (λ frames w. when_ok _ _ (passed_as here frames.1 _ _ (ap (λ (n : ℕ). spelling audit_widths (slice_index v 0 ∷ slice_index v 1 ∷ slice_index v 2 ∷ n ∷ []) ++ spelled_words frames.0) (sym w.many)) (passed_more here there frames.1 _ _ p w.passed)))))))))

pub saved_passed : (h : Header) (before : List Saved) (here : Reader) → IsBytes here.bytes → When (saved_item_at h before here) (λ out. Passed here out.1 (spelled_saved out.0))
unfolding saved_item_at
saved_passed h before here good =
    let v = numbers_at saved_widths (rest here) in
    let there = further (sum saved_widths) here in
    after_record _ saved_widths here _ good (λ p. after_rule _ (ltb (slice_index v 0) h.entries) _ _ _ (λ y. after_rule _ (is_above (option_map (λ s. s.time) (last_of_list before)) (slice_index v 0)) _ _ _ (λ y. after_rule _ (ltb (slice_index v 1) h.next_chunk) _ _ _ (λ y. after_rule _ (leb (slice_index v 2) (kept_bytes h)) _ _ _ (λ y. after _ (λ (out : List ℕ × Reader). Passed there out.1 out.0 × (length out.0 ≡ slice_index v 2)) (bytes_at (slice_index v 2) there) _ (bytes_passed (slice_index v 2) there) (λ bytes b. when_ok _ _ (passed_as here bytes.1 _ _ (ap (λ (n : ℕ). spelling saved_widths (slice_index v 0 ∷ slice_index v 1 ∷ n ∷ []) ++ bytes.0) (sym b.1)) (passed_more here there bytes.1 _ _ p b.0))))))))

-- ---- magazines

round_passed : (shapes : List CacheShape) (slabs : List SlabItem) (cache : ℕ) (seen before : List ℕ) (here : Reader) → IsBytes here.bytes → When (round_at shapes slabs cache seen before here) (λ out. Passed here out.1 (little_bytes 4 out.0))
unfolding one_round_at
round_passed shapes slabs cache seen before here good =
    let v = numbers_at (4 ∷ []) (rest here) in
    let there = further (sum (4 ∷ [])) here in
    after_record _ (4 ∷ []) here _ good (λ p. after_rule _ (is_chunk_of shapes slabs cache (slice_index v 0)) _ _ _ (λ y. after_rule _ (not (is_listed slabs (slice_index v 0)) && not (has_number (seen ++ before) (slice_index v 0))) _ _ _ (λ y. when_ok _ _ (passed_as here _ _ _ (append-nil _) p))))

rounds_passed : (shapes : List CacheShape) (slabs : List SlabItem) (cache : ℕ) (seen : List ℕ) (count : ℕ) (here : Reader) → IsBytes here.bytes → When (rounds_at shapes slabs cache seen count here) (Section (little_bytes 4) count here)
rounds_passed shapes slabs cache seen count here good = section_passed (little_bytes 4) (round_at shapes slabs cache seen) (round_passed shapes slabs cache seen) count here good

count_passed : (most : ℕ) (here : Reader) → IsBytes here.bytes → When (count_at most here) (λ out. Passed here out.1 (little_bytes 4 out.0))
unfolding count_at
count_passed most here good =
    let v = numbers_at (4 ∷ []) (rest here) in
    let there = further (sum (4 ∷ [])) here in
    after_record _ (4 ∷ []) here _ good (λ p. after_rule _ (leb (slice_index v 0) most) _ _ _ (λ y. when_ok _ _ (passed_as here _ _ _ (append-nil _) p)))

magazine_passed : (shapes : List CacheShape) (slabs : List SlabItem) (cache : ℕ) (seen : List ℕ) (here : Reader) → IsBytes here.bytes → When (magazine_at shapes slabs cache seen here) (λ out. Passed here out.1 (spelled_magazine out.0))
unfolding magazine_at
magazine_passed shapes slabs cache seen here good =
    after _ (λ (out : ℕ × Reader). Passed here out.1 (little_bytes 4 out.0)) (count_at (shape_at shapes cache).magazine here) _ (count_passed (shape_at shapes cache).magazine here good) (λ count p. when_map _ _ _ (rounds_passed shapes slabs cache seen count.0 count.1 (good_behind here count.1 _ p good)) (λ out s. passed_as here out.1 _ _ (ap (λ (n : ℕ). little_bytes 4 n ++ spelled_numbers out.0) (sym s.many)) (passed_more here count.1 out.1 _ _ p s.passed)))

pub place_passed : (caches : ℕ) (shapes : List CacheShape) (slabs : List SlabItem) (before : List CpuPlace) (here : Reader) → IsBytes here.bytes → When (cpu_place_at caches shapes slabs before here) (λ out. Passed here out.1 (spelled_place out.0))
unfolding one_place_at
place_passed caches shapes slabs before here good =
    let cache = length before % caches in
    let seen = flat_map place_rounds before in
    after _ (λ (out : List ℕ × Reader). Passed here out.1 (spelled_magazine out.0)) (magazine_at shapes slabs cache seen here) _ (magazine_passed shapes slabs cache seen here good) (λ loaded p. after _ (λ (out : List ℕ × Reader). Passed loaded.1 out.1 (spelled_magazine out.0)) (magazine_at shapes slabs cache (seen ++ loaded.0) loaded.1) _ (magazine_passed shapes slabs cache (seen ++ loaded.0) loaded.1 (good_behind here loaded.1 _ p good)) (λ previous q. when_ok _ _ (passed_more here loaded.1 previous.1 _ _ p q)))

full_passed : (shapes : List CacheShape) (slabs : List SlabItem) (cache : ℕ) (seen : List ℕ) (before : List (List ℕ)) (here : Reader) → IsBytes here.bytes → When (full_at shapes slabs cache seen before here) (λ out. Passed here out.1 (spelled_numbers out.0))
full_passed shapes slabs cache seen before here good =
    when_map _ _ _ (rounds_passed shapes slabs cache (seen ++ all_rounds before) (shape_at shapes cache).magazine here good) (λ out s. s.passed)

pub depot_passed : (shapes : List CacheShape) (slabs : List SlabItem) (seen : List ℕ) (before : List DepotItem) (here : Reader) → IsBytes here.bytes → When (depot_item_at shapes slabs seen before here) (λ out. Passed here out.1 (spelled_depot out.0))
unfolding one_depot_at
depot_passed shapes slabs seen before here good =
    let cache = length before in
    let now = seen ++ flat_map depot_rounds_of before in
    after _ (λ (out : ℕ × Reader). Passed here out.1 (little_bytes 4 out.0)) (count_at MOST_FULL here) _ (count_passed MOST_FULL here good) (λ count p. after _ (Section spelled_numbers count.0 count.1) (items_at (full_at shapes slabs cache now) count.0 [] count.1) _ (section_passed spelled_numbers (full_at shapes slabs cache now) (full_passed shapes slabs cache now) count.0 count.1 (good_behind here count.1 _ p good)) (λ full s. when_ok _ _ (passed_as here full.1 _ _ (ap (λ (n : ℕ). little_bytes 4 n ++ flat_map spelled_numbers full.0) (sym s.many)) (passed_more here count.1 full.1 _ _ p s.passed))))

-- ---- slabs and large buffers

listed_passed : (first past : ℕ) (before : List ℕ) (here : Reader) → IsBytes here.bytes → When (listed_at first past before here) (λ out. Passed here out.1 (little_bytes 4 out.0))
unfolding listed_at
listed_passed first past before here good =
    let v = numbers_at (4 ∷ []) (rest here) in
    let there = further (sum (4 ∷ [])) here in
    after_record _ (4 ∷ []) here _ good (λ p. after_rule _ (leb first (slice_index v 0) && ltb (slice_index v 0) past) _ _ _ (λ y. after_rule _ (is_unlike (last_of_list before) (slice_index v 0)) _ _ _ (λ y. after_rule _ (is_above (last_of_list before) (slice_index v 0)) _ _ _ (λ y. when_ok _ _ (passed_as here _ _ _ (append-nil _) p)))))

head_passed : (here : Reader) → IsBytes here.bytes → When (slab_head_at here) (λ out. Passed here out.1 (spelling slab_widths (out.0.0.base ∷ out.0.0.cache ∷ out.0.0.colour ∷ out.0.0.first ∷ out.0.1 ∷ [])))
unfolding slab_head_at
head_passed here good =
    after_record _ slab_widths here _ good (λ p. when_ok _ _ p)

pub slab_passed : (h : Header) (shapes : List CacheShape) (before : List SlabItem) (here : Reader) → IsBytes here.bytes → When (slab_item_at h shapes before here) (λ out. Passed here out.1 (spelled_slab out.0))
unfolding slab_item_at
slab_passed h shapes before here good =
    after _ (λ (out : (SlabItem × ℕ) × Reader). Passed here out.1 (spelling slab_widths (out.0.0.base ∷ out.0.0.cache ∷ out.0.0.colour ∷ out.0.0.first ∷ out.0.1 ∷ []))) (slab_head_at here) _ (head_passed here good) (λ head p. let slab = head.0.0 in let past = past_chunks shapes slab in after_any _ (slab_rules h shapes (last_of_list before) slab here.at) _ (λ u. after_any _ (first_rules h past (list_any (meets_chunks shapes slab.first past) before) (here.at + 16)) _ (λ u. after_rule _ (leb head.0.1 (shape_at shapes slab.cache).rounds) _ _ _ (λ y. after _ (Section (little_bytes 4) head.0.1 head.1) (items_at (listed_at slab.first past) head.0.1 [] head.1) _ (section_passed (little_bytes 4) (listed_at slab.first past) (listed_passed slab.first past) head.0.1 head.1 (good_behind here head.1 _ p good)) (λ free s. when_ok _ _ (passed_as here free.1 _ _ (ap (λ (n : ℕ). spelling slab_widths (slab.base ∷ slab.cache ∷ slab.colour ∷ slab.first ∷ n ∷ []) ++ spelled_numbers free.0) (sym s.many)) (passed_more here head.1 free.1 _ _ p s.passed)))))))

pub large_passed : (h : Header) (shapes : List CacheShape) (slabs : List SlabItem) (before : List LargeItem) (here : Reader) → IsBytes here.bytes → When (large_item_at h shapes slabs before here) (λ out. Passed here out.1 (spelled_large out.0))
unfolding large_item_at
large_passed h shapes slabs before here good =
    let v = numbers_at (8 ∷ 8 ∷ []) (rest here) in
    let there = further (sum (8 ∷ 8 ∷ [])) here in
    let item = large_of v in
    after_record _ (8 ∷ 8 ∷ []) here _ good (λ p. after_rule _ (is_arena_page h.version item.base) _ _ _ (λ y. after_rule _ (is_above (option_map (λ l. l.base) (last_of_list before)) item.base) _ _ _ (λ y. after_rule _ (ltb 4096 item.size) _ _ _ (λ y. after_rule _ (ends_in_arena h.version item.base (pages_for item.size)) _ _ _ (λ y. after_rule _ (not (meets_some shapes slabs before item.base (large_end item))) _ _ _ (λ y. when_ok _ _ p))))))

-- ---- caches

-- two lists of so many zeros are the same
zeros_same : (xs ys : List ℕ) → list_all is_zero xs ≡ true → list_all is_zero ys ≡ true → length xs ≡ length ys → xs ≡ ys
zeros_same [] [] a b e = refl
zeros_same [] (y ∷ ys) a b e = absurd (omega arith)
zeros_same (x ∷ xs) [] a b e = absurd (omega arith)
zeros_same (x ∷ xs) (y ∷ ys) a b e =
    let px = and_parts (is_zero x) (list_all is_zero xs) a in
    let py = and_parts (is_zero y) (list_all is_zero ys) b in
    rw (eqb-true x 0 px.0, eqb-true y 0 py.0, zeros_same xs ys px.1 py.1 (omega arith)) refl

zeros-drop : (n : ℕ) (xs : List ℕ) → list_all is_zero xs ≡ true → list_all is_zero (drop n xs) ≡ true
zeros-drop zero xs a = a
zeros-drop (suc n) [] a = refl
zeros-drop (suc n) (x ∷ xs) a = zeros-drop n xs (and_parts (is_zero x) (list_all is_zero xs) a).1

-- a padded field is its name's
name_back : (field : List ℕ) → length field ≡ 32 → is_padded field ≡ true → field ≡ spelled_name (padded_name field)
name_back field long padded =
    let k = padded_length field in
    let name = take k field in
    let same : drop k field ≡ drop (length name) NAME_PADDING =
    zeros_same (drop k field) (drop (length name) NAME_PADDING) padded (zeros-drop (length name) NAME_PADDING refl) (omega (arith, length-drop k field, length-drop (length name) NAME_PADDING, length-take k field)) in
    sym (take-append-drop k field) ∙ ap (λ (t : List ℕ). name ++ t) same

ctor_back : (cache ctor : ℕ) → is_ctor_of cache ctor ≡ true → ctor ≡ ctor_number (ctor_of ctor)
ctor_back cache ctor e =
    let small : ctor ≤ 256 = grind (arith, nat_tests) in
    elim (cases_lt ctor 256) [
      | inl lt ↦ rw (lt-ltb ctor 256 lt) refl
      | inr le ↦ let is : ctor ≡ 256 = omega arith in rw is refl
    ]

-- the numbers of a cache as they stand
abbrev raw_numbers : Bool → CacheNumbers → List ℕ
raw_numbers first n = cond first (spelling (4 ∷ 4 ∷ 4 ∷ []) (n.size ∷ n.align ∷ n.grows ∷ [])) (spelling (4 ∷ 4 ∷ 4 ∷ 4 ∷ []) (n.size ∷ n.align ∷ n.grows ∷ n.ctor ∷ []))

cache_numbers_passed : (first : Bool) (here : Reader) → IsBytes here.bytes → When (cond first (first_numbers_at here) (later_numbers_at here)) (λ out. Passed here out.1 (raw_numbers first out.0))
unfolding first_numbers_at later_numbers_at
cache_numbers_passed true here good =
    after_record _ (4 ∷ 4 ∷ 4 ∷ []) here _ good (λ p. when_ok _ _ p)
cache_numbers_passed false here good =
    after_record _ (4 ∷ 4 ∷ 4 ∷ 4 ∷ []) here _ good (λ p. when_ok _ _ p)

rules_ctor : (cache : ℕ) (numbers : CacheNumbers) (start : ℕ) → When (number_rules cache numbers start) (λ _. is_ctor_of cache numbers.ctor ≡ true)
unfolding number_rules
rules_ctor cache numbers start =
    after_rule _ (is_size_of cache numbers.size) _ _ _ (λ y. after_rule _ (is_align_of cache numbers.align) _ _ _ (λ y. when_rule _ _ _))

numbers_back : (first : Bool) (cache : ℕ) (n : CacheNumbers) → is_ctor_of cache n.ctor ≡ true
    → raw_numbers first n ≡ cond first (spelling (4 ∷ 4 ∷ 4 ∷ []) (n.size ∷ n.align ∷ n.grows ∷ [])) (spelling (4 ∷ 4 ∷ 4 ∷ 4 ∷ []) (n.size ∷ n.align ∷ n.grows ∷ ctor_number (ctor_of n.ctor) ∷ []))
numbers_back true cache n e = refl
numbers_back false cache n e = ap (λ (c : ℕ). spelling (4 ∷ 4 ∷ 4 ∷ 4 ∷ []) (n.size ∷ n.align ∷ n.grows ∷ c ∷ [])) (ctor_back cache n.ctor e)

pub cache_passed : (h : Header) (before : List CacheItem) (here : Reader) → IsBytes here.bytes → When (cache_item_at h before here) (λ out. Passed here out.1 (spelled_cache h.version out.0))
unfolding cache_item_at
cache_passed h before here good =
    after_rule _ (leb (cache_bytes h) (length here.bytes - here.at)) _ _ _ (λ y. after _ (λ (out : List ℕ × Reader). Passed here out.1 out.0 × (length out.0 ≡ 32)) (bytes_at 32 here) _ (bytes_passed 32 here) (λ field p. after _ (λ (out : CacheNumbers × Reader). Passed field.1 out.1 (raw_numbers (h.version == 1) out.0)) (cache_numbers_at h field.1) _ (cache_numbers_passed (h.version == 1) field.1 (good_behind here field.1 _ p.0 good)) (λ numbers q. after_rule _ (is_padded field.0) _ _ _ (λ padded. after_rule _ (is_name_behind before (padded_name field.0)) _ _ _ (λ y. after _ (λ (done : Unit {0}). is_ctor_of (length before) numbers.0.ctor ≡ true) (number_rules (length before) numbers.0 here.at) _ (rules_ctor (length before) numbers.0 here.at) (λ ruled ctor. when_ok _ _ (passed_more here field.1 numbers.1 _ _ (passed_as here field.1 _ _ (name_back field.0 p.1 padded) p.0) (passed_as field.1 numbers.1 _ _ (numbers_back (h.version == 1) (length before) numbers.0 ctor) q))))))))

-- ---- headers

header_passed : (here : Reader) → IsBytes here.bytes → When (header_at here) (λ out. Passed here out.1 (spelled_header out.0))
unfolding header_at
header_passed here good =
    let v = numbers_at header_widths (rest here) in
    let there = further (sum header_widths) here in
    after_record _ header_widths here _ good (λ p. after_rule _ (slice_index v 0 == MAGIC) _ _ _ (λ magic. after_any _ (header_rules (header_of v) here.at) _ (λ u. when_ok _ _ (passed_as here _ _ _ (ap (λ (m : ℕ). spelling header_widths (m ∷ slice_index v 1 ∷ slice_index v 2 ∷ slice_index v 3 ∷ slice_index v 4 ∷ slice_index v 5 ∷ slice_index v 6 ∷ slice_index v 7 ∷ slice_index v 8 ∷ slice_index v 9 ∷ slice_index v 10 ∷ slice_index v 11 ∷ slice_index v 12 ∷ slice_index v 13 ∷ slice_index v 14 ∷ slice_index v 15 ∷ [])) (eqb-true (slice_index v 0) MAGIC magic)) p))))

second_record_passed : (h : Header) (here : Reader) → IsBytes here.bytes → When (second_header_at h here) (λ out. Passed here out.1 (spelling second_widths (out.0.threads ∷ out.0.contents_capacity ∷ out.0.saved ∷ [])))
unfolding second_header_at
second_record_passed h here good =
    let v = numbers_at second_widths (rest here) in
    let there = further (sum second_widths) here in
    after_record _ second_widths here _ good (λ p. after_rule _ (is_count 1 (slice_index v 0) MOST_THREADS) _ _ _ (λ y. after_rule _ (has_contents_log h.flags (slice_index v 1)) _ _ _ (λ y. after_rule _ (leb (slice_index v 2) (slice_index v 1)) _ _ _ (λ y. when_ok _ _ p))))

abbrev one_or_none : Bool → SecondHeader → List ℕ
one_or_none none second = cond none [] (spelling second_widths (second.threads ∷ second.contents_capacity ∷ second.saved ∷ []))

second_passed : (none : Bool) (h : Header) (here : Reader) → IsBytes here.bytes → When (cond none (Ok (no_second, here)) (second_header_at h here)) (λ out. Passed here out.1 (one_or_none none out.0))
second_passed true h here good = when_ok _ _ (passed_none here)
second_passed false h here good = second_record_passed h here good

pub headers_passed : (here : Reader) → IsBytes here.bytes → When (headers_at here) (λ out. Passed here out.1 (spelled_header out.0.0 ++ spelled_second out.0.0.version out.0.1))
unfolding headers_at
headers_passed here good =
    after _ (λ (out : Header × Reader). Passed here out.1 (spelled_header out.0)) (header_at here) _ (header_passed here good) (λ first p. after _ (λ (out : SecondHeader × Reader). Passed first.1 out.1 (one_or_none (first.0.version == 1) out.0)) (cond (first.0.version == 1) (Ok (no_second, first.1)) (second_header_at first.0 first.1)) _ (second_passed (first.0.version == 1) first.0 first.1 (good_behind here first.1 _ p good)) (λ second q. when_ok _ _ (passed_more here first.1 second.1 _ _ p q)))
