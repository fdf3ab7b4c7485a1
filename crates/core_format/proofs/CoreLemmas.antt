-- A core is spelled as the bytes that it was read from.
use Rattle.std.proofs.Common.{◌≡◌, ℕ, zero, suc, ◌+◌, ◌-◌, ◌*◌, ◌<◌, ◌≤◌, Bool, true, false, cond, ltb, List, [], ◌∷◌, ◌++◌, length, take, drop, refl, sym, ap, subst, ◌∙◌, append_assoc, drop-cons, arith}
use Rattle.std.specs.Prelude.{All, map, slice_index_or, ◌==◌}
use Rattle.std.specs.List.{flat_map}
use Rattle.std.proofs.lemmas.List.{append-nil, drop_all, drop_at, length-append, length-drop, length-map, map-append, take-append-drop, take_all, take_at, drop-drop}
use Rattle.std.proofs.lemmas.Bool.{eqb-true}
use Rattle.case_table.proofs.RecordLemmas.{IsBytes, IsBytes-from_All}
use Rattle.umem_base.specs.Pages.{pages_for}
use Rattle.umem_base.specs.declared.pages.TheConstants.{PAGE_BYTES}
use Rattle.core_format.specs.declared.cache_shape.CacheShape.{CacheShape}
use Rattle.core_format.specs.declared.header.Header.{Header}
use Rattle.core_format.specs.declared.header.SecondHeader.{SecondHeader}
use Rattle.core_format.specs.declared.items.LargeItem.{LargeItem}
use Rattle.core_format.specs.declared.items.SlabItem.{SlabItem}
use Rattle.core_format.specs.declared.parts.Front.{Front}
use Rattle.core_format.specs.declared.parts.Middle.{Middle}
use Rattle.core_format.specs.declared.parts.Records.{Records}
use Rattle.core_format.specs.declared.whole.Core.{Core}
use Rattle.core_format.specs.Caches.{cache_item_at, shapes_of}
use Rattle.core_format.specs.Cores.{IsCore, MeetsTheRules, core_of, core_of_parts, front_at, middle_at, records_at}
use Rattle.core_format.specs.Header.{headers_at}
use Rattle.core_format.specs.Items.{items_at}
use Rattle.core_format.specs.Logs.{audit_item_at, fail_item_at, saved_item_at, trans_item_at}
use Rattle.core_format.specs.Magazines.{cpu_place_at, depot_item_at, place_rounds}
use Rattle.core_format.specs.PageBytes.{large_bytes_at, large_page_at, lower_count, no_large, pages_at, slab_bytes_at}
use Rattle.core_format.specs.Reader.{Reader, bytes_at, left}
use Rattle.core_format.specs.Segments.{own_root_at, segment_at}
use Rattle.core_format.specs.Slabs.{large_item_at, shape_at, slab_item_at}
use Rattle.core_format.specs.Spelling.{large_bytes, second_of_core, spelled_audit, spelled_cache, spelled_core, spelled_depot, spelled_fail, spelled_front, spelled_header, spelled_large, spelled_middle, spelled_own, spelled_pages, spelled_place, spelled_saved, spelled_second, spelled_slab, spelled_trans, spelled_words}
use Rattle.core_format.proofs.SectionLemmas.{audit_passed, cache_passed, depot_passed, fail_passed, headers_passed, large_passed, own_passed, place_passed, saved_passed, segment_passed, slab_passed, trans_passed}
use Rattle.core_format.proofs.SpellingLemmas.{Passed, Section, When, after, after_rule, bytes_passed, good_behind, passed_as, passed_more, passed_none, rest, section_passed, when_is, when_map, when_ok}

-- ---- the sections together

record FrontIs (here : Reader) (out : Front × Reader) : Type 0 where
  pub own : length out.0.own ≡ out.0.second.threads
  pub caches : length out.0.caches ≡ out.0.header.caches
  pub passed : Passed here out.1 (spelled_header out.0.header ++ spelled_second out.0.header.version out.0.second ++ spelled_words out.0.root ++ flat_map spelled_own out.0.own ++ flat_map (spelled_cache out.0.header.version) out.0.caches)

front_passed : (here : Reader) → IsBytes here.bytes → When (front_at here) (FrontIs here)
unfolding front_at
front_passed here good = after _ (λ (out : (Header × SecondHeader) × Reader). Passed here out.1 (spelled_header out.0.0 ++ spelled_second out.0.0.version out.0.1)) (headers_at here) _ (headers_passed here good) (λ headers p.
    let good_headers = good_behind here headers.1 _ p good in
    after _ (λ (out : List ℕ × Reader). Passed headers.1 out.1 (spelled_words out.0)) (segment_at headers.1) _ (segment_passed headers.1 good_headers) (λ root q.
    let good_root = good_behind headers.1 root.1 _ q good_headers in
    after _ (Section spelled_own headers.0.1.threads root.1) (items_at own_root_at headers.0.1.threads [] root.1) _ (section_passed spelled_own own_root_at own_passed headers.0.1.threads root.1 good_root) (λ own r.
    let good_own = good_behind root.1 own.1 _ r.passed good_root in
    after _ (Section (spelled_cache headers.0.0.version) headers.0.0.caches own.1) (items_at (cache_item_at headers.0.0) headers.0.0.caches [] own.1) _ (section_passed (spelled_cache headers.0.0.version) (cache_item_at headers.0.0) (cache_passed headers.0.0) headers.0.0.caches own.1 good_own) (λ caches s.
    when_ok _ _ (record {
      own = r.many;
      caches = s.many;
      passed = passed_more here own.1 caches.1 _ _ (passed_more here root.1 own.1 _ _ (passed_more here headers.1 root.1 _ _ p q) r.passed) s.passed;
    })))))

record MiddleIs (h : Header) (here : Reader) (out : Middle × Reader) : Type 0 where
  pub slabs : length out.0.table.slabs ≡ h.slabs
  pub large : length out.0.large ≡ h.large
  pub passed : Passed here out.1 (flat_map spelled_slab out.0.table.slabs ++ flat_map spelled_large out.0.large ++ flat_map spelled_place out.0.cpu_places ++ flat_map spelled_depot out.0.depots)

middle_passed : (h : Header) (shapes : List CacheShape) (here : Reader) → IsBytes here.bytes → When (middle_at h shapes here) (MiddleIs h here)
unfolding middle_at
middle_passed h shapes here good = after _ (Section spelled_slab h.slabs here) (items_at (slab_item_at h shapes) h.slabs [] here) _ (section_passed spelled_slab (slab_item_at h shapes) (slab_passed h shapes) h.slabs here good) (λ slabs p.
    let good_slabs = good_behind here slabs.1 _ p.passed good in
    after _ (Section spelled_large h.large slabs.1) (items_at (large_item_at h shapes slabs.0) h.large [] slabs.1) _ (section_passed spelled_large (large_item_at h shapes slabs.0) (large_passed h shapes slabs.0) h.large slabs.1 good_slabs) (λ large q.
    let good_large = good_behind slabs.1 large.1 _ q.passed good_slabs in
    after _ (Section spelled_place (h.cpus * h.caches) large.1) (items_at (cpu_place_at h.caches shapes slabs.0) (h.cpus * h.caches) [] large.1) _ (section_passed spelled_place (cpu_place_at h.caches shapes slabs.0) (place_passed h.caches shapes slabs.0) (h.cpus * h.caches) large.1 good_large) (λ places r.
    let good_places = good_behind large.1 places.1 _ r.passed good_large in
    after _ (Section spelled_depot h.caches places.1) (items_at (depot_item_at shapes slabs.0 (flat_map place_rounds places.0)) h.caches [] places.1) _ (section_passed spelled_depot (depot_item_at shapes slabs.0 (flat_map place_rounds places.0)) (depot_passed shapes slabs.0 (flat_map place_rounds places.0)) h.caches places.1 good_places) (λ depots s.
    when_ok _ _ (record {
      slabs = p.many;
      large = q.many;
      passed = passed_more here places.1 depots.1 _ _ (passed_more here large.1 places.1 _ _ (passed_more here slabs.1 large.1 _ _ p.passed q.passed) r.passed) s.passed;
    })))))

record RecordsAre (h : Header) (second : SecondHeader) (here : Reader) (out : Records × Reader) : Type 0 where
  pub audits : length out.0.audits ≡ h.audits
  pub trans : length out.0.trans ≡ h.trans
  pub fails : length out.0.fails ≡ h.fails
  pub saved : length out.0.saved ≡ second.saved
  pub passed : Passed here out.1 (flat_map spelled_audit out.0.audits ++ flat_map spelled_trans out.0.trans ++ flat_map spelled_fail out.0.fails ++ flat_map spelled_saved out.0.saved)

records_passed : (h : Header) (second : SecondHeader) (shapes : List CacheShape) (slabs : List SlabItem) (here : Reader) → IsBytes here.bytes → When (records_at h second shapes slabs here) (RecordsAre h second here)
unfolding records_at
records_passed h second shapes slabs here good = after _ (Section spelled_audit h.audits here) (items_at (audit_item_at h shapes slabs) h.audits [] here) _ (section_passed spelled_audit (audit_item_at h shapes slabs) (audit_passed h shapes slabs) h.audits here good) (λ audits p.
    let good_audits = good_behind here audits.1 _ p.passed good in
    after _ (Section spelled_trans h.trans audits.1) (items_at (trans_item_at h) h.trans [] audits.1) _ (section_passed spelled_trans (trans_item_at h) (trans_passed h) h.trans audits.1 good_audits) (λ trans q.
    let good_trans = good_behind audits.1 trans.1 _ q.passed good_audits in
    after _ (Section spelled_fail h.fails trans.1) (items_at (fail_item_at h) h.fails [] trans.1) _ (section_passed spelled_fail (fail_item_at h) (fail_passed h) h.fails trans.1 good_trans) (λ fails r.
    let good_fails = good_behind trans.1 fails.1 _ r.passed good_trans in
    after _ (Section spelled_saved second.saved fails.1) (items_at (saved_item_at h) second.saved [] fails.1) _ (section_passed spelled_saved (saved_item_at h) (saved_passed h) second.saved fails.1 good_fails) (λ saved s.
    when_ok _ _ (record {
      audits = p.many;
      trans = q.many;
      fails = r.many;
      saved = s.many;
      passed = passed_more here fails.1 saved.1 _ _ (passed_more here trans.1 fails.1 _ _ (passed_more here audits.1 trans.1 _ _ p.passed q.passed) r.passed) s.passed;
    })))))

-- ---- pages

-- a large buffer without its bytes
bare : LargeItem → LargeItem
bare item = record { base = item.base; size = item.size; bytes = [] }

counted : (b : Bool) (n m : ℕ) → n ≤ m → cond b (suc n) 0 ≤ suc m
counted true n m le = omega arith
counted false n m le = omega arith

lower_count-le : (base : ℕ) (large : List LargeItem) → lower_count base large ≤ length large
lower_count-le base [] = omega arith
lower_count-le base (item ∷ items) = counted (ltb item.base base) (lower_count base items) (length items) (lower_count-le base items)

lower_count-bare : (base : ℕ) (large : List LargeItem) → lower_count base large ≡ lower_count base (map bare large)
unfolding bare
lower_count-bare base [] = refl
lower_count-bare base (item ∷ items) = ap (λ (n : ℕ). cond (ltb item.base base) (suc n) 0) (lower_count-bare base items)

spelled-bare : (large : List LargeItem) → flat_map spelled_large large ≡ flat_map spelled_large (map bare large)
unfolding bare
spelled-bare [] = refl
spelled-bare (item ∷ items) = ap (λ (t : List ℕ). spelled_large item ++ t) (spelled-bare items)

record LargePages (large : List LargeItem) (count : ℕ) (before : List LargeItem) (here : Reader) (out : List LargeItem × Reader) : Type 0 where
  pub more : List LargeItem
  pub behind : out.0 ≡ before ++ more
  pub many : length more ≡ count
  pub same : map bare more ≡ map bare (take count (drop (length before) large))
  pub passed : Passed here out.1 (large_bytes more)

large_page_passed : (item : LargeItem) (here : Reader) → When (large_bytes_at item here) (λ out. Passed here out.1 out.0.bytes × (bare out.0 ≡ bare item))
unfolding large_bytes_at bare
large_page_passed item here = after _ (λ (out : List ℕ × Reader). Passed here out.1 out.0 × (length out.0 ≡ PAGE_BYTES * pages_for item.size)) (bytes_at (PAGE_BYTES * pages_for item.size) here) _ (bytes_passed (PAGE_BYTES * pages_for item.size) here) (λ bytes p. when_ok _ _ (p.0, refl))

large_pages_passed : (large : List LargeItem) (count : ℕ) (before : List LargeItem) (here : Reader) → length before + count ≤ length large → When (items_at (large_page_at large) count before here) (LargePages large count before here)
unfolding items_at
large_pages_passed large zero before here fits = when_ok (before, here) (LargePages large zero before here) (record { more = []; behind = sym (append-nil before); many = refl; same = refl; passed = passed_none here })
large_pages_passed large (suc count) before here fits =
    let x = slice_index_or large (length before) no_large in
    after (LargePages large (suc count) before here) (λ next. Passed here next.1 next.0.bytes × (bare next.0 ≡ bare x)) (large_page_at large before here) (λ next. items_at (large_page_at large) count (before ++ next.0 ∷ []) next.1) (large_page_passed x here) (λ next p.
    let long : length (before ++ next.0 ∷ []) ≡ suc (length before) = omega (arith, length-append before (next.0 ∷ [])) in
    when_map (LargePages large count (before ++ next.0 ∷ []) next.1) (LargePages large (suc count) before here) _ (large_pages_passed large count (before ++ next.0 ∷ []) next.1 (omega (arith, long, fits))) (λ out i.
    let rest_is : drop (length before) large ≡ x ∷ drop (suc (length before)) large = drop-cons large (length before) no_large (omega arith) in
    record {
      more = next.0 ∷ i.more;
      behind = i.behind ∙ append_assoc before (next.0 ∷ []) i.more;
      many = ap suc i.many;
      same = rw rest_is (ap (λ (t : List LargeItem). bare next.0 ∷ t) i.same ∙ ap (λ (n : ℕ). bare next.0 ∷ map bare (take count (drop n large))) long ∙ ap (λ (y : LargeItem). y ∷ map bare (take count (drop (suc (length before)) large))) p.1);
      passed = passed_more here next.1 out.1 next.0.bytes (large_bytes i.more) p.0 i.passed;
    }))

record PagesAre (large : List LargeItem) (left slabs : List SlabItem) (before : List LargeItem) (here : Reader) (out : (List SlabItem × List LargeItem) × Reader) : Type 0 where
  pub more : List SlabItem
  pub more_large : List LargeItem
  pub behind : out.0.0 ≡ slabs ++ more
  pub large_behind : out.0.1 ≡ before ++ more_large
  pub many : length more ≡ length left
  pub spelled : flat_map spelled_slab more ≡ flat_map spelled_slab left
  pub same : map bare more_large ≡ map bare (drop (length before) large)
  pub passed : Passed here out.1 (spelled_pages more more_large)

slab_page_passed : (shapes : List CacheShape) (slab : SlabItem) (here : Reader) → When (slab_bytes_at shapes slab here) (λ out. Passed here out.1 out.0.bytes × (spelled_slab out.0 ≡ spelled_slab slab) × (out.0.base ≡ slab.base))
unfolding slab_bytes_at
slab_page_passed shapes slab here = after _ (λ (out : List ℕ × Reader). Passed here out.1 out.0 × (length out.0 ≡ PAGE_BYTES * (shape_at shapes slab.cache).pages)) (bytes_at (PAGE_BYTES * (shape_at shapes slab.cache).pages) here) _ (bytes_passed (PAGE_BYTES * (shape_at shapes slab.cache).pages) here) (λ bytes p. when_ok _ _ (p.0, refl, refl))

pages_passed : (shapes : List CacheShape) (large : List LargeItem) (left slabs : List SlabItem) (before : List LargeItem) (here : Reader) → length before ≤ length large → When (pages_at shapes large left slabs before here) (PagesAre large left slabs before here)
unfolding pages_at
pages_passed shapes large [] slabs before here fits =
    let count = length large - length before in
    after (PagesAre large [] slabs before here) (LargePages large count before here) (items_at (large_page_at large) count before here) _ (large_pages_passed large count before here (omega arith)) (λ upper u.
    when_ok _ _ (record {
      more = [];
      more_large = u.more;
      behind = sym (append-nil slabs);
      large_behind = u.behind;
      many = refl;
      spelled = refl;
      same = u.same ∙ ap (map bare) (take_all count (drop (length before) large) (omega (arith, length-drop (length before) large)));
      passed = u.passed;
    }))
pages_passed shapes large (slab ∷ left) slabs before here fits =
    let over = drop (length before) large in
    let n = lower_count slab.base over in
    let few : n ≤ length large - length before = omega (arith, lower_count-le slab.base over, length-drop (length before) large) in
    after (PagesAre large (slab ∷ left) slabs before here) (LargePages large n before here) (items_at (large_page_at large) n before here) _ (large_pages_passed large n before here (omega arith)) (λ lower l.
    let long : length lower.0 ≡ length before + n = ap length l.behind ∙ omega (arith, length-append before l.more, l.many) in
    after (PagesAre large (slab ∷ left) slabs before here) (λ (out : SlabItem × Reader). Passed lower.1 out.1 out.0.bytes × (spelled_slab out.0 ≡ spelled_slab slab) × (out.0.base ≡ slab.base)) (slab_bytes_at shapes slab lower.1) _ (slab_page_passed shapes slab lower.1) (λ own o.
    when_map (PagesAre large left (slabs ++ own.0 ∷ []) lower.0 own.1) (PagesAre large (slab ∷ left) slabs before here) _ (pages_passed shapes large left (slabs ++ own.0 ∷ []) lower.0 own.1 (omega (arith, long, few, fits))) (λ out g.
    let all = l.more ++ g.more_large in
    let same : map bare all ≡ map bare over =
    map-append bare l.more g.more_large ∙ ap (λ (t : List LargeItem). t ++ map bare g.more_large) l.same ∙ ap (λ (t : List LargeItem). map bare (take n over) ++ t) (g.same ∙ ap (λ (k : ℕ). map bare (drop k large)) long ∙ ap (map bare) (sym (drop-drop n (length before) large)))
    ∙ sym (map-append bare (take n over) (drop n over)) ∙ ap (map bare) (take-append-drop n over) in
    let count : lower_count own.0.base all ≡ n = ap (λ (b : ℕ). lower_count b all) o.2 ∙ lower_count-bare slab.base all ∙ ap (lower_count slab.base) same ∙ sym (lower_count-bare slab.base over) in
    record {
      more = own.0 ∷ g.more;
      more_large = all;
      behind = g.behind ∙ append_assoc slabs (own.0 ∷ []) g.more;
      large_behind = g.large_behind ∙ ap (λ (t : List LargeItem). t ++ g.more_large) l.behind ∙ append_assoc before l.more g.more_large;
      many = ap suc g.many;
      spelled = ap (λ (t : List ℕ). t ++ flat_map spelled_slab g.more) o.1 ∙ ap (λ (t : List ℕ). spelled_slab slab ++ t) g.spelled;
      same = same;
      passed = passed_as here out.1 _ _ (sym (ap (λ (k : ℕ). large_bytes (take k all) ++ own.0.bytes ++ spelled_pages g.more (drop k all)) count ∙ ap (λ (t : List LargeItem). large_bytes t ++ own.0.bytes ++ spelled_pages g.more (drop n all)) (take_at l.more g.more_large n l.many) ∙ ap (λ (t : List LargeItem). large_bytes l.more ++ own.0.bytes ++ spelled_pages g.more t) (drop_at l.more g.more_large n l.many)))
          (passed_more here own.1 out.1 _ _ (passed_more here lower.1 own.1 _ _ l.passed o.0) g.passed);
    })))

-- ---- the whole

header_back : (h : Header) (caches slabs large audits trans fails : ℕ) → caches ≡ h.caches → slabs ≡ h.slabs → large ≡ h.large → audits ≡ h.audits → trans ≡ h.trans → fails ≡ h.fails
    → record h { caches = caches; slabs = slabs; large = large; audits = audits; trans = trans; fails = fails } ≡ h
header_back h caches slabs large audits trans fails a b c d e f = rw (a, b, c, d, e, f) refl

second_back : (s : SecondHeader) (threads saved : ℕ) → threads ≡ s.threads → saved ≡ s.saved → record s { threads = threads; saved = saved } ≡ s
second_back s threads saved a b = rw (a, b) refl

four_same : (a a1 b b1 c d d1 : List ℕ) → a ≡ a1 → b ≡ b1 → d ≡ d1 → a ++ b ++ c ++ d ≡ a1 ++ b1 ++ c ++ d1
four_same a a1 b b1 c d d1 p q r = rw (p, q, r) refl

read_to_end : (xs ys more : List ℕ) → ys ≡ xs ++ more → more ≡ [] → xs ≡ ys
read_to_end xs ys more front ended = sym (front ∙ ap (λ (t : List ℕ). xs ++ t) ended ∙ append-nil xs)

core_passed : (bytes : List ℕ) → IsBytes bytes → When (core_of bytes) (λ core. spelled_core core ≡ bytes)
unfolding core_of
core_passed bytes good =
    let start : Reader = record { bytes = bytes; at = 0 } in
    after _ (FrontIs start) (front_at start) _ (front_passed start good) (λ front f.
    let h = front.0.header in
    let good_front = good_behind start front.1 _ f.passed good in
    after _ (MiddleIs h front.1) (middle_at h (shapes_of h front.0.caches) front.1) _ (middle_passed h (shapes_of h front.0.caches) front.1 good_front) (λ middle m.
    let good_middle = good_behind front.1 middle.1 _ m.passed good_front in
    let table = middle.0.table in
    after _ (RecordsAre h front.0.second middle.1) (records_at h front.0.second table.shapes table.slabs middle.1) _ (records_passed h front.0.second table.shapes table.slabs middle.1 good_middle) (λ records r.
    after _ (PagesAre middle.0.large table.slabs [] [] records.1) (pages_at table.shapes middle.0.large table.slabs [] [] records.1) _ (pages_passed table.shapes middle.0.large table.slabs [] [] records.1 (omega arith)) (λ pages g.
    after_rule _ (left pages.1 == 0) _ _ _ (λ done. when_ok _ _ (whole start front middle records pages good f m r g (eqb-true _ _ done)))))))
  where
    whole : (start : Reader) (front : Front × Reader) (middle : Middle × Reader) (records : Records × Reader) (pages : (List SlabItem × List LargeItem) × Reader) → IsBytes start.bytes
        → FrontIs start front → MiddleIs front.0.header front.1 middle → RecordsAre front.0.header front.0.second middle.1 records → PagesAre middle.0.large middle.0.table.slabs [] [] records.1 pages → left pages.1 ≡ 0
        → spelled_core (core_of_parts front.0 middle.0.cpu_places middle.0.depots records.0 pages.0.0 pages.0.1) ≡ rest start
    whole start front middle records pages good f m r g done =
        let h = front.0.header in
        let core = core_of_parts front.0 middle.0.cpu_places middle.0.depots records.0 pages.0.0 pages.0.1 in
        let slabs_many : length pages.0.0 ≡ h.slabs = ap length g.behind ∙ g.many ∙ m.slabs in
        let large_bare : map bare pages.0.1 ≡ map bare middle.0.large = ap (map bare) g.large_behind ∙ g.same in
        let large_many : length pages.0.1 ≡ h.large = sym (length-map pages.0.1 bare) ∙ ap length large_bare ∙ length-map middle.0.large bare ∙ m.large in
        let front_is : spelled_front core ≡ spelled_header h ++ spelled_second h.version front.0.second ++ spelled_words front.0.root ++ flat_map spelled_own front.0.own ++ flat_map (spelled_cache h.version) front.0.caches =
        ap (λ (t : List ℕ). t ++ spelled_second h.version (second_of_core core) ++ spelled_words front.0.root ++ flat_map spelled_own front.0.own ++ flat_map (spelled_cache h.version) front.0.caches) (ap spelled_header (header_back h _ _ _ _ _ _ f.caches slabs_many large_many r.audits r.trans r.fails))
        ∙ ap (λ (t : List ℕ). spelled_header h ++ t ++ spelled_words front.0.root ++ flat_map spelled_own front.0.own ++ flat_map (spelled_cache h.version) front.0.caches) (ap (spelled_second h.version) (second_back front.0.second _ _ f.own r.saved)) in
        let middle_is : spelled_middle core ≡ flat_map spelled_slab middle.0.table.slabs ++ flat_map spelled_large middle.0.large ++ flat_map spelled_place middle.0.cpu_places ++ flat_map spelled_depot middle.0.depots =
        ap (λ (t : List ℕ). t ++ flat_map spelled_large pages.0.1 ++ flat_map spelled_place middle.0.cpu_places ++ flat_map spelled_depot middle.0.depots) (ap (flat_map spelled_slab) g.behind ∙ g.spelled)
        ∙ ap (λ (t : List ℕ). flat_map spelled_slab middle.0.table.slabs ++ t ++ flat_map spelled_place middle.0.cpu_places ++ flat_map spelled_depot middle.0.depots) (spelled-bare pages.0.1 ∙ ap (flat_map spelled_large) large_bare ∙ sym (spelled-bare middle.0.large)) in
        let pages_is : spelled_pages pages.0.0 pages.0.1 ≡ spelled_pages g.more g.more_large = ap (λ (t : List SlabItem). spelled_pages t pages.0.1) g.behind ∙ ap (spelled_pages g.more) g.large_behind in
        let all = passed_more start records.1 pages.1 _ _ (passed_more start middle.1 records.1 _ _ (passed_more start front.1 middle.1 _ _ f.passed m.passed) r.passed) g.passed in
        let ended : rest pages.1 ≡ [] = drop_all pages.1.at pages.1.bytes (omega (arith, done)) in
        four_same _ _ _ _ _ _ _ front_is middle_is pages_is ∙ read_to_end _ _ _ all.front ended

pub spelled_as_read : (bytes : List ℕ) (core : Core) → All (λ byte. byte < 256) bytes → IsCore bytes core → spelled_core core ≡ bytes
spelled_as_read bytes core small is = when_is _ (core_of bytes) core (core_passed bytes (IsBytes-from_All bytes small)) is

pub one_spelling : (bytes other : List ℕ) (core : Core) → All (λ byte. byte < 256) bytes → All (λ byte. byte < 256) other → IsCore bytes core → IsCore other core → bytes ≡ other
one_spelling bytes other core small small_other is is_other = sym (spelled_as_read bytes core small is) ∙ spelled_as_read other core small_other is_other

pub read_again : (core : Core) → MeetsTheRules core → IsCore (spelled_core core) core
read_again core meets = subst (λ (bytes : List ℕ). IsCore bytes core) (sym (spelled_as_read meets.0 core meets.1 meets.2)) meets.2
