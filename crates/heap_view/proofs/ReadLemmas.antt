-- What the readers of a core give: items that keep the rules of the format.
use Rattle.std.proofs.Common.{◌≡◌, ℕ, zero, suc, ◌+◌, ◌-◌, ◌*◌, ◌%◌, ◌<◌, ◌≤◌, Bool, true, false, cond, ◌&&◌, ltb, leb, eqb, List, [], ◌∷◌, ◌++◌, length, get_or, take, drop, Option, Some, Result, Ok, refl, sym, ap, subst, ◌∙◌, append_assoc, arith, inl, inr}
use Rattle.std.specs.List.{All, AllPairs, AllZip, list_any}
use Rattle.std.specs.Option.{option_map}
use Rattle.std.specs.Prelude.{not, slice_index, unwrap_or}
use Rattle.std.proofs.lemmas.Bool.{and_parts, cases_lt, leb-true, ltb-true, not-true, or_parts}
use Rattle.std.proofs.lemmas.Bool.Decides.{nat_tests}
use Rattle.std.proofs.lemmas.List.{append-nil, length-drop, length-take-le, length_push}
use Rattle.std.proofs.lemmas.List.Elements.{All-nil, All-push, AllZip-push}
use Rattle.std.proofs.lemmas.List.Quantifiers.{all_pairs_push}
use Rattle.umem_base.specs.declared.arena.TheConstants.{ARENA_BASE}
use Rattle.umem_base.specs.declared.pages.TheConstants.{PAGE_BYTES}
use Rattle.umem_base.specs.declared.roots.TheConstants.{ROOT_WORDS}
use Rattle.umem_base.specs.Pages.{pages_for}
use Rattle.umem_base.specs.Roots.{arena_end}
use Rattle.case_table.specs.declared.limits.TheConstants.{MOST_THREADS}
use Rattle.core_format.specs.declared.cache_shape.CacheShape.{CacheShape}
use Rattle.core_format.specs.declared.fault.Fault.{Fault}
use Rattle.core_format.specs.declared.header.Header.{Header}
use Rattle.core_format.specs.declared.items.AuditItem.{AuditItem}
use Rattle.core_format.specs.declared.items.CacheItem.{CacheItem}
use Rattle.core_format.specs.declared.items.LargeItem.{LargeItem}
use Rattle.core_format.specs.declared.items.OwnRoot.{OwnRoot}
use Rattle.core_format.specs.declared.items.SlabItem.{SlabItem}
use Rattle.core_format.specs.declared.cache_numbers.CacheNumbers.{CacheNumbers}
use Rattle.core_format.specs.declared.fault.Fault.TheVariants.{BadAudit, BadCache, BadSlab, BadSpan, Overlap, Short, Unsorted}
use Rattle.core_format.specs.Caches.{cache_item_at, cache_item_of, is_size_of, number_rules}
use Rattle.core_format.specs.Items.{is_above, items_at, last_of_list, next_word_at, words_at}
use Rattle.core_format.specs.Logs.{audit_item_at, audit_of, audit_widths}
use Rattle.core_format.specs.PageBytes.{large_bytes_at, large_page_at, lower_count, no_large, pages_at, slab_bytes_at}
use Rattle.core_format.specs.Reader.{Flaw, Reader, ◌>>=◌, bytes_at, further, left, record_at, rule}
use Rattle.core_format.specs.Segments.{one_own_root, own_root_at, segment_at}
use Rattle.core_format.specs.Slabs.{ends_in_arena, first_rules, holds_chunk, is_arena_page, is_colour, is_past_last, large_end, large_of, meets_chunks, meets_some, large_item_at, meets_large, meets_slab, past_chunks, shape_at, slab_end, slab_item_at, slab_rules}
use Rattle.core_format.proofs.CacheLemmas.{rule-holds, shape_from_rules}
use Rattle.core_format.proofs.ListLemmas.{bind_ok, ok_is}
use Rattle.core_format.proofs.RangeLemmas.{last_get}
use Rattle.core_format.proofs.SlabTableLemmas.{at_push}
use Rattle.heap_view.specs.Layout.{AreNumberedApart, AreSized, AreSlabAndLargeApart, IsAuditBelow, IsLargeBelow, IsSlabBelow, IsSoundCache, IsWholeSegment}
use Rattle.heap_view.proofs.ListLemmas.{none_passes}
use Rattle.heap_view.proofs.PartsLemmas.{cache_parts_of, slab_parts_of}

-- a rule alone
rule_true : (holds : Bool) (offset : ℕ) (fault : Fault) (u : Unit {0}) → rule holds offset fault ≡ Ok u → holds ≡ true
rule_true true offset fault u e = refl
rule_true false offset fault u e = absurd cc

-- a page of the arena
arena_page : (version base : ℕ) → is_arena_page version base ≡ true → ARENA_BASE ≤ base
arena_page version base e = leb-true ARENA_BASE base (and_parts (eqb (base % PAGE_BYTES) 0) (leb ARENA_BASE base) (and_parts (eqb (base % PAGE_BYTES) 0 && leb ARENA_BASE base) (ltb base (arena_end version)) e).0).1

-- a fact that each item keeps
pub items_keep : {A : Type 0} (item : List A → Reader → Result (A × Reader) Flaw) (P : List A → Type 0)
    → ((before : List A) (here : Reader) (x : A) (there : Reader) → P before → item before here ≡ Ok (x, there) → P (before ++ x ∷ []))
    → (count : ℕ) (before : List A) (here : Reader) (out : List A) (there : Reader) → P before → items_at item count before here ≡ Ok (out, there) → P out
unfolding items_at
items_keep {A} item P step zero before here out there p e =
    let made : List A × Reader = (before, here) in
    let found : List A × Reader = (out, there) in
    subst (λ (y : List A × Reader). P y.0) (ok_is made found e) p
items_keep {A} item P step (suc count) before here out there p e =
    let found : List A × Reader = (out, there) in
    let next = bind_ok (item before here) (λ next. items_at item count (before ++ next.0 ∷ []) next.1) found e in
    items_keep item P step count (before ++ next.0.0 ∷ []) next.0.1 out there (step before here next.0.0 next.0.1 p next.1) next.2

-- how many items are read
pub items_length : {A : Type 0} (item : List A → Reader → Result (A × Reader) Flaw) (count : ℕ) (before : List A) (here : Reader) (out : List A) (there : Reader)
    → items_at item count before here ≡ Ok (out, there) → length out ≡ length before + count
unfolding items_at
items_length {A} item zero before here out there e =
    let made : List A × Reader = (before, here) in
    let found : List A × Reader = (out, there) in
    let same : before ≡ out = ap (λ (y : List A × Reader). y.0) (ok_is made found e) in
    omega (arith, ap length same)
items_length {A} item (suc count) before here out there e =
    let found : List A × Reader = (out, there) in
    let next = bind_ok (item before here) (λ next. items_at item count (before ++ next.0 ∷ []) next.1) found e in
    omega (arith, items_length item count (before ++ next.0.0 ∷ []) next.0.1 out there next.2, length_push before next.0.0)

-- how many are read where none was before
pub items_count : {A : Type 0} (item : List A → Reader → Result (A × Reader) Flaw) (count : ℕ) (here : Reader) (out : List A) (there : Reader) → items_at item count [] here ≡ Ok (out, there) → length out ≡ count
items_count item count here out there e = omega (arith, items_length item count [] here out there e)

-- ---- slabs

-- what a slab that was read keeps
pub record IsSlabRead (h : Header) (shapes : List CacheShape) (slab : SlabItem) : Type 0 where
  pub in_arena : ARENA_BASE ≤ slab.base
  pub ends : slab_end shapes slab ≤ arena_end h.version
  pub of_cache : slab.cache < h.caches
  pub coloured : slab.colour ≤ (shape_at shapes slab.cache).leftover
  pub numbered : past_chunks shapes slab ≤ h.next_chunk

pub record AreSlabsRead (h : Header) (shapes : List CacheShape) (slabs : List SlabItem) : Type 0 where
  pub read : All (IsSlabRead h shapes) slabs
  pub rise : AllPairs (IsSlabBelow shapes) slabs
  pub numbers_apart : AllPairs (AreNumberedApart shapes) slabs

slabs_below : (shapes : List CacheShape) (slabs : List SlabItem) (base : ℕ) → AllPairs (IsSlabBelow shapes) slabs
    → unwrap_or (option_map (slab_end shapes) (last_of_list slabs)) 0 ≤ base → All (λ slab. slab_end shapes slab ≤ base) slabs
slabs_below shapes slabs base rise le = λ k d lt.
    let last : last_of_list slabs ≡ Some (get_or slabs (length slabs - 1) d) = last_get slabs (length slabs - 1) d (omega arith) in
    let end : slab_end shapes (get_or slabs (length slabs - 1) d) ≤ base = subst (λ (o : Option SlabItem). unwrap_or (option_map (slab_end shapes) o) 0 ≤ base) last le in
    elim (cases_lt k (length slabs - 1)) [
      | inl less ↦ omega (arith, rise k (length slabs - 1) d less (omega arith))
      | inr more ↦ let same : k ≡ length slabs - 1 = omega arith in subst (λ (n : ℕ). slab_end shapes (get_or slabs n d) ≤ base) (sym same) end
    ]

record KeepsSlabRules (h : Header) (shapes : List CacheShape) (last : Option SlabItem) (slab : SlabItem) : Type 0 where
  in_arena : ARENA_BASE ≤ slab.base
  behind : unwrap_or (option_map (slab_end shapes) last) 0 ≤ slab.base
  of_cache : slab.cache < h.caches
  ends : slab_end shapes slab ≤ arena_end h.version
  coloured : slab.colour ≤ (shape_at shapes slab.cache).leftover

keeps_slab_rules : (h : Header) (shapes : List CacheShape) (last : Option SlabItem) (slab : SlabItem) (start : ℕ) (u : Unit {0}) → slab_rules h shapes last slab start ≡ Ok u → KeepsSlabRules h shapes last slab
unfolding slab_rules
keeps_slab_rules h shapes last slab start u e =
    let shape = shape_at shapes slab.cache in
    let base_above = is_above (option_map (λ (s : SlabItem). s.base) last) slab.base in
    let k6 : Unit {0} → Result (Unit {0}) Flaw = λ _. rule (is_colour shape slab.colour) (start + 12) BadSlab in
    let k5 : Unit {0} → Result (Unit {0}) Flaw = λ _. rule (ends_in_arena h.version slab.base shape.pages) (start + 8) BadSlab >>= k6 in
    let k4 : Unit {0} → Result (Unit {0}) Flaw = λ _. rule (ltb slab.cache h.caches) (start + 8) BadSlab >>= k5 in
    let k3 : Unit {0} → Result (Unit {0}) Flaw = λ _. rule (is_past_last shapes last slab.base) start Overlap >>= k4 in
    let k2 : Unit {0} → Result (Unit {0}) Flaw = λ _. rule base_above start Unsorted >>= k3 in
    let page = rule-holds (is_arena_page h.version slab.base) start BadSlab k2 u e in
    let above = rule-holds base_above start Unsorted k3 u page.1 in
    let past = rule-holds (is_past_last shapes last slab.base) start Overlap k4 u above.1 in
    let cache = rule-holds (ltb slab.cache h.caches) (start + 8) BadSlab k5 u past.1 in
    let ends = rule-holds (ends_in_arena h.version slab.base shape.pages) (start + 8) BadSlab k6 u cache.1 in
    let colour = rule_true (is_colour shape slab.colour) (start + 12) BadSlab u ends.1 in
    record {
      in_arena = arena_page h.version slab.base page.0;
      behind = leb-true (unwrap_or (option_map (slab_end shapes) last) 0) slab.base past.0;
      of_cache = ltb-true slab.cache h.caches cache.0;
      ends = leb-true (slab_end shapes slab) (arena_end h.version) ends.0;
      coloured = leb-true slab.colour shape.leftover (and_parts (ltb 0 shape.align && eqb (slab.colour % shape.align) 0) (leb slab.colour shape.leftover) colour).1;
    }

apart_from_rule : (shapes : List CacheShape) (slab other : SlabItem) → meets_chunks shapes slab.first (past_chunks shapes slab) other ≡ false → AreNumberedApart shapes other slab
apart_from_rule shapes slab other e = grind (arith, nat_tests)

slab_step : (h : Header) (shapes : List CacheShape) (before : List SlabItem) (here : Reader) (x : SlabItem) (there : Reader) → AreSlabsRead h shapes before → slab_item_at h shapes before here ≡ Ok (x, there) → AreSlabsRead h shapes (before ++ x ∷ [])
unfolding first_rules
slab_step h shapes before here x there kept e =
    let parts = slab_parts_of h shapes before here (x, there) e in
    let slab : SlabItem = parts.fields in
    let past = past_chunks shapes slab in
    let meets = list_any (meets_chunks shapes slab.first past) before in
    let number = rule-holds (leb past h.next_chunk) (here.at + 16) BadSlab (λ _. rule (not meets) (here.at + 16) BadSlab) tt parts.numbers in
    let unlike : meets ≡ false = not-true meets (rule_true (not meets) (here.at + 16) BadSlab tt number.1) in
    let holds = keeps_slab_rules h shapes (last_of_list before) slab here.at tt parts.rules in
    let full : SlabItem = record slab { free = parts.free } in
    let one : IsSlabRead h shapes full = record {
      in_arena = holds.in_arena;
      ends = holds.ends;
      of_cache = holds.of_cache;
      coloured = holds.coloured;
      numbered = leb-true past h.next_chunk number.0;
    } in
    let more : AreSlabsRead h shapes (before ++ full ∷ []) = record {
      read = All-push (IsSlabRead h shapes) before full kept.read one;
      rise = all_pairs_push (IsSlabBelow shapes) before full kept.rise (slabs_below shapes before slab.base kept.rise holds.behind);
      numbers_apart = all_pairs_push (AreNumberedApart shapes) before full kept.numbers_apart
          (λ k d lt. apart_from_rule shapes slab (get_or before k d) (none_passes (meets_chunks shapes slab.first past) before k d unlike lt));
    } in
    subst (λ (y : SlabItem). AreSlabsRead h shapes (before ++ y ∷ [])) parts.is more

pub slabs_read : (h : Header) (shapes : List CacheShape) (count : ℕ) (here : Reader) (out : List SlabItem) (there : Reader) → items_at (slab_item_at h shapes) count [] here ≡ Ok (out, there) → AreSlabsRead h shapes out
slabs_read h shapes count here out there e =
    items_keep (slab_item_at h shapes) (AreSlabsRead h shapes) (slab_step h shapes) count [] here out there (record { read = λ k d lt. absurd (omega arith); rise = λ i j d lt bound. absurd (omega arith); numbers_apart = λ i j d lt bound. absurd (omega arith) }) e

-- ---- large buffers

-- what a large buffer that was read keeps
pub record IsLargeRead (h : Header) (item : LargeItem) : Type 0 where
  pub in_arena : ARENA_BASE ≤ item.base
  pub ends : large_end item ≤ arena_end h.version
  pub large : 4096 < item.size

pub record AreLargeRead (h : Header) (shapes : List CacheShape) (slabs : List SlabItem) (large : List LargeItem) : Type 0 where
  pub read : All (IsLargeRead h) large
  pub rise : AllPairs IsLargeBelow large
  pub apart : All (λ item. All (λ slab. AreSlabAndLargeApart shapes slab item) slabs) large

some_page : (size : ℕ) → 4096 < size → 1 ≤ pages_for size
some_page size lt = omega arith

apart_from_slab : (shapes : List CacheShape) (slab : SlabItem) (item : LargeItem) → meets_slab shapes item.base (large_end item) slab ≡ false → AreSlabAndLargeApart shapes slab item
apart_from_slab shapes slab item e = grind (arith, nat_tests)

below_from_apart : (item other : LargeItem) → other.base < item.base → item.base < large_end item → meets_large item.base (large_end item) other ≡ false → large_end other ≤ item.base
below_from_apart item other lt some e = grind (arith, nat_tests)

bases_below : (large : List LargeItem) (base : ℕ) → AllPairs IsLargeBelow large → is_above (option_map (λ (l : LargeItem). l.base) (last_of_list large)) base ≡ true → All (λ item. item.base < base) large
bases_below large base rise above = λ k d lt.
    let last : last_of_list large ≡ Some (get_or large (length large - 1) d) = last_get large (length large - 1) d (omega arith) in
    let low : (get_or large (length large - 1) d).base < base = ltb-true (get_or large (length large - 1) d).base base (subst (λ (o : Option LargeItem). is_above (option_map (λ (l : LargeItem). l.base) o) base ≡ true) last above) in
    elim (cases_lt k (length large - 1)) [
      | inl less ↦ omega (arith, rise k (length large - 1) d less (omega arith))
      | inr more ↦ let same : k ≡ length large - 1 = omega arith in subst (λ (n : ℕ). (get_or large n d).base < base) (sym same) low
    ]

large_step : (h : Header) (shapes : List CacheShape) (slabs : List SlabItem) (before : List LargeItem) (here : Reader) (x : LargeItem) (there : Reader) → AreLargeRead h shapes slabs before
    → large_item_at h shapes slabs before here ≡ Ok (x, there) → AreLargeRead h shapes slabs (before ++ x ∷ [])
unfolding large_item_at
large_step h shapes slabs before here x there kept e =
    let found : LargeItem × Reader = (x, there) in
    let k1 : List ℕ × Reader → Result (LargeItem × Reader) Flaw = λ fields.
    rule (is_arena_page h.version (large_of fields.0).base) here.at BadSpan >>= λ _.
    rule (is_above (option_map (λ (l : LargeItem). l.base) (last_of_list before)) (large_of fields.0).base) here.at Unsorted >>= λ _.
    rule (ltb 4096 (large_of fields.0).size) (here.at + 8) BadSpan >>= λ _.
    rule (ends_in_arena h.version (large_of fields.0).base (pages_for (large_of fields.0).size)) (here.at + 8) BadSpan >>= λ _.
    rule (not (meets_some shapes slabs before (large_of fields.0).base (large_end (large_of fields.0)))) here.at Overlap >>= λ _. Ok (large_of fields.0, fields.1) in
    let fields = bind_ok (record_at (8 ∷ 8 ∷ []) here) k1 found e in
    let item : LargeItem = large_of fields.0.0 in
    let after : Reader = fields.0.1 in
    let base_above = is_above (option_map (λ (l : LargeItem). l.base) (last_of_list before)) item.base in
    let k6 : Unit {0} → Result (LargeItem × Reader) Flaw = λ _. Ok (item, after) in
    let k5 : Unit {0} → Result (LargeItem × Reader) Flaw = λ _. rule (not (meets_some shapes slabs before item.base (large_end item))) here.at Overlap >>= k6 in
    let k4 : Unit {0} → Result (LargeItem × Reader) Flaw = λ _. rule (ends_in_arena h.version item.base (pages_for item.size)) (here.at + 8) BadSpan >>= k5 in
    let k3 : Unit {0} → Result (LargeItem × Reader) Flaw = λ _. rule (ltb 4096 item.size) (here.at + 8) BadSpan >>= k4 in
    let k2 : Unit {0} → Result (LargeItem × Reader) Flaw = λ _. rule base_above here.at Unsorted >>= k3 in
    let page = rule-holds (is_arena_page h.version item.base) here.at BadSpan k2 found fields.2 in
    let above = rule-holds base_above here.at Unsorted k3 found page.1 in
    let size = rule-holds (ltb 4096 item.size) (here.at + 8) BadSpan k4 found above.1 in
    let ends = rule-holds (ends_in_arena h.version item.base (pages_for item.size)) (here.at + 8) BadSpan k5 found size.1 in
    let apart = rule-holds (not (meets_some shapes slabs before item.base (large_end item))) here.at Overlap k6 found ends.1 in
    let made : LargeItem × Reader = (item, after) in
    let none = or_parts (list_any (meets_slab shapes item.base (large_end item)) slabs) (list_any (meets_large item.base (large_end item)) before) (not-true (meets_some shapes slabs before item.base (large_end item)) apart.0) in
    let large : 4096 < item.size = ltb-true 4096 item.size size.0 in
    let one : IsLargeRead h item = record { in_arena = arena_page h.version item.base page.0; ends = leb-true (large_end item) (arena_end h.version) ends.0; large = large } in
    let some : item.base < large_end item = omega (arith, some_page item.size large) in
    let lower = bases_below before item.base kept.rise above.0 in
    let more : AreLargeRead h shapes slabs (before ++ item ∷ []) = record {
      read = All-push (IsLargeRead h) before item kept.read one;
      rise = all_pairs_push IsLargeBelow before item kept.rise (λ k d lt. below_from_apart item (get_or before k d) (lower k d lt) some (none_passes (meets_large item.base (large_end item)) before k d none.1 lt));
      apart = All-push (λ item. All (λ slab. AreSlabAndLargeApart shapes slab item) slabs) before item kept.apart
          (λ k d lt. apart_from_slab shapes (get_or slabs k d) item (none_passes (meets_slab shapes item.base (large_end item)) slabs k d none.0 lt));
    } in
    subst (λ (y : LargeItem × Reader). AreLargeRead h shapes slabs (before ++ y.0 ∷ [])) (ok_is made found apart.1) more

pub large_read : (h : Header) (shapes : List CacheShape) (slabs : List SlabItem) (count : ℕ) (here : Reader) (out : List LargeItem) (there : Reader) → items_at (large_item_at h shapes slabs) count [] here ≡ Ok (out, there)
    → AreLargeRead h shapes slabs out
large_read h shapes slabs count here out there e =
    items_keep (large_item_at h shapes slabs) (AreLargeRead h shapes slabs) (large_step h shapes slabs) count [] here out there
    (record { read = λ k d lt. absurd (omega arith); rise = λ i j d lt bound. absurd (omega arith); apart = λ k d lt. absurd (omega arith) }) e

-- ---- caches

-- what caches that were read keep
pub record AreCachesRead (caches : List CacheItem) : Type 0 where
  pub sound : All IsSoundCache caches
  pub sized : AreSized caches

sized_from_rules : (cache : ℕ) (numbers : CacheNumbers) (start : ℕ) → number_rules cache numbers start ≡ Ok tt → is_size_of cache numbers.size ≡ true
unfolding number_rules
sized_from_rules cache numbers start e = (rule-holds (is_size_of cache numbers.size) (start + 32) BadCache _ tt e).0

sized_push : (before : List CacheItem) (item : CacheItem) → AreSized before → is_size_of (length before) item.def.size ≡ true → AreSized (before ++ item ∷ [])
sized_push before item kept own = λ k d lt. elim (at_push before item d k lt) [
  | inl front ↦ subst (λ (i : CacheItem). is_size_of k i.def.size ≡ true) (sym front.1) (kept k d front.0)
  | inr last ↦ subst (λ (i : CacheItem). is_size_of k i.def.size ≡ true) (sym last.1) (subst (λ (n : ℕ). is_size_of n item.def.size ≡ true) (sym last.0) own)
]

cache_step : (h : Header) (before : List CacheItem) (here : Reader) (x : CacheItem) (there : Reader) → AreCachesRead before → cache_item_at h before here ≡ Ok (x, there) → AreCachesRead (before ++ x ∷ [])
cache_step h before here x there kept e =
    let parts = cache_parts_of h before here (x, there) e in
    let item : CacheItem = cache_item_of parts.name parts.numbers in
    let more : AreCachesRead (before ++ item ∷ []) = record {
      sound = All-push IsSoundCache before item kept.sound (shape_from_rules (length before) parts.numbers here.at parts.rules);
      sized = sized_push before item kept.sized (sized_from_rules (length before) parts.numbers here.at parts.rules);
    } in
    subst (λ (y : CacheItem). AreCachesRead (before ++ y ∷ [])) parts.is more

pub caches_read : (h : Header) (count : ℕ) (here : Reader) (out : List CacheItem) (there : Reader) → items_at (cache_item_at h) count [] here ≡ Ok (out, there) → AreCachesRead out
caches_read h count here out there e =
    items_keep (cache_item_at h) AreCachesRead (cache_step h) count [] here out there (record { sound = λ k d lt. absurd (omega arith); sized = λ k d lt. absurd (omega arith) }) e

-- ---- root segments

segment_words : (here : Reader) (x : List ℕ × Reader) → segment_at here ≡ Ok x → length x.0 ≡ ROOT_WORDS
unfolding segment_at
segment_words here x e =
    let words = rule-holds _ _ _ (λ _. words_at ROOT_WORDS here) x e in
    items_count next_word_at ROOT_WORDS here x.0 x.1 words.1

own_segment_is : (here : Reader) (x : OwnRoot × Reader) → one_own_root here ≡ Ok x → IsWholeSegment x.0
unfolding one_own_root
own_segment_is here x e =
    let words = bind_ok _ _ x e in
    subst (λ (y : OwnRoot × Reader). IsWholeSegment y.0) (ok_is _ x words.2) (segment_words here words.0 words.1)

-- what root segments that were read keep
pub record AreSegmentsRead (threads : ℕ) (root : List ℕ) (own : List OwnRoot) : Type 0 where
  pub root_has : length root ≡ ROOT_WORDS
  pub as_many : length own ≡ threads
  pub own_have : All IsWholeSegment own

pub segments_read : (here : Reader) (threads : ℕ) (root : List ℕ × Reader) (own : List OwnRoot × Reader) → segment_at here ≡ Ok root → items_at own_root_at threads [] root.1 ≡ Ok own → AreSegmentsRead threads root.0 own.0
segments_read here threads root own first rest = record {
  root_has = segment_words here root first;
  as_many = items_count own_root_at threads root.1 own.0 own.1 rest;
  own_have = items_keep own_root_at (All IsWholeSegment) (λ before here x there all read. All-push IsWholeSegment before x all (own_segment_is here (x, there) read))
      threads [] root.1 own.0 own.1 (All-nil IsWholeSegment) rest;
}

-- ---- audits

audits_below : (audits : List AuditItem) (chunk : ℕ) → AllPairs IsAuditBelow audits → is_above (option_map (λ (a : AuditItem). a.chunk) (last_of_list audits)) chunk ≡ true → All (λ (a : AuditItem). a.chunk < chunk) audits
audits_below audits chunk rise above = λ k d lt.
    let last : last_of_list audits ≡ Some (get_or audits (length audits - 1) d) = last_get audits (length audits - 1) d (omega arith) in
    let low : (get_or audits (length audits - 1) d).chunk < chunk = ltb-true (get_or audits (length audits - 1) d).chunk chunk (subst (λ (o : Option AuditItem). is_above (option_map (λ (a : AuditItem). a.chunk) o) chunk ≡ true) last above) in
    elim (cases_lt k (length audits - 1)) [
      | inl less ↦ omega (arith, rise k (length audits - 1) d less (omega arith))
      | inr more ↦ let same : k ≡ length audits - 1 = omega arith in subst (λ (n : ℕ). (get_or audits n d).chunk < chunk) (sym same) low
    ]

audit_step : (h : Header) (shapes : List CacheShape) (slabs : List SlabItem) (before : List AuditItem) (here : Reader) (x : AuditItem) (there : Reader) → AllPairs IsAuditBelow before
    → audit_item_at h shapes slabs before here ≡ Ok (x, there) → AllPairs IsAuditBelow (before ++ x ∷ [])
unfolding audit_item_at
audit_step h shapes slabs before here x there kept e =
    let found : AuditItem × Reader = (x, there) in
    let lower = option_map (λ (a : AuditItem). a.chunk) (last_of_list before) in
    let k1 : List ℕ × Reader → Result (AuditItem × Reader) Flaw = λ fields.
    rule (list_any (holds_chunk shapes (slice_index fields.0 0)) slabs) here.at BadAudit >>= λ _.
    rule (is_above lower (slice_index fields.0 0)) here.at BadAudit >>= λ _.
    rule (ltb (slice_index fields.0 1) MOST_THREADS) (here.at + 4) BadAudit >>= λ _.
    rule (ltb (slice_index fields.0 2) h.entries) (here.at + 8) BadAudit >>= λ _.
    rule (leb (slice_index fields.0 3) h.frames) (here.at + 16) BadAudit >>= λ _.
    words_at (slice_index fields.0 3) fields.1 >>= λ frames. Ok (audit_of fields.0 frames.0, frames.1) in
    let fields = bind_ok (record_at audit_widths here) k1 found e in
    let v : List ℕ = fields.0.0 in
    let after : Reader = fields.0.1 in
    let k7 : List ℕ × Reader → Result (AuditItem × Reader) Flaw = λ frames. Ok (audit_of v frames.0, frames.1) in
    let k6 : Unit {0} → Result (AuditItem × Reader) Flaw = λ _. words_at (slice_index v 3) after >>= k7 in
    let k5 : Unit {0} → Result (AuditItem × Reader) Flaw = λ _. rule (leb (slice_index v 3) h.frames) (here.at + 16) BadAudit >>= k6 in
    let k4 : Unit {0} → Result (AuditItem × Reader) Flaw = λ _. rule (ltb (slice_index v 2) h.entries) (here.at + 8) BadAudit >>= k5 in
    let k3 : Unit {0} → Result (AuditItem × Reader) Flaw = λ _. rule (ltb (slice_index v 1) MOST_THREADS) (here.at + 4) BadAudit >>= k4 in
    let k2 : Unit {0} → Result (AuditItem × Reader) Flaw = λ _. rule (is_above lower (slice_index v 0)) here.at BadAudit >>= k3 in
    let owned = rule-holds (list_any (holds_chunk shapes (slice_index v 0)) slabs) here.at BadAudit k2 found fields.2 in
    let above = rule-holds (is_above lower (slice_index v 0)) here.at BadAudit k3 found owned.1 in
    let thread = rule-holds (ltb (slice_index v 1) MOST_THREADS) (here.at + 4) BadAudit k4 found above.1 in
    let time = rule-holds (ltb (slice_index v 2) h.entries) (here.at + 8) BadAudit k5 found thread.1 in
    let depth = rule-holds (leb (slice_index v 3) h.frames) (here.at + 16) BadAudit k6 found time.1 in
    let frames = bind_ok (words_at (slice_index v 3) after) k7 found depth.1 in
    let item : AuditItem = audit_of v frames.0.0 in
    let made : AuditItem × Reader = (item, frames.0.1) in
    let more : AllPairs IsAuditBelow (before ++ item ∷ []) = all_pairs_push IsAuditBelow before item kept (audits_below before item.chunk kept above.0) in
    subst (λ (y : AuditItem × Reader). AllPairs IsAuditBelow (before ++ y.0 ∷ [])) (ok_is made found frames.2) more

pub audits_read : (h : Header) (shapes : List CacheShape) (slabs : List SlabItem) (count : ℕ) (here : Reader) (out : List AuditItem) (there : Reader) → items_at (audit_item_at h shapes slabs) count [] here ≡ Ok (out, there)
    → AllPairs IsAuditBelow out
audits_read h shapes slabs count here out there e =
    items_keep (audit_item_at h shapes slabs) (AllPairs IsAuditBelow) (audit_step h shapes slabs) count [] here out there (λ i j d lt within. absurd (omega arith)) e

-- ---- bytes

-- the item, with the bytes of its pages
pub record IsSlabFilled (shapes : List CacheShape) (slab full : SlabItem) : Type 0 where
  pub same : full ≡ record slab { bytes = full.bytes }
  pub filled : length full.bytes ≡ PAGE_BYTES * (shape_at shapes slab.cache).pages

pub record IsLargeFilled (item full : LargeItem) : Type 0 where
  pub same : full ≡ record item { bytes = full.bytes }
  pub filled : length full.bytes ≡ PAGE_BYTES * pages_for item.size

bytes_length : (count : ℕ) (here : Reader) (out : List ℕ) (there : Reader) → bytes_at count here ≡ Ok (out, there) → length out ≡ count
bytes_length count here out there e =
    let found : List ℕ × Reader = (out, there) in
    let made : List ℕ × Reader = (take count (drop here.at here.bytes), further count here) in
    let next : Unit {0} → Result (List ℕ × Reader) Flaw = λ _. Ok made in
    let fits = rule-holds (leb count (left here)) here.at Short next found e in
    let same : length (take count (drop here.at here.bytes)) ≡ length out = ap (λ (y : List ℕ × Reader). length y.0) (ok_is made found fits.1) in
    let enough : count ≤ length (drop here.at here.bytes) = omega (arith, leb-true count (left here) fits.0, length-drop here.at here.bytes) in
    sym same ∙ length-take-le count (drop here.at here.bytes) enough

slab_filled : (shapes : List CacheShape) (slab : SlabItem) (here : Reader) (x : SlabItem) (there : Reader) → slab_bytes_at shapes slab here ≡ Ok (x, there) → IsSlabFilled shapes slab x
unfolding slab_bytes_at
slab_filled shapes slab here x there e =
    let found : SlabItem × Reader = (x, there) in
    let next : List ℕ × Reader → Result (SlabItem × Reader) Flaw = λ bytes. Ok (record slab { bytes = bytes.0 }, bytes.1) in
    let bytes = bind_ok (bytes_at (PAGE_BYTES * (shape_at shapes slab.cache).pages) here) next found e in
    let full : SlabItem = record slab { bytes = bytes.0.0 } in
    let made : SlabItem × Reader = (full, bytes.0.1) in
    let one : IsSlabFilled shapes slab full = record { same = refl; filled = bytes_length (PAGE_BYTES * (shape_at shapes slab.cache).pages) here bytes.0.0 bytes.0.1 bytes.1 } in
    subst (λ (y : SlabItem × Reader). IsSlabFilled shapes slab y.0) (ok_is made found bytes.2) one

large_filled : (item : LargeItem) (here : Reader) (x : LargeItem) (there : Reader) → large_bytes_at item here ≡ Ok (x, there) → IsLargeFilled item x
unfolding large_bytes_at
large_filled item here x there e =
    let found : LargeItem × Reader = (x, there) in
    let next : List ℕ × Reader → Result (LargeItem × Reader) Flaw = λ bytes. Ok (record { base = item.base; size = item.size; bytes = bytes.0 }, bytes.1) in
    let bytes = bind_ok (bytes_at (PAGE_BYTES * pages_for item.size) here) next found e in
    let full : LargeItem = record { base = item.base; size = item.size; bytes = bytes.0.0 } in
    let made : LargeItem × Reader = (full, bytes.0.1) in
    let one : IsLargeFilled item full = record { same = refl; filled = bytes_length (PAGE_BYTES * pages_for item.size) here bytes.0.0 bytes.0.1 bytes.1 } in
    subst (λ (y : LargeItem × Reader). IsLargeFilled item y.0) (ok_is made found bytes.2) one

-- the first of the large buffers have their bytes
abbrev pub AreLargeFilled : List LargeItem → List LargeItem → Type 0
AreLargeFilled large front = (k : ℕ) (d : LargeItem) → k < length front → IsLargeFilled (get_or large k no_large) (get_or front k d)

large_page_step : (large before : List LargeItem) (here : Reader) (x : LargeItem) (there : Reader) → AreLargeFilled large before → large_page_at large before here ≡ Ok (x, there) → AreLargeFilled large (before ++ x ∷ [])
large_page_step large before here x there kept e =
    let one = large_filled (get_or large (length before) no_large) here x there e in
    λ k d lt. elim (at_push before x d k lt) [
      | inl front ↦ subst (λ (i : LargeItem). IsLargeFilled (get_or large k no_large) i) (sym front.1) (kept k d front.0)
      | inr last ↦ subst (λ (i : LargeItem). IsLargeFilled (get_or large k no_large) i) (sym last.1) (subst (λ (n : ℕ). IsLargeFilled (get_or large n no_large) x) (sym last.0) one)
    ]

lower_count-le : (base : ℕ) (large : List LargeItem) → lower_count base large ≤ length large
lower_count-le base [] = omega arith
lower_count-le base (item ∷ items) = by_test (ltb item.base base) (lower_count-le base items)
  where
    by_test : (b : Bool) → lower_count base items ≤ length items → cond b (suc (lower_count base items)) 0 ≤ length (item ∷ items)
    by_test true le = omega arith
    by_test false le = omega arith

pub record ArePagesRead (shapes : List CacheShape) (slabs full : List SlabItem) (large filled : List LargeItem) : Type 0 where
  pub slabs_are : AllZip (IsSlabFilled shapes) slabs full
  pub large_are : AreLargeFilled large filled
  pub as_many : length filled ≡ length large

pub pages_read : (shapes : List CacheShape) (large : List LargeItem) (left before full : List SlabItem) (front : List LargeItem) (here : Reader) (out : List SlabItem) (filled : List LargeItem) (there : Reader)
    → AllZip (IsSlabFilled shapes) before full → AreLargeFilled large front → length front ≤ length large → pages_at shapes large left full front here ≡ Ok ((out, filled), there)
    → ArePagesRead shapes (before ++ left) out large filled
unfolding pages_at
pages_read shapes large [] before full front here out filled there zipped kept few e =
    let found : (List SlabItem × List LargeItem) × Reader = ((out, filled), there) in
    let next : List LargeItem × Reader → Result ((List SlabItem × List LargeItem) × Reader) Flaw = λ upper. Ok ((full, upper.0), upper.1) in
    let upper = bind_ok (items_at (large_page_at large) (length large - length front) front here) next found e in
    let end : (List SlabItem × List LargeItem) × Reader = ((full, upper.0.0), upper.0.1) in
    let same = ok_is end found upper.2 in
    let rest = items_keep (large_page_at large) (AreLargeFilled large) (large_page_step large) (length large - length front) front here upper.0.0 upper.0.1 kept upper.1 in
    let long = items_length (large_page_at large) (length large - length front) front here upper.0.0 upper.0.1 upper.1 in
    let made : ArePagesRead shapes (before ++ []) full large upper.0.0 = record { slabs_are = subst (λ (xs : List SlabItem). AllZip (IsSlabFilled shapes) xs full) (sym (append-nil before)) zipped; large_are = rest; as_many = omega arith } in
    subst (λ (y : (List SlabItem × List LargeItem) × Reader). ArePagesRead shapes (before ++ []) y.0.0 large y.0.1) same made
pages_read shapes large (slab ∷ left) before full front here out filled there zipped kept few e =
    let found : (List SlabItem × List LargeItem) × Reader = ((out, filled), there) in
    let count = lower_count slab.base (drop (length front) large) in
    let k1 : List LargeItem × Reader → Result ((List SlabItem × List LargeItem) × Reader) Flaw = λ lower.
    slab_bytes_at shapes slab lower.1 >>= λ own. pages_at shapes large left (full ++ own.0 ∷ []) lower.0 own.1 in
    let lower = bind_ok (items_at (large_page_at large) count front here) k1 found e in
    let behind : List LargeItem = lower.0.0 in
    let k2 : SlabItem × Reader → Result ((List SlabItem × List LargeItem) × Reader) Flaw = λ own. pages_at shapes large left (full ++ own.0 ∷ []) behind own.1 in
    let own = bind_ok (slab_bytes_at shapes slab lower.0.1) k2 found lower.2 in
    let rest = items_keep (large_page_at large) (AreLargeFilled large) (large_page_step large) count front here lower.0.0 lower.0.1 kept lower.1 in
    let long = items_length (large_page_at large) count front here lower.0.0 lower.0.1 lower.1 in
    let one = slab_filled shapes slab lower.0.1 own.0.0 own.0.1 own.1 in
    let few' : length lower.0.0 ≤ length large = omega (arith, lower_count-le slab.base (drop (length front) large), length-drop (length front) large) in
    let more = pages_read shapes large left (before ++ slab ∷ []) (full ++ own.0.0 ∷ []) lower.0.0 own.0.1 out filled there (AllZip-push (IsSlabFilled shapes) before full slab own.0.0 zipped one) rest few' own.2 in
    subst (λ (xs : List SlabItem). ArePagesRead shapes xs out large filled) (append_assoc before (slab ∷ []) left) more
