-- The slabs and the large buffers are read where the rules hold.
use Rattle.std.proofs.Common.{◌≡◌, ℕ, zero, suc, ◌+◌, ◌-◌, ◌*◌, ◌%◌, ◌<◌, ◌≤◌, Bool, true, false, ◌&&◌, eqb, leb, ltb, List, [], ◌∷◌, ◌++◌, length, drop, get_or, Option, Ok, refl, sym, ap, subst, ◌∙◌, arith, inl, inr, ◌⊎◌}
use Rattle.std.specs.Prelude.{All, map, not, ◌==◌, ◌^◌}
use Rattle.std.specs.List.{flat_map, list_any}
use Rattle.std.specs.Option.{option_map}
use Rattle.std.proofs.lemmas.Bool.{and_left, and_parts, and_right, cases_lt, le-leb, leb-true, le-ltb, lt-ltb, ne_eqb, not_from_false, or_from}
use Rattle.std.proofs.lemmas.List.{append-nil, get_or-drop, length-drop}
use Rattle.std.proofs.lemmas.List.Folds.{list_any_none}
use Rattle.byteorder.specs.Endian.{little_bytes}
use Rattle.umem_base.specs.Pages.{pages_for}
use Rattle.case_table.specs.Geometry.{IsCacheShape}
use Rattle.case_table.specs.Record.{spelling}
use Rattle.case_table.specs.declared.limits.TheConstants.{MOST_CACHE_BYTES}
use Rattle.case_table.proofs.GeometryLemmas.{geometry_is_sound}
use Rattle.case_table.proofs.SizesLemmas.{size_of-small, size_of-some}
use Rattle.core_format.specs.declared.cache_shape.CacheShape.{CacheShape}
use Rattle.core_format.specs.declared.items.CacheItem.{CacheItem}
use Rattle.core_format.specs.declared.items.LargeItem.{LargeItem}
use Rattle.core_format.specs.declared.items.SlabItem.{SlabItem}
use Rattle.core_format.specs.declared.whole.Core.{Core}
use Rattle.core_format.specs.Caches.{shape_of}
use Rattle.core_format.specs.Chunks.{core_shapes, is_guarded_core}
use Rattle.core_format.specs.Items.{is_above, is_unlike, items_at, last_of_list}
use Rattle.core_format.specs.Reader.{Reader}
use Rattle.core_format.specs.SlabTable.{AreApart}
use Rattle.core_format.specs.Slabs.{ends_in_arena, first_rules, is_arena_page, is_colour, is_past_last, large_end, large_item_at, listed_at, meets_chunks, meets_large, meets_slab, meets_some, past_chunks, shape_at, slab_end, slab_head_at, slab_item_at, slab_rules, slab_widths}
use Rattle.core_format.specs.Spelling.{header_of_core, spelled_large, spelled_numbers, spelled_slab}
use Rattle.core_format.proofs.SpellingLemmas.{rest}
use Rattle.core_rules.specs.CacheRules.{IsDeclared, KeepsCacheRules}
use Rattle.core_rules.specs.Rules.{KeepsTheRules}
use Rattle.core_rules.specs.SlabRules.{IsLargeBefore, IsOfSlab, IsSlabBefore, KeepsLargeRules, KeepsSlabRules, ShareNoPage}
use Rattle.core_rules.proofs.BeforeLemmas.{above_itself, above_so, all_map, any_view, earlier_so, item_so, last_so}
use Rattle.core_rules.proofs.GivesLemmas.{Gives, gives_ok, gives_record, gives_rule, gives_step, gives_then, items_give, kept, kept_then, views_give}
use Rattle.core_rules.proofs.LogLemmas.{bare_slab, both_true, pages_few, record_front}

-- ---- shapes

-- a number as the count of what stands before and behind it
split_index : (n low : ℕ) → low ≤ n → n ≡ low + (n - low)
split_index n low le = omega arith

-- each cache has a size and an alignment that a cache may have
pub cache_sound : (core : Core) → KeepsCacheRules core → (cache : ℕ) (d : CacheItem) → cache < length core.caches → IsCacheShape (get_or core.caches cache d).def.size (get_or core.caches cache d).def.align
cache_sound core rules cache d lt = elim (cases_lt cache 32) [
  | inl low ↦
      let class = rules.classes cache d low in
      rw (class.size, class.align) (record { some = size_of-some cache low; fits = size_of-small cache; aligned = refl })
  | inr high ↦
      let declared : IsDeclared (get_or (drop 32 core.caches) (cache - 32) d) = rules.declared (cache - 32) d (omega (arith, length-drop 32 core.caches)) in
      let same : get_or (drop 32 core.caches) (cache - 32) d ≡ get_or core.caches cache d = get_or-drop 32 core.caches (cache - 32) d ∙ ap (λ (n : ℕ). get_or core.caches n d) (sym (split_index cache 32 high)) in
      let is = subst IsDeclared same declared in
      record { some = omega (arith, is.some); fits = is.fits; aligned = is.aligned }
]

-- what a slab has beside its chunks is less than a chunk
leftover_small : (core : Core) → KeepsCacheRules core → (cache : ℕ) → (shape_at (core_shapes core) cache).leftover ≤ 4160
leftover_small core rules cache = by_cache (is_guarded_core core) core.caches cache (cache_sound core rules)
  where
    by_cache : (guards : Bool) (caches : List CacheItem) (cache : ℕ) → ((k : ℕ) (d : CacheItem) → k < length caches → IsCacheShape (get_or caches k d).def.size (get_or caches k d).def.align) → (shape_at (map (shape_of guards) caches) cache).leftover ≤ 4160
    by_cache guards [] cache sound = omega arith
    by_cache guards (x ∷ caches) zero sound =
        let geometry = geometry_is_sound x.def.size x.def.align guards (sound 0 x (omega arith)) in
        omega (arith, geometry.leftover_small, geometry.chunk_small)
    by_cache guards (x ∷ caches) (suc cache) sound = by_cache guards caches cache (λ k d lt. sound (suc k) d (omega arith))

-- ---- a slab's list

unlike_last : (number : ℕ) (xs : List ℕ) → All (λ x. x < number) xs → is_unlike (last_of_list xs) number ≡ true
unlike_last number xs so = elim (last_so (λ x. x < number) xs so) [
  | inl e ↦ ap (λ (o : Option ℕ). is_unlike o number) e
  | inr last ↦ ap (λ (o : Option ℕ). is_unlike o number) last.1 ∙ not_from_false (last.0 == number) (ne_eqb last.0 number (λ same. omega (arith, last.2)))
]

listed_gives : (first past : ℕ) (before : List ℕ) (x : ℕ) (here : Reader) (more : List ℕ) → first ≤ x → x < past → x < 2 ^ 32 → All (λ y. y < x) before
    → rest here ≡ little_bytes 4 x ++ more → Gives (listed_at first past before here) x more
unfolding listed_at
listed_gives first past before x here more low high fits rise stand =
    gives_record (4 ∷ []) (x ∷ []) here _ x more more (omega arith, tt) (stand ∙ ap (λ (t : List ℕ). t ++ more) (sym (append-nil (little_bytes 4 x)))) (λ there behind.
    gives_rule (leb first x && ltb x past) _ _ _ _ _ (both_true _ _ (le-leb _ _ low) (lt-ltb _ _ high)) (
    gives_rule (is_unlike (last_of_list before) x) _ _ _ _ _ (unlike_last x before rise) (
    gives_rule (is_above (last_of_list before) x) _ _ _ _ _ (above_itself x before rise) (
    gives_ok x there more behind))))

list_gives : (core : Core) (x : SlabItem) (here : Reader) (more : List ℕ) → KeepsSlabRules core x → core.next_chunk < 2 ^ 32 → rest here ≡ spelled_numbers x.free ++ more
    → Gives (items_at (listed_at x.first (past_chunks (core_shapes core) x)) (length x.free) [] here) x.free more
list_gives core x here more rules small stand =
    let past = past_chunks (core_shapes core) x in
    items_give (little_bytes 4) (listed_at x.first past) x.free (λ before y left here more e stand.
    let own = item_so (IsOfSlab (core_shapes core) x) x.free before y left rules.own e in
    listed_gives x.first past before y here more own.low own.high (omega (arith, own.high, rules.numbers)) (earlier_so (λ chunk later. chunk < later) x.free before y left rules.rising e) stand) (length x.free) here more refl stand

-- ---- slabs

-- the fields of a slab, as they are read before its list
abbrev pub listless : SlabItem → SlabItem
listless slab = record { base = slab.base; cache = slab.cache; colour = slab.colour; first = slab.first; free = []; bytes = [] }

-- a base is an address
base_small : (version base pages : ℕ) → ends_in_arena version base pages ≡ true → base + 4096 * pages ≤ 2 ^ 32
base_small version base pages e = omega (arith, leb-true _ _ e, pages_few version)

head_gives : (core : Core) (x : SlabItem) (here : Reader) (more : List ℕ) → KeepsTheRules core → KeepsSlabRules core x
    → rest here ≡ spelling slab_widths (x.base ∷ x.cache ∷ x.colour ∷ x.first ∷ length x.free ∷ []) ++ more → Gives (slab_head_at here) (listless x, length x.free) more
unfolding slab_head_at
head_gives core x here more all rules stand =
    let shape = shape_at (core_shapes core) x.cache in
    let colour = (and_parts (ltb 0 shape.align && eqb (x.colour % shape.align) 0) (leb x.colour shape.leftover) rules.colour).1 in
    let numbers = rules.numbers in
    gives_record slab_widths (x.base ∷ x.cache ∷ x.colour ∷ x.first ∷ length x.free ∷ []) here _ (listless x, length x.free) more more
    (omega (arith, base_small core.version x.base shape.pages rules.ends), (omega (arith, rules.cache, all.counts.caches), (omega (arith, leb-true _ _ colour, leftover_small core all.caches x.cache), (omega (arith, numbers, all.numbers.next_chunk), (omega (arith, rules.listed, numbers, all.numbers.next_chunk), tt))))) stand (λ there behind.
    gives_ok (listless x, length x.free) there more behind)

past_last : (shapes : List CacheShape) (base : ℕ) (xs : List SlabItem) → All (λ slab. slab_end shapes slab ≤ base) xs → is_past_last shapes (last_of_list xs) base ≡ true
past_last shapes base xs so = elim (last_so (λ slab. slab_end shapes slab ≤ base) xs so) [
  | inl e ↦ ap (λ (o : Option SlabItem). is_past_last shapes o base) e ∙ le-leb 0 base (omega arith)
  | inr last ↦ ap (λ (o : Option SlabItem). is_past_last shapes o base) last.1 ∙ le-leb _ _ last.2
]

slab_rules_hold : (core : Core) (before : List SlabItem) (x : SlabItem) (start : ℕ) → KeepsSlabRules core x → All (λ y. IsSlabBefore (core_shapes core) y x) before
    → slab_rules (header_of_core core) (core_shapes core) (last_of_list (map bare_slab before)) (listless x) start ≡ Ok tt
unfolding slab_rules
slab_rules_hold core before x start rules order =
    let shapes = core_shapes core in
    let rises : All (λ (slab : SlabItem). slab.base < x.base) (map bare_slab before) = all_map bare_slab (λ (slab : SlabItem). slab.base < x.base) before (λ k d lt. (order k d lt).rises) in
    let ends : All (λ (slab : SlabItem). slab_end shapes slab ≤ x.base) (map bare_slab before) = all_map bare_slab (λ (slab : SlabItem). slab_end shapes slab ≤ x.base) before (λ k d lt. (order k d lt).ends) in
    kept_then (is_arena_page core.version x.base) _ _ _ rules.base (
    kept_then (is_above (option_map (λ s. s.base) (last_of_list (map bare_slab before))) x.base) _ _ _ (above_so (λ (s : SlabItem). s.base) x.base (map bare_slab before) rises) (
    kept_then (is_past_last shapes (last_of_list (map bare_slab before)) x.base) _ _ _ (past_last shapes x.base (map bare_slab before) ends) (
    kept_then (ltb x.cache (length core.caches)) _ _ _ (lt-ltb _ _ rules.cache) (
    kept_then (ends_in_arena core.version x.base (shape_at shapes x.cache).pages) _ _ _ rules.ends (
    kept (is_colour (shape_at shapes x.cache) x.colour) _ _ rules.colour)))))

-- ranges that are apart do not meet
not_meet : (low past first end : ℕ) → (end ≤ low) ⊎ (past ≤ first) → (ltb first past && ltb low end) ≡ false
not_meet low past first end (inl le) = and_right (ltb first past) (ltb low end) (le-ltb _ _ le)
not_meet low past first end (inr le) = and_left (ltb first past) (ltb low end) (le-ltb _ _ le)

meets_none : (shapes : List CacheShape) (before : List SlabItem) (x : SlabItem) → All (λ y. AreApart shapes y x) before → list_any (meets_chunks shapes x.first (past_chunks shapes x)) (map bare_slab before) ≡ false
meets_none shapes before x apart =
    any_view bare_slab (meets_chunks shapes x.first (past_chunks shapes x)) before
    ∙ list_any_none (meets_chunks shapes x.first (past_chunks shapes x)) before (λ k d lt. not_meet x.first (past_chunks shapes x) (get_or before k d).first (past_chunks shapes (get_or before k d)) (apart k d lt))

first_rules_hold : (core : Core) (past : ℕ) (meets : Bool) (offset : ℕ) → past ≤ core.next_chunk → meets ≡ false → first_rules (header_of_core core) past meets offset ≡ Ok tt
unfolding first_rules
first_rules_hold core past meets offset le e =
    kept_then (leb past core.next_chunk) _ _ _ (le-leb _ _ le) (kept (not meets) _ _ (not_from_false meets e))

slab_gives : (core : Core) (before : List SlabItem) (x : SlabItem) (here : Reader) (more : List ℕ) → KeepsTheRules core → KeepsSlabRules core x → All (λ y. IsSlabBefore (core_shapes core) y x) before → All (λ y. AreApart (core_shapes core) y x) before
    → rest here ≡ spelled_slab x ++ more → Gives (slab_item_at (header_of_core core) (core_shapes core) (map bare_slab before) here) (bare_slab x) more
unfolding slab_item_at
slab_gives core before x here more all rules order apart stand =
    let shapes = core_shapes core in
    let fields = spelling slab_widths (x.base ∷ x.cache ∷ x.colour ∷ x.first ∷ length x.free ∷ []) in
    gives_then (slab_head_at here) _ (listless x, length x.free) (bare_slab x) (spelled_numbers x.free ++ more) more (head_gives core x here (spelled_numbers x.free ++ more) all rules (record_front here fields (spelled_numbers x.free) more stand)) (λ there behind.
    gives_step (slab_rules (header_of_core core) shapes (last_of_list (map bare_slab before)) (listless x) here.at) _ _ _ (slab_rules_hold core before x here.at rules order) (
    gives_step (first_rules (header_of_core core) (past_chunks shapes x) (list_any (meets_chunks shapes x.first (past_chunks shapes x)) (map bare_slab before)) (here.at + 16)) _ _ _ (first_rules_hold core (past_chunks shapes x) _ _ rules.numbers (meets_none shapes before x apart)) (
    gives_rule (leb (length x.free) (shape_at shapes x.cache).rounds) _ _ _ _ _ (le-leb _ _ rules.listed) (
    gives_then (items_at (listed_at x.first (past_chunks shapes x)) (length x.free) [] there) _ x.free (bare_slab x) more more (list_gives core x there more rules all.numbers.next_chunk behind) (λ past end.
    gives_ok (bare_slab x) past more end)))))

pub slabs_give : (core : Core) (here : Reader) (more : List ℕ) → KeepsTheRules core → rest here ≡ flat_map spelled_slab core.slabs ++ more
    → Gives (items_at (slab_item_at (header_of_core core) (core_shapes core)) (length core.slabs) [] here) (map bare_slab core.slabs) more
slabs_give core here more rules stand =
    views_give bare_slab spelled_slab (slab_item_at (header_of_core core) (core_shapes core)) core.slabs (λ before x left here more e stand.
    slab_gives core before x here more rules (item_so (KeepsSlabRules core) core.slabs before x left rules.slabs.each e) (earlier_so (IsSlabBefore (core_shapes core)) core.slabs before x left rules.slabs.order e)
    (earlier_so (AreApart (core_shapes core)) core.slabs before x left rules.slabs.apart e) stand) core.slabs [] here more refl stand

-- ---- large buffers

-- what the reader of this section tells of a large buffer: all but its bytes
abbrev pub bare_large : LargeItem → LargeItem
bare_large item = record { base = item.base; size = item.size; bytes = [] }

-- so many bytes have no more pages than they need
size_small : (base size : ℕ) → base + 4096 * pages_for size ≤ 2 ^ 32 → size ≤ 2 ^ 32
size_small base size e = omega arith

meets_nothing : (shapes : List CacheShape) (slabs : List SlabItem) (before : List LargeItem) (x : LargeItem) → All (λ slab. ShareNoPage shapes slab x) slabs → All (λ y. IsLargeBefore y x) before
    → meets_some shapes (map bare_slab slabs) (map bare_large before) x.base (large_end x) ≡ false
meets_nothing shapes slabs before x apart order = or_from _ _
    (any_view bare_slab (meets_slab shapes x.base (large_end x)) slabs ∙ list_any_none (meets_slab shapes x.base (large_end x)) slabs (λ k d lt. not_meet x.base (large_end x) (get_or slabs k d).base (slab_end shapes (get_or slabs k d)) (apart k d lt)))
    (any_view bare_large (meets_large x.base (large_end x)) before ∙ list_any_none (meets_large x.base (large_end x)) before (λ k d lt. not_meet x.base (large_end x) (get_or before k d).base (large_end (get_or before k d)) (inl (order k d lt).ends)))

large_gives : (core : Core) (before : List LargeItem) (x : LargeItem) (here : Reader) (more : List ℕ) → KeepsLargeRules core x → All (λ slab. ShareNoPage (core_shapes core) slab x) core.slabs → All (λ y. IsLargeBefore y x) before
    → rest here ≡ spelled_large x ++ more → Gives (large_item_at (header_of_core core) (core_shapes core) (map bare_slab core.slabs) (map bare_large before) here) (bare_large x) more
unfolding large_item_at
large_gives core before x here more rules apart order stand =
    let shapes = core_shapes core in
    let small = base_small core.version x.base (pages_for x.size) rules.ends in
    let rises : All (λ (item : LargeItem). item.base < x.base) (map bare_large before) = all_map bare_large (λ (item : LargeItem). item.base < x.base) before (λ k d lt. (order k d lt).rises) in
    gives_record (8 ∷ 8 ∷ []) (x.base ∷ x.size ∷ []) here _ (bare_large x) more more (omega (arith, small), (omega (arith, size_small x.base x.size small), tt)) stand (λ there behind.
    gives_rule (is_arena_page core.version x.base) _ _ _ _ _ rules.base (
    gives_rule (is_above (option_map (λ l. l.base) (last_of_list (map bare_large before))) x.base) _ _ _ _ _ (above_so (λ (l : LargeItem). l.base) x.base (map bare_large before) rises) (
    gives_rule (ltb MOST_CACHE_BYTES x.size) _ _ _ _ _ (lt-ltb _ _ rules.large) (
    gives_rule (ends_in_arena core.version x.base (pages_for x.size)) _ _ _ _ _ rules.ends (
    gives_rule (not (meets_some shapes (map bare_slab core.slabs) (map bare_large before) x.base (large_end x))) _ _ _ _ _ (not_from_false _ (meets_nothing shapes core.slabs before x apart order)) (
    gives_ok (bare_large x) there more behind))))))

pub large_give : (core : Core) (here : Reader) (more : List ℕ) → KeepsTheRules core → rest here ≡ flat_map spelled_large core.large ++ more
    → Gives (items_at (large_item_at (header_of_core core) (core_shapes core) (map bare_slab core.slabs)) (length core.large) [] here) (map bare_large core.large) more
large_give core here more rules stand =
    views_give bare_large spelled_large (large_item_at (header_of_core core) (core_shapes core) (map bare_slab core.slabs)) core.large (λ before x left here more e stand.
    large_gives core before x here more (item_so (KeepsLargeRules core) core.large before x left rules.large.each e)
    (item_so (λ item. All (λ slab. ShareNoPage (core_shapes core) slab item) core.slabs) core.large before x left rules.large.apart e) (earlier_so IsLargeBefore core.large before x left rules.large.order e) stand) core.large [] here more refl stand
