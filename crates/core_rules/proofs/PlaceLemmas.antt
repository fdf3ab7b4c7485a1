-- The magazines and the depots are read where the rules hold.
use Rattle.std.proofs.Common.{◌≡◌, ℕ, zero, suc, ◌%◌, ◌<◌, ◌≤◌, Bool, true, false, ◌&&◌, leb, List, [], ◌∷◌, ◌++◌, length, refl, sym, ap, subst, ◌∙◌, append_assoc, arith}
use Rattle.std.specs.Prelude.{All, AllPairs, map, not, ◌||◌, ◌==◌, ◌^◌, ◌≢◌}
use Rattle.std.specs.List.{flat_map, list_any}
use Rattle.std.proofs.lemmas.Bool.{le-leb, ne_eqb}
use Rattle.std.proofs.lemmas.Grind.{flat_map-append}
use Rattle.std.proofs.lemmas.List.{append-nil}
use Rattle.std.proofs.lemmas.List.Folds.{list_any_none}
use Rattle.byteorder.specs.Endian.{little_bytes}
use Rattle.case_table.specs.Geometry.{chunk_of, geometry_of}
use Rattle.case_table.proofs.GeometryLemmas.{magazine_bounds}
use Rattle.core_format.specs.declared.cache_shape.CacheShape.{CacheShape}
use Rattle.core_format.specs.declared.items.CacheItem.{CacheItem}
use Rattle.core_format.specs.declared.items.CpuPlace.{CpuPlace}
use Rattle.core_format.specs.declared.items.DepotItem.{DepotItem}
use Rattle.core_format.specs.declared.items.SlabItem.{SlabItem}
use Rattle.core_format.specs.declared.limits.TheConstants.{MOST_FULL}
use Rattle.core_format.specs.declared.whole.Core.{Core}
use Rattle.core_format.specs.Caches.{shape_of}
use Rattle.core_format.specs.Chunks.{core_shapes, is_guarded_core}
use Rattle.core_format.specs.Items.{has_number, items_at}
use Rattle.core_format.specs.Magazines.{all_rounds, count_at, cpu_place_at, depot_item_at, depot_rounds_of, full_at, is_chunk_of, is_listed, magazine_at, one_depot_at, one_place_at, one_round_at, place_rounds, round_at, rounds_at}
use Rattle.core_format.specs.Reader.{Reader}
use Rattle.core_format.specs.Slabs.{holds_chunk, shape_at}
use Rattle.core_format.specs.Spelling.{spelled_count, spelled_depot, spelled_magazine, spelled_numbers, spelled_place}
use Rattle.core_format.proofs.SpellingLemmas.{rest}
use Rattle.core_rules.specs.PlaceRules.{AreRoundsOf, IsFullMagazine, IsMagazineOf, KeepsDepotRules, KeepsPlaceRules, all_rounds_of, magazine_size}
use Rattle.core_rules.specs.Rules.{KeepsTheRules}
use Rattle.core_rules.specs.SlabRules.{KeepsSlabRules}
use Rattle.core_rules.proofs.BeforeLemmas.{any_view, earlier_so, item_at_so, item_so}
use Rattle.core_rules.proofs.GivesLemmas.{Gives, gives_ok, gives_record, gives_rule, gives_then, items_give}
use Rattle.core_rules.proofs.LogLemmas.{bare_slab, chunk_given, record_front}

-- ---- sizes of magazines

geometry_small : (size align : ℕ) (guards : Bool) → (geometry_of size align guards).magazine ≤ 15
unfolding geometry_of
geometry_small size align guards = (magazine_bounds (chunk_of size align guards)).1

shape_small : (guards : Bool) (caches : List CacheItem) (cache : ℕ) → (shape_at (map (shape_of guards) caches) cache).magazine ≤ 15
shape_small guards [] cache = omega arith
shape_small guards (x ∷ caches) zero = geometry_small x.def.size x.def.align guards
shape_small guards (x ∷ caches) (suc cache) = shape_small guards caches cache

size_small : (core : Core) (cache : ℕ) → magazine_size core cache ≤ 15
size_small core cache = shape_small (is_guarded_core core) core.caches cache

-- ---- the chunks of a magazine

-- a chunk of a slab of a cache is one of a slab
of_some : (cache chunk : ℕ) (shapes : List CacheShape) (slabs : List SlabItem) → is_chunk_of shapes slabs cache chunk ≡ true → list_any (holds_chunk shapes chunk) slabs ≡ true
of_some cache chunk shapes [] e = absurd cc
of_some cache chunk shapes (slab ∷ slabs) e =
    by_first (slab.cache == cache) (holds_chunk shapes chunk slab) (is_chunk_of shapes slabs cache chunk) (list_any (holds_chunk shapes chunk) slabs) e (λ others. of_some cache chunk shapes slabs others)
  where
    by_first : (a b c d : Bool) → ((a && b) || c) ≡ true → (c ≡ true → d ≡ true) → (b || d) ≡ true
    by_first true true c d e f = refl
    by_first true false c d e f = f e
    by_first false true c d e f = refl
    by_first false false c d e f = f e

-- what holds of the magazines, and of the slabs whose chunks they have
pub record Stand (core : Core) : Type 0 where
  pub slabs : All (KeepsSlabRules core) core.slabs
  pub numbers : core.next_chunk < 2 ^ 32
  pub unlisted : All (λ chunk. is_listed core.slabs chunk ≡ false) (all_rounds_of core)
  pub once : AllPairs (λ chunk later. chunk ≢ later) (all_rounds_of core)

pub stand_of : (core : Core) → KeepsTheRules core → Stand core
stand_of core rules = record { slabs = rules.slabs.each; numbers = rules.numbers.next_chunk; unlisted = rules.places.unlisted; once = rules.places.once }

-- a chunk that none of those before it is
none_before : (numbers : List ℕ) (chunk : ℕ) → All (λ n. n ≢ chunk) numbers → has_number numbers chunk ≡ false
none_before numbers chunk other = list_any_none (λ n. n == chunk) numbers (λ k d lt. ne_eqb _ chunk (other k d lt))

not_both : (a b : Bool) → a ≡ false → b ≡ false → (not a && not b) ≡ true
not_both a b p q = rw (p, q) refl

round_gives : (core : Core) (cache : ℕ) (seen : List ℕ) (x : ℕ) (later : List ℕ) (here : Reader) (more : List ℕ) → Stand core → is_chunk_of (core_shapes core) core.slabs cache x ≡ true
    → all_rounds_of core ≡ seen ++ x ∷ later → rest here ≡ little_bytes 4 x ++ more → Gives (one_round_at (core_shapes core) (map bare_slab core.slabs) cache seen here) x more
unfolding one_round_at
round_gives core cache seen x later here more facts own total stand =
    let shapes = core_shapes core in
    let given : x < core.next_chunk = chunk_given core x facts.slabs (of_some cache x shapes core.slabs own) in
    let listed : is_listed (map bare_slab core.slabs) x ≡ false = any_view bare_slab (λ slab. has_number slab.free x) core.slabs ∙ item_so (λ chunk. is_listed core.slabs chunk ≡ false) (all_rounds_of core) seen x later facts.unlisted total in
    let before : has_number seen x ≡ false = none_before seen x (earlier_so (λ chunk later. chunk ≢ later) (all_rounds_of core) seen x later facts.once total) in
    gives_record (4 ∷ []) (x ∷ []) here _ x more more (omega (arith, given, facts.numbers), tt) (stand ∙ ap (λ (t : List ℕ). t ++ more) (sym (append-nil (little_bytes 4 x)))) (λ there behind.
    gives_rule (is_chunk_of shapes (map bare_slab core.slabs) cache x) _ _ _ _ _ (any_view bare_slab (λ slab. (slab.cache == cache) && holds_chunk shapes x slab) core.slabs ∙ own) (
    gives_rule (not (is_listed (map bare_slab core.slabs) x) && not (has_number seen x)) _ _ _ _ _ (not_both _ _ listed before) (
    gives_ok x there more behind)))

-- one of them, between those before it and those behind it
between : (total seen before : List ℕ) (x : ℕ) (left later : List ℕ) → total ≡ seen ++ ((before ++ x ∷ left) ++ later) → total ≡ (seen ++ before) ++ x ∷ (left ++ later)
between total seen before x left later e = e ∙ ap (λ (t : List ℕ). seen ++ t) (append_assoc before (x ∷ left) later) ∙ sym (append_assoc seen before (x ∷ (left ++ later)))

rounds_give : (core : Core) (cache : ℕ) (seen rounds later : List ℕ) (count : ℕ) (here : Reader) (more : List ℕ) → Stand core → AreRoundsOf core cache rounds
    → all_rounds_of core ≡ seen ++ (rounds ++ later) → length rounds ≡ count → rest here ≡ spelled_numbers rounds ++ more
    → Gives (rounds_at (core_shapes core) (map bare_slab core.slabs) cache seen count here) rounds more
rounds_give core cache seen rounds later count here more facts own total long stand =
    let shapes = core_shapes core in
    items_give (little_bytes 4) (round_at shapes (map bare_slab core.slabs) cache seen) rounds (λ before x left here more e stand.
    round_gives core cache (seen ++ before) x (left ++ later) here more facts (item_so (λ chunk. is_chunk_of shapes core.slabs cache chunk ≡ true) rounds before x left own e)
    (between (all_rounds_of core) seen before x left later (total ∙ ap (λ (t : List ℕ). seen ++ (t ++ later)) e)) stand) count here more long stand

count_gives : (most count : ℕ) (here : Reader) (more : List ℕ) → count ≤ most → most < 2 ^ 32 → rest here ≡ little_bytes 4 count ++ more → Gives (count_at most here) count more
unfolding count_at
count_gives most count here more le small stand =
    gives_record (4 ∷ []) (count ∷ []) here _ count more more (omega arith, tt) (stand ∙ ap (λ (t : List ℕ). t ++ more) (sym (append-nil (little_bytes 4 count)))) (λ there behind.
    gives_rule (leb count most) _ _ _ _ _ (le-leb _ _ le) (
    gives_ok count there more behind))

magazine_gives : (core : Core) (cache : ℕ) (seen rounds later : List ℕ) (here : Reader) (more : List ℕ) → Stand core → IsMagazineOf core cache rounds
    → all_rounds_of core ≡ seen ++ (rounds ++ later) → rest here ≡ spelled_magazine rounds ++ more
    → Gives (magazine_at (core_shapes core) (map bare_slab core.slabs) cache seen here) rounds more
unfolding magazine_at
magazine_gives core cache seen rounds later here more facts is total stand =
    gives_then (count_at (magazine_size core cache) here) _ (length rounds) rounds (spelled_numbers rounds ++ more) more
    (count_gives (magazine_size core cache) (length rounds) here (spelled_numbers rounds ++ more) is.fits (omega (arith, size_small core cache)) (record_front here (spelled_count rounds) (spelled_numbers rounds) more stand)) (λ there behind.
    rounds_give core cache seen rounds later (length rounds) there more facts is.own total refl behind)

-- ---- the magazines of the CPUs

place_gives : (core : Core) (seen : List ℕ) (x : CpuPlace) (later : List ℕ) (here : Reader) (more : List ℕ) → Stand core → IsMagazineOf core x.cache x.loaded → IsMagazineOf core x.cache x.previous
    → all_rounds_of core ≡ seen ++ (place_rounds x ++ later) → rest here ≡ spelled_place x ++ more
    → Gives (one_place_at (core_shapes core) (map bare_slab core.slabs) x.cpu x.cache seen here) x more
unfolding one_place_at
place_gives core seen x later here more facts loaded previous total stand =
    let shapes = core_shapes core in
    let slabs = map bare_slab core.slabs in
    let first : all_rounds_of core ≡ seen ++ (x.loaded ++ (x.previous ++ later)) = total ∙ ap (λ (t : List ℕ). seen ++ t) (append_assoc x.loaded x.previous later) in
    let second : all_rounds_of core ≡ (seen ++ x.loaded) ++ (x.previous ++ later) = first ∙ sym (append_assoc seen x.loaded (x.previous ++ later)) in
    gives_then (magazine_at shapes slabs x.cache seen here) _ x.loaded x (spelled_magazine x.previous ++ more) more
    (magazine_gives core x.cache seen x.loaded (x.previous ++ later) here (spelled_magazine x.previous ++ more) facts loaded first (record_front here (spelled_magazine x.loaded) (spelled_magazine x.previous) more stand)) (λ there behind.
    gives_then (magazine_at shapes slabs x.cache (seen ++ x.loaded) there) _ x.previous x more more
    (magazine_gives core x.cache (seen ++ x.loaded) x.previous later there more facts previous second behind) (λ past end.
    gives_ok x past more end))

-- the items of a list, one of them and those round it
around : {A : Type 0} (f : A → List ℕ) (all before : List A) (x : A) (left : List A) → all ≡ before ++ x ∷ left → flat_map f all ≡ flat_map f before ++ (f x ++ flat_map f left)
around {A} f all before x left e = ap (flat_map f) e ∙ flat_map-append f before (x ∷ left)

-- the same, with more before and behind
around_within : {A : Type 0} (f : A → List ℕ) (all before : List A) (x : A) (left : List A) (total seen later : List ℕ) → all ≡ before ++ x ∷ left → total ≡ seen ++ (flat_map f all ++ later)
    → total ≡ (seen ++ flat_map f before) ++ (f x ++ (flat_map f left ++ later))
around_within f all before x left total seen later e so =
    so ∙ ap (λ (t : List ℕ). seen ++ (t ++ later)) (around f all before x left e) ∙ ap (λ (t : List ℕ). seen ++ t) (append_assoc (flat_map f before) (f x ++ flat_map f left) later)
    ∙ sym (append_assoc seen (flat_map f before) ((f x ++ flat_map f left) ++ later)) ∙ ap (λ (t : List ℕ). (seen ++ flat_map f before) ++ t) (append_assoc (f x) (flat_map f left) later)

next_place_gives : (core : Core) (before : List CpuPlace) (x : CpuPlace) (left : List CpuPlace) (here : Reader) (more : List ℕ) → Stand core → KeepsPlaceRules core (length before) x
    → core.cpu_places ≡ before ++ x ∷ left → rest here ≡ spelled_place x ++ more
    → Gives (cpu_place_at (length core.caches) (core_shapes core) (map bare_slab core.slabs) before here) x more
next_place_gives core before x left here more facts rules e stand =
    let shapes = core_shapes core in
    let slabs = map bare_slab core.slabs in
    let seen = flat_map place_rounds before in
    let later = flat_map place_rounds left ++ flat_map depot_rounds_of core.depots in
    let total : all_rounds_of core ≡ seen ++ (place_rounds x ++ later) = around_within place_rounds core.cpu_places before x left (all_rounds_of core) [] (flat_map depot_rounds_of core.depots) e refl in
    subst (λ (cpu : ℕ). Gives (one_place_at shapes slabs cpu (length before % length core.caches) seen here) x more) rules.cpu
    (subst (λ (cache : ℕ). Gives (one_place_at shapes slabs x.cpu cache seen here) x more) rules.cache
    (place_gives core seen x later here more facts rules.loaded rules.previous total stand))

pub places_give : (core : Core) (count : ℕ) (here : Reader) (more : List ℕ) → KeepsTheRules core → length core.cpu_places ≡ count → rest here ≡ flat_map spelled_place core.cpu_places ++ more
    → Gives (items_at (cpu_place_at (length core.caches) (core_shapes core) (map bare_slab core.slabs)) count [] here) core.cpu_places more
places_give core count here more rules long stand =
    items_give spelled_place (cpu_place_at (length core.caches) (core_shapes core) (map bare_slab core.slabs)) core.cpu_places (λ before x left here more e stand.
    next_place_gives core before x left here more (stand_of core rules) (item_at_so (KeepsPlaceRules core) core.cpu_places before x left rules.places.places e) e stand) count here more long stand

-- ---- depots

full_gives : (core : Core) (cache : ℕ) (seen : List ℕ) (all before : List (List ℕ)) (x : List ℕ) (left : List (List ℕ)) (later : List ℕ) (here : Reader) (more : List ℕ) → Stand core → IsFullMagazine core cache x
    → all ≡ before ++ x ∷ left → all_rounds_of core ≡ seen ++ (all_rounds all ++ later) → rest here ≡ spelled_numbers x ++ more
    → Gives (full_at (core_shapes core) (map bare_slab core.slabs) cache seen before here) x more
full_gives core cache seen all before x left later here more facts is e total stand =
    rounds_give core cache (seen ++ all_rounds before) x (all_rounds left ++ later) (magazine_size core cache) here more facts is.own
    (around_within (λ rounds. rounds) all before x left (all_rounds_of core) seen later e total) is.full stand

depot_gives : (core : Core) (cache : ℕ) (seen : List ℕ) (x : DepotItem) (later : List ℕ) (here : Reader) (more : List ℕ) → Stand core → KeepsDepotRules core cache x
    → all_rounds_of core ≡ seen ++ (depot_rounds_of x ++ later) → rest here ≡ spelled_depot x ++ more
    → Gives (one_depot_at (core_shapes core) (map bare_slab core.slabs) cache seen here) x more
unfolding one_depot_at
depot_gives core cache seen x later here more facts rules total stand =
    let shapes = core_shapes core in
    let slabs = map bare_slab core.slabs in
    gives_then (count_at MOST_FULL here) _ (length x.full) x (flat_map spelled_numbers x.full ++ more) more
    (count_gives MOST_FULL (length x.full) here (flat_map spelled_numbers x.full ++ more) rules.few (omega arith) (record_front here (spelled_count x.full) (flat_map spelled_numbers x.full) more stand)) (λ there behind.
    gives_then (items_at (full_at shapes slabs cache seen) (length x.full) [] there) _ x.full x more more
    (items_give spelled_numbers (full_at shapes slabs cache seen) x.full (λ before y left here more e stand.
    full_gives core cache seen x.full before y left later here more facts (item_so (IsFullMagazine core cache) x.full before y left rules.full e) e total stand) (length x.full) there more refl behind) (λ past end.
    gives_ok x past more end))

next_depot_gives : (core : Core) (before : List DepotItem) (x : DepotItem) (left : List DepotItem) (here : Reader) (more : List ℕ) → Stand core → KeepsDepotRules core (length before) x
    → core.depots ≡ before ++ x ∷ left → rest here ≡ spelled_depot x ++ more
    → Gives (depot_item_at (core_shapes core) (map bare_slab core.slabs) (flat_map place_rounds core.cpu_places) before here) x more
next_depot_gives core before x left here more facts rules e stand =
    let places = flat_map place_rounds core.cpu_places in
    let later = flat_map depot_rounds_of left ++ [] in
    let total : all_rounds_of core ≡ (places ++ flat_map depot_rounds_of before) ++ (depot_rounds_of x ++ later) =
    around_within depot_rounds_of core.depots before x left (all_rounds_of core) places [] e (ap (λ (t : List ℕ). places ++ t) (sym (append-nil (flat_map depot_rounds_of core.depots)))) in
    depot_gives core (length before) (places ++ flat_map depot_rounds_of before) x later here more facts rules total stand

pub depots_give : (core : Core) (count : ℕ) (here : Reader) (more : List ℕ) → KeepsTheRules core → length core.depots ≡ count → rest here ≡ flat_map spelled_depot core.depots ++ more
    → Gives (items_at (depot_item_at (core_shapes core) (map bare_slab core.slabs) (flat_map place_rounds core.cpu_places)) count [] here) core.depots more
depots_give core count here more rules long stand =
    items_give spelled_depot (depot_item_at (core_shapes core) (map bare_slab core.slabs) (flat_map place_rounds core.cpu_places)) core.depots (λ before x left here more e stand.
    next_depot_gives core before x left here more (stand_of core rules) (item_at_so (KeepsDepotRules core) core.depots before x left rules.places.depots e) e stand) count here more long stand
