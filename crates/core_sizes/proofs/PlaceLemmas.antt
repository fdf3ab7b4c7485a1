-- How many bytes the magazines and the depots of a core have.
use Rattle.std.proofs.Common.{◌≡◌, ℕ, ◌*◌, ◌%◌, ◌≤◌, leb, List, [], ◌∷◌, ◌++◌, length, get_or, Ok, sym, ap, subst, arith, inl, inr}
use Rattle.std.specs.Prelude.{All, slice_index}
use Rattle.std.specs.List.{flat_map}
use Rattle.std.proofs.lemmas.Bool.{cases_lt, leb-true}
use Rattle.std.proofs.lemmas.List.{get_or_past, length-append}
use Rattle.std.proofs.lemmas.List.Elements.{All-nil}
use Rattle.std.proofs.lemmas.Nat.{mul-le}
use Rattle.core_format.specs.declared.cache_shape.CacheShape.{CacheShape}
use Rattle.core_format.specs.declared.header.Header.{Header}
use Rattle.core_format.specs.declared.items.CpuPlace.{CpuPlace}
use Rattle.core_format.specs.declared.items.DepotItem.{DepotItem}
use Rattle.core_format.specs.declared.items.SlabItem.{SlabItem}
use Rattle.core_format.specs.declared.limits.TheConstants.{MOST_FULL}
use Rattle.core_format.specs.declared.parts.Front.{Front}
use Rattle.core_format.specs.declared.parts.Middle.{Middle}
use Rattle.core_format.specs.declared.whole.Core.{Core}
use Rattle.core_format.specs.Caches.{cache_item_at, is_guarded, shapes_of}
use Rattle.core_format.specs.Cores.{MeetsTheRules, front_at, middle_at}
use Rattle.core_format.specs.Items.{items_at}
use Rattle.core_format.specs.Magazines.{all_rounds, count_at, cpu_place_at, depot_item_at, depot_rounds_of, full_at, magazine_at, one_depot_at, one_place_at, place_rounds, round_at}
use Rattle.core_format.specs.Reader.{Reader, record_at}
use Rattle.core_format.specs.Slabs.{no_shape, shape_at}
use Rattle.core_format.specs.Spelling.{spelled_count, spelled_depot, spelled_magazine, spelled_numbers, spelled_place}
use Rattle.core_format.proofs.SpellingLemmas.{When, after, after_any, after_rule, when_map, when_ok}
use Rattle.heap_view.specs.Layout.{IsSoundCache}
use Rattle.heap_view.proofs.LayoutLemmas.{laid_out}
use Rattle.heap_view.proofs.PartsLemmas.{front_parts_of, middle_parts_of, parts_of}
use Rattle.heap_view.proofs.ReadLemmas.{items_count}
use Rattle.heap_ledger.specs.Ledger.{IsLedger, Ledger}
use Rattle.heap_pictures.specs.Pictures.{Pictures}
use Rattle.core_sizes.proofs.FrontLemmas.{caches_few}
use Rattle.core_sizes.proofs.LengthLemmas.{all_read, each_read, items_long, many_read, number_long, numbers_long, when_both}
use Rattle.core_sizes.proofs.SlabLemmas.{IsSmallShape, shapes_small}

-- two magazines for each CPU and cache
abbrev pub most_places : ℕ
most_places = 16 * 96 * 128

-- eight full ones for each cache
abbrev pub most_depots : ℕ
most_depots = 96 * 484

-- ---- how many rounds are read

-- no magazine has more rounds
abbrev AreShort : List CacheShape → Type 0
AreShort shapes = (cache : ℕ) → (shape_at shapes cache).magazine ≤ 15

magazines_short : (shapes : List CacheShape) → All IsSmallShape shapes → AreShort shapes
magazines_short shapes small cache = elim (cases_lt cache (length shapes)) [
  | inl there ↦ (small cache no_shape there).magazine
  | inr past ↦ omega (arith, ap (λ (s : CacheShape). s.magazine) (get_or_past shapes cache no_shape past))
]

-- the two magazines of a CPU for a cache
abbrev IsShortPlace : CpuPlace → Type 0
IsShortPlace place = (length place.loaded ≤ 15) × (length place.previous ≤ 15)

abbrev IsShortMagazine : List ℕ → Type 0
IsShortMagazine rounds = length rounds ≤ 15

-- the full magazines of a cache
abbrev IsShortDepot : DepotItem → Type 0
IsShortDepot depot = (length depot.full ≤ 8) × All IsShortMagazine depot.full

count_read : (most : ℕ) (here : Reader) → When (count_at most here) (λ out. out.0 ≤ most)
unfolding count_at
count_read most here =
    after_any _ (record_at (4 ∷ []) here) _ (λ fields.
    after_rule _ (leb (slice_index fields.0 0) most) _ _ _ (λ fits.
    when_ok _ _ (leb-true (slice_index fields.0 0) most fits)))

magazine_read : (shapes : List CacheShape) (slabs : List SlabItem) (cache : ℕ) (seen : List ℕ) (here : Reader)
    → When (magazine_at shapes slabs cache seen here) (λ out. length out.0 ≤ (shape_at shapes cache).magazine)
unfolding magazine_at
magazine_read shapes slabs cache seen here =
    let most = (shape_at shapes cache).magazine in
    after _ (λ (out : ℕ × Reader). out.0 ≤ most) (count_at most here) _ (count_read most here) (λ count few.
    when_map _ _ _ (many_read (round_at shapes slabs cache seen) count.0 [] count.1) (λ out many.
    omega (arith, many, few)))

place_read : (caches : ℕ) (shapes : List CacheShape) (slabs : List SlabItem) → AreShort shapes
    → (before : List CpuPlace) (here : Reader)
    → When (cpu_place_at caches shapes slabs before here) (λ out. IsShortPlace out.0)
unfolding one_place_at
place_read caches shapes slabs short before here =
    let cache = length before % caches in
    let seen = flat_map place_rounds before in
    let most = (shape_at shapes cache).magazine in
    after _ (λ (out : List ℕ × Reader). length out.0 ≤ most) (magazine_at shapes slabs cache seen here) _
    (magazine_read shapes slabs cache seen here) (λ loaded one.
    after _ (λ (out : List ℕ × Reader). length out.0 ≤ most)
    (magazine_at shapes slabs cache (seen ++ loaded.0) loaded.1) _
    (magazine_read shapes slabs cache (seen ++ loaded.0) loaded.1) (λ previous two.
    when_ok _ _ (omega (arith, one, short cache), omega (arith, two, short cache))))

full_read : (shapes : List CacheShape) (slabs : List SlabItem) (cache : ℕ) (seen : List ℕ) → AreShort shapes
    → (before : List (List ℕ)) (here : Reader)
    → When (full_at shapes slabs cache seen before here) (λ out. IsShortMagazine out.0)
full_read shapes slabs cache seen short before here =
    let round = round_at shapes slabs cache (seen ++ all_rounds before) in
    when_map _ _ _ (many_read round (shape_at shapes cache).magazine [] here) (λ out many.
    omega (arith, many, short cache))

depot_read : (shapes : List CacheShape) (slabs : List SlabItem) (seen : List ℕ) → AreShort shapes
    → (before : List DepotItem) (here : Reader)
    → When (depot_item_at shapes slabs seen before here) (λ out. IsShortDepot out.0)
unfolding one_depot_at
depot_read shapes slabs seen short before here =
    let cache = length before in
    let now = seen ++ flat_map depot_rounds_of before in
    after _ (λ (out : ℕ × Reader). out.0 ≤ MOST_FULL) (count_at MOST_FULL here) _ (count_read MOST_FULL here)
    (λ count few.
    after _ (λ (out : List (List ℕ) × Reader). (length out.0 ≤ 8) × All IsShortMagazine out.0)
    (items_at (full_at shapes slabs cache now) count.0 [] count.1) _ (both cache now count few) (λ full its.
    when_ok _ _ its))
  where
    both : (cache : ℕ) (now : List ℕ) (count : ℕ × Reader) → count.0 ≤ MOST_FULL
        → When (items_at (full_at shapes slabs cache now) count.0 [] count.1)
        (λ out. (length out.0 ≤ 8) × All IsShortMagazine out.0)
    both cache now count few =
        let item = full_at shapes slabs cache now in
        when_both (λ (out : List (List ℕ) × Reader). length out.0 ≤ 8)
        (λ (out : List (List ℕ) × Reader). All IsShortMagazine out.0) (items_at item count.0 [] count.1)
        (when_map _ _ _ (many_read item count.0 [] count.1) (λ out many. omega (arith, many, few)))
        (each_read IsShortMagazine item (full_read shapes slabs cache now short) count.0 [] count.1
        (All-nil IsShortMagazine))

-- ---- those of a core

-- what the magazines and depots that were read keep
record ArePlacesRead (cpus caches : ℕ) (places : List CpuPlace) (depots : List DepotItem) : Type 0 where
  many : length places ≡ cpus * caches
  short : All IsShortPlace places
  stores : length depots ≡ caches
  stored : All IsShortDepot depots

middle_places : (h : Header) (shapes : List CacheShape) (here : Reader) (middle : Middle × Reader) → AreShort shapes
    → middle_at h shapes here ≡ Ok middle → ArePlacesRead h.cpus h.caches middle.0.cpu_places middle.0.depots
middle_places h shapes here middle short e =
    let parts = middle_parts_of h shapes here middle e in
    let slabs = parts.slabs.0 in
    let many = h.cpus * h.caches in
    let seen = flat_map place_rounds parts.places.0 in
    let place = cpu_place_at h.caches shapes slabs in
    let depot = depot_item_at shapes slabs seen in
    let places = place_read h.caches shapes slabs short in
    let depots = depot_read shapes slabs seen short in
    subst (λ (m : Middle × Reader). ArePlacesRead h.cpus h.caches m.0.cpu_places m.0.depots) parts.is (record {
      many = items_count place many parts.large.1 parts.places.0 parts.places.1 parts.places_read;
      short = all_read IsShortPlace place places many parts.large.1 parts.places parts.places_read;
      stores = items_count depot h.caches parts.places.1 parts.depots.0 parts.depots.1 parts.depots_read;
      stored = all_read IsShortDepot depot depots h.caches parts.places.1 parts.depots parts.depots_read;
    })

-- there are as many caches as the header says
caches_counted : (here : Reader) (front : Front × Reader) → front_at here ≡ Ok front
    → length front.0.caches ≡ front.0.header.caches
caches_counted here front e =
    let parts = front_parts_of here front e in
    let h : Header = parts.heads.0.0 in
    let many = items_count (cache_item_at h) h.caches parts.own.1 parts.caches.0 parts.caches.1 parts.caches_read in
    subst (λ (f : Front × Reader). length f.0.caches ≡ f.0.header.caches) parts.is many

core_places : (core : Core) → MeetsTheRules core
    → ArePlacesRead core.cpus (length core.caches) core.cpu_places core.depots
core_places core met =
    let parts = parts_of core met in
    let f : Front = parts.front.0 in
    let m : Middle = parts.middle.0 in
    let h : Header = f.header in
    let shapes = shapes_of h f.caches in
    let sound : All IsSoundCache f.caches =
    subst (λ (c : Core). All IsSoundCache c.caches) (sym parts.is) (laid_out core met).caches in
    let short = magazines_short shapes (shapes_small (is_guarded h) f.caches sound) in
    let read = middle_places h shapes parts.front.1 parts.middle short parts.middle_read in
    let same = caches_counted parts.start parts.front parts.front_read in
    let counted : ArePlacesRead h.cpus (length f.caches) m.cpu_places m.depots =
    subst (λ (n : ℕ). ArePlacesRead h.cpus n m.cpu_places m.depots) (sym same) read in
    subst (λ (c : Core). ArePlacesRead c.cpus (length c.caches) c.cpu_places c.depots) parts.is counted

-- ---- how many bytes they have

magazine_long : (rounds : List ℕ) → IsShortMagazine rounds → length (spelled_magazine rounds) ≤ 64
magazine_long rounds short =
    let joined = length-append (spelled_count rounds) (spelled_numbers rounds) in
    omega (arith, short, number_long 4 (length rounds), numbers_long 4 rounds, joined)

place_long : (place : CpuPlace) → IsShortPlace place → length (spelled_place place) ≤ 128
place_long place short =
    let loaded = magazine_long place.loaded short.0 in
    let previous = magazine_long place.previous short.1 in
    let joined = length-append (spelled_magazine place.loaded) (spelled_magazine place.previous) in
    omega (arith, loaded, previous, joined)

depot_long : (depot : DepotItem) → IsShortDepot depot → length (spelled_depot depot) ≤ 484
depot_long depot short =
    let each : length (flat_map spelled_numbers depot.full) ≤ length depot.full * 60 =
    items_long spelled_numbers 60 depot.full (λ k d lt.
    omega (arith, numbers_long 4 (get_or depot.full k d), short.1 k d lt)) in
    let joined = length-append (spelled_count depot.full) (flat_map spelled_numbers depot.full) in
    omega (arith, each, short.0, number_long 4 (length depot.full), joined)

pub places_long : (ledger : Ledger) (core : Core) → IsLedger ledger → Pictures ledger core
    → length (flat_map spelled_place core.cpu_places) ≤ most_places
places_long ledger core legal is =
    let read = core_places core is.rules in
    let cpus : core.cpus ≤ 16 = omega (arith, is.tells.numbers.cpus, legal.plan.header.cpus.1) in
    let few : core.cpus * length core.caches ≤ 16 * 96 =
    mul-le core.cpus (length core.caches) 16 96 cpus (caches_few ledger core legal is) in
    let each = items_long spelled_place 128 core.cpu_places (λ k d lt.
    place_long (get_or core.cpu_places k d) (read.short k d lt)) in
    omega (arith, each, few, read.many)

pub depots_long : (ledger : Ledger) (core : Core) → IsLedger ledger → Pictures ledger core
    → length (flat_map spelled_depot core.depots) ≤ most_depots
depots_long ledger core legal is =
    let read = core_places core is.rules in
    let each = items_long spelled_depot 484 core.depots (λ k d lt.
    depot_long (get_or core.depots k d) (read.stored k d lt)) in
    omega (arith, each, read.stores, caches_few ledger core legal is)
