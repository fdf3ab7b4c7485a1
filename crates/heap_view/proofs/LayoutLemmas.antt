-- A core that meets the rules is laid out: its slabs and large buffers stand apart.
use Rattle.std.proofs.Common.{◌≡◌, ℕ, ◌+◌, ◌<◌, ◌≤◌, Bool, true, false, cond, eqb, leb, List, [], length, get_or, Some, Result, Ok, refl, sym, ap, subst, ◌∙◌, arith}
use Rattle.std.specs.List.{AllPairs, Contains}
use Rattle.std.proofs.lemmas.Bool.{and_parts, false_from_ne_true, leb-true}
use Rattle.std.proofs.lemmas.Bool.Decides.{nat_tests}
use Rattle.std.proofs.lemmas.List.{get_or_default}
use Rattle.std.proofs.lemmas.List.Elements.{AllZip-get_or, length_all_zip}
use Rattle.case_table.specs.declared.limits.TheConstants.{MOST_THREADS}
use Rattle.core_format.specs.declared.cache_shape.CacheShape.{CacheShape}
use Rattle.core_format.specs.declared.fault.Fault.TheVariants.{BadLength}
use Rattle.core_format.specs.declared.header.Header.{Header}
use Rattle.core_format.specs.declared.header.SecondHeader.{SecondHeader}
use Rattle.core_format.specs.declared.items.CpuPlace.{CpuPlace}
use Rattle.core_format.specs.declared.items.DepotItem.{DepotItem}
use Rattle.core_format.specs.declared.items.LargeItem.{LargeItem}
use Rattle.core_format.specs.declared.items.SlabItem.{SlabItem}
use Rattle.core_format.specs.declared.parts.Front.{Front}
use Rattle.core_format.specs.declared.parts.Middle.{Middle}
use Rattle.core_format.specs.declared.parts.Records.{Records}
use Rattle.core_format.specs.declared.whole.Core.{Core}
use Rattle.core_format.specs.Caches.{cache_item_at, shapes_of}
use Rattle.core_format.specs.Chunks.{core_shapes, slab_of_chunk}
use Rattle.core_format.specs.Cores.{MeetsTheRules, core_of_parts, front_at, middle_at}
use Rattle.core_format.specs.Header.{has_contents_log, header_at, headers_at, is_count, no_second, second_header_at, second_of, second_widths}
use Rattle.core_format.specs.PageBytes.{no_large}
use Rattle.core_format.specs.Reader.{Flaw, Reader, ◌>>=◌, record_at, rule}
use Rattle.core_format.specs.Slabs.{holds_chunk, large_end, slab_end}
use Rattle.core_format.proofs.CacheLemmas.{rule-holds}
use Rattle.core_format.proofs.ListLemmas.{bind_ok, ok_is}
use Rattle.heap_view.specs.Layout.{AreNumberedApart, AreSlabAndLargeApart, IsAuditBelow, IsLaidOut, IsSoundLarge, IsSoundSlab}
use Rattle.heap_view.proofs.ListLemmas.{find_first}
use Rattle.heap_view.proofs.PartsLemmas.{front_parts_of, middle_parts_of, parts_of, records_parts_of}
use Rattle.heap_view.proofs.ReadLemmas.{AreCachesRead, AreLargeRead, ArePagesRead, AreSegmentsRead, AreSlabsRead, IsLargeFilled, IsSlabFilled, audits_read, caches_read, items_count, large_read, pages_read, segments_read, slabs_read}

-- ---- the front

threads_in_second : (h : Header) (here : Reader) (second : SecondHeader × Reader) → second_header_at h here ≡ Ok second → second.0.threads ≤ MOST_THREADS
unfolding second_header_at
threads_in_second h here second e =
    let k1 : List ℕ × Reader → Result (SecondHeader × Reader) Flaw = λ fields.
    rule (is_count 1 (second_of fields.0).threads MOST_THREADS) here.at BadLength >>= λ _.
    rule (has_contents_log h.flags (second_of fields.0).contents_capacity) (here.at + 4) BadLength >>= λ _.
    rule (leb (second_of fields.0).saved (second_of fields.0).contents_capacity) (here.at + 8) BadLength >>= λ _. Ok (second_of fields.0, fields.1) in
    let fields = bind_ok (record_at second_widths here) k1 second e in
    let s : SecondHeader = second_of fields.0.0 in
    let k4 : Unit {0} → Result (SecondHeader × Reader) Flaw = λ _. Ok (s, fields.0.1) in
    let k3 : Unit {0} → Result (SecondHeader × Reader) Flaw = λ _. rule (leb s.saved s.contents_capacity) (here.at + 8) BadLength >>= k4 in
    let k2 : Unit {0} → Result (SecondHeader × Reader) Flaw = λ _. rule (has_contents_log h.flags s.contents_capacity) (here.at + 4) BadLength >>= k3 in
    let threads = rule-holds (is_count 1 s.threads MOST_THREADS) here.at BadLength k2 second fields.2 in
    let capacity = rule-holds (has_contents_log h.flags s.contents_capacity) (here.at + 4) BadLength k3 second threads.1 in
    let saved = rule-holds (leb s.saved s.contents_capacity) (here.at + 8) BadLength k4 second capacity.1 in
    let made : SecondHeader × Reader = (s, fields.0.1) in
    subst (λ (y : SecondHeader × Reader). y.0.threads ≤ MOST_THREADS) (ok_is made second saved.1) (leb-true s.threads MOST_THREADS (and_parts (leb 1 s.threads) (leb s.threads MOST_THREADS) threads.0).1)

abbrev second_of_first : Header → Reader → Result (SecondHeader × Reader) Flaw
second_of_first h there = cond (eqb h.version 1) (Ok (no_second, there)) (second_header_at h there)

-- no more threads than there may be
threads_few : (here : Reader) (heads : (Header × SecondHeader) × Reader) → headers_at here ≡ Ok heads → heads.0.1.threads ≤ MOST_THREADS
unfolding headers_at
threads_few here heads e =
    let k1 : Header × Reader → Result ((Header × SecondHeader) × Reader) Flaw = λ first. second_of_first first.0 first.1 >>= λ second. Ok ((first.0, second.0), second.1) in
    let first = bind_ok (header_at here) k1 heads e in
    let h : Header = first.0.0 in
    let k2 : SecondHeader × Reader → Result ((Header × SecondHeader) × Reader) Flaw = λ second. Ok ((h, second.0), second.1) in
    let second = bind_ok (second_of_first h first.0.1) k2 heads first.2 in
    let few = by_version (eqb h.version 1) h first.0.1 second.0 second.1 in
    let made : (Header × SecondHeader) × Reader = ((h, second.0.0), second.0.1) in
    subst (λ (y : (Header × SecondHeader) × Reader). y.0.1.threads ≤ MOST_THREADS) (ok_is made heads second.2) few
  where
    by_version : (b : Bool) (h : Header) (there : Reader) (second : SecondHeader × Reader) → cond b (Ok (no_second, there)) (second_header_at h there) ≡ Ok second → second.0.threads ≤ MOST_THREADS
    by_version true h there second e =
        let made : SecondHeader × Reader = (no_second, there) in
        subst (λ (y : SecondHeader × Reader). y.0.threads ≤ MOST_THREADS) (ok_is made second e) (omega arith)
    by_version false h there second e = threads_in_second h there second e

-- what the front of a core keeps
record IsSoundFront (front : Front) : Type 0 where
  caches : AreCachesRead front.caches
  as_many : length front.caches ≡ front.header.caches
  segments : AreSegmentsRead front.second.threads front.root front.own
  few : front.second.threads ≤ MOST_THREADS

front_sound : (here : Reader) (front : Front × Reader) → front_at here ≡ Ok front → IsSoundFront front.0
front_sound here front e =
    let parts = front_parts_of here front e in
    let h : Header = parts.heads.0.0 in
    subst (λ (y : Front × Reader). IsSoundFront y.0) parts.is (record {
      caches = caches_read h h.caches parts.own.1 parts.caches.0 parts.caches.1 parts.caches_read;
      as_many = items_count (cache_item_at h) h.caches parts.own.1 parts.caches.0 parts.caches.1 parts.caches_read;
      segments = segments_read parts.heads.1 parts.heads.0.1.threads parts.root parts.own parts.root_read parts.own_read;
      few = threads_few here parts.heads parts.heads_read;
    })

-- ---- the middle

record IsSoundMiddle (h : Header) (shapes : List CacheShape) (middle : Middle) : Type 0 where
  shapes_are : middle.table.shapes ≡ shapes
  slabs : AreSlabsRead h shapes middle.table.slabs
  large : AreLargeRead h shapes middle.table.slabs middle.large

middle_sound : (h : Header) (shapes : List CacheShape) (here : Reader) (middle : Middle × Reader) → middle_at h shapes here ≡ Ok middle → IsSoundMiddle h shapes middle.0
middle_sound h shapes here middle e =
    let parts = middle_parts_of h shapes here middle e in
    subst (λ (y : Middle × Reader). IsSoundMiddle h shapes y.0) parts.is (record {
      shapes_are = refl;
      slabs = slabs_read h shapes h.slabs here parts.slabs.0 parts.slabs.1 parts.slabs_read;
      large = large_read h shapes parts.slabs.0 h.large parts.slabs.1 parts.large.0 parts.large.1 parts.large_read;
    })

-- ---- the whole

-- slabs and large buffers that were read, and then filled
filled_sound : (front : Front) (places : List CpuPlace) (depots : List DepotItem) (records : Records) (slabs full : List SlabItem) (large filled : List LargeItem)
    → IsSoundFront front → AreSlabsRead front.header (shapes_of front.header front.caches) slabs → AreLargeRead front.header (shapes_of front.header front.caches) slabs large
    → ArePagesRead (shapes_of front.header front.caches) slabs full large filled → AllPairs IsAuditBelow records.audits → IsLaidOut (core_of_parts front places depots records full filled)
filled_sound front places depots records slabs full large filled sound read large_read pages audits =
    let shapes = shapes_of front.header front.caches in
    let core = core_of_parts front places depots records full filled in
    let many = length_all_zip (IsSlabFilled shapes) slabs full pages.slabs_are in
    let slab_at : (k : ℕ) (d : SlabItem) → k < length full → IsSlabFilled shapes (get_or slabs k d) (get_or full k d) = λ k d lt. AllZip-get_or (IsSlabFilled shapes) slabs full k d d pages.slabs_are (omega (arith, many)) in
    let large_at : (k : ℕ) (d : LargeItem) → k < length filled → IsLargeFilled (get_or large k d) (get_or filled k d) = λ k d lt.
    subst (λ (i : LargeItem). IsLargeFilled i (get_or filled k d)) (get_or_default large k no_large d (omega (arith, pages.as_many))) (pages.large_are k d lt) in
    record {
      caches = sound.caches.sound;
      sized = sound.caches.sized;
      slabs = λ k d lt.
          let one = slab_at k d lt in
          let was = read.read k d (omega (arith, many)) in
          subst (IsSoundSlab core) (sym one.same) (record {
            in_arena = was.in_arena;
            ends = was.ends;
            of_cache = omega (arith, was.of_cache, sound.as_many);
            coloured = was.coloured;
            numbered = was.numbered;
            filled = one.filled;
          });
      large = λ k d lt.
          let one = large_at k d lt in
          let was = large_read.read k d (omega (arith, pages.as_many)) in
          subst (IsSoundLarge core) (sym one.same) (record { in_arena = was.in_arena; ends = was.ends; large = was.large; filled = one.filled });
      slabs_rise = λ i j d lt within.
          let low = ap (slab_end shapes) (slab_at i d (omega arith)).same in
          let high = ap (λ (s : SlabItem). s.base) (slab_at j d within).same in
          rw (low, high) (read.rise i j d lt (omega (arith, many)));
      large_rise = λ i j d lt within.
          let low = ap large_end (large_at i d (omega arith)).same in
          let high = ap (λ (l : LargeItem). l.base) (large_at j d within).same in
          rw (low, high) (large_read.rise i j d lt (omega (arith, pages.as_many)));
      root = sound.segments.root_has;
      own = omega (arith, sound.segments.as_many, sound.few);
      own_words = sound.segments.own_have;
      audits_rise = audits;
      numbers_apart = λ i j d lt within.
          let low = slab_at i d (omega arith) in
          let high = slab_at j d within in
          let was = read.numbers_apart i j d lt (omega (arith, many)) in
          subst (λ (s : SlabItem). AreNumberedApart shapes s (get_or full j d)) (sym low.same) (subst (λ (s : SlabItem). AreNumberedApart shapes (get_or slabs i d) s) (sym high.same) was);
      apart = λ k d lt. λ j f within.
          let one = slab_at k d lt in
          let other = large_at j f within in
          let was = large_read.apart j f (omega (arith, pages.as_many)) k d (omega (arith, many)) in
          subst (λ (s : SlabItem). AreSlabAndLargeApart shapes s (get_or filled j f)) (sym one.same) (subst (λ (l : LargeItem). AreSlabAndLargeApart shapes (get_or slabs k d) l) (sym other.same) was);
    }

pub laid_out : (core : Core) → MeetsTheRules core → IsLaidOut core
laid_out core met =
    let parts = parts_of core met in
    let f : Front = parts.front.0 in
    let m : Middle = parts.middle.0 in
    let shapes = shapes_of f.header f.caches in
    let one = front_sound parts.start parts.front parts.front_read in
    let two = middle_sound f.header shapes parts.front.1 parts.middle parts.middle_read in
    let three = pages_read m.table.shapes m.large m.table.slabs [] [] [] parts.records.1 parts.pages.0.0 parts.pages.0.1 parts.pages.1 tt (λ k d lt. absurd (omega arith)) (omega arith) parts.pages_read in
    let four : ArePagesRead shapes m.table.slabs parts.pages.0.0 m.large parts.pages.0.1 = subst (λ (x : List CacheShape). ArePagesRead x m.table.slabs parts.pages.0.0 m.large parts.pages.0.1) two.shapes_are three in
    let logs = records_parts_of f.header f.second m.table.shapes m.table.slabs parts.middle.1 parts.records parts.records_read in
    let audits = audits_read f.header m.table.shapes m.table.slabs f.header.audits parts.middle.1 logs.audits.0 logs.audits.1 logs.audits_read in
    let rise : AllPairs IsAuditBelow parts.records.0.audits = subst (AllPairs IsAuditBelow) logs.audits_are audits in
    subst IsLaidOut parts.is (filled_sound f m.cpu_places m.depots parts.records.0 m.table.slabs parts.pages.0.0 m.large parts.pages.0.1 one two.slabs two.large four rise)

-- ---- the slab of a chunk

not_both : (shapes : List CacheShape) (chunk : ℕ) (slab other : SlabItem) → AreNumberedApart shapes slab other → holds_chunk shapes chunk slab ≡ true → holds_chunk shapes chunk other ≡ true → ⊥
not_both shapes chunk slab other apart here there = grind (arith, nat_tests)

-- the slab of a chunk is the one that has its number
pub slab_of_chunk-own : (core : Core) (slab : SlabItem) (chunk : ℕ) → IsLaidOut core → Contains core.slabs slab → holds_chunk (core_shapes core) chunk slab ≡ true → slab_of_chunk core chunk ≡ Some slab
slab_of_chunk-own core slab chunk laid has holds =
    let shapes = core_shapes core in
    let here : holds_chunk shapes chunk (get_or core.slabs has.0 slab) ≡ true = subst (λ (s : SlabItem). holds_chunk shapes chunk s ≡ true) (sym has.2) holds in
    find_first (holds_chunk shapes chunk) core.slabs has.0 slab has.1 here
    (λ k less. false_from_ne_true _ (λ other. not_both shapes chunk (get_or core.slabs k slab) (get_or core.slabs has.0 slab) (laid.numbers_apart k has.0 slab less has.1) other here))
    ∙ ap (λ (s : SlabItem). Some s) has.2
