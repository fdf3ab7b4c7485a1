-- A slab more, and slabs less: what a table is beside a state after a grow and after a reap.
use Rattle.std.proofs.Common.{◌≡◌, ◌≢◌, ℕ, ◌+◌, ◌*◌, ◌<◌, inl, inr, Bool, true, false, not, cond, eqb, List, [], ◌∷◌, get_or, length, map, set, refl, sym, ap, ◌∙◌, subst, arith}
use Rattle.std.specs.Prelude.{All, AllPairs, Contains, count_by, filter, is_some, sum_by}
use Rattle.std.specs.List.{range_with_len}
use Rattle.std.specs.List.Sorted.{IsPermutation}
use Rattle.std.proofs.lemmas.Bool.{cases_Bool, cases_eq, eq-eqb, eqb-true, false≢true, ne_eqb, not-true, not_from_false}
use Rattle.std.proofs.lemmas.List.{get_or-set_other, get_or-set_same, length-set}
use Rattle.std.proofs.lemmas.List.Elements.{All-filter, All-map, All-set}
use Rattle.std.proofs.lemmas.List.Sorted.{Contains-permutation, IsPermutation-sym}
use Rattle.std.proofs.lemmas.List.Sums.{sum_by-cons}
use Rattle.umem_base.specs.Ordered.{Gains, put_by}
use Rattle.umem_base.proofs.Lists.{Contains-here, Contains-there}
use Rattle.umem_base.proofs.OrderedLemmas.{All-put_by, Contains-cases, Contains-from_left_out_by, Contains-left_out_by, Contains-nil, Gains-put_by}
use Rattle.case_table.specs.declared.slab_quantities.Geometry.{Geometry}
use Rattle.case_table.specs.Geometry.{colour_of}
use Rattle.heap_ledger.specs.declared.slab_at.SlabAt.{SlabAt}
use Rattle.heap_ledger.specs.Commits.{AreReaped, CanShrink, GoesBefore, after_shrinks}
use Rattle.heap_ledger.proofs.MayCommitLemmas.{shrinks_live, stood}
use Rattle.plain_heap.specs.Setting.{Setting, cache_def_in, geometry_in}
use Rattle.plain_heap.specs.State.{HeapSlab, LiveBuffer, State, after_grow, after_shrink, chunk_start, grows_of, held_at, new_slab, next_chunk}
use Rattle.plain_heap.specs.Legal.{IsUnused}
use Rattle.plain_heap.proofs.PairsLemmas.{Contains-passing, Contains-seen, pair_of}
use Rattle.heap_memory.specs.Chunks.{IsNextSlab}
use Rattle.heap_slabs.specs.declared.cache_slabs.CacheSlabs.{CacheSlabs}
use Rattle.heap_slabs.specs.declared.standing.Standing.{Standing}
use Rattle.heap_slabs.specs.Standing.{AreStanding, is_idle, as_slab_at}
use Rattle.heap_slabs.specs.HeapSlabs.{AreCacheSlabs, IsOfCaches, IsTable, IsTableOf, HeapSlabs, cache_slabs_in, no_slabs, quantities_of, slab_made, slabs_of, standing_in}
use Rattle.heap_slabs.proofs.Lists.{passing_from, seen_from}
use Rattle.heap_slabs.proofs.StandingLemmas.{bases_rise}
use Rattle.heap_slabs.proofs.StateLemmas.{count_of_unused, of_state, of_table, unused_by_count}

-- ---- a slab more

-- the quantities of a cache in a table are those in the setting
pub quantities_are : (setting : Setting) (state : State) (table : HeapSlabs) (cache : ℕ) → IsTableOf setting state table → cache < length table.caches
    → quantities_of (slabs_of table.caches cache) ≡ geometry_in setting cache
quantities_are setting state table cache is lt = ap quantities_of (is.caches cache lt)

-- the slab that is made, as it stands
made_stands : (setting : Setting) (state : State) (table : HeapSlabs) (cache base : ℕ) → IsTableOf setting state table → cache < length table.caches
    → IsUnused setting state (new_slab setting state cache base) → slab_made (slabs_of table.caches cache) cache table.next base ≡ standing_in setting (after_grow setting state cache base) (new_slab setting state cache base)
made_stands setting state table cache base is lt unused =
    ap (λ (its : CacheSlabs). slab_made its cache table.next base) (is.caches cache lt) ∙ ap (λ (n : ℕ). slab_made (cache_slabs_in setting state cache) cache n base) is.next
    ∙ ap (λ (n : ℕ). with_start n 0) (first_start base (colour_of (cache_def_in setting cache).align g.leftover (grows_of state cache)) g.chunk)
    ∙ ap (λ (n : ℕ). with_start (chunk_start setting slab 0) n) (sym (count_of_unused setting state slab unused))
  where
    slab : HeapSlab
    slab = new_slab setting state cache base

    g : Geometry
    g = geometry_in setting cache

    with_start : ℕ → ℕ → Standing
    with_start start live = record { cache = cache; base = base; first = next_chunk setting state; start = start; chunk = g.chunk; rounds = g.rounds; live = live }

    first_start : (b colour chunk : ℕ) → b + colour ≡ b + (colour + 0 * chunk)
    first_start b colour chunk = omega arith

grown_is : (cache : ℕ) (grown : List ℕ) → count_by (λ x. eqb x cache) (cache ∷ grown) ≡ count_by (λ x. eqb x cache) grown + 1
grown_is cache grown =
    let more = sum_by-cons (λ (x : ℕ). cond (eqb x cache) 1 0) cache grown in
    let one : ◌≡◌ {A = ℕ} (cond (eqb cache cache) 1 0) 1 = ap (λ (b : Bool). cond b 1 0) (eq-eqb cache cache refl) in
    omega (arith, more, one)

grown_other : (cache other : ℕ) (grown : List ℕ) → cache ≢ other → count_by (λ x. eqb x other) (cache ∷ grown) ≡ count_by (λ x. eqb x other) grown
grown_other cache other grown ne =
    let more = sum_by-cons (λ (x : ℕ). cond (eqb x other) 1 0) cache grown in
    let none : ◌≡◌ {A = ℕ} (cond (eqb cache other) 1 0) 0 = ap (λ (b : Bool). cond b 1 0) (ne_eqb cache other ne) in
    omega (arith, more, none)

-- the table after a slab was made
pub grown : (setting : Setting) (state : State) (old new : HeapSlabs) (cache base : ℕ) (its : CacheSlabs) → IsTableOf setting state old → cache < length old.caches
    → IsUnused setting state (new_slab setting state cache base) → its ≡ slabs_of old.caches cache → new.caches ≡ set old.caches cache (record its { made = its.made + 1 })
    → new.next ≡ old.next + (slab_made its cache old.next base).rounds → new.slabs ≡ put_by (λ s. s.base) old.slabs (slab_made its cache old.next base)
    → IsTableOf setting (after_grow setting state cache base) new
grown setting state old new cache base its is lt unused which caches numbers listed = record {
  count = ap (λ (cs : List CacheSlabs). length cs) caches ∙ length-set old.caches cache (record its { made = its.made + 1 }) ∙ is.count;
  caches = λ other less.
      let long : other < length old.caches = subst (λ (n : ℕ). other < n) (ap (λ (cs : List CacheSlabs). length cs) caches ∙ length-set old.caches cache (record its { made = its.made + 1 })) less in
      ap (λ (cs : List CacheSlabs). slabs_of cs other) caches ∙ cache_then other long;
  next = numbers ∙ ap (λ (n : ℕ). n + (quantities_of its).rounds) is.next ∙ ap (λ (g : Geometry). next_chunk setting state + g.rounds) (ap quantities_of which ∙ quantities_are setting state old cache is lt) ∙ next_more;
  slabs = λ s. (
    (λ there. elim (gains.only s (subst (λ (xs : List Standing). Contains xs s) listed there)) [
      | inl was ↦ Contains-there new_one s (map (standing_in setting next) state.slabs) ((is.slabs s).0 was)
      | inr same ↦ subst (λ (x : Standing). Contains (new_one ∷ map (standing_in setting next) state.slabs) x) (sym (same ∙ made)) (Contains-here new_one (map (standing_in setting next) state.slabs))
    ]),
    (λ there. subst (λ (xs : List Standing). Contains xs s) (sym listed) (elim (Contains-cases new_one s (map (standing_in setting next) state.slabs) there) [
      | inl same ↦ subst (λ (x : Standing). Contains (put_by (λ s. s.base) old.slabs here) x) (made ∙ same) gains.gained
      | inr was ↦ gains.kept s ((is.slabs s).1 was)
    ])),
  );
}
  where
    next : State
    next = after_grow setting state cache base

    new_one : Standing
    new_one = standing_in setting next (new_slab setting state cache base)

    here : Standing
    here = slab_made its cache old.next base

    gains : Gains old.slabs (put_by (λ s. s.base) old.slabs here) here
    gains = Gains-put_by (λ (s : Standing). s.base) old.slabs here

    made : here ≡ new_one
    made = ap (λ (c : CacheSlabs). slab_made c cache old.next base) which ∙ made_stands setting state old cache base is lt unused

    next_more : next_chunk setting state + (geometry_in setting cache).rounds ≡ next_chunk setting next
    next_more = let more = sum_by-cons (λ (c : ℕ). (geometry_in setting c).rounds) cache state.grown in omega (arith, more)

    made_so : ℕ → ℕ → CacheSlabs
    made_so other n = let c = cache_slabs_in setting state other in record c { made = n }

    cache_then : (other : ℕ) → other < length old.caches → slabs_of (set old.caches cache (record its { made = its.made + 1 })) other ≡ cache_slabs_in setting next other
    cache_then other long = elim (cases_eq other cache) [
      | inl same ↦
          ap (λ (n : ℕ). slabs_of (set old.caches cache (record its { made = its.made + 1 })) n) same ∙ get_or-set_same old.caches cache (record its { made = its.made + 1 }) no_slabs lt
          ∙ ap (λ (c : CacheSlabs). let d : CacheSlabs = record c { made = c.made + 1 } in d) (which ∙ is.caches cache lt)
          ∙ ap (made_so cache) (sym (grown_is cache state.grown)) ∙ ap (λ (n : ℕ). cache_slabs_in setting next n) (sym same)
      | inr ne ↦
          get_or-set_other old.caches cache other (record its { made = its.made + 1 }) no_slabs ne ∙ is.caches other long ∙ ap (made_so other) (sym (grown_other cache other state.grown (λ e. ne (sym e))))
    ]

-- ---- slabs less

grown_left : (state : State) (slabs : List SlabAt) → (after_shrinks state slabs).grown ≡ state.grown
grown_left state [] = refl
grown_left state (slab ∷ slabs) = grown_left (after_shrink state slab.base) slabs

-- and what stood at another base stands
stands_on : (state : State) (slabs : List SlabAt) (slab : HeapSlab) → Contains state.slabs slab → ((one : SlabAt) → Contains slabs one → slab.base ≢ one.base) → Contains (after_shrinks state slabs).slabs slab
stands_on state [] slab there others = there
stands_on state (first ∷ slabs) slab there others =
    stands_on (after_shrink state first.base) slabs slab (Contains-left_out_by (λ (s : HeapSlab). s.base) state.slabs first.base slab there (others first (Contains-here first slabs)))
    (λ one among. others one (Contains-there first one slabs among))

module _ (setting : Setting) (state : State) (old : HeapSlabs) (reaped : List SlabAt) (sound : AreStanding old.slabs) (is : IsTableOf setting state old)
    (those : IsPermutation (map as_slab_at (filter is_idle old.slabs)) reaped) where
  -- each of these is a slab without a live chunk
  unused_there : (one : SlabAt) → Contains reaped one → (s : Standing) × Contains old.slabs s × (is_idle s ≡ true) × (as_slab_at s ≡ one)
  unused_there one among =
      let listed = Contains-permutation reaped (map as_slab_at (filter is_idle old.slabs)) one (IsPermutation-sym (map as_slab_at (filter is_idle old.slabs)) reaped those) among in
      let seen = seen_from as_slab_at (filter is_idle old.slabs) one listed in
      let passed = passing_from is_idle old.slabs seen.0 seen.1 in
      (seen.0, passed.0, passed.1, seen.2)

  -- and each of them is there
  unused_among : (s : Standing) → Contains old.slabs s → is_idle s ≡ true → Contains reaped (as_slab_at s)
  unused_among s there unused =
      Contains-permutation (map as_slab_at (filter is_idle old.slabs)) reaped (as_slab_at s) those (Contains-seen as_slab_at (filter is_idle old.slabs) s (Contains-passing is_idle old.slabs s unused there))

  can_shrink : (one : SlabAt) → Contains reaped one → CanShrink setting state one
  can_shrink one among =
      let s = unused_there one among in
      let h = of_table setting state old is s.0 s.1 in
      let same : as_slab_at (standing_in setting state h.0) ≡ one = ap as_slab_at h.2 ∙ s.3 in
      record {
        standing = h.0;
        stands = h.1;
        its_cache = ap (λ (x : SlabAt). x.cache) same;
        its_base = ap (λ (x : SlabAt). x.base) same;
        unused = unused_by_count setting state h.0 (ap (λ (x : Standing). x.live) h.2 ∙ eqb-true s.0.live 0 s.2);
      }

  shrunk_among : (one : SlabAt) → CanShrink setting state one → Contains reaped one
  shrunk_among one can =
      let s = standing_in setting state can.standing in
      let unused : is_idle s ≡ true = eq-eqb s.live 0 (count_of_unused setting state can.standing can.unused) in
      let same : as_slab_at s ≡ one = ap (λ (c : ℕ). at_base c s.base) can.its_cache ∙ ap (λ (b : ℕ). at_base one.cache b) can.its_base in
      subst (Contains reaped) same (unused_among s (of_state setting state old is can.standing can.stands) unused)
    where
      at_base : ℕ → ℕ → SlabAt
      at_base c b = record { cache = c; base = b }

  pub are_reaped : AllPairs GoesBefore reaped → AreReaped setting state reaped
  are_reaped in_order = record { exactly = λ one. (can_shrink one, shrunk_among one); in_order = in_order }

  abbrev next : State
  next = after_shrinks state reaped

  -- a slab as it stands with these live buffers
  abbrev stands_by : List LiveBuffer → HeapSlab → Standing
  stands_by live h =
      let g = geometry_in setting h.cache in
      record {
        cache = h.cache;
        base = h.base;
        first = h.first;
        start = chunk_start setting h 0;
        chunk = g.chunk;
        rounds = g.rounds;
        live = count_by (λ index. is_some (held_at live (chunk_start setting h index))) (range_with_len 0 g.rounds);
      }

  still : (h : HeapSlab) → standing_in setting next h ≡ standing_in setting state h
  still h = ap (λ (live : List LiveBuffer). stands_by live h) (shrinks_live state reaped)

  to : (s : Standing) → Contains (filter (λ slab. not (is_idle slab)) old.slabs) s → Contains (map (standing_in setting next) next.slabs) s
  to s there =
      let passed = passing_from (λ (slab : Standing). not (is_idle slab)) old.slabs s there in
      let h = of_table setting state old is s passed.0 in
      let stays : Contains next.slabs h.0 = stands_on state reaped h.0 h.1 (λ one among e. not_both s passed.0 (not-true (is_idle s) passed.1) one among (sym (ap (λ (x : Standing). x.base) h.2) ∙ e)) in
      subst (Contains (map (standing_in setting next) next.slabs)) (still h.0 ∙ h.2) (Contains-seen (standing_in setting next) next.slabs h.0 stays)
    where
      not_both : (s : Standing) → Contains old.slabs s → is_idle s ≡ false → (one : SlabAt) → Contains reaped one → s.base ≢ one.base
      not_both s there used one among e =
          let t = unused_there one among in
          let base : s.base ≡ t.0.base = e ∙ sym (ap (λ (x : SlabAt). x.base) t.3) in
          elim (pair_of (λ (a b : Standing). a.base < b.base) old.slabs s t.0 (bases_rise old.slabs sound) there t.1) [
            | inl same ↦ false≢true (sym used ∙ ap is_idle same ∙ t.2)
            | inr (inl less) ↦ omega (arith, less, base)
            | inr (inr more) ↦ omega (arith, more, base)
          ]

  from : (s : Standing) → Contains (map (standing_in setting next) next.slabs) s → Contains (filter (λ slab. not (is_idle slab)) old.slabs) s
  from s there =
      let seen = seen_from (standing_in setting next) next.slabs s there in
      let h = seen.0 in
      let before = stood state reaped h seen.1 in
      let same : standing_in setting state h ≡ s = sym (still h) ∙ seen.2 in
      let stands : Contains old.slabs s = subst (Contains old.slabs) same (of_state setting state old is h before.0) in
      elim (cases_Bool (is_idle s)) [
        | inl unused ↦ absurd (before.1 (as_slab_at s) (unused_among s stands unused) (ap (λ (x : Standing). x.base) same))
        | inr used ↦ Contains-passing (λ (slab : Standing). not (is_idle slab)) old.slabs s (not_from_false (is_idle s) used) stands
      ]

  pub shrunk : (new : HeapSlabs) → new.caches ≡ old.caches → new.next ≡ old.next → new.slabs ≡ filter (λ slab. not (is_idle slab)) old.slabs → IsTableOf setting next new
  shrunk new caches numbers listed = record {
    count = ap (λ (cs : List CacheSlabs). length cs) caches ∙ is.count;
    caches = λ cache lt.
        ap (λ (cs : List CacheSlabs). slabs_of cs cache) caches ∙ is.caches cache (subst (λ (cs : List CacheSlabs). cache < length cs) caches lt)
        ∙ ap (λ (g : List ℕ). made_so cache (count_by (λ x. eqb x cache) g)) (sym (grown_left state reaped));
    next = numbers ∙ is.next ∙ ap (λ (g : List ℕ). sum_by (λ cache. (geometry_in setting cache).rounds) g) (sym (grown_left state reaped));
    slabs = λ s. (λ there. to s (subst (λ (xs : List Standing). Contains xs s) listed there), λ there. subst (λ (xs : List Standing). Contains xs s) (sym listed) (from s there));
  }
    where
      made_so : ℕ → ℕ → CacheSlabs
      made_so cache n = let c = cache_slabs_in setting state cache in record c { made = n }

-- ---- what a table keeps

pub each_kept : (f : Standing → Standing) (kept : (s : Standing) → (n : ℕ) × (f s ≡ (record s { live = n }))) (caches next : ℕ) (slabs : List Standing) → All (IsOfCaches caches next) slabs → All (IsOfCaches caches next) (map f slabs)
each_kept f kept caches next slabs all = All-map (IsOfCaches caches next) f slabs (λ k d lt.
    let s = get_or slabs k d in
    let was = all k d lt in
    let now : IsOfCaches caches next (record s { live = (kept s).0 }) = record { cache = was.cache; below = was.below } in
    subst (IsOfCaches caches next) (sym (kept s).1) now)

-- the slab that a cache makes next
pub next_is : (setting : Setting) (state : State) (table : HeapSlabs) (cache : ℕ) (its : CacheSlabs) → IsTableOf setting state table → cache < length table.caches → its ≡ slabs_of table.caches cache
    → IsNextSlab (record { kind = its.kind; align = its.align; made = its.made; first = table.next }) setting state
next_is setting state table cache its is lt which =
    let here : IsNextSlab (record { kind = (cache_slabs_in setting state cache).kind; align = (cache_slabs_in setting state cache).align; made = (cache_slabs_in setting state cache).made; first = table.next }) setting state =
    record { kind = refl; align = refl; made = refl; first = is.next } in
    subst (λ (x : CacheSlabs). IsNextSlab (record { kind = x.kind; align = x.align; made = x.made; first = table.next }) setting state) (sym (which ∙ is.caches cache lt)) here

-- the table after a slab was made is one
pub table_more : (old new : HeapSlabs) (cache base : ℕ) (its : CacheSlabs) → IsTable old → cache < length old.caches → its ≡ slabs_of old.caches cache → new.caches ≡ set old.caches cache (record its { made = its.made + 1 })
    → new.next ≡ old.next + (slab_made its cache old.next base).rounds → 0 < (slab_made its cache old.next base).rounds → new.slabs ≡ put_by (λ s. s.base) old.slabs (slab_made its cache old.next base) → AreStanding new.slabs → IsTable new
table_more old new cache base its is lt which caches numbers some listed sound = record {
  caches = subst (All (AreCacheSlabs new.next)) (sym caches) (All-set (AreCacheSlabs new.next) old.caches cache (record its { made = its.made + 1 }) one_made (λ k d less.
      let was = is.caches k d less in record { kind = was.kind; align = was.align; made = omega (arith, was.made, numbers) }));
  slabs = sound;
  each = subst (λ (n : ℕ). All (IsOfCaches n new.next) new.slabs) (sym long) (subst (All (IsOfCaches (length old.caches) new.next)) (sym listed)
      (All-put_by (IsOfCaches (length old.caches) new.next) (λ (s : Standing). s.base) old.slabs (slab_made its cache old.next base) (record { cache = lt; below = omega (arith, numbers) }) (λ k d less.
      let was = is.each k d less in record { cache = was.cache; below = omega (arith, was.below, numbers) })));
}
  where
    long : length new.caches ≡ length old.caches
    long = ap (λ (cs : List CacheSlabs). length cs) caches ∙ length-set old.caches cache (record its { made = its.made + 1 })

    here : AreCacheSlabs old.next its
    here = subst (AreCacheSlabs old.next) (sym which) (is.caches cache no_slabs lt)

    one_made : AreCacheSlabs new.next (record its { made = its.made + 1 })
    one_made = record { kind = here.kind; align = here.align; made = omega (arith, here.made, numbers, some) }

-- and so is the table after slabs were dropped
pub table_less : (old new : HeapSlabs) (keep : Standing → Bool) → IsTable old → new.caches ≡ old.caches → new.next ≡ old.next → new.slabs ≡ filter keep old.slabs → AreStanding new.slabs → IsTable new
table_less old new keep is caches numbers listed sound = record {
  caches = subst (λ (n : ℕ). All (AreCacheSlabs n) new.caches) (sym numbers) (subst (All (AreCacheSlabs old.next)) (sym caches) is.caches);
  slabs = sound;
  each = subst (λ (n : ℕ). All (IsOfCaches (length new.caches) n) new.slabs) (sym numbers) (subst (λ (cs : List CacheSlabs). All (IsOfCaches (length cs) old.next) new.slabs) (sym caches)
      (subst (All (IsOfCaches (length old.caches) old.next)) (sym listed) (All-filter keep (IsOfCaches (length old.caches) old.next) old.slabs is.each)));
}
