-- A table beside a state of which it is: what is looked up, and what steps leave.
use Rattle.std.proofs.Common.{◌≡◌, ◌≢◌, ℕ, ◌+◌, ◌-◌, ◌*◌, ◌/◌, ◌<◌, inl, inr, Bool, true, false, cond, eqb, List, [], ◌∷◌, get_or, length, map, Option, Some, None, refl, sym, ap, ◌∙◌, subst, arith}
use Rattle.std.specs.Prelude.{◌&&◌, All, Contains, count_by, is_some, option_map, sum_by}
use Rattle.std.specs.List.{range_with_len}
use Rattle.std.specs.Option.{option_map_or}
use Rattle.std.proofs.lemmas.Bool.{cases_Bool, cases_lt, cases_order, eq-eqb, false_from_ne_true, lt-ltb, ne_eqb, true≢false}
use Rattle.std.proofs.lemmas.List.{get_or_default, get_or_past}
use Rattle.std.proofs.lemmas.List.Elements.{All-contains}
use Rattle.std.proofs.lemmas.Simd.{map-map}
use Rattle.std.proofs.Math.Nat.{mul-lt-mul_of_pos_right}
use Rattle.umem_base.specs.Ordered.{left_out_by}
use Rattle.case_table.specs.declared.cache_def.CacheDef.{CacheDef}
use Rattle.case_table.specs.CacheDef.{IsCacheDef, class_def}
use Rattle.case_table.specs.Geometry.{IsSlabGeometry, KeepsChunksApart, colour_of}
use Rattle.case_table.proofs.GeometryLemmas.{chunks_stand, geometry_is_sound}
use Rattle.script.specs.Rules.{IsHeader}
use Rattle.heap_ledger.specs.declared.slab_at.SlabAt.{SlabAt}
use Rattle.plain_heap.specs.declared.held.Held.{Held}
use Rattle.plain_heap.specs.Bytes.{is_within}
use Rattle.plain_heap.specs.Setting.{Setting, cache_def_in, geometry_in}
use Rattle.plain_heap.specs.State.{HeapSlab, LiveBuffer, State, begins_chunk, chunk_number, chunk_start, give_back, hand_out, held_at, is_live, slab_with_chunk, start_state}
use Rattle.plain_heap.specs.Legal.{IsUnused}
use Rattle.plain_heap.proofs.EntryLemmas.{held_first}
use Rattle.plain_heap.proofs.LiveLemmas.{held_without}
use Rattle.plain_heap.proofs.PairsLemmas.{Contains-seen}
use Rattle.plain_heap.proofs.SettingLemmas.{cache_has_shape, def_of-class, def_of-declared}
use Rattle.heap_memory.specs.declared.chunk.Chunk.{Chunk}
use Rattle.heap_memory.specs.Chunks.{IsKind, kind_in}
use Rattle.heap_memory.specs.Laws.{chunk_of_slab}
use Rattle.heap_slabs.specs.declared.cache_slabs.CacheSlabs.{CacheSlabs}
use Rattle.heap_slabs.specs.declared.placed.Placed.{Placed}
use Rattle.heap_slabs.specs.declared.standing.Standing.{Standing}
use Rattle.heap_slabs.specs.Chunks.{HasNoChunk, IsNumberedAs, placed_at}
use Rattle.heap_slabs.specs.Standing.{AreStanding, BeginsAt, HasNumber, HasNumberAt, IsStanding, has_start, one_live_more, as_slab_at, with_given, with_taken}
use Rattle.heap_slabs.specs.HeapSlabs.{AreCacheSlabs, AreFirst, AreStandingIn, IsTableOf, HeapSlabs, cache_slabs_in, live_chunks, no_slabs, slabs_of, standing_in}
use Rattle.heap_slabs.proofs.Lists.{find_none, find_some, map_alike, seen_alike, seen_from, tally-alike, tally-fewer, tally-more, tally-none, tally-one}
use Rattle.heap_slabs.proofs.StandingLemmas.{begins-index, begins-true, begins_alone, index_told}

-- ---- the quantities of any cache

any_shape : (setting : Setting) (cache : ℕ) → IsHeader setting.header → IsCacheDef (cache_def_in setting cache)
any_shape setting cache header =
    let caches = setting.header.caches in
    elim (cases_lt cache (32 + length caches)) [
      | inl is ↦ cache_has_shape setting cache header is
      | inr past ↦
          let none : get_or caches (cache - 32) (class_def 0) ≡ class_def 0 = get_or_past caches (cache - 32) (class_def 0) (omega arith) in
          let zeroth = subst IsCacheDef (def_of-class caches 0 (omega arith)) (cache_has_shape setting 0 header (omega arith)) in
          subst IsCacheDef (sym (def_of-declared caches cache (omega arith) ∙ none)) zeroth
    ]

pub any_geometry : (setting : Setting) (cache : ℕ) → IsHeader setting.header
    → IsSlabGeometry (cache_def_in setting cache).size (cache_def_in setting cache).align setting.guards (geometry_in setting cache)
any_geometry setting cache header =
    let def = cache_def_in setting cache in geometry_is_sound def.size def.align setting.guards (any_shape setting cache header)

pub any_chunks : (setting : Setting) (cache made : ℕ) → IsHeader setting.header → KeepsChunksApart (cache_def_in setting cache).align made (geometry_in setting cache)
any_chunks setting cache made header =
    let def = cache_def_in setting cache in chunks_stand def.size def.align setting.guards made (any_shape setting cache header)

-- the first caches of a setting are sound
pub first_sound : (setting : Setting) (caches : List CacheSlabs) → IsHeader setting.header → AreFirst setting caches → All (AreCacheSlabs 0) caches
first_sound setting caches header first k d lt =
    let shape = any_shape setting k header in
    let kind : IsKind (kind_in setting k) = record { some = shape.some; small = shape.fits; class = λ less. ap (λ (def : CacheDef). def.size) (def_of-class setting.header.caches k less) } in
    let here : AreCacheSlabs 0 (cache_slabs_in setting start_state k) = record { kind = kind; align = shape.aligned; made = omega arith } in
    subst (AreCacheSlabs 0) (sym (get_or_default caches k d no_slabs lt ∙ first k lt)) here

pub chunk_some : (setting : Setting) (cache : ℕ) → IsHeader setting.header → 0 < (geometry_in setting cache).chunk
chunk_some setting cache header = let some = (any_geometry setting cache header).chunk_some in omega (arith, some)

pub rounds_some : (setting : Setting) (cache : ℕ) → IsHeader setting.header → 0 < (geometry_in setting cache).rounds
rounds_some setting cache header = let some = (any_geometry setting cache header).rounds_many in omega (arith, some)

-- ---- chunks of a slab

-- the chunks of a slab follow one another
along : (base colour index chunk : ℕ) → (base + (colour + 0 * chunk)) + index * chunk ≡ base + (colour + index * chunk)
along base colour index chunk = omega arith

pub start_along : (setting : Setting) (slab : HeapSlab) (index : ℕ) → chunk_start setting slab 0 + index * (geometry_in setting slab.cache).chunk ≡ chunk_start setting slab index
start_along setting slab index =
    let g = geometry_in setting slab.cache in along slab.base (colour_of (cache_def_in setting slab.cache).align g.leftover slab.made) index g.chunk

-- two chunks of a slab do not begin at one address
pub starts_differ : (setting : Setting) (slab : HeapSlab) (one other : ℕ) → IsHeader setting.header → one ≢ other → chunk_start setting slab one ≢ chunk_start setting slab other
starts_differ setting slab one other header ne e =
    let g = geometry_in setting slab.cache in
    let some = chunk_some setting slab.cache header in
    let colour = colour_of (cache_def_in setting slab.cache).align g.leftover slab.made in
    let same : one * g.chunk ≡ other * g.chunk = omega (arith, e) in
    elim (cases_order one other) [
      | inl is ↦ ne is
      | inr (inl less) ↦ let lt : one * g.chunk < other * g.chunk = mul-lt-mul_of_pos_right less some in omega arith
      | inr (inr more) ↦ let lt : other * g.chunk < one * g.chunk = mul-lt-mul_of_pos_right more some in omega arith
    ]

-- a chunk begins at an address of the slab, as it stands in a table
begins_either : (setting : Setting) (slab : HeapSlab) (address index : ℕ) (b : Bool)
    → (b && eqb (chunk_start setting slab 0 + index * (geometry_in setting slab.cache).chunk) address)
    ≡ option_map_or (λ i. eqb (chunk_start setting slab i) address) (cond b (Some index) None) false
begins_either setting slab address index true = ap (λ n. eqb n address) (start_along setting slab index)
begins_either setting slab address index false = refl

pub begins_is : (setting : Setting) (state : State) (slab : HeapSlab) (address : ℕ) → has_start address (standing_in setting state slab) ≡ begins_chunk setting slab address
begins_is setting state slab address =
    let g = geometry_in setting slab.cache in
    begins_either setting slab address ((address - chunk_start setting slab 0) / g.chunk) (is_within (chunk_start setting slab 0) (g.rounds * g.chunk) address)

-- the chunk of an index begins at the address
pub begins_by_place : (setting : Setting) (state : State) (slab : HeapSlab) (index : ℕ) → index < (geometry_in setting slab.cache).rounds → BeginsAt (chunk_start setting slab index) index (standing_in setting state slab)
begins_by_place setting state slab index less = (less, sym (start_along setting slab index))

-- ---- slabs of both

module _ (setting : Setting) (state : State) (table : HeapSlabs) (is : IsTableOf setting state table) where
  pub of_state : (slab : HeapSlab) → Contains state.slabs slab → Contains table.slabs (standing_in setting state slab)
  of_state slab stands = (is.slabs (standing_in setting state slab)).1 (Contains-seen (standing_in setting state) state.slabs slab stands)

  pub of_table : (slab : Standing) → Contains table.slabs slab → (h : HeapSlab) × Contains state.slabs h × (standing_in setting state h ≡ slab)
  of_table slab stands = seen_from (standing_in setting state) state.slabs slab ((is.slabs slab).0 stands)

  pub those_told : AreStandingIn state (map as_slab_at table.slabs)
  those_told one =
      let standing = standing_in setting state in
      let same = map-map as_slab_at standing state.slabs in (
        (λ there. subst (λ (xs : List SlabAt). Contains xs one) same (seen_alike as_slab_at table.slabs (map standing state.slabs) one (λ x. (is.slabs x).0) there)),
        (λ there. seen_alike as_slab_at (map standing state.slabs) table.slabs one (λ x. (is.slabs x).1) (subst (λ (xs : List SlabAt). Contains xs one) (sym same) there)),
      )

  -- ---- look-ups

  pub none_placed : (address : ℕ) → All (λ slab. has_start address slab ≡ false) table.slabs → None ≡ placed_at setting state address
  none_placed address none =
      let missing : slab_with_chunk setting state.slabs address ≡ None = find_none (λ (h : HeapSlab). begins_chunk setting h address) state.slabs (λ h stands.
      sym (begins_is setting state h address) ∙ All-contains (λ (s : Standing). has_start address s ≡ false) table.slabs (standing_in setting state h) none (of_state h stands)) in
      sym (ap (λ (found : Option HeapSlab). option_map (λ (h : HeapSlab). placed_in h) found) missing)
    where
      placed_in : HeapSlab → Placed
      placed_in h = record { chunk = record { address = address; number = chunk_number setting h address }; cache = h.cache }

  pub found_placed : (address index : ℕ) (slab : Standing) → IsHeader setting.header → AreStanding table.slabs → Contains table.slabs slab → BeginsAt address index slab
      → Some (record { chunk = record { address = address; number = slab.first + index }; cache = slab.cache }) ≡ placed_at setting state address
  found_placed address index slab header sound there at =
      let some = (All-contains IsStanding table.slabs slab sound.each there).chunk in
      let h = of_table slab there in
      let mine : has_start address slab ≡ true = begins-true address index slab some at in
      let passes : begins_chunk setting h.0 address ≡ true = sym (begins_is setting state h.0 address) ∙ ap (has_start address) h.2 ∙ mine in
      let found = find_some (λ (g : HeapSlab). begins_chunk setting g address) state.slabs h.0 h.1 passes in
      let same : standing_in setting state found.0 ≡ slab =
      begins_alone table.slabs address (standing_in setting state found.0) slab sound (of_state found.0 found.2) there (begins_is setting state found.0 address ∙ found.3) mine in
      sym (ap (λ (o : Option HeapSlab). option_map placed_in o) found.1 ∙ ap (λ (x : Standing). Some (placed_of x)) same ∙ ap (λ (n : ℕ). Some (numbered_as n)) (index_told address index slab some at))
    where
      placed_in : HeapSlab → Placed
      placed_in h = record { chunk = record { address = address; number = chunk_number setting h address }; cache = h.cache }

      placed_of : Standing → Placed
      placed_of x = record { chunk = record { address = address; number = x.first + (address - x.start) / x.chunk }; cache = x.cache }

      numbered_as : ℕ → Placed
      numbered_as n = record { chunk = record { address = address; number = slab.first + n }; cache = slab.cache }

  numbered_here : (h : HeapSlab) (number address index : ℕ) → Contains state.slabs h → HasNumberAt number index (standing_in setting state h) → BeginsAt address index (standing_in setting state h)
      → IsNumberedAs number (record { chunk = record { address = address; number = number }; cache = h.cache }) setting state
  numbered_here h number address index stands numbered at =
      (record { slab = h; stands = stands; index = index; within = numbered.0; chunk = placed; cache = refl }, refl)
    where
      placed : record { address = address; number = number } ≡ chunk_of_slab setting h index
      placed = ap (λ (a : ℕ). chunk_at_and a number) (at.1 ∙ start_along setting h index) ∙ ap (λ (n : ℕ). chunk_at_and (chunk_start setting h index) n) numbered.1
        where
          chunk_at_and : ℕ → ℕ → Chunk
          chunk_at_and a n = record { address = a; number = n }

  pub found_numbered : (number address index : ℕ) (slab : Standing) → Contains table.slabs slab → HasNumberAt number index slab → BeginsAt address index slab
      → IsNumberedAs number (record { chunk = record { address = address; number = number }; cache = slab.cache }) setting state
  found_numbered number address index slab there numbered at =
      let h = of_table slab there in
      subst (λ (x : Standing). IsNumberedAs number (record { chunk = record { address = address; number = number }; cache = x.cache }) setting state) h.2
      (numbered_here h.0 number address index h.1 (subst (λ (x : Standing). HasNumberAt number index x) (sym h.2) numbered) (subst (λ (x : Standing). BeginsAt address index x) (sym h.2) at))

  pub none_numbered : (number : ℕ) → All (λ slab. ¬ HasNumber number slab) table.slabs → HasNoChunk number setting state
  none_numbered number none placed is_placed same =
      let told : number ≡ is_placed.slab.first + is_placed.index = sym same ∙ ap (λ (c : Chunk). c.number) is_placed.chunk in
      let within = is_placed.within in
      All-contains (λ (s : Standing). ¬ HasNumber number s) table.slabs (standing_in setting state is_placed.slab) none (of_state is_placed.slab is_placed.stands)
      (omega (arith, told), omega (arith, told, within))

-- ---- what lives

pub live_first : (buffer : LiveBuffer) (live : List LiveBuffer) (address : ℕ) → is_some (held_at (buffer ∷ live) address) ≡ cond (eqb buffer.address address) true (is_some (held_at live address))
live_first buffer live address = ap (λ (o : Option Held). is_some o) (held_first buffer live address) ∙ either (eqb buffer.address address)
  where
    either : (b : Bool) → is_some (cond b (Some buffer.held) (held_at live address)) ≡ cond b true (is_some (held_at live address))
    either true = refl
    either false = refl

pub live_without : (live : List LiveBuffer) (freed address : ℕ) → is_some (held_at (left_out_by (λ (b : LiveBuffer). b.address) live freed) address) ≡ cond (eqb freed address) false (is_some (held_at live address))
live_without live freed address = ap (λ (o : Option Held). is_some o) (held_without live freed address) ∙ either (eqb freed address)
  where
    either : (b : Bool) → is_some (cond b None (held_at live address)) ≡ cond b false (is_some (held_at live address))
    either true = refl
    either false = refl

-- nothing is held where nothing lives
pub none_held : (held : Option Held) → is_some held ≡ false → held ≡ None
none_held None e = refl
none_held (Some held) e = absurd (true≢false e)

pub none_lives : (held : Option Held) → held ≡ None → is_some held ≡ false
none_lives held e = ap (λ (o : Option Held). is_some o) e

-- ---- a table after a step

-- where a step leaves slabs and grows, and changes each slab as it stands by a function
pub stepped : (setting : Setting) (state next : State) (old new : HeapSlabs) (f : Standing → Standing) → IsTableOf setting state old → next.slabs ≡ state.slabs → next.grown ≡ state.grown
    → new.caches ≡ old.caches → new.next ≡ old.next → new.slabs ≡ map f old.slabs → ((h : HeapSlab) → Contains state.slabs h → standing_in setting next h ≡ f (standing_in setting state h)) → IsTableOf setting next new
stepped setting state next old new f is slabs grown caches numbers listed each = record {
  count = ap (λ (cs : List CacheSlabs). length cs) caches ∙ is.count;
  caches = λ cache lt.
      ap (λ (cs : List CacheSlabs). slabs_of cs cache) caches ∙ is.caches cache (subst (λ (cs : List CacheSlabs). cache < length cs) caches lt)
      ∙ ap (λ (g : List ℕ). cache_with (count_by (λ x. eqb x cache) g) cache) (sym grown);
  next = numbers ∙ is.next ∙ ap (λ (g : List ℕ). sum_by (λ cache. (geometry_in setting cache).rounds) g) (sym grown);
  slabs = λ s.
      let seen : map (standing_in setting next) next.slabs ≡ map f (map (standing_in setting state) state.slabs) =
      ap (λ (hs : List HeapSlab). map (standing_in setting next) hs) slabs ∙ map_alike (standing_in setting next) (λ h. f (standing_in setting state h)) state.slabs each ∙ sym (map-map f (standing_in setting state) state.slabs) in (
        λ there. subst (λ (xs : List Standing). Contains xs s) (sym seen) (seen_alike f old.slabs (map (standing_in setting state) state.slabs) s (λ x. (is.slabs x).0) (subst (λ (xs : List Standing). Contains xs s) listed there)),
        λ there. subst (λ (xs : List Standing). Contains xs s) (sym listed) (seen_alike f (map (standing_in setting state) state.slabs) old.slabs s (λ x. (is.slabs x).1) (subst (λ (xs : List Standing). Contains xs s) seen there)),
      );
}
  where
    cache_with : ℕ → ℕ → CacheSlabs
    cache_with made cache = record { kind = kind_in setting cache; align = (cache_def_in setting cache).align; made = made }

-- the table stays where no chunk comes to live and none ceases to
pub stays : (setting : Setting) (state next : State) (table : HeapSlabs) → IsTableOf setting state table → next.slabs ≡ state.slabs → next.grown ≡ state.grown
    → ((h : HeapSlab) (index : ℕ) → Contains state.slabs h → index < (geometry_in setting h.cache).rounds → is_live next (chunk_start setting h index) ≡ is_live state (chunk_start setting h index)) → IsTableOf setting next table
stays setting state next table is slabs grown same =
    stepped setting state next table table (λ s. s) is slabs grown refl refl (sym (map_same table.slabs)) (λ h stands.
    ap (λ (n : ℕ). counted h n) (tally-alike (λ i. is_live next (chunk_start setting h i)) (λ i. is_live state (chunk_start setting h i)) 0 (geometry_in setting h.cache).rounds (λ i low high. same h i stands (omega (arith, high)))))
  where
    counted : HeapSlab → ℕ → Standing
    counted h n = let s = standing_in setting state h in record s { live = n }

    map_same : (xs : List Standing) → map (λ s. s) xs ≡ xs
    map_same [] = refl
    map_same (x ∷ xs) = ap (λ (ys : List Standing). x ∷ ys) (map_same xs)

-- ---- a buffer that comes, and one that goes

-- the chunk of a slab that begins at an address, if one does
which : (setting : Setting) (state : State) (h : HeapSlab) (address : ℕ) → IsHeader setting.header → has_start address (standing_in setting state h) ≡ true
    → (index : ℕ) × (index < (geometry_in setting h.cache).rounds) × (address ≡ chunk_start setting h index)
which setting state h address header is =
    let at = begins-index address (standing_in setting state h) (chunk_some setting h.cache header) is in (at.0, at.1.0, at.1.1 ∙ start_along setting h at.0)

elsewhere : (setting : Setting) (state : State) (h : HeapSlab) (address index : ℕ) → IsHeader setting.header → has_start address (standing_in setting state h) ≡ false → index < (geometry_in setting h.cache).rounds
    → eqb address (chunk_start setting h index) ≡ false
elsewhere setting state h address index header isnt lt = ne_eqb address (chunk_start setting h index) (λ e.
    true≢false (sym (begins-true address index (standing_in setting state h) (chunk_some setting h.cache header) (lt, e ∙ sym (start_along setting h index))) ∙ isnt))

pub taken_stands : (setting : Setting) (state : State) (address : ℕ) (held : Held) (zeroed : Bool) (h : HeapSlab) → IsHeader setting.header → held_at state.live address ≡ None
    → standing_in setting (hand_out setting state address held zeroed) h ≡ with_taken address (standing_in setting state h)
taken_stands setting state address held zeroed h header free = elim (cases_Bool (has_start address s)) [
  | inl is ↦
      let at = which setting state h address header is in
      let off : p at.0 ≡ false = ap (is_live state) (sym at.2) ∙ none_lives (held_at state.live address) free in
      let on : q at.0 ≡ true = told at.0 ∙ ap (λ (b : Bool). cond b true (p at.0)) (eq-eqb address (chunk_start setting h at.0) at.2) in
      let more = tally-more p q 0 rounds at.0 (omega arith) (omega (arith, at.1)) off on (λ i ne.
      sym (told i ∙ ap (λ (b : Bool). cond b true (p i)) (ne_eqb address (chunk_start setting h i) (λ e. starts_differ setting h i at.0 header ne (sym e ∙ at.2))))) in
      let fewer = tally-fewer p 0 rounds at.0 (omega arith) (omega (arith, at.1)) off in
      ap counted more ∙ sym (ap (λ (b : Bool). cond b (one_live_more s) s) is ∙ ap (λ (b : Bool). cond b (counted (s.live + 1)) s) (lt-ltb s.live s.rounds fewer))
  | inr isnt ↦
      let alike = tally-alike q p 0 rounds (λ i low high. told i ∙ ap (λ (b : Bool). cond b true (p i)) (elsewhere setting state h address i header isnt (omega (arith, high)))) in
      ap counted alike ∙ sym (ap (λ (b : Bool). cond b (one_live_more s) s) isnt)
]
  where
    s : Standing
    s = standing_in setting state h

    rounds : ℕ
    rounds = (geometry_in setting h.cache).rounds

    p : ℕ → Bool
    p i = is_live state (chunk_start setting h i)

    q : ℕ → Bool
    q i = is_live (hand_out setting state address held zeroed) (chunk_start setting h i)

    counted : ℕ → Standing
    counted n = record s { live = n }

    told : (i : ℕ) → q i ≡ cond (eqb address (chunk_start setting h i)) true (p i)
    told i = live_first (record { address = address; held = held }) state.live (chunk_start setting h i)

pub given_stands : (setting : Setting) (state : State) (address : ℕ) (h : HeapSlab) → IsHeader setting.header → is_live state address ≡ true
    → standing_in setting (give_back setting state address) h ≡ with_given address (standing_in setting state h)
given_stands setting state address h header lives = elim (cases_Bool (has_start address s)) [
  | inl is ↦
      let at = which setting state h address header is in
      let on : p at.0 ≡ true = ap (is_live state) (sym at.2) ∙ lives in
      let off : q at.0 ≡ false = told at.0 ∙ ap (λ (b : Bool). cond b false (p at.0)) (eq-eqb address (chunk_start setting h at.0) at.2) in
      let more = tally-more q p 0 rounds at.0 (omega arith) (omega (arith, at.1)) off on (λ i ne.
      told i ∙ ap (λ (b : Bool). cond b false (p i)) (ne_eqb address (chunk_start setting h i) (λ e. starts_differ setting h i at.0 header ne (sym e ∙ at.2)))) in
      let less : count_by q (range_with_len 0 rounds) ≡ s.live - 1 = omega (arith, more) in
      ap counted less ∙ sym (ap (λ (b : Bool). cond b (counted (s.live - 1)) s) is)
  | inr isnt ↦
      let alike = tally-alike q p 0 rounds (λ i low high. told i ∙ ap (λ (b : Bool). cond b false (p i)) (elsewhere setting state h address i header isnt (omega (arith, high)))) in
      ap counted alike ∙ sym (ap (λ (b : Bool). cond b (counted (s.live - 1)) s) isnt)
]
  where
    s : Standing
    s = standing_in setting state h

    rounds : ℕ
    rounds = (geometry_in setting h.cache).rounds

    p : ℕ → Bool
    p i = is_live state (chunk_start setting h i)

    q : ℕ → Bool
    q i = is_live (give_back setting state address) (chunk_start setting h i)

    counted : ℕ → Standing
    counted n = record s { live = n }

    told : (i : ℕ) → q i ≡ cond (eqb address (chunk_start setting h i)) false (p i)
    told i = live_without state.live address (chunk_start setting h i)

-- ---- counts

pub unused_by_count : (setting : Setting) (state : State) (slab : HeapSlab) → live_chunks setting state slab ≡ 0 → IsUnused setting state slab
unused_by_count setting state slab none address chunk =
    let p : ℕ → Bool = λ i. is_live state (chunk_start setting slab i) in
    let isnt : p chunk.index ≡ false = false_from_ne_true (p chunk.index) (λ is. omega (arith, tally-one p 0 (geometry_in setting slab.cache).rounds chunk.index (omega arith) (omega (arith, chunk.within)) is, none)) in
    ap (held_at state.live) chunk.there ∙ none_held (held_at state.live (chunk_start setting slab chunk.index)) isnt

pub count_of_unused : (setting : Setting) (state : State) (slab : HeapSlab) → IsUnused setting state slab → live_chunks setting state slab ≡ 0
count_of_unused setting state slab unused =
    tally-none (λ i. is_live state (chunk_start setting slab i)) 0 (geometry_in setting slab.cache).rounds (λ i low high.
    none_lives (held_at state.live (chunk_start setting slab i)) (unused (chunk_start setting slab i) (record { index = i; within = omega (arith, high); there = refl })))
