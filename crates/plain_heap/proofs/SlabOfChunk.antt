-- The slab of a chunk: which one an address is looked up in, and that it is one.
use Rattle.std.proofs.Common.{◌≡◌, ℕ, ◌+◌, ◌-◌, ◌*◌, ◌/◌, ◌<◌, ◌≤◌, inl, inr, Bool, true, false, ◌&&◌, cond, eqb, leb, ltb, List, [], ◌∷◌, Option, Some, None, refl, sym, ◌∙◌, ap, subst, arith}
use Rattle.std.specs.Prelude.{Contains, find}
use Rattle.std.specs.Option.{option_map_or}
use Rattle.std.proofs.lemmas.Bool.{and_parts, eq-eqb, eqb-true, false≢true, le-leb, leb-true, lt-ltb, ltb-true}
use Rattle.std.proofs.Math.Nat.{div-lt_iff_lt-mul, mul-div_cancel, mul-lt-mul_of_pos_right}
use Rattle.umem_base.proofs.Lists.{Contains-here, Contains-there}
use Rattle.umem_base.proofs.OrderedLemmas.{Contains-cases, Contains-nil}
use Rattle.script.specs.Rules.{IsHeader}
use Rattle.plain_heap.specs.Bytes.{is_within}
use Rattle.plain_heap.specs.Laws.{StandApart}
use Rattle.plain_heap.specs.Setting.{Setting, geometry_in}
use Rattle.plain_heap.specs.State.{HeapSlab, IsChunkOf, State, begins_chunk, chunk_start, span_of_slab}
use Rattle.plain_heap.proofs.PairsLemmas.{pair_of}
use Rattle.plain_heap.proofs.PlacesLemmas.{AreInPlace, chunk_in_slab, is_cache_of}
use Rattle.plain_heap.proofs.SettingLemmas.{geometry_in-sound}

-- ---- items that are found

-- an item that is found is one of them, and passes
pub find_found : {X : Type 0} (p : X → Bool) (xs : List X) (x : X) → find p xs ≡ Some x → Contains xs x × (p x ≡ true)
find_found p [] x h = absurd (cc h)
find_found {X} p (first ∷ xs) x h = go (p first) refl h (find_found p xs x)
  where
    go : (b : Bool) → p first ≡ b → cond b (Some first) (find p xs) ≡ Some x → (find p xs ≡ Some x → Contains xs x × (p x ≡ true)) → Contains (first ∷ xs) x × (p x ≡ true)
    go true is same later = let e : first ≡ x = cc in (subst (λ (y : X). Contains (first ∷ xs) y) e (Contains-here first xs), subst (λ (y : X). p y ≡ true) e is)
    go false is same later = let there = later same in (Contains-there first x xs there.0, there.1)

-- an item that alone passes is found
pub find_alone : {X : Type 0} (p : X → Bool) (xs : List X) (x : X) → Contains xs x → p x ≡ true → ((y : X) → Contains xs y → p y ≡ true → y ≡ x) → find p xs ≡ Some x
find_alone p [] x h is alone = Contains-nil x h
find_alone {X} p (first ∷ xs) x h is alone = go (p first) refl (λ there. find_alone p xs x there is (λ y later. alone y (Contains-there first y xs later)))
  where
    go : (b : Bool) → p first ≡ b → (Contains xs x → find p xs ≡ Some x) → cond b (Some first) (find p xs) ≡ Some x
    go true passes rest = ap Some (alone first (Contains-here first xs) passes)
    go false fails rest = elim (Contains-cases first x xs h) [
      | inl same ↦ absurd (false≢true (sym fails ∙ ap p same ∙ is))
      | inr there ↦ rest there
    ]

-- ---- where chunks begin

-- an address at which a chunk begins by its place, is one
pub begun : (setting : Setting) (slab : HeapSlab) (address : ℕ) → 0 < (geometry_in setting slab.cache).chunk → begins_chunk setting slab address ≡ true → IsChunkOf setting slab address
begun setting slab address some h = go (is_within (chunk_start setting slab 0) ((geometry_in setting slab.cache).rounds * (geometry_in setting slab.cache).chunk) address) refl h
  where
    go : (b : Bool) → is_within (chunk_start setting slab 0) ((geometry_in setting slab.cache).rounds * (geometry_in setting slab.cache).chunk) address ≡ b
        → option_map_or (λ index. eqb (chunk_start setting slab index) address) (cond b (Some ((address - chunk_start setting slab 0) / (geometry_in setting slab.cache).chunk)) None) false ≡ true
        → IsChunkOf setting slab address
    go true is there =
        let g = geometry_in setting slab.cache in
        let first = chunk_start setting slab 0 in
        let both = and_parts _ _ is in
        let low = leb-true first address both.0 in
        let high = ltb-true address (first + g.rounds * g.chunk) both.1 in
        let behind : address - first < g.rounds * g.chunk = omega arith in
        record { index = (address - first) / g.chunk; within = (div-lt_iff_lt-mul some).1 behind; there = sym (eqb-true _ _ there) }
    go false is there = absurd (false≢true there)

-- and an address at which a chunk begins passes the test
pub begins : (setting : Setting) (slab : HeapSlab) (address : ℕ) → 0 < (geometry_in setting slab.cache).chunk → IsChunkOf setting slab address → begins_chunk setting slab address ≡ true
begins setting slab address some h =
    let g = geometry_in setting slab.cache in
    let first = chunk_start setting slab 0 in
    let less : h.index * g.chunk < g.rounds * g.chunk = mul-lt-mul_of_pos_right h.within some in
    let behind : address - first ≡ h.index * g.chunk = omega (arith, h.there) in
    let low : leb first address ≡ true = le-leb first address (omega (arith, h.there)) in
    let high : ltb address (first + g.rounds * g.chunk) ≡ true = lt-ltb address (first + g.rounds * g.chunk) (omega (arith, h.there)) in
    let index : (address - first) / g.chunk ≡ h.index = ap (λ n. n / g.chunk) behind ∙ mul-div_cancel h.index some in
    let inside : is_within first (g.rounds * g.chunk) address ≡ true = ap (λ b. b && ltb address (first + g.rounds * g.chunk)) low ∙ high in
    ap (λ b. option_map_or (λ index. eqb (chunk_start setting slab index) address) (cond b (Some ((address - first) / g.chunk)) None) false) inside
    ∙ ap (λ n. eqb (chunk_start setting slab n) address) index ∙ eq-eqb _ _ (sym h.there)

-- ---- slabs that stand

module _ (setting : Setting) (state : State) (header : IsHeader setting.header) (places : AreInPlace setting state.live state.slabs) where
  -- its chunks have bytes
  pub chunk_some : (slab : HeapSlab) → Contains state.slabs slab → 0 < (geometry_in setting slab.cache).chunk
  chunk_some slab stands =
      let some = (geometry_in-sound setting slab.cache header (is_cache_of setting state.live state.slabs header places slab stands)).chunk_some in
      omega (arith, some)

  -- the slab of a chunk is one
  pub one_slab : (f t : HeapSlab) (x : ℕ) → Contains state.slabs f → Contains state.slabs t → IsChunkOf setting f x → IsChunkOf setting t x → f ≡ t
  one_slab f t x f_stands t_stands one other =
      let low = chunk_in_slab setting f x header (is_cache_of setting state.live state.slabs header places f f_stands) one in
      let high = chunk_in_slab setting t x header (is_cache_of setting state.live state.slabs header places t t_stands) other in
      let some = chunk_some f f_stands in
      let more = chunk_some t t_stands in
      elim (pair_of (λ (a b : HeapSlab). StandApart (span_of_slab setting a) (span_of_slab setting b)) state.slabs f t places.slabs_apart f_stands t_stands) [
        | inl same ↦ same
        | inr apart ↦ elim apart [
          | inl before ↦ elim before [ inl below ↦ absurd (omega (arith, below, low, high, some, more)) | inr above ↦ absurd (omega (arith, above, low, high, some, more)) ]
          | inr behind ↦ elim behind [ inl below ↦ absurd (omega (arith, below, low, high, some, more)) | inr above ↦ absurd (omega (arith, above, low, high, some, more)) ]
        ]
      ]
