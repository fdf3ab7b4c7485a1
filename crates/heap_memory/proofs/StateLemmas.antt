-- Which runs of pages a state has after each step, and which chunks.
use Rattle.std.proofs.Common.{◌≡◌, ◌≢◌, ℕ, zero, suc, ◌+◌, ◌-◌, ◌*◌, ◌/◌, ◌<◌, ◌≤◌, ◌⊎◌, inl, inr, Bool, true, false, cond, eqb, ltb, List, [], ◌∷◌, ◌++◌, get_or, length, map, Option, Some, None, refl, sym, ap, ◌∙◌, subst, arith, length-append}
use Rattle.std.specs.Prelude.{◌||◌, ◌↔◌, All, AllPairs, Contains, filter, find, is_none, option_map}
use Rattle.std.specs.Option.{option_map_or}
use Rattle.std.proofs.lemmas.Bool.{and_from, and_parts, cases_lt, cases_eq, eq-eqb, eqb-true, false≢true, le-leb, le-ltb, leb-true, lt-ltb, ltb-true}
use Rattle.std.proofs.lemmas.List.{length-map, get_or-append-add, get_or-map, get_or_append_left, get_or_default}
use Rattle.std.proofs.lemmas.List.Elements.{All-contains, All-from_recursion, Contains-append_cases, Contains-append_left, Contains-append_right}
use Rattle.umem_base.specs.declared.arena.TheConstants.{ARENA_BASE}
use Rattle.umem_base.specs.declared.pages.TheConstants.{PAGE_BYTES}
use Rattle.umem_base.specs.declared.span.Span.{Span}
use Rattle.umem_base.specs.Ordered.{left_out_by}
use Rattle.umem_base.specs.Pages.{pages_for}
use Rattle.umem_base.specs.Roots.{arena_end}
use Rattle.umem_base.specs.Span.{IsSpanWithin, span_end}
use Rattle.umem_base.proofs.Lists.{Contains-here, Contains-there}
use Rattle.umem_base.proofs.OrderedLemmas.{Contains-cases, Contains-from_left_out_by, Contains-left_out_by, Contains-nil, map-left_out_by}
use Rattle.plain_heap.specs.declared.held.Held.{Held}
use Rattle.plain_heap.specs.Laws.{AreSeparate, StandApart, large}
use Rattle.plain_heap.specs.Setting.{Setting, geometry_in}
use Rattle.plain_heap.specs.State.{HeapSlab, LiveBuffer, State, after_grow, after_shrink, give_back, hand_out, held_at, span_of_large, span_of_slab, spans_of}
use Rattle.plain_heap.proofs.LiveLemmas.{held_lives}
use Rattle.plain_heap.proofs.PairsLemmas.{Contains-passing, Contains-seen, pair_of}
use Rattle.plain_heap.proofs.PlacesLemmas.{apart_bases, is_large}

-- ---- lists

-- what is seen through a function comes from an item
pub seen_from : {X Y : Type 0} (f : X → Y) (xs : List X) (y : Y) → Contains (map f xs) y → (x : X) × Contains xs x × (f x ≡ y)
seen_from f [] y h = Contains-nil y h
seen_from f (x ∷ xs) y h = elim (Contains-cases (f x) y (map f xs) h) [
  | inl is ↦ (x, Contains-here x xs, is)
  | inr there ↦ let found = seen_from f xs y there in (found.0, Contains-there x found.0 xs found.1, found.2)
]

pub passing_from : {X : Type 0} (p : X → Bool) (xs : List X) (y : X) → Contains (filter p xs) y → Contains xs y × (p y ≡ true)
passing_from p [] y h = Contains-nil y h
passing_from {X} p (x ∷ xs) y h = go (p x) refl h (λ later. passing_from p xs y later)
  where
    go : (b : Bool) → p x ≡ b → Contains (cond b (x ∷ filter p xs) (filter p xs)) y → (Contains (filter p xs) y → Contains xs y × (p y ≡ true)) → Contains (x ∷ xs) y × (p y ≡ true)
    go true is there rest = elim (Contains-cases x y (filter p xs) there) [
      | inl same ↦ (subst (λ (z : X). Contains (x ∷ xs) z) same (Contains-here x xs), ap p (sym same) ∙ is)
      | inr later ↦ let found = rest later in (Contains-there x y xs found.0, found.1)
    ]
    go false is there rest = let found = rest there in (Contains-there x y xs found.0, found.1)

-- of two joined lists each item of the first stands in the relation to each of the second
pub pair_across : {X : Type 0} (R : X → X → Type 0) (xs ys : List X) (x y : X) → AllPairs R (xs ++ ys) → Contains xs x → Contains ys y → R x y
pair_across {X} R xs ys x y h in_first in_second =
    let less = in_first.1 in
    let more = in_second.1 in
    let first : get_or (xs ++ ys) in_first.0 y ≡ x = get_or_append_left xs ys y in_first.0 less ∙ get_or_default xs in_first.0 y x less ∙ in_first.2 in
    let second : get_or (xs ++ ys) (length xs + in_second.0) y ≡ y = get_or-append-add xs ys in_second.0 y ∙ in_second.2 in
    subst (λ (z : X). R x z) second (subst (λ (z : X). R z (get_or (xs ++ ys) (length xs + in_second.0) y)) first
    (h in_first.0 (length xs + in_second.0) y (omega arith) (omega (arith, length-append xs ys))))

pub pairs_of_first : {X : Type 0} (R : X → X → Type 0) (xs ys : List X) → AllPairs R (xs ++ ys) → AllPairs R xs
pairs_of_first {X} R xs ys h i j d less lt =
    let inside : i < length xs = omega arith in
    subst (λ (z : X). R z (get_or xs j d)) (get_or_append_left xs ys d i inside) (subst (λ (z : X). R (get_or (xs ++ ys) i d) z) (get_or_append_left xs ys d j lt)
    (h i j d less (omega (arith, length-append xs ys))))

pub pairs_seen : {X Y : Type 0} (R : Y → Y → Type 0) (f : X → Y) (xs : List X) → AllPairs R (map f xs) → AllPairs (λ a b. R (f a) (f b)) xs
pairs_seen {X} {Y} R f xs h i j d less lt =
    let inside : i < length xs = omega arith in
    subst (λ (z : Y). R z (f (get_or xs j d))) (get_or-map f xs i d (f d) inside) (subst (λ (z : Y). R (get_or (map f xs) i (f d)) z) (get_or-map f xs j d (f d) lt)
    (h i j (f d) less (omega (arith, length-map xs f))))

-- ---- runs of pages

abbrev slab_spans : Setting → List HeapSlab → List Span
slab_spans setting slabs = map (span_of_slab setting) slabs

abbrev large_spans : List LiveBuffer → List Span
large_spans live = map span_of_large (filter is_large live)

abbrev run_at : ℕ → ℕ → Span
run_at base pages = record { base = base; pages = pages }

abbrev span_base : Span → ℕ
span_base span = span.base

-- a large buffer that lives has its run
large_in : (live : List LiveBuffer) (buffer : LiveBuffer) → Contains live buffer → is_large buffer ≡ true → Contains (large_spans live) (span_of_large buffer)
large_in live buffer h is = Contains-seen span_of_large (filter is_large live) buffer (Contains-passing is_large live buffer is h)

large_from : (live : List LiveBuffer) (span : Span) → Contains (large_spans live) span → (buffer : LiveBuffer) × Contains live buffer × (is_large buffer ≡ true) × (span_of_large buffer ≡ span)
large_from live span h =
    let seen = seen_from span_of_large (filter is_large live) span h in
    let passed = passing_from is_large live seen.0 seen.1 in
    (seen.0, passed.0, passed.1, seen.2)

-- ---- runs that come

pub grown_members : (setting : Setting) (state : State) (cache base : ℕ) (run span : Span) → run ≡ record { base = base; pages = (geometry_in setting cache).pages }
    → Contains (spans_of setting (after_grow setting state cache base)) span ↔ (Contains (spans_of setting state) span ⊎ (span ≡ run))
grown_members setting state cache base run span is = (to, from)
  where
    to : Contains (spans_of setting (after_grow setting state cache base)) span → Contains (spans_of setting state) span ⊎ (span ≡ run)
    to h = elim (Contains-cases (run_at base (geometry_in setting cache).pages) span (spans_of setting state) h) [ inl e ↦ inr (sym e ∙ sym is) | inr there ↦ inl there ]

    from : Contains (spans_of setting state) span ⊎ (span ≡ run) → Contains (spans_of setting (after_grow setting state cache base)) span
    from (inl there) = Contains-there (run_at base (geometry_in setting cache).pages) span (spans_of setting state) there
    from (inr e) = subst (λ (s : Span). Contains (run_at base (geometry_in setting cache).pages ∷ spans_of setting state) s) (sym is ∙ sym e) (Contains-here (run_at base (geometry_in setting cache).pages) (spans_of setting state))

pub large_members : (setting : Setting) (state : State) (base size : ℕ) (zeroed : Bool) (run span : Span) → run ≡ record { base = base; pages = pages_for size }
    → Contains (spans_of setting (hand_out setting state base (large size) zeroed)) span ↔ (Contains (spans_of setting state) span ⊎ (span ≡ run))
large_members setting state base size zeroed run span is = (to, from)
  where
    to : Contains (spans_of setting (hand_out setting state base (large size) zeroed)) span → Contains (spans_of setting state) span ⊎ (span ≡ run)
    to h = elim (Contains-append_cases (slab_spans setting state.slabs) (run_at base (pages_for size) ∷ large_spans state.live) span h) [
      | inl slab ↦ inl (Contains-append_left (slab_spans setting state.slabs) (large_spans state.live) span slab)
      | inr more ↦ elim (Contains-cases (run_at base (pages_for size)) span (large_spans state.live) more) [
        | inl e ↦ inr (sym e ∙ sym is)
        | inr there ↦ inl (Contains-append_right (slab_spans setting state.slabs) (large_spans state.live) span there)
      ]
    ]

    from : Contains (spans_of setting state) span ⊎ (span ≡ run) → Contains (spans_of setting (hand_out setting state base (large size) zeroed)) span
    from (inl h) = elim (Contains-append_cases (slab_spans setting state.slabs) (large_spans state.live) span h) [
      | inl slab ↦ Contains-append_left (slab_spans setting state.slabs) (run_at base (pages_for size) ∷ large_spans state.live) span slab
      | inr there ↦ Contains-append_right (slab_spans setting state.slabs) (run_at base (pages_for size) ∷ large_spans state.live) span (Contains-there (run_at base (pages_for size)) span (large_spans state.live) there)
    ]
    from (inr e) =
        Contains-append_right (slab_spans setting state.slabs) (run_at base (pages_for size) ∷ large_spans state.live) span
        (subst (λ (s : Span). Contains (run_at base (pages_for size) ∷ large_spans state.live) s) (sym is ∙ sym e) (Contains-here (run_at base (pages_for size)) (large_spans state.live)))

-- ---- runs that go

module _ (setting : Setting) (state : State) (separate : AreSeparate setting state) where
  -- the run of a slab and that of a large buffer stand apart
  pub slab_and_large : (one other : Span) → Contains (slab_spans setting state.slabs) one → Contains (large_spans state.live) other → StandApart one other
  slab_and_large one other h g = pair_across StandApart (slab_spans setting state.slabs) (large_spans state.live) one other separate.apart h g

  -- and do not begin at one address
  bases_differ : (one other : Span) → Contains (slab_spans setting state.slabs) one → Contains (large_spans state.live) other → one.base ≢ other.base
  bases_differ one other h g =
      let Within : Span → Type 0 = IsSpanWithin ARENA_BASE (arena_end setting.header.version) in
      let some = All-contains Within (spans_of setting state) one separate.within (Contains-append_left (slab_spans setting state.slabs) (large_spans state.live) one h) in
      let more = All-contains Within (spans_of setting state) other separate.within (Contains-append_right (slab_spans setting state.slabs) (large_spans state.live) other g) in
      apart_bases one other some.some more.some (slab_and_large one other h g)

  abbrev slabs_left : ℕ → List HeapSlab
  slabs_left base = left_out_by (λ (s : HeapSlab). s.base) state.slabs base

  pub shrunk_members : (slab : HeapSlab) (base : ℕ) (span : Span) → Contains state.slabs slab → slab.base ≡ base
      → Contains (spans_of setting (after_shrink state base)) span ↔ (Contains (spans_of setting state) span × (span.base ≢ base))
  shrunk_members slab base span stands there = (to, from)
    where
      seen_left : slab_spans setting (slabs_left base) ≡ left_out_by span_base (slab_spans setting state.slabs) base
      seen_left = map-left_out_by (span_of_slab setting) span_base state.slabs base

      to : Contains (spans_of setting (after_shrink state base)) span → Contains (spans_of setting state) span × (span.base ≢ base)
      to h = elim (Contains-append_cases (slab_spans setting (slabs_left base)) (large_spans state.live) span h) [
        | inl of_slab ↦
            let found = Contains-from_left_out_by span_base (slab_spans setting state.slabs) base span (subst (λ (ss : List Span). Contains ss span) seen_left of_slab) in
            (Contains-append_left (slab_spans setting state.slabs) (large_spans state.live) span found.0, found.1)
        | inr of_large ↦ (
          Contains-append_right (slab_spans setting state.slabs) (large_spans state.live) span of_large,
          λ e. bases_differ (span_of_slab setting slab) span (Contains-seen (span_of_slab setting) state.slabs slab stands) of_large (there ∙ sym e),
        )
      ]

      from : Contains (spans_of setting state) span × (span.base ≢ base) → Contains (spans_of setting (after_shrink state base)) span
      from h = elim (Contains-append_cases (slab_spans setting state.slabs) (large_spans state.live) span h.0) [
        | inl of_slab ↦
            Contains-append_left (slab_spans setting (slabs_left base)) (large_spans state.live) span
            (subst (λ (ss : List Span). Contains ss span) (sym seen_left) (Contains-left_out_by span_base (slab_spans setting state.slabs) base span of_slab h.1))
        | inr of_large ↦ Contains-append_right (slab_spans setting (slabs_left base)) (large_spans state.live) span of_large
      ]

  -- what is left of the runs of large buffers without those at an address
  left_in : (at : ℕ) (span : Span) → Contains (large_spans (left_out_by (λ (b : LiveBuffer). b.address) state.live at)) span → Contains (large_spans state.live) span × (span.base ≢ at)
  left_in at span h =
      let key : LiveBuffer → ℕ = λ b. b.address in
      let found = large_from (left_out_by key state.live at) span h in
      let there = Contains-from_left_out_by key state.live at found.0 found.1 in
      (subst (λ (s : Span). Contains (large_spans state.live) s) found.3 (large_in state.live found.0 there.0 found.2), λ e. there.1 (ap (λ (s : Span). s.base) found.3 ∙ e))

  left_from : (at : ℕ) (span : Span) → Contains (large_spans state.live) span → span.base ≢ at → Contains (large_spans (left_out_by (λ (b : LiveBuffer). b.address) state.live at)) span
  left_from at span h differ =
      let key : LiveBuffer → ℕ = λ b. b.address in
      let found = large_from state.live span h in
      let there = Contains-left_out_by key state.live at found.0 found.1 (λ e. differ (sym (ap (λ (s : Span). s.base) found.3) ∙ e)) in
      subst (λ (s : Span). Contains (large_spans (left_out_by key state.live at)) s) found.3 (large_in (left_out_by key state.live at) found.0 there found.2)

  abbrev live_left : ℕ → List LiveBuffer
  live_left at = left_out_by (λ (b : LiveBuffer). b.address) state.live at

  -- the run of a live large buffer
  pub large_run : (at size : ℕ) → held_at state.live at ≡ Some (large size) → Contains (large_spans state.live) (record { base = at; pages = pages_for size })
  large_run at size lives = large_in state.live (record { address = at; held = large size }) (held_lives state.live at (large size) lives) refl

  -- which has a page at least
  pub large_pages : (at size : ℕ) → held_at state.live at ≡ Some (large size) → 1 ≤ pages_for size
  large_pages at size lives =
      let run : Span = record { base = at; pages = pages_for size } in
      (All-contains (IsSpanWithin ARENA_BASE (arena_end setting.header.version)) (spans_of setting state) run separate.within
      (Contains-append_right (slab_spans setting state.slabs) (large_spans state.live) run (large_run at size lives))).some

  pub freed_members : (at size : ℕ) (span : Span) → held_at state.live at ≡ Some (large size)
      → Contains (spans_of setting (give_back setting state at)) span ↔ (Contains (spans_of setting state) span × (span.base ≢ at))
  freed_members at size span lives = (to, from)
    where
      to : Contains (spans_of setting (give_back setting state at)) span → Contains (spans_of setting state) span × (span.base ≢ at)
      to h = elim (Contains-append_cases (slab_spans setting state.slabs) (large_spans (live_left at)) span h) [
        | inl of_slab ↦ (
          Contains-append_left (slab_spans setting state.slabs) (large_spans state.live) span of_slab,
          bases_differ span (record { base = at; pages = pages_for size }) of_slab (large_run at size lives),
        )
        | inr of_large ↦
            let found = left_in at span of_large in (Contains-append_right (slab_spans setting state.slabs) (large_spans state.live) span found.0, found.1)
      ]

      from : Contains (spans_of setting state) span × (span.base ≢ at) → Contains (spans_of setting (give_back setting state at)) span
      from h = elim (Contains-append_cases (slab_spans setting state.slabs) (large_spans state.live) span h.0) [
        | inl of_slab ↦ Contains-append_left (slab_spans setting state.slabs) (large_spans (live_left at)) span of_slab
        | inr of_large ↦ Contains-append_right (slab_spans setting state.slabs) (large_spans (live_left at)) span (left_from at span of_large h.1)
      ]

  -- a chunk of a slab that is given back frees no run
  pub chunk_members : (slab : HeapSlab) (at : ℕ) (span : Span) → Contains state.slabs slab → slab.base ≤ at → at < span_end (span_of_slab setting slab)
      → Contains (spans_of setting (give_back setting state at)) span ↔ Contains (spans_of setting state) span
  chunk_members slab at span stands low high = (to, from)
    where
      to : Contains (spans_of setting (give_back setting state at)) span → Contains (spans_of setting state) span
      to h = elim (Contains-append_cases (slab_spans setting state.slabs) (large_spans (live_left at)) span h) [
        | inl of_slab ↦ Contains-append_left (slab_spans setting state.slabs) (large_spans state.live) span of_slab
        | inr of_large ↦ Contains-append_right (slab_spans setting state.slabs) (large_spans state.live) span (left_in at span of_large).0
      ]

      differs : Contains (large_spans state.live) span → span.base ≢ at
      differs of_large e =
          let Within : Span → Type 0 = IsSpanWithin ARENA_BASE (arena_end setting.header.version) in
          let more = All-contains Within (spans_of setting state) span separate.within (Contains-append_right (slab_spans setting state.slabs) (large_spans state.live) span of_large) in
          elim (slab_and_large (span_of_slab setting slab) span (Contains-seen (span_of_slab setting) state.slabs slab stands) of_large) [
            | inl below ↦ omega (arith, below, high)
            | inr above ↦ omega (arith, above, low, more.some)
          ]

      from : Contains (spans_of setting state) span → Contains (spans_of setting (give_back setting state at)) span
      from h = elim (Contains-append_cases (slab_spans setting state.slabs) (large_spans state.live) span h) [
        | inl of_slab ↦ Contains-append_left (slab_spans setting state.slabs) (large_spans (live_left at)) span of_slab
        | inr of_large ↦ Contains-append_right (slab_spans setting state.slabs) (large_spans (live_left at)) span (left_from at span of_large (differs of_large))
      ]
