-- The large buffers that are drawn from the runs of pages are those that live.
use Rattle.std.proofs.Common.{◌≡◌, ◌≢◌, ℕ, zero, suc, ◌+◌, ◌*◌, ◌<◌, ◌≤◌, Bool, true, false, cond, eqb, List, [], ◌∷◌, ◌++◌, append-nil, length, get_or, map, take, Option, Some, None, refl, sym, ap, ◌∙◌, subst, arith, inl, inr}
use Rattle.std.specs.Prelude.{◌⊎◌, AllPairs, Contains, filter, find, is_none}
use Rattle.std.specs.List.{cons_option, filter_map}
use Rattle.std.specs.Option.{option_and_then, option_map}
use Rattle.std.proofs.lemmas.Bool.{false≢true}
use Rattle.std.proofs.lemmas.Bool.Decides.{eqb_tells}
use Rattle.std.proofs.lemmas.List.{take_more}
use Rattle.std.proofs.lemmas.List.Elements.{Contains-append_right, filter_map-append}
use Rattle.umem_base.specs.declared.pages.TheConstants.{PAGE_BYTES}
use Rattle.umem_base.specs.declared.span.Span.{Span}
use Rattle.umem_base.specs.Pages.{pages_for}
use Rattle.umem_base.specs.Span.{EndsBelow, IsSpanWithin}
use Rattle.umem_base.proofs.Lists.{Contains-here, Contains-there}
use Rattle.umem_base.proofs.OrderedLemmas.{Contains-cases, Contains-nil}
use Rattle.core_format.specs.declared.items.LargeItem.{LargeItem}
use Rattle.plain_heap.specs.declared.held.Held.{Held}
use Rattle.plain_heap.specs.Bytes.{bytes_from}
use Rattle.plain_heap.specs.Laws.{AreSeparate, StandApart}
use Rattle.plain_heap.specs.Setting.{Setting}
use Rattle.plain_heap.specs.State.{LiveBuffer, State, held_at, span_of_large, span_of_slab, spans_of}
use Rattle.plain_heap.proofs.LiveLemmas.{held_lives}
use Rattle.heap_memory.specs.States.{AreSpansOf}
use Rattle.heap_accounts.proofs.SlabLemmas.{Contains-filtered, Contains-from_filtered, Contains-from_mapped, Contains-mapped}
use Rattle.heap_pictures.specs.Drawn.{large_drawn, large_held}
use Rattle.heap_pictures.specs.Items.{large_item, large_items}
use Rattle.heap_pictures.specs.Pictures.{AreLargeItems}

-- ---- what a function gives of the items of a list

-- one item more
pub drawn_more : {X Y : Type 0} (f : X → Option Y) (xs : List X) (k : ℕ) (d : X) → k < length xs
    → filter_map f (take (k + 1) xs) ≡ filter_map f (take k xs) ++ cons_option (f (get_or xs k d)) []
drawn_more f xs k d lt = ap (filter_map f) (take_more xs k d lt) ∙ filter_map-append f (take k xs) (get_or xs k d ∷ [])

pub drawn_some : {X Y : Type 0} (f : X → Option Y) (xs : List X) (k : ℕ) (d : X) (items now : List Y) (y : Y) → k < length xs
    → now ≡ items ++ y ∷ [] → items ≡ filter_map f (take k xs) → Some y ≡ f (get_or xs k d) → now ≡ filter_map f (take (k + 1) xs)
drawn_some {X} {Y} f xs k d items now y lt put made gives =
    put ∙ ap (λ (ys : List Y). ys ++ y ∷ []) made ∙ ap (λ (o : Option Y). filter_map f (take k xs) ++ cons_option o []) gives ∙ sym (drawn_more f xs k d lt)

pub drawn_none : {X Y : Type 0} (f : X → Option Y) (xs : List X) (k : ℕ) (d : X) (items : List Y) (o : Option Y) → k < length xs
    → items ≡ filter_map f (take k xs) → o ≡ f (get_or xs k d) → ((y : Y) → o ≡ Some y → ⊥) → items ≡ filter_map f (take (k + 1) xs)
drawn_none {X} {Y} f xs k d items None lt made gives other =
    made ∙ sym (append-nil (filter_map f (take k xs))) ∙ ap (λ (o : Option Y). filter_map f (take k xs) ++ cons_option o []) gives ∙ sym (drawn_more f xs k d lt)
drawn_none f xs k d items (Some y) lt made gives other = absurd (other y refl)

-- what is given comes from an item
pub record IsGivenOf {X Y : Type 0} (f : X → Option Y) (xs : List X) (y : Y) : Type 0 where
  pub item : X
  pub there : Contains xs item
  pub gives : f item ≡ Some y

pub given_of : {X Y : Type 0} (f : X → Option Y) (xs : List X) (y : Y) → Contains (filter_map f xs) y → IsGivenOf f xs y
given_of f [] y has = Contains-nil y has
given_of {X} {Y} f (x ∷ xs) y has = go (f x) refl has (given_of f xs y)
  where
    go : (o : Option Y) → f x ≡ o → Contains (cons_option o (filter_map f xs)) y → (Contains (filter_map f xs) y → IsGivenOf f xs y) → IsGivenOf f (x ∷ xs) y
    go None is has from =
        let rest = from has in
        record { item = rest.item; there = Contains-there x rest.item xs rest.there; gives = rest.gives }
    go (Some z) is has from = elim (Contains-cases z y (filter_map f xs) has) [
      | inl same ↦ record { item = x; there = Contains-here x xs; gives = is ∙ ap (λ (w : Y). Some w) same }
      | inr later ↦
          let rest = from later in
          record { item = rest.item; there = Contains-there x rest.item xs rest.there; gives = rest.gives }
    ]

-- and what an item gives is there
pub gives_there : {X Y : Type 0} (f : X → Option Y) (xs : List X) (x : X) (y : Y) → Contains xs x → f x ≡ Some y → Contains (filter_map f xs) y
gives_there f [] x y has gives = Contains-nil x has
gives_there {X} {Y} f (z ∷ xs) x y has gives = go (f z) refl (Contains-cases z x xs has) (λ later. gives_there f xs x y later gives)
  where
    go : (o : Option Y) → f z ≡ o → (z ≡ x) ⊎ Contains xs x → (Contains xs x → Contains (filter_map f xs) y) → Contains (cons_option o (filter_map f xs)) y
    go None is (inl same) behind = absurd (cc (sym gives ∙ ap f (sym same) ∙ is))
    go None is (inr later) behind = behind later
    go (Some w) is (inl same) behind =
        let one : Some w ≡ Some y = sym is ∙ ap f same ∙ gives in
        let equal : w ≡ y = cc in
        subst (Contains (w ∷ filter_map f xs)) equal (Contains-here w (filter_map f xs))
    go (Some w) is (inr later) behind = Contains-there w y (filter_map f xs) (behind later)

pairs_head : {X : Type 0} (R : X → X → Type 0) (x : X) (xs : List X) → AllPairs R (x ∷ xs) → (y : X) → Contains xs y → R x y
pairs_head R x xs pairs y has = subst (R x) has.2 (pairs 0 (suc has.0) y (omega arith) (omega (arith, has.1)))

pairs_tail : {X : Type 0} (R : X → X → Type 0) (x : X) (xs : List X) → AllPairs R (x ∷ xs) → AllPairs R xs
pairs_tail R x xs pairs i j d less lt = pairs (suc i) (suc j) d (omega arith) (omega arith)

pairs_cons : {X : Type 0} (R : X → X → Type 0) (x : X) (xs : List X) → ((y : X) → Contains xs y → R x y) → AllPairs R xs → AllPairs R (x ∷ xs)
pairs_cons R x xs head tail zero zero d less lt = absurd (omega arith)
pairs_cons R x xs head tail zero (suc j) d less lt =
    let within : j < length xs = omega arith in
    head (get_or xs j d) (j, within, get_or_again xs j d within)
  where
    get_or_again : {X : Type 0} (xs : List X) (j : ℕ) (d : X) → j < length xs → get_or xs j (get_or xs j d) ≡ get_or xs j d
    get_or_again [] j d lt = absurd (omega arith)
    get_or_again (x ∷ xs) zero d lt = refl
    get_or_again (x ∷ xs) (suc j) d lt = get_or_again xs j d (omega arith)
pairs_cons R x xs head tail (suc i) zero d less lt = absurd (omega arith)
pairs_cons R x xs head tail (suc i) (suc j) d less lt = tail i j d (omega arith) (omega arith)

-- in their order
given_in_order : {X Y : Type 0} (R : X → X → Type 0) (S : Y → Y → Type 0) (f : X → Option Y) (xs : List X)
    → ((x z : X) (y w : Y) → f x ≡ Some y → f z ≡ Some w → R x z → S y w) → AllPairs R xs → AllPairs S (filter_map f xs)
given_in_order R S f [] step pairs = λ i j d less lt. absurd (omega arith)
given_in_order {X} {Y} R S f (x ∷ xs) step pairs = go (f x) refl (given_in_order R S f xs step (pairs_tail R x xs pairs))
  where
    go : (o : Option Y) → f x ≡ o → AllPairs S (filter_map f xs) → AllPairs S (cons_option o (filter_map f xs))
    go None is rest = rest
    go (Some y) is rest =
        pairs_cons S y (filter_map f xs)
        (λ w has. let of = given_of f xs w has in step x of.item y w is of.gives (pairs_head R x xs pairs of.item of.there)) rest

-- ---- large buffers

-- of two runs that stand apart or are one, those with one base are one
one_base : (spans : List Span) (low high : ℕ) → ((k : ℕ) (d : Span) → k < length spans → IsSpanWithin low high (get_or spans k d)) → AllPairs StandApart spans
    → (one other : Span) → Contains spans one → Contains spans other → one.base ≡ other.base → one ≡ other
one_base spans low high within apart one other (i, il, is) (j, jl, js) same = go (order i j)
  where
    one_some : 1 ≤ one.pages
    one_some = subst (λ (s : Span). 1 ≤ s.pages) is (within i one il).some

    other_some : 1 ≤ other.pages
    other_some = subst (λ (s : Span). 1 ≤ s.pages) js (within j other jl).some

    order : (i j : ℕ) → (i ≡ j) ⊎ ((i < j) ⊎ (j < i))
    order zero zero = inl refl
    order zero (suc j) = inr (inl (omega arith))
    order (suc i) zero = inr (inr (omega arith))
    order (suc i) (suc j) = elim (order i j) [
      | inl e ↦ inl (ap (λ (n : ℕ). suc n) e)
      | inr (inl l) ↦ inr (inl (omega arith))
      | inr (inr g) ↦ inr (inr (omega arith))
    ]

    meet : StandApart one other → ⊥
    meet (inl below) = omega (arith, same, below, one_some)
    meet (inr above) = omega (arith, same, above, other_some)

    at_j : (d : Span) → get_or spans j d ≡ other
    at_j d = again spans j d other jl js
      where
        again : (xs : List Span) (j : ℕ) (d x : Span) → j < length xs → get_or xs j x ≡ x → get_or xs j d ≡ x
        again [] j d x lt e = absurd (omega arith)
        again (y ∷ xs) zero d x lt e = e
        again (y ∷ xs) (suc j) d x lt e = again xs j d x (omega arith) e

    at_i : (d : Span) → get_or spans i d ≡ one
    at_i d = again spans i d one il is
      where
        again : (xs : List Span) (j : ℕ) (d x : Span) → j < length xs → get_or xs j x ≡ x → get_or xs j d ≡ x
        again [] j d x lt e = absurd (omega arith)
        again (y ∷ xs) zero d x lt e = e
        again (y ∷ xs) (suc j) d x lt e = again xs j d x (omega arith) e

    go : (i ≡ j) ⊎ ((i < j) ⊎ (j < i)) → one ≡ other
    go (inl e) = sym (at_i other) ∙ ap (λ (n : ℕ). get_or spans n other) e ∙ at_j other
    go (inr (inl l)) = absurd (meet (subst (λ (s : Span). StandApart one s) (at_j one) (subst (λ (s : Span). StandApart s (get_or spans j one)) (at_i one) (apart i j one l jl))))
    go (inr (inr g)) = absurd (turned (subst (λ (s : Span). StandApart other s) (at_i other) (subst (λ (s : Span). StandApart s (get_or spans i other)) (at_j other) (apart j i other g il))))
      where
        turned : StandApart other one → ⊥
        turned (inl below) = omega (arith, same, below, other_some)
        turned (inr above) = omega (arith, same, above, one_some)

-- what lives at the address of a live buffer
buffer_there : (live : List LiveBuffer) (buffer : LiveBuffer) → AllPairs (λ one other. one.address ≢ other.address) live → Contains live buffer
    → held_at live buffer.address ≡ Some buffer.held
buffer_there [] buffer apart has = Contains-nil buffer has
buffer_there (first ∷ live) buffer apart has = elim (Contains-cases first buffer live has) [
  | inl same ↦ here (elim (eqb_tells first.address buffer.address) [ inl is ↦ is.0 | inr isnt ↦ absurd (isnt.1 (ap (λ (b : LiveBuffer). b.address) same)) ]) same
  | inr later ↦
      let other = pairs_head (λ one other. one.address ≢ other.address) first live apart buffer later in
      there (elim (eqb_tells first.address buffer.address) [ inl is ↦ absurd (other is.1) | inr isnt ↦ isnt.0 ])
      ∙ buffer_there live buffer (pairs_tail (λ one other. one.address ≢ other.address) first live apart) later
]
  where
    here : eqb first.address buffer.address ≡ true → first ≡ buffer → held_at (first ∷ live) buffer.address ≡ Some buffer.held
    here is same =
        ap (λ (b : Bool). option_map (λ (b : LiveBuffer). b.held) (cond b (Some first) (find (λ (b : LiveBuffer). eqb b.address buffer.address) live))) is
        ∙ ap (λ (b : LiveBuffer). Some b.held) same

    there : eqb first.address buffer.address ≡ false → held_at (first ∷ live) buffer.address ≡ held_at live buffer.address
    there is = ap (λ (b : Bool). option_map (λ (b : LiveBuffer). b.held) (cond b (Some first) (find (λ (b : LiveBuffer). eqb b.address buffer.address) live))) is

-- a run that gives an item has a large buffer at its base
record IsLargeRun (state : State) (span : Span) (item : LargeItem) : Type 0 where
  held : Held
  lives : held_at state.live span.base ≡ Some held
  large : held.cache ≡ None
  is : record { base = span.base; size = held.size; bytes = bytes_from state.bytes span.base (PAGE_BYTES * span.pages) } ≡ item

large_run : (state : State) (span : Span) (item : LargeItem) → large_drawn state span ≡ Some item → IsLargeRun state span item
large_run state span item drawn = by_held (held_at state.live span.base) refl drawn
  where
    by_cache : (held : Held) → held_at state.live span.base ≡ Some held → (cache : Option ℕ) → held.cache ≡ cache → large_held state span held cache ≡ Some item → IsLargeRun state span item
    by_cache held lives None none e = record { held = held; lives = lives; large = none; is = cc }
    by_cache held lives (Some cache) some e = absurd (cc e)

    by_held : (o : Option Held) → held_at state.live span.base ≡ o → option_and_then (λ held. large_held state span held held.cache) o ≡ Some item → IsLargeRun state span item
    by_held None lives e = absurd (cc e)
    by_held (Some held) lives e = by_cache held lives held.cache refl e

module _ (setting : Setting) (state : State) (separate : AreSeparate setting state) where
  -- a run at the base of a large buffer is the buffer's
  its_pages : (span : Span) (held : Held) → Contains (spans_of setting state) span → held_at state.live span.base ≡ Some held → held.cache ≡ None → span.pages ≡ pages_for held.size
  its_pages span held there lives large =
      let buffer : LiveBuffer = record { address = span.base; held = held } in
      let among = Contains-filtered (λ (b : LiveBuffer). is_none b.held.cache) state.live buffer (ap (λ (o : Option ℕ). is_none o) large) (held_lives state.live span.base held lives) in
      let own = Contains-append_right (map (span_of_slab setting) state.slabs) (map span_of_large (filter (λ (b : LiveBuffer). is_none b.held.cache) state.live)) (span_of_large buffer)
      (Contains-mapped span_of_large (filter (λ (b : LiveBuffer). is_none b.held.cache) state.live) buffer among) in
      ap (λ (s : Span). s.pages) (one_base (spans_of setting state) _ _ separate.within separate.apart span (span_of_large buffer) there own refl)

  pub drawn_large : (spans : List Span) (items : List LargeItem) → AllPairs EndsBelow spans → AreSpansOf setting state spans → items ≡ filter_map (large_drawn state) spans → AreLargeItems state items
  drawn_large spans items rising exactly made = record { rising = rise; exactly = λ item. (there item, back item) }
    where
      rise : AllPairs (λ one other. one.base < other.base) items
      rise = subst (λ (xs : List LargeItem). AllPairs (λ one other. one.base < other.base) xs) (sym made)
          (given_in_order (λ one other. EndsBelow one other × (1 ≤ one.pages)) (λ (one other : LargeItem). one.base < other.base) (large_drawn state) spans
          (λ x z y w gx gz order.
          let one = large_run state x y gx in
          let other = large_run state z w gz in
          let low : x.base ≡ y.base = ap (λ (i : LargeItem). i.base) one.is in
          let high : z.base ≡ w.base = ap (λ (i : LargeItem). i.base) other.is in
          omega (arith, order.0, order.1, low, high))
          (λ i j d less lt.
          let within : i < length spans = omega arith in
          let own = (exactly (get_or spans i d)).0 (i, within, again spans i d within) in
          (rising i j d less lt, subst (λ (s : Span). 1 ≤ s.pages) own.2 (separate.within own.0 (get_or spans i d) own.1).some)))
        where
          again : (xs : List Span) (j : ℕ) (d : Span) → j < length xs → get_or xs j (get_or xs j d) ≡ get_or xs j d
          again [] j d lt = absurd (omega arith)
          again (x ∷ xs) zero d lt = refl
          again (x ∷ xs) (suc j) d lt = again xs j d (omega arith)

      there : (item : LargeItem) → Contains items item → Contains (large_items state) item
      there item has =
          let of = given_of (large_drawn state) spans item (subst (λ (xs : List LargeItem). Contains xs item) made has) in
          let run = large_run state of.item item of.gives in
          let buffer : LiveBuffer = record { address = of.item.base; held = run.held } in
          let among = Contains-filtered (λ (b : LiveBuffer). is_none b.held.cache) state.live buffer (ap (λ (o : Option ℕ). is_none o) run.large) (held_lives state.live of.item.base run.held run.lives) in
          let pages = its_pages of.item run.held ((exactly of.item).0 of.there) run.lives run.large in
          subst (Contains (large_items state))
          (sym (ap {B = LargeItem} (λ (n : ℕ). record { base = of.item.base; size = run.held.size; bytes = bytes_from state.bytes of.item.base (PAGE_BYTES * n) }) pages) ∙ run.is)
          (Contains-mapped (large_item state) (filter (λ (b : LiveBuffer). is_none b.held.cache) state.live) buffer among)

      back : (item : LargeItem) → Contains (large_items state) item → Contains items item
      back item has =
          let from = Contains-from_mapped (large_item state) (filter (λ (b : LiveBuffer). is_none b.held.cache) state.live) item has in
          let lives = Contains-from_filtered (λ (b : LiveBuffer). is_none b.held.cache) state.live from.item from.there in
          let held = buffer_there state.live from.item separate.addresses lives.0 in
          let own = Contains-append_right (map (span_of_slab setting) state.slabs) (map span_of_large (filter (λ (b : LiveBuffer). is_none b.held.cache) state.live)) (span_of_large from.item)
          (Contains-mapped span_of_large (filter (λ (b : LiveBuffer). is_none b.held.cache) state.live) from.item from.there) in
          let gives : large_drawn state (span_of_large from.item) ≡ Some (large_item state from.item) =
          ap (option_and_then (λ held. large_held state (span_of_large from.item) held held.cache)) held ∙ by_cache from.item from.item.held.cache lives.1 in
          subst (λ (xs : List LargeItem). Contains xs item) (sym made)
          (gives_there (large_drawn state) spans (span_of_large from.item) item ((exactly (span_of_large from.item)).1 own) (gives ∙ ap (λ (i : LargeItem). Some i) from.is))
        where
          by_cache : (buffer : LiveBuffer) (cache : Option ℕ) → is_none cache ≡ true → large_held state (span_of_large buffer) buffer.held cache ≡ Some (large_item state buffer)
          by_cache buffer None is = refl
          by_cache buffer (Some cache) is = absurd (false≢true is)
