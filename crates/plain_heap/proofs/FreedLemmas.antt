-- What is given back frees its pages, and no others.
use Rattle.std.proofs.Common.{◌≡◌, ◌≢◌, ℕ, ◌+◌, ◌*◌, ◌<◌, ◌≤◌, inl, inr, Bool, true, false, cond, eqb, not, ◌&&◌, ◌||◌, List, [], ◌∷◌, ◌++◌, get_or, map, Some, refl, sym, ap, ◌∙◌, subst, arith}
use Rattle.std.specs.Prelude.{All, Contains, filter}
use Rattle.std.specs.List.{list_any}
use Rattle.std.proofs.lemmas.Bool.{and_parts, leb-true, ltb-true}
use Rattle.std.proofs.lemmas.Bool.Decides.{eqb_tells}
use Rattle.std.proofs.lemmas.List.Elements.{All-contains, All-contains_itself, All-head, All-tail}
use Rattle.std.proofs.lemmas.List.Folds.{list_any-append}
use Rattle.umem_base.specs.declared.span.Span.{Span}
use Rattle.umem_base.specs.Ordered.{left_out_by}
use Rattle.umem_base.proofs.Lists.{Contains-here, Contains-there}
use Rattle.umem_base.proofs.OrderedLemmas.{left_out_by-drops, left_out_by-keeps}
use Rattle.plain_heap.specs.declared.held.Held.{Held}
use Rattle.plain_heap.specs.Laws.{LargeBuffersFreeTheirPages, ShrinksFreeTheirPages, StandApart, large}
use Rattle.plain_heap.specs.Setting.{Setting}
use Rattle.plain_heap.specs.State.{HeapSlab, LiveBuffer, give_back, held_at, is_in_span, is_taken, span_of_large, span_of_slab, state_of}
use Rattle.plain_heap.proofs.EntryLemmas.{held_first}
use Rattle.plain_heap.proofs.PairsLemmas.{All-passing, pair_of}
use Rattle.plain_heap.proofs.PlacesLemmas.{AreInPlace, IsInArena, apart_bases, is_large}
use Rattle.plain_heap.proofs.SeparateLemmas.{history_in_place}

-- ---- an address in two runs

in_span : (address : ℕ) (span : Span) → is_in_span address span ≡ true → (span.base ≤ address) × (address < span.base + 4096 * span.pages)
in_span address span h =
    let both = and_parts _ _ h in
    (leb-true span.base address both.0, ltb-true address (span.base + 4096 * span.pages) both.1)

-- no address is in two runs that stand apart
not_both : (address : ℕ) (one other : Span) → StandApart one other → is_in_span address one ≡ true → is_in_span address other ≡ true → ⊥
not_both address one other (inl below) h g =
    let low = in_span address one h in let high = in_span address other g in absurd (omega (arith, below, low.1, high.0))
not_both address one other (inr above) h g =
    let high = in_span address one h in let low = in_span address other g in absurd (omega (arith, above, low.1, high.0))

pub false_since : (b : Bool) → (b ≡ true → ⊥) → b ≡ false
false_since true h = absurd (h refl)
false_since false h = refl

-- ---- tests of lists without some items

drop_same : (gone test rest : Bool) → test ≡ gone → (not gone && rest) ≡ (not gone && (test || rest))
drop_same true test rest h = refl
drop_same false test rest h = rw h refl

keep_other : (gone test rest : Bool) → (gone ≡ true → test ≡ false) → (test || (not gone && rest)) ≡ (not gone && (test || rest))
keep_other true test rest h = rw (h refl) refl
keep_other false test rest h = refl

and_none : (b : Bool) → false ≡ (not b && false)
and_none true = refl
and_none false = refl

-- the one item of a key is what the test tells of it, and another item is none of its addresses
record IsOnly {X : Type 0} (key : X → ℕ) (test : X → Bool) (value : ℕ) (gone : Bool) (x : X) : Type 0 where
  its : key x ≡ value → test x ≡ gone
  other : key x ≢ value → gone ≡ true → test x ≡ false

any_left : {X : Type 0} (key : X → ℕ) (span : X → Span) (address value : ℕ) (gone : Bool) (xs : List X) → All (IsOnly key (λ x. is_in_span address (span x)) value gone) xs
    → list_any (is_in_span address) (map span (left_out_by key xs value)) ≡ (not gone && list_any (is_in_span address) (map span xs))
any_left {X} key span address value gone [] h = and_none gone
any_left {X} key span address value gone (x ∷ xs) h =
    let P = IsOnly key (λ (y : X). is_in_span address (span y)) value gone in
    let here = All-head P x xs h in
    let later = any_left key span address value gone xs (All-tail P x xs h) in
    let test = is_in_span address (span x) in
    let rest = list_any (is_in_span address) (map span xs) in
    elim (eqb_tells (key x) value) [
      | inl e ↦ ap (λ (l : List X). list_any (is_in_span address) (map span l)) (left_out_by-drops key x xs value e.1) ∙ later ∙ drop_same gone test rest (here.its e.1)
      | inr e ↦
          ap (λ (l : List X). list_any (is_in_span address) (map span l)) (left_out_by-keeps key x xs value e.1) ∙ ap (λ b. test || b) later
          ∙ keep_other gone test rest (here.other e.1)
    ]

-- none of the items is over an address that is gone
any_none : {X : Type 0} (span : X → Span) (address : ℕ) (gone : Bool) (xs : List X) → All (λ x. gone ≡ true → is_in_span address (span x) ≡ false) xs
    → list_any (is_in_span address) (map span xs) ≡ (not gone && list_any (is_in_span address) (map span xs))
any_none {X} span address gone [] h = and_none gone
any_none {X} span address gone (x ∷ xs) h =
    let P : X → Type 0 = λ y. gone ≡ true → is_in_span address (span y) ≡ false in
    let later = any_none span address gone xs (All-tail P x xs h) in
    let test = is_in_span address (span x) in
    ap (λ b. test || b) later ∙ keep_other gone test (list_any (is_in_span address) (map span xs)) (All-head P x xs h)

both_parts : (gone one other : Bool) → ((not gone && one) || (not gone && other)) ≡ (not gone && (one || other))
both_parts true one other = refl
both_parts false one other = refl

-- ---- shrinks

module _ (setting : Setting) (live : List LiveBuffer) (slabs : List HeapSlab) (places : AreInPlace setting live slabs) (slab : HeapSlab) (stands : Contains slabs slab) (address : ℕ) where
  slab_only : (x : HeapSlab) → Contains slabs x → IsOnly (λ (s : HeapSlab). s.base) (λ s. is_in_span address (span_of_slab setting s)) slab.base (is_in_span address (span_of_slab setting slab)) x
  slab_only x there =
      let R = λ (a b : HeapSlab). StandApart (span_of_slab setting a) (span_of_slab setting b) in
      let InArena : HeapSlab → Type 0 = λ s. IsInArena setting (span_of_slab setting s) in
      let some = (All-contains InArena slabs slab places.slabs_in stands).some in
      let more = (All-contains InArena slabs x places.slabs_in there).some in
      let one = span_of_slab setting slab in
      let other = span_of_slab setting x in
      elim (pair_of R slabs slab x places.slabs_apart stands there) [
        | inl same ↦
            record {
              its = λ e. ap (λ (s : HeapSlab). is_in_span address (span_of_slab setting s)) (sym same);
              other = λ ne gone. absurd (ne (ap (λ (s : HeapSlab). s.base) (sym same)));
            }
        | inr apart ↦
            elim apart [
              | inl before ↦
                  record {
                    its = λ e. absurd (apart_bases one other some more before (sym e));
                    other = λ ne gone. false_since _ (not_both address one other before gone);
                  }
              | inr behind ↦
                  record {
                    its = λ e. absurd (apart_bases other one more some behind e);
                    other = λ ne gone. false_since _ (λ h. not_both address other one behind h gone);
                  }
            ]
      ]

  shrink_frees : list_any (is_in_span address) (map (span_of_slab setting) (left_out_by (λ s. s.base) slabs slab.base) ++ map span_of_large (filter is_large live))
      ≡ (not (is_in_span address (span_of_slab setting slab)) && list_any (is_in_span address) (map (span_of_slab setting) slabs ++ map span_of_large (filter is_large live)))
  shrink_frees =
      let test = is_in_span address in
      let gone = test (span_of_slab setting slab) in
      let larges = filter is_large live in
      let left = map (span_of_slab setting) (left_out_by (λ (s : HeapSlab). s.base) slabs slab.base) in
      let all = map (span_of_slab setting) slabs in
      let across : All (λ b. gone ≡ true → test (span_of_large b) ≡ false) larges =
      All-passing (λ (b : LiveBuffer). gone ≡ true → test (span_of_large b) ≡ false) is_large live
      (λ k d lt big is. false_since _ (not_both address (span_of_slab setting slab) (span_of_large (get_or live k d))
      (All-contains (λ (s : HeapSlab). StandApart (span_of_slab setting s) (span_of_large (get_or live k d))) slabs slab (places.across k d lt big) stands) is)) in
      list_any-append test left (map span_of_large larges)
      ∙ ap (λ b. b || list_any test (map span_of_large larges)) (any_left (λ (s : HeapSlab). s.base) (span_of_slab setting) address slab.base gone slabs (λ k d lt. slab_only (get_or slabs k d) (All-contains_itself slabs k d lt)))
      ∙ ap (λ b. (not gone && list_any test all) || b) (any_none span_of_large address gone larges across)
      ∙ both_parts gone (list_any test all) (list_any test (map span_of_large larges))
      ∙ ap (λ b. not gone && b) (sym (list_any-append test all (map span_of_large larges)))

pub shrinks_free : ShrinksFreeTheirPages
shrinks_free setting entries slab address header legal stands =
    let state = state_of setting entries in
    shrink_frees setting state.live state.slabs (history_in_place setting entries header legal) slab stands address

-- ---- large buffers

filter_swap : {X : Type 0} (p q : X → Bool) (xs : List X) → filter p (filter q xs) ≡ filter q (filter p xs)
filter_swap p q [] = refl
filter_swap {X} p q (x ∷ xs) = go (p x) (q x) refl refl (filter_swap p q xs)
  where
    go : (b c : Bool) → p x ≡ b → q x ≡ c → filter p (filter q xs) ≡ filter q (filter p xs) → filter p (filter q (x ∷ xs)) ≡ filter q (filter p (x ∷ xs))
    go true true h g later = simp (h, g) (ap (λ (l : List X). x ∷ l) later)
    go true false h g later = simp (h, g) later
    go false true h g later = simp (h, g) later
    go false false h g later = simp (h, g) later

-- what lives at an address is one of the live buffers
record IsFound (live : List LiveBuffer) (at : ℕ) (held : Held) : Type 0 where
  buffer : LiveBuffer
  there : Contains live buffer
  is : buffer ≡ record { address = at; held = held }

abbrev buffer_with : ℕ → Held → LiveBuffer
buffer_with at held = record { address = at; held = held }

found_buffer : (live : List LiveBuffer) (at : ℕ) (held : Held) → held_at live at ≡ Some held → IsFound live at held
found_buffer [] at held h = absurd (cc h)
found_buffer (first ∷ live) at held h =
    let first_is = sym (held_first first live at) ∙ h in
    elim (eqb_tells first.address at) [
      | inl e ↦
          let same : Some first.held ≡ Some held = ap (λ b. cond b (Some first.held) (held_at live at)) (sym e.0) ∙ first_is in
          let helds : first.held ≡ held = cc in
          record {
            buffer = first;
            there = Contains-here first live;
            is = ap (λ (a : ℕ). buffer_with a first.held) e.1 ∙ ap (buffer_with at) helds;
          }
      | inr e ↦
          let later = found_buffer live at held (ap (λ b. cond b (Some first.held) (held_at live at)) (sym e.0) ∙ first_is) in
          record { buffer = later.buffer; there = Contains-there first later.buffer live later.there; is = later.is }
    ]

module _ (setting : Setting) (live : List LiveBuffer) (slabs : List HeapSlab) (places : AreInPlace setting live slabs) (b : LiveBuffer) (stands : Contains live b) (big : is_large b ≡ true) (address : ℕ) where
  large_only : (x : LiveBuffer) → Contains live x → is_large x ≡ true → IsOnly (λ (y : LiveBuffer). y.address) (λ y. is_in_span address (span_of_large y)) b.address (is_in_span address (span_of_large b)) x
  large_only x there wide =
      let R = λ (y z : LiveBuffer). is_large y ≡ true → is_large z ≡ true → StandApart (span_of_large y) (span_of_large z) in
      record {
        its = λ e. elim (pair_of (λ (y z : LiveBuffer). y.address ≢ z.address) live b x places.addresses stands there) [
          | inl same ↦ ap (λ (y : LiveBuffer). is_in_span address (span_of_large y)) (sym same)
          | inr apart ↦ elim apart [ inl before ↦ absurd (before (sym e)) | inr behind ↦ absurd (behind e) ]
        ];
        other = λ ne gone. elim (pair_of R live b x places.large_apart stands there) [
          | inl same ↦ absurd (ne (ap (λ (y : LiveBuffer). y.address) (sym same)))
          | inr apart ↦ elim apart [
            | inl before ↦ false_since _ (not_both address (span_of_large b) (span_of_large x) (before big wide) gone)
            | inr behind ↦ false_since _ (λ h. not_both address (span_of_large x) (span_of_large b) (behind wide big) h gone)
          ]
        ];
      }

  large_frees : list_any (is_in_span address) (map (span_of_slab setting) slabs ++ map span_of_large (filter is_large (left_out_by (λ y. y.address) live b.address)))
      ≡ (not (is_in_span address (span_of_large b)) && list_any (is_in_span address) (map (span_of_slab setting) slabs ++ map span_of_large (filter is_large live)))
  large_frees =
      let test = is_in_span address in
      let key : LiveBuffer → ℕ = λ y. y.address in
      let gone = test (span_of_large b) in
      let larges = filter is_large live in
      let all = map (span_of_slab setting) slabs in
      let across : All (λ s. gone ≡ true → test (span_of_slab setting s) ≡ false) slabs =
      λ k d lt is. false_since _ (λ h. not_both address (span_of_slab setting (get_or slabs k d)) (span_of_large b)
      (All-contains (λ (y : LiveBuffer). is_large y ≡ true → All (λ s. StandApart (span_of_slab setting s) (span_of_large y)) slabs) live b places.across stands big k d lt) h is) in
      let only : All (IsOnly key (λ y. test (span_of_large y)) b.address gone) larges =
      All-passing (IsOnly key (λ (y : LiveBuffer). test (span_of_large y)) b.address gone) is_large live (λ k d lt wide. large_only (get_or live k d) (All-contains_itself live k d lt) wide) in
      ap (λ (l : List LiveBuffer). list_any test (all ++ map span_of_large l)) (filter_swap is_large (λ (y : LiveBuffer). not (eqb y.address b.address)) live)
      ∙ list_any-append test all (map span_of_large (left_out_by key larges b.address))
      ∙ ap (λ x. x || list_any test (map span_of_large (left_out_by key larges b.address))) (any_none (span_of_slab setting) address gone slabs across)
      ∙ ap (λ x. (not gone && list_any test all) || x) (any_left key span_of_large address b.address gone larges only)
      ∙ both_parts gone (list_any test all) (list_any test (map span_of_large larges))
      ∙ ap (λ x. not gone && x) (sym (list_any-append test all (map span_of_large larges)))

pub larges_free : LargeBuffersFreeTheirPages
larges_free setting entries size at address header legal held =
    let state = state_of setting entries in
    let found = found_buffer state.live at (large size) held in
    let big : is_large found.buffer ≡ true = ap is_large found.is in
    subst (λ (b : LiveBuffer). is_taken setting (give_back setting state b.address) address ≡ (not (is_in_span address (span_of_large b)) && is_taken setting state address)) found.is
    (large_frees setting state.live state.slabs (history_in_place setting entries header legal) found.buffer found.there big address)
