-- The runs of pages that slabs and large buffers take, looked through one by one.
use Rattle.std.proofs.Common.{◌≡◌, ℕ, Bool, true, false, cond, ◌&&◌, ◌||◌, List, [], ◌∷◌, ◌++◌, map, refl, sym, ap, ◌∙◌}
use Rattle.std.specs.Prelude.{filter, is_none}
use Rattle.std.specs.List.{list_any}
use Rattle.std.proofs.lemmas.List.Folds.{list_any-append}
use Rattle.plain_heap.specs.Setting.{Setting}
use Rattle.plain_heap.specs.State.{HeapSlab, LiveBuffer, is_in_span, span_of_large, span_of_slab}
use Rattle.yardstick.specs.Tests.{is_in_large_buffer}

any_mapped : {X Y : Type 0} (test : Y → Bool) (f : X → Y) (xs : List X) → list_any test (map f xs) ≡ list_any (λ x. test (f x)) xs
any_mapped test f [] = refl
any_mapped test f (x ∷ xs) = ap (λ b. test (f x) || b) (any_mapped test f xs)

any_kept : {X Y : Type 0} (test : Y → Bool) (f : X → Y) (keep : Bool) (x : X) (xs : List X) (rest : Bool) → list_any test (map f xs) ≡ rest
    → list_any test (map f (cond keep (x ∷ xs) xs)) ≡ ((keep && test (f x)) || rest)
any_kept test f true x xs rest h = ap (λ b. test (f x) || b) h
any_kept test f false x xs rest h = h

any_large : (address : ℕ) (live : List LiveBuffer)
    → list_any (is_in_span address) (map span_of_large (filter (λ buffer. is_none buffer.held.cache) live)) ≡ list_any (is_in_large_buffer address) live
any_large address [] = refl
any_large address (buffer ∷ live) =
    any_kept (is_in_span address) span_of_large (is_none buffer.held.cache) buffer (filter (λ (b : LiveBuffer). is_none b.held.cache) live)
    (list_any (is_in_large_buffer address) live) (any_large address live)

-- an address is taken by a slab or by a large buffer
taken_by : (setting : Setting) (live : List LiveBuffer) (slabs : List HeapSlab) (address : ℕ)
    → list_any (is_in_span address) (map (span_of_slab setting) slabs ++ map span_of_large (filter (λ buffer. is_none buffer.held.cache) live))
    ≡ (list_any (λ slab. is_in_span address (span_of_slab setting slab)) slabs || list_any (is_in_large_buffer address) live)
taken_by setting live slabs address =
    list_any-append (is_in_span address) (map (span_of_slab setting) slabs) (map span_of_large (filter (λ (b : LiveBuffer). is_none b.held.cache) live))
    ∙ ap (λ b. b || list_any (is_in_span address) (map span_of_large (filter (λ (buffer : LiveBuffer). is_none buffer.held.cache) live)))
    (any_mapped (is_in_span address) (span_of_slab setting) slabs)
    ∙ ap (λ b. list_any (λ (slab : HeapSlab). is_in_span address (span_of_slab setting slab)) slabs || b) (any_large address live)

or_first : (a b r : Bool) → r ≡ a → r ≡ true → r ≡ (a || b)
or_first a b r h t = t ∙ sym (ap (λ x. x || b) (sym h ∙ t))

or_second : (a b r s : Bool) → r ≡ a → r ≡ false → s ≡ b → s ≡ (a || b)
or_second a b r s h f t = t ∙ sym (ap (λ x. x || b) (sym h ∙ f))

-- it is in a slab
pub taken_by_slab : (setting : Setting) (live : List LiveBuffer) (slabs : List HeapSlab) (address : ℕ) (is : Bool)
    → is ≡ list_any (λ slab. is_in_span address (span_of_slab setting slab)) slabs → is ≡ true
    → is ≡ list_any (is_in_span address) (map (span_of_slab setting) slabs ++ map span_of_large (filter (λ buffer. is_none buffer.held.cache) live))
taken_by_slab setting live slabs address is same h = or_first _ (list_any (is_in_large_buffer address) live) is same h ∙ sym (taken_by setting live slabs address)

-- it is in none, so that large buffers decide
pub taken_by_large : (setting : Setting) (live : List LiveBuffer) (slabs : List HeapSlab) (address : ℕ) (is large : Bool)
    → is ≡ list_any (λ slab. is_in_span address (span_of_slab setting slab)) slabs → is ≡ false → large ≡ list_any (is_in_large_buffer address) live
    → large ≡ list_any (is_in_span address) (map (span_of_slab setting) slabs ++ map span_of_large (filter (λ buffer. is_none buffer.held.cache) live))
taken_by_large setting live slabs address is large same h its =
    or_second _ (list_any (is_in_large_buffer address) live) is large same h its ∙ sym (taken_by setting live slabs address)
