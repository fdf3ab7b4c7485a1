-- The test that no span holds an address, and what it says.
use Rattle.std.proofs.Common.{◌≡◌, ℕ, ◌⊎◌, true, false, not, ◌&&◌, List, [], ◌∷◌, refl, sym, arith, inl, inr}
use Rattle.std.proofs.lemmas.Bool.{cases_lt, lt-ltb, le-ltb, le-leb, lt-leb, false≢true}
use Rattle.std.proofs.lemmas.List.Sums.{AllPass-from_list_all, list_all-from_AllPass}
use Rattle.std.proofs.Math.Bool.{and_comm, and_assoc}
use Rattle.umem_base.specs.declared.span.Span.{Span}
use Rattle.umem_base.specs.Ordered.{put_by}
use Rattle.umem_base.specs.Span.{LiesIn, span_end}
use Rattle.umem_base.proofs.OrderedLemmas.{put_by-front, put_by-behind}
use Rattle.span_arena.specs.Arena.{IsUntaken}
use Rattle.span_arena.specs.Untaken.{lies_in, is_untaken}

-- the test of one span, with what it says
lies_in_tells : (s : Span) (a : ℕ) → ((lies_in s a ≡ true) × LiesIn s a) ⊎ ((lies_in s a ≡ false) × (LiesIn s a → ⊥))
lies_in_tells s a =
    elim (cases_lt a s.base) [
      | inl low ↦ inr (rw (lt-leb s.base a low) refl, λ h. omega (arith, h.0))
      | inr from ↦ elim (cases_lt a (span_end s)) [
        | inl to ↦ inl (rw (le-leb s.base a from, lt-ltb a (span_end s) to) refl, (from, to))
        | inr past ↦ inr (rw (le-leb s.base a from, le-ltb a (span_end s) past) refl, λ h. omega (arith, h.1))
      ]
    ]

not_lies_in : (s : Span) (a : ℕ) → not (lies_in s a) ≡ true → LiesIn s a → ⊥
not_lies_in s a e =
    elim (lies_in_tells s a) [
      | inl in_it ↦ absurd (false≢true (rw in_it.0 at e))
      | inr out ↦ out.1
    ]

lies_in-not : (s : Span) (a : ℕ) → (LiesIn s a → ⊥) → not (lies_in s a) ≡ true
lies_in-not s a h =
    elim (lies_in_tells s a) [
      | inl in_it ↦ absurd (h in_it.1)
      | inr out ↦ rw out.0 refl
    ]

pub is_untaken-tells : (spans : List Span) (a : ℕ) → is_untaken spans a ≡ true → IsUntaken spans a
is_untaken-tells spans a e =
    let pass = AllPass-from_list_all (λ (s : Span). not (lies_in s a)) spans e in
    λ k d lt. not_lies_in _ a (pass k d lt)

pub is_untaken-from : (spans : List Span) (a : ℕ) → IsUntaken spans a → is_untaken spans a ≡ true
is_untaken-from spans a h =
    list_all-from_AllPass (λ (s : Span). not (lies_in s a)) spans (λ k d lt. lies_in-not _ a (h k d lt))

-- with a span more
pub is_untaken-put_by : (spans : List Span) (span : Span) (a : ℕ) → is_untaken (put_by (λ s. s.base) spans span) a ≡ (is_untaken spans a && not (lies_in span a))
is_untaken-put_by [] span a = and_comm (not (lies_in span a)) true
is_untaken-put_by (s ∷ spans) span a =
    let key : Span → ℕ = λ t. t.base in
    elim (cases_lt span.base s.base) [
      | inl lt ↦ rw (put_by-front key s spans span lt) (and_comm (not (lies_in span a)) (is_untaken (s ∷ spans) a))
      | inr le ↦ rw (put_by-behind key s spans span le, is_untaken-put_by spans span a) (sym (and_assoc (not (lies_in s a)) (is_untaken spans a) (not (lies_in span a))))
    ]
