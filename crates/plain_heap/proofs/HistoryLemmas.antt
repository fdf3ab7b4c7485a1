-- Numbered entries, one more or one less.
use Rattle.std.proofs.Common.{◌≡◌, ℕ, zero, suc, ◌+◌, List, [], ◌∷◌, ◌++◌, length, Some, ap, arith}
use Rattle.std.specs.List.{slice_get}
use Rattle.plain_heap.specs.declared.entry.Entry.{Entry}
use Rattle.plain_heap.specs.History.{IsNumbered}

pub numbered_push : (first : ℕ) (entries : List Entry) (entry : Entry) → IsNumbered first entries → entry.number ≡ first + length entries → IsNumbered first (entries ++ entry ∷ [])
numbered_push first [] entry h is = (omega (arith, is), tt)
numbered_push first (e ∷ entries) entry h is = (h.0, numbered_push (first + 1) entries entry h.1 (omega (arith, is)))

pub numbered_pop : (first : ℕ) (entries : List Entry) (entry : Entry) → IsNumbered first (entries ++ entry ∷ []) → IsNumbered first entries
numbered_pop first [] entry h = tt
numbered_pop first (e ∷ entries) entry h = (h.0, numbered_pop (first + 1) entries entry h.1)

pub number_at : (first n : ℕ) (entries : List Entry) (entry : Entry) → IsNumbered first entries → slice_get entries n ≡ Some entry → entry.number ≡ first + n
number_at first n [] entry h at = absurd (cc at)
number_at first zero (e ∷ entries) entry h at = let same : e ≡ entry = cc in omega (arith, h.0, ap (λ (x : Entry). x.number) same)
number_at first (suc n) (e ∷ entries) entry h at = omega (arith, number_at (first + 1) n entries entry h.1 at)
