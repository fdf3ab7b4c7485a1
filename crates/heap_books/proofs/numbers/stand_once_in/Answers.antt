use Rattle.std.proofs.Common.{List, ℕ, subst}
use Rattle.std.specs.List.Sorted.{IsPermutation}
use Rattle.std.proofs.lemmas.Bool.Decides.{Decides-eqb}
use Rattle.std.proofs.lemmas.List.Sorted.{IsNonDecreasingBy-from_sort}
use Rattle.std.proofs.lemmas.Slice.Eq.{slice_eq-Decides}
use Rattle.heap_books.specs.Fit.{numbers_in}
use Rattle.heap_books.proofs.OnceLemmas.{once_told}
use Rattle.heap_books.proofs.numbers.stand_once_in.Goals as goal

pub returns : goal.returns
returns c =
    let one = c.sort_unstable.new.self.items in
    let other = c.sort_unstable-2.new.self.items in
    once_told (numbers_in c.args.places.now) (numbers_in c.args.others.now) one other
    (subst (λ (l : List ℕ). IsPermutation l one) c.in_ok-numbers.ensures c.sort_unstable.ensures.permutation)
    (subst (λ (l : List ℕ). IsPermutation l other) c.in_ok-wanted.ensures c.sort_unstable-2.ensures.permutation)
    (IsNonDecreasingBy-from_sort (λ x. x) one c.sort_unstable.ensures.sorted)
    (IsNonDecreasingBy-from_sort (λ x. x) other c.sort_unstable-2.ensures.sorted) c.requires c.as_slice.result.now
    c.as_slice-2.result.now c.eq.result c.as_slice.ensures.value c.as_slice-2.ensures.value
    (slice_eq-Decides Decides-eqb c.as_slice.result.now c.as_slice-2.result.now c.eq.result c.eq.ensures)
