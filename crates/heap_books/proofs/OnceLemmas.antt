-- Two lists of numbers, sorted, are one exactly where no number stands twice in the first and both have the same, if none
-- stands twice in the second.
use Rattle.std.proofs.Common.{◌≡◌, ℕ, ◌<◌, ◌↔◌, Bool, true, List, sym, ◌∙◌, subst, arith}
use Rattle.std.specs.Prelude.{AllPairs}
use Rattle.std.specs.Bool.{Decides}
use Rattle.std.specs.List.Sorted.{IsNonDecreasingBy, IsPermutation}
use Rattle.std.proofs.lemmas.List.Sorted.{Contains-permutation, IsPermutation-sym}
use Rattle.shelf.proofs.Lists.{AreDistinct, AreDistinct-permutation}
use Rattle.plain_heap.specs.Setting.{Setting}
use Rattle.plain_heap.specs.State.{State}
use Rattle.heap_pictures.specs.declared.free_places.FreePlaces.{FreePlaces}
use Rattle.heap_books.specs.Fit.{AreCpuPlacesFor, AreDepotsFor, AreListsFor, FitRun, numbers_in}
use Rattle.heap_books.specs.Tests.{StandOnceIn}
use Rattle.heap_books.proofs.OneListLemmas.{same_items}

-- numbers that do not fall, none of them twice, rise
rise_strictly : (xs : List ℕ) → IsNonDecreasingBy (λ x. x) xs → AreDistinct xs → AllPairs (λ a b. a < b) xs
rise_strictly xs up distinct i j d less lt =
    let apart = distinct i j d less lt in
    omega (arith, up i j d (omega arith) lt, apart)

module _ (xs ys sx sy : List ℕ) (px : IsPermutation xs sx) (py : IsPermutation ys sy)
    (ux : IsNonDecreasingBy (λ x. x) sx) (uy : IsNonDecreasingBy (λ x. x) sy) (distinct : AreDistinct ys) where
  once_from : sx ≡ sy → StandOnceIn xs ys
  once_from same =
      let moved : IsPermutation ys sx = subst (IsPermutation ys) (sym same) py in
      record {
        once = AreDistinct-permutation sx xs (IsPermutation-sym xs sx px) (AreDistinct-permutation ys sx moved distinct);
        same = λ n. (
          λ there. Contains-permutation sx ys n (IsPermutation-sym ys sx moved) (Contains-permutation xs sx n px there),
          λ there. Contains-permutation sx xs n (IsPermutation-sym xs sx px) (Contains-permutation ys sx n moved there),
        );
      }

  one_list : StandOnceIn xs ys → sx ≡ sy
  one_list is =
      same_items (λ a b. a < b) sx sy (λ a b less more. omega (arith, less, more))
      (rise_strictly sx ux (AreDistinct-permutation xs sx px is.once))
      (rise_strictly sy uy (AreDistinct-permutation ys sy py distinct))
      (λ n there. Contains-permutation ys sy n py ((is.same n).0 (Contains-permutation sx xs n (IsPermutation-sym xs sx px) there)))
      (λ n there. Contains-permutation xs sx n px ((is.same n).1 (Contains-permutation sy ys n (IsPermutation-sym ys sy py) there)))

  pub once_told : (one other : List ℕ) (r : Bool) → one ≡ sx → other ≡ sy → Decides r (one ≡ other)
      → (r ≡ true) ↔ StandOnceIn xs ys
  once_told one other r is its decides = (
    λ e. once_from (sym is ∙ decides.0 e ∙ its),
    λ once. decides.1 (is ∙ one_list once ∙ sym its),
  )

-- places of which the parts were tested fit where the numbers stand once as in others that fit
pub fit_told : (setting : Setting) (state : State) (places others : FreePlaces) (r : Bool)
    → AreCpuPlacesFor setting state places.cpu_places → AreDepotsFor setting state places.depots
    → AreListsFor setting state places.lists → FitRun setting state others
    → ((r ≡ true) ↔ StandOnceIn (numbers_in places) (numbers_in others)) → (r ≡ true) ↔ FitRun setting state places
fit_told setting state places others r cpus depots lists fit stand = (
  λ e.
      let once = stand.0 e in
      record {
        cpu_places = cpus;
        depots = depots;
        lists = lists;
        once = once.once;
        free = λ n. (
          λ there. (fit.free n).0 ((once.same n).0 there),
          λ free. (once.same n).1 ((fit.free n).1 free),
        );
      },
  λ its. stand.1 (record {
    once = its.once;
    same = λ n. (
      λ there. (fit.free n).1 ((its.free n).0 there),
      λ there. (its.free n).1 ((fit.free n).0 there),
    );
  }),
)
