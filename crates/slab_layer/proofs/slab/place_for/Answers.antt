use Rattle.std.proofs.Common.{◌≡◌, rules}
use Rattle.std.specs.Ordering.{nat_cmp}
use Rattle.std.specs.List.Sorted.{IsBinarySearchResult}
use Rattle.std.proofs.lemmas.List.Sorted.{answers_always}
use Rattle.slab_layer.proofs.RoundsLemmas.{searched_place}
use Rattle.slab_layer.proofs.slab.place_for.Goals as goal

pub returns : goal.returns
returns c =
    let by : IsBinarySearchResult (λ y. nat_cmp y c.args.chunk) c.args.rounds.now c.binary_search_by_key.result = c.binary_search_by_key.ensures.position (λ x. x) (answers_always _ (λ a r. r ≡ a.0.now) _ (λ f a r f' called. search rules)) in
    rw c.err.ensures.value (searched_place c.args.rounds.now c.args.chunk c.binary_search_by_key.result c.requires by)
