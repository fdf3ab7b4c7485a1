-- How far the search has come after a buffer more, and what it has found at its end.
use Rattle.std.proofs.Common.{◌≡◌, ℕ, ◌+◌, ◌<◌, ◌≤◌, Bool, true, false, List, [], ◌∷◌, ◌++◌, length, get_or, take, Some, refl, sym, ap, subst, ◌∙◌, arith, inl, inr, length-append}
use Rattle.std.specs.List.{All, Contains, slice_get, sum_by}
use Rattle.std.proofs.lemmas.Bool.{both_ways, cases_lt, false_from_ne_true, and_parts, leb-true, ltb-true, lt-ltb}
use Rattle.std.proofs.lemmas.List.{append-nil, get_or_append_left, get_or_default, take-append-le, take_all, take_more}
use Rattle.std.proofs.lemmas.List.Concat.{flat_map-append, length-flat_map}
use Rattle.std.proofs.lemmas.List.Quantifiers.{position-Some}
use Rattle.std.proofs.lemmas.List.Sums.{position_or_len_is, sum_by-cons, sum_by-take-le, sum_by_more}
use Rattle.std.proofs.lemmas.Option.{get_or_from_slice_get, same_Some, slice_get-get_or, slice_get_within}
use Rattle.core_format.specs.declared.items.OwnRoot.{OwnRoot}
use Rattle.core_format.specs.declared.whole.Core.{Core}
use Rattle.heap_view.specs.declared.buffer.Buffer.{Buffer}
use Rattle.heap_view.specs.Buffers.{buffers_of}
use Rattle.heap_view.specs.Memory.{own_words, root_words, word_count, words_in}
use Rattle.heap_view.specs.Points.{AreBuffersApart, PointsTo, place_of_word, points_to}
use Rattle.heap_view.specs.Reached.{HasPointerTo, IsReached, IsReachedBy}
use Rattle.findleaks.specs.Found.{Found, IsConsistent, is_marked, marked_sum, none_found, with_words}
use Rattle.findleaks.specs.Follow.{IsFollowed, IsSearched, IsSoundStart, no_buffer, words_of_index}
use Rattle.findleaks.specs.Classes.{IsSettled}
use Rattle.findleaks.proofs.FoundLemmas.{IsGrown, IsPlaceOfAny, get_or-none, marked_within, none_is_consistent, with_words_are_consistent, with_words_grow, words_behind}

-- the buffer at an index is one of the list
pub Contains-slice_get : (buffers : List Buffer) (i : ℕ) (b : Buffer) → slice_get buffers i ≡ Some b → Contains buffers b
Contains-slice_get buffers i b e = (i, slice_get_within buffers i b e, get_or_from_slice_get buffers i b b e)

-- a buffer of the list is at an index
pub slice_get-Contains : (buffers : List Buffer) (b : Buffer) → (has : Contains buffers b) → slice_get buffers has.0 ≡ Some b
slice_get-Contains buffers b has = slice_get-get_or buffers has.0 b has.1 ∙ ap Some has.2

-- the buffer that a word points to is one that it points to
pub place_points : (buffers : List Buffer) (word i : ℕ) (b : Buffer) → place_of_word word buffers ≡ Some i → slice_get buffers i ≡ Some b → PointsTo word b
place_points buffers word i b place e =
    let there = (position-Some (points_to word) buffers i b place).1 in
    subst (λ (x : Buffer). points_to word x ≡ true) (get_or_from_slice_get buffers i b b e) there

points_one : (lower upper : Buffer) (word : ℕ) → lower.address + lower.size ≤ upper.address → PointsTo word upper → PointsTo word lower → ⊥
points_one lower upper word below up low =
    let from : upper.address ≤ word = leb-true _ _ (and_parts _ _ up).0 in
    let to : word < lower.address + lower.size = ltb-true _ _ (and_parts _ _ low).1 in
    absurd (omega arith)

-- of buffers that stand apart a word points to one at most
pub pointer_has_place : (buffers : List Buffer) (word i : ℕ) (b : Buffer) → AreBuffersApart buffers → slice_get buffers i ≡ Some b → PointsTo word b → place_of_word word buffers ≡ Some i
pointer_has_place buffers word i b apart e points =
    let lt : i < length buffers = slice_get_within buffers i b e in
    let is : get_or buffers i b ≡ b = get_or_from_slice_get buffers i b b e in
    let here : points_to word (get_or buffers i b) ≡ true = subst (λ (x : Buffer). points_to word x ≡ true) (sym is) points in
    let first = position_or_len_is (points_to word) buffers i b (omega arith)
    (λ k below. false_from_ne_true _ (λ low. points_one (get_or buffers k b) (get_or buffers i b) word (apart k i b below lt) here low))
    (λ _. here) in
    rw (first, lt-ltb i (length buffers) lt) refl

-- what is reached in one step from a reached buffer is reached
pub reached_from_reached : (core : Core) (before b : Buffer) → IsReached core before → Contains (buffers_of core) b → HasPointerTo (words_in core before) b → IsReached core b
reached_from_reached core before b reached contains points = (contains, (before ∷ reached.1.0, (reached.0, points, reached.1.1)))

pub reached_from_roots : (core : Core) (b : Buffer) → Contains (buffers_of core) b → HasPointerTo (root_words core) b → IsReached core b
reached_from_roots core b contains points = (contains, ([], points))

-- what words add is reached, where each buffer that they point to is
pub sound_more : (core : Core) (found next : Found) (words : List ℕ) → ((b : Buffer) → Contains (buffers_of core) b → HasPointerTo words b → IsReached core b) → IsSoundStart core found → IsGrown found next (IsPlaceOfAny (buffers_of core) words) → IsSoundStart core next
sound_more core found next words reason sound grown i b marked e =
    elim (grown.why i marked) [
      | inl old ↦ sound i b old e
      | inr some ↦ reason b (Contains-slice_get (buffers_of core) i b e) (some.0, some.1, some.2, some.3, place_points (buffers_of core) some.1 i b some.4 e)
    ]

-- the words that were followed have their buffers marked
pub words_followed : (buffers : List Buffer) (found next : Found) (words : List ℕ) → IsGrown found next (IsPlaceOfAny buffers words) → All (IsFollowed buffers next) words
words_followed buffers found next words grown k d lt i place =
    grown.hit i (k, get_or words k d, lt, get_or_default words k _ d lt, place)

-- before the first buffer
pub search_start : (core : Core) (start : Found) → IsConsistent (length (buffers_of core)) start → IsSoundStart core start → IsSearched core start start 0
search_start core start consistent sound = record {
  consistent = consistent;
  sound = sound;
  within = omega arith;
  kept = λ i e. e;
  followed = λ k b lt. absurd (omega arith);
}

-- what grew has its first places where they were
pub grown_at : (found next : Found) (IsPlace : ℕ → Type 0) → IsGrown found next IsPlace → (k : ℕ) → k < length found.order → get_or next.order k 0 ≡ get_or found.order k 0
grown_at found next IsPlace grown k lt = rw grown.behind.1 (get_or_append_left found.order grown.behind.0 0 k lt)

pub grown_longer : (found next : Found) (IsPlace : ℕ → Type 0) → IsGrown found next IsPlace → length found.order ≤ length next.order
grown_longer found next IsPlace grown = rw grown.behind.1 (omega (arith, length-append found.order grown.behind.0))

pub grown_take : (found next : Found) (IsPlace : ℕ → Type 0) → IsGrown found next IsPlace → (n : ℕ) → n ≤ length found.order → take n next.order ≡ take n found.order
grown_take found next IsPlace grown n le = rw grown.behind.1 (take-append-le n found.order grown.behind.0 le)

-- the buffer found at a place, and its index
pub found_at : (core : Core) (start found : Found) (count k : ℕ) → IsSearched core start found count → k < length found.order → get_or found.order k 0 < length (buffers_of core)
found_at core start found count k searched lt =
    omega (arith, marked_within found.marks (get_or found.order k 0) (searched.consistent.listed k lt), searched.consistent.sized)

followed_more : (core : Core) (start found : Found) (count : ℕ) (b : Buffer) → IsSearched core start found count → count < length found.order → slice_get (buffers_of core) (get_or found.order count 0) ≡ Some b → (k : ℕ) (x : Buffer) → k < count + 1 → slice_get (buffers_of core) (get_or (with_words (buffers_of core) found (words_in core b)).order k 0) ≡ Some x → All (IsFollowed (buffers_of core) (with_words (buffers_of core) found (words_in core b))) (words_in core x)
followed_more core start found count b searched lt e k x below ex =
    let buffers = buffers_of core in
    let words = words_in core b in
    let next = with_words buffers found words in
    let grown = with_words_grow buffers words found searched.consistent in
    let at : get_or next.order k 0 ≡ get_or found.order k 0 = grown_at found next (IsPlaceOfAny buffers words) grown k (omega arith) in
    let old : slice_get buffers (get_or found.order k 0) ≡ Some x = subst (λ (i : ℕ). slice_get buffers i ≡ Some x) at ex in
    elim (cases_lt k count) [
      | inl before ↦ λ j d within i place. grown.kept i (searched.followed k x before old j d within i place)
      | inr last ↦
          let same : k ≡ count = omega arith in
          let is_b : b ≡ x = same_Some b x (sym e ∙ subst (λ (n : ℕ). slice_get buffers (get_or found.order n 0) ≡ Some x) same old) in
          subst (λ (y : Buffer). All (IsFollowed buffers next) (words_in core y)) is_b (words_followed buffers found next words grown)
    ]

-- after one buffer more
pub search_step : (core : Core) (start found : Found) (count : ℕ) (b : Buffer) → IsSearched core start found count → count < length found.order → slice_get (buffers_of core) (get_or found.order count 0) ≡ Some b → IsSearched core start (with_words (buffers_of core) found (words_in core b)) (count + 1)
search_step core start found count b searched lt e =
    let buffers = buffers_of core in
    let words = words_in core b in
    let next = with_words buffers found words in
    let grown = with_words_grow buffers words found searched.consistent in
    let reached : IsReached core b = searched.sound (get_or found.order count 0) b (searched.consistent.listed count lt) e in
    record {
      consistent = with_words_are_consistent buffers words found searched.consistent;
      sound = sound_more core found next words (λ x contains points. reached_from_reached core b x reached contains points) searched.sound grown;
      within = omega (arith, grown_longer found next (IsPlaceOfAny buffers words) grown);
      kept = λ i marked. grown.kept i (searched.kept i marked);
      followed = followed_more core start found count b searched lt e;
    }

-- the roots alone
abbrev pub from_roots : Core → Found
from_roots core = with_words (buffers_of core) (none_found (length (buffers_of core))) (root_words core)

nothing_is_sound : (core : Core) → IsSoundStart core (none_found (length (buffers_of core)))
nothing_is_sound core i b marked e = absurd (both_ways _ (get_or-none (length (buffers_of core)) i) marked)

pub roots_are_consistent : (core : Core) → IsConsistent (length (buffers_of core)) (from_roots core)
roots_are_consistent core =
    with_words_are_consistent (buffers_of core) (root_words core) (none_found (length (buffers_of core))) (none_is_consistent (length (buffers_of core)))

roots_grown : (core : Core) → IsGrown (none_found (length (buffers_of core))) (from_roots core) (IsPlaceOfAny (buffers_of core) (root_words core))
roots_grown core = with_words_grow (buffers_of core) (root_words core) (none_found (length (buffers_of core))) (none_is_consistent (length (buffers_of core)))

pub roots_are_sound : (core : Core) → IsSoundStart core (from_roots core)
roots_are_sound core =
    sound_more core (none_found (length (buffers_of core))) (from_roots core) (root_words core) (reached_from_roots core) (nothing_is_sound core) (roots_grown core)

-- at the end each buffer that a chain leads to is marked
chain_marked : (core : Core) (found : Found) → AreBuffersApart (buffers_of core) → IsSearched core (from_roots core) found (length found.order) → (chain : List Buffer) (i : ℕ) (b : Buffer) → slice_get (buffers_of core) i ≡ Some b → IsReachedBy core chain b → is_marked found i ≡ true
chain_marked core found apart searched [] i b e points =
    let word = points.1 in
    let place = pointer_has_place (buffers_of core) word i b apart e points.4 in
    searched.kept i ((roots_grown core).hit i (points.0, word, points.2, points.3, place))
chain_marked core found apart searched (before ∷ chain) i b e by =
    let buffers = buffers_of core in
    let m = by.0.0 in
    let at : slice_get buffers m ≡ Some before = slice_get-Contains buffers before by.0 in
    let marked = chain_marked core found apart searched chain m before at by.2 in
    let listed = searched.consistent.complete m marked in
    let k = listed.0 in
    let is_m : get_or found.order k 0 ≡ m = get_or_default found.order k 0 m listed.1 ∙ listed.2 in
    let followed = searched.followed k before listed.1 (subst (λ (n : ℕ). slice_get buffers n ≡ Some before) (sym is_m) at) in
    let points = by.1 in
    let word = points.1 in
    let place = pointer_has_place buffers word i b apart e points.4 in
    let there : get_or (words_in core before) points.0 word ≡ word = points.3 in
    followed points.0 word points.2 i (subst (λ (w : ℕ). place_of_word w buffers ≡ Some i) (sym there) place)

-- then a buffer is marked exactly where it is reached
pub search_end : (core : Core) (found : Found) → AreBuffersApart (buffers_of core) → IsSearched core (from_roots core) found (length found.order) → IsSettled core found
search_end core found apart searched = record {
  reached = λ i b e marked. searched.sound i b marked e;
  leaked = λ i b e unmarked. (Contains-slice_get (buffers_of core) i b e, λ reached. both_ways _ unmarked (chain_marked core found apart searched reached.1.0 i b e reached.1.1));
}

-- marked buffers have no more words than all
pub marked_sum-all : (buffers : List Buffer) (marks : List Bool) → length marks ≡ length buffers → marked_sum (words_of_index buffers) marks ≤ sum_by word_count buffers
marked_sum-all [] [] e = omega arith
marked_sum-all [] (mark ∷ marks) e = absurd (omega arith)
marked_sum-all (b ∷ buffers) [] e = omega arith
marked_sum-all (b ∷ buffers) (true ∷ marks) e =
    rw (sum_by-cons word_count b buffers) (omega (arith, marked_sum-all buffers marks (omega arith)))
marked_sum-all (b ∷ buffers) (false ∷ marks) e =
    rw (sum_by-cons word_count b buffers) (omega (arith, marked_sum-all buffers marks (omega arith)))

marked_sum-ones : (marks : List Bool) → marked_sum (λ _. 1) marks ≤ length marks
marked_sum-ones [] = omega arith
marked_sum-ones (true ∷ marks) = omega (arith, marked_sum-ones marks)
marked_sum-ones (false ∷ marks) = omega (arith, marked_sum-ones marks)

sum_by-ones : (xs : List ℕ) → sum_by (λ _. 1) xs ≡ length xs
sum_by-ones [] = refl
sum_by-ones (x ∷ xs) = rw (sum_by-cons (λ (y : ℕ). 1) x xs) (omega (arith, sum_by-ones xs))

-- no more are found than there are
pub found_few : (count : ℕ) (found : Found) → IsConsistent count found → length found.order ≤ count
found_few count found sound =
    omega (arith, sum_by-ones found.order, sound.once (λ _. 1), marked_sum-ones found.marks, sound.sized)

-- the words of those that were found are no more than those of all
pub found_weight : (buffers : List Buffer) (found : Found) → IsConsistent (length buffers) found → sum_by (words_of_index buffers) found.order ≤ sum_by word_count buffers
found_weight buffers found sound =
    omega (arith, sound.once (words_of_index buffers), marked_sum-all buffers found.marks sound.sized)

-- the words of all that were found are those of the marked ones
pub found_cost : (buffers : List Buffer) (found : Found) (n : ℕ) → IsConsistent (length buffers) found → n ≡ length found.order → sum_by (words_of_index buffers) (take n found.order) ≡ marked_sum (words_of_index buffers) found.marks
found_cost buffers found n sound all = ap (sum_by (words_of_index buffers)) (take_all n found.order (omega (arith, all))) ∙ sound.once (words_of_index buffers)

-- ---- the words of own segments, one segment after the other

own_more_are : (own : List OwnRoot) (i : ℕ) (d : OwnRoot) → i < length own → own_words (take (i + 1) own) ≡ own_words (take i own) ++ (get_or own i d).words
own_more_are own i d lt =
    let words = λ (o : OwnRoot). o.words in
    ap own_words (take_more own i d lt) ∙ flat_map-append words (take i own) (get_or own i d ∷ []) ∙ ap (λ (xs : List ℕ). own_words (take i own) ++ xs) (append-nil (get_or own i d).words)

pub own_more : (buffers : List Buffer) (found : Found) (own : List OwnRoot) (i : ℕ) (d : OwnRoot) → i < length own → with_words buffers found (own_words (take (i + 1) own)) ≡ with_words buffers (with_words buffers found (own_words (take i own))) (get_or own i d).words
own_more buffers found own i d lt =
    ap (with_words buffers found) (own_more_are own i d lt) ∙ words_behind buffers found (own_words (take i own)) (get_or own i d).words

pub own_more_length : (own : List OwnRoot) (i : ℕ) (d : OwnRoot) → i < length own → length (own_words (take (i + 1) own)) ≡ length (own_words (take i own)) + length (get_or own i d).words
own_more_length own i d lt = ap length (own_more_are own i d lt) ∙ length-append (own_words (take i own)) (get_or own i d).words

-- the words of a buffer more
pub weight_more : (buffers : List Buffer) (found next : Found) (IsPlace : ℕ → Type 0) (n : ℕ) (b : Buffer) → IsGrown found next IsPlace → n < length found.order → slice_get buffers (get_or found.order n 0) ≡ Some b → sum_by (words_of_index buffers) (take (n + 1) next.order) ≡ sum_by (words_of_index buffers) (take n found.order) + word_count b
weight_more buffers found next IsPlace n b grown lt e =
    let same = grown_take found next IsPlace grown (n + 1) (omega arith) in
    let is : get_or buffers (get_or found.order n 0) no_buffer ≡ b = get_or_from_slice_get buffers (get_or found.order n 0) b no_buffer e in
    ap (sum_by (words_of_index buffers)) same ∙ sum_by_more (words_of_index buffers) found.order n 0 lt ∙ ap (λ (x : Buffer). sum_by (words_of_index buffers) (take n found.order) + word_count x) is

-- ---- the steps of the code

pub start_consistent : (buffers items : List Buffer) (found : Found) → items ≡ buffers → found ≡ none_found (length items) → IsConsistent (length buffers) found
start_consistent buffers items found same e = rw (e, same) (none_is_consistent (length buffers))

pub start_sound : (core : Core) (items : List Buffer) (found next : Found) → items ≡ buffers_of core → found ≡ none_found (length items) → next ≡ with_words (buffers_of core) found (root_words core) → next ≡ from_roots core
start_sound core items found next same e grown =
    grown ∙ ap (λ (f : Found). with_words (buffers_of core) f (root_words core)) (e ∙ ap (λ (xs : List Buffer). none_found (length xs)) same)

pub roots_sound : (core : Core) (items : List Buffer) (found next : Found) → items ≡ buffers_of core → found ≡ none_found (length items) → next ≡ with_words (buffers_of core) found (root_words core) → IsSoundStart core next
roots_sound core items found next same e grown = subst (IsSoundStart core) (sym (start_sound core items found next same e grown)) (roots_are_sound core)

pub settled : (core : Core) (items : List Buffer) (found next last : Found) → items ≡ buffers_of core → found ≡ none_found (length items) → next ≡ with_words (buffers_of core) found (root_words core) → AreBuffersApart (buffers_of core) → IsSearched core next last (length last.order) → IsSettled core last
settled core items found next last same e grown apart searched =
    search_end core last apart (subst (λ (start : Found). IsSearched core start last (length last.order)) (start_sound core items found next same e grown) searched)

-- the index of the buffer found at a place
pub index_within : (core : Core) (start found : Found) (n r : ℕ) → IsSearched core start found n → slice_get found.order n ≡ Some r → r < length (buffers_of core)
index_within core start found n r searched e =
    let is : get_or found.order n 0 ≡ r = get_or_from_slice_get found.order n r 0 e in
    omega (arith, found_at core start found n n searched (slice_get_within found.order n r e))

pub step_at : (core : Core) (start found next : Found) (n r : ℕ) (b : Buffer) → IsSearched core start found n → slice_get found.order n ≡ Some r → slice_get (buffers_of core) r ≡ Some b → next ≡ with_words (buffers_of core) found (words_in core b) → IsSearched core start next (n + 1)
step_at core start found next n r b searched at e same =
    let is : get_or found.order n 0 ≡ r = get_or_from_slice_get found.order n r 0 at in
    rw same (search_step core start found n b searched (slice_get_within found.order n r at) (rw is e))

pub cost_at : (core : Core) (start found next : Found) (n r : ℕ) (b : Buffer) → IsSearched core start found n → slice_get found.order n ≡ Some r → slice_get (buffers_of core) r ≡ Some b → next ≡ with_words (buffers_of core) found (words_in core b) → sum_by (words_of_index (buffers_of core)) (take (n + 1) next.order) ≡ sum_by (words_of_index (buffers_of core)) (take n found.order) + word_count b
cost_at core start found next n r b searched at e same =
    let buffers = buffers_of core in
    let is : get_or found.order n 0 ≡ r = get_or_from_slice_get found.order n r 0 at in
    rw same (weight_more buffers found (with_words buffers found (words_in core b)) (IsPlaceOfAny buffers (words_in core b)) n b (with_words_grow buffers (words_in core b) found searched.consistent) (slice_get_within found.order n r at) (rw is e))

-- what the first buffers and the one behind them cost is no more than all cost
pub cost_within : (core : Core) (start found : Found) (n r : ℕ) (b : Buffer) → IsSearched core start found n → slice_get found.order n ≡ Some r → slice_get (buffers_of core) r ≡ Some b → sum_by (words_of_index (buffers_of core)) (take n found.order) + word_count b ≤ sum_by word_count (buffers_of core)
cost_within core start found n r b searched at e =
    let buffers = buffers_of core in
    let is : get_or found.order n 0 ≡ r = get_or_from_slice_get found.order n r 0 at in
    let here : get_or buffers (get_or found.order n 0) no_buffer ≡ b = get_or_from_slice_get buffers (get_or found.order n 0) b no_buffer (rw is e) in
    let more = sum_by_more (words_of_index buffers) found.order n 0 (slice_get_within found.order n r at) in
    omega (arith, ap word_count here, more, sum_by-take-le (words_of_index buffers) found.order (n + 1), found_weight buffers found searched.consistent)

pub cost_so_far : (core : Core) (start found : Found) (n : ℕ) → IsSearched core start found n → sum_by (words_of_index (buffers_of core)) (take n found.order) ≤ sum_by word_count (buffers_of core)
cost_so_far core start found n searched =
    omega (arith, sum_by-take-le (words_of_index (buffers_of core)) found.order n, found_weight (buffers_of core) found searched.consistent)

pub followed_own : (buffers : List Buffer) (start found next : Found) (own : List OwnRoot) (i : ℕ) (x : OwnRoot) → found ≡ with_words buffers start (own_words (take i own)) → next ≡ with_words buffers found x.words → x ≡ get_or own i x → i < length own → next ≡ with_words buffers start (own_words (take (i + 1) own))
followed_own buffers start found next own i x so_far e at lt =
    e ∙ ap (λ (f : Found). with_words buffers f x.words) so_far
    ∙ ap (λ (o : OwnRoot). with_words buffers (with_words buffers start (own_words (take i own))) o.words) at
    ∙ sym (own_more buffers start own i x lt)

pub followed_own_length : (own : List OwnRoot) (i : ℕ) (x : OwnRoot) → x ≡ get_or own i x → i < length own → length (own_words (take (i + 1) own)) ≡ length (own_words (take i own)) + length x.words
followed_own_length own i x at lt = own_more_length own i x lt ∙ ap (λ (o : OwnRoot). length (own_words (take i own)) + length o.words) (sym at)

pub own_step : (buffers : List Buffer) (start found next : Found) (own items : List OwnRoot) (words : List ℕ) (i : ℕ) (x : OwnRoot) → items ≡ own → words ≡ x.words → x ≡ get_or items i x → i < length items → found ≡ with_words buffers start (own_words (take i own)) → next ≡ with_words buffers found words → next ≡ with_words buffers start (own_words (take (i + 1) own))
own_step buffers start found next own items words i x same are at lt so_far e =
    followed_own buffers start found next own i x so_far (e ∙ ap (with_words buffers found) are)
    (at ∙ ap (λ (xs : List OwnRoot). get_or xs i x) same) (omega (arith, ap length same))

pub own_step_length : (own items : List OwnRoot) (words : List ℕ) (i : ℕ) (x : OwnRoot) → items ≡ own → words ≡ x.words → x ≡ get_or items i x → i < length items → length (own_words (take (i + 1) own)) ≡ length (own_words (take i own)) + length words
own_step_length own items words i x same are at lt =
    followed_own_length own i x (at ∙ ap (λ (xs : List OwnRoot). get_or xs i x) same) (omega (arith, ap length same))
    ∙ ap (λ (ws : List ℕ). length (own_words (take i own)) + length ws) (sym are)

pub own_front : (own : List OwnRoot) (n : ℕ) → length (own_words (take n own)) ≤ length (own_words own)
own_front own n =
    let words = λ (o : OwnRoot). o.words in
    omega (arith, length-flat_map words (take n own), length-flat_map words own, sum_by-take-le (λ (o : OwnRoot). length o.words) own n)
