-- What a word changes of what was found.
use Rattle.std.proofs.Common.{◌≡◌, ℕ, zero, suc, ◌+◌, ◌<◌, ◌≤◌, ◌⊎◌, Bool, true, false, List, [], ◌∷◌, ◌++◌, length, get_or, set, take, replicate, Option, Some, None, Result, Ok, Err, refl, sym, ap, subst, ◌∙◌, arith, inl, inr}
use Rattle.std.specs.List.{Any, Contains}
use Rattle.std.specs.Prelude.{OnOk}
use Rattle.std.proofs.lemmas.Bool.{cases_Bool, cases_eq, cases_lt, both_ways}
use Rattle.std.proofs.lemmas.List.{append-nil, append_assoc, get_or-set_same, get_or-set_other, get_or_append_left, get_or_past, length-replicate, length-set, length_push, take_all}
use Rattle.std.proofs.lemmas.List.Elements.{Contains-append_left, Contains-push}
use Rattle.std.proofs.lemmas.List.Quantifiers.{position-Some}
use Rattle.std.proofs.lemmas.List.Sums.{fold-append, fold_more, sum_by_push}
use Rattle.std.proofs.lemmas.Option.{same_Some}
use Rattle.std.proofs.Math.Seq.{get_or-append_seam}
use Rattle.heap_view.specs.declared.buffer.Buffer.{Buffer}
use Rattle.heap_view.specs.Points.{place_of_word, points_to}
use Rattle.findleaks.specs.Follow.{no_buffer}
use Rattle.findleaks.specs.Found.{Found, IsConsistent, is_marked, marked_sum, none_found, with_found, with_place, with_word, with_words}

-- what was marked stays so and what was found stands where it stood, the buffers of these places are marked, and no
-- other one is new
pub record IsGrown (found next : Found) (IsPlace : ℕ → Type 0) : Type 0 where
  pub kept : (i : ℕ) → is_marked found i ≡ true → is_marked next i ≡ true
  pub why : (i : ℕ) → is_marked next i ≡ true → (is_marked found i ≡ true) ⊎ IsPlace i
  pub hit : (i : ℕ) → IsPlace i → is_marked next i ≡ true
  pub behind : (more : List ℕ) × (next.order ≡ found.order ++ more)

-- a buffer that is found for the first time
abbrev pub newly : Found → ℕ → Found
newly found i = record { marks = set found.marks i true; order = found.order ++ i ∷ [] }

pub with_found-old : (found : Found) (i : ℕ) → is_marked found i ≡ true → with_found found i ≡ found
with_found-old found i e = rw e refl

pub with_found-new : (found : Found) (i : ℕ) → is_marked found i ≡ false → with_found found i ≡ newly found i
with_found-new found i e = rw e refl

-- an index that is marked has a mark
pub marked_within : (marks : List Bool) (i : ℕ) → get_or marks i false ≡ true → i < length marks
marked_within marks i e =
    elim (cases_lt i (length marks)) [ inl lt ↦ lt | inr le ↦ absurd (both_ways _ (get_or_past marks i false le) e) ]

newly_kept : (marks : List Bool) (i j : ℕ) → i < length marks → get_or marks j false ≡ true → get_or (set marks i true) j false ≡ true
newly_kept marks i j lt e =
    elim (cases_eq j i) [
      | inl same ↦ rw (same, get_or-set_same marks i true false lt) refl
      | inr other ↦ rw (get_or-set_other marks i j true false other) e
    ]

newly_why : (marks : List Bool) (i j : ℕ) → get_or (set marks i true) j false ≡ true → (get_or marks j false ≡ true) ⊎ (j ≡ i)
newly_why marks i j e =
    elim (cases_eq j i) [
      | inl same ↦ inr same
      | inr other ↦ inl (sym (get_or-set_other marks i j true false other) ∙ e)
    ]

pub with_found_grows : (found : Found) (i : ℕ) → i < length found.marks → IsGrown found (with_found found i) (λ j. j ≡ i)
with_found_grows found i lt =
    elim (cases_Bool (is_marked found i)) [
      | inl old ↦ subst (λ (next : Found). IsGrown found next (λ j. j ≡ i)) (sym (with_found-old found i old)) (record {
        kept = λ j e. e;
        why = λ j e. inl e;
        hit = λ j same. rw same old;
        behind = ([], sym (append-nil found.order));
      })
      | inr new ↦ subst (λ (next : Found). IsGrown found next (λ j. j ≡ i)) (sym (with_found-new found i new)) (record {
        kept = λ j e. newly_kept found.marks i j lt e;
        why = λ j e. newly_why found.marks i j e;
        hit = λ j same. rw (same, get_or-set_same found.marks i true false lt) refl;
        behind = (i ∷ [], refl);
      })
    ]

-- the weight of a mark more
pub marked_sum-set : (weight : ℕ → ℕ) (marks : List Bool) (i : ℕ) → i < length marks → get_or marks i false ≡ false → marked_sum weight (set marks i true) ≡ marked_sum weight marks + weight i
marked_sum-set weight [] i lt e = absurd (omega arith)
marked_sum-set weight (mark ∷ marks) zero lt e = rw e (omega arith)
marked_sum-set weight (mark ∷ marks) (suc i) lt e =
    let rest = marked_sum-set (λ index. weight (suc index)) marks i (omega arith) e in
    omega (arith, rest)

pub marked_sum-none : (weight : ℕ → ℕ) (count : ℕ) → marked_sum weight (replicate count false) ≡ 0
marked_sum-none weight zero = refl
marked_sum-none weight (suc count) = omega (arith, marked_sum-none (λ index. weight (suc index)) count)

pub get_or-none : (count i : ℕ) → get_or (replicate count false) i false ≡ false
get_or-none zero i = refl
get_or-none (suc count) zero = refl
get_or-none (suc count) (suc i) = get_or-none count i

pub none_is_consistent : (count : ℕ) → IsConsistent count (none_found count)
none_is_consistent count = record {
  sized = length-replicate count false;
  listed = λ k lt. absurd (omega arith);
  complete = λ i e. absurd (both_ways _ (get_or-none count i) e);
  once = λ weight. sym (marked_sum-none weight count);
}

newly_listed : (found : Found) (count i : ℕ) → IsConsistent count found → i < count → (k : ℕ) → k < length (found.order ++ i ∷ []) → get_or (set found.marks i true) (get_or (found.order ++ i ∷ []) k 0) false ≡ true
newly_listed found count i sound lt k within =
    elim (cases_lt k (length found.order)) [
      | inl before ↦ rw (get_or_append_left found.order (i ∷ []) 0 k before) (newly_kept found.marks i (get_or found.order k 0) (omega (arith, sound.sized)) (sound.listed k before))
      | inr last ↦
          let same : k ≡ length found.order = omega (arith, length_push found.order i) in
          rw (same, get_or-append_seam found.order i [] 0, get_or-set_same found.marks i true false (omega (arith, sound.sized))) refl
    ]

newly_complete : (found : Found) (count i : ℕ) → IsConsistent count found → (j : ℕ) → get_or (set found.marks i true) j false ≡ true → Contains (found.order ++ i ∷ []) j
newly_complete found count i sound j e =
    elim (newly_why found.marks i j e) [
      | inl old ↦ Contains-append_left found.order (i ∷ []) j (sound.complete j old)
      | inr same ↦ rw same (Contains-push found.order i)
    ]

pub with_found_is_consistent : (found : Found) (count i : ℕ) → IsConsistent count found → i < count → IsConsistent count (with_found found i)
with_found_is_consistent found count i sound lt =
    elim (cases_Bool (is_marked found i)) [
      | inl old ↦ subst (IsConsistent count) (sym (with_found-old found i old)) sound
      | inr new ↦ subst (IsConsistent count) (sym (with_found-new found i new)) (record {
        sized = length-set found.marks i true ∙ sound.sized;
        listed = newly_listed found count i sound lt;
        complete = newly_complete found count i sound;
        once = λ weight. omega (arith, sum_by_push weight found.order i, sound.once weight, marked_sum-set weight found.marks i (omega (arith, sound.sized)) new);
      })
    ]

-- a word points to a buffer of the list, or to none
pub place_within : (buffers : List Buffer) (word i : ℕ) → place_of_word word buffers ≡ Some i → i < length buffers
place_within buffers word i e = (position-Some (points_to word) buffers i no_buffer e).0

place_grows : (found : Found) (place : Option ℕ) → ((i : ℕ) → place ≡ Some i → i < length found.marks) → IsGrown found (with_place found place) (λ j. place ≡ Some j)
place_grows found None within = record {
  kept = λ j e. e;
  why = λ j e. inl e;
  hit = λ j e. absurd cc;
  behind = ([], sym (append-nil found.order));
}
place_grows found (Some i) within =
    let grown = with_found_grows found i (within i refl) in
    record {
      kept = grown.kept;
      why = λ j e. elim (grown.why j e) [ inl old ↦ inl old | inr same ↦ inr (ap Some (sym same)) ];
      hit = λ j e. grown.hit j (sym (same_Some i j e));
      behind = grown.behind;
    }

place_is_consistent : (found : Found) (count : ℕ) (place : Option ℕ) → IsConsistent count found → ((i : ℕ) → place ≡ Some i → i < count) → IsConsistent count (with_place found place)
place_is_consistent found count None sound within = sound
place_is_consistent found count (Some i) sound within = with_found_is_consistent found count i sound (within i refl)

pub with_word_grows : (buffers : List Buffer) (found : Found) (word : ℕ) → length found.marks ≡ length buffers → IsGrown found (with_word buffers found word) (λ j. place_of_word word buffers ≡ Some j)
unfolding with_word
with_word_grows buffers found word sized = place_grows found (place_of_word word buffers) (λ i e. omega (arith, place_within buffers word i e))

pub with_word_is_consistent : (buffers : List Buffer) (found : Found) (word : ℕ) → IsConsistent (length buffers) found → IsConsistent (length buffers) (with_word buffers found word)
unfolding with_word
with_word_is_consistent buffers found word sound = place_is_consistent found (length buffers) (place_of_word word buffers) sound (place_within buffers word)

-- one growth after the other
pub grown_twice : (a b c : Found) (P Q : ℕ → Type 0) → IsGrown a b P → IsGrown b c Q → IsGrown a c (λ j. P j ⊎ Q j)
grown_twice a b c P Q first second = record {
  kept = λ j e. second.kept j (first.kept j e);
  why = λ j e. elim (second.why j e) [
    | inl old ↦ elim (first.why j old) [ inl older ↦ inl older | inr p ↦ inr (inl p) ]
    | inr q ↦ inr (inr q)
  ];
  hit = λ j place. elim place [ inl p ↦ second.kept j (first.hit j p) | inr q ↦ second.hit j q ];
  behind = (first.behind.0 ++ second.behind.0, second.behind.1 ∙ ap (λ (order : List ℕ). order ++ second.behind.0) first.behind.1 ∙ append_assoc a.order first.behind.0 second.behind.0);
}

-- the same places by another test
pub grown_as : (a b : Found) (P Q : ℕ → Type 0) → ((j : ℕ) → P j → Q j) → ((j : ℕ) → Q j → P j) → IsGrown a b P → IsGrown a b Q
grown_as a b P Q to from grown = record {
  kept = grown.kept;
  why = λ j e. elim (grown.why j e) [ inl old ↦ inl old | inr p ↦ inr (to j p) ];
  hit = λ j q. grown.hit j (from j q);
  behind = grown.behind;
}

pub Any-here : (P : ℕ → Type 0) (x : ℕ) (xs : List ℕ) → P x → Any P (x ∷ xs)
Any-here P x xs p = (0, x, omega arith, refl, p)

pub Any-there : (P : ℕ → Type 0) (x : ℕ) (xs : List ℕ) → Any P xs → Any P (x ∷ xs)
Any-there P x xs some = (suc some.0, some.1, omega (arith, some.2), some.3, some.4)

any_cases : (P : ℕ → Type 0) (x : ℕ) (xs : List ℕ) (k y : ℕ) → k < length (x ∷ xs) → get_or (x ∷ xs) k y ≡ y → P y → P x ⊎ Any P xs
any_cases P x xs zero y lt e p = inl (subst P (sym e) p)
any_cases P x xs (suc k) y lt e p = inr (k, y, omega arith, e, p)

pub Any-cases : (P : ℕ → Type 0) (x : ℕ) (xs : List ℕ) → Any P (x ∷ xs) → P x ⊎ Any P xs
Any-cases P x xs some = any_cases P x xs some.0 some.1 some.2 some.3 some.4

-- one of the words points to the buffer of that index
abbrev pub IsPlaceOfAny : List Buffer → List ℕ → ℕ → Type 0
IsPlaceOfAny buffers words index = Any (λ word. place_of_word word buffers ≡ Some index) words

no_word : (buffers : List Buffer) (found : Found) → IsGrown found found (IsPlaceOfAny buffers [])
no_word buffers found = record {
  kept = λ j e. e;
  why = λ j e. inl e;
  hit = λ j some. absurd (omega (arith, some.2));
  behind = ([], sym (append-nil found.order));
}

pub with_words_are_consistent : (buffers : List Buffer) (words : List ℕ) (found : Found) → IsConsistent (length buffers) found → IsConsistent (length buffers) (with_words buffers found words)
with_words_are_consistent buffers [] found sound = sound
with_words_are_consistent buffers (word ∷ words) found sound =
    with_words_are_consistent buffers words (with_word buffers found word) (with_word_is_consistent buffers found word sound)

pub with_words_grow : (buffers : List Buffer) (words : List ℕ) (found : Found) → IsConsistent (length buffers) found → IsGrown found (with_words buffers found words) (IsPlaceOfAny buffers words)
with_words_grow buffers [] found sound = no_word buffers found
with_words_grow buffers (word ∷ words) found sound =
    let next = with_word buffers found word in
    let first = with_word_grows buffers found word sound.sized in
    let rest = with_words_grow buffers words next (with_word_is_consistent buffers found word sound) in
    let IsHere = λ (w : ℕ) (j : ℕ). place_of_word w buffers ≡ Some j in
    grown_as found (with_words buffers next words) (λ j. IsHere word j ⊎ IsPlaceOfAny buffers words j) (IsPlaceOfAny buffers (word ∷ words))
    (λ j place. elim place [ inl here ↦ Any-here (λ w. IsHere w j) word words here | inr there ↦ Any-there (λ w. IsHere w j) word words there ])
    (λ j some. Any-cases (λ w. IsHere w j) word words some)
    (grown_twice found next (with_words buffers next words) (IsHere word) (IsPlaceOfAny buffers words) first rest)

-- ---- the steps of the loops

pub words_more : (buffers : List Buffer) (found : Found) (words : List ℕ) (i : ℕ) → i < length words → with_words buffers found (take (i + 1) words) ≡ with_word buffers (with_words buffers found (take i words)) (get_or words i 0)
words_more buffers found words i lt = fold_more (with_word buffers) found words i 0 lt

pub words_behind : (buffers : List Buffer) (found : Found) (xs ys : List ℕ) → with_words buffers found (xs ++ ys) ≡ with_words buffers (with_words buffers found xs) ys
words_behind buffers found xs ys = fold-append (with_word buffers) found xs ys

-- a word that points to a buffer, and one that points to none
pub with_word-some : (buffers : List Buffer) (found : Found) (word i : ℕ) → place_of_word word buffers ≡ Some i → with_word buffers found word ≡ with_found found i
unfolding with_word
with_word-some buffers found word i e = ap (with_place found) e

pub with_word-none : (buffers : List Buffer) (found : Found) (word : ℕ) → place_of_word word buffers ≡ None → with_word buffers found word ≡ found
unfolding with_word
with_word-none buffers found word e = ap (with_place found) e

pub followed_word : (buffers : List Buffer) (start found next : Found) (words : List ℕ) (i w : ℕ) → found ≡ with_words buffers start (take i words) → next ≡ with_word buffers found w → w ≡ get_or words i 0 → i < length words → next ≡ with_words buffers start (take (i + 1) words)
followed_word buffers start found next words i w so_far e at lt =
    e ∙ ap (λ (f : Found). with_word buffers f w) so_far ∙ ap (with_word buffers (with_words buffers start (take i words))) at ∙ sym (words_more buffers start words i lt)

-- what holds of an answer that is no refusal
pub on_ok : {T E : Type 0} (r : Result T E) (P Q : Type 0) → (P → Q) → OnOk r P → OnOk r Q
on_ok (Ok x) P Q f p = f p
on_ok (Err e) P Q f p = p

-- all words were followed
pub words_all : (buffers : List Buffer) (start found : Found) (words : List ℕ) (n : ℕ) → found ≡ with_words buffers start (take n words) → length words ≤ n → found ≡ with_words buffers start words
words_all buffers start found words n e le = e ∙ ap (with_words buffers start) (take_all n words le)
