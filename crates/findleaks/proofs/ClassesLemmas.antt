-- Two classes, after a buffer more.
use Rattle.std.proofs.Common.{◌≡◌, ℕ, suc, ◌+◌, ◌<◌, ◌↔◌, Bool, true, false, List, [], ◌∷◌, ◌++◌, length, get_or, take, refl, sym, ap, subst, ◌∙◌, arith, inl, inr, ◌⊎◌}
use Rattle.std.specs.List.{All, Contains, sum_by}
use Rattle.std.proofs.lemmas.List.{take_more}
use Rattle.std.proofs.lemmas.List.Sums.{sum_by-cons}
use Rattle.std.proofs.lemmas.Option.{slice_get-get_or}
use Rattle.std.proofs.lemmas.List.Elements.{All-contains, All-cons, All-head, All-nil, All-tail}
use Rattle.std.proofs.lemmas.List.Kept.{AllPairs-cons}
use Rattle.umem_base.proofs.Lists.{Contains-here, Contains-there}
use Rattle.umem_base.proofs.OrderedLemmas.{Contains-cases}
use Rattle.heap_view.specs.Buffers.{buffers_of}
use Rattle.heap_view.specs.Points.{AreBuffersApart, IsBelow}
use Rattle.core_format.specs.declared.whole.Core.{Core}
use Rattle.heap_view.specs.declared.buffer.Buffer.{Buffer}
use Rattle.heap_view.specs.Memory.{word_count}
use Rattle.heap_view.specs.Reached.{IsLeaked, IsReached}
use Rattle.findleaks.specs.Follow.{no_buffer, words_of_index}
use Rattle.findleaks.specs.Classes.{AreParted, IsSettled}
use Rattle.findleaks.specs.Found.{Found, IsConsistent, is_marked, marked_sum}

-- a reached buffer more
pub AreParted-push_reached : (core : Core) (buffers reached leaked : List Buffer) (b : Buffer) → AreParted core buffers reached leaked → IsReached core b → AreParted core (buffers ++ b ∷ []) (reached ++ b ∷ []) leaked
AreParted-push_reached core [] reached leaked b parted is = inl ([], ap (λ (xs : List Buffer). xs ++ b ∷ []) parted.0, is, (refl, parted.1))
AreParted-push_reached core (x ∷ buffers) reached leaked b (inl here) is =
    inl (here.0 ++ b ∷ [], ap (λ (xs : List Buffer). xs ++ b ∷ []) here.1, here.2, AreParted-push_reached core buffers here.0 leaked b here.3 is)
AreParted-push_reached core (x ∷ buffers) reached leaked b (inr there) is =
    inr (there.0, there.1, there.2, AreParted-push_reached core buffers reached there.0 b there.3 is)

-- a leaked one
pub AreParted-push_leaked : (core : Core) (buffers reached leaked : List Buffer) (b : Buffer) → AreParted core buffers reached leaked → IsLeaked core b → AreParted core (buffers ++ b ∷ []) reached (leaked ++ b ∷ [])
AreParted-push_leaked core [] reached leaked b parted is = inr ([], ap (λ (xs : List Buffer). xs ++ b ∷ []) parted.1, is, (parted.0, refl))
AreParted-push_leaked core (x ∷ buffers) reached leaked b (inl here) is =
    inl (here.0, here.1, here.2, AreParted-push_leaked core buffers here.0 leaked b here.3 is)
AreParted-push_leaked core (x ∷ buffers) reached leaked b (inr there) is =
    inr (there.0 ++ b ∷ [], ap (λ (xs : List Buffer). xs ++ b ∷ []) there.1, there.2, AreParted-push_leaked core buffers reached there.0 b there.3 is)

-- ---- what the classes have

-- each buffer is in one of them
each_is_in_one : (core : Core) (buffers reached leaked : List Buffer) (b : Buffer) → AreParted core buffers reached leaked → Contains buffers b → Contains reached b ⊎ Contains leaked b
each_is_in_one core [] reached leaked b parted has = absurd (omega (arith, has.1))
each_is_in_one core (x ∷ buffers) reached leaked b (inl here) has =
    elim (Contains-cases x b buffers has) [
      | inl same ↦ inl (subst (λ (xs : List Buffer). Contains xs b) (sym here.1) (subst (Contains (x ∷ here.0)) same (Contains-here x here.0)))
      | inr rest ↦ elim (each_is_in_one core buffers here.0 leaked b here.3 rest) [
        | inl first ↦ inl (subst (λ (xs : List Buffer). Contains xs b) (sym here.1) (Contains-there x b here.0 first))
        | inr second ↦ inr second
      ]
    ]
each_is_in_one core (x ∷ buffers) reached leaked b (inr there) has =
    elim (Contains-cases x b buffers has) [
      | inl same ↦ inr (subst (λ (xs : List Buffer). Contains xs b) (sym there.1) (subst (Contains (x ∷ there.0)) same (Contains-here x there.0)))
      | inr rest ↦ elim (each_is_in_one core buffers reached there.0 b there.3 rest) [
        | inl first ↦ inl first
        | inr second ↦ inr (subst (λ (xs : List Buffer). Contains xs b) (sym there.1) (Contains-there x b there.0 second))
      ]
    ]

-- those of the first are reached, and those of the second leaked
all_are : (core : Core) (buffers reached leaked : List Buffer) → AreParted core buffers reached leaked → All (IsReached core) reached × All (IsLeaked core) leaked
all_are core [] reached leaked parted = (rw parted.0 (All-nil (IsReached core)), rw parted.1 (All-nil (IsLeaked core)))
all_are core (x ∷ buffers) reached leaked (inl here) =
    let rest = all_are core buffers here.0 leaked here.3 in
    (rw here.1 (All-cons (IsReached core) x here.0 here.2 rest.0), rest.1)
all_are core (x ∷ buffers) reached leaked (inr there) =
    let rest = all_are core buffers reached there.0 there.3 in
    (rest.0, rw there.1 (All-cons (IsLeaked core) x there.0 there.2 rest.1))

pub has_reached : (core : Core) (reached leaked : List Buffer) (b : Buffer) → AreParted core (buffers_of core) reached leaked → Contains reached b ↔ IsReached core b
has_reached core reached leaked b parted =
    let all = all_are core (buffers_of core) reached leaked parted in (
      λ has. All-contains (IsReached core) reached b all.0 has,
      λ is. elim (each_is_in_one core (buffers_of core) reached leaked b parted is.0) [
        | inl first ↦ first
        | inr second ↦ absurd ((All-contains (IsLeaked core) leaked b all.1 second).1 is)
      ],
    )

pub has_leaked : (core : Core) (reached leaked : List Buffer) (b : Buffer) → AreParted core (buffers_of core) reached leaked → Contains leaked b ↔ IsLeaked core b
has_leaked core reached leaked b parted =
    let all = all_are core (buffers_of core) reached leaked parted in (
      λ has. All-contains (IsLeaked core) leaked b all.1 has,
      λ is. elim (each_is_in_one core (buffers_of core) reached leaked b parted is.0) [
        | inl first ↦ absurd (is.1 (All-contains (IsReached core) reached b all.0 first))
        | inr second ↦ second
      ],
    )

pub as_many : (core : Core) (buffers reached leaked : List Buffer) → AreParted core buffers reached leaked → length reached + length leaked ≡ length buffers
as_many core [] reached leaked parted = omega (arith, ap length parted.0, ap length parted.1)
as_many core (x ∷ buffers) reached leaked (inl here) = omega (arith, as_many core buffers here.0 leaked here.3, ap length here.1)
as_many core (x ∷ buffers) reached leaked (inr there) = omega (arith, as_many core buffers reached there.0 there.3, ap length there.1)

-- ---- both rise

keeps_all : (P : Buffer → Type 0) (core : Core) (buffers reached leaked : List Buffer) → AreParted core buffers reached leaked → All P buffers → All P reached × All P leaked
keeps_all P core [] reached leaked parted all = (rw parted.0 (All-nil P), rw parted.1 (All-nil P))
keeps_all P core (x ∷ buffers) reached leaked (inl here) all =
    let rest = keeps_all P core buffers here.0 leaked here.3 (All-tail P x buffers all) in
    (rw here.1 (All-cons P x here.0 (All-head P x buffers all) rest.0), rest.1)
keeps_all P core (x ∷ buffers) reached leaked (inr there) all =
    let rest = keeps_all P core buffers reached there.0 there.3 (All-tail P x buffers all) in
    (rest.0, rw there.1 (All-cons P x there.0 (All-head P x buffers all) rest.1))

apart_head : (x : Buffer) (xs : List Buffer) → AreBuffersApart (x ∷ xs) → All (IsBelow x) xs
apart_head x xs apart = λ k d lt. apart 0 (suc k) d (omega arith) (omega arith)

apart_tail : (x : Buffer) (xs : List Buffer) → AreBuffersApart (x ∷ xs) → AreBuffersApart xs
apart_tail x xs apart = λ i j d lt within. apart (suc i) (suc j) d (omega arith) (omega arith)

no_pair : AreBuffersApart []
no_pair = λ i j d lt within. absurd (omega arith)

pub both_apart : (core : Core) (buffers reached leaked : List Buffer) → AreParted core buffers reached leaked → AreBuffersApart buffers → AreBuffersApart reached × AreBuffersApart leaked
both_apart core [] reached leaked parted apart = (rw parted.0 no_pair, rw parted.1 no_pair)
both_apart core (x ∷ buffers) reached leaked (inl here) apart =
    let rest = both_apart core buffers here.0 leaked here.3 (apart_tail x buffers apart) in
    let below = keeps_all (IsBelow x) core buffers here.0 leaked here.3 (apart_head x buffers apart) in
    (rw here.1 (AllPairs-cons IsBelow x here.0 below.0 rest.0), rest.1)
both_apart core (x ∷ buffers) reached leaked (inr there) apart =
    let rest = both_apart core buffers reached there.0 there.3 (apart_tail x buffers apart) in
    let below = keeps_all (IsBelow x) core buffers reached there.0 there.3 (apart_head x buffers apart) in
    (rest.0, rw there.1 (AllPairs-cons IsBelow x there.0 below.1 rest.1))

-- ---- the words of the marked buffers

-- the marks tell which buffers are reached
pub record AreMarked (core : Core) (buffers : List Buffer) (marks : List Bool) : Type 0 where
  pub sized : length marks ≡ length buffers
  pub reached : (i : ℕ) → i < length buffers → get_or marks i false ≡ true → IsReached core (get_or buffers i no_buffer)
  pub leaked : (i : ℕ) → i < length buffers → get_or marks i false ≡ false → IsLeaked core (get_or buffers i no_buffer)

marked_tail : (core : Core) (b : Buffer) (buffers : List Buffer) (mark : Bool) (marks : List Bool) → AreMarked core (b ∷ buffers) (mark ∷ marks) → AreMarked core buffers marks
marked_tail core b buffers mark marks marked = record {
  sized = omega (arith, marked.sized);
  reached = λ i lt e. marked.reached (suc i) (omega arith) e;
  leaked = λ i lt e. marked.leaked (suc i) (omega arith) e;
}

-- those of the first list are marked, so that their words are those of the marked ones
pub marked_cost : (core : Core) (buffers reached leaked : List Buffer) (marks : List Bool) → AreMarked core buffers marks → AreParted core buffers reached leaked → marked_sum (words_of_index buffers) marks ≡ sum_by word_count reached
marked_cost core [] reached leaked [] marked parted = rw parted.0 refl
marked_cost core [] reached leaked (mark ∷ marks) marked parted = absurd (omega (arith, marked.sized))
marked_cost core (b ∷ buffers) reached leaked [] marked parted = absurd (omega (arith, marked.sized))
marked_cost core (b ∷ buffers) reached leaked (true ∷ marks) marked (inl here) =
    let rest = marked_cost core buffers here.0 leaked marks (marked_tail core b buffers true marks marked) here.3 in
    rw (here.1, sum_by-cons word_count b here.0) (omega (arith, rest))
marked_cost core (b ∷ buffers) reached leaked (true ∷ marks) marked (inr there) = absurd (there.2.1 (marked.reached 0 (omega arith) refl))
marked_cost core (b ∷ buffers) reached leaked (false ∷ marks) marked (inl here) = absurd ((marked.leaked 0 (omega arith) refl).1 here.2)
marked_cost core (b ∷ buffers) reached leaked (false ∷ marks) marked (inr there) =
    let rest = marked_cost core buffers reached there.0 marks (marked_tail core b buffers false marks marked) there.3 in
    omega (arith, rest)

pub settled_marks : (core : Core) (found : Found) → IsConsistent (length (buffers_of core)) found → IsSettled core found → AreMarked core (buffers_of core) found.marks
settled_marks core found consistent settled = record {
  sized = consistent.sized;
  reached = λ i lt e. settled.reached i (get_or (buffers_of core) i no_buffer) (slice_get-get_or (buffers_of core) i no_buffer lt) e;
  leaked = λ i lt e. settled.leaked i (get_or (buffers_of core) i no_buffer) (slice_get-get_or (buffers_of core) i no_buffer lt) e;
}

-- ---- the step of the code

pub part_reached : (core : Core) (found : Found) (items reached leaked now : List Buffer) (i : ℕ) (d : Buffer) → items ≡ buffers_of core → IsSettled core found → AreParted core (take i (buffers_of core)) reached leaked → i < length items → is_marked found i ≡ true → now ≡ reached ++ get_or items i d ∷ [] → AreParted core (take (i + 1) (buffers_of core)) now leaked
part_reached core found items reached leaked now i d same settled parted lt marked e =
    let buffers = buffers_of core in
    let within : i < length buffers = omega (arith, ap length same) in
    let is = settled.reached i (get_or buffers i d) (slice_get-get_or buffers i d within) marked in
    let ends : now ≡ reached ++ get_or buffers i d ∷ [] = e ∙ ap (λ (xs : List Buffer). reached ++ get_or xs i d ∷ []) same in
    rw (take_more buffers i d within, ends) (AreParted-push_reached core (take i buffers) reached leaked (get_or buffers i d) parted is)

pub part_leaked : (core : Core) (found : Found) (items reached leaked now : List Buffer) (i : ℕ) (d : Buffer) → items ≡ buffers_of core → IsSettled core found → AreParted core (take i (buffers_of core)) reached leaked → i < length items → is_marked found i ≡ false → now ≡ leaked ++ get_or items i d ∷ [] → AreParted core (take (i + 1) (buffers_of core)) reached now
part_leaked core found items reached leaked now i d same settled parted lt unmarked e =
    let buffers = buffers_of core in
    let within : i < length buffers = omega (arith, ap length same) in
    let is = settled.leaked i (get_or buffers i d) (slice_get-get_or buffers i d within) unmarked in
    let ends : now ≡ leaked ++ get_or buffers i d ∷ [] = e ∙ ap (λ (xs : List Buffer). leaked ++ get_or xs i d ∷ []) same in
    rw (take_more buffers i d within, ends) (AreParted-push_leaked core (take i buffers) reached leaked (get_or buffers i d) parted is)
