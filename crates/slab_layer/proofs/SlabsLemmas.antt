-- What the slabs of a cache say of the rounds in their lists, and what a round or a slab more or less leaves.
use Rattle.std.proofs.Common.{◌≡◌, ◌≢◌, ℕ, zero, suc, ◌+◌, ◌<◌, ◌≤◌, ◌⊎◌, Bool, true, false, not, List, [], ◌∷◌, ◌++◌, Option, None, Some, Result, Ok, Err, length, get_or, set, take, drop, eqb, ltb, refl, sym, ap, ◌∙◌, subst, arith, inl, inr}
use Rattle.std.specs.Prelude.{All, Contains, IfSome, MatchOption, OnErr, OnOk, insert, is_err, is_some, remove}
use Rattle.std.specs.Bool.{then_some}
use Rattle.std.specs.List.{AllWithin, HoldsAt, list_any}
use Rattle.std.specs.List.Sorted.{IsPermutation, IsStrictlyIncreasing}
use Rattle.std.proofs.lemmas.Bool.{and_cases, and_parts, and_right, cases_Bool, cases_lt, cases_order, eq-eqb, eqb-false, eqb-true, false_from_ne_true, false≢true, le-ltb, ltb-false, ne_eqb, not-false, not-true, not_from_false, not_from_true, or_parts, true≢false}
use Rattle.std.proofs.lemmas.List.{append_assoc, get_or_default, get_or-map, length-map, length-set, set-get_or}
use Rattle.std.proofs.lemmas.List.Elements.{All-append, All-cons, All-drop, All-filter, All-set, All-take, Contains-append_cases, Contains-append_left, Contains-append_right, Contains-get_or, filter_passes}
use Rattle.std.proofs.lemmas.List.Folds.{Any-from_list_any, list_any_at, list_any_none}
use Rattle.std.proofs.lemmas.List.Kept.{AllPairs-filter}
use Rattle.std.proofs.lemmas.List.Quantifiers.{all_pairs_remove}
use Rattle.std.proofs.lemmas.List.Sorted.{Contains-permutation, IsPermutation-append_comm, IsPermutation-append_left, IsPermutation-append_right, IsPermutation-middle, IsPermutation-refl, IsPermutation-sym, IsPermutation-trans}
use Rattle.umem_base.specs.Ordered.{SplitsBy, left_out_by, put_by}
use Rattle.umem_base.proofs.Lists.{AllPairs-insert, Contains-here, map_one}
use Rattle.umem_base.proofs.OrderedLemmas.{Contains-cases, IsPermutation-put_by, filter_all, index_of_key, insert-put_by, remove-left_out_by_own}
use Rattle.slab_layer.specs.Slab.{HasChunk, IsApartBelow, IsComplete, IsSlab, Slab, clashes, has_chunk, is_complete, with_chunk, without_chunk}
use Rattle.slab_layer.specs.Slabs.{AreMissing, AreSlabs, HasChunkAt, HasLowestComplete, IsForeign, IsLowestRound, IsMissing, KeepsRounds, Slabs, after_put, after_puts, is_missing, listed_rounds, with_round, with_slab, without_clashes, without_complete, without_round, without_slab_at}
use Rattle.slab_layer.proofs.Lists.{filter-filter, put_by-last, same_part-set}
use Rattle.slab_layer.proofs.RoundsLemmas.{All-from_rises, Rises, Rises-append, Rises-lower, increasing_from_Rises, left_out_by-absent, left_out_by-first}
use Rattle.slab_layer.proofs.SlabLemmas.{Ends-list, HasChunk-from_test, HasChunk-with_chunk, IsSlab-put_by, Rises-list, decides_complete, has_chunk-false, has_chunk-true, with_chunk-foreign, with_chunk-own}

-- ---- the slabs of a cache

pub AreSlabs-tail : (s : Slab) (ss : List Slab) → AreSlabs (s ∷ ss) → AreSlabs ss
AreSlabs-tail s ss h = record {
  each = λ k d lt. h.each (suc k) d (omega arith);
  apart = λ i j d less lt. h.apart (suc i) (suc j) d (omega arith) (omega arith);
  bases = λ i j d less lt. h.bases (suc i) (suc j) d (omega arith) (omega arith);
}

Rises-rounds : (low : ℕ) (ss : List Slab) → AreSlabs ss → All (λ s. low ≤ s.first) ss → Rises low (listed_rounds ss)
Rises-rounds low [] h above = tt
Rises-rounds low (s ∷ ss) h above =
    let is = h.each 0 s (omega arith) in
    let first = above 0 s (omega arith) in
    let rest = Rises-rounds (s.first + s.count) ss (AreSlabs-tail s ss h) (λ k d lt. h.apart 0 (suc k) d (omega arith) (omega arith)) in
    Rises-append low (s.first + s.count) s.list (listed_rounds ss) (omega arith) (Rises-lower s.first low s.list first (Rises-list s is)) (Ends-list s is) rest

pub rounds_rise : (ss : List Slab) → AreSlabs ss → Rises 0 (listed_rounds ss)
rounds_rise ss h = Rises-rounds 0 ss h (λ k d lt. omega arith)

pub rounds_increase : (ss : List Slab) → AreSlabs ss → IsStrictlyIncreasing (listed_rounds ss)
rounds_increase ss h = increasing_from_Rises 0 (listed_rounds ss) (rounds_rise ss h)

-- the slabs before one end where it begins
pub first_le : (ss : List Slab) (i k : ℕ) (d : Slab) → AreSlabs ss → i ≤ k → k < length ss → (get_or ss i d).first ≤ (get_or ss k d).first
first_le ss i k d h le lt =
    elim (cases_lt i k) [
      | inl less ↦ omega (arith, h.apart i k d less lt)
      | inr more ↦ let same : i ≡ k = omega arith in rw same (omega arith)
    ]

-- one chunk is of one slab
pub has_one : (ss : List Slab) (i k c : ℕ) (d e : Slab) → AreSlabs ss → i < length ss → k < length ss → HasChunk c (get_or ss i d) → HasChunk c (get_or ss k e) → k ≡ i
has_one ss i k c d e h il kl here there =
    let here' : HasChunk c (get_or ss i e) = rw (get_or_default ss i e d il) here in
    elim (cases_order k i) [
      | inl same ↦ same
      | inr (inl less) ↦ absurd (omega (arith, h.apart k i e less il, here'.0, there.1))
      | inr (inr more) ↦ absurd (omega (arith, h.apart i k e more kl, here'.1, there.0))
    ]

-- ---- where a chunk is looked up

pub foreign_below_first : (ss : List Slab) (c : ℕ) → ((k : ℕ) (d : Slab) → 0 ≤ k → k < length ss → c < (get_or ss k d).first) → IsForeign ss c
foreign_below_first ss c above k d lt has = omega (arith, above k d (omega arith) lt, has.0)

-- the last slab that begins at the chunk or below is its own, or none is
pub look_up : (ss : List Slab) (i c : ℕ) (s : Slab) → AreSlabs ss → i < length ss → s ≡ get_or ss i s → ((d : Slab) → (get_or ss i d).first ≤ c) → ((k : ℕ) (d : Slab) → i + 1 ≤ k → k < length ss → c < (get_or ss k d).first) → MatchOption (then_some (has_chunk c s) i) (IsForeign ss c) (HasChunkAt ss c)
look_up ss i c s h lt is below above =
    elim (cases_Bool (has_chunk c s)) [
      | inl is_own ↦
          let own = HasChunk-from_test c s is_own in
          rw is_own (lt, λ d. rw (get_or_default ss i d s lt, ← is) own)
      | inr other ↦ rw other (λ k d kl has. elim (cases_order k i) [
        | inl same ↦
            let there : HasChunk c s = rw (same, get_or_default ss i d s lt, ← is) at has in
            absurd (false≢true (sym other ∙ has_chunk-true c s there))
        | inr (inl less) ↦ omega (arith, h.apart k i d less lt, below d, has.1)
        | inr (inr more) ↦ omega (arith, above k d (omega arith) kl, has.0)
      ])
    ]

-- what the slabs of a cache are seen as
abbrev pub slabs_of : ℕ → ℕ → List Slab → Slabs
slabs_of cache spare slabs = record { cache = cache; spare = spare; slabs = slabs }

-- ---- another list in one slab

-- a slab in another's place, which differs in its list alone
AreSlabs-set : (ss : List Slab) (i : ℕ) (s t : Slab) → AreSlabs ss → i < length ss → s ≡ get_or ss i s → t ≡ record s { list = t.list } → IsSlab t → AreSlabs (set ss i t)
AreSlabs-set ss i s t h lt is same sound =
    let here : (d : Slab) → s ≡ get_or ss i d = λ d. is ∙ get_or_default ss i s d lt in
    let base : (k : ℕ) (d : Slab) → (get_or (set ss i t) k d).base ≡ (get_or ss k d).base = λ k d. same_part-set (λ (x : Slab). x.base) ss i t k d lt (λ e. ap (λ (x : Slab). x.base) same ∙ ap (λ (x : Slab). x.base) (here e)) in
    let first : (k : ℕ) (d : Slab) → (get_or (set ss i t) k d).first ≡ (get_or ss k d).first = λ k d. same_part-set (λ (x : Slab). x.first) ss i t k d lt (λ e. ap (λ (x : Slab). x.first) same ∙ ap (λ (x : Slab). x.first) (here e)) in
    let count : (k : ℕ) (d : Slab) → (get_or (set ss i t) k d).count ≡ (get_or ss k d).count = λ k d. same_part-set (λ (x : Slab). x.count) ss i t k d lt (λ e. ap (λ (x : Slab). x.count) same ∙ ap (λ (x : Slab). x.count) (here e)) in
    let long = length-set ss i t in
    record {
      each = All-set IsSlab ss i t sound h.each;
      apart = λ j k d less kl. rw (first j d, count j d, first k d) (h.apart j k d less (omega arith));
      bases = λ j k d less kl. rw (base j d, base k d) (h.bases j k d less (omega arith));
    }

-- ---- what stands in the lists

pub Contains-rounds : (ss : List Slab) (i c : ℕ) (d : Slab) → i < length ss → Contains (get_or ss i d).list c → Contains (listed_rounds ss) c
Contains-rounds [] i c d lt held = absurd (omega arith)
Contains-rounds (s ∷ ss) zero c d lt held = Contains-append_left s.list (listed_rounds ss) c held
Contains-rounds (s ∷ ss) (suc i) c d lt held = Contains-append_right s.list (listed_rounds ss) c (Contains-rounds ss i c d (omega arith) held)

pub Contains-from_rounds : (ss : List Slab) (c : ℕ) (d : Slab) → Contains (listed_rounds ss) c → (i : ℕ) × (i < length ss) × Contains (get_or ss i d).list c
Contains-from_rounds [] c d held = absurd (omega (arith, held.1))
Contains-from_rounds (s ∷ ss) c d held =
    elim (Contains-append_cases s.list (listed_rounds ss) c held) [
      | inl here ↦ (0, omega arith, here)
      | inr there ↦ let rest = Contains-from_rounds ss c d there in (suc rest.0, omega (arith, rest.1), rest.2)
    ]

-- a chunk that stands in the list of a slab is one of its own
pub own_round : (ss : List Slab) (i c : ℕ) (d : Slab) → AreSlabs ss → i < length ss → Contains (get_or ss i d).list c → HasChunk c (get_or ss i d)
own_round ss i c d h lt held =
    let own = (h.each i d lt).own held.0 c held.1 in
    rw held.2 at own

-- and so it stands in no other's
pub held_by_own : (ss : List Slab) (i c : ℕ) (d : Slab) → AreSlabs ss → i < length ss → HasChunk c (get_or ss i d) → Contains (listed_rounds ss) c → Contains (get_or ss i d).list c
held_by_own ss i c d h lt own held =
    let there = Contains-from_rounds ss c d held in
    let same : there.0 ≡ i = has_one ss i there.0 c d d h lt there.1 own (own_round ss there.0 c d h there.1 there.2) in
    rw same at there.2

-- ---- a round less

-- the slabs before one have empty lists, and its list begins with the round
pub taken_rounds : (ss : List Slab) (i c : ℕ) (s t : Slab) → i < length ss → ((k : ℕ) (d : Slab) → k < i → (get_or ss k d).list ≡ []) → s ≡ get_or ss i s → s.list ≡ c ∷ t.list → listed_rounds ss ≡ c ∷ listed_rounds (set ss i t)
taken_rounds [] i c s t lt empty is list = absurd (omega arith)
taken_rounds (x ∷ xs) zero c s t lt empty is list =
    let first : x.list ≡ c ∷ t.list = ap (λ (y : Slab). y.list) (sym is) ∙ list in
    rw first refl
taken_rounds (x ∷ xs) (suc i) c s t lt empty is list =
    let none : x.list ≡ [] = empty 0 x (omega arith) in
    rw none (taken_rounds xs i c s t (omega arith) (λ k d less. empty (suc k) d (omega arith)) is list)

pub no_rounds : (ss : List Slab) → All (λ s. s.list ≡ []) ss → listed_rounds ss ≡ []
no_rounds [] h = refl
no_rounds (s ∷ ss) h =
    let none : s.list ≡ [] = h 0 s (omega arith) in
    rw none (no_rounds ss (λ k d lt. h (suc k) d (omega arith)))

pub IsLowestRound-first : (ss : List Slab) (c : ℕ) (rest : List ℕ) → AreSlabs ss → listed_rounds ss ≡ c ∷ rest → IsLowestRound ss c
IsLowestRound-first ss c rest h e =
    let rises = rw e at (rounds_rise ss h) in
    record {
      listed = rw e (Contains-here c rest);
      lowest = rw e (All-from_rises c (c ∷ rest) (omega arith, rises.1));
    }

pub set-without_round : (ss : List Slab) (i c : ℕ) (rest : List ℕ) (s : Slab) → AreSlabs ss → i < length ss → s ≡ get_or ss i s → s.list ≡ c ∷ rest → set ss i (record s { list = rest }) ≡ without_round ss c
set-without_round ss i c rest s h lt is list =
    let sound : IsSlab s = rw (← is) at (h.each i s lt) in
    let rises = rw list at (Rises-list s sound) in
    let held : Contains (get_or ss i s).list c = rw (← is, list) (Contains-here c rest) in
    let own = own_round ss i c s h lt held in
    sym (map_one (without_chunk c) ss i (record s { list = rest }) lt
    (λ d. rw (get_or_default ss i d s lt, ← is) (ap (λ (l : List ℕ). let t : Slab = record s { list = l } in t) (ap (λ (l : List ℕ). left_out_by (λ number. number) l c) list ∙ left_out_by-first c rest rises.1)))
    (λ k d kl ne. ap (λ (l : List ℕ). let t : Slab = record (get_or ss k d) { list = l } in t) (left_out_by-absent c (get_or ss k d).list (λ other. ne (has_one ss i k c s d h lt kl own (own_round ss k c d h kl other))))))

-- what a round that is taken leaves
pub record IsTaken (ss ns : List Slab) (r : Option ℕ) : Type 0 where
  pub lowest : IfSome r (IsLowestRound ss)
  pub none : (is_some r ≡ false → listed_rounds ss ≡ []) × (listed_rounds ss ≡ [] → is_some r ≡ false)
  pub taken : MatchOption r (ns ≡ ss) (λ c. ns ≡ without_round ss c)
  pub holds : IfSome r (λ c. listed_rounds ss ≡ c ∷ listed_rounds ns)
  pub sound : AreSlabs ns

pub IsTaken-from_first : (ss : List Slab) (i : ℕ) (s t : Slab) (r : Option ℕ) → AreSlabs ss → i < length ss → ((d : Slab) → (get_or ss i d).list ≢ []) → ((k : ℕ) (d : Slab) → k < i → (get_or ss k d).list ≡ []) → s ≡ get_or ss i s → MatchOption r ((s.list ≡ []) × (t ≡ s)) (λ c. (s.list ≡ c ∷ t.list) × (t ≡ record s { list = t.list })) → IsSlab t → IsTaken ss (set ss i t) r
IsTaken-from_first ss i s t None h lt some empty is taken sound = absurd (some s (ap (λ (x : Slab). x.list) (sym is) ∙ taken.0))
IsTaken-from_first ss i s t (Some c) h lt some empty is taken sound =
    let holds : listed_rounds ss ≡ c ∷ listed_rounds (set ss i t) = taken_rounds ss i c s t lt empty is taken.0 in
    record {
      lowest = IsLowestRound-first ss c (listed_rounds (set ss i t)) h holds;
      none = (λ e. absurd (true≢false e), λ e. absurd (let both : c ∷ listed_rounds (set ss i t) ≡ [] = sym holds ∙ e in cc));
      taken = ap (λ (x : Slab). set ss i x) taken.1 ∙ set-without_round ss i c t.list s h lt is taken.0;
      holds = holds;
      sound = AreSlabs-set ss i s t h lt is taken.1 sound;
    }

pub slabs_of_taken : (cache spare : ℕ) (ss ns : List Slab) (r : Option ℕ) → IsTaken ss ns r → MatchOption r (slabs_of cache spare ns ≡ slabs_of cache spare ss) (λ c. slabs_of cache spare ns ≡ slabs_of cache spare (without_round ss c))
slabs_of_taken cache spare ss ns None h = ap (slabs_of cache spare) h.taken
slabs_of_taken cache spare ss ns (Some c) h = ap (slabs_of cache spare) h.taken

-- ---- a round more

pub set-with_round : (ss : List Slab) (i c : ℕ) (s : Slab) → AreSlabs ss → i < length ss → s ≡ get_or ss i s → HasChunk c s → set ss i (with_chunk c s) ≡ with_round ss c
set-with_round ss i c s h lt is own =
    sym (map_one (with_chunk c) ss i (with_chunk c s) lt
    (λ d. rw (get_or_default ss i d s lt, ← is) refl)
    (λ k d kl ne. with_chunk-foreign (get_or ss k d) c (λ other. ne (has_one ss i k c s d h lt kl (rw (← is) own) other))))

-- the lists hold the round and all that they held
pub put_rounds : (ss : List Slab) (i c : ℕ) (s t : Slab) → i < length ss → s ≡ get_or ss i s → IsPermutation (c ∷ s.list) t.list → IsPermutation (c ∷ listed_rounds ss) (listed_rounds (set ss i t))
put_rounds [] i c s t lt is one = absurd (omega arith)
put_rounds (x ∷ xs) zero c s t lt is one =
    let here : IsPermutation (c ∷ x.list) t.list = rw is at one in
    IsPermutation-append_left (listed_rounds xs) (c ∷ x.list) t.list here
put_rounds (x ∷ xs) (suc i) c s t lt is one =
    IsPermutation-trans (c ∷ (x.list ++ listed_rounds xs)) (x.list ++ c ∷ listed_rounds xs) (x.list ++ listed_rounds (set xs i t))
    (IsPermutation-sym (x.list ++ c ∷ listed_rounds xs) (c ∷ (x.list ++ listed_rounds xs)) (IsPermutation-middle x.list c (listed_rounds xs)))
    (IsPermutation-append_right x.list (c ∷ listed_rounds xs) (listed_rounds (set xs i t)) (put_rounds xs i c s t (omega arith) is one))

-- ---- whether a round is missing

pub missing : (ss : List Slab) (i c : ℕ) (s : Slab) → i < length ss → s ≡ get_or ss i s → HasChunk c s → (Contains (listed_rounds ss) c → ⊥) → IsMissing ss c
missing ss i c s lt is own absent = record { known = (i, s, lt, sym is, own); missing = absent }

absent_test : (xs : List ℕ) (c : ℕ) → (Contains xs c → ⊥) → list_any (λ x. eqb x c) xs ≡ false
absent_test xs c absent = list_any_none (λ x. eqb x c) xs (λ k d lt. ne_eqb _ _ (λ e. absent (rw e at (Contains-get_or xs k d lt))))

pub after_put-missing : (ss : List Slab) (i c : ℕ) (s : Slab) → i < length ss → s ≡ get_or ss i s → HasChunk c s → (Contains (listed_rounds ss) c → ⊥) → after_put ss c ≡ with_round ss c
after_put-missing ss i c s lt is own absent =
    let known : list_any (has_chunk c) ss ≡ true = list_any_at (has_chunk c) ss i s lt (rw (← is) (has_chunk-true c s own)) in
    rw (known, absent_test (listed_rounds ss) c absent) refl

pub after_put-foreign : (ss : List Slab) (c : ℕ) → IsForeign ss c → after_put ss c ≡ ss
after_put-foreign ss c foreign =
    let unknown : list_any (has_chunk c) ss ≡ false = list_any_none (has_chunk c) ss (λ k d lt. has_chunk-false c (get_or ss k d) (foreign k d lt)) in
    rw unknown refl

pub after_put-held : (ss : List Slab) (c : ℕ) → Contains (listed_rounds ss) c → after_put ss c ≡ ss
after_put-held ss c held =
    let there : list_any (λ x. eqb x c) (listed_rounds ss) ≡ true = list_any_at (λ x. eqb x c) (listed_rounds ss) held.0 c held.1 (eq-eqb _ _ held.2) in
    rw (there, and_right (list_any (has_chunk c) ss) false refl) refl

-- what a round that is put leaves
pub record IsPut (ss ns : List Slab) (c : ℕ) (r : Result (Unit {0}) ℕ) : Type 0 where
  pub refused : (is_err r ≡ true → IsForeign ss c ⊎ Contains (listed_rounds ss) c) × (IsForeign ss c ⊎ Contains (listed_rounds ss) c → is_err r ≡ true)
  pub missing : OnOk r (IsMissing ss c)
  pub ok : OnOk r (ns ≡ with_round ss c)
  pub after : ns ≡ after_put ss c
  pub holds : OnOk r (IsPermutation (c ∷ listed_rounds ss) (listed_rounds ns))
  pub sound : AreSlabs ns

-- where its own slab took it, or refused it
pub IsPut-taken : (ss : List Slab) (i c : ℕ) (s : Slab) (u : Unit {0}) → AreSlabs ss → i < length ss → s ≡ get_or ss i s → HasChunk c s → (Contains s.list c → ⊥) → IsPut ss (set ss i (with_chunk c s)) c (Ok u)
IsPut-taken ss i c s u h lt is own absent =
    let none : Contains (listed_rounds ss) c → ⊥ = λ held. absent (rw (← is) at (held_by_own ss i c s h lt (rw (← is) own) held)) in
    let sound : IsSlab s = rw (← is) at (h.each i s lt) in
    let same : with_chunk c s ≡ record s { list = put_by (λ number. number) s.list c } = with_chunk-own s c own in
    let now : set ss i (with_chunk c s) ≡ with_round ss c = set-with_round ss i c s h lt is own in
    record {
      refused = (
        λ e. absurd (false≢true e),
        λ w. absurd (elim w [ inl foreign ↦ foreign i s lt (rw (← is) own) | inr held ↦ none held ]),
      );
      missing = missing ss i c s lt is own none;
      ok = now;
      after = now ∙ sym (after_put-missing ss i c s lt is own none);
      holds = put_rounds ss i c s (with_chunk c s) lt is (rw same (IsPermutation-put_by (λ number. number) s.list c));
      sound = rw same (AreSlabs-set ss i s (record s { list = put_by (λ number. number) s.list c }) h lt is refl (IsSlab-put_by s c sound own absent));
    }

pub IsPut-refused : (ss ns : List Slab) (c e : ℕ) → AreSlabs ss → (IsForeign ss c ⊎ Contains (listed_rounds ss) c) → ns ≡ ss → IsPut ss ns c (Err e)
IsPut-refused ss ns c e h why same = record {
  refused = (λ _. why, λ _. refl);
  missing = tt;
  ok = tt;
  after = same ∙ sym (elim why [ inl foreign ↦ after_put-foreign ss c foreign | inr held ↦ after_put-held ss c held ]);
  holds = tt;
  sound = rw same h;
}

pub IsPut-at : (ss : List Slab) (i c : ℕ) (s t : Slab) (r : Result (Unit {0}) ℕ) → AreSlabs ss → i < length ss → s ≡ get_or ss i s → HasChunk c s → OnOk r (¬ Contains s.list c) → OnOk r (t ≡ with_chunk c s) → (is_err r ≡ true → (HasChunk c s → ⊥) ⊎ Contains s.list c) → OnErr r (t ≡ s) → IsPut ss (set ss i t) c r
IsPut-at ss i c s t (Ok u) h lt is own missing ok refused err = rw ok (IsPut-taken ss i c s u h lt is own missing)
IsPut-at ss i c s t (Err e) h lt is own missing ok refused err =
    let held : Contains (get_or ss i s).list c = rw (← is) (elim (refused refl) [ inl not ↦ absurd (not own) | inr held ↦ held ]) in
    IsPut-refused ss (set ss i t) c e h (inr (Contains-rounds ss i c s lt held)) (ap (λ (x : Slab). set ss i x) (err ∙ is) ∙ set-get_or ss i s)

pub slabs_of_put : (cache spare : ℕ) (ss ns : List Slab) (c : ℕ) (r : Result (Unit {0}) ℕ) → IsPut ss ns c r → OnOk r (slabs_of cache spare ns ≡ slabs_of cache spare (with_round ss c))
slabs_of_put cache spare ss ns c (Ok u) h = ap (slabs_of cache spare) h.ok
slabs_of_put cache spare ss ns c (Err e) h = tt

exchange : (xs ys zs : List ℕ) → IsPermutation (xs ++ (ys ++ zs)) (ys ++ (xs ++ zs))
exchange xs ys zs =
    let swapped = IsPermutation-append_left zs (xs ++ ys) (ys ++ xs) (IsPermutation-append_comm xs ys) in
    rw (append_assoc xs ys zs, append_assoc ys xs zs) at swapped

-- ---- a slab less

pub AreSlabs-remove : (ss : List Slab) (i : ℕ) → AreSlabs ss → i < length ss → AreSlabs (remove ss i)
AreSlabs-remove ss i h lt = record {
  each = All-append IsSlab (take i ss) (drop (suc i) ss) (All-take IsSlab i ss h.each) (All-drop IsSlab (suc i) ss h.each);
  apart = all_pairs_remove (λ s t. s.first + s.count ≤ t.first) ss i lt h.apart;
  bases = all_pairs_remove (λ s t. s.base ≢ t.base) ss i lt h.bases;
}

pub remove-without_slab_at : (ss : List Slab) (i : ℕ) (s : Slab) → AreSlabs ss → i < length ss → s ≡ get_or ss i s → remove ss i ≡ without_slab_at ss s.base
remove-without_slab_at ss i s h lt is = remove-left_out_by_own (λ slab. slab.base) ss i s h.bases lt is

pub dropped_rounds : (ss : List Slab) (i : ℕ) (s : Slab) → i < length ss → s ≡ get_or ss i s → IsPermutation (listed_rounds ss) (s.list ++ listed_rounds (remove ss i))
dropped_rounds [] i s lt is = absurd (omega arith)
dropped_rounds (x ∷ xs) zero s lt is = rw is (IsPermutation-refl (x.list ++ listed_rounds xs))
dropped_rounds (x ∷ xs) (suc i) s lt is =
    IsPermutation-trans (x.list ++ listed_rounds xs) (x.list ++ (s.list ++ listed_rounds (remove xs i))) (s.list ++ (x.list ++ listed_rounds (remove xs i)))
    (IsPermutation-append_right x.list (listed_rounds xs) (s.list ++ listed_rounds (remove xs i)) (dropped_rounds xs i s (omega arith) is))
    (exchange x.list s.list (listed_rounds (remove xs i)))

-- ---- a slab more

no_clash : (s t : Slab) → clashes s t ≡ false → (s.base ≢ t.base) × ((t.first + t.count ≤ s.first) ⊎ (s.first + s.count ≤ t.first))
no_clash s t e =
    let parts = or_parts (eqb s.base t.base) _ e in (
      eqb-false s.base t.base parts.0,
      elim (and_cases (ltb s.first (t.first + t.count)) (ltb t.first (s.first + s.count)) parts.1) [
        | inl over ↦ inl (ltb-false s.first (t.first + t.count) over)
        | inr under ↦ inr (ltb-false t.first (s.first + s.count) under)
      ],
    )

-- a slab that ends where the new one begins, or below, and has another base
apart_below : (s new : Slab) → IsApartBelow new s → clashes s new ≡ false
apart_below s new h =
    rw (ne_eqb s.base new.base h.0, le-ltb new.first (s.first + s.count) h.1) (and_right (ltb s.first (new.first + new.count)) false refl)

-- a place for a slab among others that it doesn't clash with
pub record IsPlaceFor (ss : List Slab) (new : Slab) (i : ℕ) : Type 0 where
  pub slabs : AreSlabs ss
  pub slab : IsSlab new
  pub apart : All (λ s. clashes s new ≡ false) ss
  pub place : SplitsBy (λ s. s.first ≤ new.first) (λ s. new.first < s.first) ss i

ends_below : (ss : List Slab) (new : Slab) (i : ℕ) → IsPlaceFor ss new i → (k : ℕ) (d : Slab) → k < i → (get_or ss k d).first + (get_or ss k d).count ≤ new.first
ends_below ss new i h k d lt =
    let kl : k < length ss = omega (arith, h.place.within) in
    elim (no_clash (get_or ss k d) new (h.apart k d kl)).1 [
      | inl over ↦ omega (arith, h.place.before k d lt, h.slab.some)
      | inr under ↦ under
    ]

begins_above : (ss : List Slab) (new : Slab) (i : ℕ) → IsPlaceFor ss new i → (k : ℕ) (d : Slab) → i ≤ k → k < length ss → new.first + new.count ≤ (get_or ss k d).first
begins_above ss new i h k d le lt =
    elim (no_clash (get_or ss k d) new (h.apart k d lt)).1 [
      | inl over ↦ over
      | inr under ↦ omega (arith, h.place.behind k d le lt)
    ]

pub AreSlabs-insert : (ss : List Slab) (new : Slab) (i : ℕ) → IsPlaceFor ss new i → AreSlabs (insert ss i new)
AreSlabs-insert ss new i h = record {
  each = All-append IsSlab (take i ss) (new ∷ drop i ss) (All-take IsSlab i ss h.slabs.each) (All-cons IsSlab new (drop i ss) h.slab (All-drop IsSlab i ss h.slabs.each));
  apart = AllPairs-insert (λ s t. s.first + s.count ≤ t.first) ss i new h.place.within h.slabs.apart (ends_below ss new i h) (begins_above ss new i h);
  bases = AllPairs-insert (λ s t. s.base ≢ t.base) ss i new h.place.within h.slabs.bases
      (λ k d lt. (no_clash (get_or ss k d) new (h.apart k d (omega (arith, h.place.within)))).0)
      (λ k d le lt e. (no_clash (get_or ss k d) new (h.apart k d lt)).0 (sym e));
}

pub insert-with_slab : (ss : List Slab) (new : Slab) (i : ℕ) → IsPlaceFor (without_clashes ss new) new i → insert (without_clashes ss new) i new ≡ with_slab ss new
insert-with_slab ss new i h = insert-put_by (λ slab. slab.first) (without_clashes ss new) i new h.place

pub added_rounds : (ss : List Slab) (i : ℕ) (new : Slab) → i ≤ length ss → IsPermutation (new.list ++ listed_rounds ss) (listed_rounds (insert ss i new))
added_rounds ss zero new le = IsPermutation-refl (new.list ++ listed_rounds ss)
added_rounds [] (suc i) new le = absurd (omega arith)
added_rounds (x ∷ xs) (suc i) new le =
    IsPermutation-trans (new.list ++ (x.list ++ listed_rounds xs)) (x.list ++ (new.list ++ listed_rounds xs)) (x.list ++ listed_rounds (insert xs i new))
    (exchange new.list x.list (listed_rounds xs))
    (IsPermutation-append_right x.list (new.list ++ listed_rounds xs) (listed_rounds (insert xs i new)) (added_rounds xs i new (omega arith)))

pub AreSlabs-without_clashes : (ss : List Slab) (new : Slab) → AreSlabs ss → AreSlabs (without_clashes ss new)
AreSlabs-without_clashes ss new h =
    let p : Slab → Bool = λ s. not (clashes s new) in
    record {
      each = All-filter p IsSlab ss h.each;
      apart = AllPairs-filter (λ s t. s.first + s.count ≤ t.first) p ss h.apart;
      bases = AllPairs-filter (λ s t. s.base ≢ t.base) p ss h.bases;
    }

pub without_clashes-apart : (ss : List Slab) (new : Slab) → All (λ s. clashes s new ≡ false) (without_clashes ss new)
without_clashes-apart ss new k d lt = not-true (clashes (get_or (without_clashes ss new) k d) new) (filter_passes (λ s. not (clashes s new)) ss k d lt)

-- where a slab ends at or below the first chunk of the new one, and has another base
pub with_slab-last : (ss : List Slab) (new : Slab) → All (IsApartBelow new) ss → with_slab ss new ≡ ss ++ new ∷ []
with_slab-last ss new h =
    let apart : without_clashes ss new ≡ ss = filter_all (λ s. not (clashes s new)) ss (λ k d lt. not_from_false _ (apart_below (get_or ss k d) new (h k d lt))) in
    rw apart (put_by-last (λ slab. slab.first) ss new (λ k d lt. omega (arith, (h k d lt).1)))

-- ---- complete slabs that are dropped

-- dropping one leaves those that are not complete
pub without_complete-dropped : (ss : List Slab) (base : ℕ) (rounds : List ℕ) → AreSlabs ss → HasLowestComplete ss base rounds → without_complete (without_slab_at ss base) ≡ without_complete ss
without_complete-dropped ss base rounds h (i, s, il, is, (lowest, at, list)) =
    let sound : IsSlab s = rw is at (h.each i s il) in
    let gone : not (is_complete s) ≡ false = not_from_true _ ((decides_complete s sound).1 lowest.complete) in
    filter-filter (λ t. not (is_complete t)) (λ t. not (eqb t.base base)) ss (λ k d lt e.
    let same : (get_or ss k d).base ≡ (get_or ss i s).base = eqb-true _ _ (not-false _ e) ∙ at ∙ sym (ap (λ (t : Slab). t.base) is) in
    let here : k ≡ i = index_of_key (λ slab. slab.base) ss i k s d h.bases il lt same in
    rw (here, get_or_default ss i d s il, is) gone)

-- where none is complete, all are left
pub without_complete-none : (ss : List Slab) → AreSlabs ss → All (λ slab. ¬ IsComplete slab) ss → without_complete ss ≡ ss
without_complete-none ss h none =
    filter_all (λ slab. not (is_complete slab)) ss (λ k d lt. not_from_false _ (false_from_ne_true _ (λ e. none k d lt ((decides_complete (get_or ss k d) (h.each k d lt)).0 e))))

-- ---- rounds that are missing

pub IsPut-missing : (ss : List Slab) (c : ℕ) → AreSlabs ss → IsMissing ss c → IsPut ss (after_put ss c) c (Ok tt)
IsPut-missing ss c h missing =
    let at = missing.known in
    let absent : Contains at.1.list c → ⊥ = λ held. missing.missing (Contains-rounds ss at.0 c at.1 at.2 (rw at.3 held)) in
    let taken = IsPut-taken ss at.0 c at.1 tt h at.2 (sym at.3) at.4 absent in
    let P : List Slab → Type 0 = λ ns. IsPut ss ns c (Ok tt) in
    subst P taken.after taken

-- the lists hold a missing round that is put, and all that they held
pub IsPermutation-after_put : (ss : List Slab) (c : ℕ) → AreSlabs ss → IsMissing ss c → IsPermutation (c ∷ listed_rounds ss) (listed_rounds (after_put ss c))
IsPermutation-after_put ss c h missing = (IsPut-missing ss c h missing).holds

-- a round of which the test says that it is missing is missing
IsMissing-tested : (ss : List Slab) (c : ℕ) → is_missing ss c ≡ true → IsMissing ss c
IsMissing-tested ss c e =
    let parts = and_parts (list_any (has_chunk c) ss) (not (list_any (λ x. eqb x c) (listed_rounds ss))) e in
    let at = Any-from_list_any (has_chunk c) ss parts.0 in
    record {
      known = (at.0, at.1, at.2, at.3, HasChunk-from_test c at.1 at.4);
      missing = λ held.
          let there : list_any (λ x. eqb x c) (listed_rounds ss) ≡ true = list_any_at (λ x. eqb x c) (listed_rounds ss) held.0 c held.1 (eq-eqb _ _ held.2) in
          false≢true (rw there at parts.1);
    }

-- a round that is put leaves slabs, whether it is taken or not
AreSlabs-after_put : (ss : List Slab) (c : ℕ) → AreSlabs ss → AreSlabs (after_put ss c)
AreSlabs-after_put ss c h = elim (cases_Bool (is_missing ss c)) [
  | inl taken ↦ (IsPut-missing ss c h (IsMissing-tested ss c taken)).sound
  | inr refused ↦ rw refused h
]

-- another one is missing still
pub IsMissing-after_put : (ss : List Slab) (c other : ℕ) → AreSlabs ss → IsMissing ss c → IsMissing ss other → other ≢ c → IsMissing (after_put ss c) other
IsMissing-after_put ss c other h missing also ne =
    let put = IsPut-missing ss c h missing in
    let now : after_put ss c ≡ with_round ss c = put.ok in
    let at = also.known in
    let there : get_or (with_round ss c) at.0 (with_chunk c at.1) ≡ with_chunk c at.1 = get_or-map (with_chunk c) ss at.0 at.1 (with_chunk c at.1) at.2 ∙ ap (with_chunk c) at.3 in
    record {
      known = rw now (at.0, with_chunk c at.1, rw length-map at.2, there, HasChunk-with_chunk c other at.1 at.4);
      missing = λ held. elim (Contains-cases c other (listed_rounds ss) (Contains-permutation (listed_rounds (after_put ss c)) (c ∷ listed_rounds ss) other (IsPermutation-sym _ _ put.holds) held)) [
        | inl same ↦ ne (sym same)
        | inr old ↦ also.missing old
      ];
    }

AreMissing-rest : (ss : List Slab) (c : ℕ) (cs : List ℕ) → AreSlabs ss → AreMissing ss (c ∷ cs) → AreMissing (after_put ss c) cs
AreMissing-rest ss c cs h missing = record {
  each = λ k d lt. IsMissing-after_put ss c (get_or cs k d) h (missing.each 0 c (omega arith)) (missing.each (suc k) d (omega arith)) (λ e. missing.distinct 0 (suc k) d (omega arith) (omega arith) (sym e));
  distinct = λ i j d less lt. missing.distinct (suc i) (suc j) d (omega arith) (omega arith);
}

pub after_puts-append : (ss : List Slab) (xs ys : List ℕ) → after_puts ss (xs ++ ys) ≡ after_puts (after_puts ss xs) ys
after_puts-append ss [] ys = refl
after_puts-append ss (x ∷ xs) ys = after_puts-append (after_put ss x) xs ys

-- after rounds that are missing were put one by one, the lists hold them and all that they held
pub KeepsRounds-after_puts : (ss : List Slab) (cs : List ℕ) → AreSlabs ss → KeepsRounds ss (after_puts ss cs) cs
KeepsRounds-after_puts ss [] h missing = IsPermutation-refl (listed_rounds ss)
KeepsRounds-after_puts ss (c ∷ cs) h missing =
    let put = IsPut-missing ss c h (missing.each 0 c (omega arith)) in
    let now = after_put ss c in
    let moved : IsPermutation (c ∷ (cs ++ listed_rounds ss)) (cs ++ c ∷ listed_rounds ss) = IsPermutation-sym _ _ (IsPermutation-middle cs c (listed_rounds ss)) in
    let first : IsPermutation (cs ++ c ∷ listed_rounds ss) (cs ++ listed_rounds now) = IsPermutation-append_right cs _ _ put.holds in
    let rest = KeepsRounds-after_puts now cs put.sound (AreMissing-rest ss c cs h missing) in
    IsPermutation-trans _ _ _ moved (IsPermutation-trans _ _ _ first rest)

pub KeepsRounds-put : (ss ns : List Slab) (cs : List ℕ) → AreSlabs ss → ns ≡ after_puts ss cs → KeepsRounds ss ns cs
KeepsRounds-put ss ns cs h put missing = rw put (KeepsRounds-after_puts ss cs h missing)

pub AreSlabs-after_puts : (ss : List Slab) (cs : List ℕ) → AreSlabs ss → AreSlabs (after_puts ss cs)
AreSlabs-after_puts ss [] h = h
AreSlabs-after_puts ss (c ∷ cs) h = AreSlabs-after_puts (after_put ss c) cs (AreSlabs-after_put ss c h)

-- ---- the search for the complete slab that begins lowest

-- of the first n slabs none is complete, or the one at the index is and begins lowest of those that are
abbrev pub IsLowestBefore : List Slab → ℕ → Option ℕ → Type 0
IsLowestBefore slabs n lowest = MatchOption lowest (AllWithin (λ s. ¬ IsComplete s) slabs 0 n)
    (λ i. (i < n) × HoldsAt (λ s. IsComplete s × AllWithin (λ other. IsComplete other → s.base ≤ other.base) slabs 0 n) slabs i)
