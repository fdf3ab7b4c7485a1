-- What one entry more does, and what entries that are added leave as it was.
use Rattle.std.proofs.Common.{◌≡◌, ◌≢◌, ℕ, zero, suc, ◌+◌, ◌≤◌, ◌⊎◌, inl, inr, Bool, true, false, cond, eqb, List, [], ◌∷◌, ◌++◌, length, take, drop, Option, Some, None, refl, sym, ap, ◌∙◌, subst, arith}
use Rattle.std.specs.Prelude.{option_map, find}
use Rattle.std.specs.List.{slice_get}
use Rattle.std.specs.Option.{option_or}
use Rattle.std.proofs.lemmas.Bool.Decides.{eqb_tells}
use Rattle.std.proofs.lemmas.List.{take-append-le}
use Rattle.std.proofs.lemmas.List.Folds.{find-append}
use Rattle.std.proofs.lemmas.List.Sums.{fold-append}
use Rattle.std.proofs.lemmas.Option.{slice_get_within}
use Rattle.std.proofs.Math.Seq.{take-append_seam}
use Rattle.umem_base.specs.Ordered.{left_out_by}
use Rattle.umem_base.proofs.OrderedLemmas.{left_out_by-drops, left_out_by-keeps}
use Rattle.plain_heap.specs.declared.entry.Body.{Body}
use Rattle.plain_heap.specs.declared.entry.Body.TheVariants.{Call, Grow, Shrink}
use Rattle.plain_heap.specs.declared.entry.Entry.{Entry}
use Rattle.plain_heap.specs.Calls.{IsNext}
use Rattle.plain_heap.specs.Laws.{FollowingGrows, FollowingIsClosedUnderPrefixes, GivingBackLeavesTheOthers, LegalHistoriesGrow, OneEntryMoreIsOneStep}
use Rattle.plain_heap.specs.Legal.{IsLegalBody, IsLegalEntry, next_of_thread}
use Rattle.plain_heap.specs.Setting.{Setting}
use Rattle.plain_heap.specs.State.{LiveBuffer, State, after_entry, held_at, start_state, state_of}

pub one_more : OneEntryMoreIsOneStep
one_more setting entries entry = fold-append (after_entry setting) start_state entries (entry ∷ [])

-- ---- live buffers

map_cond : {X Y : Type 0} (f : X → Y) (b : Bool) (x : X) (o : Option X) → option_map f (cond b (Some x) o) ≡ cond b (Some (f x)) (option_map f o)
map_cond f true x o = refl
map_cond f false x o = refl

pub held_first : (buffer : LiveBuffer) (live : List LiveBuffer) (address : ℕ) → held_at (buffer ∷ live) address ≡ cond (eqb buffer.address address) (Some buffer.held) (held_at live address)
held_first buffer live address = map_cond (λ (b : LiveBuffer). b.held) (eqb buffer.address address) buffer (find (λ (b : LiveBuffer). eqb b.address address) live)

cond_twice : {X : Type 0} (b : Bool) (x y z : X) → cond b x z ≡ cond b x (cond b y z)
cond_twice true x y z = refl
cond_twice false x y z = refl

none_either : {X : Type 0} (b : Bool) (x : X) → x ≡ cond b x x
none_either true x = refl
none_either false x = refl

-- two tests of one number against two others
tests_apart : {X : Type 0} (one other address : ℕ) (x y z : X) → one ≢ other → cond (eqb one address) x (cond (eqb other address) y z) ≡ cond (eqb other address) y (cond (eqb one address) x z)
tests_apart one other address x y z apart = elim (eqb_tells one address) [
  | inl e ↦ elim (eqb_tells other address) [
    | inl f ↦ absurd (apart (e.1 ∙ sym f.1))
    | inr f ↦ rw (e.0, f.0) refl
  ]
  | inr e ↦ rw e.0 refl
]

pub giving_back : GivingBackLeavesTheOthers
giving_back [] freed address = none_either (eqb freed address) None
giving_back (buffer ∷ live) freed address =
    let key = λ (b : LiveBuffer). b.address in
    let was = held_at live address in
    let first = held_first buffer live address in
    elim (eqb_tells buffer.address freed) [
      | inl e ↦
          ap (λ (l : List LiveBuffer). held_at l address) (left_out_by-drops key buffer live freed e.1)
          ∙ giving_back live freed address ∙ cond_twice (eqb freed address) None (Some buffer.held) was
          ∙ ap (λ a. cond (eqb freed address) None (cond (eqb a address) (Some buffer.held) was)) (sym e.1)
          ∙ ap (cond (eqb freed address) None) (sym first)
      | inr e ↦
          ap (λ (l : List LiveBuffer). held_at l address) (left_out_by-keeps key buffer live freed e.1)
          ∙ held_first buffer (left_out_by key live freed) address
          ∙ ap (cond (eqb buffer.address address) (Some buffer.held)) (giving_back live freed address)
          ∙ tests_apart buffer.address freed address (Some buffer.held) None was e.1
          ∙ ap (cond (eqb freed address) None) (sym first)
    ]

-- ---- places in a list with more behind it

pub get_front : {X : Type 0} (xs ys : List X) (n : ℕ) (x : X) → slice_get xs n ≡ Some x → slice_get (xs ++ ys) n ≡ Some x
get_front [] ys n x at = absurd (cc at)
get_front (first ∷ xs) ys zero x at = at
get_front (first ∷ xs) ys (suc n) x at = get_front xs ys n x at

-- a place of a joined list is one of the front or one behind it
pub get_either : {X : Type 0} (xs ys : List X) (n : ℕ) (x : X) → slice_get (xs ++ ys) n ≡ Some x
    → (slice_get xs n ≡ Some x) ⊎ ((k : ℕ) × (n ≡ length xs + k) × (slice_get ys k ≡ Some x))
get_either [] ys n x at = inr (n, omega arith, at)
get_either (first ∷ xs) ys zero x at = inl at
get_either (first ∷ xs) ys (suc n) x at = elim (get_either xs ys n x at) [
  | inl here ↦ inl here
  | inr there ↦ inr (there.0, omega (arith, there.1), there.2)
]

pub take_front : {X : Type 0} (xs ys : List X) (n : ℕ) (x : X) → slice_get xs n ≡ Some x → take n (xs ++ ys) ≡ take n xs
take_front xs ys n x at = take-append-le n xs ys (omega (arith, slice_get_within xs n x at))

pub drop_front : {X : Type 0} (xs ys : List X) (n : ℕ) → n ≤ length xs → drop n (xs ++ ys) ≡ drop n xs ++ ys
drop_front xs ys zero le = refl
drop_front [] ys (suc n) le = absurd (omega arith)
drop_front (x ∷ xs) ys (suc n) le = drop_front xs ys n (omega arith)

-- ---- plans

pub follows_front : FollowingIsClosedUnderPrefixes
follows_front plan entries more follows n entry at =
    let next = follows n entry (get_front entries more n entry at) in
    subst (λ (before : List Entry). IsNext plan before entry.thread entry.body) (take_front entries more n entry at) next

pub follows_grow : FollowingGrows
follows_grow plan entries entry follows next n e at = elim (get_either entries (entry ∷ []) n e at) [
  | inl here ↦ subst (λ (before : List Entry). IsNext plan before e.thread e.body) (sym (take_front entries (entry ∷ []) n e here)) (follows n e here)
  | inr there ↦ last there.0 there.1 there.2
]
  where
    last : (k : ℕ) → n ≡ length entries + k → slice_get (entry ∷ []) k ≡ Some e → IsNext plan (take n (entries ++ entry ∷ [])) e.thread e.body
    last zero is here =
        let same : entry ≡ e = cc in
        let end : n ≡ length entries = omega arith in
        let front : take n (entries ++ entry ∷ []) ≡ entries = ap (λ i. take i (entries ++ entry ∷ [])) end ∙ take-append_seam entries (entry ∷ []) in
        subst (λ (before : List Entry). IsNext plan before e.thread e.body) (sym front)
        (subst (λ (x : Entry). IsNext plan entries x.thread x.body) same next)
    last (suc k) is here = absurd (cc here)

-- ---- legal histories

-- a found entry is found with more behind
next_front : (thread : ℕ) (later more : List Entry) (entry : Entry) → next_of_thread thread later ≡ Some entry → next_of_thread thread (later ++ more) ≡ Some entry
next_front thread later more entry is =
    let test = λ (e : Entry). eqb e.thread thread in
    find-append test later more ∙ ap (λ (o : Option Entry). option_or o (find test more)) is

-- an allowed body stays allowed with more behind
body_front : (setting : Setting) (state : State) (thread : ℕ) (body : Body) (later more : List Entry) → IsLegalBody setting state thread body (next_of_thread thread later)
    → IsLegalBody setting state thread body (next_of_thread thread (later ++ more))
body_front setting state thread (Call op frames answer) later more h = h
body_front setting state thread (Grow cache base) later more h = record {
  is_cache = h.is_cache;
  page = h.page;
  free = h.free;
  entry = h.entry;
  follows = next_front thread later more h.entry h.follows;
  used = h.used;
}
body_front setting state thread (Shrink cache base) later more h = record {
  slab = h.slab;
  stands = h.stands;
  its_cache = h.its_cache;
  its_base = h.its_base;
  unused = h.unused;
  entry = h.entry;
  follows = next_front thread later more h.entry h.follows;
  reaped = h.reaped;
}

pub legal_grow : LegalHistoriesGrow
legal_grow setting entries more legal behind n entry at = elim (get_either entries more n entry at) [
  | inl here ↦ front here (legal n entry here)
  | inr there ↦ subst (λ i. IsLegalEntry setting (entries ++ more) i entry) (sym there.1) (behind there.0 entry there.2)
]
  where
    front : slice_get entries n ≡ Some entry → IsLegalEntry setting entries n entry → IsLegalEntry setting (entries ++ more) n entry
    front here h =
        let within : n + 1 ≤ length entries = omega (arith, slice_get_within entries n entry here) in
        let body = body_front setting (state_of setting (take n entries)) entry.thread entry.body (drop (n + 1) entries) more h.body in
        let before = subst (λ (b : List Entry). IsLegalBody setting (state_of setting b) entry.thread entry.body (next_of_thread entry.thread (drop (n + 1) entries ++ more))) (sym (take_front entries more n entry here)) body in
        record {
          number = h.number;
          body = subst (λ (d : List Entry). IsLegalBody setting (state_of setting (take n (entries ++ more))) entry.thread entry.body (next_of_thread entry.thread d)) (sym (drop_front entries more (n + 1) within)) before;
        }
