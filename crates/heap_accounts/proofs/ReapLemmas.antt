-- The shrinks before a reap give back exactly the slabs of which no chunk lives, in their order.
use Rattle.std.proofs.Common.{◌≡◌, ℕ, suc, ◌+◌, inl, inr, List, [], ◌∷◌, ◌++◌, length, refl, sym, ap, ◌∙◌, subst, arith}
use Rattle.std.specs.Prelude.{All, AllPairs, Contains, is_some}
use Rattle.std.specs.List.{slice_get}
use Rattle.std.proofs.lemmas.Bool.{false≢true}
use Rattle.std.proofs.lemmas.Bool.Decides.{eqb_tells}
use Rattle.std.proofs.lemmas.List.{length-append}
use Rattle.std.proofs.lemmas.List.Elements.{All-cons, All-nil}
use Rattle.std.proofs.lemmas.List.Kept.{AllPairs-cons}
use Rattle.umem_base.proofs.Lists.{Contains-here, Contains-there}
use Rattle.umem_base.proofs.OrderedLemmas.{Contains-cases, Contains-from_left_out_by, Contains-nil}
use Rattle.script.specs.declared.operation.Op.{Op}
use Rattle.script.specs.declared.operation.Op.TheVariants.{Alloc, Zalloc, Free, CacheAlloc, CacheFree, Copy, Clear, Store, Link, Load, Reap}
use Rattle.script.specs.Rules.{IsHeader}
use Rattle.plain_heap.specs.declared.entry.Body.{Body}
use Rattle.plain_heap.specs.declared.entry.Body.TheVariants as body
use Rattle.plain_heap.specs.declared.entry.Entry.{Entry}
use Rattle.plain_heap.specs.declared.reply.Reply.{Reply}
use Rattle.plain_heap.specs.declared.reply.Reply.TheVariants as reply
use Rattle.plain_heap.specs.Answers.{AreAllInUse, IsInOrder, IsTidyBody, IsTidyCall}
use Rattle.plain_heap.specs.Legal.{IsLegalBody, IsReap, IsReaping, next_of_thread}
use Rattle.plain_heap.specs.Replies.{IsReply}
use Rattle.plain_heap.specs.Setting.{Setting}
use Rattle.plain_heap.specs.State.{HeapSlab, State, after_body, after_shrink, state_of}
use Rattle.plain_heap.proofs.EntryLemmas.{one_more}
use Rattle.plain_heap.proofs.StepsLemmas.{IsInPlace}
use Rattle.heap_ledger.specs.declared.slab_at.SlabAt.{SlabAt}
use Rattle.heap_ledger.specs.Commits.{AreReaped, CanShrink, GoesBefore}
use Rattle.heap_ledger.specs.Ledger.{entry, inner_entries, shrunk}
use Rattle.heap_ledger.proofs.MayCommitLemmas.{in_place_still, same_place, still_can}
use Rattle.heap_accounts.specs.Laws.{IsDecided}
use Rattle.heap_accounts.proofs.StandsLemmas.{Stands, entry_of, moved, next_is_first, stands}

-- ---- slabs that were given back one after another

-- a slab goes before the first of some others
abbrev pub GoesBeforeFirst : SlabAt → List SlabAt → Type 0
GoesBeforeFirst slab [] = Unit {0}
GoesBeforeFirst slab (next ∷ slabs) = GoesBefore slab next

-- each may be given back once those before it were, they stand in order, and then each slab that is left is in use
abbrev pub AreGiven : Setting → State → List SlabAt → Type 0
AreGiven setting state [] = AreAllInUse setting state
AreGiven setting state (slab ∷ slabs) = CanShrink setting state slab × (GoesBeforeFirst slab slabs × AreGiven setting (after_shrink state slab.base) slabs)

goes_on : (one two three : SlabAt) → GoesBefore one two → GoesBefore two three → GoesBefore one three
goes_on one two three (inl h) (inl g) = inl (omega arith)
goes_on one two three (inl h) (inr g) = inl (omega (arith, g.0))
goes_on one two three (inr h) (inl g) = inl (omega (arith, h.0))
goes_on one two three (inr h) (inr g) = inr (h.0 ∙ g.0, omega (arith, h.1, g.1))

before_all : (setting : Setting) (state : State) (first : SlabAt) (slabs : List SlabAt) → GoesBeforeFirst first slabs → AreGiven setting state slabs → All (GoesBefore first) slabs
before_all setting state first [] order given = All-nil (GoesBefore first)
before_all setting state first (next ∷ slabs) order given =
    let rest = before_all setting (after_shrink state next.base) next slabs given.1.0 given.1.1 in
    All-cons (GoesBefore first) next slabs order (λ k d lt. goes_on first next _ order (rest k d lt))

in_order : (setting : Setting) (state : State) (slabs : List SlabAt) → AreGiven setting state slabs → AllPairs GoesBefore slabs
in_order setting state [] given = λ i j d less lt. absurd (omega arith)
in_order setting state (slab ∷ slabs) given =
    AllPairs-cons GoesBefore slab slabs (before_all setting (after_shrink state slab.base) slab slabs given.1.0 given.1.1) (in_order setting (after_shrink state slab.base) slabs given.1.1)

can_before : (setting : Setting) (state : State) (base : ℕ) (slab : SlabAt) → CanShrink setting (after_shrink state base) slab → CanShrink setting state slab
can_before setting state base slab can = record {
  standing = can.standing;
  stands = (Contains-from_left_out_by (λ (s : HeapSlab). s.base) state.slabs base can.standing can.stands).0;
  its_cache = can.its_cache;
  its_base = can.its_base;
  unused = can.unused;
}

given_can : (setting : Setting) (state : State) (slabs : List SlabAt) → AreGiven setting state slabs → (slab : SlabAt) → Contains slabs slab → CanShrink setting state slab
given_can setting state [] given slab there = Contains-nil slab there
given_can setting state (first ∷ slabs) given slab there = elim (Contains-cases first slab slabs there) [
  | inl is ↦ subst (CanShrink setting state) is given.0
  | inr later ↦ can_before setting state first.base slab (given_can setting (after_shrink state first.base) slabs given.1.1 slab later)
]

same_slab : (one other : SlabAt) → one.cache ≡ other.cache → one.base ≡ other.base → one ≡ other
same_slab one other caches bases =
    let with_cache : ℕ → SlabAt = λ c. record { cache = c; base = one.base } in
    let with_base : ℕ → SlabAt = λ b. record { cache = other.cache; base = b } in
    ap with_cache caches ∙ ap with_base bases

none_can : (setting : Setting) (state : State) (slab : SlabAt) → AreAllInUse setting state → CanShrink setting state slab → ⊥
none_can setting state slab used can =
    let its = used can.standing can.stands in
    false≢true (sym (ap is_some (can.unused its.address its.chunk)) ∙ its.live)

can_given : (setting : Setting) (state : State) (slabs : List SlabAt) → IsHeader setting.header → IsInPlace setting state → AreGiven setting state slabs → (slab : SlabAt) → CanShrink setting state slab → Contains slabs slab
can_given setting state [] header places given slab can = absurd (none_can setting state slab given can)
can_given setting state (first ∷ slabs) header places given slab can = elim (eqb_tells slab.base first.base) [
  | inl same ↦
      let is = same_slab slab first (same_place setting state slab first header places can given.0 same.1) same.1 in
      subst (Contains (first ∷ slabs)) (sym is) (Contains-here first slabs)
  | inr apart ↦
      let still = still_can setting state first.base slab apart.1 can in
      let later = in_place_still setting header 0 [] state first places given.0 in
      Contains-there first slab slabs (can_given setting (after_shrink state first.base) slabs header later given.1.1 slab still)
]

pub are_reaped : (setting : Setting) (state : State) (slabs : List SlabAt) → IsHeader setting.header → IsInPlace setting state → AreGiven setting state slabs → AreReaped setting state slabs
are_reaped setting state slabs header places given = record {
  exactly = λ slab. (given_can setting state slabs given slab, can_given setting state slabs header places given slab);
  in_order = in_order setting state slabs given;
}

-- ---- the entries of a reap

-- shrinks of a thread and the reap behind them
pub record Reaping (setting : Setting) (before rest : List Entry) (thread : ℕ) : Type 0 where
  pub slabs : List SlabAt
  pub frames : List ℕ
  pub answer : Reply
  pub later : List Entry
  pub splits : rest ≡ inner_entries (length before) thread (shrunk slabs) ++ entry (length before + length (shrunk slabs)) thread (body.Call Reap frames answer) ∷ later
  pub ok : answer ≡ reply.Ok
  pub given : AreGiven setting (state_of setting before) slabs

is_reap : (op : Op) → IsReap op → op ≡ Reap
is_reap (Alloc slot size) is = absurd is
is_reap (Zalloc slot size) is = absurd is
is_reap (Free slot size) is = absurd is
is_reap (CacheAlloc slot cache) is = absurd is
is_reap (CacheFree slot cache) is = absurd is
is_reap (Copy to from) is = absurd is
is_reap (Clear slot) is = absurd is
is_reap (Store slot offset stored) is = absurd is
is_reap (Link slot offset value) is = absurd is
is_reap (Load to slot offset) is = absurd is
is_reap Reap is = refl

-- the first entry is one of the thread, and a shrink or a reap
abbrev pub BeginsReaping : ℕ → List Entry → Type 0
BeginsReaping thread [] = ⊥
BeginsReaping thread (first ∷ rest) = (first.thread ≡ thread) × IsReaping first.body

-- behind a shrink stands another, or the reap
goes_reaping : (setting : Setting) (state : State) (thread cache base : ℕ) (rest : List Entry) → IsLegalBody setting state thread (body.Shrink cache base) (next_of_thread thread rest)
    → IsTidyBody setting state thread (body.Shrink cache base) (slice_get rest 0) → BeginsReaping thread rest
goes_reaping setting state thread cache base [] legal tidy = tidy.0
goes_reaping setting state thread cache base (next ∷ rest) legal tidy =
    let found = next_is_first thread next legal.entry rest tidy.0 legal.follows in
    (tidy.0, subst (λ (e : Entry). IsReaping e.body) found legal.reaped)

order_of : (cache base number thread : ℕ) (slabs : List SlabAt) (more : List Entry) → IsInOrder cache base (slice_get (inner_entries number thread (shrunk slabs) ++ more) 0)
    → GoesBeforeFirst (record { cache = cache; base = base }) slabs
order_of cache base number thread [] more order = tt
order_of cache base number thread (next ∷ slabs) more order = order

module _ (setting : Setting) (whole : List Entry) (decided : IsDecided setting whole) (thread : ℕ) where
  -- the reap itself
  at_reap : (before rest : List Entry) (first : Entry) (op : Op) (frames : List ℕ) (answer : Reply) → first.number ≡ length before → first.thread ≡ thread → first.body ≡ body.Call op frames answer
      → IsReap op → IsReply setting (state_of setting before) first.thread op answer → IsTidyCall setting (state_of setting before) op answer → Reaping setting before (first ∷ rest) thread
  at_reap before rest first op frames answer numbers threads is reaps told tidy =
      let reap = is_reap op reaps in
      let none : length before ≡ length before + 0 = omega arith in
      record {
        slabs = [];
        frames = frames;
        answer = answer;
        later = rest;
        splits = ap (λ (e : Entry). e ∷ rest) (entry_of first (length before + 0) thread (body.Call Reap frames answer) (numbers ∙ none) threads (is ∙ ap (λ (o : Op). body.Call o frames answer) reap));
        ok = subst (λ (o : Op). IsReply setting (state_of setting before) first.thread o answer) reap told;
        given = subst (λ (o : Op). IsTidyCall setting (state_of setting before) o answer) reap tidy;
      }

  -- a shrink, and what stands behind it
  at_shrink : (before rest : List Entry) (first : Entry) (cache base : ℕ) → first.number ≡ length before → first.thread ≡ thread → first.body ≡ body.Shrink cache base
      → IsLegalBody setting (state_of setting before) first.thread (body.Shrink cache base) (next_of_thread first.thread rest)
      → IsTidyBody setting (state_of setting before) first.thread (body.Shrink cache base) (slice_get rest 0) → Reaping setting (before ++ first ∷ []) rest thread → Reaping setting before (first ∷ rest) thread
  at_shrink before rest first cache base numbers threads is legal tidy again =
      let slab : SlabAt = record { cache = cache; base = base } in
      let reap : ℕ → Entry = λ n. entry n thread (body.Call Reap again.frames again.answer) in
      let count : length (before ++ first ∷ []) ≡ length before + 1 = length-append before (first ∷ []) in
      let last : (length before + 1) + length (shrunk again.slabs) ≡ length before + suc (length (shrunk again.slabs)) = omega arith in
      let behind = again.splits ∙ ap (λ n. inner_entries n thread (shrunk again.slabs) ++ reap (n + length (shrunk again.slabs)) ∷ again.later) count
      ∙ ap (λ n. inner_entries (length before + 1) thread (shrunk again.slabs) ++ reap n ∷ again.later) last in
      let state = one_more setting before first ∙ ap (λ (b : Body). after_body setting (state_of setting before) first.thread b) is in
      record {
        slabs = slab ∷ again.slabs;
        frames = again.frames;
        answer = again.answer;
        later = again.later;
        splits = ap (λ (e : Entry). e ∷ rest) (entry_of first (length before) thread (body.Shrink cache base) numbers threads is) ∙ ap (λ (l : List Entry). entry (length before) thread (body.Shrink cache base) ∷ l) behind;
        ok = again.ok;
        given = (
          record { standing = legal.slab; stands = legal.stands; its_cache = legal.its_cache; its_base = legal.its_base; unused = legal.unused },
          (
            order_of cache base (length (before ++ first ∷ [])) thread again.slabs _ (subst (λ (l : List Entry). IsInOrder cache base (slice_get l 0)) again.splits tidy.1),
            subst (λ (s : State). AreGiven setting s again.slabs) state again.given,
          ),
        );
      }

  either : (before rest : List Entry) (first : Entry) → Stands setting before rest first → first.thread ≡ thread → IsReaping first.body
      → (BeginsReaping first.thread rest → Reaping setting (before ++ first ∷ []) rest thread) → (content : Body) → first.body ≡ content → Reaping setting before (first ∷ rest) thread
  either before rest first h threads reaps again content is = by_body content is
      (subst (λ (b : Body). IsReaping b) is reaps)
      (subst (λ (b : Body). IsLegalBody setting (state_of setting before) first.thread b (next_of_thread first.thread rest)) is h.legal)
      (subst (λ (b : Body). IsTidyBody setting (state_of setting before) first.thread b (slice_get rest 0)) is h.tidy)
    where
      by_body : (content : Body) → first.body ≡ content → IsReaping content → IsLegalBody setting (state_of setting before) first.thread content (next_of_thread first.thread rest)
          → IsTidyBody setting (state_of setting before) first.thread content (slice_get rest 0) → Reaping setting before (first ∷ rest) thread
      by_body (body.Call op frames answer) is reaps legal tidy = at_reap before rest first op frames answer h.number threads is reaps legal tidy
      by_body (body.Grow cache base) is reaps legal tidy = absurd reaps
      by_body (body.Shrink cache base) is reaps legal tidy =
          at_shrink before rest first cache base h.number threads is legal tidy (again (goes_reaping setting (state_of setting before) first.thread cache base rest legal tidy))

  pub reaping : (before rest : List Entry) → whole ≡ before ++ rest → BeginsReaping thread rest → Reaping setting before rest thread
  reaping before [] is begins = absurd begins
  reaping before (first ∷ rest) is begins =
      either before rest first (stands setting whole before rest first is decided) begins.0 begins.1
      (λ next. reaping (before ++ first ∷ []) rest (moved whole before rest first is) (subst (λ t. BeginsReaping t rest) begins.0 next)) first.body refl
