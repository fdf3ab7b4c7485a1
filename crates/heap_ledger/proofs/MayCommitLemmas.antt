-- Which commits keep a ledger legal and tidy, and what state they leave.
use Rattle.std.proofs.Common.{◌≡◌, ◌≢◌, ℕ, zero, suc, ◌+◌, ◌<◌, ◌≤◌, ◌⊎◌, inl, inr, cond, List, [], ◌∷◌, ◌++◌, length, get_or, Option, Some, None, refl, sym, ap, ◌∙◌, subst, arith}
use Rattle.std.specs.Prelude.{All, AllPairs, Contains, IfSome, fold, is_some}
use Rattle.std.specs.List.{slice_get}
use Rattle.std.proofs.lemmas.Bool.Decides.{eqb_tells}
use Rattle.std.proofs.lemmas.List.{length-map}
use Rattle.std.proofs.lemmas.List.Elements.{All-contains, All-contains_itself, All-head, All-tail}
use Rattle.std.proofs.lemmas.List.Sums.{fold-append}
use Rattle.umem_base.specs.Ordered.{left_out_by}
use Rattle.umem_base.proofs.OrderedLemmas.{Contains-cases, Contains-from_left_out_by, Contains-left_out_by, Contains-nil}
use Rattle.script.specs.declared.operation.Op.{Op}
use Rattle.script.specs.declared.operation.Op.TheVariants.{Reap}
use Rattle.script.specs.Plan.{Call}
use Rattle.script.specs.Rules.{IsHeader}
use Rattle.plain_heap.specs.declared.entry.Body.{Body}
use Rattle.plain_heap.specs.declared.entry.Body.TheVariants as body
use Rattle.plain_heap.specs.declared.entry.Entry.{Entry}
use Rattle.plain_heap.specs.declared.held.Held.{Held}
use Rattle.plain_heap.specs.declared.reply.Reply.{Reply}
use Rattle.plain_heap.specs.declared.reply.Reply.TheVariants as reply
use Rattle.plain_heap.specs.Answers.{AreAllInUse, IsByThread, IsInOrder, IsInUse}
use Rattle.plain_heap.specs.Calls.{next_call}
use Rattle.plain_heap.specs.Laws.{StandApart}
use Rattle.plain_heap.specs.Legal.{IsGrow, IsShrink, IsUnused, next_of_thread}
use Rattle.plain_heap.specs.Setting.{Setting, geometry_in}
use Rattle.plain_heap.specs.State.{HeapSlab, LiveBuffer, State, after_entry, after_shrink, chunk_start, held_at, span_of_slab, start_state, state_of}
use Rattle.plain_heap.proofs.PairsLemmas.{pair_of}
use Rattle.plain_heap.proofs.PlacesLemmas.{AreInPlace, IsInArena, apart_bases}
use Rattle.plain_heap.proofs.SeparateLemmas.{history_in_place}
use Rattle.plain_heap.proofs.StepsLemmas.{IsInPlace, without_slab}
use Rattle.heap_ledger.specs.declared.slab_at.SlabAt.{SlabAt}
use Rattle.heap_ledger.specs.Commits.{AreReaped, CanShrink, GoesBefore, after_shrinks}
use Rattle.heap_ledger.specs.Laws.{AnswersMayBeCommitted, CommittedAnswersAreSteps, CommittedGrowsAreSteps, CommittedReapsAreSteps, GrowsMayBeCommitted, ReapsMayBeCommitted}
use Rattle.heap_ledger.specs.Ledger.{IsLedger, KeepsLegal, Ledger, MayCommit, commit_entries, entry, grown, inner_entries, run_setting, run_state, shrunk}
use Rattle.heap_ledger.proofs.GrowthLemmas.{Stand, legal_behind, tidy_behind}

-- ---- what commits leave

-- what a longer history leaves, from what the shorter one left
steps : (setting : Setting) (entries more : List Entry) → state_of setting (entries ++ more) ≡ fold (after_entry setting) (state_of setting entries) more
steps setting entries more = fold-append (after_entry setting) start_state entries more

pub answers_step : CommittedAnswersAreSteps
answers_step ledger thread call answer = steps (run_setting ledger) ledger.entries (commit_entries (length ledger.entries) thread [] call answer)

pub grows_step : CommittedGrowsAreSteps
grows_step ledger thread call slab answer = steps (run_setting ledger) ledger.entries (commit_entries (length ledger.entries) thread (grown slab ∷ []) call answer)

shrinks_step : (setting : Setting) (state : State) (number thread : ℕ) (slabs : List SlabAt) (rest : List Entry)
    → fold (after_entry setting) state (inner_entries number thread (shrunk slabs) ++ rest) ≡ fold (after_entry setting) (after_shrinks state slabs) rest
shrinks_step setting state number thread [] rest = refl
shrinks_step setting state number thread (slab ∷ slabs) rest = shrinks_step setting (after_shrink state slab.base) (number + 1) thread slabs rest

pub reaps_step : CommittedReapsAreSteps
reaps_step ledger thread call slabs answer =
    let last = entry (length ledger.entries + length (shrunk slabs)) thread (body.Call call.op call.frames answer) in
    steps (run_setting ledger) ledger.entries (commit_entries (length ledger.entries) thread (shrunk slabs) call answer)
    ∙ shrinks_step (run_setting ledger) (run_state ledger) (length ledger.entries) thread slabs (last ∷ [])

-- ---- commits that may be made

-- entries that stand behind those of a ledger may be committed
may : (ledger : Ledger) (thread : ℕ) (inner : List Body) (call : Call) (answer : Reply) → IsLedger ledger → next_call ledger.plan ledger.entries thread ≡ Some call
    → Stand (run_setting ledger) (run_state ledger) (length ledger.entries) (commit_entries (length ledger.entries) thread inner call answer) → MayCommit ledger thread inner answer
may ledger thread inner call answer is next stand =
    let more = commit_entries (length ledger.entries) thread inner call answer in
    let kept : KeepsLegal ledger thread inner answer call = record {
      legal = legal_behind (run_setting ledger) ledger.entries more is.legal stand;
      tidy = tidy_behind (run_setting ledger) ledger.entries more is.tidy stand;
    } in
    subst (λ (o : Option Call). IfSome o (KeepsLegal ledger thread inner answer)) (sym next) kept

pub answers_may : AnswersMayBeCommitted
answers_may ledger thread call answer is next told =
    may ledger thread [] call answer is next (omega arith, told.reply, told.tidy, tt)

-- the first of some entries is the next of its thread
pub first_of_thread : (first : Entry) (more : List Entry) → next_of_thread first.thread (first ∷ more) ≡ Some first
first_of_thread first more = elim (eqb_tells first.thread first.thread) [
  | inl is ↦ ap (λ b. cond b (Some first) (next_of_thread first.thread more)) is.0
  | inr isnt ↦ absurd (isnt.1 refl)
]

pub grows_may : GrowsMayBeCommitted
grows_may ledger thread call slab answer is next can told from =
    let setting = run_setting ledger in
    let state = run_state ledger in
    let last = entry (length ledger.entries + 1) thread (body.Call call.op call.frames answer) in
    let grow : IsGrow setting state slab.cache slab.base (next_of_thread thread (last ∷ [])) = record {
      is_cache = can.is_cache;
      page = can.page;
      free = can.lowest.free;
      entry = last;
      follows = first_of_thread last [];
      used = from;
    } in
    may ledger thread (grown slab ∷ []) call answer is next (refl, grow, (can.lowest, refl), (refl, told.reply, told.tidy, tt))

-- ---- slabs that are given back

pub AllPairs-head : {X : Type 0} (R : X → X → Type 0) (x : X) (xs : List X) → AllPairs R (x ∷ xs) → All (R x) xs
AllPairs-head R x xs h k d lt = h 0 (suc k) d (omega arith) (omega arith)

pub AllPairs-tail : {X : Type 0} (R : X → X → Type 0) (x : X) (xs : List X) → AllPairs R (x ∷ xs) → AllPairs R xs
AllPairs-tail R x xs h i j d less lt = h (suc i) (suc j) d (omega arith) (omega arith)

-- a slab that may be given back still may, when another was
pub still_can : (setting : Setting) (state : State) (base : ℕ) (slab : SlabAt) → slab.base ≢ base → CanShrink setting state slab → CanShrink setting (after_shrink state base) slab
still_can setting state base slab apart can = record {
  standing = can.standing;
  stands = Contains-left_out_by (λ (s : HeapSlab). s.base) state.slabs base can.standing can.stands (λ same. apart (sym can.its_base ∙ same));
  its_cache = can.its_cache;
  its_base = can.its_base;
  unused = can.unused;
}

-- two slabs that may be given back and have one base are one
pub same_place : (setting : Setting) (state : State) (one other : SlabAt) → IsHeader setting.header → IsInPlace setting state → CanShrink setting state one → CanShrink setting state other
    → one.base ≡ other.base → one.cache ≡ other.cache
same_place setting state one other header places can may same =
    let InArena : HeapSlab → Type 0 = λ s. IsInArena setting (span_of_slab setting s) in
    let low = (All-contains InArena state.slabs can.standing places.slabs_in can.stands).some in
    let high = (All-contains InArena state.slabs may.standing places.slabs_in may.stands).some in
    let bases : can.standing.base ≡ may.standing.base = can.its_base ∙ same ∙ sym may.its_base in
    elim (pair_of (λ (a b : HeapSlab). StandApart (span_of_slab setting a) (span_of_slab setting b)) state.slabs can.standing may.standing places.slabs_apart can.stands may.stands) [
      | inl is ↦ sym can.its_cache ∙ ap (λ (s : HeapSlab). s.cache) is ∙ may.its_cache
      | inr (inl apart) ↦ absurd (apart_bases (span_of_slab setting can.standing) (span_of_slab setting may.standing) low high apart bases)
      | inr (inr apart) ↦ absurd (apart_bases (span_of_slab setting may.standing) (span_of_slab setting can.standing) high low apart (sym bases))
    ]

-- so one that goes before another has another base
apart_by_order : (setting : Setting) (state : State) (one other : SlabAt) → IsHeader setting.header → IsInPlace setting state → CanShrink setting state one → CanShrink setting state other
    → GoesBefore one other → other.base ≢ one.base
apart_by_order setting state one other header places can may (inl less) same =
    let caches = same_place setting state one other header places can may (sym same) in omega (arith, less, caches)
apart_by_order setting state one other header places can may (inr less) same = omega (arith, less.1, same)

-- each later one has another base than the first
bases_apart : (setting : Setting) (state : State) (first : SlabAt) (slabs : List SlabAt) → IsHeader setting.header → IsInPlace setting state → CanShrink setting state first
    → All (CanShrink setting state) slabs → All (GoesBefore first) slabs → All (λ slab. slab.base ≢ first.base) slabs
bases_apart setting state first slabs header places can all order k d lt =
    apart_by_order setting state first (get_or slabs k d) header places can (all k d lt) (order k d lt)

module _ (setting : Setting) (header : IsHeader setting.header) (thread : ℕ) (frames : List ℕ) where
  -- the reap behind shrinks
  abbrev reap : ℕ → Entry
  reap number = entry number thread (body.Call Reap frames reply.Ok)

  abbrev behind : ℕ → ℕ → List SlabAt → List Entry
  behind number end slabs = inner_entries number thread (shrunk slabs) ++ reap end ∷ []

  -- behind a shrink stands another, or the reap
  shrink_stands : (state : State) (slab : SlabAt) (number end : ℕ) (slabs : List SlabAt) → CanShrink setting state slab
      → IsShrink setting state slab.cache slab.base (next_of_thread thread (behind number end slabs))
  shrink_stands state slab number end [] can = record {
    slab = can.standing;
    stands = can.stands;
    its_cache = can.its_cache;
    its_base = can.its_base;
    unused = can.unused;
    entry = reap end;
    follows = first_of_thread (reap end) [];
    reaped = tt;
  }
  shrink_stands state slab number end (next ∷ slabs) can = record {
    slab = can.standing;
    stands = can.stands;
    its_cache = can.its_cache;
    its_base = can.its_base;
    unused = can.unused;
    entry = entry number thread (body.Shrink next.cache next.base);
    follows = first_of_thread (entry number thread (body.Shrink next.cache next.base)) (behind (number + 1) end slabs);
    reaped = tt;
  }

  shrink_in_order : (slab : SlabAt) (number end : ℕ) (slabs : List SlabAt) → All (GoesBefore slab) slabs → IsInOrder slab.cache slab.base (slice_get (behind number end slabs) 0)
  shrink_in_order slab number end [] order = tt
  shrink_in_order slab number end (next ∷ slabs) order = All-head (GoesBefore slab) next slabs order

  shrink_by_thread : (number end : ℕ) (slabs : List SlabAt) → IsByThread thread (slice_get (behind number end slabs) 0)
  shrink_by_thread number end [] = refl
  shrink_by_thread number end (next ∷ slabs) = refl

  -- the slabs that are left are in place
  pub in_place_still : (state : State) (slab : SlabAt) → IsInPlace setting state → CanShrink setting state slab → IsInPlace setting (after_shrink state slab.base)
  in_place_still state slab places can =
      subst (λ (b : ℕ). AreInPlace setting state.live (left_out_by (λ (s : HeapSlab). s.base) state.slabs b)) can.its_base
      (without_slab setting state.live state.slabs places can.standing can.stands can.unused)

  pub reap_stands : (state : State) (number end : ℕ) (slabs : List SlabAt) → end ≡ number + length slabs → IsInPlace setting state → All (CanShrink setting state) slabs → AllPairs GoesBefore slabs
      → AreAllInUse setting (after_shrinks state slabs) → Stand setting state number (behind number end slabs)
  reap_stands state number end [] is places all order used = (omega (arith, is), refl, used, tt)
  reap_stands state number end (slab ∷ slabs) is places all order used =
      let can = All-head (CanShrink setting state) slab slabs all in
      let later = All-tail (CanShrink setting state) slab slabs all in
      let first = AllPairs-head GoesBefore slab slabs order in
      let apart = bases_apart setting state slab slabs header places can later first in
      let still : All (CanShrink setting (after_shrink state slab.base)) slabs = λ k d lt. still_can setting state slab.base (get_or slabs k d) (apart k d lt) (later k d lt) in
      let rest = reap_stands (after_shrink state slab.base) (number + 1) end slabs (omega (arith, is)) (in_place_still state slab places can) still (AllPairs-tail GoesBefore slab slabs order) used in
      (refl, shrink_stands state slab (number + 1) end slabs can, (shrink_by_thread (number + 1) end slabs, shrink_in_order slab (number + 1) end slabs first), rest)

-- ---- each slab that is left is in use

-- a slab is in use, or no chunk of it lives
in_use_or_not : (setting : Setting) (state : State) (slab : HeapSlab) → IsInUse setting state slab ⊎ IsUnused setting state slab
in_use_or_not setting state slab = elim (search_below (geometry_in setting slab.cache).rounds (omega arith)) [
  | inl used ↦ inl used
  | inr none ↦ inr (λ address chunk. ap (held_at state.live) chunk.there ∙ none chunk.index chunk.within)
]
  where
    at : ℕ → ℕ
    at index = chunk_start setting slab index

    one : (index : ℕ) → index < (geometry_in setting slab.cache).rounds → (held : Option Held) → held_at state.live (chunk_start setting slab index) ≡ held
        → IsInUse setting state slab ⊎ (held_at state.live (chunk_start setting slab index) ≡ None)
    one index within None is = inr is
    one index within (Some held) is = inl (record { address = chunk_start setting slab index; chunk = record { index = index; within = within; there = refl }; live = ap is_some is })

    search_below : (n : ℕ) → n ≤ (geometry_in setting slab.cache).rounds → IsInUse setting state slab ⊎ ((index : ℕ) → index < n → held_at state.live (chunk_start setting slab index) ≡ None)
    search_below zero le = inr (λ index lt. absurd (omega arith))
    search_below (suc n) le = elim (search_below n (omega arith)) [
      | inl used ↦ inl used
      | inr none ↦ elim (one n (omega arith) (held_at state.live (chunk_start setting slab n)) refl) [
        | inl used ↦ inl used
        | inr free ↦ inr (λ index lt. by_last n index none free (omega arith))
      ]
    ]
      where
        by_last : (n index : ℕ) → ((i : ℕ) → i < n → held_at state.live (chunk_start setting slab i) ≡ None) → held_at state.live (chunk_start setting slab n) ≡ None → index ≤ n
            → held_at state.live (chunk_start setting slab index) ≡ None
        by_last n index below here le = elim (eqb_tells index n) [
          | inl is ↦ ap (λ i. held_at state.live (chunk_start setting slab i)) is.1 ∙ here
          | inr isnt ↦ below index (omega (arith, isnt.1))
        ]

-- shrinks leave the live buffers
pub shrinks_live : (state : State) (slabs : List SlabAt) → (after_shrinks state slabs).live ≡ state.live
shrinks_live state [] = refl
shrinks_live state (slab ∷ slabs) = shrinks_live (after_shrink state slab.base) slabs

-- what stands after shrinks stood before, at another base than each of them
pub stood : (state : State) (slabs : List SlabAt) (slab : HeapSlab) → Contains (after_shrinks state slabs).slabs slab → Contains state.slabs slab × ((one : SlabAt) → Contains slabs one → slab.base ≢ one.base)
stood state [] slab there = (there, λ one in_none. Contains-nil one in_none)
stood state (first ∷ slabs) slab there =
    let before = stood (after_shrink state first.base) slabs slab there in
    let kept = Contains-from_left_out_by (λ (s : HeapSlab). s.base) state.slabs first.base slab before.0 in (
      kept.0,
      λ one among. elim (Contains-cases first one slabs among) [
        | inl is ↦ λ same. kept.1 (same ∙ sym (ap (λ (s : SlabAt). s.base) is))
        | inr later ↦ before.1 one later
      ],
    )

rest_in_use : (setting : Setting) (state : State) (slabs : List SlabAt) → AreReaped setting state slabs → AreAllInUse setting (after_shrinks state slabs)
rest_in_use setting state slabs are slab there =
    let before = stood state slabs slab there in
    let at : SlabAt = record { cache = slab.cache; base = slab.base } in
    elim (in_use_or_not setting state slab) [
      | inl used ↦ record {
        address = used.address;
        chunk = used.chunk;
        live = ap (λ (live : List LiveBuffer). is_some (held_at live used.address)) (shrinks_live state slabs) ∙ used.live;
      }
      | inr unused ↦
          let can : CanShrink setting state at = record { standing = slab; stands = before.0; its_cache = refl; its_base = refl; unused = unused } in
          absurd (before.1 at ((are.exactly at).1 can) refl)
    ]

each_can : (setting : Setting) (state : State) (slabs : List SlabAt) → AreReaped setting state slabs → All (CanShrink setting state) slabs
each_can setting state slabs are k d lt = (are.exactly (get_or slabs k d)).0 (All-contains_itself slabs k d lt)

pub reaps_may : ReapsMayBeCommitted
reaps_may ledger thread call slabs is next reaps are =
    let setting = run_setting ledger in
    let state = run_state ledger in
    let number = length ledger.entries in
    let count : number + length (shrunk slabs) ≡ number + length slabs = ap (λ n. number + n) (length-map slabs (λ (slab : SlabAt). body.Shrink slab.cache slab.base)) in
    let places = history_in_place setting ledger.entries is.plan.header is.legal in
    let stand = reap_stands setting is.plan.header thread call.frames state number (number + length (shrunk slabs)) slabs count places (each_can setting state slabs are) are.in_order
    (rest_in_use setting state slabs are) in
    may ledger thread (shrunk slabs) call reply.Ok is next
    (subst (λ (op : Op). Stand setting state number (inner_entries number thread (shrunk slabs) ++ entry (number + length (shrunk slabs)) thread (body.Call op call.frames reply.Ok) ∷ [])) (sym reaps) stand)
