-- The slabs that a reap gives back are closed one after another.
use Rattle.std.proofs.Common.{◌≡◌, ◌≢◌, ℕ, zero, suc, ◌+◌, ◌<◌, ◌≤◌, inl, inr, List, [], ◌∷◌, length, take, get_or, refl, sym, subst, arith}
use Rattle.std.specs.Prelude.{All, AllPairs}
use Rattle.std.proofs.lemmas.List.{take_all}
use Rattle.std.proofs.lemmas.List.Elements.{All-contains_itself, All-head, All-tail}
use Rattle.std.proofs.lemmas.List.Sums.{fold_more}
use Rattle.script.specs.Rules.{IsHeader}
use Rattle.plain_heap.specs.declared.entry.Entry.{Entry}
use Rattle.plain_heap.specs.Live.{HeldByAddress, TellsLive}
use Rattle.plain_heap.specs.Setting.{Setting}
use Rattle.plain_heap.specs.State.{State, after_shrink, state_of}
use Rattle.plain_heap.proofs.SeparateLemmas.{history_in_place, separate}
use Rattle.plain_heap.proofs.StepsLemmas.{IsInPlace}
use Rattle.heap_ledger.specs.declared.slab_at.SlabAt.{SlabAt}
use Rattle.heap_ledger.specs.Commits.{AreReaped, CanShrink, GoesBefore, after_shrinks}
use Rattle.heap_ledger.proofs.MayCommitLemmas.{AllPairs-head, AllPairs-tail, in_place_still, same_place, still_can}
use Rattle.heap_memory.specs.Laws.{HaveSlabsASpan}
use Rattle.heap_memory.specs.Memory.{IsMemoryOf, Memory}
use Rattle.heap_memory.specs.Pages.{HasSpan}
use Rattle.heap_memory.specs.States.{BecomesIf, HasSlabAt}
use Rattle.heap_slabs.specs.HeapSlabs.{HeapSlabs}
use Rattle.heap_slabs.specs.States.{ForEachTabled, TableBecomes}
use Rattle.heap_accounts.specs.declared.tables.Tables.{Tables}
use Rattle.heap_accounts.specs.Reaps.{AreReapedOf, AreReapedOfSome, ClosesSlabs, PerformsReap}

-- ---- the state when some were closed

-- the slabs that are left are in place, and the next one may be given back
record CanClose (setting : Setting) (state : State) (slab : SlabAt) : Type 0 where
  places : IsInPlace setting state
  can : CanShrink setting state slab

-- a slab that goes before another has another base
bases_differ : (setting : Setting) (state : State) (one other : SlabAt) → IsHeader setting.header → IsInPlace setting state → CanShrink setting state one → CanShrink setting state other
    → GoesBefore one other → other.base ≢ one.base
bases_differ setting state one other header places can may (inl less) same =
    let caches = same_place setting state one other header places can may (sym same) in omega (arith, less, caches)
bases_differ setting state one other header places can may (inr less) same = omega (arith, less.1, same)

can_close : (setting : Setting) (state : State) (slabs : List SlabAt) (i : ℕ) (d : SlabAt) → IsHeader setting.header → IsInPlace setting state → All (CanShrink setting state) slabs → AllPairs GoesBefore slabs
    → i < length slabs → CanClose setting (after_shrinks state (take i slabs)) (get_or slabs i d)
can_close setting state [] i d header places all order lt = absurd (omega (arith, lt))
can_close setting state (slab ∷ slabs) zero d header places all order lt =
    record { places = places; can = All-head (CanShrink setting state) slab slabs all }
can_close setting state (slab ∷ slabs) (suc i) d header places all order lt =
    let can = All-head (CanShrink setting state) slab slabs all in
    let later = All-tail (CanShrink setting state) slab slabs all in
    let first = AllPairs-head GoesBefore slab slabs order in
    let still : All (CanShrink setting (after_shrink state slab.base)) slabs =
    λ k e le. still_can setting state slab.base (get_or slabs k e) (bases_differ setting state slab (get_or slabs k e) header places can (later k e le) (first k e le)) (later k e le) in
    can_close setting (after_shrink state slab.base) slabs i d header (in_place_still setting header 0 [] state slab places can) still (AllPairs-tail GoesBefore slab slabs order) (omega (arith, lt))

module _ (setting : Setting) (entries : List Entry) (old : Memory) (slabs : List SlabAt) (its : AreReapedOf setting entries old slabs) (i : ℕ) (d : SlabAt) (lt : i < length slabs) where
  abbrev so_far : State
  so_far = after_shrinks (state_of setting entries) (take i slabs)

  next_can : CanClose setting (after_shrinks (state_of setting entries) (take i slabs)) (get_or slabs i d)
  next_can = can_close setting (state_of setting entries) slabs i d its.header (history_in_place setting entries its.header its.legal)
      (λ k e le. (its.reaped.exactly (get_or slabs k e)).0 (All-contains_itself slabs k e le)) its.reaped.in_order lt

  next_stands : HasSlabAt (get_or slabs i d).base setting (after_shrinks (state_of setting entries) (take i slabs))
  next_stands = record {
    separate = separate setting so_far its.header next_can.places;
    slab = next_can.can.standing;
    stands = next_can.can.stands;
    there = next_can.can.its_base;
  }

-- ---- the memory

-- the next slab has its pages
pub next_has_span : (old now : Memory) (slabs : List SlabAt) (i : ℕ) (d : SlabAt) → HaveSlabsASpan → AreReapedOfSome old slabs → i < length slabs → ClosesSlabs old now slabs (take i slabs)
    → HasSpan now (get_or slabs i d).base
next_has_span old now slabs i d law some lt closes =
    let its = some.its in
    law now (get_or slabs i d).base some.setting (after_shrinks (state_of some.setting some.entries) (take i slabs)) its.header (closes some.setting some.entries its)
    (next_stands some.setting some.entries old slabs its i d lt)

-- one more is closed
pub closes_more : (old now next : Memory) (slabs : List SlabAt) (i : ℕ) (d : SlabAt) → i < length slabs → ClosesSlabs old now slabs (take i slabs)
    → BecomesIf (HasSlabAt (get_or slabs i d).base) (λ setting state. after_shrink state (get_or slabs i d).base) now next → ClosesSlabs old next slabs (take (i + 1) slabs)
closes_more old now next slabs i d lt closes closed setting entries its =
    let state = state_of setting entries in
    let more : after_shrinks state (take (i + 1) slabs) ≡ after_shrink (after_shrinks state (take i slabs)) (get_or slabs i d).base = fold_more (λ (before : State) (slab : SlabAt). after_shrink before slab.base) state slabs i d lt in
    subst (λ (s : State). IsMemoryOf setting s next) (sym more)
    (closed setting (after_shrinks state (take i slabs)) its.header (closes setting entries its) (next_stands setting entries old slabs its i d lt))

-- all are closed
pub closes_all : (old now : Memory) (slabs : List SlabAt) (i : ℕ) → length slabs ≤ i → ClosesSlabs old now slabs (take i slabs) → ClosesSlabs old now slabs slabs
closes_all old now slabs i all closes = subst (ClosesSlabs old now slabs) (take_all i slabs all) closes

-- ---- the tables

-- no buffer lives or dies by a shrink
tells_still : (buffers : HeldByAddress) (state : State) (slabs : List SlabAt) → TellsLive buffers state → TellsLive buffers (after_shrinks state slabs)
tells_still buffers state [] tells = tells
tells_still buffers state (slab ∷ slabs) tells = tells_still buffers (after_shrink state slab.base) slabs (record { live = tells.live; given = tells.given })

-- and none is made
pub grown_still : (state : State) (slabs : List SlabAt) → (after_shrinks state slabs).grown ≡ state.grown
grown_still state [] = refl
grown_still state (slab ∷ slabs) = grown_still (after_shrink state slab.base) slabs

module _ (old : Tables) (slabs : HeapSlabs) (reaped : ForEachTabled (λ setting state. AreReaped setting state slabs.reaped) old.slabs) where
  pub performs_reap : (memory : Memory) → TableBecomes (λ setting state. Unit {0}) (λ setting state. after_shrinks state slabs.reaped) old.slabs slabs
      → ClosesSlabs old.memory memory slabs.reaped slabs.reaped → PerformsReap old (record { memory = memory; live = old.live; slabs = slabs })
  performs_reap memory dropped closes = record {
    reaped = λ setting entries of. reaped setting (state_of setting entries) of.header of.are.slabs;
    after = λ setting entries of. record {
      bytes = closes setting entries (record { header = of.header; legal = of.legal; bytes = of.are.bytes; reaped = reaped setting (state_of setting entries) of.header of.are.slabs });
      buffers = tells_still old.live.buffers (state_of setting entries) slabs.reaped of.are.buffers;
      slabs = dropped setting (state_of setting entries) of.header of.are.slabs tt;
    };
    room = omega arith;
  }
