-- What a call adds is decided by the state and the places before it.
use Rattle.std.proofs.Common.{◌≡◌, ℕ, zero, suc, ◌⊎◌, inl, inr, List, [], ◌∷◌, Option, Some, None, refl, sym, ap, ◌∙◌, subst, arith}
use Rattle.std.specs.Prelude.{AllPairs, Contains}
use Rattle.std.proofs.lemmas.List.Elements.{All-contains}
use Rattle.umem_base.specs.Pages.{HasNoRun, IsLowestRun, pages_for}
use Rattle.umem_base.proofs.Lists.{Contains-here, Contains-there}
use Rattle.umem_base.proofs.OrderedLemmas.{Contains-cases, Contains-nil}
use Rattle.case_table.specs.Sizes.{class_for}
use Rattle.script.specs.declared.operation.Op.TheVariants.{Alloc, Zalloc, Free, CacheAlloc, CacheFree, Copy, Clear, Store, Link, Load, Reap}
use Rattle.shelf.specs.Steps.{chunk_in, taken_any, taken_from}
use Rattle.plain_heap.specs.declared.entry.Body.{Body}
use Rattle.plain_heap.specs.declared.entry.Body.TheVariants as body
use Rattle.plain_heap.specs.declared.reply.Reply.{Reply}
use Rattle.plain_heap.specs.declared.reply.Reply.TheVariants as reply
use Rattle.plain_heap.specs.declared.reply.Report.TheVariants as report
use Rattle.plain_heap.specs.Answers.{IsLowestRequest}
use Rattle.plain_heap.specs.Replies.{IsAllocReply, IsLargeReply, IsSomeReply}
use Rattle.plain_heap.specs.Setting.{Setting, geometry_in}
use Rattle.plain_heap.specs.State.{IsFreePage, State, after_grow, chunk_start, new_slab}
use Rattle.plain_heap.proofs.PagesLemmas.{lowest_one}
use Rattle.heap_ledger.specs.declared.slab_at.SlabAt.{SlabAt}
use Rattle.heap_ledger.specs.Commits.{AreReaped, GoesBefore}
use Rattle.heap_ledger.specs.Ledger.{shrunk}
use Rattle.heap_ledger.proofs.MayCommitLemmas.{AllPairs-head, AllPairs-tail}
use Rattle.heap_accounts.specs.Laws.{PerformedCallsAreOne}
use Rattle.heap_accounts.specs.Performed.{IsFoundWithin, IsFoundAnyhow, IsGrown, IsHandedOut, IsPerformedChunk, IsPerformedReap, IsPerformedRequest, answer_at}
use Rattle.heap_accounts.specs.Places.{Places, cpu_of, stock_at}

-- what two ways to perform a call agree in
abbrev AreOne : List Body → List Body → Reply → Reply → Type 0
AreOne one other answer twin = (one ≡ other) × (answer ≡ twin)

-- ---- whole pages

-- the answer to an allocation of whole pages, and how it came
record IsAtLowest (setting : Setting) (state : State) (size : ℕ) (answer : Reply) : Type 0 where
  base : ℕ
  lowest : IsLowestRun (IsFreePage setting state) (pages_for size) base
  its : answer ≡ reply.At base report.Clean

record IsWithoutRun (setting : Setting) (state : State) (size : ℕ) (answer : Reply) : Type 0 where
  none : HasNoRun (IsFreePage setting state) (pages_for size)
  its : answer ≡ reply.NoSpace

large_form : (setting : Setting) (state : State) (size : ℕ) (answer : Reply) → IsLargeReply setting state size answer → IsLowestRequest setting state size None answer
    → IsAtLowest setting state size answer ⊎ IsWithoutRun setting state size answer
large_form setting state size (reply.At address found) large lowest = inl (record { base = address; lowest = lowest; its = ap (reply.At address) large.1 })
large_form setting state size reply.NoSpace large lowest = inr (record { none = large; its = refl })
large_form setting state size other large lowest = absurd large

large_one : (setting : Setting) (state : State) (size : ℕ) (a b : Reply) → IsAtLowest setting state size a ⊎ IsWithoutRun setting state size a → IsAtLowest setting state size b ⊎ IsWithoutRun setting state size b → a ≡ b
large_one setting state size a b (inl h) (inl g) =
    let bases = lowest_one setting state (pages_for size) h.base g.base h.lowest g.lowest in
    h.its ∙ ap (λ base. reply.At base report.Clean) bases ∙ sym g.its
large_one setting state size a b (inl h) (inr g) = absurd (g.none h.base h.lowest.free)
large_one setting state size a b (inr h) (inl g) = absurd (h.none g.base g.lowest.free)
large_one setting state size a b (inr h) (inr g) = h.its ∙ sym g.its

-- an allocation that no class serves: of whole pages, or of no bytes
size_one : (setting : Setting) (state : State) (size : ℕ) (a b : Reply) → class_for size ≡ None → IsAllocReply setting state size a → IsLowestRequest setting state size (class_for size) a
    → IsAllocReply setting state size b → IsLowestRequest setting state size (class_for size) b → a ≡ b
size_one setting state zero a b none told tidy said neat = told ∙ sym said
size_one setting state (suc size) a b none told tidy said neat =
    let large : (r : Reply) → IsAllocReply setting state (suc size) r → IsLowestRequest setting state (suc size) (class_for (suc size)) r → IsAtLowest setting state (suc size) r ⊎ IsWithoutRun setting state (suc size) r =
    λ r h t. large_form setting state (suc size) r (by_class r h) (subst (λ (o : Option ℕ). IsLowestRequest setting state (suc size) o r) none t) in
    large_one setting state (suc size) a b (large a told tidy) (large b said neat)
  where
    by_class : (r : Reply) → IsAllocReply setting state (suc size) r → IsLargeReply setting state (suc size) r
    by_class r h = subst (λ (o : Option ℕ). IsSomeReply setting state (suc size) o r) none h

-- ---- chunks

handed_one : (setting : Setting) (state : State) (chunk : ℕ) (a b : Reply) → IsHandedOut setting state chunk a → IsHandedOut setting state chunk b → a ≡ b
handed_one setting state chunk a b h g = some_one (sym h ∙ g)
  where
    some_one : Some a ≡ Some b → a ≡ b
    some_one same = cc

anyhow_one : (setting : Setting) (state : State) (chunk : Option ℕ) (a b : Reply) → IsFoundAnyhow setting state chunk a → IsFoundAnyhow setting state chunk b → a ≡ b
anyhow_one setting state None a b h g = h ∙ sym g
anyhow_one setting state (Some chunk) a b h g = handed_one setting state chunk a b h g

-- where no round is within reach: a slab, or none
record WithSlab (setting : Setting) (state : State) (cache : ℕ) (inner : List Body) (answer : Reply) : Type 0 where
  base : ℕ
  lowest : IsLowestRun (IsFreePage setting state) (geometry_in setting cache).pages base
  is : inner ≡ body.Grow cache base ∷ []
  its : answer ≡ answer_at setting (after_grow setting state cache base) (chunk_start setting (new_slab setting state cache base) 0)

record WithoutSlab (setting : Setting) (state : State) (cache : ℕ) (anyhow : Option ℕ) (inner : List Body) (answer : Reply) : Type 0 where
  none : HasNoRun (IsFreePage setting state) (geometry_in setting cache).pages
  is : inner ≡ []
  its : IsFoundAnyhow setting state anyhow answer

grown_form : (setting : Setting) (state : State) (cache : ℕ) (anyhow : Option ℕ) (inner : List Body) (answer : Reply) → IsGrown setting state cache anyhow inner answer
    → WithSlab setting state cache inner answer ⊎ WithoutSlab setting state cache anyhow inner answer
grown_form setting state cache anyhow [] answer h = inr (record { none = h.0; is = refl; its = h.1 })
grown_form setting state cache anyhow (body.Grow its base ∷ []) answer h = inl (record { base = base; lowest = h.1; is = ap (λ c. body.Grow c base ∷ []) h.0; its = h.2 })
grown_form setting state cache anyhow (body.Grow its base ∷ second ∷ inner) answer h = absurd h
grown_form setting state cache anyhow (body.Shrink its base ∷ inner) answer h = absurd h
grown_form setting state cache anyhow (body.Call op frames told ∷ inner) answer h = absurd h

grown_one : (setting : Setting) (state : State) (cache : ℕ) (anyhow : Option ℕ) (one other : List Body) (a b : Reply)
    → WithSlab setting state cache one a ⊎ WithoutSlab setting state cache anyhow one a → WithSlab setting state cache other b ⊎ WithoutSlab setting state cache anyhow other b → AreOne one other a b
grown_one setting state cache anyhow one other a b (inl h) (inl g) =
    let bases = lowest_one setting state (geometry_in setting cache).pages h.base g.base h.lowest g.lowest in (
      h.is ∙ ap (λ base. body.Grow cache base ∷ []) bases ∙ sym g.is,
      h.its ∙ ap (λ base. answer_at setting (after_grow setting state cache base) (chunk_start setting (new_slab setting state cache base) 0)) bases ∙ sym g.its,
    )
grown_one setting state cache anyhow one other a b (inl h) (inr g) = absurd (g.none h.base h.lowest.free)
grown_one setting state cache anyhow one other a b (inr h) (inl g) = absurd (h.none g.base g.lowest.free)
grown_one setting state cache anyhow one other a b (inr h) (inr g) = (h.is ∙ sym g.is, anyhow_one setting state anyhow a b h.its g.its)

found_one : (setting : Setting) (state : State) (cache : ℕ) (from anyhow : Option ℕ) (one other : List Body) (a b : Reply) → IsFoundWithin setting state cache from anyhow one a → IsFoundWithin setting state cache from anyhow other b → AreOne one other a b
found_one setting state cache (Some chunk) anyhow one other a b h g = (h.0 ∙ sym g.0, handed_one setting state chunk a b h.1 g.1)
found_one setting state cache None anyhow one other a b h g =
    grown_one setting state cache anyhow one other a b (grown_form setting state cache anyhow one a h) (grown_form setting state cache anyhow other b g)

-- ---- reaps

goes_both : (one other : SlabAt) → GoesBefore one other → GoesBefore other one → ⊥
goes_both one other (inl h) (inl g) = omega arith
goes_both one other (inl h) (inr g) = omega (arith, g.0)
goes_both one other (inr h) (inl g) = omega (arith, h.0)
goes_both one other (inr h) (inr g) = omega (arith, h.1, g.1)

-- two ordered lists of the same slabs are one
slabs_one : (one other : List SlabAt) → AllPairs GoesBefore one → AllPairs GoesBefore other → ((slab : SlabAt) → Contains one slab → Contains other slab) → ((slab : SlabAt) → Contains other slab → Contains one slab) → one ≡ other
slabs_one [] [] rise go to from = refl
slabs_one [] (y ∷ other) rise go to from = Contains-nil y (from y (Contains-here y other))
slabs_one (x ∷ one) [] rise go to from = Contains-nil x (to x (Contains-here x one))
slabs_one (x ∷ one) (y ∷ other) rise go to from =
    let first = either (Contains-cases y x other (to x (Contains-here x one))) (Contains-cases x y one (from y (Contains-here y other))) in
    ap (λ (s : SlabAt). s ∷ one) first
    ∙ ap (λ (l : List SlabAt). y ∷ l)
    (slabs_one one other (AllPairs-tail GoesBefore x one rise) (AllPairs-tail GoesBefore y other go)
    (λ slab there. tail_to slab first there (Contains-cases y slab other (to slab (Contains-there x slab one there))))
    (λ slab there. tail_from slab first there (Contains-cases x slab one (from slab (Contains-there y slab other there)))))
  where
    either : (y ≡ x) ⊎ Contains other x → (x ≡ y) ⊎ Contains one y → x ≡ y
    either (inl is) found = sym is
    either (inr later) (inl is) = is
    either (inr later) (inr behind) =
        absurd (goes_both x y (All-contains (GoesBefore x) one y (AllPairs-head GoesBefore x one rise) behind) (All-contains (GoesBefore y) other x (AllPairs-head GoesBefore y other go) later))

    tail_to : (slab : SlabAt) → x ≡ y → Contains one slab → (y ≡ slab) ⊎ Contains other slab → Contains other slab
    tail_to slab first there (inr later) = later
    tail_to slab first there (inl is) =
        let before = All-contains (GoesBefore x) one slab (AllPairs-head GoesBefore x one rise) there in
        let itself = subst (λ (s : SlabAt). GoesBefore s slab) (first ∙ is) before in
        absurd (goes_both slab slab itself itself)

    tail_from : (slab : SlabAt) → x ≡ y → Contains other slab → (x ≡ slab) ⊎ Contains one slab → Contains one slab
    tail_from slab first there (inr later) = later
    tail_from slab first there (inl is) =
        let before = All-contains (GoesBefore y) other slab (AllPairs-head GoesBefore y other go) there in
        let itself = subst (λ (s : SlabAt). GoesBefore s slab) (sym first ∙ is) before in
        absurd (goes_both slab slab itself itself)

reaps_one : (setting : Setting) (state : State) (one other : List SlabAt) → AreReaped setting state one → AreReaped setting state other → one ≡ other
reaps_one setting state one other h g =
    slabs_one one other h.in_order g.in_order (λ slab there. (g.exactly slab).1 ((h.exactly slab).0 there)) (λ slab there. (h.exactly slab).1 ((g.exactly slab).0 there))

reap_one : (setting : Setting) (state : State) (one other : List Body) (a b : Reply) → IsPerformedReap setting state one a → IsPerformedReap setting state other b → AreOne one other a b
reap_one setting state one other a b h g =
    (h.shrinks ∙ ap shrunk (reaps_one setting state h.slabs g.slabs h.exactly g.exactly) ∙ sym g.shrinks, h.ok ∙ sym g.ok)

-- ---- calls

module _ (setting : Setting) (state : State) (places : Places) (thread : ℕ) (one other : List Body) (a b : Reply) where
  chunk_one : (cache : ℕ) → IsPerformedChunk setting state places thread cache one a → IsPerformedChunk setting state places thread cache other b → AreOne one other a b
  chunk_one cache h g =
      found_one setting state cache (chunk_in (taken_from (stock_at places cache) (cpu_of setting thread))) (chunk_in (taken_any (stock_at places cache) (cpu_of setting thread))) one other a b h g

  alloc_one : (slot size : ℕ) (asked : Option ℕ) → class_for size ≡ asked → IsPerformedRequest setting state places thread (Alloc slot size) asked one a → IsPerformedRequest setting state places thread (Alloc slot size) asked other b → AreOne one other a b
  alloc_one slot size (Some class) is h g = chunk_one class h g
  alloc_one slot size None is h g = (h.0 ∙ sym g.0, size_one setting state size a b is h.1.reply h.1.tidy g.1.reply g.1.tidy)

  zalloc_one : (slot size : ℕ) (asked : Option ℕ) → class_for size ≡ asked → IsPerformedRequest setting state places thread (Zalloc slot size) asked one a → IsPerformedRequest setting state places thread (Zalloc slot size) asked other b → AreOne one other a b
  zalloc_one slot size (Some class) is h g = chunk_one class h g
  zalloc_one slot size None is h g = (h.0 ∙ sym g.0, size_one setting state size a b is h.1.reply h.1.tidy g.1.reply g.1.tidy)

pub performed_one : PerformedCallsAreOne
performed_one setting state places thread (Alloc slot size) one other a b h g = alloc_one setting state places thread one other a b slot size (class_for size) refl h g
performed_one setting state places thread (Zalloc slot size) one other a b h g = zalloc_one setting state places thread one other a b slot size (class_for size) refl h g
performed_one setting state places thread (CacheAlloc slot cache) one other a b h g = chunk_one setting state places thread one other a b cache h g
performed_one setting state places thread (Free slot size) one other a b h g = (h.0 ∙ sym g.0, h.1.reply ∙ sym g.1.reply)
performed_one setting state places thread (CacheFree slot cache) one other a b h g = (h.0 ∙ sym g.0, h.1.reply ∙ sym g.1.reply)
performed_one setting state places thread (Copy to from) one other a b h g = (h.0 ∙ sym g.0, h.1.reply ∙ sym g.1.reply)
performed_one setting state places thread (Clear slot) one other a b h g = (h.0 ∙ sym g.0, h.1.reply ∙ sym g.1.reply)
performed_one setting state places thread (Store slot offset stored) one other a b h g = (h.0 ∙ sym g.0, h.1.reply ∙ sym g.1.reply)
performed_one setting state places thread (Link slot offset value) one other a b h g = (h.0 ∙ sym g.0, h.1.reply ∙ sym g.1.reply)
performed_one setting state places thread (Load to slot offset) one other a b h g = (h.0 ∙ sym g.0, h.1.reply ∙ sym g.1.reply)
performed_one setting state places thread Reap one other a b h g = reap_one setting state one other a b h g
