-- Taken pages, and lowest runs of free ones.
use Rattle.std.proofs.Common.{◌≡◌, ℕ, zero, suc, ◌+◌, ◌*◌, ◌%◌, ◌<◌, ◌≤◌, ◌⊎◌, inl, inr, Bool, true, false, not, ◌∷◌, map, refl, sym, ap, ◌∙◌, subst, arith}
use Rattle.std.specs.Prelude.{◌||◌, IsTrue, filter, is_none}
use Rattle.std.specs.List.{list_any}
use Rattle.std.proofs.lemmas.Bool.{cases_order, false≢true}
use Rattle.std.proofs.lemmas.Bool.Decides.{eqb_tells}
use Rattle.std.proofs.lemmas.List.Folds.{list_any-append}
use Rattle.umem_base.specs.declared.arena.TheConstants.{ARENA_BASE}
use Rattle.umem_base.specs.declared.pages.TheConstants.{PAGE_BYTES}
use Rattle.umem_base.specs.Pages.{IsFreeRun, IsLowestRun, IsPage}
use Rattle.umem_base.specs.Roots.{arena_end}
use Rattle.plain_heap.specs.Laws.{ChunksTakeNoPages, FreeRunsHaveALowest, GrowsTakeTheirPages, LargeBuffersTakeTheirPages, LowestRunsAreOne, large}
use Rattle.plain_heap.specs.Setting.{Setting}
use Rattle.plain_heap.specs.State.{IsFreePage, LiveBuffer, State, is_in_span, is_taken, span_of_large, span_of_slab}

-- ---- taken pages

pub grows_take : GrowsTakeTheirPages
grows_take setting state cache base address = refl

or_swap : (a b c : Bool) → (a || (b || c)) ≡ (b || (a || c))
or_swap true true c = refl
or_swap true false c = refl
or_swap false true c = refl
or_swap false false c = refl

pub large_take : LargeBuffersTakeTheirPages
large_take setting state size at address zeroed =
    let test = is_in_span address in
    let slabs = map (span_of_slab setting) state.slabs in
    let others = map span_of_large (filter (λ (buffer : LiveBuffer). is_none buffer.held.cache) state.live) in
    let new = span_of_large (record { address = at; held = large size }) in
    list_any-append test slabs (new ∷ others) ∙ or_swap (list_any test slabs) (test new) (list_any test others)
    ∙ ap (λ b. test new || b) (sym (list_any-append test slabs others))

pub chunks_take_none : ChunksTakeNoPages
chunks_take_none setting state size cache at address zeroed = refl

-- ---- lowest runs

pub lowest_one : LowestRunsAreOne
lowest_one setting state pages one other h g = elim (cases_order one other) [
  | inl e ↦ e
  | inr apart ↦ elim apart [ inl lt ↦ absurd (g.lowest one lt h.free) | inr gt ↦ absurd (h.lowest other gt g.free) ]
]

-- a fact holds or does not
abbrev Is : Type 0 → Type 0
Is P = P ⊎ (P → ⊥)

is_equal : (a b : ℕ) → Is (a ≡ b)
is_equal a b = elim (eqb_tells a b) [ inl e ↦ inl e.1 | inr e ↦ inr e.1 ]

is_within : (a b : ℕ) → Is (a ≤ b)
is_within a b = elim (cases_order a b) [
  | inl e ↦ inl (omega arith)
  | inr apart ↦ elim apart [ inl lt ↦ inl (omega arith) | inr gt ↦ inr (λ le. omega arith) ]
]

is_clear : (b : Bool) → Is (IsTrue (not b))
is_clear true = inr (λ h. false≢true h)
is_clear false = inl refl

is_free : (setting : Setting) (state : State) (address : ℕ) → Is (IsFreePage setting state address)
is_free setting state address = elim (is_equal (address % 4096) 0) [
  | inr fails ↦ inr (λ h. fails h.page)
  | inl page ↦ elim (is_within ARENA_BASE address) [
    | inr fails ↦ inr (λ h. fails h.from)
    | inl from ↦ elim (is_within (address + PAGE_BYTES) (arena_end setting.header.version)) [
      | inr fails ↦ inr (λ h. fails h.to)
      | inl high ↦ untaken page from high (is_clear (is_taken setting state address))
    ]
  ]
]
  where
    untaken : IsPage address → ARENA_BASE ≤ address → address + PAGE_BYTES ≤ arena_end setting.header.version → Is (IsTrue (not (is_taken setting state address))) → Is (IsFreePage setting state address)
    untaken page from high (inl clear) = inl (record { page = page; from = from; to = high; untaken = clear })
    untaken page from high (inr fails) = inr (λ h. fails h.untaken)

is_free_run : (setting : Setting) (state : State) (pages base : ℕ) → Is (IsFreeRun (IsFreePage setting state) pages base)
is_free_run setting state zero base = inl (λ k lt. absurd (omega arith))
is_free_run setting state (suc pages) base = elim (is_free_run setting state pages base) [
  | inr fails ↦ inr (λ h. fails (λ k lt. h k (omega arith)))
  | inl run ↦ elim (is_free setting state (base + 4096 * pages)) [
    | inr fails ↦ inr (λ h. fails (h pages (omega arith)))
    | inl last ↦ inl (λ k lt. elim (is_equal k pages) [
      | inl e ↦ subst (λ i. IsFreePage setting state (base + 4096 * i)) (sym e) last
      | inr ne ↦ run k (omega arith)
    ])
  ]
]

-- the lowest run from a base on, below which there is none
lowest_from : (setting : Setting) (state : State) (pages base more : ℕ) → ((lower : ℕ) → lower < base → IsFreeRun (IsFreePage setting state) pages lower → ⊥)
    → IsFreeRun (IsFreePage setting state) pages (base + more) → (lowest : ℕ) × IsLowestRun (IsFreePage setting state) pages lowest
lowest_from setting state pages base zero below run =
    let same : base + 0 ≡ base = omega arith in
    (base, record { free = subst (λ b. IsFreeRun (IsFreePage setting state) pages b) same run; lowest = below })
lowest_from setting state pages base (suc more) below run = elim (is_free_run setting state pages base) [
  | inl here ↦ (base, record { free = here; lowest = below })
  | inr fails ↦
      let next : base + suc more ≡ (base + 1) + more = omega arith in
      lowest_from setting state pages (base + 1) more
      (λ lower lt other. elim (is_equal lower base) [
        | inl e ↦ fails (subst (λ b. IsFreeRun (IsFreePage setting state) pages b) e other)
        | inr ne ↦ below lower (omega arith) other
      ])
      (subst (λ b. IsFreeRun (IsFreePage setting state) pages b) next run)
]

pub has_lowest : FreeRunsHaveALowest
has_lowest setting state pages base run =
    let same : base ≡ 0 + base = omega arith in
    lowest_from setting state pages 0 base (λ lower lt other. absurd (omega arith)) (subst (λ b. IsFreeRun (IsFreePage setting state) pages b) same run)
