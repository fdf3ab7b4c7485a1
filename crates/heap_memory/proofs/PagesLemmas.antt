-- What opening and closing runs of pages leaves of a memory, and which pages are free.
use Rattle.std.proofs.Common.{◌≡◌, ◌≢◌, ℕ, ◌+◌, ◌-◌, ◌*◌, ◌/◌, ◌%◌, ◌^◌, ◌<◌, ◌≤◌, ◌⊎◌, inl, inr, Bool, true, false, not, cond, List, [], ◌∷◌, get_or, length, Option, Some, None, Ok, Err, refl, sym, ap, ◌∙◌, subst, arith}
use Rattle.std.specs.Prelude.{◌||◌, ◌==◌, ◌↔◌, Contains, IfErr, IfOk, IsSome, MatchResult, OnErr, Result}
use Rattle.std.specs.List.{list_any}
use Rattle.std.proofs.lemmas.Bool.{and_from, and_parts, and_right, cases_eq, false_from_ne_true, false≢true, le-leb, leb-true, lt-ltb, lt-leb, ltb-true, le-ltb, not_from_false, or_from, or_left, or_right}
use Rattle.std.proofs.lemmas.List.Elements.{All-contains, Contains-get_or}
use Rattle.umem_base.specs.declared.arena.TheConstants.{ARENA_BASE}
use Rattle.umem_base.specs.declared.no_memory.NoMemory.{NoMemory}
use Rattle.umem_base.specs.declared.pages.TheConstants.{PAGE_BYTES}
use Rattle.umem_base.specs.declared.roots.TheConstants.{OWN_ROOTS, SHARED_ROOT}
use Rattle.umem_base.specs.declared.span.Span.{Span}
use Rattle.umem_base.specs.Ordered.{Gains, Loses, left_out_by, put_by}
use Rattle.umem_base.specs.Pages.{HasNoRun, IsFreeRun, IsLowestRun, IsPage, pages_for}
use Rattle.umem_base.specs.Roots.{arena_end}
use Rattle.umem_base.specs.Span.{EndsBelow, IsSpanWithin, LiesIn, span_end}
use Rattle.umem_base.proofs.Lists.{Contains-here, Contains-there}
use Rattle.umem_base.proofs.OrderedLemmas.{Contains-cases, Contains-from_left_out_by, Contains-left_out_by, Contains-nil, Gains-put_by}
use Rattle.addr_space.specs.Space.{HasMapped, IsSound as IsSoundSpace, Space, byte_at, runs_of}
use Rattle.span_arena.specs.declared.not_a_span.NotASpan.{NotASpan}
use Rattle.span_arena.specs.Arena.{Arena, IsFreeIn, IsSound as IsSoundArena, IsUntaken, pages_end}
use Rattle.script.specs.declared.tree.Header.{Header}
use Rattle.script.specs.Rules.{IsHeader}
use Rattle.plain_heap.specs.Laws.{large}
use Rattle.plain_heap.specs.Setting.{Setting, is_in_root}
use Rattle.plain_heap.specs.State.{IsFreePage, State, hand_out, is_in_span, is_mapped, is_taken, spans_of}
use Rattle.plain_heap.proofs.PairsLemmas.{pair_of}
use Rattle.heap_memory.specs.Memory.{IsMemory, IsMemoryOf, Memory}
use Rattle.heap_memory.specs.Pages.{Closes, HasSameSpans, IsSamePlace, OpensRun, OpensLowest}
use Rattle.heap_memory.specs.States.{Becomes, ForEachState, IsLowestOrNone, Keeps, after_large}
use Rattle.heap_memory.proofs.StateLemmas.{large_members}
use Rattle.heap_memory.proofs.WriteLemmas.{where_of, zeros_beside, zeros_here}

-- ---- tests of lists

any_found : {X : Type 0} (p : X → Bool) (xs : List X) → list_any p xs ≡ true → (x : X) × Contains xs x × (p x ≡ true)
any_found p [] h = absurd (false≢true h)
any_found {X} p (x ∷ xs) h = go (p x) refl h (λ all. any_found p xs all)
  where
    go : (b : Bool) → p x ≡ b → (b || list_any p xs) ≡ true → (list_any p xs ≡ true → (y : X) × Contains xs y × (p y ≡ true)) → (y : X) × Contains (x ∷ xs) y × (p y ≡ true)
    go true is all rest = (x, Contains-here x xs, is)
    go false is all rest = let there = rest all in (there.0, Contains-there x there.0 xs there.1, there.2)

any_from : {X : Type 0} (p : X → Bool) (xs : List X) (x : X) → Contains xs x → p x ≡ true → list_any p xs ≡ true
any_from p [] x h is = Contains-nil x h
any_from {X} p (y ∷ xs) x h is = elim (Contains-cases y x xs h) [
  | inl same ↦ or_left (p y) (list_any p xs) (ap p same ∙ is)
  | inr there ↦ or_right (p y) (list_any p xs) (any_from p xs x there is)
]

same_answer : (b c : Bool) → (b ≡ true → c ≡ true) → (c ≡ true → b ≡ true) → b ≡ c
same_answer true c to from = sym (to refl)
same_answer false true to from = from refl
same_answer false false to from = refl

-- ---- taken pages

lies_from : (a : ℕ) (span : Span) → is_in_span a span ≡ true → LiesIn span a
lies_from a span h =
    let both = and_parts _ _ h in
    (leb-true span.base a both.0, ltb-true a (span.base + PAGE_BYTES * span.pages) both.1)

in_span : (a : ℕ) (span : Span) → LiesIn span a → is_in_span a span ≡ true
in_span a span h = and_from _ _ (le-leb span.base a h.0) (lt-ltb a (span.base + PAGE_BYTES * span.pages) h.1)

pub taken_in : (setting : Setting) (state : State) (a : ℕ) → is_taken setting state a ≡ true → (span : Span) × Contains (spans_of setting state) span × LiesIn span a
taken_in setting state a h = let found = any_found (is_in_span a) (spans_of setting state) h in (found.0, found.1, lies_from a found.0 found.2)

pub taken_from : (setting : Setting) (state : State) (a : ℕ) (span : Span) → Contains (spans_of setting state) span → LiesIn span a → is_taken setting state a ≡ true
taken_from setting state a span h lies = any_from (is_in_span a) (spans_of setting state) span h (in_span a span lies)

-- nothing of the arena is a root page
not_root : (header : Header) (a : ℕ) → IsHeader header → ARENA_BASE ≤ a → is_in_root header a ≡ false
not_root header a is high =
    let threads = is.threads.1 in
    or_from _ _ (and_right _ _ (le-ltb a (SHARED_ROOT + PAGE_BYTES) (omega arith)))
    (and_right (header.version == 2) _ (and_right _ _ (le-ltb a (OWN_ROOTS + PAGE_BYTES * header.threads) (omega arith))))

-- ---- free pages

module _ (setting : Setting) (state : State) (memory : Memory) (is : IsMemoryOf setting state memory) where
  end_is : pages_end memory.arena ≡ arena_end setting.header.version
  end_is = ap (λ (b : ℕ). b + PAGE_BYTES * memory.arena.pages) is.base ∙ ap (λ (p : ℕ). ARENA_BASE + PAGE_BYTES * p) is.pages

  pub free_in_state : (a : ℕ) → IsFreeIn memory.arena a → IsFreePage setting state a
  free_in_state a free = record {
    page = free.page;
    from = subst (λ (b : ℕ). b ≤ a) is.base free.from;
    to = subst (λ (e : ℕ). a + PAGE_BYTES ≤ e) end_is free.to;
    untaken = not_from_false _ (false_from_ne_true _ (λ taken.
        let found = taken_in setting state a taken in
        All-contains (λ (span : Span). LiesIn span a → ⊥) memory.arena.spans found.0 free.untaken ((is.spans found.0).1 found.1) found.2));
  }

  pub free_in_arena : (a : ℕ) → IsFreePage setting state a → IsFreeIn memory.arena a
  free_in_arena a free = record {
    page = free.page;
    from = subst (λ (b : ℕ). b ≤ a) (sym is.base) free.from;
    to = subst (λ (e : ℕ). a + PAGE_BYTES ≤ e) (sym end_is) free.to;
    untaken = untaken memory.arena.spans (λ span h lies.
        let taken = taken_from setting state a span ((is.spans span).0 h) lies in
        false≢true (sym (ap not taken) ∙ free.untaken));
  }
    where
      untaken : (spans : List Span) → ((span : Span) → Contains spans span → LiesIn span a → ⊥) → IsUntaken spans a
      untaken spans h k d lt lies = h (get_or spans k d) (Contains-get_or spans k d lt) lies

  pub no_run_in_state : (pages : ℕ) → HasNoRun (IsFreeIn memory.arena) pages → HasNoRun (IsFreePage setting state) pages
  no_run_in_state pages none base run = none base (λ k lt. free_in_arena (base + PAGE_BYTES * k) (run k lt))

  pub lowest_in_state : (pages base : ℕ) → IsLowestRun (IsFreeIn memory.arena) pages base → IsLowestRun (IsFreePage setting state) pages base
  lowest_in_state pages base lowest = record {
    free = λ k lt. free_in_state (base + PAGE_BYTES * k) (lowest.free k lt);
    lowest = λ lower less run. lowest.lowest lower less (λ k lt. free_in_arena (lower + PAGE_BYTES * k) (run k lt));
  }

-- a page that lies in a run that begins with a page, begins there
page_within : (base at pages k : ℕ) → base % 4096 ≡ 0 → at % 4096 ≡ 0 → base ≤ at + k → at + k < base + 4096 * pages → (base ≤ at + 4096 * (k / 4096)) × (at + 4096 * (k / 4096) < base + 4096 * pages)
page_within base at pages k whole page low high = (omega arith, omega arith)

-- nothing is mapped in free pages
pub free_is_unmapped : (memory : Memory) (base pages : ℕ) → IsMemory memory → IsFreeRun (IsFreeIn memory.arena) pages base → HasMapped memory.space base (PAGE_BYTES * pages) → ⊥
free_is_unmapped memory base pages is free mapped =
    let k = mapped.0 in
    let j = k / 4096 in
    let less : j < pages = omega (arith, mapped.1) in
    let page = free j less in
    let first = free 0 (omega arith) in
    let found = is.space.held (base + k) mapped.2 in
    let run = found.0 in
    let shape = All-contains (IsSpanWithin 0 (2 ^ 32)) (runs_of memory.space) run is.space.runs found.1 in
    let whole : base % 4096 ≡ 0 = subst (λ (b : ℕ). b % 4096 ≡ 0) (omega arith) first.page in
    elim (is.others run found.1) [
      | inl taken ↦
          All-contains (λ (span : Span). LiesIn span (base + PAGE_BYTES * j) → ⊥) memory.arena.spans run page.untaken taken
          (page_within run.base base run.pages k shape.page whole found.2 (omega (arith, found.3)))
      | inr below ↦ omega (arith, below, found.3, first.from)
    ]

-- a free run of pages lies in 32 bits and begins with a page
pub free_is_page : (arena : Arena) (base pages : ℕ) → 1 ≤ pages → IsFreeRun (IsFreeIn arena) pages base → IsPage base
free_is_page arena base pages some free = subst (λ (b : ℕ). b % 4096 ≡ 0) (omega arith) (free 0 (omega arith)).page

pub free_is_below : (arena : Arena) (base pages : ℕ) → 1 ≤ pages → IsSoundArena arena → IsFreeRun (IsFreeIn arena) pages base → base + PAGE_BYTES * pages ≤ 2 ^ 32
free_is_below arena base pages some sound free = let last = free (pages - 1) (omega arith) in omega (arith, last.to, sound.to)

-- ---- runs that are opened

module _ (setting : Setting) (state next : State) (old new : Memory) (run : Span) (was : IsMemoryOf setting state old) (opens : OpensRun old new run)
    (members : (span : Span) → Contains (spans_of setting next) span ↔ (Contains (spans_of setting state) span ⊎ (span ≡ run)))
    (zeros : (k : ℕ) → k < PAGE_BYTES * run.pages → next.bytes (run.base + k) ≡ 0)
    (same : (a : ℕ) → (a < run.base) ⊎ (run.base + PAGE_BYTES * run.pages ≤ a) → next.bytes a ≡ state.bytes a) where
  opened_taken : (a : ℕ) → (a < run.base) ⊎ (run.base + PAGE_BYTES * run.pages ≤ a) → is_taken setting state a ≡ is_taken setting next a
  opened_taken a out = same_answer _ _
      (λ h. let found = taken_in setting state a h in taken_from setting next a found.0 ((members found.0).1 (inl found.1)) found.2)
      (λ h.
      let found = taken_in setting next a h in
      elim ((members found.0).0 found.1) [
        | inl there ↦ taken_from setting state a found.0 there found.2
        | inr e ↦ absurd (not_in (subst (λ (span : Span). LiesIn span a) e found.2) out)
      ])
    where
      not_in : LiesIn run a → (a < run.base) ⊎ (run.base + PAGE_BYTES * run.pages ≤ a) → ⊥
      not_in lies (inl low) = omega (arith, lies.0)
      not_in lies (inr past) = omega (arith, lies.1)

  opened_byte : (a : ℕ) → byte_at new.space a ≡ cond (is_mapped setting next a) (Some (next.bytes a)) None
  opened_byte a = elim (where_of a run.base (PAGE_BYTES * run.pages)) [
    | inl in_it ↦
        let k = in_it.0 in
        let lies : LiesIn run (run.base + k) = (omega arith, omega (arith, in_it.1)) in
        let taken = taken_from setting next (run.base + k) run ((members run).1 (inr refl)) lies in
        let mapped = or_right (is_in_root setting.header (run.base + k)) _ taken in
        let now : byte_at new.space (run.base + k) ≡ cond (is_mapped setting next (run.base + k)) (Some (next.bytes (run.base + k))) None =
        opens.maps.zeros k in_it.1 ∙ ap Some (sym (zeros k in_it.1)) ∙ sym (ap (λ (b : Bool). cond b (Some (next.bytes (run.base + k))) None) mapped) in
        subst (λ (x : ℕ). byte_at new.space x ≡ cond (is_mapped setting next x) (Some (next.bytes x)) None) in_it.2 now
    | inr out ↦
        opens.maps.others a out ∙ was.bytes a
        ∙ ap (λ (v : ℕ). cond (is_mapped setting state a) (Some v) None) (sym (same a out))
        ∙ ap (λ (b : Bool). cond (is_in_root setting.header a || b) (Some (next.bytes a)) None) (opened_taken a out)
  ]

  opened_run : (span : Span) → Contains (spans_of setting next) span → Contains (runs_of new.space) span
  opened_run span h =
      let key : Span → ℕ = λ s. s.base in
      let gains = Gains-put_by key (runs_of old.space) run in
      subst (λ (rs : List Span). Contains rs span) (sym opens.maps.runs) (elim ((members span).0 h) [
        | inl there ↦ gains.kept span (was.runs span there)
        | inr e ↦ subst (λ (s : Span). Contains (put_by key (runs_of old.space) run) s) (sym e) gains.gained
      ])

  opened_to : (span : Span) → Contains new.arena.spans span → Contains (spans_of setting next) span
  opened_to span h = elim (opens.gains.only span h) [
    | inl there ↦ (members span).1 (inl ((was.spans span).0 there))
    | inr e ↦ (members span).1 (inr e)
  ]

  opened_from : (span : Span) → Contains (spans_of setting next) span → Contains new.arena.spans span
  opened_from span h = elim ((members span).0 h) [
    | inl there ↦ opens.gains.kept span ((was.spans span).1 there)
    | inr e ↦ subst (λ (s : Span). Contains new.arena.spans s) (sym e) opens.gains.gained
  ]

  pub opened : IsMemoryOf setting next new
  opened = record {
    bytes = opened_byte;
    runs = opened_run;
    spans = λ span. (opened_to span, opened_from span);
    base = opens.place.base ∙ was.base;
    pages = opens.place.pages ∙ was.pages;
  }

-- ---- runs that are closed

-- two spans of the arena that meet are one
one_span : (arena : Arena) (s t : Span) (a : ℕ) → IsSoundArena arena → Contains arena.spans s → Contains arena.spans t → LiesIn s a → LiesIn t a → s ≡ t
one_span arena s t a sound h g in_s in_t = elim (pair_of EndsBelow arena.spans s t sound.apart h g) [
  | inl same ↦ same
  | inr (inl below) ↦ absurd (omega (arith, below, in_s.1, in_t.0))
  | inr (inr above) ↦ absurd (omega (arith, above, in_t.1, in_s.0))
]

module _ (setting : Setting) (state next : State) (old new : Memory) (run : Span) (header : IsHeader setting.header) (was : IsMemoryOf setting state old) (sound : IsMemory old) (closes : Closes old new run)
    (members : (span : Span) → Contains (spans_of setting next) span ↔ (Contains (spans_of setting state) span × (span.base ≢ run.base)))
    (same : (a : ℕ) → next.bytes a ≡ state.bytes a) where
  -- what lies in the run is taken no more
  closed_free : (a : ℕ) → LiesIn run a → is_taken setting next a ≡ false
  closed_free a lies = false_from_ne_true _ (λ h.
      let found = taken_in setting next a h in
      let there = (members found.0).0 found.1 in
      let is_run = one_span old.arena found.0 run a sound.arena ((was.spans found.0).1 there.0) closes.loses.had found.2 lies in
      there.1 (ap (λ (s : Span). s.base) is_run))

  closed_taken : (a : ℕ) → (a < run.base) ⊎ (run.base + PAGE_BYTES * run.pages ≤ a) → is_taken setting state a ≡ is_taken setting next a
  closed_taken a out = same_answer _ _
      (λ h.
      let found = taken_in setting state a h in
      elim (cases_eq found.0.base run.base) [
        | inl e ↦
            let is_run = closes.loses.alone found.0 ((was.spans found.0).1 found.1) e in
            absurd (not_in (subst (λ (span : Span). LiesIn span a) is_run found.2) out)
        | inr ne ↦ taken_from setting next a found.0 ((members found.0).1 (found.1, ne)) found.2
      ])
      (λ h. let found = taken_in setting next a h in taken_from setting state a found.0 ((members found.0).0 found.1).0 found.2)
    where
      not_in : LiesIn run a → (a < run.base) ⊎ (run.base + PAGE_BYTES * run.pages ≤ a) → ⊥
      not_in lies (inl low) = omega (arith, lies.0)
      not_in lies (inr past) = omega (arith, lies.1)

  closed_byte : (a : ℕ) → byte_at new.space a ≡ cond (is_mapped setting next a) (Some (next.bytes a)) None
  closed_byte a = elim (where_of a run.base (PAGE_BYTES * run.pages)) [
    | inl in_it ↦
        let k = in_it.0 in
        let lies : LiesIn run (run.base + k) = (omega arith, omega (arith, in_it.1)) in
        let inside = All-contains (IsSpanWithin old.arena.base (pages_end old.arena)) old.arena.spans run sound.arena.inside closes.loses.had in
        let high : ARENA_BASE ≤ run.base + k = omega (arith, inside.low, was.base) in
        let unmapped = or_from _ _ (not_root setting.header (run.base + k) header high) (closed_free (run.base + k) lies) in
        let now : byte_at new.space (run.base + k) ≡ cond (is_mapped setting next (run.base + k)) (Some (next.bytes (run.base + k))) None =
        closes.unmaps.gone k in_it.1 ∙ sym (ap (λ (b : Bool). cond b (Some (next.bytes (run.base + k))) None) unmapped) in
        subst (λ (x : ℕ). byte_at new.space x ≡ cond (is_mapped setting next x) (Some (next.bytes x)) None) in_it.2 now
    | inr out ↦
        closes.unmaps.others a out ∙ was.bytes a
        ∙ ap (λ (v : ℕ). cond (is_mapped setting state a) (Some v) None) (sym (same a))
        ∙ ap (λ (b : Bool). cond (is_in_root setting.header a || b) (Some (next.bytes a)) None) (closed_taken a out)
  ]

  closed_run : (span : Span) → Contains (spans_of setting next) span → Contains (runs_of new.space) span
  closed_run span h =
      let key : Span → ℕ = λ s. s.base in
      let there = (members span).0 h in
      subst (λ (rs : List Span). Contains rs span) (sym closes.unmaps.runs)
      (Contains-left_out_by key (runs_of old.space) run.base span (was.runs span there.0) there.1)

  pub closed : IsMemoryOf setting next new
  closed = record {
    bytes = closed_byte;
    runs = closed_run;
    spans = λ span. (
      λ h. (members span).1 ((was.spans span).0 (closes.loses.only span h), closes.loses.gone span h),
      λ h. let there = (members span).0 h in closes.loses.kept span ((was.spans span).1 there.0) there.1,
    );
    base = closes.place.base ∙ was.base;
    pages = closes.place.pages ∙ was.pages;
  }

-- ---- what stays a memory

below_same : (run : Span) (arena new : Arena) → IsSamePlace arena new → span_end run ≤ arena.base → span_end run ≤ new.base
below_same run arena new place h = omega (arith, place.base)

pub opened_memory : (old new : Memory) (run : Span) → IsMemory old → OpensRun old new run → IsSoundSpace new.space → IsSoundArena new.arena → IsMemory new
opened_memory old new run was opens space arena =
    let key : Span → ℕ = λ s. s.base in
    let gains = Gains-put_by key (runs_of old.space) run in
    record {
      space = space;
      arena = arena;
      spans = λ span h. subst (λ (rs : List Span). Contains rs span) (sym opens.maps.runs) (elim (opens.gains.only span h) [
        | inl there ↦ gains.kept span (was.spans span there)
        | inr e ↦ subst (λ (s : Span). Contains (put_by key (runs_of old.space) run) s) (sym e) gains.gained
      ]);
      others = λ span h. elim (gains.only span (subst (λ (rs : List Span). Contains rs span) opens.maps.runs h)) [
        | inl there ↦ elim (was.others span there) [
          | inl taken ↦ inl (opens.gains.kept span taken)
          | inr below ↦ inr (below_same span old.arena new.arena opens.place below)
        ]
        | inr e ↦ inl (subst (λ (s : Span). Contains new.arena.spans s) (sym e) opens.gains.gained)
      ];
    }

pub closed_memory : (old new : Memory) (run : Span) → IsMemory old → Closes old new run → IsSoundSpace new.space → IsSoundArena new.arena → IsMemory new
closed_memory old new run was closes space arena =
    let key : Span → ℕ = λ s. s.base in
    record {
      space = space;
      arena = arena;
      spans = λ span h.
          subst (λ (rs : List Span). Contains rs span) (sym closes.unmaps.runs)
          (Contains-left_out_by key (runs_of old.space) run.base span (was.spans span (closes.loses.only span h)) (closes.loses.gone span h));
      others = λ span h.
          let there = Contains-from_left_out_by key (runs_of old.space) run.base span (subst (λ (rs : List Span). Contains rs span) closes.unmaps.runs h) in
          elim (was.others span there.0) [
            | inl taken ↦ inl (closes.loses.kept span taken there.1)
            | inr below ↦ inr (below_same span old.arena new.arena closes.place below)
          ];
    }

pub same_spans_memory : (old new : Memory) → IsMemory old → HasSameSpans old new → IsSoundArena new.arena → IsMemory new
same_spans_memory old new was same arena = record {
  space = subst IsSoundSpace (sym same.space) was.space;
  arena = arena;
  spans = λ span h. subst (λ (s : Space). Contains (runs_of s) span) (sym same.space) (was.spans span (same.only span h));
  others = λ span h. elim (was.others span (subst (λ (s : Space). Contains (runs_of s) span) same.space h)) [
    | inl taken ↦ inl (same.kept span taken)
    | inr below ↦ inr (below_same span old.arena new.arena same.place below)
  ];
}

-- the memory of a state with the same spans is still that
pub kept : (setting : Setting) (state : State) (old new : Memory) → IsMemoryOf setting state old → HasSameSpans old new → IsMemoryOf setting state new
kept setting state old new was same = record {
  bytes = λ a. ap (λ (s : Space). byte_at s a) same.space ∙ was.bytes a;
  runs = λ span h. subst (λ (s : Space). Contains (runs_of s) span) (sym same.space) (was.runs span h);
  spans = λ span. (λ h. (was.spans span).0 (same.only span h), λ h. same.kept span ((was.spans span).1 h));
  base = same.place.base ∙ was.base;
  pages = same.place.pages ∙ was.pages;
}

-- the memory of a state is that of another one with the same runs and bytes
pub alike : (setting : Setting) (state next : State) (memory : Memory) → IsMemoryOf setting state memory
    → ((span : Span) → Contains (spans_of setting next) span ↔ Contains (spans_of setting state) span) → ((a : ℕ) → next.bytes a ≡ state.bytes a) → IsMemoryOf setting next memory
alike setting state next memory was members same = record {
  bytes = λ a.
      was.bytes a ∙ ap (λ (v : ℕ). cond (is_mapped setting state a) (Some v) None) (sym (same a))
      ∙ ap (λ (b : Bool). cond (is_in_root setting.header a || b) (Some (next.bytes a)) None) (taken a);
  runs = λ span h. was.runs span ((members span).0 h);
  spans = λ span. (λ h. (members span).1 ((was.spans span).0 h), λ h. (was.spans span).1 ((members span).0 h));
  base = was.base;
  pages = was.pages;
}
  where
    taken : (a : ℕ) → is_taken setting state a ≡ is_taken setting next a
    taken a = same_answer _ _
        (λ h. let found = taken_in setting state a h in taken_from setting next a found.0 ((members found.0).1 found.1) found.2)
        (λ h. let found = taken_in setting next a h in taken_from setting state a found.0 ((members found.0).0 found.1) found.2)

-- ---- a run that was taken and given back again

pub taken_and_given_back : (before between after : Arena) (base pages more : ℕ) → 1 ≤ pages → IsSoundArena before → IsFreeRun (IsFreeIn before) pages base
    → Gains before.spans between.spans (record { base = base; pages = pages })
    → Loses (λ (span : Span). span.base) between.spans after.spans (record { base = base; pages = more })
    → (span : Span) → Contains before.spans span ↔ Contains after.spans span
taken_and_given_back before between after base pages more some sound free gains loses span = (
  λ h. loses.kept span (gains.kept span h) (λ e.
      let first = free 0 (omega arith) in
      let shape = All-contains (IsSpanWithin before.base (pages_end before)) before.spans span sound.inside h in
      All-contains (λ (s : Span). LiesIn s (base + PAGE_BYTES * 0) → ⊥) before.spans span first.untaken h (omega arith, omega (arith, shape.some))),
  λ h. elim (gains.only span (loses.only span h)) [
    | inl there ↦ there
    | inr e ↦ absurd (loses.gone span h (ap (λ (s : Span). s.base) e))
  ],
)

-- whether or not it could be given back
pub undone : (before between after : Arena) (base pages : ℕ) (r : Result ℕ NotASpan) → 1 ≤ pages → IsSoundArena before → IsFreeRun (IsFreeIn before) pages base
    → Gains before.spans between.spans (record { base = base; pages = pages }) → IsSamePlace before between
    → MatchResult r (λ more. after ≡ record between { spans = left_out_by (λ span. span.base) between.spans base }) (λ _. after ≡ between)
    → IfOk r (λ more. Loses (λ span. span.base) between.spans after.spans (record { base = base; pages = more }))
    → IfErr r (λ _. (more : ℕ) → Contains between.spans (record { base = base; pages = more }) → ⊥)
    → ((span : Span) → Contains before.spans span ↔ Contains after.spans span) × IsSamePlace before after
undone before between after base pages (Ok more) some sound free gains place spans loses refused = (
  taken_and_given_back before between after base pages more some sound free gains loses,
  record { base = ap (λ (a : Arena). a.base) spans ∙ place.base; pages = ap (λ (a : Arena). a.pages) spans ∙ place.pages },
)
undone before between after base pages (Err e) some sound free gains place spans loses refused = absurd (refused pages gains.gained)

-- ---- the answers of a run that is asked for

pub lowest_told : (r : Result (Option ℕ) NoMemory) (old new : Memory) (pages more : ℕ) → IfOk r (OpensLowest old new pages) → pages ≡ more → IfOk r (λ base. ForEachState (IsLowestOrNone more base) old)
lowest_told (Ok None) old new pages more opens e = λ setting state header is. subst (HasNoRun (IsFreePage setting state)) e (no_run_in_state setting state old is pages opens.1)
lowest_told (Ok (Some base)) old new pages more opens e = λ setting state header is.
    subst (λ (p : ℕ). IsLowestRun (IsFreePage setting state) p base) e (lowest_in_state setting state old is pages base opens.lowest)
lowest_told (Err e) old new pages more opens same = tt

large_run_opened : (setting : Setting) (state : State) (old new : Memory) (base pages size : ℕ) (zeroed : Bool) → IsMemoryOf setting state old
    → OpensRun old new (record { base = base; pages = pages }) → pages ≡ pages_for size → IsMemoryOf setting (hand_out setting state base (large size) zeroed) new
large_run_opened setting state old new base pages size zeroed is opens e =
    let run : Span = record { base = base; pages = pages } in
    let is_run : run ≡ record { base = base; pages = pages_for size } = ap (λ (p : ℕ). record { base = base; pages = p }) e in
    opened setting state (hand_out setting state base (large size) zeroed) old new run is opens
    (λ span. large_members setting state base size zeroed run span is_run)
    (λ k lt. zeros_here state.bytes base (PAGE_BYTES * pages_for size) k (omega (arith, e)))
    (λ a out. zeros_beside state.bytes base (PAGE_BYTES * pages_for size) a (moved a base pages (pages_for size) e out))
  where
    moved : (a base pages more : ℕ) → pages ≡ more → (a < base) ⊎ (base + 4096 * pages ≤ a) → (a < base) ⊎ (base + 4096 * more ≤ a)
    moved a base pages more e (inl low) = inl low
    moved a base pages more e (inr past) = inr (omega arith)

pub large_opened : (r : Result (Option ℕ) NoMemory) (old new : Memory) (pages size : ℕ) → IfOk r (OpensLowest old new pages) → pages ≡ pages_for size
    → IfOk r (λ base. (zeroed : Bool) → Becomes (after_large size zeroed base) old new)
large_opened (Ok None) old new pages size opens e = λ zeroed setting state header is. subst (λ (m : Memory). IsMemoryOf setting state m) (sym opens.0) is
large_opened (Ok (Some base)) old new pages size opens e = λ zeroed setting state header is. large_run_opened setting state old new base pages size zeroed is opens e
large_opened (Err e) old new pages size opens same = tt

pub want_told : {X : Type 0} (r : Result X NoMemory) (old new : Memory) → OnErr r (HasSameSpans old new) → OnErr r (Keeps old new)
want_told (Ok x) old new same = tt
want_told (Err e) old new same = λ setting state header is. kept setting state old new is same
