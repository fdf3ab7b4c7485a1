-- What a memory holds at the start.
use Rattle.std.proofs.Common.{◌≡◌, ◌≢◌, ℕ, ◌+◌, ◌*◌, ◌<◌, ◌≤◌, ◌⊎◌, inl, inr, Bool, true, false, cond, eqb, List, [], ◌∷◌, Option, Some, None, refl, sym, ap, ◌∙◌, subst, arith}
use Rattle.std.specs.Prelude.{◌||◌, ◌&&◌, ◌==◌, Contains}
use Rattle.std.proofs.lemmas.Bool.{and_from, and_left, and_right, eq-eqb, ne_eqb, or_from, or_left, or_right}
use Rattle.umem_base.specs.declared.arena.TheConstants.{ARENA_BASE}
use Rattle.umem_base.specs.declared.pages.TheConstants.{PAGE_BYTES}
use Rattle.umem_base.specs.declared.roots.TheConstants.{OWN_ROOTS, SHARED_ROOT}
use Rattle.umem_base.specs.declared.span.Span.{Span}
use Rattle.umem_base.specs.Ordered.{put_by}
use Rattle.umem_base.specs.Span.{span_end}
use Rattle.umem_base.proofs.OrderedLemmas.{Contains-nil, Gains-put_by}
use Rattle.addr_space.specs.Space.{IsSound as IsSoundSpace, Maps, Space, byte_at, runs_of}
use Rattle.span_arena.specs.Arena.{Arena, IsSound as IsSoundArena}
use Rattle.script.specs.declared.tree.Header.{Header}
use Rattle.script.specs.Rules.{IsHeader}
use Rattle.plain_heap.specs.Bytes.{is_within}
use Rattle.plain_heap.specs.Setting.{is_in_root}
use Rattle.heap_memory.specs.Memory.{HasRoots, IsMemory}
use Rattle.heap_memory.proofs.WriteLemmas.{beside, where_of, within}

abbrev shared : Span
shared = record { base = SHARED_ROOT; pages = 1 }

abbrev own : ℕ → Span
own threads = record { base = OWN_ROOTS; pages = threads }

abbrev key : Span → ℕ
key span = span.base

-- the tests of the root pages
abbrev in_shared : ℕ → Bool
in_shared a = is_within SHARED_ROOT PAGE_BYTES a

abbrev in_own : ℕ → ℕ → Bool
in_own threads a = is_within OWN_ROOTS (PAGE_BYTES * threads) a

-- a byte that is mapped with zeros, by the test of the run
zero_in_run : (old new : Space) (run : Span) (a : ℕ) → Maps old new run → byte_at new a ≡ cond (is_within run.base (PAGE_BYTES * run.pages) a) (Some 0) (byte_at old a)
zero_in_run old new run a maps = elim (where_of a run.base (PAGE_BYTES * run.pages)) [
  | inl in_it ↦
      let inside = within run.base (PAGE_BYTES * run.pages) in_it.0 in_it.1 in
      let now : byte_at new (run.base + in_it.0) ≡ cond (is_within run.base (PAGE_BYTES * run.pages) (run.base + in_it.0)) (Some 0) (byte_at old (run.base + in_it.0)) =
      maps.zeros in_it.0 in_it.1 ∙ sym (ap (λ (b : Bool). cond b (Some 0) (byte_at old (run.base + in_it.0))) inside) in
      subst (λ (x : ℕ). byte_at new x ≡ cond (is_within run.base (PAGE_BYTES * run.pages) x) (Some 0) (byte_at old x)) in_it.2 now
  | inr out ↦ maps.others a out ∙ sym (ap (λ (b : Bool). cond b (Some 0) (byte_at old a)) (beside run.base (PAGE_BYTES * run.pages) a out))
]

one_root : (first version : Bool) → version ≡ false → (rest : Bool) → cond {A = Option ℕ} first (Some 0) None ≡ cond {A = Option ℕ} (first || (version && rest)) (Some 0) None
one_root true version e rest = refl
one_root false version e rest = sym (ap (λ (b : Bool). cond {A = Option ℕ} (b && rest) (Some 0) None) e)

both_roots : (first version rest : Bool) → version ≡ true → cond {A = Option ℕ} rest (Some 0) (cond first (Some 0) None) ≡ cond {A = Option ℕ} (first || (version && rest)) (Some 0) None
both_roots true version true e = refl
both_roots true version false e = refl
both_roots false version true e = sym (ap (λ (b : Bool). cond {A = Option ℕ} (b && true) (Some 0) None) e)
both_roots false version false e = sym (ap (λ (b : Bool). cond {A = Option ℕ} (b && false) (Some 0) None) e)

module _ (header : Header) (start one : Space) (none : (a : ℕ) → byte_at start a ≡ None) (no_runs : runs_of start ≡ []) (first : Maps start one shared) where
  first_byte : (a : ℕ) → byte_at one a ≡ cond (in_shared a) (Some 0) None
  first_byte a = zero_in_run start one shared a first ∙ ap (λ (x : Option ℕ). cond (in_shared a) (Some 0) x) (none a)

  first_run : (run : Span) → Contains (runs_of one) run → run ≡ shared
  first_run run h = elim ((Gains-put_by key (runs_of start) shared).only run (subst (λ (rs : List Span). Contains rs run) first.runs h)) [
    | inl there ↦ Contains-nil run (subst (λ (rs : List Span). Contains rs run) no_runs there)
    | inr e ↦ e
  ]

  first_below : (run : Span) → run ≡ shared → span_end run ≤ ARENA_BASE
  first_below run e = let low : span_end shared ≤ ARENA_BASE = omega arith in subst (λ (s : Span). span_end s ≤ ARENA_BASE) (sym e) low

  -- in a version without own roots there is one run
  pub roots_of_one : header.version ≢ 2 → IsSoundSpace one → HasRoots header one
  roots_of_one other sound = record {
    bytes = λ a. first_byte a ∙ one_root (in_shared a) (header.version == 2) (ne_eqb header.version 2 other) (in_own header.threads a);
    below = λ run h. first_below run (first_run run h);
    sound = sound;
  }

  -- else there are two
  pub roots_of_both : (both : Space) (threads : ℕ) → IsHeader header → header.version ≡ 2 → threads ≡ header.threads → Maps one both (own threads) → IsSoundSpace both → HasRoots header both
  roots_of_both both threads is two e second sound = record {
    bytes = λ a.
        zero_in_run one both (own threads) a second ∙ ap (λ (x : Option ℕ). cond (in_own threads a) (Some 0) x) (first_byte a)
        ∙ ap (λ (n : ℕ). cond (in_own n a) (Some 0) (cond (in_shared a) (Some 0) None)) e
        ∙ both_roots (in_shared a) (header.version == 2) (in_own header.threads a) (eq-eqb header.version 2 two);
    below = λ run h. elim ((Gains-put_by key (runs_of one) (own threads)).only run (subst (λ (rs : List Span). Contains rs run) second.runs h)) [
      | inl there ↦ first_below run (first_run run there)
      | inr same ↦
          let low : span_end (own threads) ≤ ARENA_BASE = omega (arith, e, is.threads.1) in
          subst (λ (s : Span). span_end s ≤ ARENA_BASE) (sym same) low
    ];
    sound = sound;
  }

-- with an arena of which nothing is taken they are a memory
pub start_memory : (header : Header) (space : Space) (arena : Arena) (pages : ℕ) → HasRoots header space → arena ≡ record { base = ARENA_BASE; pages = pages; spans = [] } → IsSoundArena arena
    → IsMemory (record { space = space; arena = arena })
start_memory header space arena pages roots is sound = record {
  space = roots.sound;
  arena = sound;
  spans = λ span h. Contains-nil span (subst (λ (a : Arena). Contains a.spans span) is h);
  others = λ run h. inr (subst (λ (b : ℕ). span_end run ≤ b) (sym (ap (λ (a : Arena). a.base) is)) (roots.below run h));
}
