-- There is room for the entries of each call: how many calls are left, and how many slabs stand.
use Rattle.std.proofs.Common.{◌≡◌, ℕ, zero, suc, ◌+◌, ◌<◌, ◌≤◌, inl, inr, Bool, true, false, cond, eqb, List, [], ◌∷◌, ◌++◌, length, map, drop, take, set, replicate, Some, refl, sym, ap, ◌∙◌, subst, arith}
use Rattle.std.specs.Prelude.{Contains, slice_get, slice_index, sum_by}
use Rattle.std.specs.List.{list_all, range_with_len}
use Rattle.std.proofs.lemmas.Bool.{and_parts}
use Rattle.std.proofs.lemmas.Bool.Decides.{eqb_tells, leb_tells}
use Rattle.std.proofs.lemmas.List.{append-nil, append_assoc, get_or_past, length-drop}
use Rattle.std.proofs.lemmas.List.Folds.{fold-map}
use Rattle.std.proofs.lemmas.List.Sums.{fold-append, sum_by-cons, sum_by-le-sum_by, sum_by-set}
use Rattle.std.proofs.Math.Seq.{take-append_seam}
use Rattle.umem_base.specs.Ordered.{left_out_by}
use Rattle.umem_base.proofs.OrderedLemmas.{Contains-cases, Contains-nil, left_out_by-drops, left_out_by-keeps}
use Rattle.script.specs.declared.operation.Op.{Op}
use Rattle.script.specs.declared.operation.Op.TheVariants.{Alloc, Zalloc, Free, CacheAlloc, CacheFree, Copy, Clear, Store, Link, Load, Reap}
use Rattle.script.specs.Plan.{Call, Plan, Turn, call_count}
use Rattle.plain_heap.specs.declared.entry.Body.TheVariants as body
use Rattle.plain_heap.specs.declared.entry.Entry.{Entry}
use Rattle.plain_heap.specs.declared.held.Held.{Held}
use Rattle.plain_heap.specs.declared.reply.Reply.{Reply}
use Rattle.plain_heap.specs.declared.reply.Reply.TheVariants as reply
use Rattle.plain_heap.specs.Calls.{calls_of, number_of_calls}
use Rattle.plain_heap.specs.Legal.{IsLegal, IsShrink, next_of_thread}
use Rattle.plain_heap.specs.Setting.{Setting}
use Rattle.plain_heap.specs.State.{HeapSlab, State, after_alloc, after_call, after_entry, after_free, after_link, after_store, after_word, request_from, request_of, start_state, state_of, word_of_slot}
use Rattle.heap_ledger.specs.declared.slab_at.SlabAt.{SlabAt}
use Rattle.heap_ledger.specs.Ledger.{commit_entries, entry, grown, inner_entries, shrunk}
use Rattle.heap_ledger.specs.Room.{calls_left, calls_left_in}
use Rattle.heap_ledger.specs.Schedule.{Schedule, after_take, are_all_empty, by_thread, first_left, first_schedule, thread_calls, settled, without_first}

-- ---- calls that are left

empty_has_none : (phase : List (List Call)) → are_all_empty phase ≡ true → calls_left_in phase ≡ 0
empty_has_none [] none = refl
empty_has_none (calls ∷ phase) none =
    let test = λ (calls : List Call). eqb (length calls) 0 in
    let parts = and_parts (test calls) (list_all test phase) none in
    elim (eqb_tells (length calls) 0) [
      | inl is ↦ omega (arith, sum_by-cons length calls phase, is.1, empty_has_none phase parts.1)
      | inr isnt ↦ absurd (cc (isnt.0, parts.0))
    ]

settled_keeps : (made : List ℕ) (phase : List (List Call)) (later : List (List (List Call))) → calls_left (settled made phase later) ≡ calls_left_in phase + sum_by calls_left_in later
settled_keeps made phase [] = refl
settled_keeps made phase (next ∷ later) = by_left (settled_keeps made next later) (are_all_empty phase) refl
  where
    chosen : Bool → Schedule
    chosen b = cond b (settled made next later) (record { made = made; phase = phase; later = next ∷ later })

    by_left : calls_left (settled made next later) ≡ calls_left_in next + sum_by calls_left_in later → (none : Bool) → are_all_empty phase ≡ none
        → calls_left (settled made phase (next ∷ later)) ≡ calls_left_in phase + sum_by calls_left_in (next ∷ later)
    by_left turned true none =
        ap (λ (b : Bool). calls_left (chosen b)) none ∙ turned
        ∙ omega (arith, empty_has_none phase none, sum_by-cons calls_left_in next later)
    by_left turned false some = ap (λ (b : Bool). calls_left (chosen b)) some

pub one_taken : (schedule : Schedule) (thread : ℕ) (call : Call) → first_left schedule.phase thread ≡ Some call → calls_left (after_take schedule thread) + 1 ≡ calls_left schedule
one_taken schedule thread call first =
    let calls = thread_calls schedule.phase thread in
    let counts = set schedule.made thread (slice_index schedule.made thread + 1) in
    omega (arith, settled_keeps counts (without_first schedule.phase thread) schedule.later, sum_by-set length schedule.phase thread (drop 1 calls) [] known_place, length-drop 1 calls, some)
  where
    known_place : thread < length schedule.phase
    known_place = elim (leb_tells (length schedule.phase) thread) [
      | inl past ↦ absurd (cc (first, ap (λ (calls : List Call). slice_get calls 0) (get_or_past schedule.phase thread [] past.1)))
      | inr there ↦ there.1
    ]

    some : 0 < length (thread_calls schedule.phase thread)
    some = has_first (thread_calls schedule.phase thread) first
      where
        has_first : (calls : List Call) → slice_get calls 0 ≡ Some call → 0 < length calls
        has_first [] none = absurd (cc none)
        has_first (x ∷ xs) is = omega arith

-- ---- calls of a plan

-- 1 where a test holds, and else 0
abbrev tell : Bool → ℕ
tell holds = cond holds 1 0

none_of_range : (thread from count : ℕ) → thread < from → sum_by (λ t. tell (eqb thread t)) (range_with_len from count) ≡ 0
none_of_range thread from zero below = refl
none_of_range thread from (suc count) below = elim (eqb_tells thread from) [
  | inl is ↦ absurd (omega (arith, is.1, below))
  | inr isnt ↦
      let first : tell (eqb thread from) ≡ 0 = ap tell isnt.0 in
      omega (arith, sum_by-cons (λ t. tell (eqb thread t)) from (range_with_len (from + 1) count), first, none_of_range thread (from + 1) count (omega (arith, below)))
]

-- one thread at most is that one
one_of_range : (thread from count : ℕ) → sum_by (λ t. tell (eqb thread t)) (range_with_len from count) ≤ 1
one_of_range thread from zero = omega arith
one_of_range thread from (suc count) = elim (eqb_tells thread from) [
  | inl is ↦
      let first : tell (eqb thread from) ≡ 1 = ap tell is.0 in
      omega (arith, sum_by-cons (λ t. tell (eqb thread t)) from (range_with_len (from + 1) count), first, none_of_range thread (from + 1) count (omega (arith, is.1)))
  | inr isnt ↦
      let first : tell (eqb thread from) ≡ 0 = ap tell isnt.0 in
      omega (arith, sum_by-cons (λ t. tell (eqb thread t)) from (range_with_len (from + 1) count), first, one_of_range thread (from + 1) count)
]

sum_of_both : (f g : ℕ → ℕ) (xs : List ℕ) → sum_by (λ t. f t + g t) xs ≡ sum_by f xs + sum_by g xs
sum_of_both f g [] = refl
sum_of_both f g (x ∷ xs) =
    omega (arith, sum_by-cons (λ t. f t + g t) x xs, sum_by-cons f x xs, sum_by-cons g x xs, sum_of_both f g xs)

pub number_first : (turn : Turn) (turns : List Turn) (thread : ℕ) → number_of_calls thread (turn ∷ turns) ≤ tell (eqb turn.thread thread) + number_of_calls thread turns
number_first turn turns thread = elim (eqb_tells turn.thread thread) [
  | inl is ↦ rw is.0 (omega arith)
  | inr isnt ↦ rw isnt.0 (omega arith)
]

-- the threads have no more calls than there are
pub calls_by_threads : (turns : List Turn) (from count : ℕ) → sum_by (λ t. number_of_calls t turns) (range_with_len from count) ≤ length turns
calls_by_threads [] from count = none (range_with_len from count)
  where
    none : (xs : List ℕ) → sum_by (λ t. number_of_calls t []) xs ≤ 0
    none [] = omega arith
    none (x ∷ xs) = omega (arith, sum_by-cons (λ t. number_of_calls t []) x xs, none xs)
calls_by_threads (turn ∷ turns) from count =
    let range = range_with_len from count in
    let its : ℕ → ℕ = λ t. tell (eqb turn.thread t) in
    let others : ℕ → ℕ = λ t. number_of_calls t turns in
    omega (arith, sum_by-le-sum_by (λ t. number_of_calls t (turn ∷ turns)) (λ t. its t + others t) range (number_first turn turns), sum_of_both its others range, one_of_range turn.thread from count, calls_by_threads turns from count)

phase_calls : (threads : ℕ) (turns : List Turn) → calls_left_in (by_thread threads turns) ≤ length turns
phase_calls threads turns =
    subst (λ n. n ≤ length turns) (sym (fold-map (λ n (calls : List Call). n + length calls) (λ t. calls_of t turns) 0 (range_with_len 0 threads))) (calls_by_threads turns 0 threads)

pub first_calls : (plan : Plan) → calls_left (first_schedule plan) ≤ call_count plan
first_calls plan =
    let threads = plan.header.threads in
    omega (arith, settled_keeps (replicate threads 0) [] (map (by_thread threads) plan.phases), each plan.phases)
  where
    each : (phases : List (List Turn)) → sum_by calls_left_in (map (by_thread plan.header.threads) phases) ≤ sum_by length phases
    each [] = omega arith
    each (phase ∷ phases) =
        let threads = plan.header.threads in
        omega (arith, sum_by-cons calls_left_in (by_thread threads phase) (map (by_thread threads) phases), sum_by-cons length phase phases, phase_calls threads phase, each phases)

-- ---- slabs

module _ (setting : Setting) (state : State) where
  alloc_slabs : (thread slot : ℕ) (held : Held) (zeroed : Bool) (answer : Reply) → (after_alloc setting state thread slot held zeroed answer).slabs ≡ state.slabs
  alloc_slabs thread slot held zeroed (reply.At at found) = refl
  alloc_slabs thread slot held zeroed reply.Null = refl
  alloc_slabs thread slot held zeroed reply.NoSpace = refl
  alloc_slabs thread slot held zeroed answer = refl

  free_slabs : (thread slot : ℕ) (answer : Reply) → (after_free setting state thread slot answer).slabs ≡ state.slabs
  free_slabs thread slot reply.Ok = refl
  free_slabs thread slot answer = refl

  store_slabs : (at : ℕ) (stored : List ℕ) (answer : Reply) → (after_store state at stored answer).slabs ≡ state.slabs
  store_slabs at stored reply.Ok = refl
  store_slabs at stored answer = refl

  link_slabs : (at word : ℕ) (answer : Reply) → (after_link state at word answer).slabs ≡ state.slabs
  link_slabs at word reply.Ok = refl
  link_slabs at word answer = refl

  word_slabs : (thread slot : ℕ) (answer : Reply) → (after_word state thread slot answer).slabs ≡ state.slabs
  word_slabs thread slot (reply.Word word) = refl
  word_slabs thread slot answer = refl

  pub call_slabs : (thread : ℕ) (op : Op) (answer : Reply) → (after_call setting state thread op answer).slabs ≡ state.slabs
  call_slabs thread (Alloc slot size) answer = alloc_slabs thread slot (request_of size) false answer
  call_slabs thread (Zalloc slot size) answer = alloc_slabs thread slot (request_of size) true answer
  call_slabs thread (CacheAlloc slot cache) answer = alloc_slabs thread slot (request_from setting cache) false answer
  call_slabs thread (Free slot size) answer = free_slabs thread slot answer
  call_slabs thread (CacheFree slot cache) answer = free_slabs thread slot answer
  call_slabs thread (Copy to from) answer = refl
  call_slabs thread (Clear slot) answer = refl
  call_slabs thread (Store slot offset stored) answer = store_slabs (word_of_slot state thread slot + offset) stored answer
  call_slabs thread (Link slot offset value) answer = link_slabs (word_of_slot state thread slot + offset) (word_of_slot state thread value) answer
  call_slabs thread (Load to slot offset) answer = word_slabs thread to answer
  call_slabs thread Reap answer = refl

-- how many slabs stand after entries
abbrev pub standing : Setting → List Entry → ℕ
standing setting entries = length (state_of setting entries).slabs

one_more : (setting : Setting) (entries : List Entry) (last : Entry) → state_of setting (entries ++ last ∷ []) ≡ after_entry setting (state_of setting entries) last
one_more setting entries last = fold-append (after_entry setting) start_state entries (last ∷ [])

-- a slab that stood stands no more
fewer : (slabs : List HeapSlab) (slab : HeapSlab) → Contains slabs slab → length (left_out_by (λ s. s.base) slabs slab.base) + 1 ≤ length slabs
fewer [] slab there = absurd (Contains-nil slab there)
fewer (first ∷ slabs) slab there = elim (eqb_tells first.base slab.base) [
  | inl same ↦
      omega (arith, ap length (left_out_by-drops (λ (s : HeapSlab). s.base) first slabs slab.base same.1), no_more slabs)
  | inr apart ↦ elim (Contains-cases first slab slabs there) [
    | inl is ↦ absurd (apart.1 (ap (λ (s : HeapSlab). s.base) is))
    | inr later ↦
        omega (arith, ap length (left_out_by-keeps (λ (s : HeapSlab). s.base) first slabs slab.base apart.1), fewer slabs slab later)
  ]
]
  where
    no_more : (rest : List HeapSlab) → length (left_out_by (λ s. s.base) rest slab.base) ≤ length rest
    no_more [] = omega arith
    no_more (next ∷ rest) = elim (eqb_tells next.base slab.base) [
      | inl same ↦ omega (arith, ap length (left_out_by-drops (λ (s : HeapSlab). s.base) next rest slab.base same.1), no_more rest)
      | inr apart ↦ omega (arith, ap length (left_out_by-keeps (λ (s : HeapSlab). s.base) next rest slab.base apart.1), no_more rest)
    ]

-- a call makes no slab and gives none back
pub call_stands : (setting : Setting) (entries : List Entry) (number thread : ℕ) (call : Call) (answer : Reply)
    → standing setting (entries ++ commit_entries number thread [] call answer) ≡ standing setting entries
call_stands setting entries number thread call answer =
    ap (λ (s : State). length s.slabs) (one_more setting entries (entry (number + 0) thread (body.Call call.op call.frames answer)))
    ∙ ap length (call_slabs setting (state_of setting entries) thread call.op answer)

-- a grow makes one
pub grown_stands : (setting : Setting) (entries : List Entry) (number thread : ℕ) (slab : SlabAt) (call : Call) (answer : Reply)
    → standing setting (entries ++ commit_entries number thread (grown slab ∷ []) call answer) ≡ standing setting entries + 1
grown_stands setting entries number thread slab call answer =
    let inner = entry number thread (grown slab) in
    let last = entry (number + 1) thread (body.Call call.op call.frames answer) in
    let both : entries ++ (inner ∷ last ∷ []) ≡ (entries ++ inner ∷ []) ++ last ∷ [] = sym (append_assoc entries (inner ∷ []) (last ∷ [])) in
    ap (standing setting) both
    ∙ ap (λ (s : State). length s.slabs) (one_more setting (entries ++ inner ∷ []) last)
    ∙ ap length (call_slabs setting (state_of setting (entries ++ inner ∷ [])) thread call.op answer)
    ∙ ap (λ (s : State). length s.slabs) (one_more setting entries inner)
    ∙ omega arith

-- the entry behind others is legal
legal_behind : (setting : Setting) (entries : List Entry) (next : Entry) (later : List Entry) → IsLegal setting (entries ++ next ∷ later) → slice_get (entries ++ next ∷ later) (length entries) ≡ Some next
legal_behind setting entries next later legal = at_seam entries
  where
    at_seam : (front : List Entry) → slice_get (front ++ next ∷ later) (length front) ≡ Some next
    at_seam [] = refl
    at_seam (x ∷ front) = at_seam front

-- each shrink gives one back
pub shrunk_stands : (setting : Setting) (slabs : List SlabAt) (entries : List Entry) (number thread : ℕ) (last : Entry)
    → IsLegal setting (entries ++ (inner_entries number thread (shrunk slabs) ++ last ∷ []))
    → standing setting (entries ++ inner_entries number thread (shrunk slabs)) + length slabs ≤ standing setting entries
shrunk_stands setting [] entries number thread last legal = omega (arith, ap (standing setting) (append-nil entries))
shrunk_stands setting (slab ∷ slabs) entries number thread last legal =
    let first = entry number thread (body.Shrink slab.cache slab.base) in
    let rest = inner_entries (number + 1) thread (shrunk slabs) in
    let state = state_of setting entries in
    let at = legal_behind setting entries first (rest ++ last ∷ []) legal in
    let told = (legal (length entries) first at).body in
    let before : take (length entries) (entries ++ first ∷ (rest ++ last ∷ [])) ≡ entries = take-append_seam entries (first ∷ (rest ++ last ∷ [])) in
    let next = next_of_thread thread (drop (length entries + 1) (entries ++ first ∷ (rest ++ last ∷ []))) in
    let stands : IsShrink setting state slab.cache slab.base next = subst (λ (front : List Entry). IsShrink setting (state_of setting front) slab.cache slab.base next) before told in
    let left_out : length (left_out_by (λ (s : HeapSlab). s.base) state.slabs slab.base) + 1 ≤ length state.slabs =
    subst (λ (base : ℕ). length (left_out_by (λ (s : HeapSlab). s.base) state.slabs base) + 1 ≤ length state.slabs) stands.its_base
    (fewer state.slabs stands.slab stands.stands) in
    let gone : standing setting (entries ++ first ∷ []) + 1 ≤ standing setting entries = omega (arith, ap (λ (s : State). length s.slabs) (one_more setting entries first), left_out) in
    let moved : (entries ++ first ∷ []) ++ (rest ++ last ∷ []) ≡ entries ++ first ∷ (rest ++ last ∷ []) = append_assoc entries (first ∷ []) (rest ++ last ∷ []) in
    let later = shrunk_stands setting slabs (entries ++ first ∷ []) (number + 1) thread last (subst (IsLegal setting) (sym moved) legal) in
    let joined : (entries ++ first ∷ []) ++ rest ≡ entries ++ first ∷ rest = append_assoc entries (first ∷ []) rest in
    omega (arith, later, gone, ap (standing setting) joined)

-- so do the shrinks of a commit
pub shrunk_after : (setting : Setting) (slabs : List SlabAt) (entries : List Entry) (number thread : ℕ) (call : Call) (answer : Reply)
    → IsLegal setting (entries ++ commit_entries number thread (shrunk slabs) call answer)
    → standing setting (entries ++ commit_entries number thread (shrunk slabs) call answer) + length slabs ≤ standing setting entries
shrunk_after setting slabs entries number thread call answer legal =
    let inner = inner_entries number thread (shrunk slabs) in
    let last = entry (number + length (shrunk slabs)) thread (body.Call call.op call.frames answer) in
    let moved : entries ++ (inner ++ last ∷ []) ≡ (entries ++ inner) ++ last ∷ [] = sym (append_assoc entries inner (last ∷ [])) in
    let same : standing setting (entries ++ (inner ++ last ∷ [])) ≡ standing setting (entries ++ inner) =
    ap (standing setting) moved ∙ ap (λ (s : State). length s.slabs) (one_more setting (entries ++ inner) last)
    ∙ ap length (call_slabs setting (state_of setting (entries ++ inner)) thread call.op answer) in
    omega (arith, same, shrunk_stands setting slabs entries number thread last legal)
