-- What a memory holds after writes, and which of its bytes are mapped.
use Rattle.std.proofs.Common.{◌≡◌, ◌≢◌, ℕ, ◌+◌, ◌-◌, ◌*◌, ◌^◌, ◌<◌, ◌≤◌, ◌⊎◌, inl, inr, Bool, true, false, cond, List, [], ◌∷◌, get_or, length, Option, Some, None, Ok, Err, refl, sym, ap, ◌∙◌, subst, arith}
use Rattle.std.specs.Prelude.{◌||◌, Contains, IsSome, MatchResult, OnErr, OnOk, Result, is_some, slice_index}
use Rattle.std.specs.Int as int
use Rattle.std.specs.Int.{from_le_bytes, to_le_bytes}
use Rattle.std.specs.List.{list_all, list_any, range_with_len}
use Rattle.std.proofs.lemmas.Bool.{and_from, and_left, and_right, cases_lt, false_from_ne_true, false≢true, le-leb, le-ltb, lt-leb, lt-ltb, ne_eqb}
use Rattle.std.proofs.lemmas.List.Elements.{All-contains}
use Rattle.std.proofs.lemmas.List.FromFn.{get_or-map-range_with_len, get_or-range_with_len, length-map-range_with_len, length-range_with_len}
use Rattle.std.proofs.lemmas.List.Sums.{AllPass-from_list_all, list_all-from_AllPass}
use Rattle.std.proofs.lemmas.Nat.{from_le_bytes-to_le_bytes_8}
use Rattle.umem_base.specs.declared.span.Span.{Span}
use Rattle.umem_base.specs.Span.{IsSpanWithin}
use Rattle.addr_space.specs.Space.{HasBytes, HasUnmapped, IsInRun, IsMappedRange, IsSound as IsSoundSpace, KeepsOthers, Space, Writes, byte_at, byte_of_word, runs_of}
use Rattle.span_arena.specs.Arena.{Arena}
use Rattle.plain_heap.specs.declared.reply.Reply.{Reply}
use Rattle.plain_heap.specs.declared.reply.Reply.TheVariants as reply
use Rattle.plain_heap.specs.Bytes.{Bytes, is_within, with_stored, with_word, with_zeros, word_at}
use Rattle.plain_heap.specs.Setting.{Setting, is_in_root}
use Rattle.plain_heap.specs.Replies.{load_answer, range_answer, store_answer}
use Rattle.plain_heap.specs.State.{State, after_link, after_store, is_in_span, is_mapped, is_mapped_range, spans_of}
use Rattle.heap_memory.specs.Memory.{IsMemory, IsMemoryOf, Memory}

-- ---- ranges

-- an address lies in a range, or beside it
pub where_of : (a at count : ℕ) → ((k : ℕ) × (k < count) × (at + k ≡ a)) ⊎ ((a < at) ⊎ (at + count ≤ a))
where_of a at count = elim (cases_lt a at) [
  | inl low ↦ inr (inl low)
  | inr from ↦ elim (cases_lt a (at + count)) [ inl to ↦ inl (a - at, omega arith, omega arith) | inr past ↦ inr (inr past) ]
]

pub within : (at count k : ℕ) → k < count → is_within at count (at + k) ≡ true
within at count k lt = and_from _ _ (le-leb at (at + k) (omega arith)) (lt-ltb (at + k) (at + count) (omega arith))

pub beside : (at count a : ℕ) → (a < at) ⊎ (at + count ≤ a) → is_within at count a ≡ false
beside at count a (inl low) = and_left _ _ (lt-leb at a low)
beside at count a (inr past) = and_right _ _ (le-ltb a (at + count) past)

back : (at k : ℕ) → (at + k) - at ≡ k
back at k = omega arith

-- ---- mapped bytes

pub mapped_of : (mapped : Bool) (b : ℕ) (x : Option ℕ) → x ≡ cond mapped (Some b) None → IsSome x → mapped ≡ true
mapped_of true b x e h = refl
mapped_of false b x e h = absurd (false≢true (sym (ap is_some e) ∙ h))

pub unmapped_of : (mapped : Bool) (b : ℕ) (x : Option ℕ) → x ≡ cond mapped (Some b) None → x ≡ None → mapped ≡ false
unmapped_of true b x e h = absurd (cc)
unmapped_of false b x e h = refl

pub none_of : (x : Option ℕ) → (IsSome x → ⊥) → x ≡ None
none_of None h = refl
none_of (Some b) h = absurd (h refl)

pub byte_of : (mapped : Bool) (b c : ℕ) (x : Option ℕ) → x ≡ cond mapped (Some b) None → x ≡ Some c → b ≡ c
byte_of true b c x e h = cc
byte_of false b c x e h = absurd (cc)

pub some_of : (x : Option ℕ) (c : ℕ) → x ≡ Some c → IsSome x
some_of x c e = ap is_some e

-- ---- writes

-- where bytes are written, each mapped address has the byte after
pub bytes_written : (old new : Space) (at count : ℕ) (byte : ℕ → ℕ) (mapped : ℕ → Bool) (before after : ℕ → ℕ)
    → ((a : ℕ) → byte_at old a ≡ cond (mapped a) (Some (before a)) None)
    → IsMappedRange old at count → HasBytes new at count byte → KeepsOthers old new at count
    → ((k : ℕ) → k < count → after (at + k) ≡ byte k) → ((a : ℕ) → (a < at) ⊎ (at + count ≤ a) → after a ≡ before a)
    → (a : ℕ) → byte_at new a ≡ cond (mapped a) (Some (after a)) None
bytes_written old new at count byte mapped before after was there stored others here apart a = elim (where_of a at count) [
  | inl in_it ↦
      let k = in_it.0 in
      let is : mapped (at + k) ≡ true = mapped_of (mapped (at + k)) (before (at + k)) (byte_at old (at + k)) (was (at + k)) (there k in_it.1) in
      let now : byte_at new (at + k) ≡ cond (mapped (at + k)) (Some (after (at + k))) None =
      stored k in_it.1 ∙ ap Some (sym (here k in_it.1)) ∙ sym (ap (λ (b : Bool). cond b (Some (after (at + k))) None) is) in
      subst (λ (x : ℕ). byte_at new x ≡ cond (mapped x) (Some (after x)) None) in_it.2 now
  | inr out ↦ others a out ∙ was a ∙ ap (λ (v : ℕ). cond (mapped a) (Some v) None) (sym (apart a out))
]

-- the memory of a state is that of another one with the same runs, once what differs was written
pub written : (setting : Setting) (state next : State) (old new : Memory) (at count : ℕ) (byte : ℕ → ℕ)
    → IsMemoryOf setting state old → spans_of setting next ≡ spans_of setting state → new.arena ≡ old.arena
    → IsMappedRange old.space at count → Writes old.space new.space at count byte
    → ((k : ℕ) → k < count → next.bytes (at + k) ≡ byte k)
    → ((a : ℕ) → (a < at) ⊎ (at + count ≤ a) → next.bytes a ≡ state.bytes a)
    → IsMemoryOf setting next new
written setting state next old new at count byte was same arena there writes here apart = record {
  bytes = λ a.
      bytes_written old.space new.space at count byte (is_mapped setting state) state.bytes next.bytes was.bytes there writes.stored writes.others here apart a
      ∙ ap (λ (ss : List Span). cond (is_in_root setting.header a || list_any (is_in_span a) ss) (Some (next.bytes a)) None) (sym same);
  runs = λ span h. subst (λ (rs : List Span). Contains rs span) (sym writes.runs) (was.runs span (subst (λ (ss : List Span). Contains ss span) same h));
  spans = λ span. (
    λ h. subst (λ (ss : List Span). Contains ss span) (sym same) ((was.spans span).0 (subst (λ (x : Arena). Contains x.spans span) arena h)),
    λ h. subst (λ (x : Arena). Contains x.spans span) (sym arena) ((was.spans span).1 (subst (λ (ss : List Span). Contains ss span) same h)),
  );
  base = ap (λ (x : Arena). x.base) arena ∙ was.base;
  pages = ap (λ (x : Arena). x.pages) arena ∙ was.pages;
}

-- a memory with the same runs is one
pub still_memory : (space new : Space) (arena : Arena) → IsMemory (record { space = space; arena = arena }) → IsSoundSpace new → runs_of new ≡ runs_of space
    → IsMemory (record { space = new; arena = arena })
still_memory space new arena was sound same = record {
  space = sound;
  arena = was.arena;
  spans = λ span h. subst (λ (rs : List Span). Contains rs span) (sym same) (was.spans span h);
  others = λ run h. was.others run (subst (λ (rs : List Span). Contains rs run) same h);
}

-- the same memory by its parts
pub unchanged : (setting : Setting) (state : State) (old new : Memory) → IsMemoryOf setting state old → new.space ≡ old.space → new.arena ≡ old.arena → IsMemoryOf setting state new
unchanged setting state old new was space arena =
    let same : new ≡ old = grind arith in subst (λ (m : Memory). IsMemoryOf setting state m) (sym same) was

-- ---- what the writes of states leave

pub stored_here : (bytes : Bytes) (at : ℕ) (stored : List ℕ) (k : ℕ) → k < length stored → with_stored bytes at stored (at + k) ≡ slice_index stored k
stored_here bytes at stored k lt =
    ap (λ (b : Bool). cond b (slice_index stored ((at + k) - at)) (bytes (at + k))) (within at (length stored) k lt) ∙ ap (slice_index stored) (back at k)

pub stored_beside : (bytes : Bytes) (at : ℕ) (stored : List ℕ) (a : ℕ) → (a < at) ⊎ (at + length stored ≤ a) → with_stored bytes at stored a ≡ bytes a
stored_beside bytes at stored a out = ap (λ (b : Bool). cond b (slice_index stored (a - at)) (bytes a)) (beside at (length stored) a out)

pub word_here : (bytes : Bytes) (at word k : ℕ) → k < 8 → with_word bytes at word (at + k) ≡ byte_of_word word k
word_here bytes at word k lt =
    ap (λ (b : Bool). cond b (slice_index (to_le_bytes int.w64 word) ((at + k) - at)) (bytes (at + k))) (within at 8 k lt)
    ∙ ap (slice_index (to_le_bytes int.w64 word)) (back at k)

pub word_beside : (bytes : Bytes) (at word a : ℕ) → (a < at) ⊎ (at + 8 ≤ a) → with_word bytes at word a ≡ bytes a
word_beside bytes at word a out = ap (λ (b : Bool). cond b (slice_index (to_le_bytes int.w64 word) (a - at)) (bytes a)) (beside at 8 a out)

pub zeros_here : (bytes : Bytes) (at count k : ℕ) → k < count → with_zeros bytes at count (at + k) ≡ 0
zeros_here bytes at count k lt = ap (λ (b : Bool). cond b 0 (bytes (at + k))) (within at count k lt)

pub zeros_beside : (bytes : Bytes) (at count a : ℕ) → (a < at) ⊎ (at + count ≤ a) → with_zeros bytes at count a ≡ bytes a
zeros_beside bytes at count a out = ap (λ (b : Bool). cond b 0 (bytes a)) (beside at count a out)

-- ---- words

-- a word is read from its bytes
pub word_read : (bytes : Bytes) (at word : ℕ) → word < 2 ^ 64 → ((k : ℕ) → k < 8 → bytes (at + k) ≡ byte_of_word word k) → word_at bytes at ≡ word
word_read bytes at word fits h =
    let zeroth : bytes at ≡ byte_of_word word 0 = ap bytes (omega arith) ∙ h 0 (omega arith) in
    let first = h 1 (omega arith) in
    let second = h 2 (omega arith) in
    let third = h 3 (omega arith) in
    let fourth = h 4 (omega arith) in
    let fifth = h 5 (omega arith) in
    let sixth = h 6 (omega arith) in
    let seventh = h 7 (omega arith) in
    rw (zeroth, first, second, third, fourth, fifth, sixth, seventh) (from_le_bytes-to_le_bytes_8 word fits)

-- ---- mapped ranges of states

pub range_mapped : (p : ℕ → Bool) (count : ℕ) → ((k : ℕ) → k < count → p k ≡ true) → list_all p (range_with_len 0 count) ≡ true
range_mapped p count h = list_all-from_AllPass p (range_with_len 0 count) (λ k d lt.
    let less : k < count = omega (arith, length-range_with_len 0 count) in
    ap p (get_or-range_with_len 0 count k d less) ∙ h (0 + k) (omega arith))

pub range_unmapped : (p : ℕ → Bool) (count k : ℕ) → k < count → p k ≡ false → list_all p (range_with_len 0 count) ≡ false
range_unmapped p count k lt fails = false_from_ne_true _ (λ all.
    let here = AllPass-from_list_all p (range_with_len 0 count) all k 0 (omega (arith, length-range_with_len 0 count)) in
    let e : get_or (range_with_len 0 count) k 0 ≡ k = get_or-range_with_len 0 count k 0 lt ∙ (omega arith) in
    false≢true (sym fails ∙ sym (ap p e) ∙ here))

module _ (setting : Setting) (state : State) (memory : Memory) (is : IsMemoryOf setting state memory) where
  pub mapped_at : (a : ℕ) → IsSome (byte_at memory.space a) → is_mapped setting state a ≡ true
  mapped_at a h = mapped_of (is_mapped setting state a) (state.bytes a) (byte_at memory.space a) (is.bytes a) h

  pub unmapped_at : (a : ℕ) → byte_at memory.space a ≡ None → is_mapped setting state a ≡ false
  unmapped_at a h = unmapped_of (is_mapped setting state a) (state.bytes a) (byte_at memory.space a) (is.bytes a) h

  pub byte_there : (a byte : ℕ) → byte_at memory.space a ≡ Some byte → state.bytes a ≡ byte
  byte_there a byte h = byte_of (is_mapped setting state a) (state.bytes a) byte (byte_at memory.space a) (is.bytes a) h

  pub bytes_there : (at count : ℕ) (byte : ℕ → ℕ) → HasBytes memory.space at count byte → (k : ℕ) → k < count → state.bytes (at + k) ≡ byte k
  bytes_there at count byte h k lt = byte_there (at + k) (byte k) (h k lt)

  -- a mapped address of the state has a byte
  pub has_byte : (a : ℕ) → is_mapped setting state a ≡ true → IsSome (byte_at memory.space a)
  has_byte a mapped = some_of (byte_at memory.space a) (state.bytes a) (is.bytes a ∙ ap (λ (b : Bool). cond b (Some (state.bytes a)) None) mapped)

  pub is_range : (at count : ℕ) → IsMappedRange memory.space at count → is_mapped_range setting state at count ≡ true
  is_range at count h = range_mapped (λ k. is_mapped setting state (at + k)) count (λ k lt. mapped_at (at + k) (h k lt))

  pub is_no_range : (at count : ℕ) → HasUnmapped memory.space at count → is_mapped_range setting state at count ≡ false
  is_no_range at count h = range_unmapped (λ k. is_mapped setting state (at + k)) count h.0 h.1 (unmapped_at (at + h.0) h.2)

-- each byte of a range that holds bytes is mapped
pub mapped_by_bytes : (space : Space) (at count : ℕ) (byte : ℕ → ℕ) → HasBytes space at count byte → IsMappedRange space at count
mapped_by_bytes space at count byte h k lt = some_of (byte_at space (at + k)) (byte k) (h k lt)

-- nothing is mapped past 32 bits
pub byte_past : (space : Space) (a : ℕ) → IsSoundSpace space → 2 ^ 32 ≤ a → byte_at space a ≡ None
byte_past space a sound past = none_of (byte_at space a) (λ some.
    let run = sound.held a some in
    let high = (All-contains (IsSpanWithin 0 (2 ^ 32)) (runs_of space) run.0 sound.runs run.1).high in
    omega (arith, run.3, high, past))

pub unmapped_past : (space : Space) (at count : ℕ) → IsSoundSpace space → 2 ^ 32 ≤ at → 0 < count → HasUnmapped space at count
unmapped_past space at count sound past some = (0, some, byte_past space (at + 0) sound (omega arith))

-- what was written was mapped before
pub mapped_before : (old new : Space) (at count : ℕ) (byte : ℕ → ℕ) → IsSoundSpace old → IsSoundSpace new → Writes old new at count byte → IsMappedRange old at count
mapped_before old new at count byte was is writes k lt =
    was.mapped (at + k) (subst (λ (rs : List Span). IsInRun rs (at + k) 1) writes.runs (is.held (at + k) (some_of (byte_at new (at + k)) (byte k) (writes.stored k lt))))

-- ---- stores

-- a store that may be refused leaves the runs
pub runs_kept : {X Y : Type 0} (r : Result X Y) (old new : Space) (at count : ℕ) (byte : ℕ → ℕ) → OnOk r (Writes old new at count byte) → OnErr r (new ≡ old) → runs_of new ≡ runs_of old
runs_kept (Ok x) old new at count byte stored err = stored.runs
runs_kept (Err y) old new at count byte stored err = ap runs_of err

range_done : (word : ℕ) (mapped : Bool) (done : Reply) → word ≢ 0 → mapped ≡ true → range_answer word mapped done ≡ done
range_done word mapped done some is = ap (λ (b : Bool). cond b reply.Null (cond mapped done reply.Fault)) (ne_eqb word 0 some) ∙ ap (λ (b : Bool). cond b done reply.Fault) is

range_fault : (word : ℕ) (mapped : Bool) (done : Reply) → word ≢ 0 → mapped ≡ false → range_answer word mapped done ≡ reply.Fault
range_fault word mapped done some is = ap (λ (b : Bool). cond b reply.Null (cond mapped done reply.Fault)) (ne_eqb word 0 some) ∙ ap (λ (b : Bool). cond b done reply.Fault) is

module _ (setting : Setting) (state : State) (memory : Memory) (is : IsMemoryOf setting state memory) (word offset : ℕ) (some : word ≢ 0) where
  pub store_fault : (at count : ℕ) → at ≡ word + offset → HasUnmapped memory.space at count → reply.Fault ≡ store_answer setting state word offset count
  store_fault at count e unmapped =
      sym (range_fault word _ reply.Ok some (subst (λ (a : ℕ). is_mapped_range setting state a count ≡ false) e (is_no_range setting state memory is at count unmapped)))

  pub store_ok : (at count : ℕ) → at ≡ word + offset → IsMappedRange memory.space at count → reply.Ok ≡ store_answer setting state word offset count
  store_ok at count e mapped =
      sym (range_done word _ reply.Ok some (subst (λ (a : ℕ). is_mapped_range setting state a count ≡ true) e (is_range setting state memory is at count mapped)))

  pub stored_answer : {X Y : Type 0} (r : Result X Y) (at count : ℕ) (answer : Reply) → at ≡ word + offset → OnOk r (IsMappedRange memory.space at count) → OnErr r (HasUnmapped memory.space at count)
      → MatchResult r (λ _. answer ≡ reply.Ok) (λ _. answer ≡ reply.Fault) → answer ≡ store_answer setting state word offset count
  stored_answer (Ok x) at count answer e mapped refused told = told ∙ store_ok at count e mapped
  stored_answer (Err y) at count answer e mapped refused told = told ∙ store_fault at count e refused

  pub load_fault : (at : ℕ) → at ≡ word + offset → HasUnmapped memory.space at 8 → reply.Fault ≡ load_answer setting state word offset
  load_fault at e unmapped =
      sym (range_fault word _ (reply.Word (word_at state.bytes (word + offset))) some (subst (λ (a : ℕ). is_mapped_range setting state a 8 ≡ false) e (is_no_range setting state memory is at 8 unmapped)))

  pub load_word_answer : (at loaded : ℕ) → at ≡ word + offset → loaded < 2 ^ 64 → HasBytes memory.space at 8 (byte_of_word loaded) → reply.Word loaded ≡ load_answer setting state word offset
  load_word_answer at loaded e fits has =
      let mapped = is_range setting state memory is at 8 (mapped_by_bytes memory.space at 8 (byte_of_word loaded) has) in
      let read = word_read state.bytes at loaded fits (bytes_there setting state memory is at 8 (byte_of_word loaded) has) in
      ap reply.Word (sym read ∙ ap (word_at state.bytes) e)
      ∙ sym (range_done word _ (reply.Word (word_at state.bytes (word + offset))) some (subst (λ (a : ℕ). is_mapped_range setting state a 8 ≡ true) e mapped))

  -- what a store of bytes leaves
  pub store_becomes : {X Y : Type 0} (r : Result X Y) (new : Memory) (at : ℕ) (stored : List ℕ) (answer : Reply) → at ≡ word + offset → OnOk r (IsMappedRange memory.space at (length stored))
      → OnOk r (Writes memory.space new.space at (length stored) (slice_index stored)) → OnErr r (new.space ≡ memory.space) → new.arena ≡ memory.arena
      → MatchResult r (λ _. answer ≡ reply.Ok) (λ _. answer ≡ reply.Fault) → IsMemoryOf setting (after_store state (word + offset) stored answer) new
  store_becomes (Ok x) new at stored answer e mapped writes same arena told =
      let done : IsMemoryOf setting (after_store state at stored reply.Ok) new =
      written setting state (after_store state at stored reply.Ok) memory new at (length stored) (slice_index stored) is refl arena mapped writes
      (stored_here state.bytes at stored) (stored_beside state.bytes at stored) in
      subst (λ (a : ℕ). IsMemoryOf setting (after_store state a stored answer) new) e (subst (λ (ans : Reply). IsMemoryOf setting (after_store state at stored ans) new) (sym told) done)
  store_becomes (Err y) new at stored answer e mapped writes same arena told =
      subst (λ (ans : Reply). IsMemoryOf setting (after_store state (word + offset) stored ans) new) (sym told) (unchanged setting state memory new is same arena)

  pub link_becomes : {X Y : Type 0} (r : Result X Y) (new : Memory) (at value : ℕ) (answer : Reply) → at ≡ word + offset → OnOk r (IsMappedRange memory.space at 8)
      → OnOk r (Writes memory.space new.space at 8 (byte_of_word value)) → OnErr r (new.space ≡ memory.space) → new.arena ≡ memory.arena
      → MatchResult r (λ _. answer ≡ reply.Ok) (λ _. answer ≡ reply.Fault) → IsMemoryOf setting (after_link state (word + offset) value answer) new
  link_becomes (Ok x) new at value answer e mapped writes same arena told =
      let done : IsMemoryOf setting (after_link state at value reply.Ok) new =
      written setting state (after_link state at value reply.Ok) memory new at 8 (byte_of_word value) is refl arena mapped writes
      (word_here state.bytes at value) (word_beside state.bytes at value) in
      subst (λ (a : ℕ). IsMemoryOf setting (after_link state a value answer) new) e (subst (λ (ans : Reply). IsMemoryOf setting (after_link state at value ans) new) (sym told) done)
  link_becomes (Err y) new at value answer e mapped writes same arena told =
      subst (λ (ans : Reply). IsMemoryOf setting (after_link state (word + offset) value ans) new) (sym told) (unchanged setting state memory new is same arena)
