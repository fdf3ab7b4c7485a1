-- What stands at each address of a run's memory is a byte.
use Rattle.std.proofs.Common.{◌≡◌, ℕ, zero, suc, ◌+◌, ◌-◌, ◌*◌, ◌%◌, ◌<◌, Bool, true, false, cond, ltb, List, [], ◌∷◌, ◌++◌, drop, get_or, map, replicate, set, take, Option, Some, None, refl, arith}
use Rattle.std.specs.Prelude.{bit_xor, fold, is_some}
use Rattle.std.specs.Int as int
use Rattle.std.specs.Int.{byte_at, bytes_low_first, to_le_bytes}
use Rattle.std.specs.List.{AllByRecursion, range_with_len, slice_get}
use Rattle.std.specs.Option.{option_map_or}
use Rattle.byteorder.specs.Endian.{little_bytes}
use Rattle.umem_base.specs.Pages.{pages_for}
use Rattle.umem_base.specs.Words.{repeated}
use Rattle.umem_base.specs.declared.pages.TheConstants.{PAGE_BYTES}
use Rattle.case_table.specs.CacheDef.{class_def}
use Rattle.case_table.specs.declared.cache_def.CacheDef.{CacheDef}
use Rattle.case_table.specs.declared.limits.TheConstants.{CLASS_COUNT}
use Rattle.buftag.specs.Codes.{code_of}
use Rattle.buftag.specs.Written.{allocated_chunk, bufctl_bytes, free_chunk, fresh_content, mark_of, redzone_bytes, with_guard}
use Rattle.buftag.specs.declared.patterns.TheConstants.{FREE_WORD, FRESH_WORD, GUARD_BYTE, REDZONE_HALF, REDZONE_WORD}
use Rattle.buftag.specs.declared.shape.Shape.{Shape}
use Rattle.buftag.specs.declared.state.State.{State as ChunkState}
use Rattle.buftag.specs.declared.state.State.TheVariants as chunk_state
use Rattle.core_rules.specs.CacheRules.{IsByteIfAny}
use Rattle.script.specs.Rules.{IsConstructor, IsDeclarable, IsHeader, IsTurn}
use Rattle.script.specs.declared.operation.Op.{Op}
use Rattle.script.specs.declared.operation.Op.TheVariants.{Alloc, Zalloc, Free, CacheAlloc, CacheFree, Copy, Clear, Store, Link, Load, Reap}
use Rattle.script.specs.declared.tree.Header.{Header}
use Rattle.plain_heap.specs.Bytes.{Bytes, is_within, with_stored, with_word, with_zeros}
use Rattle.plain_heap.specs.Calls.{IsNext}
use Rattle.plain_heap.specs.Laws.{KeepsLimits}
use Rattle.plain_heap.specs.Setting.{Setting, cache_def_in, def_of, shape_in, slot_address}
use Rattle.plain_heap.specs.State.{HeapSlab, State, after_alloc, after_body, after_call, after_entry, after_free, after_link, after_store, after_word, chunk_number, chunk_start, constructed, freed_chunk, handed_bytes, handed_chunk, index_at, made_byte, made_chunk, new_slab, request_from, request_of, slab_with_chunk, start_state, state_of, with_chunk_at, with_made, word_of_slot}
use Rattle.plain_heap.specs.declared.entry.Body.{Body}
use Rattle.plain_heap.specs.declared.entry.Body.TheVariants as body
use Rattle.plain_heap.specs.declared.entry.Entry.{Entry}
use Rattle.plain_heap.specs.declared.held.Held.{Held}
use Rattle.plain_heap.specs.declared.reply.Reply.{Reply}
use Rattle.plain_heap.specs.declared.reply.Reply.TheVariants as reply
use Rattle.heap_ledger.specs.Ledger.{IsLedger, Ledger, run_setting, run_state}
use Rattle.heap_ledger.proofs.PlanLemmas.{next_keeps}

-- ---- lists of bytes

-- what is read at any place of a list is a byte
abbrev ReadBytes : List ℕ → Type 0
ReadBytes xs = (k : ℕ) → get_or xs k 0 < 256

zero_small : 0 < 256
zero_small = omega arith

none_read : ReadBytes []
none_read k = omega arith

cons_read : (x : ℕ) (xs : List ℕ) → x < 256 → ReadBytes xs → ReadBytes (x ∷ xs)
cons_read x xs small read zero = small
cons_read x xs small read (suc k) = read k

both_read : (xs ys : List ℕ) → ReadBytes xs → ReadBytes ys → ReadBytes (xs ++ ys)
both_read [] ys p q k = q k
both_read (x ∷ xs) ys p q zero = p zero
both_read (x ∷ xs) ys p q (suc k) = both_read xs ys (λ j. p (suc j)) q k

dropped_read : (n : ℕ) (xs : List ℕ) → ReadBytes xs → ReadBytes (drop n xs)
dropped_read zero xs p k = p k
dropped_read (suc n) [] p k = p k
dropped_read (suc n) (x ∷ xs) p k = dropped_read n xs (λ j. p (suc j)) k

replicated_read : (n x : ℕ) → x < 256 → ReadBytes (replicate n x)
replicated_read zero x small k = omega arith
replicated_read (suc n) x small zero = small
replicated_read (suc n) x small (suc k) = replicated_read n x small k

set_read : (xs : List ℕ) (i v : ℕ) → v < 256 → ReadBytes xs → ReadBytes (set xs i v)
set_read [] i v small p k = p k
set_read (x ∷ xs) zero v small p zero = small
set_read (x ∷ xs) zero v small p (suc k) = p (suc k)
set_read (x ∷ xs) (suc i) v small p zero = p zero
set_read (x ∷ xs) (suc i) v small p (suc k) = set_read xs i v small (λ j. p (suc j)) k

mapped_read : (f : ℕ → ℕ) (xs : List ℕ) → ((x : ℕ) → f x < 256) → ReadBytes (map f xs)
mapped_read f [] p k = omega arith
mapped_read f (x ∷ xs) p zero = p x
mapped_read f (x ∷ xs) p (suc k) = mapped_read f xs p k

either_read : (b : Bool) (xs ys : List ℕ) → ReadBytes xs → ReadBytes ys → ReadBytes (cond b xs ys)
either_read true xs ys p q k = p k
either_read false xs ys p q k = q k

all_read : (xs : List ℕ) → AllByRecursion (λ byte. byte < 256) xs → ReadBytes xs
all_read [] p k = omega arith
all_read (x ∷ xs) p zero = p.0
all_read (x ∷ xs) p (suc k) = all_read xs p.1 k

-- ---- words

one_byte : (i x : ℕ) → byte_at i x < 256
one_byte zero x = omega arith
one_byte (suc i) x = omega arith

low_read : (i n x : ℕ) → ReadBytes (bytes_low_first i n x)
low_read i zero x k = omega arith
low_read i (suc n) x zero = one_byte i x
low_read i (suc n) x (suc k) = low_read (suc i) n x k

little_read : (n x : ℕ) → ReadBytes (little_bytes n x)
little_read n x = low_read 0 n x

word_read : (word : ℕ) → ReadBytes (to_le_bytes int.w64 word)
word_read word = low_read 0 8 word

repeated_read : (count word : ℕ) → ReadBytes (repeated count word)
repeated_read count word = mapped_read (λ k. get_or (to_le_bytes int.w64 word) (k % 8) 0) (range_with_len 0 count) (λ k. word_read word (k % 8))

-- ---- chunks

bufctl_read : (shape : Shape) (state : ChunkState) → ReadBytes (bufctl_bytes shape state)
bufctl_read shape state = both_read (little_bytes 8 shape.bufctl) (little_bytes 8 (bit_xor shape.bufctl (mark_of state))) (little_read 8 shape.bufctl) (little_read 8 (bit_xor shape.bufctl (mark_of state)))

free_read : (shape : Shape) → ReadBytes (free_chunk shape)
free_read shape =
    let bufctl = bufctl_bytes shape chunk_state.Free in
    both_read (repeated shape.content FREE_WORD) (little_bytes 8 REDZONE_WORD ++ bufctl) (repeated_read shape.content FREE_WORD)
    (both_read (little_bytes 8 REDZONE_WORD) bufctl (little_read 8 REDZONE_WORD) (bufctl_read shape chunk_state.Free))

fresh_read : (content requested : ℕ) (zeroed : Bool) → ReadBytes (fresh_content content requested zeroed)
fresh_read content requested zeroed =
    let pattern = repeated content FRESH_WORD in
    let front : List ℕ = replicate requested 0 in
    either_read zeroed (front ++ drop requested pattern) pattern (both_read front (drop requested pattern) (replicated_read requested 0 zero_small) (dropped_read requested pattern (repeated_read content FRESH_WORD))) (repeated_read content FRESH_WORD)

redzone_read : (class : Option ℕ) (requested : ℕ) → ReadBytes (redzone_bytes class requested)
redzone_read None requested k = little_read 8 REDZONE_WORD k
redzone_read (Some class) requested k = both_read (little_bytes 4 REDZONE_HALF) (little_bytes 4 (code_of requested)) (little_read 4 REDZONE_HALF) (little_read 4 (code_of requested)) k

guard_read : (class : Option ℕ) (requested : ℕ) (xs : List ℕ) → ReadBytes xs → ReadBytes (with_guard class requested xs)
guard_read None requested xs p k = p k
guard_read (Some class) requested xs p k = set_read xs requested GUARD_BYTE (omega arith) p k

allocated_read : (shape : Shape) (requested : ℕ) (zeroed : Bool) → ReadBytes (allocated_chunk shape requested zeroed)
allocated_read shape requested zeroed =
    let content = fresh_content shape.content requested zeroed in
    let redzone = redzone_bytes shape.class requested in
    let bufctl = bufctl_bytes shape chunk_state.Allocated in
    guard_read shape.class requested (content ++ (redzone ++ bufctl)) (both_read content (redzone ++ bufctl) (fresh_read shape.content requested zeroed)
    (both_read redzone bufctl (redzone_read shape.class requested) (bufctl_read shape chunk_state.Allocated)))

-- ---- constructors

-- a constructor of a script is a byte
ctor_byte : (version : ℕ) (ctor : Option ℕ) → IsConstructor version ctor → IsByteIfAny ctor
ctor_byte version None is = tt
ctor_byte version (Some byte) is = is.1

declared_ctor : (version : ℕ) (defs : List CacheDef) (i : ℕ) (d : CacheDef) → AllByRecursion (IsDeclarable version) defs → IsByteIfAny d.ctor → IsByteIfAny (get_or defs i d).ctor
declared_ctor version [] i d are else = else
declared_ctor version (def ∷ defs) zero d are else = ctor_byte version def.ctor are.0.ctor
declared_ctor version (def ∷ defs) (suc i) d are else = declared_ctor version defs i d are.1 else

-- so is that of any cache
pub ctor_of_cache : (header : Header) (cache : ℕ) → IsHeader header → IsByteIfAny (def_of header.caches cache).ctor
ctor_of_cache header cache is = by_test (ltb cache CLASS_COUNT)
  where
    by_test : (b : Bool) → IsByteIfAny (cond b (class_def cache) (get_or header.caches (cache - CLASS_COUNT) (class_def 0))).ctor
    by_test true = tt
    by_test false = declared_ctor header.version header.caches (cache - CLASS_COUNT) (class_def 0) is.caches tt

constructed_read : (ctor : Option ℕ) (size : ℕ) (xs : List ℕ) → IsByteIfAny ctor → ReadBytes xs → ReadBytes (constructed ctor size xs)
constructed_read None size xs is p k = p k
constructed_read (Some byte) size xs is p k = both_read (replicate size byte) (drop size xs) (replicated_read size byte is) (dropped_read size xs p) k

-- ---- what chunks get

module _ (setting : Setting) (header : IsHeader setting.header) where
  made_read : (cache number : ℕ) → ReadBytes (made_chunk setting cache number)
  made_read cache number =
      let def = cache_def_in setting cache in
      either_read setting.guards (free_chunk (shape_in setting cache number)) (constructed def.ctor def.size []) (free_read (shape_in setting cache number)) (constructed_read def.ctor def.size [] (ctor_of_cache setting.header cache header) none_read)

  handed_read : (cache number size : ℕ) (zeroed : Bool) → ReadBytes (handed_chunk setting cache number size zeroed)
  handed_read cache number size zeroed =
      let def = cache_def_in setting cache in
      let chunk = allocated_chunk (shape_in setting cache number) size zeroed in
      let zeros : List ℕ = cond zeroed (replicate size 0) [] in
      either_read setting.guards (constructed def.ctor def.size chunk) zeros (constructed_read def.ctor def.size chunk (ctor_of_cache setting.header cache header) (allocated_read (shape_in setting cache number) size zeroed))
      (either_read zeroed (replicate size 0) [] (replicated_read size 0 zero_small) none_read)

  freed_read : (cache number : ℕ) → ReadBytes (freed_chunk setting cache number)
  freed_read cache number = either_read setting.guards (free_chunk (shape_in setting cache number)) [] (free_read (shape_in setting cache number)) none_read

-- ---- memory

-- each address has a byte
abbrev pub AreBytes : Bytes → Type 0
AreBytes bytes = (address : ℕ) → bytes address < 256

either_byte : (b : Bool) (x y : ℕ) → x < 256 → y < 256 → cond b x y < 256
either_byte true x y p q = p
either_byte false x y p q = q

with_word_bytes : (bytes : Bytes) (at word : ℕ) → AreBytes bytes → AreBytes (with_word bytes at word)
with_word_bytes bytes at word are address = either_byte (is_within at 8 address) _ _ (word_read word (address - at)) (are address)

with_zeros_bytes : (bytes : Bytes) (at count : ℕ) → AreBytes bytes → AreBytes (with_zeros bytes at count)
with_zeros_bytes bytes at count are address = either_byte (is_within at count address) 0 _ (omega arith) (are address)

with_stored_bytes : (bytes : Bytes) (at : ℕ) (stored : List ℕ) → ReadBytes stored → AreBytes bytes → AreBytes (with_stored bytes at stored)
with_stored_bytes bytes at stored read are address = either_byte (is_within at _ address) _ _ (read (address - at)) (are address)

module _ (setting : Setting) (header : IsHeader setting.header) where
  made_is_byte : (slab : HeapSlab) (address : ℕ) → made_byte setting slab address < 256
  made_is_byte slab address = by_index (index_at setting slab address)
    where
      by_index : (o : Option ℕ) → option_map_or (λ index. get_or (made_chunk setting slab.cache (slab.first + index)) (address - chunk_start setting slab index) 0) o 0 < 256
      by_index None = omega arith
      by_index (Some index) = made_read setting header slab.cache (slab.first + index) (address - chunk_start setting slab index)

  with_made_bytes : (bytes : Bytes) (slab : HeapSlab) → AreBytes bytes → AreBytes (with_made setting bytes slab)
  with_made_bytes bytes slab are address = either_byte (is_within slab.base _ address) _ _ (made_is_byte slab address) (are address)

  with_chunk_bytes : (state : State) (at : ℕ) (written : ℕ → ℕ → List ℕ) → ((cache number : ℕ) → ReadBytes (written cache number)) → AreBytes state.bytes → AreBytes (with_chunk_at setting state at written)
  with_chunk_bytes state at written read are = by_slab (slab_with_chunk setting state.slabs at)
    where
      by_slab : (o : Option HeapSlab) → AreBytes (option_map_or (λ slab. with_stored state.bytes at (written slab.cache (chunk_number setting slab at))) o state.bytes)
      by_slab None address = are address
      by_slab (Some slab) address = with_stored_bytes state.bytes at (written slab.cache (chunk_number setting slab at)) (read slab.cache (chunk_number setting slab at)) are address

  -- ---- what entries leave

  module _ (state : State) (are : AreBytes state.bytes) where
    slot_bytes : (thread slot word : ℕ) (bytes : Bytes) → AreBytes bytes → AreBytes (with_word bytes (slot_address thread slot) word)
    slot_bytes thread slot word bytes p = with_word_bytes bytes (slot_address thread slot) word p

    handed_are : (at : ℕ) (held : Held) (zeroed : Bool) → AreBytes (handed_bytes setting state at held zeroed)
    handed_are at held zeroed = by_cache (is_some held.cache)
      where
        by_cache : (b : Bool) → AreBytes (cond b (with_chunk_at setting state at (λ cache number. handed_chunk setting cache number held.size zeroed)) (with_zeros state.bytes at (PAGE_BYTES * pages_for held.size)))
        by_cache true address = with_chunk_bytes state at (λ cache number. handed_chunk setting cache number held.size zeroed) (λ cache number. handed_read setting header cache number held.size zeroed) are address
        by_cache false address = with_zeros_bytes state.bytes at (PAGE_BYTES * pages_for held.size) are address

    alloc_bytes : (thread slot : ℕ) (held : Held) (zeroed : Bool) (answer : Reply) → AreBytes (after_alloc setting state thread slot held zeroed answer).bytes
    alloc_bytes thread slot held zeroed (reply.At at report) address = slot_bytes thread slot at (handed_bytes setting state at held zeroed) (handed_are at held zeroed) address
    alloc_bytes thread slot held zeroed reply.Null address = slot_bytes thread slot 0 state.bytes are address
    alloc_bytes thread slot held zeroed reply.NoSpace address = slot_bytes thread slot 0 state.bytes are address
    alloc_bytes thread slot held zeroed other address = are address

    free_bytes : (thread slot : ℕ) (answer : Reply) → AreBytes (after_free setting state thread slot answer).bytes
    free_bytes thread slot reply.Ok address =
        let freed = with_chunk_bytes state (word_of_slot state thread slot) (freed_chunk setting) (freed_read setting header) are in
        slot_bytes thread slot 0 (with_chunk_at setting state (word_of_slot state thread slot) (freed_chunk setting)) freed address
    free_bytes thread slot other address = are address

    store_bytes : (at : ℕ) (stored : List ℕ) (answer : Reply) → ReadBytes stored → AreBytes (after_store state at stored answer).bytes
    store_bytes at stored reply.Ok read address = with_stored_bytes state.bytes at stored read are address
    store_bytes at stored other read address = are address

    link_bytes : (at word : ℕ) (answer : Reply) → AreBytes (after_link state at word answer).bytes
    link_bytes at word reply.Ok address = with_word_bytes state.bytes at word are address
    link_bytes at word other address = are address

    load_bytes : (thread slot : ℕ) (answer : Reply) → AreBytes (after_word state thread slot answer).bytes
    load_bytes thread slot (reply.Word word) address = slot_bytes thread slot word state.bytes are address
    load_bytes thread slot other address = are address

    call_bytes : (thread : ℕ) (op : Op) (frames : List ℕ) (answer : Reply) → KeepsLimits setting.header thread (body.Call op frames answer) → AreBytes (after_call setting state thread op answer).bytes
    call_bytes thread (Alloc slot size) frames answer keeps address = alloc_bytes thread slot (request_of size) false answer address
    call_bytes thread (Zalloc slot size) frames answer keeps address = alloc_bytes thread slot (request_of size) true answer address
    call_bytes thread (CacheAlloc slot cache) frames answer keeps address = alloc_bytes thread slot (request_from setting cache) false answer address
    call_bytes thread (Free slot size) frames answer keeps address = free_bytes thread slot answer address
    call_bytes thread (CacheFree slot cache) frames answer keeps address = free_bytes thread slot answer address
    call_bytes thread (Copy to from) frames answer keeps address = slot_bytes thread to (word_of_slot state thread from) state.bytes are address
    call_bytes thread (Clear slot) frames answer keeps address = slot_bytes thread slot 0 state.bytes are address
    call_bytes thread (Store slot offset stored) frames answer keeps address = store_bytes (word_of_slot state thread slot + offset) stored answer (all_read stored keeps.1.2.2) address
    call_bytes thread (Link slot offset value) frames answer keeps address = link_bytes (word_of_slot state thread slot + offset) (word_of_slot state thread value) answer address
    call_bytes thread (Load to slot offset) frames answer keeps address = load_bytes thread to answer address
    call_bytes thread Reap frames answer keeps address = are address

    body_bytes : (thread : ℕ) (content : Body) → KeepsLimits setting.header thread content → AreBytes (after_body setting state thread content).bytes
    body_bytes thread (body.Call op frames answer) keeps address = call_bytes thread op frames answer keeps address
    body_bytes thread (body.Grow cache base) keeps address = with_made_bytes state.bytes (new_slab setting state cache base) are address
    body_bytes thread (body.Shrink cache base) keeps address = are address

  -- each entry of a call that keeps its limits leaves bytes
  pub entries_leave_bytes : (entries : List Entry) (state : State) → AreBytes state.bytes → ((n : ℕ) (entry : Entry) → slice_get entries n ≡ Some entry → KeepsLimits setting.header entry.thread entry.body)
      → AreBytes (fold (after_entry setting) state entries).bytes
  entries_leave_bytes [] state are keeps address = are address
  entries_leave_bytes (entry ∷ entries) state are keeps address =
      entries_leave_bytes entries (after_entry setting state entry) (body_bytes state are entry.thread entry.body (keeps 0 entry refl)) (λ n later at. keeps (suc n) later at) address

-- ---- runs

-- the call of an entry, if it is one, keeps the limits of a turn
abbrev pub IsTurnBody : Header → ℕ → Body → Type 0
IsTurnBody header thread (body.Call op frames answer) = IsTurn header (record { thread = thread; call = record { op = op; frames = frames } })
IsTurnBody header thread (body.Grow cache base) = Unit {0}
IsTurnBody header thread (body.Shrink cache base) = Unit {0}

-- so does each entry of a run
pub turn_bodies : (ledger : Ledger) → IsLedger ledger → (n : ℕ) (entry : Entry) → slice_get ledger.entries n ≡ Some entry → IsTurnBody ledger.plan.header entry.thread entry.body
turn_bodies ledger is n entry at = by_body entry.body (is.follows n entry at)
  where
    before : List Entry
    before = take n ledger.entries

    by_body : (content : Body) → IsNext ledger.plan before entry.thread content → IsTurnBody ledger.plan.header entry.thread content
    by_body (body.Call op frames answer) next = next_keeps ledger.plan before entry.thread (record { op = op; frames = frames }) is.plan next
    by_body (body.Grow cache base) next = tt
    by_body (body.Shrink cache base) next = tt

limits_of_turn : (header : Header) (thread : ℕ) (content : Body) → IsTurnBody header thread content → KeepsLimits header thread content
limits_of_turn header thread (body.Call op frames answer) turn = (turn.thread, turn.op)
limits_of_turn header thread (body.Grow cache base) turn = tt
limits_of_turn header thread (body.Shrink cache base) turn = tt

-- after some first entries of a run each address has a byte
pub are_bytes_before : (ledger : Ledger) → IsLedger ledger → (n : ℕ) → AreBytes (state_of (run_setting ledger) (take n ledger.entries)).bytes
are_bytes_before ledger is n =
    entries_leave_bytes (run_setting ledger) is.plan.header (take n ledger.entries) start_state (λ address. omega arith) (λ k entry at.
    limits_of_turn ledger.plan.header entry.thread entry.body (turn_bodies ledger is k entry (of_front ledger.entries n k entry at)))
  where
    of_front : (entries : List Entry) (n k : ℕ) (entry : Entry) → slice_get (take n entries) k ≡ Some entry → slice_get entries k ≡ Some entry
    of_front entries zero k entry at = absurd (cc at)
    of_front [] (suc n) k entry at = absurd (cc at)
    of_front (first ∷ entries) (suc n) zero entry at = at
    of_front (first ∷ entries) (suc n) (suc k) entry at = of_front entries n k entry at

-- and so after all
pub are_bytes : (ledger : Ledger) → IsLedger ledger → AreBytes (run_state ledger).bytes
are_bytes ledger is =
    entries_leave_bytes (run_setting ledger) is.plan.header ledger.entries start_state (λ address. omega arith) (λ n entry at.
    limits_of_turn ledger.plan.header entry.thread entry.body (turn_bodies ledger is n entry at))
