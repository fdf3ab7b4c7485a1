-- How many slabs were made, what one entry more leaves, and what is written into chunks.
use Rattle.std.proofs.Common.{◌≡◌, ℕ, ◌+◌, ◌*◌, ◌<◌, ◌≤◌, Bool, true, false, not, cond, List, [], ◌∷◌, ◌++◌, length, take, get_or, Option, Some, None, refl, sym, ap, ◌∙◌, arith}
use Rattle.std.specs.Prelude.{is_some}
use Rattle.std.specs.Option.{option_map_or}
use Rattle.std.proofs.lemmas.List.{take_more}
use Rattle.umem_base.specs.declared.pages.TheConstants.{PAGE_BYTES}
use Rattle.umem_base.specs.Ordered.{left_out_by}
use Rattle.umem_base.specs.Pages.{pages_for}
use Rattle.script.specs.declared.operation.Op.{Op}
use Rattle.script.specs.declared.operation.Op.TheVariants.{Alloc, Zalloc, Free, CacheAlloc, CacheFree, Copy, Clear, Store, Link, Load, Reap}
use Rattle.plain_heap.specs.declared.entry.Body.{Body}
use Rattle.plain_heap.specs.declared.entry.Body.TheVariants.{Call, Grow, Shrink}
use Rattle.plain_heap.specs.declared.entry.Entry.{Entry}
use Rattle.plain_heap.specs.declared.held.Held.{Held}
use Rattle.plain_heap.specs.declared.reply.Reply.{Reply}
use Rattle.plain_heap.specs.declared.reply.Reply.TheVariants as reply
use Rattle.plain_heap.specs.Bytes.{with_stored, with_zeros}
use Rattle.plain_heap.specs.Setting.{Setting}
use Rattle.plain_heap.specs.State.{HeapSlab, LiveBuffer, State, after_alloc, after_body, after_call, after_entry, after_free, after_link, after_store, after_word, chunk_number, freed_chunk, give_back, handed_bytes, handed_chunk, request_from, request_of, slab_with_chunk, state_of, with_bytes_of, with_chunk_at}
use Rattle.plain_heap.proofs.EntryLemmas.{one_more}
use Rattle.yardstick.specs.declared.kept.Kept.{Kept}
use Rattle.yardstick.specs.declared.write.Write.{Write}
use Rattle.yardstick.specs.declared.write.Write.TheVariants.{Stored}
use Rattle.yardstick.specs.Kept.{bytes_written, state_kept}

-- ---- calls make no slab

alloc_grows_none : (setting : Setting) (state : State) (thread slot : ℕ) (held : Held) (zeroed : Bool) (answer : Reply)
    → (after_alloc setting state thread slot held zeroed answer).grown ≡ state.grown
alloc_grows_none setting state thread slot held zeroed (reply.At address report) = refl
alloc_grows_none setting state thread slot held zeroed reply.Ok = refl
alloc_grows_none setting state thread slot held zeroed reply.Null = refl
alloc_grows_none setting state thread slot held zeroed reply.NoSpace = refl
alloc_grows_none setting state thread slot held zeroed reply.Dup = refl
alloc_grows_none setting state thread slot held zeroed reply.BadAddr = refl
alloc_grows_none setting state thread slot held zeroed reply.BadCache = refl
alloc_grows_none setting state thread slot held zeroed reply.BadSize = refl
alloc_grows_none setting state thread slot held zeroed reply.Redzone = refl
alloc_grows_none setting state thread slot held zeroed reply.Fault = refl
alloc_grows_none setting state thread slot held zeroed (reply.Word word) = refl

free_grows_none : (setting : Setting) (state : State) (thread slot : ℕ) (answer : Reply) → (after_free setting state thread slot answer).grown ≡ state.grown
free_grows_none setting state thread slot (reply.At address report) = refl
free_grows_none setting state thread slot reply.Ok = refl
free_grows_none setting state thread slot reply.Null = refl
free_grows_none setting state thread slot reply.NoSpace = refl
free_grows_none setting state thread slot reply.Dup = refl
free_grows_none setting state thread slot reply.BadAddr = refl
free_grows_none setting state thread slot reply.BadCache = refl
free_grows_none setting state thread slot reply.BadSize = refl
free_grows_none setting state thread slot reply.Redzone = refl
free_grows_none setting state thread slot reply.Fault = refl
free_grows_none setting state thread slot (reply.Word word) = refl

store_grows_none : (state : State) (from : ℕ) (stored : List ℕ) (answer : Reply) → (after_store state from stored answer).grown ≡ state.grown
store_grows_none state from stored (reply.At address report) = refl
store_grows_none state from stored reply.Ok = refl
store_grows_none state from stored reply.Null = refl
store_grows_none state from stored reply.NoSpace = refl
store_grows_none state from stored reply.Dup = refl
store_grows_none state from stored reply.BadAddr = refl
store_grows_none state from stored reply.BadCache = refl
store_grows_none state from stored reply.BadSize = refl
store_grows_none state from stored reply.Redzone = refl
store_grows_none state from stored reply.Fault = refl
store_grows_none state from stored (reply.Word word) = refl

link_grows_none : (state : State) (from word : ℕ) (answer : Reply) → (after_link state from word answer).grown ≡ state.grown
link_grows_none state from word (reply.At address report) = refl
link_grows_none state from word reply.Ok = refl
link_grows_none state from word reply.Null = refl
link_grows_none state from word reply.NoSpace = refl
link_grows_none state from word reply.Dup = refl
link_grows_none state from word reply.BadAddr = refl
link_grows_none state from word reply.BadCache = refl
link_grows_none state from word reply.BadSize = refl
link_grows_none state from word reply.Redzone = refl
link_grows_none state from word reply.Fault = refl
link_grows_none state from word (reply.Word value) = refl

word_grows_none : (state : State) (thread slot : ℕ) (answer : Reply) → (after_word state thread slot answer).grown ≡ state.grown
word_grows_none state thread slot (reply.At address report) = refl
word_grows_none state thread slot reply.Ok = refl
word_grows_none state thread slot reply.Null = refl
word_grows_none state thread slot reply.NoSpace = refl
word_grows_none state thread slot reply.Dup = refl
word_grows_none state thread slot reply.BadAddr = refl
word_grows_none state thread slot reply.BadCache = refl
word_grows_none state thread slot reply.BadSize = refl
word_grows_none state thread slot reply.Redzone = refl
word_grows_none state thread slot reply.Fault = refl
word_grows_none state thread slot (reply.Word value) = refl

call_grows_none : (setting : Setting) (state : State) (thread : ℕ) (op : Op) (answer : Reply) → (after_call setting state thread op answer).grown ≡ state.grown
call_grows_none setting state thread (Alloc slot size) answer = alloc_grows_none setting state thread slot (request_of size) false answer
call_grows_none setting state thread (Zalloc slot size) answer = alloc_grows_none setting state thread slot (request_of size) true answer
call_grows_none setting state thread (CacheAlloc slot cache) answer = alloc_grows_none setting state thread slot (request_from setting cache) false answer
call_grows_none setting state thread (Free slot size) answer = free_grows_none setting state thread slot answer
call_grows_none setting state thread (CacheFree slot cache) answer = free_grows_none setting state thread slot answer
call_grows_none setting state thread (Copy to from) answer = refl
call_grows_none setting state thread (Clear slot) answer = refl
call_grows_none setting state thread (Store slot offset stored) answer = store_grows_none state _ stored answer
call_grows_none setting state thread (Link slot offset value) answer = link_grows_none state _ _ answer
call_grows_none setting state thread (Load to slot offset) answer = word_grows_none state thread to answer
call_grows_none setting state thread Reap answer = refl

body_grows_one : (setting : Setting) (state : State) (thread : ℕ) (body : Body) → length (after_body setting state thread body).grown ≤ length state.grown + 1
body_grows_one setting state thread (Call op frames answer) = omega (arith, ap (λ (xs : List ℕ). length xs) (call_grows_none setting state thread op answer))
body_grows_one setting state thread (Grow cache base) = omega arith
body_grows_one setting state thread (Shrink cache base) = omega arith

-- an entry makes one slab at most
pub grows_one : (setting : Setting) (state : State) (entry : Entry) → length (after_entry setting state entry).grown ≤ length state.grown + 1
grows_one setting state entry = body_grows_one setting state entry.thread entry.body

-- ---- one entry more

-- the number of slabs after an entry
pub grown_more : (setting : Setting) (old new : State) (entry : Entry) (n : ℕ) → length old.grown ≤ n → new ≡ after_entry setting old entry
    → length new.grown ≤ n + 1
grown_more setting old new entry n few is =
    omega (arith, ap (λ (state : State). length state.grown) is, grows_one setting old entry)

-- the state after one entry more
pub state_more : (setting : Setting) (entries : List Entry) (n : ℕ) (entry : Entry) (old new : State) → n < length entries → entry ≡ get_or entries n entry
    → old ≡ state_of setting (take n entries) → new ≡ after_entry setting old entry → new ≡ state_of setting (take (n + 1) entries)
state_more setting entries n entry old new lt is before after =
    let more : take (n + 1) entries ≡ take n entries ++ entry ∷ [] =
    take_more entries n entry lt ∙ ap (λ (e : Entry). take n entries ++ e ∷ []) (sym is) in
    after ∙ ap (λ (state : State). after_entry setting state entry) before ∙ sym (one_more setting (take n entries) entry)
    ∙ ap (λ (es : List Entry). state_of setting es) (sym more)

-- ---- what is written into chunks

-- what a chunk gets is written at its address
pub stored_chunk : (setting : Setting) (kept : Kept) (slabs : List HeapSlab) (new : List Write) (address at number cache : ℕ) (slab : HeapSlab) (bytes : List ℕ)
    (written : ℕ → ℕ → List ℕ) → at ≡ address → slabs ≡ kept.slabs.items → Some slab ≡ slab_with_chunk setting slabs at → number ≡ chunk_number setting slab at
    → cache ≡ slab.cache → bytes ≡ written cache number → new ≡ Stored at bytes ∷ kept.writes.items
    → with_bytes_of (state_kept setting kept) (bytes_written setting new)
    ≡ with_bytes_of (state_kept setting kept) (with_chunk_at setting (state_kept setting kept) address written)
stored_chunk setting kept slabs new address at number cache slab bytes written is same stands its of spelled after =
    let state = state_kept setting kept in
    let there : slab_with_chunk setting kept.slabs.items at ≡ Some slab = ap (λ s. slab_with_chunk setting s at) (sym same) ∙ sym stands in
    let text : bytes ≡ written slab.cache (chunk_number setting slab at) = spelled ∙ ap (λ c. written c number) of ∙ ap (λ n. written slab.cache n) its in
    ap (λ (writes : List Write). with_bytes_of state (bytes_written setting writes)) after
    ∙ ap (λ (stored : List ℕ). with_bytes_of state (with_stored state.bytes at stored)) text
    ∙ ap (λ (o : Option HeapSlab). with_bytes_of state (option_map_or (λ (s : HeapSlab). with_stored state.bytes at (written s.cache (chunk_number setting s at))) o state.bytes)) (sym there)
    ∙ ap (λ a. with_bytes_of state (with_chunk_at setting state a written)) is

-- a buffer of a cache gets what its chunk gets
pub handed_to_cache : (setting : Setting) (state : State) (address : ℕ) (held : Held) (zeroed none : Bool) → is_some held.cache ≡ not none → none ≡ false
    → with_bytes_of state (with_chunk_at setting state address (λ cache number. handed_chunk setting cache number held.size zeroed))
    ≡ with_bytes_of state (handed_bytes setting state address held zeroed)
handed_to_cache setting state address held zeroed none tested is =
    ap (λ b. with_bytes_of state (cond b (with_chunk_at setting state address (λ cache number. handed_chunk setting cache number held.size zeroed))
    (with_zeros state.bytes address (PAGE_BYTES * pages_for held.size)))) (sym (tested ∙ ap not is))

-- ---- what is left out

-- the state with other live buffers
abbrev pub with_live_of : State → List LiveBuffer → State
with_live_of state live = record { live = live; given = state.given; slabs = state.slabs; grown = state.grown; bytes = state.bytes }

-- the state with other slabs
abbrev pub with_slabs_of : State → List HeapSlab → State
with_slabs_of state slabs = record { live = state.live; given = state.given; slabs = slabs; grown = state.grown; bytes = state.bytes }

-- a buffer is left out once its bytes are written
pub left_out_after : (setting : Setting) (old written : State) (live : List LiveBuffer) (address : ℕ)
    → written ≡ with_bytes_of old (with_chunk_at setting old address (freed_chunk setting)) → live ≡ left_out_by (λ b. b.address) written.live address
    → with_live_of written live ≡ give_back setting old address
left_out_after setting old written live address is left =
    ap (with_live_of written) left ∙ ap (λ (s : State). with_live_of s (left_out_by (λ (b : LiveBuffer). b.address) s.live address)) is
