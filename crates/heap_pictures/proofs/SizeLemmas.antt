-- A live large buffer is larger than any that a cache has: no class serves its size.
use Rattle.std.proofs.Common.{◌≡◌, ℕ, zero, suc, ◌+◌, ◌<◌, ◌≤◌, Bool, true, false, List, [], ◌∷◌, length, get_or, take, take-suc, take_all, drop, Option, Some, None, refl, sym, ap, subst, ◌∙◌, arith, inl, inr}
use Rattle.std.specs.Prelude.{All, is_none}
use Rattle.std.proofs.lemmas.Bool.{false≢true}
use Rattle.std.proofs.lemmas.List.Elements.{All-cons}
use Rattle.std.proofs.lemmas.List.Sums.{fold-append}
use Rattle.std.proofs.lemmas.Option.{slice_get_cases}
use Rattle.umem_base.proofs.OrderedLemmas.{All-left_out_by}
use Rattle.case_table.specs.Sizes.{class_for}
use Rattle.case_table.specs.declared.limits.TheConstants.{MOST_CACHE_BYTES}
use Rattle.case_table.proofs.SizesLemmas.{class_for-value, large_from_none}
use Rattle.script.specs.declared.operation.Op.{Op}
use Rattle.script.specs.declared.operation.Op.TheVariants.{Alloc, Zalloc, Free, CacheAlloc, CacheFree, Copy, Clear, Store, Link, Load, Reap}
use Rattle.plain_heap.specs.declared.entry.Body.{Body}
use Rattle.plain_heap.specs.declared.entry.Body.TheVariants.{Call, Grow, Shrink}
use Rattle.plain_heap.specs.declared.entry.Entry.{Entry}
use Rattle.plain_heap.specs.declared.reply.Reply.{Reply}
use Rattle.plain_heap.specs.declared.reply.Reply.TheVariants as reply
use Rattle.plain_heap.specs.Legal.{IsLegal, IsLegalBody, next_of_thread}
use Rattle.plain_heap.specs.Replies.{IsAllocReply, IsReply}
use Rattle.plain_heap.specs.Setting.{Setting}
use Rattle.plain_heap.specs.State.{LiveBuffer, State, after_alloc, after_body, after_call, after_entry, after_free, after_link, after_store, after_word, request_from, request_of, start_state, state_of, word_of_slot}
use Rattle.plain_heap.proofs.PlacesLemmas.{is_large}

-- the buffer is larger than any of a cache, if it has pages of its own
abbrev pub IsOversize : LiveBuffer → Type 0
IsOversize buffer = is_large buffer ≡ true → MOST_CACHE_BYTES < buffer.held.size

-- what no class serves is larger than the largest class
oversize : (size : ℕ) (class : Option ℕ) → 0 < size → class_for size ≡ class → is_none class ≡ true
    → MOST_CACHE_BYTES < size
oversize size None some is large = large_from_none size (sym is ∙ class_for-value size some)
oversize size (Some class) some is large = absurd (false≢true large)

-- ---- one entry more

module _ (setting : Setting) (state : State) (all : All IsOversize state.live) where
  -- so it is of the live buffers that a call left
  abbrev Still : State → Type 0
  Still after = All IsOversize after.live

  alloc_still : (thread slot size : ℕ) (zeroed : Bool) (answer : Reply) → IsAllocReply setting state size answer
      → Still (after_alloc setting state thread slot (request_of size) zeroed answer)
  alloc_still thread slot zero zeroed (reply.At at found) legal = absurd (cc legal)
  alloc_still thread slot (suc size) zeroed (reply.At at found) legal =
      All-cons IsOversize (record { address = at; held = request_of (suc size) }) state.live
      (oversize (suc size) (class_for (suc size)) (omega arith) refl) all
  alloc_still thread slot size zeroed reply.Null legal = all
  alloc_still thread slot size zeroed reply.NoSpace legal = all
  alloc_still thread slot size zeroed answer legal = all

  cache_alloc_still : (thread slot cache : ℕ) (answer : Reply)
      → Still (after_alloc setting state thread slot (request_from setting cache) false answer)
  cache_alloc_still thread slot cache (reply.At at found) =
      All-cons IsOversize (record { address = at; held = request_from setting cache }) state.live
      (λ large. absurd (false≢true large)) all
  cache_alloc_still thread slot cache reply.Null = all
  cache_alloc_still thread slot cache reply.NoSpace = all
  cache_alloc_still thread slot cache answer = all

  free_still : (thread slot : ℕ) (answer : Reply) → Still (after_free setting state thread slot answer)
  free_still thread slot reply.Ok =
      All-left_out_by IsOversize (λ (b : LiveBuffer). b.address) state.live (word_of_slot state thread slot) all
  free_still thread slot answer = all

  store_still : (at : ℕ) (stored : List ℕ) (answer : Reply) → Still (after_store state at stored answer)
  store_still at stored reply.Ok = all
  store_still at stored answer = all

  link_still : (at word : ℕ) (answer : Reply) → Still (after_link state at word answer)
  link_still at word reply.Ok = all
  link_still at word answer = all

  word_still : (thread slot : ℕ) (answer : Reply) → Still (after_word state thread slot answer)
  word_still thread slot (reply.Word word) = all
  word_still thread slot answer = all

  call_still : (thread : ℕ) (op : Op) (answer : Reply) → IsReply setting state thread op answer
      → Still (after_call setting state thread op answer)
  call_still thread (Alloc slot size) answer legal = alloc_still thread slot size false answer legal
  call_still thread (Zalloc slot size) answer legal = alloc_still thread slot size true answer legal
  call_still thread (CacheAlloc slot cache) answer legal = cache_alloc_still thread slot cache answer
  call_still thread (Free slot size) answer legal = free_still thread slot answer
  call_still thread (CacheFree slot cache) answer legal = free_still thread slot answer
  call_still thread (Copy to from) answer legal = all
  call_still thread (Clear slot) answer legal = all
  call_still thread (Store slot offset stored) answer legal =
      store_still (word_of_slot state thread slot + offset) stored answer
  call_still thread (Link slot offset value) answer legal =
      link_still (word_of_slot state thread slot + offset) (word_of_slot state thread value) answer
  call_still thread (Load to slot offset) answer legal = word_still thread to answer
  call_still thread Reap answer legal = all

  body_still : (thread : ℕ) (body : Body) (next : Option Entry) → IsLegalBody setting state thread body next
      → Still (after_body setting state thread body)
  body_still thread (Call op frames answer) next legal = call_still thread op answer legal
  body_still thread (Grow cache base) next legal = all
  body_still thread (Shrink cache base) next legal = all

-- ---- all entries

-- one entry more of a history
one_more : (setting : Setting) (entries : List Entry) (n : ℕ) (entry : Entry) → n < length entries
    → get_or entries n entry ≡ entry
    → state_of setting (take (suc n) entries) ≡ after_entry setting (state_of setting (take n entries)) entry
one_more setting entries n entry lt is =
    ap (state_of setting) (take-suc entries n entry lt)
    ∙ fold-append (after_entry setting) start_state (take n entries) (get_or entries n entry ∷ [])
    ∙ ap (after_entry setting (state_of setting (take n entries))) is

-- it holds of what the first entries of a legal history leave
first_oversize : (setting : Setting) (entries : List Entry) → IsLegal setting entries → (n : ℕ) → n ≤ length entries
    → All IsOversize (state_of setting (take n entries)).live
first_oversize setting entries legal zero le = λ k d lt. absurd (omega arith)
first_oversize setting entries legal (suc n) le =
    let before = first_oversize setting entries legal n (omega arith) in
    let state = state_of setting (take n entries) in
    let cases = slice_get_cases entries n in
    elim cases.1 [
      | inl found ↦
          let entry : Entry = found.0 in
          let is_legal = legal n entry found.2 in
          let next = next_of_thread entry.thread (drop (n + 1) entries) in
          subst (λ (s : State). All IsOversize s.live) (sym (one_more setting entries n entry found.1 found.3))
          (body_still setting state before entry.thread entry.body next is_legal.body)
      | inr past ↦ absurd (omega (arith, past.0))
    ]

-- and of what all of them leave
pub all_oversize : (setting : Setting) (entries : List Entry) → IsLegal setting entries
    → All IsOversize (state_of setting entries).live
all_oversize setting entries legal =
    subst (λ (all : List Entry). All IsOversize (state_of setting all).live)
    (take_all (length entries) entries (omega arith))
    (first_oversize setting entries legal (length entries) (omega arith))
