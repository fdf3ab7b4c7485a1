-- Whatever was handed out and not given back lives at the end of a legal history.
use Rattle.std.proofs.Common.{◌≡◌, ◌≢◌, ℕ, zero, suc, ◌+◌, ◌-◌, ◌≤◌, Bool, true, false, cond, eqb, List, [], ◌∷◌, ◌++◌, length, take, take-suc, take_all, drop, Option, Some, None, refl, sym, ap, subst, ◌∙◌, arith, inl, inr}
use Rattle.std.specs.Prelude.{All, AllPairs, sum_by}
use Rattle.std.specs.Option.{option_eq}
use Rattle.std.proofs.lemmas.Bool.{eqb-true}
use Rattle.std.proofs.lemmas.Bool.Decides.{eqb_tells}
use Rattle.std.proofs.lemmas.List.Elements.{All-cons, All-from_recursion, All-head, All-nil, All-tail}
use Rattle.std.proofs.lemmas.List.Sums.{sum_by-cons}
use Rattle.std.proofs.lemmas.Option.{slice_get_cases}
use Rattle.umem_base.specs.Ordered.{left_out_by}
use Rattle.umem_base.proofs.OrderedLemmas.{All-left_out_by, left_out_by-drops, left_out_by-keeps, left_out_by-none}
use Rattle.case_table.proofs.SizesLemmas.{least_from_class}
use Rattle.script.specs.declared.operation.Op.{Op}
use Rattle.script.specs.declared.operation.Op.TheVariants.{Alloc, Zalloc, Free, CacheAlloc, CacheFree, Copy, Clear, Store, Link, Load, Reap}
use Rattle.script.specs.PlanText.{HasCache}
use Rattle.script.specs.Rules.{IsHeader}
use Rattle.plain_heap.specs.declared.entry.Body.{Body}
use Rattle.plain_heap.specs.declared.entry.Body.TheVariants.{Call, Grow, Shrink}
use Rattle.plain_heap.specs.declared.entry.Entry.{Entry}
use Rattle.plain_heap.specs.declared.held.Held.{Held}
use Rattle.plain_heap.specs.declared.reply.Reply.{Reply}
use Rattle.plain_heap.specs.declared.reply.Reply.TheVariants as reply
use Rattle.plain_heap.specs.Legal.{IsLegal, IsLegalBody, next_of_thread}
use Rattle.plain_heap.specs.Replies.{IsReply, has_finding_at, is_declared, live_answer, refusal_by_cache, refusal_by_size, word_answer}
use Rattle.plain_heap.specs.Setting.{Setting, cache_def_in}
use Rattle.plain_heap.specs.State.{LiveBuffer, State, after_alloc, after_body, after_call, after_entry, after_free, after_link, after_store, after_word, held_at, request_from, request_of, state_of, was_given, word_of_slot}
use Rattle.plain_heap.specs.Texts.{HasItsCache, HaveTheirCaches}
use Rattle.plain_heap.proofs.EntryLemmas.{held_first, one_more}
use Rattle.plain_heap.proofs.SeparateLemmas.{start_in_place}
use Rattle.plain_heap.proofs.StepsLemmas.{IsInPlace, body_keeps}
use Rattle.heap_summary.specs.declared.change.Change.TheVariants.{HandedOut, GivenBack, Grown, Nothing}
use Rattle.heap_summary.specs.declared.summary.Summary.{Summary}
use Rattle.heap_summary.specs.declared.tally.Tally.{Tally}
use Rattle.heap_summary.specs.Changes.{change_of, change_of_call, change_of_free, change_of_allocation}
use Rattle.heap_summary.specs.Sums.{live_bytes, summary_of}
use Rattle.heap_summary.specs.Tallies.{tally_of}
use Rattle.heap_summary.proofs.TallyLemmas.{IsMore, tally_push}

-- ---- the live buffers without one

-- a buffer less, of so many bytes
record IsOneLess (live less : List LiveBuffer) (size : ℕ) : Type 0 where
  count : length less + 1 ≡ length live
  bytes : sum_by (λ buffer. buffer.held.size) less + size ≡ sum_by (λ buffer. buffer.held.size) live

pairs_head : {X : Type 0} (R : X → X → Type 0) (x : X) (xs : List X) → AllPairs R (x ∷ xs) → All (R x) xs
pairs_head R x xs h k d lt = h 0 (suc k) d (omega arith) (omega arith)

pairs_tail : {X : Type 0} (R : X → X → Type 0) (x : X) (xs : List X) → AllPairs R (x ∷ xs) → AllPairs R xs
pairs_tail R x xs h i j d less lt = h (suc i) (suc j) d (omega arith) (omega arith)

-- the buffer of an address that is left out was the only one there
one_less : (live : List LiveBuffer) (at : ℕ) (held : Held) → AllPairs (λ one other. one.address ≢ other.address) live → held_at live at ≡ Some held
    → IsOneLess live (left_out_by (λ buffer. buffer.address) live at) held.size
one_less [] at held apart is = absurd (cc is)
one_less (b ∷ live) at held apart is =
    let key : LiveBuffer → ℕ = λ x. x.address in
    let size : LiveBuffer → ℕ = λ x. x.held.size in
    let R : LiveBuffer → LiveBuffer → Type 0 = λ one other. one.address ≢ other.address in
    let first = sym (held_first b live at) ∙ is in
    let all = sum_by-cons size b live in
    elim (eqb_tells b.address at) [
      | inl e ↦
          let same : Some b.held ≡ Some held = ap (λ t. cond t (Some b.held) (held_at live at)) (sym e.0) ∙ first in
          let its : b.held ≡ held = cc in
          let gone : left_out_by key (b ∷ live) at ≡ live =
          left_out_by-drops key b live at e.1 ∙ left_out_by-none key live at (λ k d lt o. pairs_head R b live apart k d lt (e.1 ∙ sym o)) in
          record {
            count = omega (arith, ap length gone);
            bytes = omega (arith, ap (λ l. sum_by size l) gone, all, ap (λ (h : Held). h.size) its);
          }
      | inr e ↦
          let later = one_less live at held (pairs_tail R b live apart) (ap (λ t. cond t (Some b.held) (held_at live at)) (sym e.0) ∙ first) in
          let kept : left_out_by key (b ∷ live) at ≡ b ∷ left_out_by key live at = left_out_by-keeps key b live at e.1 in
          record {
            count = omega (arith, ap length kept, later.count);
            bytes = omega (arith, ap (λ l. sum_by size l) kept ∙ sum_by-cons size b (left_out_by key live at), all, later.bytes);
          }
    ]

-- what holds of all live buffers, holds of what lives at an address
held_keeps : (P : Held → Type 0) (live : List LiveBuffer) (at : ℕ) (held : Held) → All (λ buffer. P buffer.held) live → held_at live at ≡ Some held → P held
held_keeps P [] at held all is = absurd (cc is)
held_keeps P (b ∷ live) at held all is =
    let Q : LiveBuffer → Type 0 = λ buffer. P buffer.held in
    let first = sym (held_first b live at) ∙ is in
    elim (eqb_tells b.address at) [
      | inl e ↦
          let same : Some b.held ≡ Some held = ap (λ t. cond t (Some b.held) (held_at live at)) (sym e.0) ∙ first in
          let its : b.held ≡ held = cc in
          subst P its (All-head Q b live all)
      | inr e ↦ held_keeps P live at held (All-tail Q b live all) (ap (λ t. cond t (Some b.held) (held_at live at)) (sym e.0) ∙ first)
    ]

-- ---- frees that are answered `ok`

-- something lives at the word, and nothing refused the free
ok_lives : (zero : Bool) (held : Option Held) (given : Bool) (refusal : Held → Option Reply) (found : Bool) → reply.Ok ≡ cond zero reply.Null (word_answer held given refusal found)
    → (its : Held) × (held ≡ Some its) × (live_answer (refusal its) found ≡ reply.Ok)
ok_lives true held given refusal found is = absurd (cc is)
ok_lives false None true refusal found is = absurd (cc is)
ok_lives false None false refusal found is = absurd (cc is)
ok_lives false (Some its) given refusal found is = (its, refl, sym is)

size_allowed : (declared same found : Bool) → live_answer (cond declared (Some reply.BadCache) (cond same None (Some reply.BadSize))) found ≡ reply.Ok → same ≡ true
size_allowed true same found is = absurd (cc is)
size_allowed false true found is = refl
size_allowed false false found is = absurd (cc is)

-- a free by size gave back a buffer of that size
size_is : (size : ℕ) (its : Held) (found : Bool) → live_answer (refusal_by_size size its) found ≡ reply.Ok → its.size ≡ size
size_is size its found is = eqb-true its.size size (size_allowed (is_declared its.cache) (eqb its.size size) found is)

cache_allowed : (same found : Bool) → live_answer (cond same None (Some reply.BadCache)) found ≡ reply.Ok → same ≡ true
cache_allowed true found is = refl
cache_allowed false found is = absurd (cc is)

same_cache : (held : Option ℕ) (cache : ℕ) → option_eq (λ a b. eqb a b) held (Some cache) ≡ true → held ≡ Some cache
same_cache None cache is = absurd (cc is)
same_cache (Some its) cache is = ap (λ n. Some n) (eqb-true its cache is)

-- a free to a cache gave back a buffer of that cache
cache_is : (cache : ℕ) (its : Held) (found : Bool) → live_answer (refusal_by_cache cache its) found ≡ reply.Ok → its.cache ≡ Some cache
cache_is cache its found is = same_cache its.cache cache (cache_allowed (option_eq (λ a b. eqb a b) its.cache (Some cache)) found is)

-- ---- one entry more

-- a buffer of a declared cache has the size of that cache
abbrev IsSized : Setting → Held → Type 0
IsSized setting held = (cache : ℕ) → held.cache ≡ Some cache → 32 ≤ cache → held.size ≡ (cache_def_in setting cache).size

-- what lives and what was given back is what was handed out
pub record IsBalanced (setting : Setting) (live : List LiveBuffer) (tally : Tally) : Type 0 where
  pub count : length live + tally.frees ≡ tally.allocs
  pub bytes : sum_by (λ buffer. buffer.held.size) live + tally.back ≡ tally.handed
  pub sized : All (λ buffer. IsSized setting buffer.held) live

size_for_class : (setting : Setting) (size : ℕ) → IsSized setting (request_of size)
size_for_class setting size cache is declared = absurd (omega (arith, (least_from_class size cache is).is_class))

size_for_cache : (setting : Setting) (cache : ℕ) → IsSized setting (request_from setting cache)
size_for_cache setting cache other is declared = let same : cache ≡ other = cc in ap (λ n. (cache_def_in setting n).size) same

module _ (setting : Setting) (live : List LiveBuffer) (before after : Tally) (balance : IsBalanced setting live before) where
  unchanged : IsMore before after Nothing → IsBalanced setting live after
  unchanged more = record {
    count = omega (arith, balance.count, more.allocs, more.frees);
    bytes = omega (arith, balance.bytes, more.handed, more.back);
    sized = balance.sized;
  }

  grown : IsMore before after Grown → IsBalanced setting live after
  grown more = record {
    count = omega (arith, balance.count, more.allocs, more.frees);
    bytes = omega (arith, balance.bytes, more.handed, more.back);
    sized = balance.sized;
  }

  one_more_lives : (at : ℕ) (held : Held) → IsSized setting held → IsMore before after (HandedOut held.size) → IsBalanced setting (record { address = at; held = held } ∷ live) after
  one_more_lives at held sized more =
      let buffer : LiveBuffer = record { address = at; held = held } in
      record {
        count = omega (arith, balance.count, more.allocs, more.frees);
        bytes = omega (arith, sum_by-cons (λ (b : LiveBuffer). b.held.size) buffer live, balance.bytes, more.handed, more.back);
        sized = All-cons (λ (b : LiveBuffer). IsSized setting b.held) buffer live sized balance.sized;
      }

  one_less_lives : (at size : ℕ) (held : Held) → AllPairs (λ one other. one.address ≢ other.address) live → held_at live at ≡ Some held → held.size ≡ size → IsMore before after (GivenBack size)
      → IsBalanced setting (left_out_by (λ b. b.address) live at) after
  one_less_lives at size held apart lives same more =
      let less = one_less live at held apart lives in
      record {
        count = omega (arith, balance.count, less.count, more.allocs, more.frees);
        bytes = omega (arith, balance.bytes, less.bytes, same, more.handed, more.back);
        sized = All-left_out_by (λ (b : LiveBuffer). IsSized setting b.held) (λ (b : LiveBuffer). b.address) live at balance.sized;
      }

module _ (setting : Setting) (state : State) (apart : AllPairs (λ one other. one.address ≢ other.address) state.live) (before after : Tally) (balance : IsBalanced setting state.live before) where
  alloc_balance : (thread slot : ℕ) (held : Held) (zeroed : Bool) (answer : Reply) → IsSized setting held → IsMore before after (change_of_allocation held.size answer)
      → IsBalanced setting (after_alloc setting state thread slot held zeroed answer).live after
  alloc_balance thread slot held zeroed (reply.At at found) sized more = one_more_lives setting state.live before after balance at held sized more
  alloc_balance thread slot held zeroed answer sized more = unchanged setting state.live before after balance more

  free_balance : (thread slot size : ℕ) (answer : Reply) → IsReply setting state thread (Free slot size) answer → IsMore before after (change_of_free size answer)
      → IsBalanced setting (after_free setting state thread slot answer).live after
  free_balance thread slot size reply.Ok legal more =
      let word = word_of_slot state thread slot in
      let found = has_finding_at setting state word in
      let lives = ok_lives (eqb word 0) (held_at state.live word) (was_given state word) (refusal_by_size size) found legal in
      one_less_lives setting state.live before after balance word size lives.0 apart lives.1 (size_is size lives.0 found lives.2) more
  free_balance thread slot size answer legal more = unchanged setting state.live before after balance more

  cache_free_balance : (thread slot cache : ℕ) (answer : Reply) → 32 ≤ cache → IsReply setting state thread (CacheFree slot cache) answer → IsMore before after (change_of_free (cache_def_in setting cache).size answer)
      → IsBalanced setting (after_free setting state thread slot answer).live after
  cache_free_balance thread slot cache reply.Ok declared legal more =
      let word = word_of_slot state thread slot in
      let found = has_finding_at setting state word in
      let lives = ok_lives (eqb word 0) (held_at state.live word) (was_given state word) (refusal_by_cache cache) found legal in
      let sized = held_keeps (IsSized setting) state.live word lives.0 balance.sized lives.1 in
      one_less_lives setting state.live before after balance word (cache_def_in setting cache).size lives.0 apart lives.1 (sized cache (cache_is cache lives.0 found lives.2) declared) more
  cache_free_balance thread slot cache answer declared legal more = unchanged setting state.live before after balance more

  store_balance : (at : ℕ) (stored : List ℕ) (answer : Reply) → IsMore before after Nothing → IsBalanced setting (after_store state at stored answer).live after
  store_balance at stored reply.Ok more = unchanged setting state.live before after balance more
  store_balance at stored answer more = unchanged setting state.live before after balance more

  link_balance : (at word : ℕ) (answer : Reply) → IsMore before after Nothing → IsBalanced setting (after_link state at word answer).live after
  link_balance at word reply.Ok more = unchanged setting state.live before after balance more
  link_balance at word answer more = unchanged setting state.live before after balance more

  word_balance : (thread slot : ℕ) (answer : Reply) → IsMore before after Nothing → IsBalanced setting (after_word state thread slot answer).live after
  word_balance thread slot (reply.Word word) more = unchanged setting state.live before after balance more
  word_balance thread slot answer more = unchanged setting state.live before after balance more

  call_balance : (thread : ℕ) (op : Op) (answer : Reply) → HasCache setting.header.caches op → IsReply setting state thread op answer → IsMore before after (change_of_call setting.header.caches op answer)
      → IsBalanced setting (after_call setting state thread op answer).live after
  call_balance thread (Alloc slot size) answer has legal more = alloc_balance thread slot (request_of size) false answer (size_for_class setting size) more
  call_balance thread (Zalloc slot size) answer has legal more = alloc_balance thread slot (request_of size) true answer (size_for_class setting size) more
  call_balance thread (CacheAlloc slot cache) answer has legal more = alloc_balance thread slot (request_from setting cache) false answer (size_for_cache setting cache) more
  call_balance thread (Free slot size) answer has legal more = free_balance thread slot size answer legal more
  call_balance thread (CacheFree slot cache) answer has legal more = cache_free_balance thread slot cache answer has.0 legal more
  call_balance thread (Copy to from) answer has legal more = unchanged setting state.live before after balance more
  call_balance thread (Clear slot) answer has legal more = unchanged setting state.live before after balance more
  call_balance thread (Store slot offset stored) answer has legal more = store_balance (word_of_slot state thread slot + offset) stored answer more
  call_balance thread (Link slot offset value) answer has legal more = link_balance (word_of_slot state thread slot + offset) (word_of_slot state thread value) answer more
  call_balance thread (Load to slot offset) answer has legal more = word_balance thread to answer more
  call_balance thread Reap answer has legal more = unchanged setting state.live before after balance more

  body_balance : (thread : ℕ) (body : Body) (next : Option Entry) → HasItsCache setting.header.caches body → IsLegalBody setting state thread body next → IsMore before after (change_of setting.header.caches body)
      → IsBalanced setting (after_body setting state thread body).live after
  body_balance thread (Call op frames answer) next has legal more = call_balance thread op answer has legal more
  body_balance thread (Grow cache base) next has legal more = grown setting state.live before after balance more
  body_balance thread (Shrink cache base) next has legal more = unchanged setting state.live before after balance more

-- ---- a whole history

-- the buffers are in their places, and the sums are balanced
record Stands (setting : Setting) (state : State) (tally : Tally) : Type 0 where
  places : IsInPlace setting state
  balance : IsBalanced setting state.live tally

module _ (setting : Setting) (entries : List Entry) (header : IsHeader setting.header) (caches : HaveTheirCaches setting.header.caches entries) (legal : IsLegal setting entries) where
  prefix_stands : (n : ℕ) → n ≤ length entries → Stands setting (state_of setting (take n entries)) (tally_of setting.header.caches (take n entries))
  prefix_stands zero le = record {
    places = start_in_place setting;
    balance = record { count = refl; bytes = refl; sized = All-nil (λ (b : LiveBuffer). IsSized setting b.held) };
  }
  prefix_stands (suc n) le =
      let stands = prefix_stands n (omega arith) in
      let first = take n entries in
      let state = state_of setting first in
      let cases = slice_get_cases entries n in
      elim cases.1 [
        | inl found ↦
            let entry : Entry = found.0 in
            let its = legal n entry found.2 in
            let next = next_of_thread entry.thread (drop (n + 1) entries) in
            let All_has : Entry → Type 0 = λ e. HasItsCache setting.header.caches e.body in
            let has = subst All_has found.3 (All-from_recursion All_has entries caches n entry found.1) in
            let split : take (suc n) entries ≡ first ++ entry ∷ [] = take-suc entries n entry found.1 ∙ ap (λ (e : Entry). first ++ e ∷ []) found.3 in
            let more = tally_push setting.header.caches first entry in
            let after = tally_of setting.header.caches (first ++ entry ∷ []) in
            let made : Stands setting (after_entry setting state entry) after = record {
              places = body_keeps setting state header stands.places entry.thread entry.body next its.body;
              balance = body_balance setting state stands.places.addresses (tally_of setting.header.caches first) after stands.balance entry.thread entry.body next has its.body more;
            } in
            subst (λ (l : List Entry). Stands setting (state_of setting l) (tally_of setting.header.caches l)) (sym split)
            (subst (λ (s : State). Stands setting s after) (sym (one_more setting first entry)) made)
        | inr past ↦ absurd (omega (arith, past.0))
      ]

  -- what lives at the end of a legal history and what was given back is what was handed out
  pub history_balance : IsBalanced setting (state_of setting entries).live (tally_of setting.header.caches entries)
  history_balance =
      let whole = prefix_stands (length entries) (omega arith) in
      subst (λ (l : List Entry). IsBalanced setting (state_of setting l).live (tally_of setting.header.caches l)) (take_all (length entries) entries (omega arith)) whole.balance

-- the summary that sums give
abbrev pub summary_from : Tally → Summary
summary_from tally = record {
  allocs = tally.allocs;
  frees = tally.frees;
  live = tally.allocs - tally.frees;
  bytes = tally.handed - tally.back;
  grows = tally.grows;
}

abbrev summary_with : Tally → ℕ → ℕ → Summary
summary_with tally live bytes = record { allocs = tally.allocs; frees = tally.frees; live = live; bytes = bytes; grows = tally.grows }

-- is that of the history
pub history_summed : (setting : Setting) (entries : List Entry) → IsHeader setting.header → HaveTheirCaches setting.header.caches entries → IsLegal setting entries
    → summary_from (tally_of setting.header.caches entries) ≡ summary_of setting entries
history_summed setting entries header caches legal =
    let tally = tally_of setting.header.caches entries in
    let state = state_of setting entries in
    let balance = history_balance setting entries header caches legal in
    let live : tally.allocs - tally.frees ≡ length state.live = omega (arith, balance.count) in
    let bytes : tally.handed - tally.back ≡ live_bytes state = omega (arith, balance.bytes) in
    ap (λ n. summary_with tally n (tally.handed - tally.back)) live ∙ ap (summary_with tally (length state.live)) bytes
