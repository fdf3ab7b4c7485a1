-- A legal, tidy and placed history is a list of commits, each decided by those before it, and so by its calls.
use Rattle.std.proofs.Common.{◌≡◌, ℕ, zero, suc, ◌+◌, ◌≤◌, List, [], ◌∷◌, ◌++◌, length, Option, Some, None, refl, sym, ap, ◌∙◌, subst, arith}
use Rattle.std.specs.List.{slice_get}
use Rattle.std.specs.Option.{option_map}
use Rattle.std.proofs.lemmas.List.{append-nil, append_assoc, length-append}
use Rattle.umem_base.specs.Pages.{IsLowestRun}
use Rattle.case_table.specs.Sizes.{class_for}
use Rattle.script.specs.declared.operation.Op.{Op}
use Rattle.script.specs.declared.operation.Op.TheVariants.{Alloc, Zalloc, Free, CacheAlloc, CacheFree, Copy, Clear, Store, Link, Load, Reap}
use Rattle.script.specs.Plan.{Call, Turn}
use Rattle.script.specs.Rules.{IsHeader}
use Rattle.shelf.specs.Steps.{InHand, chunk_in, taken_any, taken_from}
use Rattle.shelf.specs.Stock.{Stock}
use Rattle.plain_heap.specs.declared.entry.Body.{Body}
use Rattle.plain_heap.specs.declared.entry.Body.TheVariants as body
use Rattle.plain_heap.specs.declared.entry.Entry.{Entry}
use Rattle.plain_heap.specs.declared.reply.Reply.{Reply}
use Rattle.plain_heap.specs.declared.reply.Reply.TheVariants as reply
use Rattle.plain_heap.specs.Answers.{IsTidyBody, IsTidyCall}
use Rattle.plain_heap.specs.Calls.{turns_made}
use Rattle.plain_heap.specs.Legal.{HandsOutFrom, IsAllocFrom, IsLegalBody, IsReaping, next_of_thread}
use Rattle.plain_heap.specs.Replies.{IsAllocReply, IsCacheReply, IsReply, IsSomeReply}
use Rattle.plain_heap.specs.Setting.{Setting, geometry_in}
use Rattle.plain_heap.specs.State.{HeapSlab, IsFreePage, State, after_body, after_grow, chunk_start, new_slab, state_of}
use Rattle.plain_heap.proofs.EntryLemmas.{one_more}
use Rattle.plain_heap.proofs.SeparateLemmas.{start_in_place}
use Rattle.plain_heap.proofs.StepsLemmas.{IsInPlace, body_keeps}
use Rattle.heap_ledger.specs.Commits.{IsTidyReply}
use Rattle.heap_ledger.specs.Ledger.{AreInner, commit_entries, entry, inner_entries, shrunk}
use Rattle.heap_ledger.proofs.CommitLemmas.{made_after, made_append, shrinks_are_inner}
use Rattle.heap_accounts.specs.Laws.{IsDecided, PlacedHistoriesAreOne, at_rest}
use Rattle.heap_accounts.specs.Performed.{IsFoundWithin, IsFoundAnyhow, IsHandedOut, IsPerformed, IsPerformedChunk, IsPerformedRequest, answer_at}
use Rattle.heap_accounts.specs.Placed.{IsAnsweredAnyhow, IsAnsweredFirst, IsAnsweredWith, IsAnsweredWithin, IsPlacedBody, IsPlacedCall, IsPlacedRequest}
use Rattle.heap_accounts.specs.Places.{Places, Placing, cpu_of, places_by_body, places_of, placing_by, placing_of, stock_at}
use Rattle.heap_accounts.proofs.PerformedLemmas.{performed_one}
use Rattle.heap_accounts.proofs.PlacingLemmas.{none_made_after, one_placing, rests}
use Rattle.heap_accounts.proofs.ReapLemmas.{Reaping, are_reaped, reaping}
use Rattle.heap_accounts.proofs.StandsLemmas.{Stands, entry_of, moved, next_is_first, stands}

-- ---- answers

no_class : (class : ℕ) → class_for 0 ≡ Some class → ⊥
unfolding class_for
no_class class is = cc is

-- an answer for a size that a class serves is one from the class
by_class : (setting : Setting) (state : State) (size class : ℕ) (answer : Reply) → class_for size ≡ Some class → IsAllocReply setting state size answer → IsCacheReply setting state class answer
by_class setting state zero class answer is told = absurd (no_class class is)
by_class setting state (suc size) class answer is told = subst (λ (o : Option ℕ). IsSomeReply setting state (suc size) o answer) is told

handed : (setting : Setting) (state : State) (cache chunk : ℕ) (answer : Reply) → IsCacheReply setting state cache answer → IsAnsweredWith setting state chunk answer → IsHandedOut setting state chunk answer
handed setting state cache chunk (reply.At address found) told is = ap (option_map (answer_at setting state)) is ∙ ap (λ r. Some (reply.At address r)) (sym told.1)
handed setting state cache chunk other told is = absurd is

anyhow : (setting : Setting) (state : State) (cache : ℕ) (chunk : Option ℕ) (answer : Reply) → IsCacheReply setting state cache answer → IsAnsweredAnyhow setting state chunk answer → IsFoundAnyhow setting state chunk answer
anyhow setting state cache None answer told is = is
anyhow setting state cache (Some chunk) answer told is = handed setting state cache chunk answer told is

within : (setting : Setting) (state : State) (cache : ℕ) (from any : Option ℕ) (answer : Reply) → IsCacheReply setting state cache answer → IsAnsweredWithin setting state cache from any answer → IsFoundWithin setting state cache from any [] answer
within setting state cache (Some chunk) any answer told is = (refl, handed setting state cache chunk answer told is)
within setting state cache None any answer told is = (is.0, anyhow setting state cache any answer told is.1)

-- ---- calls without inner entries

module _ (setting : Setting) (state : State) (places : Places) (thread : ℕ) where
  abbrev reached : ℕ → Option ℕ
  reached cache = chunk_in (taken_from (stock_at places cache) (cpu_of setting thread))

  abbrev anywhere : ℕ → Option ℕ
  anywhere cache = chunk_in (taken_any (stock_at places cache) (cpu_of setting thread))

  request_alone : (op : Op) (size : ℕ) (asked : Option ℕ) (answer : Reply) → class_for size ≡ asked → IsAllocReply setting state size answer → IsTidyReply setting state thread op answer
      → IsPlacedRequest setting state places None thread asked answer → IsPerformedRequest setting state places thread op asked [] answer
  request_alone op size None answer is told tidy placed = (refl, tidy)
  request_alone op size (Some class) answer is told tidy placed = within setting state class (reached class) (anywhere class) answer (by_class setting state size class answer is told) placed

  pub call_alone : (op : Op) (answer : Reply) → IsHeader setting.header → IsInPlace setting state → IsReply setting state thread op answer → IsTidyCall setting state op answer
      → IsPlacedCall setting (at_rest state places) thread op answer → IsPerformed setting state places thread op [] answer
  call_alone (Alloc slot size) answer header stand told tidy placed = request_alone (Alloc slot size) size (class_for size) answer refl told (record { reply = told; tidy = tidy }) placed
  call_alone (Zalloc slot size) answer header stand told tidy placed = request_alone (Zalloc slot size) size (class_for size) answer refl told (record { reply = told; tidy = tidy }) placed
  call_alone (CacheAlloc slot cache) answer header stand told tidy placed = within setting state cache (reached cache) (anywhere cache) answer told placed
  call_alone (Free slot size) answer header stand told tidy placed = (refl, record { reply = told; tidy = tidy })
  call_alone (CacheFree slot cache) answer header stand told tidy placed = (refl, record { reply = told; tidy = tidy })
  call_alone (Copy to from) answer header stand told tidy placed = (refl, record { reply = told; tidy = tidy })
  call_alone (Clear slot) answer header stand told tidy placed = (refl, record { reply = told; tidy = tidy })
  call_alone (Store slot offset stored) answer header stand told tidy placed = (refl, record { reply = told; tidy = tidy })
  call_alone (Link slot offset value) answer header stand told tidy placed = (refl, record { reply = told; tidy = tidy })
  call_alone (Load to slot offset) answer header stand told tidy placed = (refl, record { reply = told; tidy = tidy })
  call_alone Reap answer header stand told tidy placed = record { slabs = []; shrinks = refl; exactly = are_reaped setting state [] header stand tidy; ok = told }

-- ---- calls with a new slab

module _ (setting : Setting) (state : State) (places : Places) (thread cache base : ℕ) (none : taken_from (stock_at places cache) (cpu_of setting thread) ≡ None)
    (lowest : IsLowestRun (IsFreePage setting state) (geometry_in setting cache).pages base) where
  abbrev slab : HeapSlab
  slab = new_slab setting state cache base

  abbrev then : State
  then = after_grow setting state cache base

  first_answer : (answer : Reply) → IsCacheReply setting then cache answer → IsAnsweredFirst setting slab answer → answer ≡ answer_at setting then (chunk_start setting slab 0)
  first_answer (reply.At address found) told is = ap (λ r. reply.At address r) told.1 ∙ ap (answer_at setting then) is
  first_answer other told is = absurd is

  grown_here : (answer : Reply) → IsCacheReply setting then cache answer → IsAnsweredFirst setting slab answer → IsPerformedChunk setting state places thread cache (body.Grow cache base ∷ []) answer
  grown_here answer told is =
      let any = chunk_in (taken_any (stock_at places cache) (cpu_of setting thread)) in
      subst (λ (o : Option (InHand Stock)). IsFoundWithin setting state cache (chunk_in o) any (body.Grow cache base ∷ []) answer) (sym none) (refl, lowest, first_answer answer told is)

  grown_chunk : (asked : ℕ) (answer : Reply) → IsCacheReply setting then asked answer → (cache ≡ asked) × IsAnsweredFirst setting slab answer → IsPerformedChunk setting state places thread asked (body.Grow cache base ∷ []) answer
  grown_chunk asked answer told is =
      subst (λ c. IsPerformedChunk setting state places thread c (body.Grow cache base ∷ []) answer) is.0
      (grown_here answer (subst (λ c. IsCacheReply setting then c answer) (sym is.0) told) is.1)

  grown_request : (op : Op) (size : ℕ) (asked : Option ℕ) (answer : Reply) (behind : Places) → class_for size ≡ asked → IsAllocReply setting then size answer
      → IsPlacedRequest setting then behind (Some slab) thread asked answer → IsPerformedRequest setting state places thread op asked (body.Grow cache base ∷ []) answer
  grown_request op size None answer behind is told placed = absurd (cc placed)
  grown_request op size (Some class) answer behind is told placed = grown_chunk class answer (by_class setting then size class answer is told) placed

  pub call_grown : (op : Op) (answer : Reply) (behind : Places) → IsAllocFrom setting slab op answer → IsReply setting then thread op answer
      → IsPlacedCall setting (record { state = then; places = behind; made = Some slab }) thread op answer → IsPerformed setting state places thread op (body.Grow cache base ∷ []) answer
  call_grown (Alloc slot size) answer behind from told placed = grown_request (Alloc slot size) size (class_for size) answer behind refl told placed
  call_grown (Zalloc slot size) answer behind from told placed = grown_request (Zalloc slot size) size (class_for size) answer behind refl told placed
  call_grown (CacheAlloc slot its) answer behind from told placed = grown_chunk its answer told placed
  call_grown (Free slot size) answer behind from told placed = absurd from
  call_grown (CacheFree slot its) answer behind from told placed = absurd from
  call_grown (Copy to it) answer behind from told placed = absurd from
  call_grown (Clear slot) answer behind from told placed = absurd from
  call_grown (Store slot offset stored) answer behind from told placed = absurd from
  call_grown (Link slot offset value) answer behind from told placed = absurd from
  call_grown (Load to slot offset) answer behind from told placed = absurd from
  call_grown Reap answer behind from told placed = absurd from

-- ---- the first commit of what is left

-- entries begin with a commit, which the magazine rules allow
pub record Commit (setting : Setting) (before rest : List Entry) : Type 0 where
  pub thread : ℕ
  pub inner : List Body
  pub call : Call
  pub answer : Reply
  pub later : List Entry
  pub splits : rest ≡ commit_entries (length before) thread inner call answer ++ later
  pub are : AreInner inner
  pub performed : IsPerformed setting (state_of setting before) (places_of setting before) thread call.op inner answer

module _ (setting : Setting) (header : IsHeader setting.header) (whole : List Entry) (decided : IsDecided setting whole) (before : List Entry) (none : (placing_of setting before).made ≡ None) where
  abbrev state : State
  state = state_of setting before

  abbrev places : Places
  places = places_of setting before

  -- a call alone
  first_call : (first : Entry) (rest : List Entry) (op : Op) (frames : List ℕ) (answer : Reply) → Stands setting before rest first → first.body ≡ body.Call op frames answer → IsInPlace setting state → Commit setting before (first ∷ rest)
  first_call first rest op frames answer h is stand =
      let zero_more : length before ≡ length before + 0 = omega arith in
      let placed = subst (λ (p : Placing). IsPlacedCall setting p first.thread op answer) (rests setting before none) (subst (λ (b : Body). IsPlacedBody setting (placing_of setting before) first.thread b) is h.placed) in
      let told = subst (λ (b : Body). IsLegalBody setting state first.thread b (next_of_thread first.thread rest)) is h.legal in
      let tidy = subst (λ (b : Body). IsTidyBody setting state first.thread b (slice_get rest 0)) is h.tidy in
      record {
        thread = first.thread;
        inner = [];
        call = record { op = op; frames = frames };
        answer = answer;
        later = rest;
        splits = ap (λ (e : Entry). e ∷ rest) (entry_of first (length before + 0) first.thread (body.Call op frames answer) (h.number ∙ zero_more) refl is);
        are = tt;
        performed = call_alone setting state places first.thread op answer header stand told tidy placed;
      }

  -- a slab and the call behind it
  second_call : (first second : Entry) (rest : List Entry) (cache base : ℕ) (op : Op) (frames : List ℕ) (answer : Reply) → Stands setting before (second ∷ rest) first → Stands setting (before ++ first ∷ []) rest second
      → first.body ≡ body.Grow cache base → second.body ≡ body.Call op frames answer → second.thread ≡ first.thread → IsAllocFrom setting (new_slab setting state cache base) op answer
      → IsLowestRun (IsFreePage setting state) (geometry_in setting cache).pages base → Commit setting before (first ∷ second ∷ rest)
  second_call first second rest cache base op frames answer h g is its threads from lowest =
      let thread = first.thread in
      let slab = new_slab setting state cache base in
      let then = after_grow setting state cache base in
      let behind = places_by_body setting (at_rest state places) thread (body.Grow cache base) in
      let count : length (before ++ first ∷ []) ≡ length before + 1 = length-append before (first ∷ []) in
      let reached = subst (λ (p : Placing). IsPlacedBody setting p thread (body.Grow cache base)) (rests setting before none) (subst (λ (b : Body). IsPlacedBody setting (placing_of setting before) thread b) is h.placed) in
      let now : state_of setting (before ++ first ∷ []) ≡ then = one_more setting before first ∙ ap (λ (b : Body). after_body setting state thread b) is in
      let told = subst (λ (s : State). IsReply setting s thread op answer) now (subst (λ t. IsReply setting (state_of setting (before ++ first ∷ [])) t op answer) threads
      (subst (λ (b : Body). IsLegalBody setting (state_of setting (before ++ first ∷ [])) second.thread b (next_of_thread second.thread rest)) its g.legal)) in
      let left : placing_of setting (before ++ first ∷ []) ≡ record { state = then; places = behind; made = Some slab } =
      one_placing setting before first ∙ ap (λ (p : Placing). placing_by setting p first) (rests setting before none)
      ∙ ap (λ (b : Body). placing_by setting (at_rest state places) (entry first.number thread b)) is in
      let placed = subst (λ (p : Placing). IsPlacedCall setting p thread op answer) left (subst (λ t. IsPlacedCall setting (placing_of setting (before ++ first ∷ [])) t op answer) threads
      (subst (λ (b : Body). IsPlacedBody setting (placing_of setting (before ++ first ∷ [])) second.thread b) its g.placed)) in
      record {
        thread = thread;
        inner = body.Grow cache base ∷ [];
        call = record { op = op; frames = frames };
        answer = answer;
        later = rest;
        splits = ap (λ (e : Entry). e ∷ second ∷ rest) (entry_of first (length before) thread (body.Grow cache base) h.number refl is)
            ∙ ap (λ (e : Entry). entry (length before) thread (body.Grow cache base) ∷ e ∷ rest) (entry_of second (length before + 1) thread (body.Call op frames answer) (g.number ∙ count) threads its);
        are = (tt, tt);
        performed = call_grown setting state places thread cache base reached lowest op answer behind from told placed;
      }

  -- behind a slab stands its allocation
  first_grow : (first : Entry) (rest : List Entry) (cache base : ℕ) → whole ≡ before ++ first ∷ rest → Stands setting before rest first → first.body ≡ body.Grow cache base → Commit setting before (first ∷ rest)
  first_grow first rest cache base split h is =
      let legal = subst (λ (b : Body). IsLegalBody setting state first.thread b (next_of_thread first.thread rest)) is h.legal in
      let tidy = subst (λ (b : Body). IsTidyBody setting state first.thread b (slice_get rest 0)) is h.tidy in
      by_rest rest split h legal tidy
    where
      by_second : (second : Entry) (rest : List Entry) → whole ≡ before ++ first ∷ second ∷ rest → Stands setting before (second ∷ rest) first → IsLowestRun (IsFreePage setting state) (geometry_in setting cache).pages base
          → second.thread ≡ first.thread → HandsOutFrom setting (new_slab setting state cache base) second.body → (content : Body) → second.body ≡ content → Commit setting before (first ∷ second ∷ rest)
      by_second second rest split h lowest threads used content its = by_content content its (subst (HandsOutFrom setting (new_slab setting state cache base)) its used)
        where
          by_content : (content : Body) → second.body ≡ content → HandsOutFrom setting (new_slab setting state cache base) content → Commit setting before (first ∷ second ∷ rest)
          by_content (body.Call op frames answer) its from =
              second_call first second rest cache base op frames answer h (stands setting whole (before ++ first ∷ []) rest second (moved whole before (second ∷ rest) first split) decided) is its threads from lowest
          by_content (body.Grow other at) its from = absurd from
          by_content (body.Shrink other at) its from = absurd from

      by_rest : (rest : List Entry) → whole ≡ before ++ first ∷ rest → Stands setting before rest first → IsLegalBody setting state first.thread (body.Grow cache base) (next_of_thread first.thread rest)
          → IsTidyBody setting state first.thread (body.Grow cache base) (slice_get rest 0) → Commit setting before (first ∷ rest)
      by_rest [] split h legal tidy = absurd tidy.1
      by_rest (second ∷ rest) split h legal tidy =
          let found = next_is_first first.thread second legal.entry rest tidy.1 legal.follows in
          by_second second rest split h tidy.0 tidy.1 (subst (λ (e : Entry). HandsOutFrom setting (new_slab setting state cache base) e.body) found legal.used) second.body refl

  -- shrinks and the reap behind them
  first_shrink : (first : Entry) (rest : List Entry) → IsInPlace setting state → Reaping setting before (first ∷ rest) first.thread → Commit setting before (first ∷ rest)
  first_shrink first rest stand reap =
      let last = entry (length before + length (shrunk reap.slabs)) first.thread (body.Call Reap reap.frames reap.answer) in
      record {
        thread = first.thread;
        inner = shrunk reap.slabs;
        call = record { op = Reap; frames = reap.frames };
        answer = reap.answer;
        later = reap.later;
        splits = reap.splits ∙ sym (append_assoc (inner_entries (length before) first.thread (shrunk reap.slabs)) (last ∷ []) reap.later);
        are = shrinks_are_inner reap.slabs;
        performed = record { slabs = reap.slabs; shrinks = refl; exactly = are_reaped setting state reap.slabs header stand reap.given; ok = reap.ok };
      }

  pub commit_of : (first : Entry) (rest : List Entry) → whole ≡ before ++ first ∷ rest → IsInPlace setting state → Commit setting before (first ∷ rest)
  commit_of first rest split stand = by_body first.body refl
    where
      by_body : (content : Body) → first.body ≡ content → Commit setting before (first ∷ rest)
      by_body (body.Call op frames answer) is = first_call first rest op frames answer (stands setting whole before rest first split decided) is stand
      by_body (body.Grow cache base) is = first_grow first rest cache base split (stands setting whole before rest first split decided) is
      by_body (body.Shrink cache base) is =
          let shrinks = subst (λ (b : Body). IsReaping b) (sym is) tt in
          first_shrink first rest stand (reaping setting whole decided first.thread before (first ∷ rest) split (refl, shrinks))

-- ---- histories

-- the turns of entries that begin with a commit
turns_of_commit : (setting : Setting) (before rest : List Entry) (c : Commit setting before rest) → turns_made rest ≡ record { thread = c.thread; call = c.call } ∷ turns_made c.later
turns_of_commit setting before rest c =
    let one = commit_entries (length before) c.thread c.inner c.call c.answer in
    ap turns_made c.splits ∙ made_append one c.later ∙ ap (λ (turns : List Turn). turns ++ turns_made c.later) (made_after [] (length before) c.thread c.inner c.call c.answer c.are)

-- what a longer front leaves is in its place
pub in_place : (setting : Setting) (header : IsHeader setting.header) (whole before more later : List Entry) → IsDecided setting whole → whole ≡ before ++ (more ++ later) → IsInPlace setting (state_of setting before)
    → IsInPlace setting (state_of setting (before ++ more))
in_place setting header whole before [] later decided is stand = subst (λ (l : List Entry). IsInPlace setting (state_of setting l)) (sym (append-nil before)) stand
in_place setting header whole before (first ∷ more) later decided is stand =
    let h = stands setting whole before (more ++ later) first is decided in
    let kept = body_keeps setting (state_of setting before) header stand first.thread first.body (next_of_thread first.thread (more ++ later)) h.legal in
    let next = subst (IsInPlace setting) (sym (one_more setting before first)) kept in
    subst (λ (l : List Entry). IsInPlace setting (state_of setting l)) (append_assoc before (first ∷ []) more)
    (in_place setting header whole (before ++ first ∷ []) more later decided (moved whole before (more ++ later) first is) next)

-- two commits of one call are one
record AreOneCommit (setting : Setting) (before : List Entry) (one other : List Entry) (c : Commit setting before one) (d : Commit setting before other) : Type 0 where
  entries : commit_entries (length before) c.thread c.inner c.call c.answer ≡ commit_entries (length before) d.thread d.inner d.call d.answer
  turns : turns_made c.later ≡ turns_made d.later

commits_one : (setting : Setting) (before one other : List Entry) (c : Commit setting before one) (d : Commit setting before other) → turns_made one ≡ turns_made other → AreOneCommit setting before one other c d
commits_one setting before one other c d same =
    let turns = sym (turns_of_commit setting before one c) ∙ same ∙ turns_of_commit setting before other d in
    let first : Turn = record { thread = c.thread; call = c.call } in
    let second : Turn = record { thread = d.thread; call = d.call } in
    let firsts = heads first second (turns_made c.later) (turns_made d.later) turns in
    let threads : c.thread ≡ d.thread = ap (λ (t : Turn). t.thread) firsts in
    let calls : c.call ≡ d.call = ap (λ (t : Turn). t.call) firsts in
    let state = state_of setting before in
    let places = places_of setting before in
    let performed = subst (λ (k : Call). IsPerformed setting state places c.thread k.op d.inner d.answer) (sym calls) (subst (λ t. IsPerformed setting state places t d.call.op d.inner d.answer) (sym threads) d.performed) in
    let are = performed_one setting state places c.thread c.call.op c.inner d.inner c.answer d.answer c.performed performed in
    let n = length before in
    record {
      entries = ap (λ t. commit_entries n t c.inner c.call c.answer) threads ∙ ap (λ (i : List Body). commit_entries n d.thread i c.call c.answer) are.0
          ∙ ap (λ (k : Call). commit_entries n d.thread d.inner k c.answer) calls ∙ ap (λ (a : Reply). commit_entries n d.thread d.inner d.call a) are.1;
      turns = tails first second (turns_made c.later) (turns_made d.later) turns;
    }
  where
    heads : (a b : Turn) (xs ys : List Turn) → a ∷ xs ≡ b ∷ ys → a ≡ b
    heads a b xs ys e = cc

    tails : (a b : Turn) (xs ys : List Turn) → a ∷ xs ≡ b ∷ ys → xs ≡ ys
    tails a b xs ys e = cc

pub commit_some : (number thread : ℕ) (inner : List Body) (call : Call) (answer : Reply) → 1 ≤ length (commit_entries number thread inner call answer)
commit_some number thread inner call answer =
    omega (arith, length-append (inner_entries number thread inner) (entry (number + length inner) thread (body.Call call.op call.frames answer) ∷ []))

no_turns : {first : Turn} {turns : List Turn} → first ∷ turns ≡ [] → ⊥
no_turns e = cc e

module _ (setting : Setting) (header : IsHeader setting.header) where
  same_rest : (n : ℕ) (before one other : List Entry) → length one ≤ n → IsDecided setting (before ++ one) → IsDecided setting (before ++ other) → (placing_of setting before).made ≡ None
      → IsInPlace setting (state_of setting before) → turns_made one ≡ turns_made other → one ≡ other
  same_rest n before [] [] few decided told none stand same = refl
  same_rest n before [] (b ∷ other) few decided told none stand same =
      let d = commit_of setting header (before ++ b ∷ other) told before none b other refl stand in
      let turns = turns_of_commit setting before (b ∷ other) d in
      absurd (no_turns (sym turns ∙ sym same))
  same_rest n before (a ∷ one) [] few decided told none stand same =
      let c = commit_of setting header (before ++ a ∷ one) decided before none a one refl stand in
      let turns = turns_of_commit setting before (a ∷ one) c in
      absurd (no_turns (sym turns ∙ same))
  same_rest zero before (a ∷ one) (b ∷ other) few decided told none stand same = absurd (omega arith)
  same_rest (suc n) before (a ∷ one) (b ∷ other) few decided told none stand same =
      let c = commit_of setting header (before ++ a ∷ one) decided before none a one refl stand in
      let d = commit_of setting header (before ++ b ∷ other) told before none b other refl stand in
      let are = commits_one setting before (a ∷ one) (b ∷ other) c d same in
      let first = commit_entries (length before) c.thread c.inner c.call c.answer in
      let second = commit_entries (length before) d.thread d.inner d.call d.answer in
      let split : before ++ a ∷ one ≡ before ++ (first ++ c.later) = ap (λ (l : List Entry). before ++ l) c.splits in
      let cut : before ++ b ∷ other ≡ before ++ (second ++ d.later) = ap (λ (l : List Entry). before ++ l) d.splits in
      let joined : before ++ b ∷ other ≡ before ++ (first ++ d.later) = cut ∙ ap (λ (l : List Entry). before ++ (l ++ d.later)) (sym are.entries) in
      let fewer : length c.later ≤ n = omega (arith, few, ap length c.splits, length-append first c.later, commit_some (length before) c.thread c.inner c.call c.answer) in
      let later = same_rest n (before ++ first) c.later d.later fewer
      (subst (IsDecided setting) (split ∙ sym (append_assoc before first c.later)) decided) (subst (IsDecided setting) (joined ∙ sym (append_assoc before first d.later)) told)
      (none_made_after setting before (length before) c.thread c.inner c.call c.answer)
      (in_place setting header (before ++ a ∷ one) before first c.later decided split stand) are.turns in
      c.splits ∙ ap (λ (l : List Entry). first ++ l) later ∙ ap (λ (l : List Entry). l ++ d.later) are.entries ∙ sym d.splits

pub histories_one : PlacedHistoriesAreOne
histories_one setting one other header decided told same = same_rest setting header (length one) [] one other (omega arith) decided told refl (start_in_place setting) same
