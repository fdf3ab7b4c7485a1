-- A journal goes on as the journal of the longer run: what the entries of one call add to it.
use Rattle.std.proofs.Common.{◌≡◌, ℕ, ◌+◌, ◌≤◌, Bool, true, false, cond, List, [], ◌∷◌, ◌++◌, length, Option, None, replicate, refl, sym, ap, ◌∙◌, arith}
use Rattle.std.specs.Prelude.{fold}
use Rattle.std.proofs.lemmas.List.{length-append}
use Rattle.std.proofs.lemmas.List.Sums.{fold-append}
use Rattle.umem_options.specs.declared.options.Options.{Options}
use Rattle.umem_options.specs.Flags.{has_audit}
use Rattle.trans_log.specs.declared.record.Saved.{Saved}
use Rattle.trans_log.specs.Last.{entered}
use Rattle.script.specs.declared.operation.Op.{Op}
use Rattle.script.specs.declared.operation.Op.TheVariants.{Alloc, Zalloc, Free, CacheAlloc, CacheFree, Copy, Clear, Store, Link, Load, Reap}
use Rattle.script.specs.Plan.{Call, call_count}
use Rattle.plain_heap.specs.declared.entry.Body.{Body}
use Rattle.plain_heap.specs.declared.entry.Body.TheVariants as body
use Rattle.plain_heap.specs.declared.entry.Entry.{Entry}
use Rattle.plain_heap.specs.declared.reply.Reply.{Reply}
use Rattle.plain_heap.specs.Calls.{turns_made}
use Rattle.plain_heap.specs.Setting.{Setting}
use Rattle.plain_heap.specs.State.{State, after_call, after_entry, start_state}
use Rattle.heap_ledger.specs.Ledger.{AreInner, IsInner, IsLedger, Ledger, after_commit, commit_entries, entry, inner_entries, run_setting, run_state}
use Rattle.heap_ledger.proofs.CommitLemmas.{made_after}
use Rattle.heap_ledger.proofs.PlanLemmas.{made_few}
use Rattle.heap_logs.specs.declared.act.Act.{Act}
use Rattle.heap_logs.specs.Acts.{act_of, act_of_body, act_of_call, acts_from}
use Rattle.heap_logs.specs.Saved.{behind_item, saved_capacity, saved_from, saved_of_body, saved_of_call, saved_of_entry}
use Rattle.heap_logs.proofs.GrowthLemmas.{acts_more, saved_log_more}
use Rattle.heap_accounts.specs.Kinds.{is_free}
use Rattle.heap_books.specs.Journal.{IsJournalOf, Journal, with_act}

-- ---- inner entries

-- the state behind inner entries of a thread
abbrev pub behind_inner : Setting → State → ℕ → ℕ → List Body → State
behind_inner setting state number thread inner = fold (after_entry setting) state (inner_entries number thread inner)

-- the state of a run behind the inner entries of a commit
abbrev pub run_behind : Ledger → ℕ → List Body → State
run_behind ledger thread inner = behind_inner (run_setting ledger) (run_state ledger) (length ledger.entries) thread inner

no_act : (setting : Setting) (state : State) (thread : ℕ) (inner : Body) → IsInner inner → act_of_body setting state thread inner ≡ None
no_act setting state thread (body.Call op frames answer) is = absurd is
no_act setting state thread (body.Grow cache base) is = refl
no_act setting state thread (body.Shrink cache base) is = refl

-- nothing is kept
abbrev nothing : Option Saved
nothing = None

none_either : (b : Bool) → cond b nothing nothing ≡ nothing
none_either true = refl
none_either false = refl

none_saved : (options : Options) (setting : Setting) (state : State) (number thread : ℕ) (inner : Body) → IsInner inner → saved_of_body options setting state number thread inner ≡ None
none_saved options setting state number thread (body.Call op frames answer) is = absurd is
none_saved options setting state number thread (body.Grow cache base) is = refl
none_saved options setting state number thread (body.Shrink cache base) is = refl

-- inner entries have no acts, and the entry behind them has its own
acts_behind : (setting : Setting) (state : State) (number thread : ℕ) (inner : List Body) (last : Entry) → AreInner inner
    → acts_from setting state (inner_entries number thread inner ++ last ∷ []) ≡ replicate (length inner) None ++ act_of setting (behind_inner setting state number thread inner) last ∷ []
acts_behind setting state number thread [] last are = refl
acts_behind setting state number thread (first ∷ inner) last are =
    let after = after_entry setting state (entry number thread first) in
    ap (λ (a : Option Act). a ∷ acts_from setting after (inner_entries (number + 1) thread inner ++ last ∷ [])) (no_act setting state thread first are.0)
    ∙ ap (◌∷◌ None) (acts_behind setting after (number + 1) thread inner last are.1)

-- nothing is kept of inner entries
saved_behind : (options : Options) (setting : Setting) (state : State) (number thread : ℕ) (inner : List Body) (last : Entry) → AreInner inner
    → saved_from options setting state (inner_entries number thread inner ++ last ∷ []) ≡ saved_from options setting (behind_inner setting state number thread inner) (last ∷ [])
saved_behind options setting state number thread [] last are = refl
saved_behind options setting state number thread (first ∷ inner) last are =
    let after = after_entry setting state (entry number thread first) in
    let none : saved_of_entry options setting state (entry number thread first) ≡ None =
    ap (λ (s : Option Saved). cond (has_audit options) s None) (none_saved options setting state number thread first are.0) ∙ none_either (has_audit options) in
    ap (λ (s : Option Saved). behind_item s (saved_from options setting after (inner_entries (number + 1) thread inner ++ last ∷ []))) none
    ∙ saved_behind options setting after (number + 1) thread inner last are.1

-- ---- the entries of a commit

-- nothing is kept of a call that gives nothing back
not_saved : (options : Options) (setting : Setting) (state : State) (number thread : ℕ) (op : Op) (answer : Reply) → is_free op ≡ false → saved_of_call options setting state number thread op answer ≡ None
not_saved options setting state number thread (Alloc slot size) answer other = refl
not_saved options setting state number thread (Zalloc slot size) answer other = refl
not_saved options setting state number thread (Free slot size) answer other = absurd (cc other)
not_saved options setting state number thread (CacheAlloc slot cache) answer other = refl
not_saved options setting state number thread (CacheFree slot cache) answer other = absurd (cc other)
not_saved options setting state number thread (Copy to from) answer other = refl
not_saved options setting state number thread (Clear slot) answer other = refl
not_saved options setting state number thread (Store slot offset stored) answer other = refl
not_saved options setting state number thread (Link slot offset value) answer other = refl
not_saved options setting state number thread (Load to slot offset) answer other = refl
not_saved options setting state number thread Reap answer other = refl

pub saved_none : (options : Options) (setting : Setting) (state : State) (number thread : ℕ) (inner : List Body) (call : Call) (answer : Reply) → AreInner inner → is_free call.op ≡ false
    → saved_from options setting state (commit_entries number thread inner call answer) ≡ []
saved_none options setting state number thread inner call answer are other =
    let at = behind_inner setting state number thread inner in
    let place = number + length inner in
    saved_behind options setting state number thread inner (entry place thread (body.Call call.op call.frames answer)) are
    ∙ ap (λ (s : Option Saved). behind_item (cond (has_audit options) s None) []) (not_saved options setting at place thread call.op answer other)
    ∙ ap (λ (s : Option Saved). behind_item s []) (none_either (has_audit options))

-- a commit is a step of the state behind its inner entries
pub commit_step : (ledger : Ledger) (thread : ℕ) (inner : List Body) (call : Call) (answer : Reply)
    → run_state (after_commit ledger thread inner call answer) ≡ after_call (run_setting ledger) (run_behind ledger thread inner) thread call.op answer
commit_step ledger thread inner call answer =
    let step = after_entry (run_setting ledger) in
    let front = inner_entries (length ledger.entries) thread inner in
    let last = entry (length ledger.entries + length inner) thread (body.Call call.op call.frames answer) in
    fold-append step start_state ledger.entries (front ++ last ∷ []) ∙ fold-append step (run_state ledger) front (last ∷ [])

-- ---- the journal

-- the turns of a commit are one more, and no more than the plan has
turn_left : (ledger : Ledger) (thread : ℕ) (inner : List Body) (call : Call) (answer : Reply) → IsLedger (after_commit ledger thread inner call answer) → AreInner inner
    → (length (turns_made (after_commit ledger thread inner call answer).entries) ≡ length (turns_made ledger.entries) + 1) × (length (turns_made ledger.entries) + 1 ≤ call_count ledger.plan)
turn_left ledger thread inner call answer sound are =
    let new = after_commit ledger thread inner call answer in
    let more : length (turns_made new.entries) ≡ length (turns_made ledger.entries) + 1 =
    ap length (made_after ledger.entries (length ledger.entries) thread inner call answer are) ∙ length-append (turns_made ledger.entries) (record { thread = thread; call = call } ∷ []) in
    (more, omega (arith, more, made_few new.plan new.entries sound.plan sound.follows))

-- there is room for the acts of a commit
pub room_left : (ledger : Ledger) (journal : Journal) (thread : ℕ) (inner : List Body) (call : Call) (answer : Reply) → IsLedger (after_commit ledger thread inner call answer) → AreInner inner
    → length (run_state (after_commit ledger thread inner call answer)).slabs + length inner ≤ length (run_state ledger).slabs + 2
    → IsJournalOf ledger journal → length inner + 1 ≤ journal.acts.spare
room_left ledger journal thread inner call answer sound are slabs its =
    omega (arith, (turn_left ledger thread inner call answer sound are).1, slabs, its.room)

-- A journal with the act of a call, behind those of its inner entries, is that of the run with the commit, where its
-- contents log has what is kept of the commit.
pub journal_on : (ledger : Ledger) (journal next : Journal) (thread : ℕ) (inner : List Body) (call : Call) (answer : Reply) (act : Option Act)
    → IsLedger (after_commit ledger thread inner call answer) → AreInner inner
    → act ≡ act_of_call (run_setting ledger) (run_behind ledger thread inner) thread call.op answer
    → length (run_state (after_commit ledger thread inner call answer)).slabs + length inner ≤ length (run_state ledger).slabs + 2
    → next.saved.items ≡ entered journal.saved.capacity journal.saved.items (saved_from ledger.options (run_setting ledger) (run_state ledger) (commit_entries (length ledger.entries) thread inner call answer))
    → next.acts ≡ journal.acts → next.saved.capacity ≡ journal.saved.capacity → next.saved.count ≡ journal.saved.count → length next.piece ≡ length journal.piece
    → IsJournalOf ledger journal → IsJournalOf (after_commit ledger thread inner call answer) (with_act next (length inner) act)
journal_on ledger journal next thread inner call answer act sound are its_act slabs saved acts capacity count piece its =
    let setting = run_setting ledger in
    let state = run_state ledger in
    let more = commit_entries (length ledger.entries) thread inner call answer in
    let last = entry (length ledger.entries + length inner) thread (body.Call call.op call.frames answer) in
    let none : Option Act = None in
    let room = saved_capacity ledger.options ledger.logging setting in
    let turns = turn_left ledger thread inner call answer sound are in
    record {
      acts = ap (λ a. a.items ++ (replicate (length inner) none ++ act ∷ [])) acts
          ∙ ap (λ (l : List (Option Act)). l ++ (replicate (length inner) none ++ act ∷ [])) its.acts
          ∙ ap (λ (a : Option Act). acts_from setting start_state ledger.entries ++ (replicate (length inner) none ++ a ∷ [])) its_act
          ∙ ap (λ (l : List (Option Act)). acts_from setting start_state ledger.entries ++ l) (sym (acts_behind setting state (length ledger.entries) thread inner last are))
          ∙ sym (acts_more setting ledger.entries more);
      room = omega (arith, ap (λ a. a.spare) acts, turns.0, turns.1, slabs, its.room);
      saved = saved ∙ ap (λ n. entered n journal.saved.items (saved_from ledger.options setting state more)) its.capacity
          ∙ ap (λ (l : List Saved). entered room l (saved_from ledger.options setting state more)) its.saved
          ∙ saved_log_more ledger.options setting room ledger.entries more;
      capacity = capacity ∙ its.capacity;
      count = count ∙ its.count;
      piece = piece ∙ its.piece;
    }

-- where nothing is given back, the contents log stays
pub journal_stays : (ledger : Ledger) (journal : Journal) (thread : ℕ) (inner : List Body) (call : Call) (answer : Reply) (act : Option Act)
    → IsLedger (after_commit ledger thread inner call answer) → AreInner inner → is_free call.op ≡ false
    → act ≡ act_of_call (run_setting ledger) (run_behind ledger thread inner) thread call.op answer
    → length (run_state (after_commit ledger thread inner call answer)).slabs + length inner ≤ length (run_state ledger).slabs + 2
    → IsJournalOf ledger journal → IsJournalOf (after_commit ledger thread inner call answer) (with_act journal (length inner) act)
journal_stays ledger journal thread inner call answer act sound are other its_act slabs its =
    let none = saved_none ledger.options (run_setting ledger) (run_state ledger) (length ledger.entries) thread inner call answer are other in
    journal_on ledger journal journal thread inner call answer act sound are its_act slabs
    (sym (ap (entered journal.saved.capacity journal.saved.items) none)) refl refl refl refl its
