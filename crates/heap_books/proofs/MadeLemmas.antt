-- Calls that were made and are entered in the journal: their kinds, their acts and their inner entries.
use Rattle.std.proofs.Common.{◌≡◌, ℕ, ◌+◌, ◌≤◌, Bool, true, false, cond, eqb, List, [], ◌∷◌, ◌++◌, length, Option, Some, None, refl, sym, ap, ◌∙◌, subst, arith}
use Rattle.std.specs.Option.{option_and_then, option_map}
use Rattle.std.proofs.lemmas.Bool.{eqb-true}
use Rattle.std.proofs.lemmas.List.{length-append, length-map}
use Rattle.std.proofs.lemmas.List.Sums.{fold-append}
use Rattle.script.specs.declared.operation.Op.{Op}
use Rattle.script.specs.declared.operation.Op.TheVariants.{Alloc, Zalloc, Free, CacheAlloc, CacheFree, Copy, Clear, Store, Link, Load, Reap}
use Rattle.script.specs.Plan.{Call}
use Rattle.plain_heap.specs.declared.entry.Body.{Body}
use Rattle.plain_heap.specs.declared.entry.Body.TheVariants as body
use Rattle.plain_heap.specs.declared.reply.Reply.{Reply}
use Rattle.plain_heap.specs.declared.reply.Reply.TheVariants as reply
use Rattle.plain_heap.specs.Calls.{due_call}
use Rattle.plain_heap.specs.Replies.{IsAllocReply, IsReply}
use Rattle.plain_heap.specs.Setting.{Setting}
use Rattle.plain_heap.specs.State.{HeapSlab, State, after_entry, chunk_number, slab_with_chunk, start_state}
use Rattle.heap_ledger.specs.declared.slab_at.SlabAt.{SlabAt}
use Rattle.heap_ledger.specs.Ledger.{AreInner, IsLedger, Ledger, after_commit, entry, grown, inner_entries, run_setting, run_state, shrunk}
use Rattle.heap_ledger.proofs.CommitLemmas.{shrinks_are_inner}
use Rattle.heap_ledger.proofs.EntriesLemmas.{inner_count}
use Rattle.heap_ledger.proofs.RoomLemmas.{call_slabs, call_stands, grown_stands, shrunk_after}
use Rattle.heap_logs.specs.declared.act.Act.{Act}
use Rattle.heap_logs.specs.Acts.{act_of_alloc, act_of_call}
use Rattle.heap_accounts.specs.Kinds.{is_chunk_call, is_free, is_large, is_plain_call, is_reap_call}
use Rattle.heap_accounts.specs.Turns.{due_of}
use Rattle.heap_books.specs.Books.{AreBooks}
use Rattle.heap_books.specs.Journal.{Journal, with_act}
use Rattle.heap_books.specs.Made.{IsLastMade, state_behind}
use Rattle.heap_books.proofs.JournalLemmas.{commit_step, journal_stays, room_left, run_behind}

-- ---- kinds of calls

-- a call that is due of a kind is of that kind
of_kind : (kind : Op → Bool) (due : Option Call) (call : Call) → option_and_then (λ its. cond (kind its.op) (Some its) None) due ≡ Some call → kind call.op ≡ true
of_kind kind None call is = absurd (cc is)
of_kind kind (Some its) call is = by_kind (kind its.op) refl
  where
    chosen : Bool → Option Call
    chosen b = cond b (Some its) None

    by_kind : (b : Bool) → kind its.op ≡ b → kind call.op ≡ true
    by_kind true same =
        let found : Some its ≡ Some call = sym (ap chosen same) ∙ is in
        let one : its ≡ call = cc found in
        ap (λ (c : Call). kind c.op) (sym one) ∙ same
    by_kind false same = let none : None ≡ Some call = sym (ap chosen same) ∙ is in absurd (cc none)

pub due_kind : (kind : Op → Bool) (ledger : Ledger) (thread number : ℕ) (call : Call) → due_of kind ledger thread number ≡ Some call → kind call.op ≡ true
due_kind kind ledger thread number call is = of_kind kind (due_call ledger.plan ledger.entries thread number) call is

-- what a kind of calls gives: nothing is given back, and how the act is told
module _ (setting : Setting) (state : State) (thread : ℕ) (answer : Reply) where
  no_bytes : (size : ℕ) → eqb size 0 ≡ true → IsAllocReply setting state size answer → act_of_alloc setting state answer ≡ None
  no_bytes size is replies = ap (act_of_alloc setting state) (subst (λ n. IsAllocReply setting state n answer) (eqb-true size 0 is) replies)

  pub plain_act : (op : Op) → is_plain_call op ≡ true → IsReply setting state thread op answer → (is_free op ≡ false) × (act_of_call setting state thread op answer ≡ None)
  plain_act (Alloc slot size) is replies = (refl, no_bytes size is replies)
  plain_act (Zalloc slot size) is replies = (refl, no_bytes size is replies)
  plain_act (Free slot size) is replies = absurd (cc is)
  plain_act (CacheAlloc slot cache) is replies = absurd (cc is)
  plain_act (CacheFree slot cache) is replies = absurd (cc is)
  plain_act (Copy to from) is replies = (refl, refl)
  plain_act (Clear slot) is replies = (refl, refl)
  plain_act (Store slot offset stored) is replies = (refl, refl)
  plain_act (Link slot offset value) is replies = (refl, refl)
  plain_act (Load to slot offset) is replies = (refl, refl)
  plain_act Reap is replies = absurd (cc is)

  pub reap_act : (op : Op) → is_reap_call op ≡ true → (is_free op ≡ false) × (act_of_call setting state thread op answer ≡ None)
  reap_act (Alloc slot size) is = absurd (cc is)
  reap_act (Zalloc slot size) is = absurd (cc is)
  reap_act (Free slot size) is = absurd (cc is)
  reap_act (CacheAlloc slot cache) is = absurd (cc is)
  reap_act (CacheFree slot cache) is = absurd (cc is)
  reap_act (Copy to from) is = absurd (cc is)
  reap_act (Clear slot) is = absurd (cc is)
  reap_act (Store slot offset stored) is = absurd (cc is)
  reap_act (Link slot offset value) is = absurd (cc is)
  reap_act (Load to slot offset) is = absurd (cc is)
  reap_act Reap is = (refl, refl)

  pub chunk_act : (op : Op) → is_chunk_call op ≡ true → (is_free op ≡ false) × (act_of_call setting state thread op answer ≡ act_of_alloc setting state answer)
  chunk_act (Alloc slot size) is = (refl, refl)
  chunk_act (Zalloc slot size) is = (refl, refl)
  chunk_act (Free slot size) is = absurd (cc is)
  chunk_act (CacheAlloc slot cache) is = (refl, refl)
  chunk_act (CacheFree slot cache) is = absurd (cc is)
  chunk_act (Copy to from) is = absurd (cc is)
  chunk_act (Clear slot) is = absurd (cc is)
  chunk_act (Store slot offset stored) is = absurd (cc is)
  chunk_act (Link slot offset value) is = absurd (cc is)
  chunk_act (Load to slot offset) is = absurd (cc is)
  chunk_act Reap is = absurd (cc is)

  pub large_act : (op : Op) → is_large op ≡ true → (is_free op ≡ false) × (act_of_call setting state thread op answer ≡ act_of_alloc setting state answer)
  large_act (Alloc slot size) is = (refl, refl)
  large_act (Zalloc slot size) is = (refl, refl)
  large_act (Free slot size) is = absurd (cc is)
  large_act (CacheAlloc slot cache) is = absurd (cc is)
  large_act (CacheFree slot cache) is = absurd (cc is)
  large_act (Copy to from) is = absurd (cc is)
  large_act (Clear slot) is = absurd (cc is)
  large_act (Store slot offset stored) is = absurd (cc is)
  large_act (Link slot offset value) is = absurd (cc is)
  large_act (Load to slot offset) is = absurd (cc is)
  large_act Reap is = absurd (cc is)

-- ---- acts of allocations

-- the act of an allocation depends on the slabs that stand alone
same_slabs : (setting : Setting) (one other : State) (answer : Reply) → one.slabs ≡ other.slabs → act_of_alloc setting one answer ≡ act_of_alloc setting other answer
same_slabs setting one other (reply.At address found) same =
    let act : HeapSlab → Act = λ slab. record { chunk = chunk_number setting slab address; address = address } in
    ap (λ (slabs : List HeapSlab). option_map act (slab_with_chunk setting slabs address)) same
same_slabs setting one other answer same = refl

-- the state behind inner entries, said over the state before them
behind_is : (ledger : Ledger) (thread : ℕ) (inner : List Body) → state_behind ledger thread inner ≡ run_behind ledger thread inner
behind_is ledger thread inner = fold-append (after_entry (run_setting ledger)) start_state ledger.entries (inner_entries (length ledger.entries) thread inner)

-- so it is the same by the state behind the call
pub act_behind : (old : Ledger) (thread : ℕ) (inner : List Body) (call : Call) (answer : Reply)
    → act_of_alloc (run_setting old) (run_state (after_commit old thread inner call answer)) answer ≡ act_of_alloc (run_setting old) (run_behind old thread inner) answer
act_behind old thread inner call answer =
    let setting = run_setting old in
    let behind = run_behind old thread inner in
    same_slabs setting (run_state (after_commit old thread inner call answer)) behind answer
    (ap (λ (s : State). s.slabs) (commit_step old thread inner call answer) ∙ call_slabs setting behind thread call.op answer)

-- ---- calls that were made

module _ (old new : Ledger) (journal : Journal) (books : AreBooks old journal) (thread : ℕ) (call : Call) (answer : Reply) (kind : is_free call.op ≡ false) (before : ℕ) (count : before ≡ length old.entries) (act : Option Act) where
  made_by : (inner : List Body) → AreInner inner → new ≡ after_commit old thread inner call answer
      → act ≡ act_of_call (run_setting old) (run_behind old thread inner) thread call.op answer
      → (IsLedger new → length (run_state new).slabs + length inner ≤ length (run_state old).slabs + 2) → IsLastMade new journal before act
  made_by inner are made its_act slabs = record {
    old = old;
    books = books;
    thread = thread;
    inner = inner;
    call = call;
    answer = answer;
    made = made;
    are_inner = are;
    kind = kind;
    count = count;
    its_act = its_act ∙ ap (λ (s : State). act_of_call (run_setting old) s thread call.op answer) (sym (behind_is old thread inner));
    slabs = slabs;
  }

  -- a call alone
  pub made_alone : new ≡ after_commit old thread [] call answer → act ≡ act_of_call (run_setting old) (run_state old) thread call.op answer → IsLastMade new journal before act
  made_alone made its_act =
      made_by [] tt made its_act
      (λ sound. omega (arith, ap (λ (l : Ledger). length (run_state l).slabs) made, call_stands (run_setting old) old.entries (length old.entries) thread call answer))

  -- a call behind a slab that was made for it
  pub made_grown : (slab : SlabAt) → new ≡ after_commit old thread (grown slab ∷ []) call answer
      → act ≡ act_of_call (run_setting old) (run_behind old thread (grown slab ∷ [])) thread call.op answer → IsLastMade new journal before act
  made_grown slab made its_act =
      made_by (grown slab ∷ []) (tt, tt) made its_act
      (λ sound. omega (arith, ap (λ (l : Ledger). length (run_state l).slabs) made, grown_stands (run_setting old) old.entries (length old.entries) thread slab call answer))

  -- a call behind slabs that were given back
  pub made_shrunk : (slabs : List SlabAt) → new ≡ after_commit old thread (shrunk slabs) call answer
      → act ≡ act_of_call (run_setting old) (run_behind old thread (shrunk slabs)) thread call.op answer → IsLastMade new journal before act
  made_shrunk slabs made its_act =
      let shrink : SlabAt → Body = λ slab. body.Shrink slab.cache slab.base in
      made_by (shrunk slabs) (shrinks_are_inner slabs) made its_act
      (λ sound. omega (arith, ap (λ (l : Ledger). length (run_state l).slabs) made, length-map slabs shrink, shrunk_after (run_setting old) slabs old.entries (length old.entries) thread call answer (subst (λ (l : Ledger). IsLedger l) made sound).legal))

-- ---- entering them

module _ (new : Ledger) (journal : Journal) (before : ℕ) (act : Option Act) (its : IsLastMade new journal before act) (sound : IsLedger new) where
  -- so many inner entries stand before the call
  pub made_inner : length new.entries ≡ before + (length its.inner + 1)
  made_inner =
      let old = its.old in
      let front = inner_entries (length old.entries) its.thread its.inner in
      let last = entry (length old.entries + length its.inner) its.thread (body.Call its.call.op its.call.frames its.answer) in
      omega (arith, ap (λ (l : Ledger). length l.entries) its.made, length-append old.entries (front ++ last ∷ []), length-append front (last ∷ []), inner_count (length old.entries) its.thread its.inner, its.count)

  after_sound : IsLedger (after_commit its.old its.thread its.inner its.call its.answer)
  after_sound = subst (λ (l : Ledger). IsLedger l) its.made sound

  slabs_few : length (run_state (after_commit its.old its.thread its.inner its.call its.answer)).slabs + length its.inner ≤ length (run_state its.old).slabs + 2
  slabs_few = subst (λ (l : Ledger). length (run_state l).slabs + length its.inner ≤ length (run_state its.old).slabs + 2) its.made (its.slabs sound)

  -- there is room for its act
  pub made_room : length its.inner + 1 ≤ journal.acts.spare
  made_room = room_left its.old journal its.thread its.inner its.call its.answer after_sound its.are_inner slabs_few its.books.journal

  -- and with it the books are those of the longer run
  pub made_kept : (inner : ℕ) (next : Journal) → inner ≡ length its.inner → next ≡ with_act journal inner act → AreBooks new next
  made_kept inner next same is =
      let old = its.old in
      let its_act = its.its_act ∙ ap (λ (s : State). act_of_call (run_setting old) s its.thread its.call.op its.answer) (behind_is old its.thread its.inner) in
      let on = journal_stays old journal its.thread its.inner its.call its.answer act after_sound its.are_inner its.kind its_act slabs_few its.books.journal in
      let entered : next ≡ with_act journal (length its.inner) act = is ∙ ap (λ n. with_act journal n act) same in
      let books : AreBooks (after_commit old its.thread its.inner its.call its.answer) (with_act journal (length its.inner) act) =
      record { options = its.books.options; logging = its.books.logging; journal = on } in
      subst (λ (l : Ledger). AreBooks l next) (sym its.made) (subst (λ (j : Journal). AreBooks (after_commit old its.thread its.inner its.call its.answer) j) (sym entered) books)
