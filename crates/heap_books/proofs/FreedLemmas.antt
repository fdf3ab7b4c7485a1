-- Frees that were made and are entered in the journal: their acts, and what is kept of the chunks that they gave back.
use Rattle.std.proofs.Common.{◌≡◌, ℕ, ◌+◌, ◌≤◌, Bool, true, false, cond, List, [], ◌∷◌, length, take, Option, Some, None, refl, sym, ap, ◌∙◌, subst, arith}
use Rattle.std.specs.Prelude.{IfSome, is_some}
use Rattle.std.specs.Option.{option_and_then, option_map}
use Rattle.umem_options.specs.declared.options.Options.{Options}
use Rattle.umem_options.specs.Flags.{has_audit}
use Rattle.trans_log.specs.declared.record.Saved.{Saved}
use Rattle.trans_log.specs.Last.{entered}
use Rattle.trans_log.specs.SavedLog.{saved_item}
use Rattle.script.specs.declared.operation.Op.{Op}
use Rattle.script.specs.declared.operation.Op.TheVariants.{Alloc, Zalloc, Free, CacheAlloc, CacheFree, Copy, Clear, Store, Link, Load, Reap}
use Rattle.script.specs.Plan.{Call}
use Rattle.plain_heap.specs.declared.reply.Reply.{Reply}
use Rattle.plain_heap.specs.declared.reply.Reply.TheVariants as reply
use Rattle.plain_heap.specs.Bytes.{bytes_from}
use Rattle.plain_heap.specs.Calls.{due_call}
use Rattle.plain_heap.specs.Setting.{Setting, cache_def_in}
use Rattle.plain_heap.specs.State.{HeapSlab, State, chunk_number, slab_with_chunk, word_of_slot}
use Rattle.heap_ledger.specs.Ledger.{IsLedger, Ledger, after_commit, run_setting, run_state}
use Rattle.heap_ledger.proofs.RoomLemmas.{call_stands}
use Rattle.heap_logs.specs.declared.act.Act.{Act}
use Rattle.heap_logs.specs.Acts.{act_of_call}
use Rattle.heap_logs.specs.Saved.{behind_item, saved_length, saved_of_call}
use Rattle.heap_slabs.specs.declared.placed.Placed.{Placed}
use Rattle.heap_slabs.specs.Chunks.{placed_at}
use Rattle.heap_accounts.specs.Frees.{freed_by, freed_next, placed_in_slot}
use Rattle.heap_accounts.specs.Kinds.{freed_slot, is_free}
use Rattle.heap_books.specs.Books.{AreBooks}
use Rattle.heap_books.specs.Freed.{IsFreed, IsNoted, chunk_back, saved_if}
use Rattle.heap_books.specs.Journal.{Journal, with_act}
use Rattle.heap_books.proofs.JournalLemmas.{journal_on, room_left}

-- ---- what a free does, told by the chunk at its word

-- the act on a chunk
abbrev pub act_on : Placed → Act
act_on placed = record { chunk = placed.chunk.number; address = placed.chunk.address }

-- what is kept of a chunk
abbrev pub kept_of : Options → Setting → State → ℕ → Placed → Saved
kept_of options setting state number placed =
    saved_item number placed.chunk.number (bytes_from state.bytes placed.chunk.address (saved_length options (cache_def_in setting placed.cache).size))

module _ (options : Options) (setting : Setting) (state : State) (number thread : ℕ) where
  -- both of a free of the word of a slot
  record IsToldBy (placed : Option Placed) (op : Op) (answer : Reply) : Type 0 where
    act : option_map act_on (chunk_back answer placed) ≡ act_of_call setting state thread op answer
    kept : option_map (kept_of options setting state number) (chunk_back answer placed) ≡ saved_of_call options setting state number thread op answer

  found_act : (word : ℕ) (found : Option HeapSlab)
      → option_map act_on (option_map (λ (slab : HeapSlab). record { chunk = record { address = word; number = chunk_number setting slab word }; cache = slab.cache }) found)
      ≡ option_map (λ (slab : HeapSlab). record { chunk = chunk_number setting slab word; address = word }) found
  found_act word None = refl
  found_act word (Some slab) = refl

  found_kept : (word : ℕ) (found : Option HeapSlab)
      → option_map (kept_of options setting state number) (option_map (λ (slab : HeapSlab). record { chunk = record { address = word; number = chunk_number setting slab word }; cache = slab.cache }) found)
      ≡ option_map (λ (slab : HeapSlab). saved_item number (chunk_number setting slab word) (bytes_from state.bytes word (saved_length options (cache_def_in setting slab.cache).size))) found
  found_kept word None = refl
  found_kept word (Some slab) = refl

  told_free : (slot size : ℕ) (answer : Reply) → IsToldBy (placed_at setting state (word_of_slot state thread slot)) (Free slot size) answer
  told_free slot size reply.Ok =
      let word = word_of_slot state thread slot in
      record { act = found_act word (slab_with_chunk setting state.slabs word); kept = found_kept word (slab_with_chunk setting state.slabs word) }
  told_free slot size reply.Null = record { act = refl; kept = refl }
  told_free slot size reply.NoSpace = record { act = refl; kept = refl }
  told_free slot size (reply.At address report) = record { act = refl; kept = refl }
  told_free slot size reply.Dup = record { act = refl; kept = refl }
  told_free slot size reply.BadAddr = record { act = refl; kept = refl }
  told_free slot size reply.BadCache = record { act = refl; kept = refl }
  told_free slot size reply.BadSize = record { act = refl; kept = refl }
  told_free slot size reply.Redzone = record { act = refl; kept = refl }
  told_free slot size reply.Fault = record { act = refl; kept = refl }
  told_free slot size (reply.Word value) = record { act = refl; kept = refl }

  told_cache_free : (slot cache : ℕ) (answer : Reply) → IsToldBy (placed_at setting state (word_of_slot state thread slot)) (CacheFree slot cache) answer
  told_cache_free slot cache reply.Ok =
      let word = word_of_slot state thread slot in
      record { act = found_act word (slab_with_chunk setting state.slabs word); kept = found_kept word (slab_with_chunk setting state.slabs word) }
  told_cache_free slot cache reply.Null = record { act = refl; kept = refl }
  told_cache_free slot cache reply.NoSpace = record { act = refl; kept = refl }
  told_cache_free slot cache (reply.At address report) = record { act = refl; kept = refl }
  told_cache_free slot cache reply.Dup = record { act = refl; kept = refl }
  told_cache_free slot cache reply.BadAddr = record { act = refl; kept = refl }
  told_cache_free slot cache reply.BadCache = record { act = refl; kept = refl }
  told_cache_free slot cache reply.BadSize = record { act = refl; kept = refl }
  told_cache_free slot cache reply.Redzone = record { act = refl; kept = refl }
  told_cache_free slot cache reply.Fault = record { act = refl; kept = refl }
  told_cache_free slot cache (reply.Word value) = record { act = refl; kept = refl }

  at_slot : (slot own : ℕ) (placed : Option Placed) → Some own ≡ Some slot → placed ≡ placed_at setting state (word_of_slot state thread slot) → placed_at setting state (word_of_slot state thread own) ≡ placed
  at_slot slot own placed same began =
      let one : own ≡ slot = cc same in
      ap (λ (s : ℕ). placed_at setting state (word_of_slot state thread s)) one ∙ sym began

  told_by : (op : Op) (slot : ℕ) (answer : Reply) (placed : Option Placed) → freed_slot op ≡ Some slot → placed ≡ placed_at setting state (word_of_slot state thread slot) → IsToldBy placed op answer
  told_by (Free own size) slot answer placed frees began = subst (λ (p : Option Placed). IsToldBy p (Free own size) answer) (at_slot slot own placed frees began) (told_free own size answer)
  told_by (CacheFree own cache) slot answer placed frees began = subst (λ (p : Option Placed). IsToldBy p (CacheFree own cache) answer) (at_slot slot own placed frees began) (told_cache_free own cache answer)
  told_by (Alloc own size) slot answer placed frees began = absurd (cc frees)
  told_by (Zalloc own size) slot answer placed frees began = absurd (cc frees)
  told_by (CacheAlloc own cache) slot answer placed frees began = absurd (cc frees)
  told_by (Copy to from) slot answer placed frees began = absurd (cc frees)
  told_by (Clear own) slot answer placed frees began = absurd (cc frees)
  told_by (Store own offset stored) slot answer placed frees began = absurd (cc frees)
  told_by (Link own offset value) slot answer placed frees began = absurd (cc frees)
  told_by (Load to from offset) slot answer placed frees began = absurd (cc frees)
  told_by Reap slot answer placed frees began = absurd (cc frees)

-- ---- entering them

none_kept : (audited : Bool) → behind_item (cond audited None None) [] ≡ []
none_kept true = refl
none_kept false = refl

module _ (new : Ledger) (journal : Journal) (time : ℕ) (answer : Reply) (placed : Option Placed) (count : ℕ) (its : IsFreed new journal time answer placed count) (sound : IsLedger new) where
  after_sound : IsLedger (after_commit its.old its.thread [] its.call answer)
  after_sound = subst (λ (l : Ledger). IsLedger l) its.made sound

  slabs_few : length (run_state (after_commit its.old its.thread [] its.call answer)).slabs + length {A = Unit {0}} [] ≤ length (run_state its.old).slabs + 2
  slabs_few = omega (arith, call_stands (run_setting its.old) its.old.entries (length its.old.entries) its.thread its.call answer)

  -- there is room for its act
  pub freed_room : 1 ≤ journal.acts.spare
  freed_room = omega (arith, room_left its.old journal its.thread [] its.call answer after_sound tt (omega (arith, slabs_few)) its.books.journal)

  told : IsToldBy its.old.options (run_setting its.old) (run_state its.old) (length its.old.entries + 0) its.thread placed its.call.op answer
  told = told_by its.old.options (run_setting its.old) (run_state its.old) (length its.old.entries + 0) its.thread its.call.op its.slot answer placed its.frees its.began

  -- the books of the run with a free, whose contents log has what is kept of it
  books_on : (next : Journal) (act : Option Act) → act ≡ option_map act_on (chunk_back answer placed)
      → next.saved.items ≡ entered journal.saved.capacity journal.saved.items
      (behind_item (cond (has_audit its.old.options) (option_map (kept_of its.old.options (run_setting its.old) (run_state its.old) (length its.old.entries + 0)) (chunk_back answer placed)) None) [])
      → next.acts ≡ journal.acts → next.saved.capacity ≡ journal.saved.capacity → next.saved.count ≡ journal.saved.count → length next.piece ≡ length journal.piece
      → (entered_next : Journal) → entered_next ≡ with_act next 0 act → AreBooks new entered_next
  books_on next act is saved acts capacity counts piece entered_next made =
      let old = its.old in
      let items = saved ∙ ap (λ (o : Option Saved). entered journal.saved.capacity journal.saved.items (behind_item (cond (has_audit old.options) o None) [])) told.kept in
      let on = journal_on old journal next its.thread [] its.call answer act after_sound tt (is ∙ told.act) (omega (arith, slabs_few)) items acts capacity counts piece its.books.journal in
      let books : AreBooks (after_commit old its.thread [] its.call answer) (with_act next 0 act) = record { options = its.books.options; logging = its.books.logging; journal = on } in
      subst (λ (l : Ledger). AreBooks l entered_next) (sym its.made) (subst (λ (j : Journal). AreBooks (after_commit old its.thread [] its.call answer) j) (sym made) books)

  -- where nothing was given back
  pub books_without : chunk_back answer placed ≡ None → (entered_next : Journal) → entered_next ≡ with_act journal 0 None → AreBooks new entered_next
  books_without none entered_next made =
      let old = its.old in
      let kept = ap (λ (o : Option Placed). option_map (kept_of old.options (run_setting old) (run_state old) (length old.entries + 0)) o) none in
      let items = ap (λ (o : Option Saved). behind_item (cond (has_audit old.options) o None) []) kept ∙ none_kept (has_audit old.options) in
      books_on journal None (sym (ap (option_map act_on) none)) (sym (ap (entered journal.saved.capacity journal.saved.items) items)) refl refl refl refl entered_next made

  -- where a chunk was
  pub books_with : (back : Placed) → chunk_back answer placed ≡ Some back → IsNoted its.old journal back count → (next entered_next : Journal)
      → next ≡ saved_if (has_audit its.old.options) journal time back.chunk.number count → entered_next ≡ with_act next 0 (Some (act_on back)) → AreBooks new entered_next
  books_with back some noted next entered_next saves made =
      let old = its.old in
      let kept = ap (option_map (kept_of old.options (run_setting old) (run_state old) (length old.entries + 0))) some in
      by_audit (has_audit old.options) refl kept
    where
      by_audit : (audited : Bool) → has_audit its.old.options ≡ audited
          → option_map (kept_of its.old.options (run_setting its.old) (run_state its.old) (length its.old.entries + 0)) (chunk_back answer placed)
          ≡ Some (kept_of its.old.options (run_setting its.old) (run_state its.old) (length its.old.entries + 0) back)
          → AreBooks new entered_next
      by_audit true on kept =
          let old = its.old in
          let is : next ≡ saved_if true journal time back.chunk.number count = saves ∙ ap (λ (b : Bool). saved_if b journal time back.chunk.number count) on in
          let item : saved_item time back.chunk.number (take count journal.piece) ≡ kept_of old.options (run_setting old) (run_state old) (length old.entries + 0) back =
          ap (λ (bytes : List ℕ). saved_item time back.chunk.number bytes) noted.bytes
          ∙ ap (λ (n : ℕ). saved_item n back.chunk.number (bytes_from (run_state old).bytes back.chunk.address (saved_length old.options (cache_def_in (run_setting old) back.cache).size))) (omega (arith, its.at)) in
          books_on next (Some (act_on back)) (sym (ap (option_map act_on) some))
          (ap (λ (j : Journal). j.saved.items) is
          ∙ ap (λ (s : Saved). entered journal.saved.capacity journal.saved.items (s ∷ [])) item
          ∙ sym (ap (λ (o : Option Saved). entered journal.saved.capacity journal.saved.items (behind_item o []))
          (ap (λ (b : Bool). cond b (option_map (kept_of old.options (run_setting old) (run_state old) (length old.entries + 0)) (chunk_back answer placed)) None) on ∙ kept)))
          (ap (λ (j : Journal). j.acts) is) (ap (λ (j : Journal). j.saved.capacity) is) (ap (λ (j : Journal). j.saved.count) is) (ap (λ (j : Journal). length j.piece) is) entered_next made
      by_audit false off kept =
          let old = its.old in
          let is : next ≡ journal = saves ∙ ap (λ (b : Bool). saved_if b journal time back.chunk.number count) off in
          books_on next (Some (act_on back)) (sym (ap (option_map act_on) some))
          (ap (λ (j : Journal). j.saved.items) is
          ∙ sym (ap (λ (b : Bool). entered journal.saved.capacity journal.saved.items
          (behind_item (cond b (option_map (kept_of old.options (run_setting old) (run_state old) (length old.entries + 0)) (chunk_back answer placed)) None) [])) off))
          (ap (λ (j : Journal). j.acts) is) (ap (λ (j : Journal). j.saved.capacity) is) (ap (λ (j : Journal). j.saved.count) is) (ap (λ (j : Journal). length j.piece) is) entered_next made

-- ---- what is known before

-- the acts stay where something is saved
pub acts_stay : (audited : Bool) (journal : Journal) (time chunk count : ℕ) → (saved_if audited journal time chunk count).acts ≡ journal.acts
acts_stay true journal time chunk count = refl
acts_stay false journal time chunk count = refl

-- what was given back began at the word
pub back_is : (answer : Reply) (placed : Option Placed) (back : Placed) → chunk_back answer placed ≡ Some back → placed ≡ Some back
back_is reply.Ok placed back is = is
back_is reply.Null placed back is = absurd (cc is)
back_is reply.NoSpace placed back is = absurd (cc is)
back_is (reply.At address report) placed back is = absurd (cc is)
back_is reply.Dup placed back is = absurd (cc is)
back_is reply.BadAddr placed back is = absurd (cc is)
back_is reply.BadCache placed back is = absurd (cc is)
back_is reply.BadSize placed back is = absurd (cc is)
back_is reply.Redzone placed back is = absurd (cc is)
back_is reply.Fault placed back is = absurd (cc is)
back_is (reply.Word value) placed back is = absurd (cc is)

pub noted_back : (ledger : Ledger) (journal : Journal) (count : ℕ) (placed : Option Placed) (back : Placed) → placed ≡ Some back → IfSome placed (λ its. IsNoted ledger journal its count) → IsNoted ledger journal back count
noted_back ledger journal count None back is noted = absurd (cc is)
noted_back ledger journal count (Some its) back is noted = let one : its ≡ back = cc is in subst (λ (p : Placed). IsNoted ledger journal p count) one noted

-- a thing that is none of some is none
pub none_of : {X : Type 0} (o : Option X) → ((x : X) → o ≡ Some x → ⊥) → o ≡ None
none_of None other = refl
none_of (Some x) other = absurd (other x refl)

-- the slot of a free
pub record HasSlotFreed (op : Op) : Type 0 where
  pub slot : ℕ
  pub is : freed_slot op ≡ Some slot

pub slot_freed : (op : Op) → is_free op ≡ true → HasSlotFreed op
slot_freed op is = go (freed_slot op) refl is
  where
    go : (o : Option ℕ) → freed_slot op ≡ o → is_some o ≡ true → HasSlotFreed op
    go None same is = absurd (cc is)
    go (Some slot) same is = record { slot = slot; is = same }

-- a call that is due of a kind is due
pub due_whole : (kind : Op → Bool) (due : Option Call) (call : Call) → option_and_then (λ its. cond (kind its.op) (Some its) None) due ≡ Some call → due ≡ Some call
due_whole kind None call is = absurd (cc is)
due_whole kind (Some its) call is = by_kind (kind its.op) refl
  where
    chosen : Bool → Option Call
    chosen b = cond b (Some its) None

    by_kind : (b : Bool) → kind its.op ≡ b → Some its ≡ Some call
    by_kind true same = sym (ap chosen same) ∙ is
    by_kind false same = let none : None ≡ Some call = sym (ap chosen same) ∙ is in absurd (cc none)

-- the chunk at the word of the slot that is freed next
pub began_there : (ledger : Ledger) (thread number slot : ℕ) (call : Call) (placed : Option Placed) → due_call ledger.plan ledger.entries thread number ≡ Some call → freed_slot call.op ≡ Some slot
    → placed ≡ freed_next ledger thread number → placed ≡ placed_at (run_setting ledger) (run_state ledger) (word_of_slot (run_state ledger) thread slot)
began_there ledger thread number slot call placed due frees is =
    is ∙ ap (option_and_then (freed_by ledger thread)) due ∙ ap (option_and_then (placed_in_slot ledger thread)) frees
