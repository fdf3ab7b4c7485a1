-- A placed history stays placed by what a call adds.
use Rattle.std.proofs.Common.{◌≡◌, ℕ, zero, suc, ◌+◌, List, [], ◌∷◌, ◌++◌, length, take, Option, Some, None, refl, sym, ap, ◌∙◌, subst, arith, inl, inr}
use Rattle.std.specs.List.{slice_get}
use Rattle.std.specs.Option.{option_map}
use Rattle.std.proofs.lemmas.List.{append_assoc, append-nil}
use Rattle.std.proofs.Math.Seq.{take-append_seam}
use Rattle.case_table.specs.Sizes.{class_for}
use Rattle.script.specs.declared.operation.Op.{Op}
use Rattle.script.specs.declared.operation.Op.TheVariants.{Alloc, Zalloc, Free, CacheAlloc, CacheFree, Copy, Clear, Store, Link, Load, Reap}
use Rattle.script.specs.Plan.{Call}
use Rattle.shelf.specs.Steps.{InHand, chunk_in, taken_any, taken_from}
use Rattle.shelf.specs.Stock.{Stock}
use Rattle.plain_heap.specs.declared.entry.Body.{Body}
use Rattle.plain_heap.specs.declared.entry.Body.TheVariants as body
use Rattle.plain_heap.specs.declared.entry.Entry.{Entry}
use Rattle.plain_heap.specs.declared.reply.Reply.{Reply}
use Rattle.plain_heap.specs.Setting.{Setting}
use Rattle.plain_heap.specs.State.{State, new_slab, state_of}
use Rattle.plain_heap.proofs.EntryLemmas.{get_either, take_front}
use Rattle.heap_ledger.specs.declared.slab_at.SlabAt.{SlabAt}
use Rattle.heap_ledger.specs.Ledger.{commit_entries, entry, inner_entries, shrunk}
use Rattle.heap_accounts.specs.Laws.{PlacedHistoriesGrow, at_rest}
use Rattle.heap_accounts.specs.Performed.{IsFoundWithin, IsFoundAnyhow, IsHandedOut, IsPerformed, IsPerformedChunk, IsPerformedRequest, answer_at}
use Rattle.heap_accounts.specs.Placed.{IsAnsweredAnyhow, IsAnsweredFirst, IsAnsweredWith, IsAnsweredWithin, IsPlaced, IsPlacedBody, IsPlacedCall, IsPlacedChunk, IsPlacedRequest}
use Rattle.heap_accounts.specs.Places.{Places, Placing, address_of, cpu_of, placing_by, placing_of, places_of, stock_at}
use Rattle.heap_accounts.proofs.PlacingLemmas.{legal_at_rest, one_placing}

-- ---- entries behind a placed history

-- entries keep the magazine rules behind what others left
abbrev pub ArePlaced : Setting → Placing → List Entry → Type 0
ArePlaced setting placing [] = Unit {0}
ArePlaced setting placing (first ∷ more) = IsPlacedBody setting placing first.thread first.body × ArePlaced setting (placing_by setting placing first) more

placed_one : (setting : Setting) (entries : List Entry) (last : Entry) → IsPlaced setting entries → IsPlacedBody setting (placing_of setting entries) last.thread last.body → IsPlaced setting (entries ++ last ∷ [])
placed_one setting entries last placed here n e at = elim (get_either entries (last ∷ []) n e at) [
  | inl front ↦ subst (λ (l : List Entry). IsPlacedBody setting (placing_of setting l) e.thread e.body) (sym (take_front entries (last ∷ []) n e front)) (placed n e front)
  | inr there ↦ at_end there.0 there.1 there.2
]
  where
    at_end : (k : ℕ) → n ≡ length entries + k → slice_get (last ∷ []) k ≡ Some e → IsPlacedBody setting (placing_of setting (take n (entries ++ last ∷ []))) e.thread e.body
    at_end zero is found =
        let same : last ≡ e = cc in
        let end : n ≡ length entries = omega arith in
        let front : take n (entries ++ last ∷ []) ≡ entries = ap (λ i. take i (entries ++ last ∷ [])) end ∙ take-append_seam entries (last ∷ []) in
        subst (λ (l : List Entry). IsPlacedBody setting (placing_of setting l) e.thread e.body) (sym front)
        (subst (λ (x : Entry). IsPlacedBody setting (placing_of setting entries) x.thread x.body) same here)
    at_end (suc k) is found = absurd (cc found)

pub placed_behind : (setting : Setting) (entries more : List Entry) → IsPlaced setting entries → ArePlaced setting (placing_of setting entries) more → IsPlaced setting (entries ++ more)
placed_behind setting entries [] placed are = subst (IsPlaced setting) (sym (append-nil entries)) placed
placed_behind setting entries (first ∷ more) placed are =
    let longer = placed_one setting entries first placed are.0 in
    let rest = subst (λ (p : Placing). ArePlaced setting p more) (sym (one_placing setting entries first)) are.1 in
    subst (IsPlaced setting) (append_assoc entries (first ∷ []) more) (placed_behind setting (entries ++ first ∷ []) more longer rest)

-- ---- answers

-- what is known of an answer with a chunk
pub record HandsOut (setting : Setting) (state : State) (chunk : ℕ) (answer : Reply) : Type 0 where
  pub address : ℕ
  pub there : address_of setting state chunk ≡ Some address
  pub its : answer ≡ answer_at setting state address

pub hands_out : (setting : Setting) (state : State) (chunk : ℕ) (answer : Reply) → IsHandedOut setting state chunk answer → HandsOut setting state chunk answer
hands_out setting state chunk answer handed = by_address (address_of setting state chunk) refl handed
  where
    by_address : (o : Option ℕ) → address_of setting state chunk ≡ o → option_map (answer_at setting state) o ≡ Some answer → HandsOut setting state chunk answer
    by_address None is h = absurd (cc h)
    by_address (Some address) is h = record { address = address; there = is; its = some_is h }
      where
        some_is : Some (answer_at setting state address) ≡ Some answer → answer ≡ answer_at setting state address
        some_is h = cc

with_chunk : (setting : Setting) (state : State) (chunk : ℕ) (answer : Reply) → IsHandedOut setting state chunk answer → IsAnsweredWith setting state chunk answer
with_chunk setting state chunk answer handed =
    let h = hands_out setting state chunk answer handed in
    subst (IsAnsweredWith setting state chunk) (sym h.its) h.there

anyhow : (setting : Setting) (state : State) (chunk : Option ℕ) (answer : Reply) → IsFoundAnyhow setting state chunk answer → IsAnsweredAnyhow setting state chunk answer
anyhow setting state None answer found = found
anyhow setting state (Some chunk) answer found = with_chunk setting state chunk answer found

-- ---- what calls add

module _ (setting : Setting) (state : State) (places : Places) (number thread : ℕ) (call : Call) (answer : Reply) where
  -- a call without inner entries
  alone : (inner : List Body) → inner ≡ [] → IsPlacedCall setting (at_rest state places) thread call.op answer → ArePlaced setting (at_rest state places) (commit_entries number thread inner call answer)
  alone inner none placed = subst (λ (i : List Body). ArePlaced setting (at_rest state places) (commit_entries number thread i call answer)) (sym none) (placed, tt)

  -- what is found within reach, and what by looking at all CPUs
  abbrev reached : ℕ → Option (InHand Stock)
  reached cache = taken_from (stock_at places cache) (cpu_of setting thread)

  abbrev anywhere : ℕ → Option ℕ
  anywhere cache = chunk_in (taken_any (stock_at places cache) (cpu_of setting thread))

  -- a call that asks a chunk of a cache
  found : (cache : ℕ) → ((placing : Placing) → IsPlacedChunk setting placing.state placing.places placing.made thread cache answer → IsPlacedCall setting placing thread call.op answer)
      → (from : Option (InHand Stock)) → reached cache ≡ from → (inner : List Body) → IsFoundWithin setting state cache (chunk_in from) (anywhere cache) inner answer
      → ArePlaced setting (at_rest state places) (commit_entries number thread inner call answer)
  found cache asks (Some hand) is inner f =
      let within = subst (λ (o : Option (InHand Stock)). IsAnsweredWithin setting state cache (chunk_in o) (anywhere cache) answer) (sym is) (with_chunk setting state hand.chunk answer f.1) in
      alone inner f.0 (asks (at_rest state places) within)
  found cache asks None is [] f =
      let within = subst (λ (o : Option (InHand Stock)). IsAnsweredWithin setting state cache (chunk_in o) (anywhere cache) answer) (sym is) (f.0, anyhow setting state (anywhere cache) answer f.1) in
      (asks (at_rest state places) within, tt)
  found cache asks None is (body.Grow its base ∷ []) f =
      let grow = entry number thread (body.Grow its base) in
      let none = subst (λ c. reached c ≡ None) (sym f.0) is in
      let first : IsAnsweredFirst setting (new_slab setting state cache base) answer = subst (IsAnsweredFirst setting (new_slab setting state cache base)) (sym f.2) refl in
      (none, (asks (placing_by setting (at_rest state places) grow) (f.0, subst (λ c. IsAnsweredFirst setting (new_slab setting state c base) answer) (sym f.0) first), tt))
  found cache asks None is (body.Grow its base ∷ second ∷ inner) f = absurd f
  found cache asks None is (body.Shrink its base ∷ inner) f = absurd f
  found cache asks None is (body.Call op frames told ∷ inner) f = absurd f

  chunk : (cache : ℕ) → ((placing : Placing) → IsPlacedChunk setting placing.state placing.places placing.made thread cache answer → IsPlacedCall setting placing thread call.op answer)
      → (inner : List Body) → IsPerformedChunk setting state places thread cache inner answer → ArePlaced setting (at_rest state places) (commit_entries number thread inner call answer)
  chunk cache asks inner performed = found cache asks (reached cache) refl inner performed

  -- a call that asks bytes
  request : (asked : Option ℕ) → ((placing : Placing) → IsPlacedRequest setting placing.state placing.places placing.made thread asked answer → IsPlacedCall setting placing thread call.op answer)
      → (inner : List Body) → IsPerformedRequest setting state places thread call.op asked inner answer → ArePlaced setting (at_rest state places) (commit_entries number thread inner call answer)
  request None asks inner performed = alone inner performed.0 (asks (at_rest state places) refl)
  request (Some class) asks inner performed = chunk class asks inner performed

-- shrinks and their reap
reap : (setting : Setting) (placing : Placing) (number last thread : ℕ) (slabs : List SlabAt) (frames : List ℕ) (answer : Reply) → placing.made ≡ None
    → ArePlaced setting placing (inner_entries number thread (shrunk slabs) ++ entry last thread (body.Call Reap frames answer) ∷ [])
reap setting placing number last thread [] frames answer none = (none, tt)
reap setting placing number last thread (slab ∷ slabs) frames answer none =
    (tt, reap setting (placing_by setting placing (entry number thread (body.Shrink slab.cache slab.base))) (number + 1) last thread slabs frames answer refl)

performs : (setting : Setting) (state : State) (places : Places) (number thread : ℕ) (op : Op) (frames : List ℕ) (inner : List Body) (answer : Reply)
    → IsPerformed setting state places thread op inner answer → ArePlaced setting (at_rest state places) (commit_entries number thread inner (record { op = op; frames = frames }) answer)
performs setting state places number thread (Alloc slot size) frames inner answer performed =
    request setting state places number thread (record { op = Alloc slot size; frames = frames }) answer (class_for size) (λ placing placed. placed) inner performed
performs setting state places number thread (Zalloc slot size) frames inner answer performed =
    request setting state places number thread (record { op = Zalloc slot size; frames = frames }) answer (class_for size) (λ placing placed. placed) inner performed
performs setting state places number thread (CacheAlloc slot cache) frames inner answer performed =
    chunk setting state places number thread (record { op = CacheAlloc slot cache; frames = frames }) answer cache (λ placing placed. placed) inner performed
performs setting state places number thread (Free slot size) frames inner answer performed =
    alone setting state places number thread (record { op = Free slot size; frames = frames }) answer inner performed.0 refl
performs setting state places number thread (CacheFree slot cache) frames inner answer performed =
    alone setting state places number thread (record { op = CacheFree slot cache; frames = frames }) answer inner performed.0 refl
performs setting state places number thread (Copy to from) frames inner answer performed =
    alone setting state places number thread (record { op = Copy to from; frames = frames }) answer inner performed.0 refl
performs setting state places number thread (Clear slot) frames inner answer performed =
    alone setting state places number thread (record { op = Clear slot; frames = frames }) answer inner performed.0 refl
performs setting state places number thread (Store slot offset stored) frames inner answer performed =
    alone setting state places number thread (record { op = Store slot offset stored; frames = frames }) answer inner performed.0 refl
performs setting state places number thread (Link slot offset value) frames inner answer performed =
    alone setting state places number thread (record { op = Link slot offset value; frames = frames }) answer inner performed.0 refl
performs setting state places number thread (Load to slot offset) frames inner answer performed =
    alone setting state places number thread (record { op = Load to slot offset; frames = frames }) answer inner performed.0 refl
performs setting state places number thread Reap frames inner answer performed =
    subst (λ (i : List Body). ArePlaced setting (at_rest state places) (commit_entries number thread i (record { op = Reap; frames = frames }) answer)) (sym performed.shrinks)
    (reap setting (at_rest state places) number (number + length (shrunk performed.slabs)) thread performed.slabs frames answer refl)

pub placed_grow : PlacedHistoriesGrow
placed_grow setting entries number thread inner call answer legal placed performed =
    let are = performs setting (state_of setting entries) (places_of setting entries) number thread call.op call.frames inner answer performed in
    placed_behind setting entries (commit_entries number thread inner call answer) placed
    (subst (λ (p : Placing). ArePlaced setting p (commit_entries number thread inner call answer)) (sym (legal_at_rest setting entries legal)) are)
