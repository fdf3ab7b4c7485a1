-- Of the answers that are allowed to a call, no two are printed alike.
use Rattle.std.proofs.Common.{◌≡◌, ℕ, zero, suc, ◌+◌, ◌*◌, ◌^◌, ◌<◌, ◌≤◌, Bool, true, false, cond, eqb, List, [], ◌∷◌, ◌++◌, drop, Option, Some, None, append_assoc, refl, sym, ap, ◌∙◌, arith}
use Rattle.std.specs.Prelude.{Contains, codes, decimal}
use Rattle.std.proofs.lemmas.Bool.{eq-eqb, false≢true}
use Rattle.std.proofs.lemmas.List.{append_cancel_left}
use Rattle.std.proofs.lemmas.List.Elements.{All-contains}
use Rattle.umem_base.specs.declared.arena.TheConstants.{ARENA_BASE, FIRST_ARENA_PAGES, LATER_ARENA_PAGES}
use Rattle.umem_base.specs.declared.pages.TheConstants.{PAGE_BYTES}
use Rattle.umem_base.specs.Numbers.{hexadecimal}
use Rattle.umem_base.specs.Pages.{IsFreeRun, pages_for}
use Rattle.umem_base.specs.Roots.{arena_end}
use Rattle.case_table.specs.Sizes.{class_for}
use Rattle.script.specs.declared.operation.Op.{Op}
use Rattle.script.specs.declared.operation.Op.TheVariants.{Alloc, Zalloc, Free, CacheAlloc, CacheFree, Copy, Clear, Store, Link, Load, Reap}
use Rattle.script.specs.Rules.{IsHeader}
use Rattle.plain_heap.specs.declared.reply.Reply.{Reply}
use Rattle.plain_heap.specs.declared.reply.Reply.TheVariants as reply
use Rattle.plain_heap.specs.declared.reply.Report.{Report}
use Rattle.plain_heap.specs.declared.reply.Report.TheVariants as report
use Rattle.plain_heap.specs.Replies.{IsAllocReply, IsCacheReply, IsLargeReply, IsReply, IsSomeReply, report_at}
use Rattle.plain_heap.specs.Setting.{Setting}
use Rattle.plain_heap.specs.State.{HeapSlab, IsChunkOfCache, IsFreePage, State, span_of_slab}
use Rattle.plain_heap.specs.Texts.{reply_text, report_text}
use Rattle.plain_heap.proofs.CutLemmas.{IsSomeDigit, alike_hex, end_is_none, space_is_none}
use Rattle.plain_heap.proofs.PlacesLemmas.{AreInPlace, IsInArena, chunk_in_slab, is_cache_of}

-- ---- texts that begin unlike

-- the first byte of a text, and 0 where there is none
abbrev pub first_byte : List ℕ → ℕ
first_byte [] = 0
first_byte (c ∷ cs) = c

pub unlike : (a b : ℕ) → eqb a b ≡ false → a ≡ b → ⊥
unlike a b h e = false≢true (sym h ∙ eq-eqb a b e)

-- ---- an address and its report

-- a text that does not begin with a digit
record EndsDigits (text : List ℕ) : Type 0 where
  first : ℕ
  rest : List ℕ
  is : text ≡ first ∷ rest
  other : IsSomeDigit first → ⊥

report_ends : (found : Report) (rest : List ℕ) → EndsDigits (report_text found ++ 10 ∷ rest)
report_ends report.Clean rest = record { first = 10; rest = rest; is = refl; other = end_is_none }
report_ends (report.Modified offset) rest = record { first = 32; rest = (codes "modified " ++ decimal offset) ++ 10 ∷ rest; is = refl; other = space_is_none }
report_ends report.Redzone rest = record { first = 32; rest = codes "redzone" ++ 10 ∷ rest; is = refl; other = space_is_none }

same_address : (x y : ℕ) (f g : Report) (r s : List ℕ) → x < 2 ^ 64 → y < 2 ^ 64 → reply_text (reply.At x f) ++ 10 ∷ r ≡ reply_text (reply.At y g) ++ 10 ∷ s → x ≡ y
same_address x y f g r s x_fits y_fits same =
    let one = report_ends f r in
    let other = report_ends g s in
    let behind : hexadecimal x ++ (report_text f ++ 10 ∷ r) ≡ hexadecimal y ++ (report_text g ++ 10 ∷ s) =
    sym (append_assoc (hexadecimal x) (report_text f) (10 ∷ r)) ∙ ap (drop 3) same ∙ append_assoc (hexadecimal y) (report_text g) (10 ∷ s) in
    (alike_hex x y one.first other.first one.rest other.rest x_fits y_fits one.other other.other
    (ap (λ (t : List ℕ). hexadecimal x ++ t) (sym one.is) ∙ behind ∙ ap (λ (t : List ℕ). hexadecimal y ++ t) other.is)).0

-- what is behind two equal answers
pub same_behind : (a b : Reply) (r s : List ℕ) → a ≡ b → reply_text a ++ 10 ∷ r ≡ reply_text b ++ 10 ∷ s → r ≡ s
same_behind a b r s is same =
    let behind = append_cancel_left (reply_text a) (10 ∷ r) (10 ∷ s) (same ∙ ap (λ (x : Reply). reply_text x ++ 10 ∷ s) (sym is)) in
    ap (drop 1) behind

-- ---- addresses fit

arena_small : (version : ℕ) → arena_end version < 2 ^ 32
arena_small version = either (eqb version 1)
  where
    either : (b : Bool) → ARENA_BASE + PAGE_BYTES * cond b FIRST_ARENA_PAGES LATER_ARENA_PAGES < 2 ^ 32
    either true = omega arith
    either false = omega arith

-- free pages lie in the arena
pub run_fits : (setting : Setting) (state : State) (pages base : ℕ) → 1 ≤ pages → IsFreeRun (IsFreePage setting state) pages base → base < 2 ^ 64
run_fits setting state pages base some run =
    let page = run 0 (omega arith) in
    omega (arith, page.to, arena_small setting.header.version)

module _ (setting : Setting) (state : State) (header : IsHeader setting.header) (places : AreInPlace setting state.live state.slabs) where
  -- so do slabs
  pub slab_fits : (slab : HeapSlab) → Contains state.slabs slab → slab.base < 2 ^ 64
  slab_fits slab stands =
      let lies = All-contains (λ (s : HeapSlab). IsInArena setting (span_of_slab setting s)) state.slabs slab places.slabs_in stands in
      omega (arith, lies.high, lies.some, arena_small setting.header.version)

  chunk_fits : (cache at : ℕ) → IsChunkOfCache setting state cache at → at < 2 ^ 64
  chunk_fits cache at chunk =
      let lies = All-contains (λ (s : HeapSlab). IsInArena setting (span_of_slab setting s)) state.slabs chunk.slab places.slabs_in chunk.stands in
      let inside = chunk_in_slab setting chunk.slab at header (is_cache_of setting state.live state.slabs header places chunk.slab chunk.stands) chunk.chunk in
      omega (arith, lies.high, inside.1, arena_small setting.header.version)

  -- ---- answers

  cache_reply : (cache : ℕ) (a b : Reply) (r s : List ℕ) → IsCacheReply setting state cache a → IsCacheReply setting state cache b → reply_text a ++ 10 ∷ r ≡ reply_text b ++ 10 ∷ s → a ≡ b
  cache_reply cache (reply.At x f) (reply.At y g) r s h k same =
      let e = same_address x y f g r s (chunk_fits cache x h.0.chunk) (chunk_fits cache y k.0.chunk) same in
      ap (λ (z : ℕ). reply.At z f) e ∙ ap (reply.At y) (h.1 ∙ ap (report_at setting state) e ∙ sym k.1)
  cache_reply cache (reply.At x f) reply.NoSpace r s h k same = absurd (unlike 111 110 refl (ap first_byte same))
  cache_reply cache reply.NoSpace (reply.At y g) r s h k same = absurd (unlike 110 111 refl (ap first_byte same))
  cache_reply cache reply.NoSpace reply.NoSpace r s h k same = refl
  cache_reply cache (reply.At x f) b r s h k same = absurd k
  cache_reply cache reply.NoSpace b r s h k same = absurd k
  cache_reply cache a b r s h k same = absurd h

  large_reply : (size : ℕ) (a b : Reply) (r s : List ℕ) → 1 ≤ pages_for size → IsLargeReply setting state size a → IsLargeReply setting state size b → reply_text a ++ 10 ∷ r ≡ reply_text b ++ 10 ∷ s → a ≡ b
  large_reply size (reply.At x f) (reply.At y g) r s some h k same =
      let e = same_address x y f g r s (run_fits setting state (pages_for size) x some h.0) (run_fits setting state (pages_for size) y some k.0) same in
      ap (λ (z : ℕ). reply.At z f) e ∙ ap (reply.At y) (h.1 ∙ sym k.1)
  large_reply size (reply.At x f) reply.NoSpace r s some h k same = absurd (unlike 111 110 refl (ap first_byte same))
  large_reply size reply.NoSpace (reply.At y g) r s some h k same = absurd (unlike 110 111 refl (ap first_byte same))
  large_reply size reply.NoSpace reply.NoSpace r s some h k same = refl
  large_reply size (reply.At x f) b r s some h k same = absurd k
  large_reply size reply.NoSpace b r s some h k same = absurd k
  large_reply size a b r s some h k same = absurd h

  some_reply : (size : ℕ) (choice : Option ℕ) (a b : Reply) (r s : List ℕ) → IsSomeReply setting state (suc size) choice a → IsSomeReply setting state (suc size) choice b → reply_text a ++ 10 ∷ r ≡ reply_text b ++ 10 ∷ s → a ≡ b
  some_reply size (Some class) a b r s h k same = cache_reply class a b r s h k same
  some_reply size None a b r s h k same = large_reply (suc size) a b r s (omega arith) h k same

  alloc_reply : (size : ℕ) (a b : Reply) (r s : List ℕ) → IsAllocReply setting state size a → IsAllocReply setting state size b → reply_text a ++ 10 ∷ r ≡ reply_text b ++ 10 ∷ s → a ≡ b
  alloc_reply zero a b r s h k same = h ∙ sym k
  alloc_reply (suc size) a b r s h k same = some_reply size (class_for (suc size)) a b r s h k same

  pub same_reply : (thread : ℕ) (op : Op) (a b : Reply) (r s : List ℕ) → IsReply setting state thread op a → IsReply setting state thread op b → reply_text a ++ 10 ∷ r ≡ reply_text b ++ 10 ∷ s → a ≡ b
  same_reply thread (Alloc slot size) a b r s h k same = alloc_reply size a b r s h k same
  same_reply thread (Zalloc slot size) a b r s h k same = alloc_reply size a b r s h k same
  same_reply thread (CacheAlloc slot cache) a b r s h k same = cache_reply cache a b r s h k same
  same_reply thread (Free slot size) a b r s h k same = h ∙ sym k
  same_reply thread (CacheFree slot cache) a b r s h k same = h ∙ sym k
  same_reply thread (Copy to from) a b r s h k same = h ∙ sym k
  same_reply thread (Clear slot) a b r s h k same = h ∙ sym k
  same_reply thread (Store slot offset stored) a b r s h k same = h ∙ sym k
  same_reply thread (Link slot offset value) a b r s h k same = h ∙ sym k
  same_reply thread (Load to slot offset) a b r s h k same = h ∙ sym k
  same_reply thread Reap a b r s h k same = h ∙ sym k
