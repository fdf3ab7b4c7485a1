-- Two histories that answer one plan and are printed alike are one.
use Rattle.std.proofs.Common.{◌≡◌, ℕ, suc, ◌+◌, ◌^◌, ◌<◌, inl, inr, Bool, true, false, cond, eqb, List, [], ◌∷◌, ◌++◌, length, take, drop, Option, Some, append_assoc, refl, sym, ap, ◌∙◌, subst, arith}
use Rattle.std.specs.Prelude.{codes, decimal, filter, map}
use Rattle.std.specs.List.{AllByRecursion, flat_map, slice_get}
use Rattle.std.proofs.lemmas.Bool.Decides.{eqb_tells}
use Rattle.std.proofs.lemmas.List.{append_cancel_left}
use Rattle.std.proofs.Math.Seq.{take-append_seam}
use Rattle.umem_base.specs.Numbers.{hexadecimal}
use Rattle.case_table.specs.declared.cache_def.CacheDef.{CacheDef}
use Rattle.script.specs.declared.operation.Op.{Op}
use Rattle.script.specs.declared.operation.Op.TheVariants.{Alloc, Zalloc, Free, CacheAlloc, CacheFree, Copy, Clear, Store, Link, Load, Reap}
use Rattle.script.specs.declared.tree.Header.{Header}
use Rattle.script.specs.OpWords.{op_words}
use Rattle.script.specs.Plan.{Call as PlanCall, Turn, Plan}
use Rattle.script.specs.PlanText.{spaced}
use Rattle.script.specs.Rules.{IsHeader, IsPlan, IsTurn}
use Rattle.plain_heap.specs.declared.entry.Body.{Body}
use Rattle.plain_heap.specs.declared.entry.Body.TheVariants.{Call, Grow, Shrink}
use Rattle.plain_heap.specs.declared.entry.Entry.{Entry}
use Rattle.plain_heap.specs.declared.reply.Reply.{Reply}
use Rattle.plain_heap.specs.Answers.{setting_for}
use Rattle.plain_heap.specs.Calls.{Follows, IsNext, are_all_made, calls_of, next_in, number_of_calls, turns_made}
use Rattle.plain_heap.specs.Laws.{TranscriptsDecideHistories}
use Rattle.plain_heap.specs.Legal.{IsLegal, IsLegalBody, next_of_thread}
use Rattle.plain_heap.specs.Replies.{IsReply}
use Rattle.plain_heap.specs.Setting.{IsCache, Setting, def_of}
use Rattle.plain_heap.specs.State.{State, state_of}
use Rattle.plain_heap.specs.Texts.{body_text, entry_text, head_text, last_line, reply_text}
use Rattle.plain_heap.proofs.CacheTexts.{IsNameByte, name_of_bytes, names_apart, space_in_no_name}
use Rattle.plain_heap.proofs.CutLemmas.{alike, alike_decimal, alike_hex, letter_is_no_number, space_is_none}
use Rattle.plain_heap.proofs.EntryLemmas.{one_more}
use Rattle.plain_heap.proofs.PlacesLemmas.{AreInPlace, is_cache_of}
use Rattle.plain_heap.proofs.ReplyTexts.{first_byte, run_fits, same_behind, same_reply, slab_fits, unlike}
use Rattle.plain_heap.proofs.SeparateLemmas.{start_in_place}
use Rattle.plain_heap.proofs.SettingLemmas.{geometry_in-sound}
use Rattle.plain_heap.proofs.StepsLemmas.{IsInPlace, body_keeps}

-- ---- inner entries

slab_front : (name base rest : List ℕ) → (((name ++ codes " ") ++ base) ++ codes " -> ok") ++ 10 ∷ rest ≡ name ++ 32 ∷ (base ++ 32 ∷ (codes "-> ok" ++ 10 ∷ rest))
slab_front name base rest =
    append_assoc ((name ++ codes " ") ++ base) (codes " -> ok") (10 ∷ rest) ∙ append_assoc (name ++ codes " ") base (codes " -> ok" ++ 10 ∷ rest)
    ∙ append_assoc name (codes " ") (base ++ (codes " -> ok" ++ 10 ∷ rest))

-- what two inner entries that are printed alike agree in
record AreOneSlab (cache other base at : ℕ) (r s : List ℕ) : Type 0 where
  caches : cache ≡ other
  bases : base ≡ at
  rest : r ≡ s

same_slab : (header : Header) (cache other base at : ℕ) (r s : List ℕ) → IsHeader header → IsCache header.caches cache → IsCache header.caches other → base < 2 ^ 64 → at < 2 ^ 64
    → ((((def_of header.caches cache).name ++ codes " ") ++ hexadecimal base) ++ codes " -> ok") ++ 10 ∷ r ≡ ((((def_of header.caches other).name ++ codes " ") ++ hexadecimal at) ++ codes " -> ok") ++ 10 ∷ s
    → AreOneSlab cache other base at r s
same_slab header cache other base at r s is one two fits too same =
    let name = (def_of header.caches cache).name in
    let called = (def_of header.caches other).name in
    let are = alike IsNameByte name called 32 32 (hexadecimal base ++ 32 ∷ (codes "-> ok" ++ 10 ∷ r)) (hexadecimal at ++ 32 ∷ (codes "-> ok" ++ 10 ∷ s))
    (name_of_bytes header cache is one) (name_of_bytes header other is two) space_in_no_name space_in_no_name
    (sym (slab_front name (hexadecimal base) r) ∙ same ∙ slab_front called (hexadecimal at) s) in
    let behind = alike_hex base at 32 32 (codes "-> ok" ++ 10 ∷ r) (codes "-> ok" ++ 10 ∷ s) fits too space_is_none space_is_none (ap (drop 1) are.rest) in
    record { caches = names_apart header cache other is one two are.front; bases = behind.0; rest = ap (drop 6) behind.1 }

-- ---- calls and inner entries

-- the second byte of a text
abbrev second_byte : List ℕ → ℕ
second_byte text = first_byte (drop 1 text)

no_grow : (caches : List CacheDef) (op : Op) (frames : List ℕ) (answer : Reply) (cache base : ℕ) (r s : List ℕ) → body_text caches (Call op frames answer) ++ 10 ∷ r ≡ body_text caches (Grow cache base) ++ 10 ∷ s → ⊥
no_grow caches (Alloc slot size) frames answer cache base r s same = unlike 97 103 refl (ap first_byte same)
no_grow caches (Zalloc slot size) frames answer cache base r s same = unlike 122 103 refl (ap first_byte same)
no_grow caches (Free slot size) frames answer cache base r s same = unlike 102 103 refl (ap first_byte same)
no_grow caches (CacheAlloc slot from) frames answer cache base r s same = unlike 99 103 refl (ap first_byte same)
no_grow caches (CacheFree slot from) frames answer cache base r s same = unlike 99 103 refl (ap first_byte same)
no_grow caches (Copy to from) frames answer cache base r s same = unlike 99 103 refl (ap first_byte same)
no_grow caches (Clear slot) frames answer cache base r s same = unlike 99 103 refl (ap first_byte same)
no_grow caches (Store slot offset stored) frames answer cache base r s same = unlike 115 103 refl (ap first_byte same)
no_grow caches (Link slot offset value) frames answer cache base r s same = unlike 108 103 refl (ap first_byte same)
no_grow caches (Load to slot offset) frames answer cache base r s same = unlike 108 103 refl (ap first_byte same)
no_grow caches Reap frames answer cache base r s same = unlike 114 103 refl (ap first_byte same)

no_shrink : (caches : List CacheDef) (op : Op) (frames : List ℕ) (answer : Reply) (cache base : ℕ) (r s : List ℕ) → body_text caches (Call op frames answer) ++ 10 ∷ r ≡ body_text caches (Shrink cache base) ++ 10 ∷ s → ⊥
no_shrink caches (Alloc slot size) frames answer cache base r s same = unlike 97 115 refl (ap first_byte same)
no_shrink caches (Zalloc slot size) frames answer cache base r s same = unlike 122 115 refl (ap first_byte same)
no_shrink caches (Free slot size) frames answer cache base r s same = unlike 102 115 refl (ap first_byte same)
no_shrink caches (CacheAlloc slot from) frames answer cache base r s same = unlike 99 115 refl (ap first_byte same)
no_shrink caches (CacheFree slot from) frames answer cache base r s same = unlike 99 115 refl (ap first_byte same)
no_shrink caches (Copy to from) frames answer cache base r s same = unlike 99 115 refl (ap first_byte same)
no_shrink caches (Clear slot) frames answer cache base r s same = unlike 99 115 refl (ap first_byte same)
no_shrink caches (Store slot offset stored) frames answer cache base r s same = unlike 116 104 refl (ap second_byte same)
no_shrink caches (Link slot offset value) frames answer cache base r s same = unlike 108 115 refl (ap first_byte same)
no_shrink caches (Load to slot offset) frames answer cache base r s same = unlike 108 115 refl (ap first_byte same)
no_shrink caches Reap frames answer cache base r s same = unlike 114 115 refl (ap first_byte same)

-- ---- bodies

-- what two bodies that are printed alike agree in
record AreOneBody (a b : Body) (r s : List ℕ) : Type 0 where
  bodies : a ≡ b
  rest : r ≡ s

call_front : (caches : List CacheDef) (op : Op) (frames : List ℕ) (answer : Reply) (r : List ℕ) → body_text caches (Call op frames answer) ++ 10 ∷ r ≡ spaced (op_words caches op) ++ (codes " -> " ++ (reply_text answer ++ 10 ∷ r))
call_front caches op frames answer r =
    append_assoc (spaced (op_words caches op) ++ codes " -> ") (reply_text answer) (10 ∷ r)
    ∙ append_assoc (spaced (op_words caches op)) (codes " -> ") (reply_text answer ++ 10 ∷ r)

module _ (setting : Setting) (plan : Plan) (before : List Entry) (state : State) (thread : ℕ) (header : IsHeader setting.header) (places : AreInPlace setting state.live state.slabs) where
  same_call : (op twin : Op) (frames from : List ℕ) (a b : Reply) (r s : List ℕ) → IsNext plan before thread (Call op frames a) → IsNext plan before thread (Call twin from b)
      → IsReply setting state thread op a → IsReply setting state thread twin b
      → body_text setting.header.caches (Call op frames a) ++ 10 ∷ r ≡ body_text setting.header.caches (Call twin from b) ++ 10 ∷ s → AreOneBody (Call op frames a) (Call twin from b) r s
  same_call op twin frames from a b r s next due h k same =
      let caches = setting.header.caches in
      let one : PlanCall = record { op = op; frames = frames } in
      let other : PlanCall = record { op = twin; frames = from } in
      let calls : one ≡ other = some_same one other (sym next ∙ due) in
      let ops : op ≡ twin = ap (λ (c : PlanCall). c.op) calls in
      let stacks : frames ≡ from = ap (λ (c : PlanCall). c.frames) calls in
      let texts = sym (call_front caches op frames a r) ∙ same ∙ call_front caches twin from b s ∙ ap (λ (o : Op). spaced (op_words caches o) ++ (codes " -> " ++ (reply_text b ++ 10 ∷ s))) (sym ops) in
      let behind = ap (drop 4) (append_cancel_left (spaced (op_words caches op)) (codes " -> " ++ (reply_text a ++ 10 ∷ r)) (codes " -> " ++ (reply_text b ++ 10 ∷ s)) texts) in
      let replies = same_reply setting state header places thread op a b r s h (subst (λ (o : Op). IsReply setting state thread o b) (sym ops) k) behind in
      record {
        bodies = ap (λ (o : Op). Call o frames a) ops ∙ ap (λ (f : List ℕ). Call twin f a) stacks ∙ ap (λ (x : Reply). Call twin from x) replies;
        rest = same_behind a b r s replies behind;
      }
    where
      some_same : (x y : PlanCall) → Some x ≡ Some y → x ≡ y
      some_same x y e = cc

  same_body : (a b : Body) (next due : Option Entry) (r s : List ℕ) → IsNext plan before thread a → IsNext plan before thread b → IsLegalBody setting state thread a next → IsLegalBody setting state thread b due
      → body_text setting.header.caches a ++ 10 ∷ r ≡ body_text setting.header.caches b ++ 10 ∷ s → AreOneBody a b r s
  same_body (Call op frames a) (Call twin from b) next due r s first second h k same = same_call op twin frames from a b r s first second h k same
  same_body (Call op frames a) (Grow cache base) next due r s first second h k same = absurd (no_grow setting.header.caches op frames a cache base r s same)
  same_body (Call op frames a) (Shrink cache base) next due r s first second h k same = absurd (no_shrink setting.header.caches op frames a cache base r s same)
  same_body (Grow cache base) (Call op frames a) next due r s first second h k same = absurd (no_grow setting.header.caches op frames a cache base s r (sym same))
  same_body (Shrink cache base) (Call op frames a) next due r s first second h k same = absurd (no_shrink setting.header.caches op frames a cache base s r (sym same))
  same_body (Grow cache base) (Shrink other at) next due r s first second h k same = absurd (unlike 103 115 refl (ap first_byte same))
  same_body (Shrink cache base) (Grow other at) next due r s first second h k same = absurd (unlike 115 103 refl (ap first_byte same))
  same_body (Grow cache base) (Grow other at) next due r s first second h k same =
      let some = (geometry_in-sound setting cache header h.is_cache).pages_some in
      let more = (geometry_in-sound setting other header k.is_cache).pages_some in
      let are = same_slab setting.header cache other base at r s header h.is_cache k.is_cache (run_fits setting state _ base some h.free) (run_fits setting state _ at more k.free) (ap (drop 5) same) in
      record { bodies = ap (λ c. Grow c base) are.caches ∙ ap (λ b. Grow other b) are.bases; rest = are.rest }
  same_body (Shrink cache base) (Shrink other at) next due r s first second h k same =
      let one = subst (IsCache setting.header.caches) h.its_cache (is_cache_of setting state.live state.slabs header places h.slab h.stands) in
      let two = subst (IsCache setting.header.caches) k.its_cache (is_cache_of setting state.live state.slabs header places k.slab k.stands) in
      let fits = subst (λ b. b < 2 ^ 64) h.its_base (slab_fits setting state header places h.slab h.stands) in
      let too = subst (λ b. b < 2 ^ 64) k.its_base (slab_fits setting state header places k.slab k.stands) in
      let are = same_slab setting.header cache other base at r s header one two fits too (ap (drop 7) same) in
      record { bodies = ap (λ c. Shrink c base) are.caches ∙ ap (λ b. Shrink other b) are.bases; rest = are.rest }

-- ---- threads

all-append : {X : Type 0} (P : X → Type 0) (xs ys : List X) → AllByRecursion P xs → AllByRecursion P ys → AllByRecursion P (xs ++ ys)
all-append P [] ys hx hy = hy
all-append P (x ∷ xs) ys hx hy = (hx.0, all-append P xs ys hx.1 hy)

called_thread : (header : Header) (turns : List Turn) (thread n : ℕ) (call : PlanCall) → AllByRecursion (IsTurn header) turns → slice_get (calls_of thread turns) n ≡ Some call → thread < header.threads
called_thread header [] thread n call h at = absurd (cc at)
called_thread header (turn ∷ turns) thread n call h at = elim (eqb_tells turn.thread thread) [
  | inl e ↦ omega (arith, h.0.thread, e.1)
  | inr e ↦ called_thread header turns thread n call h.1 (ap (λ (b : Bool). slice_get (map (λ (t : Turn). t.call) (cond b (turn ∷ filter (λ (t : Turn). eqb t.thread thread) turns) (filter (λ (t : Turn). eqb t.thread thread) turns))) n) (sym e.0) ∙ at)
]

next_thread : (header : Header) (earlier made : List Turn) (phases : List (List Turn)) (thread : ℕ) (call : PlanCall) → AllByRecursion (IsTurn header) earlier → AllByRecursion (AllByRecursion (IsTurn header)) phases
    → next_in earlier phases made thread ≡ Some call → thread < header.threads
next_thread header earlier made [] thread call h g is = absurd (cc is)
next_thread header earlier made (phase ∷ phases) thread call h g is =
    let turns = all-append (IsTurn header) earlier phase h g.0 in
    either (are_all_made (earlier ++ phase) made) is (next_thread header (earlier ++ phase) made phases thread call turns g.1) turns
  where
    either : (b : Bool) → cond b (next_in (earlier ++ phase) phases made thread) (slice_get (calls_of thread (earlier ++ phase)) (number_of_calls thread made)) ≡ Some call
        → (next_in (earlier ++ phase) phases made thread ≡ Some call → thread < header.threads) → AllByRecursion (IsTurn header) (earlier ++ phase) → thread < header.threads
    either true same later turns = later same
    either false same later turns = called_thread header (earlier ++ phase) thread (number_of_calls thread made) call turns same

-- the thread of an entry can be printed
abbrev HasThread : Entry → Type 0
HasThread entry = entry.thread < 2 ^ 64

found_thread : (thread : ℕ) (later : List Entry) (entry : Entry) → AllByRecursion HasThread later → next_of_thread thread later ≡ Some entry → thread < 2 ^ 64
found_thread thread [] entry h is = absurd (cc is)
found_thread thread (first ∷ later) entry h is = elim (eqb_tells first.thread thread) [
  | inl e ↦ omega (arith, h.0, e.1)
  | inr e ↦ found_thread thread later entry h.1 (ap (λ (b : Bool). cond b (Some first) (next_of_thread thread later)) (sym e.0) ∙ is)
]

body_thread : (setting : Setting) (plan : Plan) (before later : List Entry) (state : State) (thread : ℕ) (body : Body) → IsPlan plan → IsNext plan before thread body
    → IsLegalBody setting state thread body (next_of_thread thread later) → AllByRecursion HasThread later → thread < 2 ^ 64
body_thread setting plan before later state thread (Call op frames answer) is next h fit =
    omega (arith, next_thread plan.header [] (turns_made before) plan.phases thread (record { op = op; frames = frames }) tt is.turns next, is.header.threads)
body_thread setting plan before later state thread (Grow cache base) is next h fit = found_thread thread later h.entry fit h.follows
body_thread setting plan before later state thread (Shrink cache base) is next h fit = found_thread thread later h.entry fit h.follows

-- ---- one entry behind those that are the same

get_seam : (before rest : List Entry) (entry : Entry) → slice_get (before ++ entry ∷ rest) (length before) ≡ Some entry
get_seam [] rest entry = refl
get_seam (first ∷ before) rest entry = get_seam before rest entry

drop_seam : (before rest : List Entry) (entry : Entry) → drop (suc (length before)) (before ++ entry ∷ rest) ≡ rest
drop_seam [] rest entry = refl
drop_seam (first ∷ before) rest entry = drop_seam before rest entry

-- what is known of an entry that stands behind others
record Stands (setting : Setting) (plan : Plan) (before rest : List Entry) (entry : Entry) : Type 0 where
  number : entry.number ≡ length before
  next : IsNext plan before entry.thread entry.body
  legal : IsLegalBody setting (state_of setting before) entry.thread entry.body (next_of_thread entry.thread rest)

stands : (setting : Setting) (plan : Plan) (whole before rest : List Entry) (entry : Entry) → whole ≡ before ++ entry ∷ rest → IsLegal setting whole → Follows plan whole → Stands setting plan before rest entry
stands setting plan whole before rest entry is legal follows =
    let at : slice_get whole (length before) ≡ Some entry = ap (λ (w : List Entry). slice_get w (length before)) is ∙ get_seam before rest entry in
    let front : take (length before) whole ≡ before = ap (take (length before)) is ∙ take-append_seam before (entry ∷ rest) in
    let one : length before + 1 ≡ suc (length before) = omega arith in
    let behind : drop (length before + 1) whole ≡ rest = ap (λ n. drop n whole) one ∙ ap (drop (suc (length before))) is ∙ drop_seam before rest entry in
    let h = legal (length before) entry at in
    record {
      number = h.number;
      next = subst (λ (b : List Entry). IsNext plan b entry.thread entry.body) front (follows (length before) entry at);
      legal =
          subst (λ (b : List Entry). IsLegalBody setting (state_of setting b) entry.thread entry.body (next_of_thread entry.thread rest)) front
          (subst (λ (d : List Entry). IsLegalBody setting (state_of setting (take (length before) whole)) entry.thread entry.body (next_of_thread entry.thread d)) behind h.body);
    }

moved : (whole before rest : List Entry) (entry : Entry) → whole ≡ before ++ entry ∷ rest → whole ≡ (before ++ entry ∷ []) ++ rest
moved whole before rest entry is = is ∙ sym (append_assoc before (entry ∷ []) rest)

threads_fit : (setting : Setting) (plan : Plan) (whole before rest : List Entry) → IsPlan plan → whole ≡ before ++ rest → IsLegal setting whole → Follows plan whole → AllByRecursion HasThread rest
threads_fit setting plan whole before [] is split legal follows = tt
threads_fit setting plan whole before (entry ∷ rest) is split legal follows =
    let later = threads_fit setting plan whole (before ++ entry ∷ []) rest is (moved whole before rest entry split) legal follows in
    let there = stands setting plan whole before rest entry split legal follows in
    (body_thread setting plan before rest (state_of setting before) entry.thread entry.body is there.next there.legal later, later)

-- ---- entries

same_entry : (a b : Entry) → a.number ≡ b.number → a.thread ≡ b.thread → a.body ≡ b.body → a ≡ b
same_entry a b numbers threads bodies =
    let with_number : ℕ → Entry = λ n. record { number = n; thread = a.thread; body = a.body } in
    let with_thread : ℕ → Entry = λ t. record { number = b.number; thread = t; body = a.body } in
    let with_body : Body → Entry = λ x. record { number = b.number; thread = b.thread; body = x } in
    ap with_number numbers ∙ ap with_thread threads ∙ ap with_body bodies

entry_front : (caches : List CacheDef) (entry : Entry) (more last : List ℕ)
    → (entry_text caches entry ++ more) ++ last ≡ decimal entry.number ++ 32 ∷ (decimal entry.thread ++ 32 ∷ (body_text caches entry.body ++ 10 ∷ (more ++ last)))
entry_front caches entry more last = simp append_assoc

-- what two lists of entries that begin alike agree in
record BeginAlike (a b : Entry) (r s : List ℕ) : Type 0 where
  entries : a ≡ b
  rest : r ≡ s

begin_alike : (setting : Setting) (plan : Plan) (before one other : List Entry) (a b : Entry) (r s : List ℕ) → IsHeader setting.header → IsInPlace setting (state_of setting before)
    → Stands setting plan before one a → Stands setting plan before other b → HasThread a → HasThread b
    → decimal a.number ++ 32 ∷ (decimal a.thread ++ 32 ∷ (body_text setting.header.caches a.body ++ 10 ∷ r)) ≡ decimal b.number ++ 32 ∷ (decimal b.thread ++ 32 ∷ (body_text setting.header.caches b.body ++ 10 ∷ s))
    → BeginAlike a b r s
begin_alike setting plan before one other a b r s header places first second fits too same =
    let caches = setting.header.caches in
    let rest_one = body_text caches a.body ++ 10 ∷ r in
    let rest_other = body_text caches b.body ++ 10 ∷ s in
    let numbers : a.number ≡ b.number = first.number ∙ sym second.number in
    let behind = append_cancel_left (decimal a.number) (32 ∷ (decimal a.thread ++ 32 ∷ rest_one)) (32 ∷ (decimal b.thread ++ 32 ∷ rest_other))
    (same ∙ ap (λ n. decimal n ++ 32 ∷ (decimal b.thread ++ 32 ∷ rest_other)) (sym numbers)) in
    let threads = alike_decimal a.thread b.thread 32 32 rest_one rest_other fits too space_is_none space_is_none (ap (drop 1) behind) in
    let back = sym threads.0 in
    let are = same_body setting plan before (state_of setting before) a.thread header places a.body b.body (next_of_thread a.thread one) (next_of_thread b.thread other) r s first.next
    (subst (λ t. IsNext plan before t b.body) back second.next) first.legal
    (subst (λ t. IsLegalBody setting (state_of setting before) t b.body (next_of_thread b.thread other)) back second.legal) threads.1 in
    record { entries = same_entry a b numbers threads.0 are.bodies; rest = are.rest }

-- ---- histories

module _ (guards : Bool) (plan : Plan) (is : IsPlan plan) where
  same_rest : (before one other whole whole_other : List Entry) → whole ≡ before ++ one → whole_other ≡ before ++ other
      → IsLegal (setting_for guards plan) whole → IsLegal (setting_for guards plan) whole_other → Follows plan whole → Follows plan whole_other
      → AllByRecursion HasThread one → AllByRecursion HasThread other → IsInPlace (setting_for guards plan) (state_of (setting_for guards plan) before)
      → flat_map (entry_text plan.header.caches) one ++ last_line whole ≡ flat_map (entry_text plan.header.caches) other ++ last_line whole_other → one ≡ other
  same_rest before [] [] whole whole_other split cut legal fair follows comes fits too places same = refl
  same_rest before [] (b ∷ other) whole whole_other split cut legal fair follows comes fits too places same =
      absurd (letter_is_no_number 101 b.number _ _ (omega arith) (same ∙ entry_front plan.header.caches b (flat_map (entry_text plan.header.caches) other) (last_line whole_other)))
  same_rest before (a ∷ one) [] whole whole_other split cut legal fair follows comes fits too places same =
      absurd (letter_is_no_number 101 a.number _ _ (omega arith) (sym same ∙ entry_front plan.header.caches a (flat_map (entry_text plan.header.caches) one) (last_line whole)))
  same_rest before (a ∷ one) (b ∷ other) whole whole_other split cut legal fair follows comes fits too places same =
      let setting = setting_for guards plan in
      let caches = plan.header.caches in
      let r = flat_map (entry_text caches) one ++ last_line whole in
      let s = flat_map (entry_text caches) other ++ last_line whole_other in
      let first = stands setting plan whole before one a split legal follows in
      let second = stands setting plan whole_other before other b cut fair comes in
      let are = begin_alike setting plan before one other a b r s is.header places first second fits.0 too.0
      (sym (entry_front caches a (flat_map (entry_text caches) one) (last_line whole)) ∙ same ∙ entry_front caches b (flat_map (entry_text caches) other) (last_line whole_other)) in
      let kept = body_keeps setting (state_of setting before) is.header places a.thread a.body (next_of_thread a.thread one) first.legal in
      let later = subst (IsInPlace setting) (sym (one_more setting before a)) kept in
      let moved_other = subst (λ (x : Entry). whole_other ≡ (before ++ x ∷ []) ++ other) (sym are.entries) (moved whole_other before other b cut) in
      let rest = same_rest (before ++ a ∷ []) one other whole whole_other (moved whole before one a split) moved_other legal fair follows comes fits.1 too.1 later are.rest in
      ap (λ (x : Entry). x ∷ one) are.entries ∙ ap (λ (xs : List Entry). b ∷ xs) rest

pub same_history : TranscriptsDecideHistories
same_history guards plan one other is answers fair same =
    let setting = setting_for guards plan in
    let head = head_text plan.header guards in
    let text = flat_map (entry_text plan.header.caches) one in
    let other_text = flat_map (entry_text plan.header.caches) other in
    let behind = append_cancel_left head (text ++ last_line one) (other_text ++ last_line other)
    (sym (append_assoc head text (last_line one)) ∙ same ∙ append_assoc head other_text (last_line other)) in
    same_rest guards plan is [] one other one other refl refl answers.legal fair.legal answers.follows fair.follows
    (threads_fit setting plan one [] one is refl answers.legal answers.follows) (threads_fit setting plan other [] other is refl fair.legal fair.follows) (start_in_place setting) behind
