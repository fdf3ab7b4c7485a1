-- What longer histories leave: one entry more, and a whole commit.
use Rattle.std.proofs.Common.{◌≡◌, ℕ, ◌+◌, List, [], ◌∷◌, ◌++◌, length, map, take, drop, Option, Some, None, refl, sym, ap, ◌∙◌, subst}
use Rattle.std.specs.Prelude.{fold}
use Rattle.std.specs.List.{slice_get}
use Rattle.std.proofs.lemmas.List.{append_assoc}
use Rattle.std.proofs.lemmas.List.Sums.{fold-append}
use Rattle.umem_base.specs.Ordered.{split_newest}
use Rattle.umem_base.proofs.OrderedLemmas.{append_from_split_newest, nil_from_split_newest}
use Rattle.script.specs.declared.operation.Op.{Op}
use Rattle.script.specs.declared.operation.Op.TheVariants.{Alloc, Zalloc, Free, CacheAlloc, CacheFree, Copy, Clear, Store, Link, Load, Reap}
use Rattle.script.specs.Plan.{Call}
use Rattle.plain_heap.specs.declared.entry.Body.{Body}
use Rattle.plain_heap.specs.declared.entry.Body.TheVariants as body
use Rattle.plain_heap.specs.declared.entry.Entry.{Entry}
use Rattle.plain_heap.specs.declared.reply.Reply.{Reply}
use Rattle.plain_heap.specs.Legal.{IsLegal, IsLegalBody, next_of_thread}
use Rattle.plain_heap.specs.Setting.{Setting}
use Rattle.plain_heap.specs.State.{HeapSlab, State, after_entry, new_slab, state_of}
use Rattle.heap_ledger.specs.declared.slab_at.SlabAt.{SlabAt}
use Rattle.heap_ledger.specs.Ledger.{commit_entries, entry, grown, inner_entries, shrunk}
use Rattle.heap_ledger.proofs.GrowthLemmas.{drop_seam}
use Rattle.heap_accounts.specs.Laws.{AnswersChangePlaces, GrowsChangePlaces, LegalHistoriesAreAtRest, ReapsChangePlaces, at_rest, cache_asked}
use Rattle.heap_accounts.specs.Places.{Places, Placing, made_by_body, places_by_call, places_by_request, places_of, placing_by, placing_of, reaped, start_placing}

-- ---- one entry more

pub more_placing : (setting : Setting) (entries more : List Entry) → placing_of setting (entries ++ more) ≡ fold (placing_by setting) (placing_of setting entries) more
more_placing setting entries more = fold-append (placing_by setting) (start_placing setting) entries more

pub one_placing : (setting : Setting) (entries : List Entry) (last : Entry) → placing_of setting (entries ++ last ∷ []) ≡ placing_by setting (placing_of setting entries) last
one_placing setting entries last = more_placing setting entries (last ∷ [])

states : (setting : Setting) (placing : Placing) (entries : List Entry) → (fold (placing_by setting) placing entries).state ≡ fold (after_entry setting) placing.state entries
states setting placing [] = refl
states setting placing (first ∷ entries) = states setting (placing_by setting placing first) entries

pub its_state : (setting : Setting) (entries : List Entry) → (placing_of setting entries).state ≡ state_of setting entries
its_state setting entries = states setting (start_placing setting) entries

-- what is left is its state and its places, where no slab was made
pub rests : (setting : Setting) (entries : List Entry) → (placing_of setting entries).made ≡ None → placing_of setting entries ≡ at_rest (state_of setting entries) (places_of setting entries)
rests setting entries none =
    let placing = placing_of setting entries in
    let with_made : Option HeapSlab → Placing = λ made. record { state = placing.state; places = placing.places; made = made } in
    ap with_made none ∙ ap (λ state. at_rest state placing.places) (its_state setting entries)

-- ---- places in a list

pub get_here : (before rest : List Entry) (first : Entry) → slice_get (before ++ first ∷ rest) (length before) ≡ Some first
get_here [] rest first = refl
get_here (other ∷ before) rest first = get_here before rest first

-- ---- at rest

-- a body with nothing behind it makes no slab, where it is legal
makes_none : (setting : Setting) (state before : State) (thread : ℕ) (content : Body) → IsLegalBody setting state thread content None → made_by_body setting before content ≡ None
makes_none setting state before thread (body.Call op frames answer) h = refl
makes_none setting state before thread (body.Grow cache base) h = let follows = h.follows in absurd (cc follows)
makes_none setting state before thread (body.Shrink cache base) h = refl

pub none_made : (setting : Setting) (entries : List Entry) → IsLegal setting entries → (placing_of setting entries).made ≡ None
none_made setting entries legal = by_last (split_newest entries) refl
  where
    by_last : (split : Option (List Entry × Entry)) → split_newest entries ≡ split → (placing_of setting entries).made ≡ None
    by_last None is = ap (λ (l : List Entry). (placing_of setting l).made) (nil_from_split_newest entries is)
    by_last (Some split) is =
        let front = split.0 in
        let last = split.1 in
        let whole : entries ≡ front ++ last ∷ [] = append_from_split_newest entries front last is in
        let h = legal (length front) last (ap (λ (l : List Entry). slice_get l (length front)) whole ∙ get_here front [] last) in
        let behind : drop (length front + 1) entries ≡ [] = ap (drop (length front + 1)) whole ∙ drop_seam front [] last in
        let state = state_of setting (take (length front) entries) in
        let none = makes_none setting state (placing_of setting front).state last.thread last.body
        (subst (λ (d : List Entry). IsLegalBody setting state last.thread last.body (next_of_thread last.thread d)) behind h.body) in
        ap (λ (l : List Entry). (placing_of setting l).made) whole ∙ ap (λ (p : Placing). p.made) (one_placing setting front last) ∙ none

pub legal_at_rest : LegalHistoriesAreAtRest
legal_at_rest setting entries legal = rests setting entries (none_made setting entries legal)

-- a commit leaves no slab in hand, since its last entry is a call
pub none_made_after : (setting : Setting) (before : List Entry) (number thread : ℕ) (inner : List Body) (call : Call) (answer : Reply) → (placing_of setting (before ++ commit_entries number thread inner call answer)).made ≡ None
none_made_after setting before number thread inner call answer =
    let front = inner_entries number thread inner in
    let last = entry (number + length inner) thread (body.Call call.op call.frames answer) in
    ap (λ (l : List Entry). (placing_of setting l).made) (sym (append_assoc before front (last ∷ [])))
    ∙ ap (λ (p : Placing). p.made) (one_placing setting (before ++ front) last)

-- ---- commits

places_more : (setting : Setting) (entries more : List Entry) → IsLegal setting entries
    → places_of setting (entries ++ more) ≡ (fold (placing_by setting) (at_rest (state_of setting entries) (places_of setting entries)) more).places
places_more setting entries more legal =
    ap (λ (p : Placing). p.places) (more_placing setting entries more)
    ∙ ap (λ (p : Placing). (fold (placing_by setting) p more).places) (legal_at_rest setting entries legal)

pub answers_change : AnswersChangePlaces
answers_change setting entries number thread call answer legal = places_more setting entries (commit_entries number thread [] call answer) legal

-- an allocation whose chunk is in hand changes no place
request_keeps : (setting : Setting) (places : Places) (slab : HeapSlab) (thread : ℕ) (asked : Option ℕ) → places_by_request setting places (Some slab) thread asked ≡ places
request_keeps setting places slab thread None = refl
request_keeps setting places slab thread (Some class) = refl

in_hand_keeps : (setting : Setting) (state : State) (places : Places) (slab : HeapSlab) (thread cache : ℕ) (op : Op) (answer : Reply) → cache_asked op ≡ Some cache
    → places_by_call setting (record { state = state; places = places; made = Some slab }) thread op answer ≡ places
in_hand_keeps setting state places slab thread cache (Alloc slot size) answer asks = request_keeps setting places slab thread (cache_asked (Alloc slot size))
in_hand_keeps setting state places slab thread cache (Zalloc slot size) answer asks = request_keeps setting places slab thread (cache_asked (Alloc slot size))
in_hand_keeps setting state places slab thread cache (CacheAlloc slot from) answer asks = refl
in_hand_keeps setting state places slab thread cache (Free slot size) answer asks = absurd (cc asks)
in_hand_keeps setting state places slab thread cache (CacheFree slot from) answer asks = absurd (cc asks)
in_hand_keeps setting state places slab thread cache (Copy to from) answer asks = refl
in_hand_keeps setting state places slab thread cache (Clear slot) answer asks = refl
in_hand_keeps setting state places slab thread cache (Store slot offset stored) answer asks = refl
in_hand_keeps setting state places slab thread cache (Link slot offset value) answer asks = refl
in_hand_keeps setting state places slab thread cache (Load to slot offset) answer asks = refl
in_hand_keeps setting state places slab thread cache Reap answer asks = absurd (cc asks)

pub grows_change : GrowsChangePlaces
grows_change setting entries number thread slab call answer legal asks =
    let first = entry number thread (grown slab) in
    let then = placing_by setting (at_rest (state_of setting entries) (places_of setting entries)) first in
    places_more setting entries (commit_entries number thread (grown slab ∷ []) call answer) legal
    ∙ in_hand_keeps setting then.state then.places (new_slab setting (state_of setting entries) slab.cache slab.base) thread slab.cache call.op answer asks

pub reap_drains : (setting : Setting) (placing : Placing) (number last thread : ℕ) (slabs : List SlabAt) (frames : List ℕ) (answer : Reply)
    → (fold (placing_by setting) placing (inner_entries number thread (shrunk slabs) ++ entry last thread (body.Call Reap frames answer) ∷ [])).places ≡ map reaped placing.places
reap_drains setting placing number last thread [] frames answer = refl
reap_drains setting placing number last thread (slab ∷ slabs) frames answer =
    reap_drains setting (placing_by setting placing (entry number thread (body.Shrink slab.cache slab.base))) (number + 1) last thread slabs frames answer

pub reaps_change : ReapsChangePlaces
reaps_change setting entries number thread slabs call answer legal reap =
    let rest = at_rest (state_of setting entries) (places_of setting entries) in
    let last = number + length (shrunk slabs) in
    places_more setting entries (commit_entries number thread (shrunk slabs) call answer) legal
    ∙ ap (λ (op : Op). (fold (placing_by setting) rest (inner_entries number thread (shrunk slabs) ++ entry last thread (body.Call op call.frames answer) ∷ [])).places) reap
    ∙ reap_drains setting rest number last thread slabs call.frames answer
