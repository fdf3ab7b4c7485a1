-- The inner entries of a commit, one more behind the others.
use Rattle.std.proofs.Common.{◌≡◌, ℕ, suc, ◌+◌, ◌<◌, ◌≤◌, List, [], ◌∷◌, ◌++◌, length, map, take, get_or, refl, sym, ap, ◌∙◌, arith}
use Rattle.std.proofs.lemmas.List.{append_assoc, length-append, length-map, length-take, map-append, take_more}
use Rattle.script.specs.Plan.{Call}
use Rattle.plain_heap.specs.declared.entry.Body.{Body}
use Rattle.plain_heap.specs.declared.entry.Body.TheVariants as body
use Rattle.plain_heap.specs.declared.entry.Entry.{Entry}
use Rattle.plain_heap.specs.declared.reply.Reply.{Reply}
use Rattle.heap_ledger.specs.declared.slab_at.SlabAt.{SlabAt}
use Rattle.heap_ledger.specs.Ledger.{commit_entries, entry, inner_entries, shrunk}

pub inner_count : (number thread : ℕ) (inner : List Body) → length (inner_entries number thread inner) ≡ length inner
inner_count number thread [] = refl
inner_count number thread (first ∷ inner) = ap suc (inner_count (number + 1) thread inner)

inner_push : (number thread : ℕ) (inner : List Body) (last : Body)
    → inner_entries number thread (inner ++ last ∷ []) ≡ inner_entries number thread inner ++ entry (number + length inner) thread last ∷ []
inner_push number thread [] last = ap (λ n. entry n thread last ∷ []) (omega arith)
inner_push number thread (first ∷ inner) last =
    ap (◌∷◌ (entry number thread first))
    (inner_push (number + 1) thread inner last ∙ ap (λ n. inner_entries (number + 1) thread inner ++ entry n thread last ∷ []) (omega arith))

shrunk_count : (slabs : List SlabAt) (i : ℕ) → i ≤ length slabs → length (shrunk (take i slabs)) ≡ i
shrunk_count slabs i le =
    length-map (take i slabs) (λ (slab : SlabAt). body.Shrink slab.cache slab.base) ∙ length-take i slabs ∙ omega (arith, le)

pub shrinks_count : (number thread : ℕ) (slabs : List SlabAt) (i : ℕ) → i ≤ length slabs → length (inner_entries number thread (shrunk (take i slabs))) ≡ i
shrinks_count number thread slabs i le = inner_count number thread (shrunk (take i slabs)) ∙ shrunk_count slabs i le

pub shrinks_more : (number thread : ℕ) (slabs : List SlabAt) (i : ℕ) (d : SlabAt) → i < length slabs
    → inner_entries number thread (shrunk (take (i + 1) slabs))
    ≡ inner_entries number thread (shrunk (take i slabs)) ++ entry (number + i) thread (body.Shrink (get_or slabs i d).cache (get_or slabs i d).base) ∷ []
shrinks_more number thread slabs i d lt =
    let shrink : SlabAt → Body = λ slab. body.Shrink slab.cache slab.base in
    let last = shrink (get_or slabs i d) in
    ap (λ (l : List SlabAt). inner_entries number thread (map shrink l)) (take_more slabs i d lt)
    ∙ ap (inner_entries number thread) (map-append shrink (take i slabs) (get_or slabs i d ∷ []))
    ∙ inner_push number thread (shrunk (take i slabs)) last
    ∙ ap (λ n. inner_entries number thread (shrunk (take i slabs)) ++ entry (number + n) thread last ∷ []) (shrunk_count slabs i (omega (arith, lt)))

-- there is room for one shrink more
pub shrinks_few : (items now : List Entry) (thread : ℕ) (slabs : List SlabAt) (i : ℕ) → i < length slabs → length items + length slabs < 4294967296
    → now ≡ items ++ inner_entries (length items) thread (shrunk (take i slabs)) → length now < 4294967296
shrinks_few items now thread slabs i lt few is =
    omega (arith, ap length is, length-append items (inner_entries (length items) thread (shrunk (take i slabs))), shrinks_count (length items) thread slabs i (omega (arith, lt)), few, lt)

-- one shrink more stands behind those before it
pub shrinks_on : (items now next : List Entry) (thread : ℕ) (slabs : List SlabAt) (i : ℕ) (d : SlabAt) → i < length slabs
    → now ≡ items ++ inner_entries (length items) thread (shrunk (take i slabs))
    → next ≡ now ++ entry (length now) thread (body.Shrink (get_or slabs i d).cache (get_or slabs i d).base) ∷ []
    → next ≡ items ++ inner_entries (length items) thread (shrunk (take (i + 1) slabs))
shrinks_on items now next thread slabs i d lt is more =
    let inner = inner_entries (length items) thread (shrunk (take i slabs)) in
    let last : ℕ → List Entry = λ n. entry n thread (body.Shrink (get_or slabs i d).cache (get_or slabs i d).base) ∷ [] in
    let count : length now ≡ length items + i = omega (arith, ap length is, length-append items inner, shrinks_count (length items) thread slabs i (omega (arith, lt))) in
    more ∙ ap (λ n. now ++ last n) count ∙ ap (λ (l : List Entry). l ++ last (length items + i)) is
    ∙ append_assoc items inner (last (length items + i)) ∙ ap (λ (l : List Entry). items ++ l) (sym (shrinks_more (length items) thread slabs i d lt))

-- a call behind the inner entries that it caused
pub entered_behind : (items now next : List Entry) (thread : ℕ) (inner : List Body) (call : Call) (answer : Reply) → now ≡ items ++ inner_entries (length items) thread inner
    → next ≡ now ++ commit_entries (length now) thread [] call answer → next ≡ items ++ commit_entries (length items) thread inner call answer
entered_behind items now next thread inner call answer is more =
    let front = inner_entries (length items) thread inner in
    let last : ℕ → List Entry = λ n. entry n thread (body.Call call.op call.frames answer) ∷ [] in
    let count : length now + 0 ≡ length items + length inner = omega (arith, ap length is, length-append items front, inner_count (length items) thread inner) in
    more ∙ ap (λ n. now ++ last n) count ∙ ap (λ (l : List Entry). l ++ last (length items + length inner)) is ∙ append_assoc items front (last (length items + length inner))
