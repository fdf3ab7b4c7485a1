-- The bytes of the pages are read where they have their lengths.
use Rattle.std.proofs.Common.{◌≡◌, ℕ, suc, ◌-◌, ◌*◌, ◌≤◌, Bool, true, false, cond, ltb, List, [], ◌∷◌, ◌++◌, length, drop, get_or, take, Ok, refl, sym, ap, subst, ◌∙◌, append_assoc, arith}
use Rattle.std.specs.Prelude.{All, map}
use Rattle.std.proofs.lemmas.List.{append-nil, drop_at, length-append, length-map, length-take, map-append, map-id, take-append-drop}
use Rattle.umem_base.specs.Pages.{pages_for}
use Rattle.umem_base.specs.declared.pages.TheConstants.{PAGE_BYTES}
use Rattle.core_format.specs.declared.items.LargeItem.{LargeItem}
use Rattle.core_format.specs.declared.items.SlabItem.{SlabItem}
use Rattle.core_format.specs.declared.whole.Core.{Core}
use Rattle.core_format.specs.Chunks.{core_shapes}
use Rattle.core_format.specs.Items.{items_at}
use Rattle.core_format.specs.PageBytes.{large_bytes_at, large_page_at, lower_count, no_large, pages_at, slab_bytes_at}
use Rattle.core_format.specs.Reader.{Reader, bytes_at}
use Rattle.core_format.specs.Slabs.{shape_at}
use Rattle.core_format.specs.Spelling.{large_bytes, spelled_pages}
use Rattle.core_format.proofs.SpellingLemmas.{rest}
use Rattle.core_rules.specs.SlabRules.{KeepsLargeRules, KeepsSlabRules}
use Rattle.core_rules.proofs.BeforeLemmas.{item_so}
use Rattle.core_rules.proofs.GivesLemmas.{Gives, bytes_give, gives_ok, gives_then, views_give}
use Rattle.core_rules.proofs.LogLemmas.{bare_slab, record_front}
use Rattle.core_rules.proofs.SlabLemmas.{bare_large}

-- ---- the large buffers below an address

counted : (b : Bool) (n m : ℕ) → n ≤ m → cond b (suc n) 0 ≤ suc m
counted true n m le = omega arith
counted false n m le = omega arith

lower_few : (base : ℕ) (large : List LargeItem) → lower_count base large ≤ length large
lower_few base [] = omega arith
lower_few base (item ∷ items) = counted (ltb item.base base) (lower_count base items) (length items) (lower_few base items)

lower_bare : (base : ℕ) (large : List LargeItem) → lower_count base (map bare_large large) ≡ lower_count base large
lower_bare base [] = refl
lower_bare base (item ∷ items) = ap (λ (n : ℕ). cond (ltb item.base base) (suc n) 0) (lower_bare base items)

-- the item behind so many others, as it is seen
view_at : {A B : Type 0} (view : A → B) (before left : List A) (x : A) (d : B) → get_or (map view (before ++ x ∷ left)) (length before) d ≡ view x
view_at view [] left x d = refl
view_at view (b ∷ before) left x d = view_at view before left x d

-- ---- large buffers

large_page_gives : (x : LargeItem) (here : Reader) (more : List ℕ) → length x.bytes ≡ PAGE_BYTES * pages_for x.size → rest here ≡ x.bytes ++ more → Gives (large_bytes_at (bare_large x) here) x more
unfolding large_bytes_at
large_page_gives x here more long stand =
    gives_then (bytes_at (PAGE_BYTES * pages_for x.size) here) _ x.bytes x more more (bytes_give x.bytes (PAGE_BYTES * pages_for x.size) here more long stand) (λ past end. gives_ok x past more end)

-- some more of them, behind those that have their bytes
some_pages_give : (large lower some upper : List LargeItem) (here : Reader) (more : List ℕ) → large ≡ lower ++ (some ++ upper) → All (λ item. length item.bytes ≡ PAGE_BYTES * pages_for item.size) large
    → rest here ≡ large_bytes some ++ more → Gives (items_at (large_page_at (map bare_large large)) (length some) lower here) (lower ++ some) more
some_pages_give large lower some upper here more e filled stand =
    let item = large_page_at (map bare_large large) in
    let all = lower ++ some in
    subst (λ (t : List LargeItem). Gives (items_at item (length some) t here) all more) (map-id lower)
    (subst (λ (t : List LargeItem). Gives (items_at item (length some) (map (λ (x : LargeItem). x) lower) here) t more) (map-id all)
    (views_give (λ (x : LargeItem). x) (λ item. item.bytes) item all (λ before x left here more split stand.
    subst (λ (b : List LargeItem). Gives (item b here) x more) (sym (map-id before)) (one before x (left ++ upper) here more (whole before x left split) stand)) some lower here more refl stand))
  where
    whole : (before : List LargeItem) (x : LargeItem) (left : List LargeItem) → lower ++ some ≡ before ++ x ∷ left → large ≡ before ++ x ∷ (left ++ upper)
    whole before x left split = e ∙ sym (append_assoc lower some upper) ∙ ap (λ (t : List LargeItem). t ++ upper) split ∙ append_assoc before (x ∷ left) upper

    one : (before : List LargeItem) (x : LargeItem) (left : List LargeItem) (here : Reader) (more : List ℕ) → large ≡ before ++ x ∷ left → rest here ≡ x.bytes ++ more → Gives (large_page_at (map bare_large large) before here) x more
    one before x left here more split stand =
        let same : get_or (map bare_large large) (length before) no_large ≡ bare_large x = ap (λ (t : List LargeItem). get_or (map bare_large t) (length before) no_large) split ∙ view_at bare_large before left x no_large in
        subst (λ (y : LargeItem). Gives (large_bytes_at y here) x more) (sym same) (large_page_gives x here more (item_so (λ item. length item.bytes ≡ PAGE_BYTES * pages_for item.size) large before x left filled split) stand)

-- ---- slabs, and before each the large buffers below it

slab_page_gives : (core : Core) (x : SlabItem) (here : Reader) (more : List ℕ) → length x.bytes ≡ PAGE_BYTES * (shape_at (core_shapes core) x.cache).pages → rest here ≡ x.bytes ++ more
    → Gives (slab_bytes_at (core_shapes core) (bare_slab x) here) x more
unfolding slab_bytes_at
slab_page_gives core x here more long stand =
    let count = PAGE_BYTES * (shape_at (core_shapes core) x.cache).pages in
    gives_then (bytes_at count here) _ x.bytes x more more (bytes_give x.bytes count here more long stand) (λ past end. gives_ok x past more end)

-- what is behind a list of so many
behind_them : {A : Type 0} (xs ys : List A) → drop (length xs) (xs ++ ys) ≡ ys
behind_them xs ys = drop_at xs ys (length xs) refl

pages_done : (before slabs : List SlabItem) (large : List LargeItem) (past : Reader) (more : List ℕ) → slabs ≡ before → rest past ≡ more
    → Gives {A = List SlabItem × List LargeItem} (Ok ((before, large), past)) (slabs, large) more
pages_done before slabs large past more e stand = record { there = past; read = ap (λ (t : List SlabItem). Ok ((t, large), past)) (sym e); behind = stand }

pages_from : (core : Core) (left before : List SlabItem) (lower upper : List LargeItem) (here : Reader) (more : List ℕ) → All (KeepsSlabRules core) core.slabs → All (KeepsLargeRules core) core.large
    → core.slabs ≡ before ++ left → core.large ≡ lower ++ upper → rest here ≡ spelled_pages left upper ++ more
    → Gives (pages_at (core_shapes core) (map bare_large core.large) (map bare_slab left) before lower here) (core.slabs, core.large) more
unfolding pages_at
pages_from core [] before lower upper here more slabs large e split stand =
    let count = length (map bare_large core.large) - length lower in
    let many : length upper ≡ count = omega (arith, length-map core.large bare_large, ap length split, length-append lower upper) in
    let whole : core.large ≡ lower ++ (upper ++ []) = split ∙ ap (λ (t : List LargeItem). lower ++ t) (sym (append-nil upper)) in
    let all : core.slabs ≡ before = e ∙ append-nil before in
    let read = some_pages_give core.large lower upper [] here more whole (λ k d lt. (large k d lt).filled) stand in
    gives_then (items_at (large_page_at (map bare_large core.large)) count lower here) _ core.large (core.slabs, core.large) more more
    (subst (λ (n : ℕ). Gives (items_at (large_page_at (map bare_large core.large)) n lower here) core.large more) many (subst (λ (t : List LargeItem). Gives (items_at (large_page_at (map bare_large core.large)) (length upper) lower here) t more) (sym split) read)) (λ past end.
    pages_done before core.slabs core.large past more all end)
pages_from core (slab ∷ left) before lower upper here more slabs large e split stand =
    let shapes = core_shapes core in
    let bare = map bare_large core.large in
    let n = lower_count slab.base upper in
    let some = take n upper in
    let others = drop n upper in
    let after = slab.bytes ++ (spelled_pages left others ++ more) in
    let stand_slab : rest here ≡ large_bytes some ++ after = record_front here (large_bytes some) slab.bytes (spelled_pages left others ++ more) (record_front here (large_bytes some ++ slab.bytes) (spelled_pages left others) more stand) in
    let many : length some ≡ n = omega (arith, length-take n upper, lower_few slab.base upper) in
    let behind : drop (length lower) bare ≡ map bare_large upper =
    ap (λ (t : List LargeItem). drop (length lower) (map bare_large t)) split ∙ ap (drop (length lower)) (map-append bare_large lower upper) ∙ ap (λ (k : ℕ). drop k (map bare_large lower ++ map bare_large upper)) (sym (length-map lower bare_large)) ∙ behind_them (map bare_large lower) (map bare_large upper) in
    let count : lower_count slab.base (drop (length lower) bare) ≡ length some = ap (lower_count slab.base) behind ∙ lower_bare slab.base upper ∙ sym many in
    let whole : core.large ≡ lower ++ (some ++ others) = split ∙ ap (λ (t : List LargeItem). lower ++ t) (sym (take-append-drop n upper)) in
    let next_large : core.large ≡ (lower ++ some) ++ others = whole ∙ sym (append_assoc lower some others) in
    let next_slabs : core.slabs ≡ (before ++ slab ∷ []) ++ left = e ∙ sym (append_assoc before (slab ∷ []) left) in
    let read = some_pages_give core.large lower some others here after whole (λ k d lt. (large k d lt).filled) stand_slab in
    let filled = (item_so (KeepsSlabRules core) core.slabs before slab left slabs e).filled in
    gives_then (items_at (large_page_at bare) (lower_count slab.base (drop (length lower) bare)) lower here) _ (lower ++ some) (core.slabs, core.large) after more
    (subst (λ (k : ℕ). Gives (items_at (large_page_at bare) k lower here) (lower ++ some) after) (sym count) read) (λ there start.
    gives_then (slab_bytes_at shapes (bare_slab slab) there) _ slab (core.slabs, core.large) (spelled_pages left others ++ more) more
    (slab_page_gives core slab there (spelled_pages left others ++ more) filled start) (λ past end.
    pages_from core left (before ++ slab ∷ []) (lower ++ some) others past more slabs large next_slabs next_large end))

pub pages_give : (core : Core) (here : Reader) (more : List ℕ) → All (KeepsSlabRules core) core.slabs → All (KeepsLargeRules core) core.large → rest here ≡ spelled_pages core.slabs core.large ++ more
    → Gives (pages_at (core_shapes core) (map bare_large core.large) (map bare_slab core.slabs) [] [] here) (core.slabs, core.large) more
pages_give core here more slabs large stand = pages_from core core.slabs [] [] core.large here more slabs large refl refl stand
