-- Every magazine emptied: the slabs' lists hold all rounds.
use Rattle.std.proofs.Common.{◌≡◌, ◌≢◌, ℕ, zero, suc, ◌+◌, ◌-◌, ◌<◌, ◌≤◌, ◌↔◌, Bool, true, false, List, [], ◌∷◌, ◌++◌, length, get_or, map, eqb, refl, sym, ap, ◌∙◌, arith, inl, inr}
use Rattle.std.specs.Prelude.{All, Any, Contains, filter}
use Rattle.std.specs.List.{flat_map, list_any, range_with_len}
use Rattle.std.specs.List.Sorted.{IsPermutation}
use Rattle.std.proofs.lemmas.Bool.{cases_Bool, cases_order, eq-eqb, eqb-true, true≢false}
use Rattle.std.proofs.lemmas.List.{ext_get_or, get_or_default, get_or-map, length-map}
use Rattle.std.proofs.lemmas.List.Elements.{All-map, Contains-get_or, filter_passes}
use Rattle.std.proofs.lemmas.List.Folds.{Any-from_list_any, list_any_at}
use Rattle.std.proofs.lemmas.List.FromFn.{get_or-range_with_len, length-range_with_len}
use Rattle.std.proofs.lemmas.List.Sorted.{All-permutation, Contains-permutation, IsPermutation-refl, IsPermutation-sym, IsPermutation-trans}
use Rattle.umem_base.proofs.Lists.{Contains-here, Contains-there}
use Rattle.umem_base.proofs.OrderedLemmas.{Contains-cases, Contains-nil, filter_all}
use Rattle.slab_layer.specs.Slab.{HasChunk, IsComplete, Slab}
use Rattle.slab_layer.specs.Slabs.{AreMissing, after_put, after_puts, is_missing, listed_rounds}
use Rattle.slab_layer.proofs.RoundsLemmas.{All-from_rises, Ends, Rises, Rises-lower}
use Rattle.slab_layer.proofs.SlabLemmas.{Ends-list, Rises-list}
use Rattle.slab_layer.proofs.SlabsLemmas.{AreSlabs-after_puts, Contains-rounds, KeepsRounds-after_puts, held_by_own}
use Rattle.shelf.specs.Laws.{KeepsAll}
use Rattle.shelf.specs.Steps.{drained, gathered}
use Rattle.shelf.specs.Stock.{CpuStock, FitsCpu, IsStock, Stock, bare_slab, empty_cpu, has_round, held_rounds, magazine_rounds, rounds_of_cpu, standing}
use Rattle.shelf.proofs.Lists.{All-front, AreDistinct-front, AreDistinct-permutation, apart_in_distinct}
use Rattle.shelf.proofs.HeldLemmas.{standing-with_round}
use Rattle.shelf.proofs.StockLemmas.{own_after}

-- ---- numbers of a range that rise

rises_above : (low : ℕ) (x : ℕ) (xs : List ℕ) → Rises low (x ∷ xs) → low ≢ x → Rises (low + 1) (x ∷ xs)
rises_above low x xs rises ne = elim (cases_order low x) [
  | inl same ↦ absurd (ne same)
  | inr (inl less) ↦ (omega arith, rises.1)
  | inr (inr more) ↦ absurd (omega (arith, rises.0))
]

-- the lowest of them is the first
lowest_first : (low x : ℕ) (xs : List ℕ) → Rises low (x ∷ xs) → Contains (x ∷ xs) low → x ≡ low
lowest_first low x xs rises held =
    elim (Contains-cases x low xs held) [
      | inl same ↦ same
      | inr there ↦
          let above : suc x ≤ get_or xs there.0 low = All-from_rises (suc x) xs rises.1 there.0 low there.1 in
          absurd (omega (arith, above, there.2, rises.0))
    ]

-- they are those of the range that pass a test which tells what is among them
pub rising_are : (p : ℕ → Bool) (low n : ℕ) (xs : List ℕ) → Rises low xs → Ends (low + n) xs → ((c : ℕ) → Contains xs c → p c ≡ true) → ((c : ℕ) → low ≤ c → c < low + n → p c ≡ true → Contains xs c) → xs ≡ filter p (range_with_len low n)
rising_are p low zero [] rises ends passes has = refl
rising_are p low zero (x ∷ xs) rises ends passes has = absurd (omega (arith, rises.0, ends 0 x (omega arith)))
rising_are p low (suc n) [] rises ends passes has =
    elim (cases_Bool (p low)) [
      | inl kept ↦ Contains-nil low (has low (omega arith) (omega arith) kept)
      | inr gone ↦ rw gone (rising_are p (low + 1) n [] tt (λ k d lt. absurd (omega arith)) passes (λ c le lt e. has c (omega arith) (omega arith) e))
    ]
rising_are p low (suc n) (x ∷ xs) rises ends passes has =
    elim (cases_Bool (p low)) [
      | inl kept ↦
          let first : x ≡ low = lowest_first low x xs rises (has low (omega arith) (omega arith) kept) in
          let above : Rises (low + 1) xs = Rises-lower (suc x) (low + 1) xs (omega arith) rises.1 in
          let rest : xs ≡ filter p (range_with_len (low + 1) n) =
          rising_are p (low + 1) n xs above
          (λ k d lt. omega (arith, ends (suc k) d (omega arith)))
          (λ c held. passes c (Contains-there x c xs held))
          (λ c le lt e. elim (Contains-cases x c xs (has c (omega arith) (omega arith) e)) [
            | inl same ↦ absurd (omega arith)
            | inr there ↦ there
          ]) in
          rw (kept, ← rest, first) refl
      | inr gone ↦
          let other : low ≢ x = λ same. true≢false (sym (passes low (rw same (Contains-here x xs))) ∙ gone) in
          rw gone
          (rising_are p (low + 1) n (x ∷ xs) (rises_above low x xs rises other)
          (λ k d lt. omega (arith, ends k d lt)) passes
          (λ c le lt e. has c (omega arith) (omega arith) e))
    ]

-- ---- the slabs after the rounds of all magazines were put

standing-after_put : (ss : List Slab) (c : ℕ) → standing (after_put ss c) ≡ standing ss
standing-after_put ss c = elim (cases_Bool (is_missing ss c)) [
  | inl taken ↦ rw taken (standing-with_round ss c)
  | inr refused ↦ rw refused refl
]

standing-after_puts : (ss : List Slab) (cs : List ℕ) → standing (after_puts ss cs) ≡ standing ss
standing-after_puts ss [] = refl
standing-after_puts ss (c ∷ cs) = standing-after_puts (after_put ss c) cs ∙ standing-after_put ss c

-- rounds in an order, and those in the lists, are all that are held
abbrev pub IsOrder : Stock → List ℕ → Type 0
IsOrder stock order = IsPermutation (order ++ listed_rounds stock.slabs) (held_rounds stock)

pub AreMissing-held : (stock : Stock) (order : List ℕ) → IsStock stock → IsOrder stock order → AreMissing stock.slabs order
AreMissing-held stock order h moved =
    let listed = listed_rounds stock.slabs in
    let distinct = AreDistinct-permutation _ _ (IsPermutation-sym _ _ moved) h.distinct in
    let own = All-permutation (λ c. Any (HasChunk c) stock.slabs) _ _ (IsPermutation-sym _ _ moved) h.own in
    record {
      each = λ k d lt.
          let c = get_or order k d in
          record {
            known = (All-front (λ x. Any (HasChunk x) stock.slabs) order listed own) k d lt;
            missing = λ held. apart_in_distinct order listed c distinct (Contains-get_or order k d lt) held;
          };
      distinct = AreDistinct-front order listed distinct;
    }

-- the lists hold all rounds then
holds_all : (stock : Stock) (order : List ℕ) → IsStock stock → IsOrder stock order → IsPermutation (held_rounds stock) (listed_rounds (after_puts stock.slabs order))
holds_all stock order h moved =
    IsPermutation-trans _ _ _ (IsPermutation-sym _ _ moved)
    (KeepsRounds-after_puts stock.slabs order h.slabs (AreMissing-held stock order h moved))

has_round-held : (stock : Stock) (c : ℕ) → Contains (held_rounds stock) c → has_round stock c ≡ true
has_round-held stock c held = list_any_at (λ x. eqb x c) (held_rounds stock) held.0 c held.1 (eq-eqb _ _ held.2)

held-has_round : (stock : Stock) (c : ℕ) → has_round stock c ≡ true → Contains (held_rounds stock) c
held-has_round stock c e =
    let at = Any-from_list_any (λ x. eqb x c) (held_rounds stock) e in
    let same : at.1 ≡ c = eqb-true at.1 c at.4 in
    (at.0, at.2, get_or_default (held_rounds stock) at.0 c at.1 at.2 ∙ at.3 ∙ same)

-- a slab is the same as another but for its list
relisted : (s t : Slab) (l : List ℕ) → bare_slab s ≡ bare_slab t → s.list ≡ l → s ≡ record t { list = l }
relisted s t l same list =
    ap (λ (b : Slab). let x : Slab = record b { list = s.list } in x) same ∙ ap (λ (xs : List ℕ). let x : Slab = record t { list = xs } in x) list

no_slab : Slab
no_slab = record { base = 0; first = 0; count = 0; list = [] }

gathered_at : (stock : Stock) (order : List ℕ) (k : ℕ) → IsStock stock → IsOrder stock order → k < length stock.slabs → k < length (after_puts stock.slabs order) → get_or (after_puts stock.slabs order) k no_slab ≡ gathered stock (get_or stock.slabs k no_slab)
gathered_at stock order k h moved lt long =
    let ns = after_puts stock.slabs order in
    let s = get_or ns k no_slab in
    let t = get_or stock.slabs k no_slab in
    let sound = AreSlabs-after_puts stock.slabs order h.slabs in
    let holds = holds_all stock order h moved in
    let same : bare_slab s ≡ bare_slab t =
    sym (get_or-map bare_slab ns k no_slab no_slab long) ∙ ap (λ (l : List Slab). get_or l k no_slab) (standing-after_puts stock.slabs order) ∙ get_or-map bare_slab stock.slabs k no_slab no_slab lt in
    let list : s.list ≡ filter (has_round stock) (range_with_len s.first s.count) =
    rising_are (has_round stock) s.first s.count s.list (Rises-list s (sound.each k no_slab long)) (Ends-list s (sound.each k no_slab long))
    (λ c held. has_round-held stock c (Contains-permutation _ _ c (IsPermutation-sym _ _ holds) (Contains-rounds ns k c no_slab long held)))
    (λ c le less e. held_by_own ns k c no_slab sound long (le, less) (Contains-permutation _ _ c holds (held-has_round stock c e))) in
    let first : s.first ≡ t.first = ap (λ (x : Slab). x.first) same in
    let count : s.count ≡ t.count = ap (λ (x : Slab). x.count) same in
    relisted s t (filter (has_round stock) (range_with_len t.first t.count)) same (rw (first, count) at list)

pub gathered_are : (stock : Stock) (order : List ℕ) → IsStock stock → IsOrder stock order → after_puts stock.slabs order ≡ map (gathered stock) stock.slabs
gathered_are stock order h moved =
    let ns = after_puts stock.slabs order in
    let long : length ns ≡ length stock.slabs = sym (length-map ns bare_slab) ∙ ap length (standing-after_puts stock.slabs order) ∙ length-map stock.slabs bare_slab in
    ext_get_or no_slab ns (map (gathered stock) stock.slabs) (long ∙ sym (length-map stock.slabs (gathered stock)))
    (λ k lt.
    let less : k < length stock.slabs = omega (arith, long) in
    gathered_at stock order k h moved less lt ∙ sym (get_or-map (gathered stock) stock.slabs k no_slab no_slab less))

-- ---- the stock afterwards

none_at_empty : (cpus : List CpuStock) → flat_map rounds_of_cpu (map (λ (_ : CpuStock). empty_cpu) cpus) ≡ []
none_at_empty [] = refl
none_at_empty (cpu ∷ cpus) = none_at_empty cpus

held_drained : (stock : Stock) → held_rounds (drained stock) ≡ listed_rounds (map (gathered stock) stock.slabs)
held_drained stock = rw (none_at_empty stock.cpus) refl

fits_empty : (size : ℕ) (cpus : List CpuStock) → All (FitsCpu size) (map (λ (_ : CpuStock). empty_cpu) cpus)
fits_empty size cpus = All-map (FitsCpu size) (λ (_ : CpuStock). empty_cpu) cpus (λ k d lt. record { loaded = omega arith; previous = omega arith })

pub drained_is : (stock : Stock) → IsStock stock → KeepsAll stock (drained stock)
drained_is stock h =
    let order = magazine_rounds stock in
    let moved : IsOrder stock order = IsPermutation-refl (held_rounds stock) in
    let are = gathered_are stock order h moved in
    let holds : IsPermutation (held_rounds stock) (held_rounds (drained stock)) = rw (held_drained stock, ← are) (holds_all stock order h moved) in
    let same : standing (map (gathered stock) stock.slabs) ≡ standing stock.slabs = rw (← are) (standing-after_puts stock.slabs order) in
    record {
      holds = holds;
      sound = record {
        some = h.some;
        cpus = fits_empty stock.size stock.cpus;
        few = omega arith;
        filled = λ k d lt. absurd (omega arith);
        slabs = rw (← are) (AreSlabs-after_puts stock.slabs order h.slabs);
        distinct = AreDistinct-permutation _ _ holds h.distinct;
        own = own_after stock.slabs (map (gathered stock) stock.slabs) _ _ same holds h.own;
      };
      shape = record { size = refl; cpus = length-map stock.cpus (λ (_ : CpuStock). empty_cpu); slabs = same };
    }

-- ---- which slabs are complete then

complete_holds : (stock : Stock) (slab : Slab) → IsComplete (gathered stock slab) → (chunk : ℕ) → HasChunk chunk slab → Contains (held_rounds stock) chunk
complete_holds stock slab complete chunk has =
    let i = chunk - slab.first in
    let lt : i < length (range_with_len slab.first slab.count) = omega (arith, length-range_with_len slab.first slab.count, has.0, has.1) in
    let all = filter_passes (has_round stock) (range_with_len slab.first slab.count) in
    let here : has_round stock (get_or (range_with_len slab.first slab.count) i chunk) ≡ true = (rw complete at all) i chunk lt in
    let is : get_or (range_with_len slab.first slab.count) i chunk ≡ chunk = omega (arith, get_or-range_with_len slab.first slab.count i chunk (omega (arith, has.0, has.1)), has.0) in
    held-has_round stock chunk (rw is at here)

holds_complete : (stock : Stock) (slab : Slab) → ((chunk : ℕ) → HasChunk chunk slab → Contains (held_rounds stock) chunk) → IsComplete (gathered stock slab)
holds_complete stock slab all =
    filter_all (has_round stock) (range_with_len slab.first slab.count) (λ k d lt.
    let less : k < slab.count = omega (arith, length-range_with_len slab.first slab.count) in
    let is = get_or-range_with_len slab.first slab.count k d less in
    rw is (has_round-held stock (slab.first + k) (all (slab.first + k) (omega arith, omega arith))))

pub gathered_complete : (stock : Stock) (slab : Slab) → IsComplete (gathered stock slab) ↔ ((chunk : ℕ) → HasChunk chunk slab → Contains (held_rounds stock) chunk)
gathered_complete stock slab = (complete_holds stock slab, holds_complete stock slab)
