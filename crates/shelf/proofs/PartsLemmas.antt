-- The parts of a shelf, as the stock that they hold.
use Rattle.std.proofs.Common.{◌≡◌, ℕ, zero, suc, ◌+◌, ◌<◌, ◌≤◌, false, List, [], ◌∷◌, ◌++◌, Option, Some, None, length, get_or, drop, map, replicate, set, reverse, refl, sym, ap, ◌∙◌, append_assoc, subst, arith}
use Rattle.std.specs.Prelude.{All, IfSome, is_some}
use Rattle.std.specs.List.{flat_map}
use Rattle.std.specs.List.Sorted.{IsPermutation}
use Rattle.std.specs.Option.{option_map, option_map_or}
use Rattle.std.proofs.lemmas.Bool.{true≢false}
use Rattle.std.proofs.lemmas.List.{get_or-map, length-map, length-replicate, map-set}
use Rattle.std.proofs.lemmas.List.Elements.{All-cons, All-map, All-replicate, All-set}
use Rattle.std.proofs.lemmas.List.Sorted.{IsPermutation-append, IsPermutation-append_comm, IsPermutation-append_left, IsPermutation-refl, IsPermutation-reverse, IsPermutation-sym, IsPermutation-trans}
use Rattle.slab_layer.specs.Slab.{Slab}
use Rattle.slab_layer.specs.Slabs.{Slabs, after_puts, listed_rounds}
use Rattle.slab_layer.proofs.SlabsLemmas.{after_puts-append}
use Rattle.magazine.specs.CpuCache.{AreEmpty, CpuCache, drain_order}
use Rattle.depot.specs.Depot.{Depot, depot_rounds}
use Rattle.shelf.specs.Laws.{TakesOne}
use Rattle.shelf.specs.Shelf.{AreParts, KeepsSizes, Shelf, cpu_caches, cpu_stock, emptied, reach_in, stock_of}
use Rattle.shelf.specs.Steps.{InHand, Reach, chunk_in, drained, from_behind, from_cpus, gathered, in_whole, left_in, put_in, put_on, reach_of, taken_any, with_reach}
use Rattle.shelf.specs.Stock.{CpuStock, FitsCpu, IsOut, IsStock, KeepsShape, Stock, empty_cpu, empty_stock, held_rounds, magazine_rounds, rounds_of_cpu}
use Rattle.shelf.proofs.DrainLemmas.{gathered_are}
use Rattle.shelf.proofs.StockLemmas.{cpus_none, same_stock}

-- ---- what one CPU reaches

pub reach_of-parts : (cpus : List CpuCache) (depot : Depot) (slabs : Slabs) (i : ℕ) (cpu : CpuCache) → i < length cpus → cpu ≡ get_or cpus i cpu → reach_of (stock_of cpus depot slabs.slabs) i ≡ reach_in cpu depot slabs
reach_of-parts cpus depot slabs i cpu lt is =
    ap (λ (c : CpuStock). let r : Reach = record { cpu = c; depot = depot.full; slabs = slabs.slabs } in r)
    (get_or-map cpu_stock cpus i cpu empty_cpu lt ∙ ap cpu_stock (sym is))

pub stock_of-with : (cpus : List CpuCache) (i : ℕ) (old new : CpuCache) (depot depot' : Depot) (slabs slabs' : Slabs) → KeepsSizes old new depot depot' slabs slabs' → stock_of (set cpus i new) depot' slabs'.slabs ≡ with_reach (stock_of cpus depot slabs.slabs) i (reach_in new depot' slabs')
stock_of-with cpus i old new depot depot' slabs slabs' sizes = rw (map-set cpu_stock cpus i new, sizes.depot) refl

-- a round in hand of what a CPU reaches is one of the whole
pub left_in-whole : (stock : Stock) (i : ℕ) (taken : Option (InHand Reach)) → with_reach stock i (left_in (reach_of stock i) taken) ≡ left_in stock (in_whole (with_reach stock i) taken)
left_in-whole stock i None = same_stock stock i
left_in-whole stock i (Some hand) = refl

pub chunk_in-whole : {A B : Type 0} (whole : A → B) (taken : Option (InHand A)) → chunk_in (in_whole whole taken) ≡ chunk_in taken
chunk_in-whole whole None = refl
chunk_in-whole whole (Some hand) = refl

-- what a step of a CPU leaves is what is left of the stock
pub taken_of-parts : (step : Reach → Option (InHand Reach)) (cpus : List CpuCache) (i : ℕ) (old new : CpuCache) (depot depot' : Depot) (slabs slabs' : Slabs) → i < length cpus → old ≡ get_or cpus i old → KeepsSizes old new depot depot' slabs slabs' → reach_in new depot' slabs' ≡ left_in (reach_in old depot slabs) (step (reach_in old depot slabs)) → stock_of (set cpus i new) depot' slabs'.slabs ≡ (let stock = stock_of cpus depot slabs.slabs in left_in stock (in_whole (with_reach stock i) (step (reach_of stock i))))
taken_of-parts step cpus i old new depot depot' slabs slabs' lt is sizes left =
    let stock = stock_of cpus depot slabs.slabs in
    let reach : reach_of stock i ≡ reach_in old depot slabs = reach_of-parts cpus depot slabs i old lt is in
    let after : reach_in new depot' slabs' ≡ left_in (reach_of stock i) (step (reach_of stock i)) =
    left ∙ ap (λ (r : Reach). left_in r (step r)) (sym reach) in
    stock_of-with cpus i old new depot depot' slabs slabs' sizes ∙ ap (with_reach stock i) after ∙ left_in-whole stock i (step (reach_of stock i))

-- ---- all magazines have one size

pub cpu_caches-parts : (cpus : List CpuCache) (depot : Depot) (slabs : List Slab) → All (λ cpu. cpu.size ≡ depot.size) cpus → cpu_caches (stock_of cpus depot slabs) ≡ cpus
cpu_caches-parts [] depot slabs sizes = refl
cpu_caches-parts (cpu ∷ cpus) depot slabs sizes =
    let here : cpu.size ≡ depot.size = sizes 0 cpu (omega arith) in
    let rest = cpu_caches-parts cpus depot slabs (λ k d lt. sizes (suc k) d (omega arith)) in
    rw (← here, rest) refl

pub sizes-set : (cpus : List CpuCache) (i : ℕ) (old new : CpuCache) (depot depot' : Depot) (slabs slabs' : Slabs) → i < length cpus → old ≡ get_or cpus i old → KeepsSizes old new depot depot' slabs slabs' → All (λ cpu. cpu.size ≡ depot.size) cpus → All (λ cpu. cpu.size ≡ depot'.size) (set cpus i new)
sizes-set cpus i old new depot depot' slabs slabs' lt is sizes all =
    let here : old.size ≡ depot.size = rw (← is) at (all i old lt) in
    All-set (λ cpu. cpu.size ≡ depot'.size) cpus i new (sizes.cpu ∙ here ∙ sym sizes.depot) (λ k d less. all k d less ∙ sym sizes.depot)

-- ---- no round yet

none_at : (n : ℕ) → flat_map rounds_of_cpu (replicate n empty_cpu) ≡ []
none_at zero = refl
none_at (suc n) = none_at n

pub IsStock-empty : (size n : ℕ) → 1 ≤ size → IsStock (empty_stock size n)
IsStock-empty size n some =
    let none : held_rounds (empty_stock size n) ≡ [] = rw (none_at n) refl in
    record {
      some = some;
      cpus = All-replicate (FitsCpu size) n empty_cpu (record { loaded = omega arith; previous = omega arith });
      few = omega arith;
      filled = λ k d lt. absurd (omega arith);
      slabs = record {
        each = λ k d lt. absurd (omega arith);
        apart = λ i j d less lt. absurd (omega arith);
        bases = λ i j d less lt. absurd (omega arith);
      };
      distinct = rw none (λ i j d less lt. absurd (omega arith));
      own = rw none (λ k d lt. absurd (omega arith));
    }

abbrev pub new_cpu : ℕ → CpuCache
new_cpu size = record { size = size; loaded = []; previous = [] }

stocks_of_new : (size n : ℕ) → map cpu_stock (replicate n (new_cpu size)) ≡ replicate n empty_cpu
stocks_of_new size zero = refl
stocks_of_new size (suc n) = ap (λ (l : List CpuStock). empty_cpu ∷ l) (stocks_of_new size n)

pub stock_of-new : (size n : ℕ) → stock_of (replicate n (new_cpu size)) (record { size = size; full = [] }) [] ≡ empty_stock size n
stock_of-new size n = rw (stocks_of_new size n) refl

pub AreParts-new : (size n : ℕ) (cpus : List CpuCache) (depot : Depot) → 1 ≤ size → cpus ≡ replicate n (new_cpu size) → depot ≡ record { size = size; full = [] } → AreParts cpus depot []
AreParts-new size n cpus depot some cpus_are depot_is =
    rw (cpus_are, depot_is)
    (record {
      sizes = All-replicate (λ cpu. cpu.size ≡ size) n (new_cpu size) refl;
      stock = rw (stock_of-new size n) (IsStock-empty size n some);
    })

-- ---- a drain

drained_cpus : (cpus : List CpuCache) → map cpu_stock (map emptied cpus) ≡ map (λ (_ : CpuStock). empty_cpu) (map cpu_stock cpus)
drained_cpus [] = refl
drained_cpus (cpu ∷ cpus) = ap (λ (l : List CpuStock). empty_cpu ∷ l) (drained_cpus cpus)

drain_of_cpus : (cpus : List CpuCache) → IsPermutation (flat_map drain_order cpus) (flat_map rounds_of_cpu (map cpu_stock cpus))
drain_of_cpus [] = IsPermutation-refl []
drain_of_cpus (cpu ∷ cpus) =
    IsPermutation-append _ _ _ _
    (IsPermutation-append _ _ _ _ (IsPermutation-sym _ _ (IsPermutation-reverse cpu.loaded)) (IsPermutation-sym _ _ (IsPermutation-reverse cpu.previous)))
    (drain_of_cpus cpus)

-- the order in which a shelf is emptied
abbrev pub shelf_order : List CpuCache → Depot → List ℕ
shelf_order cpus depot = flat_map drain_order cpus ++ reverse (flat_map (λ rounds. rounds) depot.full)

pub shelf_order-is : (cpus : List CpuCache) (depot : Depot) (slabs : List Slab) → IsPermutation (shelf_order cpus depot ++ listed_rounds slabs) (held_rounds (stock_of cpus depot slabs))
shelf_order-is cpus depot slabs =
    IsPermutation-append_left (listed_rounds slabs) _ _
    (IsPermutation-append _ _ _ _ (drain_of_cpus cpus) (IsPermutation-sym _ _ (IsPermutation-reverse (flat_map (λ rounds. rounds) depot.full))))

-- ---- a round of any CPU

same_cpus : (old new : List CpuCache) → map cpu_stock new ≡ map cpu_stock old → map (λ (cpu : CpuCache). cpu.size) new ≡ map (λ (cpu : CpuCache). cpu.size) old → new ≡ old
same_cpus [] [] stocks sizes = refl
same_cpus [] (cpu ∷ cpus) stocks sizes = absurd (cc stocks)
same_cpus (cpu ∷ cpus) [] stocks sizes = absurd (cc stocks)
same_cpus (cpu ∷ cpus) (now ∷ nows) stocks sizes =
    let stock : cpu_stock now ≡ cpu_stock cpu = ap (λ (l : List CpuStock). get_or l 0 empty_cpu) stocks in
    let size : now.size ≡ cpu.size = ap (λ (l : List ℕ). get_or l 0 0) sizes in
    let loaded : now.loaded ≡ cpu.loaded = ap (λ (s : CpuStock). s.loaded) stock in
    let previous : now.previous ≡ cpu.previous = ap (λ (s : CpuStock). s.previous) stock in
    let first : now ≡ cpu = rw (← size, ← loaded, ← previous) refl in
    let rest : nows ≡ cpus = same_cpus cpus nows (ap (drop 1) stocks) (ap (drop 1) sizes) in
    rw (first, rest) refl

pub sizes_kept : (n : ℕ) (old new : List CpuCache) → map (λ (cpu : CpuCache). cpu.size) new ≡ map (λ (cpu : CpuCache). cpu.size) old → All (λ cpu. cpu.size ≡ n) old → All (λ cpu. cpu.size ≡ n) new
sizes_kept n [] [] sizes all = all
sizes_kept n [] (cpu ∷ cpus) sizes all = absurd (cc sizes)
sizes_kept n (cpu ∷ cpus) [] sizes all = absurd (cc sizes)
sizes_kept n (cpu ∷ cpus) (now ∷ nows) sizes all =
    let here : now.size ≡ cpu.size = ap (λ (l : List ℕ). get_or l 0 0) sizes in
    All-cons (λ (c : CpuCache). c.size ≡ n) now nows (here ∙ all 0 cpu (omega arith))
    (sizes_kept n cpus nows (ap (drop 1) sizes) (λ k d lt. all (suc k) d (omega arith)))

hand_from : {A : Type 0} (all : A) (taken : Option (InHand A)) (round : ℕ) (left : A) → Some round ≡ chunk_in taken → left ≡ left_in all taken → taken ≡ Some (record { chunk = round; left = left })
hand_from all None round left is same = absurd (cc is)
hand_from all (Some hand) round left is same =
    let chunk : round ≡ hand.chunk = cc in
    rw (chunk, same) refl

pub none_from : {A : Type 0} (taken : Option (InHand A)) → None ≡ chunk_in taken → taken ≡ None
none_from None is = refl
none_from (Some hand) is = absurd (cc is)

-- what a round of a CPU leaves
pub any_found : (cpus new : List CpuCache) (depot : Depot) (slabs : List Slab) (i round : ℕ) → Some round ≡ chunk_in (from_cpus (map cpu_stock cpus)) → map cpu_stock new ≡ left_in (map cpu_stock cpus) (from_cpus (map cpu_stock cpus)) → taken_any (stock_of cpus depot slabs) i ≡ Some (record { chunk = round; left = stock_of new depot slabs })
any_found cpus new depot slabs i round is left =
    let found = hand_from (map cpu_stock cpus) (from_cpus (map cpu_stock cpus)) round (map cpu_stock new) is left in
    rw found refl

-- where no CPU has one, all is as it was
pub none_found : (cpus new : List CpuCache) → None ≡ chunk_in (from_cpus (map cpu_stock cpus)) → map cpu_stock new ≡ left_in (map cpu_stock cpus) (from_cpus (map cpu_stock cpus)) → map (λ (cpu : CpuCache). cpu.size) new ≡ map (λ (cpu : CpuCache). cpu.size) cpus → (new ≡ cpus) × (from_cpus (map cpu_stock cpus) ≡ None)
none_found cpus new is left sizes =
    let none = none_from (from_cpus (map cpu_stock cpus)) is in
    (same_cpus cpus new (rw none at left) sizes, none)

pub any_behind : (stock : Stock) (i : ℕ) → from_cpus stock.cpus ≡ None → taken_any stock i ≡ in_whole (with_reach stock i) (from_behind (reach_of stock i))
any_behind stock i none = rw none refl

-- the CPU has none then
pub empty_at : (cpus : List CpuCache) (i : ℕ) (d : CpuCache) → i < length cpus → from_cpus (map cpu_stock cpus) ≡ None → AreEmpty (get_or cpus i d)
empty_at cpus i d lt none =
    let empty = cpus_none (map cpu_stock cpus) none i empty_cpu (rw length-map lt) in
    let is : get_or (map cpu_stock cpus) i empty_cpu ≡ cpu_stock (get_or cpus i d) = get_or-map cpu_stock cpus i d empty_cpu lt in
    record { loaded = sym (ap (λ (s : CpuStock). s.loaded) is) ∙ empty.0; previous = sym (ap (λ (s : CpuStock). s.previous) is) ∙ empty.1 }

-- ---- what a shelf holds afterwards

pub round_of-parts : (step : Reach → Option (InHand Reach)) (cpus : List CpuCache) (i : ℕ) (old : CpuCache) (depot : Depot) (slabs : Slabs) (result : Option ℕ) → i < length cpus → old ≡ get_or cpus i old → result ≡ chunk_in (step (reach_in old depot slabs)) → result ≡ (let stock = stock_of cpus depot slabs.slabs in chunk_in (in_whole (with_reach stock i) (step (reach_of stock i))))
round_of-parts step cpus i old depot slabs result lt is found =
    let stock = stock_of cpus depot slabs.slabs in
    found
    ∙ ap (λ (r : Reach). chunk_in (step r)) (sym (reach_of-parts cpus depot slabs i old lt is))
    ∙ sym (chunk_in-whole (with_reach stock i) (step (reach_of stock i)))

pub put_of-parts : (cpus : List CpuCache) (i chunk : ℕ) (old new : CpuCache) (depot depot' : Depot) (slabs slabs' : Slabs) → i < length cpus → old ≡ get_or cpus i old → KeepsSizes old new depot depot' slabs slabs' → reach_in new depot' slabs' ≡ put_in depot.size (reach_in old depot slabs) chunk → stock_of (set cpus i new) depot' slabs'.slabs ≡ put_on (stock_of cpus depot slabs.slabs) i chunk
put_of-parts cpus i chunk old new depot depot' slabs slabs' lt is sizes left =
    let stock = stock_of cpus depot slabs.slabs in
    let after : reach_in new depot' slabs' ≡ put_in depot.size (reach_of stock i) chunk =
    left ∙ ap (λ (r : Reach). put_in depot.size r chunk) (sym (reach_of-parts cpus depot slabs i old lt is)) in
    stock_of-with cpus i old new depot depot' slabs slabs' sizes ∙ ap (with_reach stock i) after

-- a shelf is its parts
pub shelf_of : (shelf : Shelf) (cache spare : ℕ) (stock : Stock) → shelf.cache ≡ cache → shelf.spare ≡ spare → shelf.stock ≡ stock → shelf ≡ record { cache = cache; spare = spare; stock = stock }
shelf_of shelf cache spare stock cache_is spare_is stock_is = rw (← cache_is, ← spare_is, ← stock_is) refl

KeepsShape-same : (stock : Stock) → KeepsShape stock stock
KeepsShape-same stock = record { size = refl; cpus = refl; slabs = refl }

-- what an allocation that may have found a round leaves
pub record Took (stock : Stock) (result : Option ℕ) (now : Stock) : Type 0 where
  pub holds : IfSome result (λ round. IsPermutation (held_rounds stock) (round ∷ held_rounds now))
  pub out : IfSome result (IsOut now)
  pub sound : IsStock now
  pub shape : KeepsShape stock now

pub took : (stock : Stock) (taken : Option (InHand Stock)) (result : Option ℕ) (now : Stock) → IsStock stock → IfSome taken (TakesOne stock) → result ≡ chunk_in taken → now ≡ left_in stock taken → Took stock result now
took stock None result now h takes is left = rw (is, left) (record { holds = tt; out = tt; sound = h; shape = KeepsShape-same stock })
took stock (Some hand) result now h takes is left = rw (is, left) (record { holds = takes.holds; out = takes.out; sound = takes.sound; shape = takes.shape })

pub none_is : {A : Type 0} (taken : Option (InHand A)) (result : Option ℕ) → result ≡ chunk_in taken → (is_some result ≡ false → taken ≡ None) × (taken ≡ None → is_some result ≡ false)
none_is None result is = (λ e. refl, λ e. rw is refl)
none_is (Some hand) result is = (λ e. absurd (true≢false (sym (ap is_some is) ∙ e)), λ e. absurd (cc e))

-- ---- a drain of the parts

pub sizes-emptied : (cpus : List CpuCache) (depot depot' : Depot) → depot'.size ≡ depot.size → All (λ cpu. cpu.size ≡ depot.size) cpus → All (λ cpu. cpu.size ≡ depot'.size) (map emptied cpus)
sizes-emptied cpus depot depot' same all = All-map (λ (cpu : CpuCache). cpu.size ≡ depot'.size) emptied cpus (λ k d lt. all k d lt ∙ sym same)

pub drain_of-parts : (cpus cpus' : List CpuCache) (depot depot' : Depot) (ss ns : List Slab) → IsStock (stock_of cpus depot ss) → cpus' ≡ map emptied cpus → depot' ≡ record depot { full = [] } → ns ≡ after_puts (after_puts ss (flat_map drain_order cpus)) (reverse (depot_rounds depot)) → stock_of cpus' depot' ns ≡ drained (stock_of cpus depot ss)
drain_of-parts cpus cpus' depot depot' ss ns h cpus_are depot_is put =
    let stock = stock_of cpus depot ss in
    let lists : ns ≡ map (gathered stock) ss = put ∙ rw (← after_puts-append) (gathered_are stock (shelf_order cpus depot) h (shelf_order-is cpus depot ss)) in
    rw (cpus_are, depot_is, lists, drained_cpus cpus) refl
