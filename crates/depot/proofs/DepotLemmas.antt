-- The magazines of a depot as one leaves them, what a trade moves, and the rounds that a drain puts.
use Rattle.std.proofs.Common.{◌≡◌, ℕ, suc, ◌+◌, List, [], ◌∷◌, ◌++◌, All, Some, length, length-append, reverse, append_assoc, refl, sym, ap, ◌∙◌, arith}
use Rattle.std.specs.List.{flat_map}
use Rattle.std.proofs.lemmas.List.{append-nil, length-map, map-append, reverse-append}
use Rattle.std.proofs.lemmas.List.Concat.{flat_map-append}
use Rattle.std.proofs.lemmas.List.Elements.{All-map, All-pop, All-push}
use Rattle.std.proofs.lemmas.List.Sorted.{IsPermutation-append_comm, IsPermutation-append_right}
use Rattle.slab_layer.specs.Slab.{Slab}
use Rattle.slab_layer.specs.Slabs.{after_puts}
use Rattle.slab_layer.proofs.SlabsLemmas.{after_puts-append}
use Rattle.magazine.specs.CpuCache.{CpuCache}
use Rattle.magazine.specs.Magazine.{Magazine}
use Rattle.depot.specs.Depot.{AreMagazines, Depot, IsDepot, IsEmptyOf, IsFullOf, TradesForEmpty, TradesRounds, depot_rounds, full_magazines, rounds_of_each}

-- ---- the eight magazines

-- the depot that full magazines are seen as
abbrev pub depot_of : ℕ → List Magazine → Depot
depot_of size full = record { size = size; full = rounds_of_each full }

pub IsDepot-from_magazines : (size : ℕ) (full : List Magazine) (full_spare : ℕ) (empty : List Magazine) (empty_spare : ℕ) → AreMagazines size full full_spare empty empty_spare → IsDepot (depot_of size full)
IsDepot-from_magazines size full full_spare empty empty_spare h = record {
  some = h.some;
  few = rw length-map (omega (arith, h.count));
  filled = All-map (λ (rounds : List ℕ). length rounds ≡ size) (λ (magazine : Magazine). magazine.rounds) full (λ k d lt. (h.filled k d lt).1);
}

-- each full magazine is its rounds, with the one size
pub full_magazines-depot_of : (size : ℕ) (full : List Magazine) → All (IsFullOf size) full → full_magazines (depot_of size full) ≡ full
full_magazines-depot_of size [] h = refl
full_magazines-depot_of size (magazine ∷ full) h =
    let here : magazine.size ≡ size = (h 0 magazine (omega arith)).0 in
    let same : magazine ≡ record { size = size; rounds = magazine.rounds } = ap (λ (s : ℕ). let m : Magazine = record { size = s; rounds = magazine.rounds } in m) here in
    let rest = full_magazines-depot_of size full (λ k d lt. h (suc k) d (omega arith)) in
    ap (λ (m : Magazine). m ∷ full_magazines (depot_of size full)) (sym same) ∙ ap (λ (ms : List Magazine). magazine ∷ ms) rest

-- the newest of some magazines
pub newest-full : (size : ℕ) (full rest : List Magazine) (newest : Magazine) → full ≡ rest ++ newest ∷ [] → All (IsFullOf size) full → IsFullOf size newest
newest-full size full rest newest last all = (All-pop (IsFullOf size) full rest (Some newest) last all).1

pub newest-empty : (size : ℕ) (empty rest : List Magazine) (newest : Magazine) → empty ≡ rest ++ newest ∷ [] → All (IsEmptyOf size) empty → IsEmptyOf size newest
newest-empty size empty rest newest last all = (All-pop (IsEmptyOf size) empty rest (Some newest) last all).1

-- a full one goes, and an empty one comes
pub AreMagazines-emptied : (size : ℕ) (full rest empty : List Magazine) (newest back : Magazine) (full_spare empty_spare spare room : ℕ) → AreMagazines size full full_spare empty empty_spare → full ≡ rest ++ newest ∷ [] → spare ≡ full_spare + 1 → room + 1 ≡ empty_spare → IsEmptyOf size back → AreMagazines size rest spare (empty ++ back ∷ []) room
AreMagazines-emptied size full rest empty newest back full_spare empty_spare spare room h last more less is =
    let one_less : length rest + 1 ≡ length full = omega (arith, ap length last, length-append {A = Magazine}) in
    let one_more : length (empty ++ back ∷ []) ≡ length empty + 1 = omega (arith, length-append {A = Magazine}) in
    record {
      some = h.some;
      count = omega (arith, h.count);
      room_is = omega (arith, h.room_is);
      spare_is = omega (arith, h.spare_is);
      filled = (All-pop (IsFullOf size) full rest (Some newest) last h.filled).0;
      emptied = All-push (IsEmptyOf size) empty back h.emptied is;
    }

-- an empty one goes, and a full one comes
pub AreMagazines-filled : (size : ℕ) (full rest empty : List Magazine) (newest back : Magazine) (full_spare empty_spare spare room : ℕ) → AreMagazines size full full_spare empty empty_spare → empty ≡ rest ++ newest ∷ [] → spare + 1 ≡ full_spare → room ≡ empty_spare + 1 → IsFullOf size back → AreMagazines size (full ++ back ∷ []) spare rest room
AreMagazines-filled size full rest empty newest back full_spare empty_spare spare room h last less more is =
    let one_less : length rest + 1 ≡ length empty = omega (arith, ap length last, length-append {A = Magazine}) in
    let one_more : length (full ++ back ∷ []) ≡ length full + 1 = omega (arith, length-append {A = Magazine}) in
    record {
      some = h.some;
      count = omega (arith, h.count);
      room_is = omega (arith, h.room_is);
      spare_is = omega (arith, h.spare_is);
      filled = All-push (IsFullOf size) full back h.filled is;
      emptied = (All-pop (IsEmptyOf size) empty rest (Some newest) last h.emptied).0;
    }

-- ---- what a trade moves

pub TradesRounds-for_empty : {old new : Depot} {before after : CpuCache} → TradesForEmpty old new before after → TradesRounds old new before after
TradesRounds-for_empty {old} {new} {before} {after} trade =
    rw (trade.full, trade.loaded, trade.previous, flat_map-append (λ (rounds : List ℕ). rounds) old.full (before.previous ∷ []), append-nil before.previous, append_assoc)
    (IsPermutation-append_right (depot_rounds old) _ _ (IsPermutation-append_comm before.loaded before.previous))

-- ---- what a drain puts

-- the rounds of magazines
abbrev pub rounds_in : List Magazine → List ℕ
rounds_in magazines = flat_map (λ rounds. rounds) (rounds_of_each magazines)

-- those of the newest come first
pub after_puts-newest : (slabs : List Slab) (magazines rest : List Magazine) (newest : Magazine) → magazines ≡ rest ++ newest ∷ [] → after_puts slabs (reverse (rounds_in magazines)) ≡ after_puts (after_puts slabs (reverse newest.rounds)) (reverse (rounds_in rest))
after_puts-newest slabs magazines rest newest last =
    rw (last, map-append (λ (magazine : Magazine). magazine.rounds) rest (newest ∷ []), flat_map-append (λ (rounds : List ℕ). rounds) (rounds_of_each rest) (newest.rounds ∷ []), append-nil newest.rounds, reverse-append, after_puts-append)
