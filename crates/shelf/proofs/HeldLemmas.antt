-- Steps lose no round and make none up, and leave a stock sound.
use Rattle.std.proofs.Common.{◌≡◌, ◌≢◌, ℕ, suc, ◌+◌, ◌<◌, ◌≤◌, not, List, [], ◌∷◌, ◌++◌, Option, Some, None, length, length-append, get_or, map, eqb, refl, sym, ap, ◌∙◌, append_assoc, arith, inl, inr}
use Rattle.std.specs.Prelude.{All, Any, IfSome}
use Rattle.std.specs.List.{flat_map}
use Rattle.std.specs.List.Sorted.{IsPermutation}
use Rattle.std.specs.Option.{option_map, option_map_or}
use Rattle.std.proofs.lemmas.Bool.{cases_Bool, cases_lt, le-ltb, lt-ltb}
use Rattle.std.proofs.lemmas.List.{append-nil, get_or_default, get_or-map, length-map}
use Rattle.std.proofs.lemmas.List.Concat.{flat_map-append}
use Rattle.std.proofs.lemmas.List.Elements.{All-filter, All-map, All-pop, All-push, filter-append}
use Rattle.std.proofs.lemmas.List.Kept.{IsStrictlyIncreasing-filter}
use Rattle.std.proofs.lemmas.List.Sorted.{IsPermutation-append_comm, IsPermutation-append_left, IsPermutation-append_right, IsPermutation-cons, IsPermutation-middle, IsPermutation-refl, IsPermutation-sym, IsPermutation-trans}
use Rattle.std.proofs.lemmas.Option.{IfSome_then}
use Rattle.umem_base.specs.Ordered.{left_out_by, split_newest}
use Rattle.umem_base.proofs.OrderedLemmas.{append_from_split_newest, nil_from_split_newest}
use Rattle.slab_layer.specs.Slab.{HasChunk, IsSlab, Slab, has_chunk, with_chunk, without_chunk}
use Rattle.slab_layer.specs.Slabs.{AreSlabs, IsMissing, listed_rounds, with_round, without_round}
use Rattle.slab_layer.proofs.RoundsLemmas.{All-from_rises, left_out_by-first}
use Rattle.slab_layer.proofs.SlabsLemmas.{IsPut-missing, rounds_rise}
use Rattle.depot.specs.declared.depot.TheConstants.{MAGAZINES}
use Rattle.shelf.specs.Steps.{InHand, IsBare, Reach, exchanged, from_behind, from_loaded, from_slabs, lowest_of, newest_of, put_behind, put_in, pushed, taken_in, traded_empty, traded_full, with_full}
use Rattle.shelf.specs.Stock.{FitsCpu, bare_slab, rounds_of_cpu, standing}
use Rattle.shelf.proofs.Lists.{AllPairs-map, IfSome-in_whole, IfSome-mapped, IfSome-or, exchange, none_in_whole, none_mapped, none_of_both}
use Rattle.shelf.proofs.StepsLemmas.{from_loaded-empty, lowest_is_first, traded_full-none}

-- ---- the newest of some rounds

newest_split : (rounds : List ℕ) (split : Option (List ℕ × ℕ)) → ((rest : List ℕ) (chunk : ℕ) → split ≡ Some (rest, chunk) → rounds ≡ rest ++ chunk ∷ []) → IfSome (option_map (λ s. let h : InHand (List ℕ) = record { chunk = s.1; left = s.0 } in h) split) (λ h. rounds ≡ h.left ++ h.chunk ∷ [])
newest_split rounds None splits = tt
newest_split rounds (Some split) splits = splits split.0 split.1 refl

pub newest_is : (rounds : List ℕ) → IfSome (newest_of rounds) (λ hand. rounds ≡ hand.left ++ hand.chunk ∷ [])
newest_is rounds = newest_split rounds (split_newest rounds) (λ rest chunk e. append_from_split_newest rounds rest chunk e)

pub newest_none : (rounds : List ℕ) → newest_of rounds ≡ None → rounds ≡ []
newest_none rounds e = nil_from_split_newest rounds (none_mapped _ (split_newest rounds) e)

-- ---- what a CPU reaches

-- the rounds in it
abbrev pub reach_rounds : Reach → List ℕ
reach_rounds reach = (rounds_of_cpu reach.cpu ++ flat_map (λ rounds. rounds) reach.depot) ++ listed_rounds reach.slabs

-- magazines have no more rounds than fit, and the slabs are sound
pub record IsReach (size : ℕ) (reach : Reach) : Type 0 where
  pub cpu : FitsCpu size reach.cpu
  pub few : length reach.depot ≤ MAGAZINES
  pub filled : All (λ rounds. length rounds ≡ size) reach.depot
  pub slabs : AreSlabs reach.slabs

-- another reach with the same rounds and slabs
pub record IsMoved (size : ℕ) (old new : Reach) : Type 0 where
  pub holds : IsPermutation (reach_rounds old) (reach_rounds new)
  pub sound : IsReach size new
  pub slabs : standing new.slabs ≡ standing old.slabs

-- a round of it is in hand
pub record IsLess (size : ℕ) (all : Reach) (hand : InHand Reach) : Type 0 where
  pub holds : IsPermutation (reach_rounds all) (hand.chunk ∷ reach_rounds hand.left)
  pub sound : IsReach size hand.left
  pub slabs : standing hand.left.slabs ≡ standing all.slabs

-- a round more is in it
pub record IsMore (size : ℕ) (all : Reach) (chunk : ℕ) (now : Reach) : Type 0 where
  pub holds : IsPermutation (chunk ∷ reach_rounds all) (reach_rounds now)
  pub sound : IsReach size now
  pub slabs : standing now.slabs ≡ standing all.slabs

IsLess-moved : (size : ℕ) (old new : Reach) (hand : InHand Reach) → IsMoved size old new → IsLess size new hand → IsLess size old hand
IsLess-moved size old new hand moved less = record {
  holds = IsPermutation-trans _ _ _ moved.holds less.holds;
  sound = less.sound;
  slabs = less.slabs ∙ moved.slabs;
}

IsMore-moved : (size : ℕ) (old new : Reach) (chunk : ℕ) (now : Reach) → IsMoved size old new → IsMore size new chunk now → IsMore size old chunk now
IsMore-moved size old new chunk now moved more = record {
  holds = IsPermutation-trans _ _ _ (IsPermutation-cons chunk _ _ moved.holds) more.holds;
  sound = more.sound;
  slabs = more.slabs ∙ moved.slabs;
}

-- the last of the loaded rounds comes to the front
last_to_front : (rest previous depot listed : List ℕ) (chunk : ℕ) → IsPermutation ((((rest ++ chunk ∷ []) ++ previous) ++ depot) ++ listed) (chunk ∷ (((rest ++ previous) ++ depot) ++ listed))
last_to_front rest previous depot listed chunk =
    simp append_assoc (IsPermutation-middle rest chunk (previous ++ (depot ++ listed)))

pub from_loaded_is : (size : ℕ) (reach : Reach) → IsReach size reach → IfSome (from_loaded reach) (IsLess size reach)
from_loaded_is size reach h =
    IfSome-in_whole (IsLess size reach) _ (newest_of reach.cpu.loaded)
    (IfSome_then (newest_of reach.cpu.loaded) (newest_is reach.cpu.loaded) (λ hand last. record {
      holds = rw last (last_to_front hand.left reach.cpu.previous (flat_map (λ rounds. rounds) reach.depot) (listed_rounds reach.slabs) hand.chunk);
      sound = record {
        cpu = record { loaded = omega (arith, h.cpu.loaded, ap length last, length-append hand.left (hand.chunk ∷ [])); previous = h.cpu.previous };
        few = h.few;
        filled = h.filled;
        slabs = h.slabs;
      };
      slabs = refl;
    }))

exchanged_is : (size : ℕ) (reach : Reach) → IsReach size reach → IsMoved size reach (exchanged reach)
exchanged_is size reach h = record {
  holds = IsPermutation-append_left _ _ _ (IsPermutation-append_left _ _ _ (IsPermutation-append_comm reach.cpu.loaded reach.cpu.previous));
  sound = record {
    cpu = record { loaded = h.cpu.previous; previous = h.cpu.loaded };
    few = h.few;
    filled = h.filled;
    slabs = h.slabs;
  };
  slabs = refl;
}

full_to_front : (loaded full rest listed : List ℕ) → IsPermutation ((loaded ++ (rest ++ full)) ++ listed) (((full ++ loaded) ++ rest) ++ listed)
full_to_front loaded full rest listed =
    IsPermutation-append_left listed _ _
    (rw append_assoc
    (IsPermutation-trans _ _ _
    (IsPermutation-append_right loaded _ _ (IsPermutation-append_comm rest full))
    (exchange loaded full rest)))

traded_is : (size : ℕ) (reach : Reach) (rest : List (List ℕ)) (full : List ℕ) → IsReach size reach → reach.cpu.previous ≡ [] → reach.depot ≡ rest ++ full ∷ [] → IsMoved size reach (record reach { cpu = record { loaded = full; previous = reach.cpu.loaded }; depot = rest })
traded_is size reach rest full h empty last =
    let popped = All-pop (λ (rounds : List ℕ). length rounds ≡ size) reach.depot rest (Some full) last h.filled in
    let filled : length full ≡ size = popped.1 in
    record {
      holds =
          rw (empty, append-nil reach.cpu.loaded, last, flat_map-append (λ (rounds : List ℕ). rounds) rest (full ∷ []), append-nil full)
          (full_to_front reach.cpu.loaded full (flat_map (λ rounds. rounds) rest) (listed_rounds reach.slabs));
      sound = record {
        cpu = record { loaded = omega (arith, filled); previous = h.cpu.loaded };
        few = omega (arith, h.few, ap length last, length-append rest (full ∷ []));
        filled = popped.0;
        slabs = h.slabs;
      };
      slabs = refl;
    }

IsMoved-same : (size : ℕ) (reach : Reach) → IsReach size reach → IsMoved size reach reach
IsMoved-same size reach h = record { holds = IsPermutation-refl (reach_rounds reach); sound = h; slabs = refl }

traded_split : (size : ℕ) (reach : Reach) (split : Option (List (List ℕ) × List ℕ)) → ((rest : List (List ℕ)) (full : List ℕ) → split ≡ Some (rest, full) → reach.depot ≡ rest ++ full ∷ []) → IsReach size reach → reach.cpu.previous ≡ [] → IsMoved size reach (option_map_or (with_full reach) split reach)
traded_split size reach None splits h empty = IsMoved-same size reach h
traded_split size reach (Some split) splits h empty = traded_is size reach split.0 split.1 h empty (splits split.0 split.1 refl)

traded_full_is : (size : ℕ) (reach : Reach) → IsReach size reach → reach.cpu.previous ≡ [] → IsMoved size reach (traded_full reach)
traded_full_is size reach h empty = traded_split size reach (split_newest reach.depot) (λ rest full e. append_from_split_newest reach.depot rest full e) h empty

-- ---- other lists in the slabs

-- what changes the lists alone, and leaves each slab sound, leaves sound slabs
pub AreSlabs-relisted : (f : Slab → Slab) (ss : List Slab) → ((s : Slab) → bare_slab (f s) ≡ bare_slab s) → ((s : Slab) → IsSlab s → IsSlab (f s)) → AreSlabs ss → AreSlabs (map f ss)
AreSlabs-relisted f ss same sound h =
    let base : (s : Slab) → (f s).base ≡ s.base = λ s. ap (λ (t : Slab). t.base) (same s) in
    let first : (s : Slab) → (f s).first ≡ s.first = λ s. ap (λ (t : Slab). t.first) (same s) in
    let count : (s : Slab) → (f s).count ≡ s.count = λ s. ap (λ (t : Slab). t.count) (same s) in
    record {
      each = All-map IsSlab f ss (λ k d lt. sound (get_or ss k d) (h.each k d lt));
      apart = AllPairs-map (λ one other. one.first + one.count ≤ other.first) f ss (λ i j d less lt. rw (first (get_or ss i d), count (get_or ss i d), first (get_or ss j d)) (h.apart i j d less lt));
      bases = AllPairs-map (λ one other. one.base ≢ other.base) f ss (λ i j d less lt. rw (base (get_or ss i d), base (get_or ss j d)) (h.bases i j d less lt));
    }

pub standing-relisted : (f : Slab → Slab) (ss : List Slab) → ((s : Slab) → bare_slab (f s) ≡ bare_slab s) → standing (map f ss) ≡ standing ss
standing-relisted f [] same = refl
standing-relisted f (s ∷ ss) same = rw (same s) (ap (λ (l : List Slab). bare_slab s ∷ l) (standing-relisted f ss same))

IsSlab-without_chunk : (c : ℕ) (s : Slab) → IsSlab s → IsSlab (without_chunk c s)
IsSlab-without_chunk c s h = record {
  some = h.some;
  fits = h.fits;
  rising = IsStrictlyIncreasing-filter (λ number. not (eqb number c)) s.list h.rising;
  own = All-filter (λ number. not (eqb number c)) (λ chunk. HasChunk chunk s) s.list h.own;
}

AreSlabs-without_round : (ss : List Slab) (c : ℕ) → AreSlabs ss → AreSlabs (without_round ss c)
AreSlabs-without_round ss c h = AreSlabs-relisted (without_chunk c) ss (λ s. refl) (IsSlab-without_chunk c) h

standing-without_round : (ss : List Slab) (c : ℕ) → standing (without_round ss c) ≡ standing ss
standing-without_round ss c = standing-relisted (without_chunk c) ss (λ s. refl)

bare-with_chunk : (c : ℕ) (s : Slab) → bare_slab (with_chunk c s) ≡ bare_slab s
bare-with_chunk c s = elim (cases_Bool (has_chunk c s)) [
  | inl own ↦ rw own refl
  | inr other ↦ rw other refl
]

pub standing-with_round : (ss : List Slab) (c : ℕ) → standing (with_round ss c) ≡ standing ss
standing-with_round ss c = standing-relisted (with_chunk c) ss (bare-with_chunk c)

-- the slabs that stand decide which chunks there are
pub Any-standing : (ss ns : List Slab) (c : ℕ) → standing ns ≡ standing ss → Any (HasChunk c) ss → Any (HasChunk c) ns
Any-standing ss ns c same at =
    let i = at.0 in
    let s = at.1 in
    let long : length ns ≡ length ss = sym (length-map ns bare_slab) ∙ ap length same ∙ length-map ss bare_slab in
    let lt : i < length ns = omega (arith, at.2) in
    let here : bare_slab (get_or ns i s) ≡ bare_slab s =
    sym (get_or-map bare_slab ns i s (bare_slab s) lt) ∙ ap (λ (l : List Slab). get_or l i (bare_slab s)) same ∙ get_or-map bare_slab ss i s (bare_slab s) at.2 ∙ ap bare_slab at.3 in
    let first : (get_or ns i s).first ≡ s.first = ap (λ (t : Slab). t.first) here in
    let count : (get_or ns i s).count ≡ s.count = ap (λ (t : Slab). t.count) here in
    (i, get_or ns i s, lt, get_or_default ns i (get_or ns i s) s lt, (omega (arith, first, at.4.0), omega (arith, first, count, at.4.1)))

-- ---- the lowest round of the lists

filter_rounds : (ss : List Slab) (c : ℕ) → listed_rounds (without_round ss c) ≡ left_out_by (λ number. number) (listed_rounds ss) c
filter_rounds [] c = refl
filter_rounds (s ∷ ss) c = rw filter-append (ap (λ (l : List ℕ). left_out_by (λ number. number) s.list c ++ l) (filter_rounds ss c))

first_of_listed : (ss : List Slab) (c : ℕ) (rest : List ℕ) → AreSlabs ss → listed_rounds ss ≡ c ∷ rest → (All (λ other. c ≤ other) rest) × (listed_rounds ss ≡ c ∷ listed_rounds (without_round ss c))
first_of_listed ss c rest h e =
    let rises = rw e at (rounds_rise ss h) in (
      λ k d lt. omega (arith, All-from_rises (suc c) rest rises.1 k d lt),
      e ∙ ap (λ (l : List ℕ). c ∷ l) (sym (filter_rounds ss c ∙ ap (λ (l : List ℕ). left_out_by (λ number. number) l c) e ∙ left_out_by-first c rest rises.1)),
    )

lowest_among : (ss : List Slab) (l : List ℕ) → AreSlabs ss → listed_rounds ss ≡ l → IfSome (lowest_of l) (λ c. listed_rounds ss ≡ c ∷ listed_rounds (without_round ss c))
lowest_among ss [] h e = tt
lowest_among ss (c ∷ rest) h e =
    let first = first_of_listed ss c rest h e in
    rw (lowest_is_first c rest first.0) first.1

-- the lowest round, and what is left in the lists
pub lowest_is : (ss : List Slab) → AreSlabs ss → IfSome (lowest_of (listed_rounds ss)) (λ c. listed_rounds ss ≡ c ∷ listed_rounds (without_round ss c))
lowest_is ss h = lowest_among ss (listed_rounds ss) h refl

pub lowest_none : (chunks : List ℕ) → lowest_of chunks ≡ None → chunks ≡ []
lowest_none [] e = refl
lowest_none (chunk ∷ chunks) e = absurd (cc e)

from_slabs_is : (size : ℕ) (reach : Reach) → IsReach size reach → IfSome (from_slabs reach) (IsLess size reach)
from_slabs_is size reach h =
    IfSome-mapped (IsLess size reach) _ (lowest_of (listed_rounds reach.slabs))
    (IfSome_then (lowest_of (listed_rounds reach.slabs)) (lowest_is reach.slabs h.slabs) (λ c first. record {
      holds = rw first (IsPermutation-middle (rounds_of_cpu reach.cpu ++ flat_map (λ rounds. rounds) reach.depot) c (listed_rounds (without_round reach.slabs c)));
      sound = record {
        cpu = h.cpu;
        few = h.few;
        filled = h.filled;
        slabs = AreSlabs-without_round reach.slabs c h.slabs;
      };
      slabs = standing-without_round reach.slabs c;
    }))

-- ---- an allocation

pub from_behind_is : (size : ℕ) (reach : Reach) → IsReach size reach → reach.cpu.previous ≡ [] → IfSome (from_behind reach) (IsLess size reach)
from_behind_is size reach h empty =
    let moved = traded_full_is size reach h empty in
    IfSome-or (IsLess size reach) (from_loaded (traded_full reach)) (from_slabs reach)
    (IfSome_then (from_loaded (traded_full reach)) (from_loaded_is size (traded_full reach) moved.sound) (λ hand less. IsLess-moved size reach (traded_full reach) hand moved less))
    (λ e. from_slabs_is size reach h)

loaded_none : (reach : Reach) → from_loaded reach ≡ None → reach.cpu.loaded ≡ []
loaded_none reach e = newest_none reach.cpu.loaded (none_in_whole _ (newest_of reach.cpu.loaded) e)

pub taken_in_is : (size : ℕ) (reach : Reach) → IsReach size reach → IfSome (taken_in reach) (IsLess size reach)
taken_in_is size reach h =
    let moved = exchanged_is size reach h in
    IfSome-or (IsLess size reach) (from_loaded reach) _ (from_loaded_is size reach h)
    (λ e. IfSome-or (IsLess size reach) (from_loaded (exchanged reach)) (from_behind reach)
    (IfSome_then (from_loaded (exchanged reach)) (from_loaded_is size (exchanged reach) moved.sound) (λ hand less. IsLess-moved size reach (exchanged reach) hand moved less))
    (λ f. from_behind_is size reach h (loaded_none (exchanged reach) f)))

-- ---- where an allocation finds none

no_full : (size : ℕ) (reach : Reach) (split : Option (List (List ℕ) × List ℕ)) → ((rest : List (List ℕ)) (full : List ℕ) → split ≡ Some (rest, full) → reach.depot ≡ rest ++ full ∷ []) → (split ≡ None → reach.depot ≡ []) → 1 ≤ size → IsReach size reach → (option_map_or (with_full reach) split reach).cpu.loaded ≡ [] → reach.depot ≡ []
no_full size reach None splits none some h e = none refl
no_full size reach (Some split) splits none some h e =
    let popped = All-pop (λ (rounds : List ℕ). length rounds ≡ size) reach.depot split.0 (Some split.1) (splits split.0 split.1 refl) h.filled in
    let filled : length split.1 ≡ size = popped.1 in
    absurd (omega (arith, filled, ap length e))

pub behind_none : (size : ℕ) (reach : Reach) → 1 ≤ size → IsReach size reach → from_behind reach ≡ None → (reach.depot ≡ []) × (listed_rounds reach.slabs ≡ [])
behind_none size reach some h e =
    let parts = none_of_both (from_loaded (traded_full reach)) (from_slabs reach) e in (
      no_full size reach (split_newest reach.depot) (λ rest full f. append_from_split_newest reach.depot rest full f) (λ f. nil_from_split_newest reach.depot f) some h (loaded_none (traded_full reach) parts.0),
      lowest_none (listed_rounds reach.slabs) (none_mapped _ (lowest_of (listed_rounds reach.slabs)) parts.1),
    )

pub IsBare-none : (size : ℕ) (reach : Reach) → 1 ≤ size → IsReach size reach → taken_in reach ≡ None → IsBare reach
IsBare-none size reach some h e =
    let first = none_of_both (from_loaded reach) _ e in
    let second = none_of_both (from_loaded (exchanged reach)) (from_behind reach) first.1 in
    let behind = behind_none size reach some h second.1 in
    record {
      loaded = loaded_none reach first.0;
      previous = loaded_none (exchanged reach) second.0;
      depot = behind.0;
      listed = behind.1;
    }

pub none_behind : (reach : Reach) → reach.cpu.loaded ≡ [] → reach.depot ≡ [] → listed_rounds reach.slabs ≡ [] → from_behind reach ≡ None
none_behind reach loaded depot listed =
    rw (traded_full-none reach depot, from_loaded-empty reach loaded, listed) refl

pub none_taken : (reach : Reach) → IsBare reach → taken_in reach ≡ None
none_taken reach bare =
    rw (from_loaded-empty reach bare.loaded, from_loaded-empty (exchanged reach) bare.previous, none_behind reach bare.loaded bare.depot bare.listed) refl

-- ---- a free

pushed_is : (size : ℕ) (reach : Reach) (chunk : ℕ) → IsReach size reach → length reach.cpu.loaded < size → IsMore size reach chunk (pushed reach chunk)
pushed_is size reach chunk h lt = record {
  holds = IsPermutation-sym _ _ (last_to_front reach.cpu.loaded reach.cpu.previous (flat_map (λ rounds. rounds) reach.depot) (listed_rounds reach.slabs) chunk);
  sound = record {
    cpu = record { loaded = omega (arith, length-append reach.cpu.loaded (chunk ∷ [])); previous = h.cpu.previous };
    few = h.few;
    filled = h.filled;
    slabs = h.slabs;
  };
  slabs = refl;
}

full_to_depot : (loaded previous depot listed : List ℕ) → IsPermutation (((loaded ++ previous) ++ depot) ++ listed) ((loaded ++ (depot ++ previous)) ++ listed)
full_to_depot loaded previous depot listed =
    IsPermutation-append_left listed _ _ (rw append_assoc (IsPermutation-append_right loaded _ _ (IsPermutation-append_comm previous depot)))

traded_empty_is : (size : ℕ) (reach : Reach) → IsReach size reach → length reach.cpu.previous ≡ size → length reach.depot < MAGAZINES → IsMoved size reach (traded_empty reach)
traded_empty_is size reach h full lt = record {
  holds =
      rw (flat_map-append (λ (rounds : List ℕ). rounds) reach.depot (reach.cpu.previous ∷ []), append-nil reach.cpu.previous)
      (full_to_depot reach.cpu.loaded reach.cpu.previous (flat_map (λ rounds. rounds) reach.depot) (listed_rounds reach.slabs));
  sound = record {
    cpu = record { loaded = omega arith; previous = h.cpu.loaded };
    few = omega (arith, length-append reach.depot (reach.cpu.previous ∷ []));
    filled = All-push (λ (rounds : List ℕ). length rounds ≡ size) reach.depot reach.cpu.previous h.filled full;
    slabs = h.slabs;
  };
  slabs = refl;
}

listed_is : (size : ℕ) (reach : Reach) (chunk : ℕ) → IsReach size reach → IsMissing reach.slabs chunk → IsMore size reach chunk (record reach { slabs = with_round reach.slabs chunk })
listed_is size reach chunk h missing =
    let put = IsPut-missing reach.slabs chunk h.slabs missing in
    let others = rounds_of_cpu reach.cpu ++ flat_map (λ rounds. rounds) reach.depot in
    record {
      holds =
          IsPermutation-trans _ _ _
          (IsPermutation-sym _ _ (IsPermutation-middle others chunk (listed_rounds reach.slabs)))
          (IsPermutation-append_right others _ _ (rw put.ok at put.holds));
      sound = record {
        cpu = h.cpu;
        few = h.few;
        filled = h.filled;
        slabs = rw put.ok at put.sound;
      };
      slabs = standing-with_round reach.slabs chunk;
    }

put_behind_is : (size : ℕ) (reach : Reach) (chunk : ℕ) → 1 ≤ size → IsReach size reach → length reach.cpu.previous ≡ size → IsMissing reach.slabs chunk → IsMore size reach chunk (put_behind reach chunk)
put_behind_is size reach chunk some h full missing = elim (cases_lt (length reach.depot) MAGAZINES) [
  | inl less ↦
      let moved = traded_empty_is size reach h full less in
      rw (lt-ltb (length reach.depot) MAGAZINES less)
      (IsMore-moved size reach (traded_empty reach) chunk (pushed (traded_empty reach) chunk) moved (pushed_is size (traded_empty reach) chunk moved.sound (omega arith)))
  | inr more ↦ rw (le-ltb (length reach.depot) MAGAZINES more) (listed_is size reach chunk h missing)
]

pub put_in_is : (size : ℕ) (reach : Reach) (chunk : ℕ) → 1 ≤ size → IsReach size reach → IsMissing reach.slabs chunk → IsMore size reach chunk (put_in size reach chunk)
put_in_is size reach chunk some h missing = elim (cases_lt (length reach.cpu.loaded) size) [
  | inl less ↦ rw (lt-ltb (length reach.cpu.loaded) size less) (pushed_is size reach chunk h less)
  | inr more ↦ elim (cases_lt (length reach.cpu.previous) size) [
    | inl room ↦
        let moved = exchanged_is size reach h in
        rw (le-ltb (length reach.cpu.loaded) size more, lt-ltb (length reach.cpu.previous) size room)
        (IsMore-moved size reach (exchanged reach) chunk (pushed (exchanged reach) chunk) moved (pushed_is size (exchanged reach) chunk moved.sound room))
    | inr full ↦
        rw (le-ltb (length reach.cpu.loaded) size more, le-ltb (length reach.cpu.previous) size full)
        (put_behind_is size reach chunk some h (omega (arith, h.cpu.previous)) missing)
  ]
]
