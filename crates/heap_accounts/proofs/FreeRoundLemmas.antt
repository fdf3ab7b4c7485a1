-- The stock of a cache as buffers of it come and go.
use Rattle.std.proofs.Common.{◌≡◌, ◌≢◌, ℕ, ◌+◌, ◌-◌, ◌/◌, ◌<◌, ◌≤◌, Bool, true, false, cond, eqb, List, ◌∷◌, Option, Some, None, refl, sym, ap, ◌∙◌, subst, arith, inl, inr}
use Rattle.std.specs.Prelude.{Contains}
use Rattle.std.proofs.lemmas.Bool.Decides.{eqb_tells}
use Rattle.std.proofs.lemmas.List.Sorted.{Contains-permutation, IsPermutation-sym}
use Rattle.umem_base.proofs.Lists.{Contains-here, Contains-there}
use Rattle.umem_base.proofs.OrderedLemmas.{Contains-cases}
use Rattle.script.specs.Rules.{IsHeader}
use Rattle.shelf.specs.Laws.{PutsOne, TakesOne}
use Rattle.shelf.specs.Steps.{InHand}
use Rattle.shelf.specs.Stock.{Stock, held_rounds}
use Rattle.plain_heap.specs.declared.held.Held.{Held}
use Rattle.plain_heap.specs.Setting.{Setting, geometry_in}
use Rattle.plain_heap.specs.State.{HeapSlab, State, chunk_start, held_at, slab_with_chunk}
use Rattle.plain_heap.proofs.PairsLemmas.{pair_of}
use Rattle.plain_heap.proofs.PlacesLemmas.{is_cache_of}
use Rattle.plain_heap.proofs.SettingLemmas.{geometry_in-sound}
use Rattle.plain_heap.proofs.StepsLemmas.{IsInPlace}
use Rattle.plain_heap.proofs.RisingLemmas.{AreRising, index_told, slab_found}
use Rattle.heap_accounts.specs.FreeChunks.{IsFreeRound, IsStockOf, slabs_of_cache}

-- what is known of a state that a legal history leaves
pub record IsGood (setting : Setting) (state : State) : Type 0 where
  pub header : IsHeader setting.header
  pub places : IsInPlace setting state
  pub rising : AreRising setting state.slabs state.grown

-- a chunk of a slab that stands
pub record IsSeat (setting : Setting) (state : State) (slab : HeapSlab) (index : ℕ) : Type 0 where
  pub stands : Contains state.slabs slab
  pub within : index < (geometry_in setting slab.cache).rounds

pub seat_of : (setting : Setting) (state : State) (cache chunk : ℕ) (f : IsFreeRound setting state cache chunk) → IsSeat setting state f.slab f.index
seat_of setting state cache chunk f = record { stands = f.stands; within = f.within }

module _ (setting : Setting) (state : State) (good : IsGood setting state) where
  -- a number is that of one chunk
  pub number_one : (s t : HeapSlab) (i j : ℕ) → IsSeat setting state s i → IsSeat setting state t j → s.first + i ≡ t.first + j → s ≡ t
  number_one s t i j one other same =
      elim (pair_of (λ (a b : HeapSlab). b.first + (geometry_in setting b.cache).rounds ≤ a.first) state.slabs s t good.rising.apart one.stands other.stands) [
        | inl is ↦ is
        | inr (inl above) ↦ absurd (omega (arith, above, one.within, other.within, same))
        | inr (inr above) ↦ absurd (omega (arith, above, one.within, other.within, same))
      ]

  some_chunk : (s : HeapSlab) → Contains state.slabs s → 0 < (geometry_in setting s.cache).chunk
  some_chunk s stands =
      let some = (geometry_in-sound setting s.cache good.header (is_cache_of setting state.live state.slabs good.header good.places s stands)).chunk_some in
      omega (arith, some)

  -- and so is an address
  pub start_one : (s t : HeapSlab) (i j : ℕ) → IsSeat setting state s i → IsSeat setting state t j → chunk_start setting s i ≡ chunk_start setting t j → s ≡ t
  start_one s t i j one other same = some_one
      (sym (slab_found setting state good.header good.places s i one.stands one.within) ∙ ap (slab_with_chunk setting state.slabs) same ∙ slab_found setting state good.header good.places t j other.stands other.within)
    where
      some_one : Some s ≡ Some t → s ≡ t
      some_one e = cc

  index_one : (s : HeapSlab) (i j : ℕ) → IsSeat setting state s i → IsSeat setting state s j → chunk_start setting s i ≡ chunk_start setting s j → i ≡ j
  index_one s i j one other same =
      let some = some_chunk s one.stands in
      sym (index_told setting s i some one.within).0 ∙ ap (λ a. (a - chunk_start setting s 0) / (geometry_in setting s.cache).chunk) same ∙ (index_told setting s j some other.within).0

  pub number_at : (s t : HeapSlab) (i j : ℕ) → IsSeat setting state s i → IsSeat setting state t j → chunk_start setting s i ≡ chunk_start setting t j → s.first + i ≡ t.first + j
  number_at s t i j one other same =
      let is = start_one s t i j one other same in
      let its : IsSeat setting state s j = subst (λ (x : HeapSlab). IsSeat setting state x j) (sym is) other in
      let here : chunk_start setting s i ≡ chunk_start setting s j = same ∙ ap (λ (x : HeapSlab). chunk_start setting x j) (sym is) in
      ap (λ n. s.first + n) (index_one s i j one its here) ∙ ap (λ (x : HeapSlab). x.first + j) is

  pub start_at : (s t : HeapSlab) (i j : ℕ) → IsSeat setting state s i → IsSeat setting state t j → s.first + i ≡ t.first + j → chunk_start setting s i ≡ chunk_start setting t j
  start_at s t i j one other same =
      let is = number_one s t i j one other same in
      let firsts = ap (λ (x : HeapSlab). x.first) is in
      let indices : i ≡ j = omega (arith, same, firsts) in
      ap (chunk_start setting s) indices ∙ ap (λ (x : HeapSlab). chunk_start setting x j) is

-- ---- the same chunks

-- the same slabs stand, and in those of a cache the same lives
pub record SameChunks (setting : Setting) (cache : ℕ) (state after : State) : Type 0 where
  pub slabs : after.slabs ≡ state.slabs
  pub free : (slab : HeapSlab) (index : ℕ) → IsSeat setting state slab index → slab.cache ≡ cache → held_at after.live (chunk_start setting slab index) ≡ held_at state.live (chunk_start setting slab index)

module _ (setting : Setting) (cache : ℕ) (state after : State) (same : SameChunks setting cache state after) where
  still_free : (chunk : ℕ) → IsFreeRound setting state cache chunk → IsFreeRound setting after cache chunk
  still_free chunk f = record {
    slab = f.slab;
    stands = subst (λ (l : List HeapSlab). Contains l f.slab) (sym same.slabs) f.stands;
    its = f.its;
    index = f.index;
    within = f.within;
    number = f.number;
    free = same.free f.slab f.index (seat_of setting state cache chunk f) f.its ∙ f.free;
  }

  was_free : (chunk : ℕ) → IsFreeRound setting after cache chunk → IsFreeRound setting state cache chunk
  was_free chunk f =
      let stands = subst (λ (l : List HeapSlab). Contains l f.slab) same.slabs f.stands in
      record {
        slab = f.slab;
        stands = stands;
        its = f.its;
        index = f.index;
        within = f.within;
        number = f.number;
        free = sym (same.free f.slab f.index (record { stands = stands; within = f.within }) f.its) ∙ f.free;
      }

  pub same_stock : (stock : Stock) → IsStockOf setting state cache stock → IsStockOf setting after cache stock
  same_stock stock is = record {
    size = is.size;
    cpus = is.cpus;
    sound = is.sound;
    slabs = is.slabs ∙ ap (slabs_of_cache setting cache) (sym same.slabs);
    held = λ chunk. (λ there. still_free chunk ((is.held chunk).0 there), λ free. (is.held chunk).1 (was_free chunk free));
  }

-- ---- a chunk that is handed out

-- a buffer more lives, at a chunk that was free
pub record HandsOutAt (setting : Setting) (slab : HeapSlab) (index : ℕ) (state after : State) : Type 0 where
  pub seat : IsSeat setting state slab index
  pub slabs : after.slabs ≡ state.slabs
  pub held : Held
  pub live : (address : ℕ) → held_at after.live address ≡ cond (eqb (chunk_start setting slab index) address) (Some held) (held_at state.live address)

-- what a test decides
either_way : {X : Type 0} (b : Bool) (x y z : X) → b ≡ false → cond b x y ≡ z → y ≡ z
either_way true x y z e same = absurd (cc e)
either_way false x y z e same = same

none_only : {X : Type 0} (b : Bool) (x : X) (o : Option X) → cond b (Some x) o ≡ None → (b ≡ false) × (o ≡ None)
none_only true x o same = absurd (cc same)
none_only false x o same = (refl, same)

cond_false : {X : Type 0} (b : Bool) (x y : X) → b ≡ false → cond b x y ≡ y
cond_false true x y e = absurd (cc e)
cond_false false x y e = refl

cond_true : {X : Type 0} (b : Bool) (x y : X) → b ≡ true → cond b x y ≡ x
cond_true true x y e = refl
cond_true false x y e = absurd (cc e)

not_equal : (a b : ℕ) → (a ≡ b → ⊥) → eqb a b ≡ false
not_equal a b apart = elim (eqb_tells a b) [ inl is ↦ absurd (apart is.1) | inr isnt ↦ isnt.0 ]

is_equal : (a b : ℕ) → a ≡ b → eqb a b ≡ true
is_equal a b same = elim (eqb_tells a b) [ inl is ↦ is.0 | inr isnt ↦ absurd (isnt.1 same) ]

module _ (setting : Setting) (slab : HeapSlab) (index : ℕ) (state after : State) (good : IsGood setting state) (out : HandsOutAt setting slab index state after) where
  abbrev here : ℕ
  here = chunk_start setting slab index

  pub took_free : (cache chunk : ℕ) → chunk ≢ slab.first + index → IsFreeRound setting state cache chunk → IsFreeRound setting after cache chunk
  took_free cache chunk other f =
      let at = chunk_start setting f.slab f.index in
      let apart = not_equal here at (λ e. other (f.number ∙ number_at setting state good f.slab slab f.index index (seat_of setting state cache chunk f) out.seat (sym e))) in
      record {
        slab = f.slab;
        stands = subst (λ (l : List HeapSlab). Contains l f.slab) (sym out.slabs) f.stands;
        its = f.its;
        index = f.index;
        within = f.within;
        number = f.number;
        free = out.live at ∙ cond_false (eqb here at) (Some out.held) (held_at state.live at) apart ∙ f.free;
      }

  -- what is free afterwards was free, and is another chunk
  pub was_other : (cache chunk : ℕ) → IsFreeRound setting after cache chunk → IsFreeRound setting state cache chunk × (chunk ≢ slab.first + index)
  was_other cache chunk f =
      let at = chunk_start setting f.slab f.index in
      let stands = subst (λ (l : List HeapSlab). Contains l f.slab) out.slabs f.stands in
      let seat : IsSeat setting state f.slab f.index = record { stands = stands; within = f.within } in
      let parts = none_only (eqb here at) out.held (held_at state.live at) (sym (out.live at) ∙ f.free) in (
        record { slab = f.slab; stands = stands; its = f.its; index = f.index; within = f.within; number = f.number; free = parts.1 },
        λ same. true_false (sym (is_equal here at (start_at setting state good slab f.slab index f.index out.seat seat (sym same ∙ f.number))) ∙ parts.0),
      )
    where
      true_false : true ≡ false → ⊥
      true_false e = cc e

  pub took_stock : (stock : Stock) (hand : InHand Stock) → IsStockOf setting state slab.cache stock → TakesOne stock hand → hand.chunk ≡ slab.first + index → IsStockOf setting after slab.cache hand.left
  took_stock stock hand is takes number = record {
    size = takes.shape.size ∙ is.size;
    cpus = takes.shape.cpus ∙ is.cpus;
    sound = takes.sound;
    slabs = takes.shape.slabs ∙ is.slabs ∙ ap (slabs_of_cache setting slab.cache) (sym out.slabs);
    held = λ chunk. (to chunk, from chunk);
  }
    where
      to : (chunk : ℕ) → Contains (held_rounds hand.left) chunk → IsFreeRound setting after slab.cache chunk
      to chunk there =
          let was = Contains-permutation (hand.chunk ∷ held_rounds hand.left) (held_rounds stock) chunk (IsPermutation-sym (held_rounds stock) (hand.chunk ∷ held_rounds hand.left) takes.holds) (Contains-there hand.chunk chunk (held_rounds hand.left) there) in
          let other : chunk ≢ slab.first + index = λ same. takes.out.out (subst (Contains (held_rounds hand.left)) (same ∙ sym number) there) in
          took_free slab.cache chunk other ((is.held chunk).0 was)

      from : (chunk : ℕ) → IsFreeRound setting after slab.cache chunk → Contains (held_rounds hand.left) chunk
      from chunk f =
          let was = was_other slab.cache chunk f in
          let there = Contains-permutation (held_rounds stock) (hand.chunk ∷ held_rounds hand.left) chunk takes.holds ((is.held chunk).1 was.0) in
          elim (Contains-cases hand.chunk chunk (held_rounds hand.left) there) [
            | inl same ↦ absurd (was.1 (sym same ∙ number))
            | inr later ↦ later
          ]

  -- in another cache the same lives
  pub took_elsewhere : (cache : ℕ) → cache ≢ slab.cache → SameChunks setting cache state after
  took_elsewhere cache other = record {
    slabs = out.slabs;
    free = λ s i seat its.
        let at = chunk_start setting s i in
        let apart = not_equal here at (λ e. other (sym its ∙ ap (λ (x : HeapSlab). x.cache) (sym (start_one setting state good slab s index i out.seat seat e)))) in
        out.live at ∙ cond_false (eqb here at) (Some out.held) (held_at state.live at) apart;
  }

-- ---- a chunk that is given back

-- a buffer at a chunk lives no more
pub record GivesBackAt (setting : Setting) (slab : HeapSlab) (index : ℕ) (state after : State) : Type 0 where
  pub seat : IsSeat setting state slab index
  pub slabs : after.slabs ≡ state.slabs
  pub live : (address : ℕ) → held_at after.live address ≡ cond (eqb (chunk_start setting slab index) address) None (held_at state.live address)

none_both : {X : Type 0} (b : Bool) (o : Option X) → o ≡ None → cond b None o ≡ None
none_both true o same = refl
none_both false o same = same

module _ (setting : Setting) (slab : HeapSlab) (index : ℕ) (state after : State) (good : IsGood setting state) (back : GivesBackAt setting slab index state after) where
  abbrev there : ℕ
  there = chunk_start setting slab index

  gave_free : (cache chunk : ℕ) → IsFreeRound setting state cache chunk → IsFreeRound setting after cache chunk
  gave_free cache chunk f =
      let at = chunk_start setting f.slab f.index in
      record {
        slab = f.slab;
        stands = subst (λ (l : List HeapSlab). Contains l f.slab) (sym back.slabs) f.stands;
        its = f.its;
        index = f.index;
        within = f.within;
        number = f.number;
        free = back.live at ∙ none_both (eqb there at) (held_at state.live at) f.free;
      }

  its_free : IsFreeRound setting after slab.cache (slab.first + index)
  its_free = record {
    slab = slab;
    stands = subst (λ (l : List HeapSlab). Contains l slab) (sym back.slabs) back.seat.stands;
    its = refl;
    index = index;
    within = back.seat.within;
    number = refl;
    free = back.live there ∙ cond_true (eqb there there) None (held_at state.live there) (is_equal there there refl);
  }

  -- what is free afterwards was free, but for that chunk
  was_or_is : (cache chunk : ℕ) → chunk ≢ slab.first + index → IsFreeRound setting after cache chunk → IsFreeRound setting state cache chunk
  was_or_is cache chunk other f =
      let at = chunk_start setting f.slab f.index in
      let stands = subst (λ (l : List HeapSlab). Contains l f.slab) back.slabs f.stands in
      let seat : IsSeat setting state f.slab f.index = record { stands = stands; within = f.within } in
      let apart = not_equal there at (λ e. other (f.number ∙ sym (number_at setting state good slab f.slab index f.index back.seat seat e))) in
      record {
        slab = f.slab;
        stands = stands;
        its = f.its;
        index = f.index;
        within = f.within;
        number = f.number;
        free = sym (cond_false (eqb there at) None (held_at state.live at) apart) ∙ sym (back.live at) ∙ f.free;
      }

  pub gave_stock : (stock now : Stock) → IsStockOf setting state slab.cache stock → PutsOne stock (slab.first + index) now → IsStockOf setting after slab.cache now
  gave_stock stock now is puts = record {
    size = puts.shape.size ∙ is.size;
    cpus = puts.shape.cpus ∙ is.cpus;
    sound = puts.sound;
    slabs = puts.shape.slabs ∙ is.slabs ∙ ap (slabs_of_cache setting slab.cache) (sym back.slabs);
    held = λ chunk. (to chunk, from chunk);
  }
    where
      to : (chunk : ℕ) → Contains (held_rounds now) chunk → IsFreeRound setting after slab.cache chunk
      to chunk here =
          let number = slab.first + index in
          let was = Contains-permutation (held_rounds now) (number ∷ held_rounds stock) chunk (IsPermutation-sym (number ∷ held_rounds stock) (held_rounds now) puts.holds) here in
          elim (Contains-cases number chunk (held_rounds stock) was) [
            | inl same ↦ subst (IsFreeRound setting after slab.cache) same its_free
            | inr later ↦ gave_free slab.cache chunk ((is.held chunk).0 later)
          ]

      from : (chunk : ℕ) → IsFreeRound setting after slab.cache chunk → Contains (held_rounds now) chunk
      from chunk f =
          let number = slab.first + index in
          elim (eqb_tells chunk number) [
            | inl same ↦ Contains-permutation (number ∷ held_rounds stock) (held_rounds now) chunk puts.holds (subst (Contains (number ∷ held_rounds stock)) (sym same.1) (Contains-here number (held_rounds stock)))
            | inr other ↦ Contains-permutation (number ∷ held_rounds stock) (held_rounds now) chunk puts.holds (Contains-there number chunk (held_rounds stock) ((is.held chunk).1 (was_or_is slab.cache chunk other.1 f)))
          ]

  pub gave_elsewhere : (cache : ℕ) → cache ≢ slab.cache → SameChunks setting cache state after
  gave_elsewhere cache other = record {
    slabs = back.slabs;
    free = λ s i seat its.
        let at = chunk_start setting s i in
        let apart = not_equal there at (λ e. other (sym its ∙ ap (λ (x : HeapSlab). x.cache) (sym (start_one setting state good slab s index i back.seat seat e)))) in
        back.live at ∙ cond_false (eqb there at) None (held_at state.live at) apart;
  }
