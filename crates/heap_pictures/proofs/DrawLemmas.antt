-- What is drawn from accounts is what the run left.
use Rattle.std.proofs.Common.{◌≡◌, ℕ, zero, suc, ◌+◌, ◌-◌, ◌*◌, ◌<◌, Bool, true, false, cond, eqb, List, [], ◌∷◌, length, map, get_or, Some, refl, sym, ap, ◌∙◌, subst, arith, inl, inr}
use Rattle.std.specs.Prelude.{AllPairs, Contains, find}
use Rattle.std.specs.List.{range_with_len}
use Rattle.std.specs.Option.{option_map_or}
use Rattle.std.proofs.lemmas.Bool.{le-ltb, lt-ltb}
use Rattle.std.proofs.lemmas.Bool.Decides.{eqb_tells}
use Rattle.std.proofs.Math.Nat.{mul-lt-mul_of_pos_right}
use Rattle.std.proofs.lemmas.List.{get_or-map, get_or_default, length-map}
use Rattle.std.proofs.lemmas.List.Elements.{Contains-get_or}
use Rattle.std.proofs.lemmas.List.FromFn.{get_or-map-range_with_len, length-map-range_with_len}
use Rattle.umem_base.specs.declared.roots.TheConstants.{ROOT_WORDS, SHARED_ROOT}
use Rattle.umem_base.specs.Roots.{own_root}
use Rattle.script.specs.declared.limits.TheConstants.{FIRST_OWN_SLOT}
use Rattle.core_format.specs.declared.items.SlabItem.{SlabItem}
use Rattle.plain_heap.specs.Bytes.{bytes_from, word_at}
use Rattle.plain_heap.specs.Setting.{Setting, cache_def_in, slab_bytes}
use Rattle.plain_heap.specs.State.{HeapSlab, State, chunk_start, word_of_slot}
use Rattle.plain_heap.proofs.PairsLemmas.{AllPairs-map}
use Rattle.heap_slabs.specs.declared.standing.Standing.{Standing}
use Rattle.heap_slabs.specs.HeapSlabs.{AreStandingSlabs, standing_in}
use Rattle.heap_slabs.specs.Standing.{AreStanding, IsStanding, chunks_end}
use Rattle.heap_accounts.proofs.SlabLemmas.{Contains-from_mapped, Contains-mapped}
use Rattle.heap_pictures.specs.declared.free_list.FreeList.{FreeList}
use Rattle.heap_pictures.specs.Drawn.{AreListsOf, IsOneStanding, list_at, no_list, no_standing, slab_drawn, slab_drawn_at}
use Rattle.heap_pictures.specs.Items.{colour_in, slab_item, slab_items}
use Rattle.heap_pictures.specs.Pictures.{AreSlabItems}
use Rattle.heap_pictures.proofs.OneListLemmas.{same_items}

-- ---- root pages

-- the word of a shared slot, whatever the thread
pub shared_word : (state : State) (thread slot : ℕ) → slot < ROOT_WORDS
    → word_of_slot state thread slot ≡ word_at state.bytes (SHARED_ROOT + 8 * slot)
shared_word state thread slot lt =
    ap (λ (b : Bool). word_at state.bytes (cond b (SHARED_ROOT + 8 * slot) (own_root thread + 8 * (slot - FIRST_OWN_SLOT)))) (lt-ltb slot FIRST_OWN_SLOT lt)

-- that of an own slot
pub own_word : (state : State) (thread slot : ℕ) → slot < ROOT_WORDS
    → word_of_slot state thread (FIRST_OWN_SLOT + slot) ≡ word_at state.bytes (own_root thread + 8 * slot)
own_word state thread slot lt =
    let own = FIRST_OWN_SLOT + slot in
    ap (λ (b : Bool). word_at state.bytes (cond b (SHARED_ROOT + 8 * own) (own_root thread + 8 * (own - FIRST_OWN_SLOT)))) (le-ltb own FIRST_OWN_SLOT (omega arith))
    ∙ ap (λ (n : ℕ). word_at state.bytes (own_root thread + 8 * n)) (omega arith)

-- ---- slabs

-- the slab has a chunk, so that it ends behind its base
base_below_end : (slab : Standing) → IsStanding slab → slab.base < chunks_end slab
base_below_end slab is =
    let some : 0 * slab.chunk < slab.rounds * slab.chunk = mul-lt-mul_of_pos_right is.rounds is.chunk in
    omega (arith, is.from, some)

abbrev bases_of : List Standing → List ℕ
bases_of standing = map (λ (slab : Standing). slab.base) standing

abbrev list_bases : List FreeList → List ℕ
list_bases lists = map (λ (list : FreeList). list.base) lists

bases_rise : (standing : List Standing) → AreStanding standing → AllPairs (λ a b. a < b) (bases_of standing)
bases_rise standing is =
    AllPairs-map (λ a b. a < b) (λ (slab : Standing). slab.base) standing
    (λ i j d less lt. omega (arith, base_below_end (get_or standing i d) (is.each i d (omega arith)), is.apart i j d less lt))

-- each of them is a slab that stands
pub one_standing : (setting : Setting) (state : State) (standing : List Standing) → AreStandingSlabs setting state standing
    → (k : ℕ) (d : Standing) → k < length standing → IsOneStanding setting state (get_or standing k d)
one_standing setting state standing exactly k d lt =
    let one = get_or standing k d in
    let from = Contains-from_mapped (standing_in setting state) state.slabs one ((exactly one).0 (Contains-get_or standing k d lt)) in
    record { slab = from.item; stands = from.there; is = sym from.is }

-- a number against itself, and against a greater one
eqb-refl : (n : ℕ) → eqb n n ≡ true
eqb-refl n = elim (eqb_tells n n) [ inl is ↦ is.0 | inr isnt ↦ absurd (isnt.1 refl) ]

eqb-less : (m n : ℕ) → m < n → eqb m n ≡ false
eqb-less m n less = elim (eqb_tells m n) [ inl is ↦ absurd (omega (arith, is.1, less)) | inr isnt ↦ isnt.0 ]

-- the list that is found at the base of the one at an index: no two lists have one base
list_found : (lists : List FreeList) (k : ℕ) → k < length lists → AllPairs (λ one other. one.base < other.base) lists
    → list_at lists (get_or lists k no_list).base ≡ (get_or lists k no_list).chunks
list_found [] k lt rise = absurd (omega arith)
list_found (list ∷ lists) zero lt rise = ap (λ (b : Bool). option_map_or (λ (l : FreeList). l.chunks) (cond b (Some list) (find (λ (l : FreeList). eqb l.base list.base) lists)) []) (eqb-refl list.base)
list_found (list ∷ lists) (suc k) lt rise =
    let at = (get_or lists k no_list).base in
    let less : list.base < at = rise 0 (suc k) no_list (omega arith) lt in
    ap (λ (b : Bool). option_map_or (λ (l : FreeList). l.chunks) (cond b (Some list) (find (λ (l : FreeList). eqb l.base at) lists)) []) (eqb-less list.base at less)
    ∙ list_found lists k (omega arith) (λ i j d ij jl. rise (suc i) (suc j) d (omega arith) (omega arith))

-- a slab of a state is drawn as its item, with that list
item_is : (setting : Setting) (state : State) (slab : HeapSlab) (list : FreeList) (chunks : List ℕ) → list.chunks ≡ chunks
    → slab_drawn setting state (standing_in setting state slab) list ≡ slab_item setting state slab chunks
item_is setting state slab list chunks is =
    let align = (cache_def_in setting slab.cache).align in
    let colour : chunk_start setting slab 0 - slab.base ≡ colour_in setting slab = omega arith in
    ap {B = SlabItem} (λ (c : ℕ). record { base = slab.base; cache = slab.cache; colour = c; first = slab.first; free = list.chunks; bytes = bytes_from state.bytes slab.base (slab_bytes setting slab.cache) }) colour
    ∙ ap {B = SlabItem} (λ (free : List ℕ). record { base = slab.base; cache = slab.cache; colour = colour_in setting slab; first = slab.first; free = free; bytes = bytes_from state.bytes slab.base (slab_bytes setting slab.cache) }) is

-- the item that was made of an index
made_at : (f : ℕ → SlabItem) (n k : ℕ) (d : SlabItem) → k < n → get_or (map f (range_with_len 0 n)) k d ≡ f k
made_at f n k d lt =
    let same : 0 + k ≡ k = omega arith in
    get_or-map-range_with_len f 0 n k k d lt same

module _ (setting : Setting) (state : State) (standing : List Standing) (lists : List FreeList) (sound : AreStanding standing) (exactly : AreStandingSlabs setting state standing)
    (are : AreListsOf state lists) where
  to_slabs : (b : ℕ) → Contains (bases_of standing) b → Contains (map (λ (slab : HeapSlab). slab.base) state.slabs) b
  to_slabs b has =
      let one = Contains-from_mapped (λ (slab : Standing). slab.base) standing b has in
      let from = Contains-from_mapped (standing_in setting state) state.slabs one.item ((exactly one.item).0 one.there) in
      subst (Contains (map (λ (slab : HeapSlab). slab.base) state.slabs)) (ap (λ (s : Standing). s.base) from.is ∙ one.is)
      (Contains-mapped (λ (slab : HeapSlab). slab.base) state.slabs from.item from.there)

  from_slabs : (b : ℕ) → Contains (map (λ (slab : HeapSlab). slab.base) state.slabs) b → Contains (bases_of standing) b
  from_slabs b has =
      let slab = Contains-from_mapped (λ (slab : HeapSlab). slab.base) state.slabs b has in
      let there = (exactly (standing_in setting state slab.item)).1 (Contains-mapped (standing_in setting state) state.slabs slab.item slab.there) in
      subst (Contains (bases_of standing)) slab.is (Contains-mapped (λ (s : Standing). s.base) standing (standing_in setting state slab.item) there)

  -- the lists are those of the slabs, one by one
  same_bases : bases_of standing ≡ list_bases lists
  same_bases =
      same_items (λ a b. a < b) (bases_of standing) (list_bases lists) (λ a b less more. omega (arith, less, more)) (bases_rise standing sound)
      (AllPairs-map (λ a b. a < b) (λ (list : FreeList). list.base) lists are.rising) (λ b has. (are.exactly b).1 (to_slabs b has)) (λ b has. from_slabs b ((are.exactly b).0 has))

  pub lists_long : length standing ≡ length lists
  lists_long = sym (length-map standing (λ (slab : Standing). slab.base)) ∙ ap (λ (bs : List ℕ). length bs) same_bases ∙ length-map lists (λ (list : FreeList). list.base)

  same_base : (k : ℕ) → k < length standing → (get_or standing k no_standing).base ≡ (get_or lists k no_list).base
  same_base k lt =
      sym (get_or-map (λ (slab : Standing). slab.base) standing k no_standing 0 lt) ∙ ap (λ (bs : List ℕ). get_or bs k 0) same_bases
      ∙ get_or-map (λ (list : FreeList). list.base) lists k no_list 0 (subst (λ (n : ℕ). k < n) lists_long lt)

  -- the list at the base of the slab at an index
  list_there : (k : ℕ) → k < length lists → list_at lists (get_or lists k no_list).base ≡ (get_or lists k no_list).chunks
  list_there k lt = list_found lists k lt are.rising

  -- a slab with the list at its index is drawn as the slab of the state that it is
  drawn_is : (k : ℕ) (slab : HeapSlab) → k < length standing → get_or standing k no_standing ≡ standing_in setting state slab
      → slab_drawn_at setting state standing lists k ≡ slab_item setting state slab (list_at lists slab.base)
  drawn_is k slab lt is =
      let long : k < length lists = subst (λ (n : ℕ). k < n) lists_long lt in
      let list = sym (list_there k long) ∙ ap (list_at lists) (sym (same_base k lt) ∙ ap (λ (s : Standing). s.base) is) in
      ap (λ (s : Standing). slab_drawn setting state s (get_or lists k no_list)) is
      ∙ item_is setting state slab (get_or lists k no_list) (list_at lists slab.base) list

  pub drawn_slabs : (items : List SlabItem) → items ≡ map (slab_drawn_at setting state standing lists) (range_with_len 0 (length standing))
      → AreSlabItems setting state (λ slab. list_at lists slab.base) items
  drawn_slabs items made = record { rising = rise; exactly = λ item. (there item, back item) }
    where
      f : ℕ → SlabItem
      f k = slab_drawn_at setting state standing lists k

      drawn : List SlabItem
      drawn = map f (range_with_len 0 (length standing))

      base_at : (k : ℕ) (d : SlabItem) → k < length standing → (get_or drawn k d).base ≡ (get_or standing k no_standing).base
      base_at k d lt = ap (λ (item : SlabItem). item.base) (made_at f (length standing) k d lt)

      rise : AllPairs (λ one other. one.base < other.base) items
      rise = subst (λ (xs : List SlabItem). AllPairs (λ one other. one.base < other.base) xs) (sym made)
          (λ i j d less lt.
          let within : j < length standing = subst (λ (n : ℕ). j < n) (length-map-range_with_len f 0 (length standing)) lt in
          let order : (get_or standing i no_standing).base < (get_or standing j no_standing).base = omega (arith, base_below_end (get_or standing i no_standing) (sound.each i no_standing (omega arith)), sound.apart i j no_standing less within) in
          subst (λ (b : ℕ). b < (get_or drawn j d).base) (sym (base_at i d (omega arith))) (subst (λ (b : ℕ). (get_or standing i no_standing).base < b) (sym (base_at j d within)) order))

      there : (item : SlabItem) → Contains items item → Contains (slab_items setting state (λ slab. list_at lists slab.base)) item
      there item has =
          let at : Contains drawn item = subst (λ (xs : List SlabItem). Contains xs item) made has in
          let lt : at.0 < length standing = subst (λ (n : ℕ). at.0 < n) (length-map-range_with_len f 0 (length standing)) at.1 in
          let one = one_standing setting state standing exactly at.0 no_standing lt in
          let is : f at.0 ≡ item = sym (made_at f (length standing) at.0 item lt) ∙ at.2 in
          subst (Contains (slab_items setting state (λ slab. list_at lists slab.base))) (sym (drawn_is at.0 one.slab lt one.is) ∙ is)
          (Contains-mapped (λ (slab : HeapSlab). slab_item setting state slab (list_at lists slab.base)) state.slabs one.slab one.stands)

      back : (item : SlabItem) → Contains (slab_items setting state (λ slab. list_at lists slab.base)) item → Contains items item
      back item has =
          let slab = Contains-from_mapped (λ (slab : HeapSlab). slab_item setting state slab (list_at lists slab.base)) state.slabs item has in
          let at = (exactly (standing_in setting state slab.item)).1 (Contains-mapped (standing_in setting state) state.slabs slab.item slab.there) in
          let is : get_or standing at.0 no_standing ≡ standing_in setting state slab.item = get_or_default standing at.0 no_standing (standing_in setting state slab.item) at.1 ∙ at.2 in
          let long : at.0 < length drawn = subst (λ (n : ℕ). at.0 < n) (sym (length-map-range_with_len f 0 (length standing))) at.1 in
          subst (λ (xs : List SlabItem). Contains xs item) (sym made)
          (at.0, long, made_at f (length standing) at.0 item at.1 ∙ drawn_is at.0 slab.item at.1 is ∙ slab.is)
