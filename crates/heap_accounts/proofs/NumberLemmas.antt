-- No two slabs that stand have chunks of one number.
use Rattle.std.proofs.Common.{◌≡◌, ℕ, ◌+◌, ◌<◌, ◌≤◌, inl, inr, Bool, true, false, not, eqb, List, [], ◌∷◌, get_or, length, refl, sym, ap, ◌∙◌, subst, arith}
use Rattle.std.specs.Prelude.{All, AllPairs, Contains, fold, sum_by}
use Rattle.std.proofs.lemmas.Bool.{cases_order}
use Rattle.std.proofs.lemmas.List.{get_or_default}
use Rattle.std.proofs.lemmas.List.Elements.{All-cons}
use Rattle.std.proofs.lemmas.List.Kept.{AllPairs-cons}
use Rattle.std.proofs.lemmas.List.Sums.{sum_by-cons}
use Rattle.script.specs.declared.operation.Op.{Op}
use Rattle.script.specs.declared.operation.Op.TheVariants.{Alloc, Zalloc, Free, CacheAlloc, CacheFree, Copy, Clear, Store, Link, Load, Reap}
use Rattle.plain_heap.specs.declared.entry.Body.{Body}
use Rattle.plain_heap.specs.declared.entry.Body.TheVariants as body
use Rattle.plain_heap.specs.declared.entry.Entry.{Entry}
use Rattle.plain_heap.specs.declared.held.Held.{Held}
use Rattle.plain_heap.specs.declared.reply.Reply.{Reply}
use Rattle.plain_heap.specs.declared.reply.Reply.TheVariants as reply
use Rattle.plain_heap.specs.Setting.{Setting, geometry_in}
use Rattle.plain_heap.specs.State.{HeapSlab, State, after_alloc, after_body, after_call, after_entry, after_free, after_link, after_store, after_word, new_slab, next_chunk, start_state, state_of}
use Rattle.plain_heap.proofs.PairsLemmas.{AllPairs-passing, All-passing}

-- how many chunks a slab has
abbrev count_in : Setting → HeapSlab → ℕ
count_in setting slab = (geometry_in setting slab.cache).rounds

-- the chunks of the slabs have numbers below the next, and those of each slab are behind those of the slabs made before
pub record AreCounted (setting : Setting) (slabs : List HeapSlab) (next : ℕ) : Type 0 where
  pub below : All (λ s. s.first + count_in setting s ≤ next) slabs
  pub apart : AllPairs (λ one other. other.first + count_in setting other ≤ one.first) slabs

-- ---- calls make no slabs

module _ (setting : Setting) (state : State) where
  -- the slabs are the same
  pub record SameSlabs (next : State) : Type 0 where
    pub slabs : next.slabs ≡ state.slabs
    pub grown : next.grown ≡ state.grown

  alloc_same : (thread slot : ℕ) (held : Held) (zeroed : Bool) (answer : Reply) → SameSlabs (after_alloc setting state thread slot held zeroed answer)
  alloc_same thread slot held zeroed (reply.At at found) = record { slabs = refl; grown = refl }
  alloc_same thread slot held zeroed reply.Null = record { slabs = refl; grown = refl }
  alloc_same thread slot held zeroed reply.NoSpace = record { slabs = refl; grown = refl }
  alloc_same thread slot held zeroed answer = record { slabs = refl; grown = refl }

  free_same : (thread slot : ℕ) (answer : Reply) → SameSlabs (after_free setting state thread slot answer)
  free_same thread slot reply.Ok = record { slabs = refl; grown = refl }
  free_same thread slot answer = record { slabs = refl; grown = refl }

  store_same : (at : ℕ) (stored : List ℕ) (answer : Reply) → SameSlabs (after_store state at stored answer)
  store_same at stored reply.Ok = record { slabs = refl; grown = refl }
  store_same at stored answer = record { slabs = refl; grown = refl }

  link_same : (at word : ℕ) (answer : Reply) → SameSlabs (after_link state at word answer)
  link_same at word reply.Ok = record { slabs = refl; grown = refl }
  link_same at word answer = record { slabs = refl; grown = refl }

  word_same : (thread slot : ℕ) (answer : Reply) → SameSlabs (after_word state thread slot answer)
  word_same thread slot (reply.Word word) = record { slabs = refl; grown = refl }
  word_same thread slot answer = record { slabs = refl; grown = refl }

  pub call_same : (thread : ℕ) (op : Op) (answer : Reply) → SameSlabs (after_call setting state thread op answer)
  call_same thread (Alloc slot size) answer = alloc_same thread slot _ false answer
  call_same thread (Zalloc slot size) answer = alloc_same thread slot _ true answer
  call_same thread (CacheAlloc slot cache) answer = alloc_same thread slot _ false answer
  call_same thread (Free slot size) answer = free_same thread slot answer
  call_same thread (CacheFree slot cache) answer = free_same thread slot answer
  call_same thread (Copy to from) answer = record { slabs = refl; grown = refl }
  call_same thread (Clear slot) answer = record { slabs = refl; grown = refl }
  call_same thread (Store slot offset stored) answer = store_same _ stored answer
  call_same thread (Link slot offset value) answer = link_same _ _ answer
  call_same thread (Load to slot offset) answer = word_same thread to answer
  call_same thread Reap answer = record { slabs = refl; grown = refl }

-- ---- each step

pub body_counted : (setting : Setting) (state : State) (thread : ℕ) (content : Body) → AreCounted setting state.slabs (next_chunk setting state)
    → AreCounted setting (after_body setting state thread content).slabs (next_chunk setting (after_body setting state thread content))
body_counted setting state thread (body.Call op frames answer) is =
    let same = call_same setting state thread op answer in
    subst (λ (l : List HeapSlab). AreCounted setting l (next_chunk setting (after_call setting state thread op answer))) (sym same.slabs)
    (subst (λ (g : List ℕ). AreCounted setting state.slabs (sum_by (λ cache. (geometry_in setting cache).rounds) g)) (sym same.grown) is)
body_counted setting state thread (body.Grow cache base) is =
    let rounds : ℕ = (geometry_in setting cache).rounds in
    let next : next_chunk setting (after_body setting state thread (body.Grow cache base)) ≡ rounds + next_chunk setting state = sum_by-cons (λ c. (geometry_in setting c).rounds) cache state.grown in
    let slab = new_slab setting state cache base in
    record {
      below = All-cons (λ s. s.first + count_in setting s ≤ next_chunk setting (after_body setting state thread (body.Grow cache base))) slab state.slabs (omega (arith, next)) (λ k d lt. omega (arith, is.below k d lt, next));
      apart = AllPairs-cons (λ one other. other.first + count_in setting other ≤ one.first) slab state.slabs is.below is.apart;
    }
body_counted setting state thread (body.Shrink cache base) is =
    let kept : HeapSlab → Bool = λ s. not (eqb s.base base) in
    record {
      below = All-passing (λ s. s.first + count_in setting s ≤ next_chunk setting state) kept state.slabs (λ k d lt passes. is.below k d lt);
      apart = AllPairs-passing (λ one other. other.first + count_in setting other ≤ one.first) kept state.slabs (λ i j d less lt one other. is.apart i j d less lt);
    }

pub counted : (setting : Setting) (entries : List Entry) → AreCounted setting (state_of setting entries).slabs (next_chunk setting (state_of setting entries))
counted setting entries = from entries start_state (record { below = λ k d lt. absurd (omega arith); apart = λ i j d less lt. absurd (omega arith) })
  where
    from : (entries : List Entry) (state : State) → AreCounted setting state.slabs (next_chunk setting state)
        → AreCounted setting (fold (after_entry setting) state entries).slabs (next_chunk setting (fold (after_entry setting) state entries))
    from [] state is = is
    from (entry ∷ entries) state is = from entries (after_entry setting state entry) (body_counted setting state entry.thread entry.body is)

pair_at : {X : Type 0} (R : X → X → Type 0) (xs : List X) (x y : X) (i j : ℕ) → AllPairs R xs → i < j → j < length xs → get_or xs i x ≡ x → get_or xs j y ≡ y → R x y
pair_at {X} R xs x y i j pairs less lt at_x at_y =
    subst (λ (b : X). R x b) (get_or_default xs j x y lt ∙ at_y) (subst (λ (a : X). R a (get_or xs j x)) at_x (pairs i j x less lt))

-- two slabs that stand, of which a chunk has one number, are one
pub same_slab : (setting : Setting) (slabs : List HeapSlab) (next : ℕ) (one other : HeapSlab) (i j : ℕ) → AreCounted setting slabs next → Contains slabs one → Contains slabs other
    → i < count_in setting one → j < count_in setting other → one.first + i ≡ other.first + j → one ≡ other
same_slab setting slabs next one other i j is first second low high same =
    let R : HeapSlab → HeapSlab → Type 0 = λ a b. b.first + count_in setting b ≤ a.first in
    elim (cases_order first.0 second.0) [
      | inl level ↦ sym first.2 ∙ get_or_default slabs first.0 one other first.1 ∙ ap (λ (k : ℕ). get_or slabs k other) level ∙ second.2
      | inr rest ↦ elim rest [
        | inl less ↦ absurd (omega (arith, pair_at R slabs one other first.0 second.0 is.apart less second.1 first.2 second.2, low, high, same))
        | inr more ↦ absurd (omega (arith, pair_at R slabs other one second.0 first.0 is.apart more first.1 second.2 first.2, low, high, same))
      ]
    ]
