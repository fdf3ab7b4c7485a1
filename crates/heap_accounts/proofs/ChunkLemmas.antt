-- What allocations from caches ask for.
use Rattle.std.proofs.Common.{◌≡◌, ℕ, zero, suc, Bool, true, false, Option, Some, None, refl, sym, ap, ◌∙◌, subst, arith}
use Rattle.std.specs.Prelude.{is_some}
use Rattle.case_table.specs.Sizes.{class_for}
use Rattle.case_table.proofs.SizesLemmas.{class_for-zero, least_from_class}
use Rattle.script.specs.declared.operation.Op.{Op}
use Rattle.script.specs.declared.operation.Op.TheVariants.{Alloc, Zalloc, Free, CacheAlloc, CacheFree, Copy, Clear, Store, Link, Load, Reap}
use Rattle.script.specs.Rules.{IsHeader, IsOp}
use Rattle.plain_heap.specs.declared.held.Held.{Held}
use Rattle.plain_heap.specs.declared.reply.Reply.{Reply}
use Rattle.plain_heap.specs.Answers.{IsLowestRequest}
use Rattle.plain_heap.specs.Legal.{IsAllocFrom, IsAnsweredFrom}
use Rattle.plain_heap.specs.Replies.{IsAllocReply, IsCacheReply, IsSomeReply}
use Rattle.plain_heap.specs.Setting.{IsCache, Setting, cache_def_in}
use Rattle.plain_heap.specs.State.{HeapSlab, State, after_alloc, after_call, request_of}
use Rattle.heap_ledger.specs.Commits.{IsTidyReply}
use Rattle.heap_memory.specs.Chunks.{IsRequested, kind_in}
use Rattle.heap_accounts.specs.declared.chunk_request.ChunkRequest.{ChunkRequest}
use Rattle.heap_accounts.specs.Kinds.{chunk_request, class_request, held_by, is_chunk_call}

-- what is known of an operation that asks for a chunk
pub record AsksOfCache (setting : Setting) (state : State) (thread : ℕ) (op : Op) (request : ChunkRequest) : Type 0 where
  pub kind : is_chunk_call op ≡ true
  pub is_cache : IsCache setting.header.caches request.cache
  pub requested : IsRequested (kind_in setting request.cache) request.size
  pub told : (answer : Reply) → IsCacheReply setting state request.cache answer → IsTidyReply setting state thread op answer
  pub from : (slab : HeapSlab) (answer : Reply) → IsAnsweredFrom setting slab answer → IsAllocFrom setting slab op answer
  pub after : (answer : Reply) → after_call setting state thread op answer ≡ after_alloc setting state thread request.slot (held_by request) request.zero answer

none_of_zero : (class : ℕ) → None ≡ Some class → ⊥
none_of_zero class is = absurd (cc is)

-- the answer is one to a size that a class serves
sized : (setting : Setting) (state : State) (size class : ℕ) (answer : Reply) → class_for size ≡ Some class → IsCacheReply setting state class answer
    → IsAllocReply setting state size answer × IsLowestRequest setting state size (class_for size) answer
sized setting state zero class answer is told = absurd (none_of_zero class (sym (class_for-zero 0 refl) ∙ is))
sized setting state (suc n) class answer is told = subst (λ (o : Option ℕ). IsSomeReply setting state (suc n) o answer × IsLowestRequest setting state (suc n) o answer) (sym is) (told, tt)

-- what it asks for is a buffer of the class
class_held : (size class : ℕ) → class_for size ≡ Some class → request_of size ≡ record { size = size; cache = Some class }
class_held size class is = ap (λ (o : Option ℕ). record { size = size; cache = o }) is

module _ (setting : Setting) (state : State) (thread : ℕ) (request : ChunkRequest) (header : IsHeader setting.header) where
  of_class : (slot size : ℕ) (zeroed : Bool) (o : Option ℕ) → class_for size ≡ o → class_request slot size zeroed o ≡ Some request
      → (class : ℕ) × (class_for size ≡ Some class) × (record { slot = slot; cache = class; size = size; zero = zeroed } ≡ request)
  of_class slot size zeroed None is asked = absurd (cc asked)
  of_class slot size zeroed (Some class) is asked = (class, is, cc)

  pub asks_of_cache : (op : Op) → IsOp setting.header op → chunk_request setting op ≡ Some request → AsksOfCache setting state thread op request
  asks_of_cache (Alloc slot size) its is =
      let found = of_class slot size false (class_for size) refl is in
      let least = least_from_class size found.0 found.1 in
      subst (AsksOfCache setting state thread (Alloc slot size)) found.2 (record {
        kind = ap is_some found.1;
        is_cache = omega (arith, least.is_class);
        requested = record { class = λ _. found.1; declared = λ high. absurd (omega (arith, high, least.is_class)) };
        told = λ answer told. let parts = sized setting state size found.0 answer found.1 told in record { reply = parts.0; tidy = parts.1 };
        from = λ slab answer told. told;
        after = λ answer. ap (λ (h : Held). after_alloc setting state thread slot h false answer) (class_held size found.0 found.1);
      })
  asks_of_cache (Zalloc slot size) its is =
      let found = of_class slot size true (class_for size) refl is in
      let least = least_from_class size found.0 found.1 in
      subst (AsksOfCache setting state thread (Zalloc slot size)) found.2 (record {
        kind = ap is_some found.1;
        is_cache = omega (arith, least.is_class);
        requested = record { class = λ _. found.1; declared = λ high. absurd (omega (arith, high, least.is_class)) };
        told = λ answer told. let parts = sized setting state size found.0 answer found.1 told in record { reply = parts.0; tidy = parts.1 };
        from = λ slab answer told. told;
        after = λ answer. ap (λ (h : Held). after_alloc setting state thread slot h true answer) (class_held size found.0 found.1);
      })
  asks_of_cache (CacheAlloc slot cache) its is =
      let same : record { slot = slot; cache = cache; size = (cache_def_in setting cache).size; zero = false } ≡ request = cc in
      subst (AsksOfCache setting state thread (CacheAlloc slot cache)) same (record {
        kind = refl;
        is_cache = its.1.1;
        requested = record { class = λ low. absurd (omega (arith, low, its.1.0)); declared = λ _. refl };
        told = λ answer told. record { reply = told; tidy = tt };
        from = λ slab answer told. told;
        after = λ answer. refl;
      })
  asks_of_cache (Free slot size) its is = absurd (cc is)
  asks_of_cache (CacheFree slot cache) its is = absurd (cc is)
  asks_of_cache (Copy to from) its is = absurd (cc is)
  asks_of_cache (Clear slot) its is = absurd (cc is)
  asks_of_cache (Store slot offset stored) its is = absurd (cc is)
  asks_of_cache (Link slot offset value) its is = absurd (cc is)
  asks_of_cache (Load to slot offset) its is = absurd (cc is)
  asks_of_cache Reap its is = absurd (cc is)
