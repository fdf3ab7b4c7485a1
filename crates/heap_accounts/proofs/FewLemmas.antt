-- What is known of the chunks of accounts: they have numbers of 32 bits, and the table tells their caches.
use Rattle.std.proofs.Common.{◌≡◌, ℕ, ◌+◌, ◌-◌, ◌^◌, ◌<◌, ◌≤◌, Bool, List, Option, Some, None, refl, sym, ap, ◌∙◌, subst, arith, length}
use Rattle.std.specs.Prelude.{Contains, MatchOption, option_map}
use Rattle.std.proofs.lemmas.Bool.{and_from, and_parts, le-leb, leb-true, lt-ltb, ltb-true}
use Rattle.plain_heap.specs.Setting.{Setting, geometry_in}
use Rattle.plain_heap.specs.State.{HeapSlab, State, next_chunk, state_of}
use Rattle.plain_heap.specs.declared.entry.Entry.{Entry}
use Rattle.plain_heap.proofs.SlabOfChunk.{find_found}
use Rattle.heap_ledger.specs.Ledger.{IsLedger, Ledger, run_setting, run_state}
use Rattle.heap_ledger.proofs.PlanLemmas.{made_few}
use Rattle.heap_memory.specs.declared.chunk.Chunk.{Chunk}
use Rattle.heap_memory.specs.Laws.{chunk_of_slab}
use Rattle.heap_slabs.specs.declared.placed.Placed.{Placed}
use Rattle.heap_slabs.specs.Chunks.{HasNoChunk, IsAtItsPlace, IsNumberedAs}
use Rattle.heap_accounts.specs.declared.tables.Tables.{Tables}
use Rattle.heap_accounts.specs.Accounts.{AreAccounts}
use Rattle.heap_accounts.specs.Places.{has_chunk_number, slab_with_number}
use Rattle.heap_accounts.proofs.GrownLemmas.{most_few, rounds_few}
use Rattle.heap_accounts.proofs.NumberLemmas.{counted, same_slab}
use Rattle.plain_heap.proofs.RisingLemmas.{find_none}

-- no more slabs were made than calls, and none has more than 512 chunks
pub numbers_few : (ledger : Ledger) (tables : Tables) → AreAccounts ledger tables → next_chunk (run_setting ledger) (run_state ledger) ≤ 2 ^ 32
numbers_few ledger tables is =
    let few = made_few ledger.plan ledger.entries is.legal.plan is.legal.follows in
    let so_far = rounds_few (run_setting ledger) (run_state ledger).grown is.legal.plan.header in
    let sum : next_chunk (run_setting ledger) (run_state ledger) ≤ 4294967296 =
    omega (arith, few, so_far, is.grown, is.legal.plan.calls, most_few ledger.plan.header.version) in
    sum

-- ---- the cache of a chunk

module _ (setting : Setting) (entries : List Entry) (number : ℕ) where
  -- the slab that is found is one that stands and has the chunk
  found_seat : (slab : HeapSlab) → slab_with_number setting (state_of setting entries).slabs number ≡ Some slab
      → IsAtItsPlace setting (state_of setting entries) (record { chunk = chunk_of_slab setting slab (number - slab.first); cache = slab.cache })
  found_seat slab found =
      let both = find_found (has_chunk_number setting number) (state_of setting entries).slabs slab found in
      let parts = and_parts _ _ both.1 in
      let low = leb-true slab.first number parts.0 in
      let high = ltb-true number (slab.first + (geometry_in setting slab.cache).rounds) parts.1 in
      record { slab = slab; stands = both.0; index = number - slab.first; within = omega (arith, low, high); chunk = refl; cache = refl }

  found_low : (slab : HeapSlab) → slab_with_number setting (state_of setting entries).slabs number ≡ Some slab → slab.first ≤ number
  found_low slab found =
      let both = find_found (has_chunk_number setting number) (state_of setting entries).slabs slab found in
      leb-true slab.first number (and_parts _ _ both.1).0

  none_numbered : HasNoChunk number setting (state_of setting entries) → option_map (λ (s : HeapSlab). s.cache) (slab_with_number setting (state_of setting entries).slabs number) ≡ None
  none_numbered none = by (slab_with_number setting (state_of setting entries).slabs number) refl
    where
      by : (o : Option HeapSlab) → slab_with_number setting (state_of setting entries).slabs number ≡ o → option_map (λ (s : HeapSlab). s.cache) (slab_with_number setting (state_of setting entries).slabs number) ≡ None
      by None is = ap (option_map (λ (s : HeapSlab). s.cache)) is
      by (Some slab) is =
          let low = found_low slab is in
          let number_is : slab.first + (number - slab.first) ≡ number = omega (arith, low) in
          absurd (none _ (found_seat slab is) number_is)

  one_numbered : (placed : Placed) → IsNumberedAs number placed setting (state_of setting entries) → option_map (λ (s : HeapSlab). s.cache) (slab_with_number setting (state_of setting entries).slabs number) ≡ Some placed.cache
  one_numbered placed is = by (slab_with_number setting (state_of setting entries).slabs number) refl
    where
      its : is.0.slab.first + is.0.index ≡ number
      its = sym (ap (λ (c : Chunk). c.number) is.0.chunk) ∙ is.1

      by : (o : Option HeapSlab) → slab_with_number setting (state_of setting entries).slabs number ≡ o
          → option_map (λ (s : HeapSlab). s.cache) (slab_with_number setting (state_of setting entries).slabs number) ≡ Some placed.cache
      by None found =
          let within = is.0.within in
          let low = le-leb is.0.slab.first number (omega (arith, its)) in
          let high = lt-ltb number (is.0.slab.first + (geometry_in setting is.0.slab.cache).rounds) (omega (arith, its, within)) in
          absurd (find_none (has_chunk_number setting number) (state_of setting entries).slabs is.0.slab found is.0.stands (and_from _ _ low high))
      by (Some s) found =
          let both = find_found (has_chunk_number setting number) (state_of setting entries).slabs s found in
          let parts = and_parts _ _ both.1 in
          let low = leb-true s.first number parts.0 in
          let high = ltb-true number (s.first + (geometry_in setting s.cache).rounds) parts.1 in
          let same = same_slab setting (state_of setting entries).slabs (next_chunk setting (state_of setting entries)) s is.0.slab (number - s.first) is.0.index (counted setting entries) both.0 is.0.stands
          (omega (arith, low, high)) is.0.within (omega (arith, low, its)) in
          ap (option_map (λ (x : HeapSlab). x.cache)) found ∙ ap (λ (x : HeapSlab). Some x.cache) same ∙ ap Some (sym is.0.cache)

-- the cache of a chunk, by what the table answers
pub cache_told : (setting : Setting) (entries : List Entry) (number : ℕ) (answer : Option Placed)
    → MatchOption answer (HasNoChunk number setting (state_of setting entries)) (λ placed. IsNumberedAs number placed setting (state_of setting entries))
    → option_map (λ (placed : Placed). placed.cache) answer ≡ option_map (λ (s : HeapSlab). s.cache) (slab_with_number setting (state_of setting entries).slabs number)
cache_told setting entries number None none = sym (none_numbered setting entries number none)
cache_told setting entries number (Some placed) is = sym (one_numbered setting entries number placed is)
