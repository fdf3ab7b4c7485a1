-- Each allocated buffer has its bytes, and each root segment its words.
use Rattle.std.proofs.Common.{◌≡◌, ℕ, suc, ◌+◌, ◌-◌, ◌*◌, ◌<◌, ◌≤◌, Bool, List, [], ◌∷◌, length, get_or, map, drop, Option, Some, None, refl, ap, ◌∙◌, arith, inl, inr, length-append}
use Rattle.std.specs.List.{All, Contains}
use Rattle.std.specs.Option.{option_map}
use Rattle.std.specs.Prelude.{unwrap_or}
use Rattle.std.proofs.lemmas.Bool.{cases_order}
use Rattle.std.proofs.lemmas.List.{get_or_default, length-drop}
use Rattle.std.proofs.lemmas.List.Elements.{All-append, All-contains, All-map, All-weaker}
use Rattle.std.proofs.lemmas.List.Sorted.{All-permutation}
use Rattle.umem_base.specs.declared.roots.TheConstants.{ROOT_WORDS}
use Rattle.core_format.specs.declared.items.LargeItem.{LargeItem}
use Rattle.core_format.specs.declared.items.OwnRoot.{OwnRoot}
use Rattle.core_format.specs.declared.items.SlabItem.{SlabItem}
use Rattle.core_format.specs.declared.whole.Core.{Core}
use Rattle.core_format.specs.Chunks.{allocated_in, core_shapes}
use Rattle.core_format.specs.Slabs.{large_end, slab_end}
use Rattle.heap_view.specs.declared.buffer.Buffer.{Buffer}
use Rattle.heap_view.specs.Buffers.{allocated_buffers, buffers_of, by_address, chunk_buffers, large_buffer, slab_buffers}
use Rattle.heap_view.specs.Layout.{IsLaidOut, IsWholeSegment}
use Rattle.heap_view.specs.Memory.{HasAllBytes, core_bytes_from, is_in_large, is_in_slab, large_at, large_bytes_from, own_words, root_words, slab_at}
use Rattle.heap_view.proofs.BuffersLemmas.{IsBetween, large_fits, slab_apart}
use Rattle.heap_view.proofs.ListLemmas.{All-flat_map, find_none, find_only}
use Rattle.heap_view.proofs.MemoryLemmas.{below_large, below_slab, in_large, in_slab, past_large, past_slab}
use Rattle.heap_view.proofs.SortLemmas.{fold_put_permutation}

-- the slab that has an address is found by it
slab_at-own : (core : Core) (i : ℕ) (d : SlabItem) (address : ℕ) → IsLaidOut core → i < length core.slabs → (get_or core.slabs i d).base ≤ address → address < slab_end (core_shapes core) (get_or core.slabs i d) → slab_at core address ≡ Some (get_or core.slabs i d)
slab_at-own core i d address laid lt low high =
    let shapes = core_shapes core in
    find_only (is_in_slab shapes address) core.slabs i d lt (in_slab shapes address (get_or core.slabs i d) low high)
    (λ k e less other. elim (cases_order k i) [
      | inl same ↦ absurd (other same)
      | inr apart ↦ elim apart [
        | inl before ↦ rw (get_or_default core.slabs k e d less) (past_slab shapes address (get_or core.slabs k d) (omega (arith, laid.slabs_rise k i d before lt)))
        | inr behind ↦ rw (get_or_default core.slabs k e d less) (below_slab shapes address (get_or core.slabs k d) (omega (arith, laid.slabs_rise i k d behind less)))
      ]
    ])

large_at-own : (core : Core) (i : ℕ) (d : LargeItem) (address : ℕ) → IsLaidOut core → i < length core.large → (get_or core.large i d).base ≤ address → address < large_end (get_or core.large i d) → large_at core address ≡ Some (get_or core.large i d)
large_at-own core i d address laid lt low high =
    find_only (is_in_large address) core.large i d lt (in_large address (get_or core.large i d) low high)
    (λ k e less other. elim (cases_order k i) [
      | inl same ↦ absurd (other same)
      | inr apart ↦ elim apart [
        | inl before ↦ rw (get_or_default core.large k e d less) (past_large address (get_or core.large k d) (omega (arith, laid.large_rise k i d before lt)))
        | inr behind ↦ rw (get_or_default core.large k e d less) (below_large address (get_or core.large k d) (omega (arith, laid.large_rise i k d behind less)))
      ]
    ])

slab_misses : (core : Core) (i : ℕ) (d : LargeItem) (address : ℕ) → IsLaidOut core → i < length core.large → (get_or core.large i d).base ≤ address → address < large_end (get_or core.large i d) → slab_at core address ≡ None
slab_misses core i d address laid lt low high =
    let shapes = core_shapes core in
    find_none (is_in_slab shapes address) core.slabs
    (λ k e less. elim (laid.apart k e less i d lt) [
      | inl before ↦ past_slab shapes address (get_or core.slabs k e) (omega (arith, before))
      | inr behind ↦ below_slab shapes address (get_or core.slabs k e) (omega (arith, behind))
    ])

bytes_in_slab : (core : Core) (address : ℕ) (s : SlabItem) → slab_at core address ≡ Some s → core_bytes_from core address ≡ drop (address - s.base) s.bytes
bytes_in_slab core address s e = ap (λ (o : Option SlabItem). unwrap_or (option_map (λ (s : SlabItem). drop (address - s.base) s.bytes) o) (large_bytes_from core address)) e

bytes_in_large : (core : Core) (address : ℕ) (l : LargeItem) → slab_at core address ≡ None → large_at core address ≡ Some l → core_bytes_from core address ≡ drop (address - l.base) l.bytes
bytes_in_large core address l none e =
    ap (λ (o : Option SlabItem). unwrap_or (option_map (λ (s : SlabItem). drop (address - s.base) s.bytes) o) (large_bytes_from core address)) none
    ∙ ap (λ (o : Option LargeItem). unwrap_or (option_map (λ (l : LargeItem). drop (address - l.base) l.bytes) o) []) e

slab_bytes : (core : Core) (i : ℕ) (d : SlabItem) (b : Buffer) → IsLaidOut core → i < length core.slabs → IsBetween (get_or core.slabs i d).base (slab_end (core_shapes core) (get_or core.slabs i d)) b → HasAllBytes core b
slab_bytes core i d b laid lt between =
    let s = get_or core.slabs i d in
    let is = bytes_in_slab core b.address s (slab_at-own core i d b.address laid lt between.0 (omega (arith, between.1, between.2))) in
    rw is (omega (arith, length-drop (b.address - s.base) s.bytes, (laid.slabs i d lt).filled, between.0, between.2))

large_has_bytes : (core : Core) (i : ℕ) (d : LargeItem) → IsLaidOut core → i < length core.large → HasAllBytes core (large_buffer (get_or core.large i d))
large_has_bytes core i d laid lt =
    let l = get_or core.large i d in
    let one = laid.large i d lt in
    let high : l.base < large_end l = omega (arith, large_fits l, one.large) in
    let is = bytes_in_large core l.base l (slab_misses core i d l.base laid lt (omega arith) high) (large_at-own core i d l.base laid lt (omega arith) high) in
    rw is (omega (arith, length-drop (l.base - l.base) l.bytes, one.filled, large_fits l))

chunks_have_bytes : (core : Core) (test : ℕ → Bool) → IsLaidOut core → All (HasAllBytes core) (chunk_buffers core test)
chunks_have_bytes core test laid =
    All-flat_map (HasAllBytes core) (slab_buffers core test) core.slabs
    (λ i d lt.
    let s = get_or core.slabs i d in
    All-weaker (IsBetween s.base (slab_end (core_shapes core) s)) (HasAllBytes core) (λ b between. slab_bytes core i d b laid lt between) (slab_buffers core test s) (slab_apart core s test laid (laid.slabs i d lt)).1)

-- each allocated buffer has its bytes
pub buffers_have_bytes : (core : Core) → IsLaidOut core → All (HasAllBytes core) (buffers_of core)
unfolding buffers_of
buffers_have_bytes core laid =
    let buffers = allocated_buffers core in
    let large = All-map (HasAllBytes core) large_buffer core.large (λ i d lt. large_has_bytes core i d laid lt) in
    All-permutation (HasAllBytes core) buffers (by_address buffers) (fold_put_permutation (λ (b : Buffer). b.address) [] buffers)
    (All-append (HasAllBytes core) (chunk_buffers core (allocated_in core)) (map large_buffer core.large) (chunks_have_bytes core (allocated_in core) laid) large)

-- so has one of them
pub buffer_has_bytes : (core : Core) (b : Buffer) → IsLaidOut core → Contains (buffers_of core) b → HasAllBytes core b
buffer_has_bytes core b laid has = All-contains (HasAllBytes core) (buffers_of core) b (buffers_have_bytes core laid) has

-- ---- the words of the roots

own_words_count : (own : List OwnRoot) → All IsWholeSegment own → length (own_words own) ≡ ROOT_WORDS * length own
own_words_count [] all = refl
own_words_count (first ∷ own) all =
    omega (arith, length-append first.words (own_words own), all 0 first (omega arith), own_words_count own (λ k d lt. all (suc k) d (omega arith)))

-- a page of words for each root segment
pub root_words_count : (core : Core) → IsLaidOut core → length (root_words core) ≡ ROOT_WORDS * (1 + length core.own)
root_words_count core laid = omega (arith, length-append core.root (own_words core.own), laid.root, own_words_count core.own laid.own_words)
