-- The chunks of the slabs that stand: they rise, and each is found by its address.
use Rattle.std.proofs.Common.{◌≡◌, ℕ, zero, suc, ◌+◌, ◌-◌, ◌*◌, ◌/◌, ◌<◌, ◌≤◌, Bool, true, false, cond, eqb, ltb, leb, List, [], ◌∷◌, ◌++◌, length, map, reverse, take, get_or, Option, Some, None, refl, sym, ap, ◌∙◌, subst, arith, inl, inr}
use Rattle.std.specs.Prelude.{All, AllPairs, Contains, find, fold, sum_by}
use Rattle.std.specs.List.{range_with_len}
use Rattle.std.specs.Option.{option_map_or}
use Rattle.std.proofs.lemmas.Bool.{and_parts, eq-eqb, eqb-true, false≢true, le-leb, leb-true, lt-ltb, ltb-true}
use Rattle.std.proofs.lemmas.List.{reverse-append}
use Rattle.std.proofs.lemmas.List.Elements.{All-append, All-cons, All-map, All-nil}
use Rattle.std.proofs.lemmas.List.FromFn.{take-map-range_with_len}
use Rattle.std.proofs.lemmas.List.Kept.{AllPairs-cons}
use Rattle.std.proofs.lemmas.List.Sums.{fold-append, sum_by-cons}
use Rattle.std.proofs.Math.Nat.{div-lt_iff_lt-mul, mul-div_cancel, mul-lt-mul_of_pos_right}
use Rattle.umem_base.specs.Span.{span_end}
use Rattle.umem_base.proofs.Lists.{Contains-here, Contains-there}
use Rattle.umem_base.proofs.OrderedLemmas.{AllPairs-left_out_by, All-left_out_by, Contains-cases, Contains-nil}
use Rattle.case_table.specs.Geometry.{chunk_at, colour_of}
use Rattle.script.specs.declared.operation.Op.{Op}
use Rattle.script.specs.declared.operation.Op.TheVariants.{Alloc, Zalloc, Free, CacheAlloc, CacheFree, Copy, Clear, Store, Link, Load, Reap}
use Rattle.script.specs.Rules.{IsHeader}
use Rattle.plain_heap.specs.declared.entry.Body.{Body}
use Rattle.plain_heap.specs.declared.entry.Body.TheVariants.{Call, Grow, Shrink}
use Rattle.plain_heap.specs.declared.entry.Entry.{Entry}
use Rattle.plain_heap.specs.declared.held.Held.{Held}
use Rattle.plain_heap.specs.declared.reply.Reply.{Reply}
use Rattle.plain_heap.specs.declared.reply.Reply.TheVariants as reply
use Rattle.plain_heap.specs.Bytes.{is_within}
use Rattle.plain_heap.specs.Laws.{StandApart}
use Rattle.plain_heap.specs.Setting.{Setting, cache_def_in, geometry_in}
use Rattle.plain_heap.specs.State.{HeapSlab, IsChunkOf, State, after_alloc, after_body, after_call, after_entry, after_free, after_link, after_store, after_word, begins_chunk, chunk_number, chunk_start, index_at, new_slab, request_from, request_of, slab_with_chunk, span_of_slab, start_state, state_of, word_of_slot}
use Rattle.plain_heap.proofs.PairsLemmas.{AllPairs-append, AllPairs-map, pair_of}
use Rattle.plain_heap.proofs.PlacesLemmas.{AreInPlace, chunk_in_slab, is_cache_of}
use Rattle.plain_heap.proofs.SeparateLemmas.{history_in_place}
use Rattle.plain_heap.proofs.SettingLemmas.{geometry_in-sound}
use Rattle.plain_heap.proofs.RisingLemmas.{all_rising, index_told, made_by, rounds_of, slab_found}
use Rattle.plain_heap.proofs.SlabOfChunk.{begins, begun, chunk_some, find_found, one_slab}
use Rattle.heap_logs.specs.declared.chunk_range.ChunkRange.{ChunkRange}
use Rattle.heap_logs.specs.Audits.{chunks_of_slab}
use Rattle.heap_logs.specs.Laws.{ChunksAreFound, FirstBytesStand, IsFound, Rise, StandingChunksRise, StandsBelow}

pub first_bytes : FirstBytesStand
first_bytes bytes address count few le = take-map-range_with_len (λ k. bytes (address + k)) 0 count few le

-- ---- rising chunks

All-turned : {X : Type 0} (P : X → Type 0) (xs : List X) → All P xs → All P (reverse xs)
All-turned P [] all = all
All-turned {X} P (x ∷ xs) all =
    subst (All P) (sym (reverse-append (x ∷ []) xs))
    (All-append P (reverse xs) (x ∷ []) (All-turned P xs (λ k d lt. all (suc k) d (omega arith))) (All-cons P x [] (all 0 x (omega arith)) (All-nil P)))

-- pairs of a list the other way round
AllPairs-turned : {X : Type 0} (R : X → X → Type 0) (xs : List X) → AllPairs R xs → AllPairs (λ a b. R b a) (reverse xs)
AllPairs-turned R [] all = λ i j d less lt. absurd (omega arith)
AllPairs-turned {X} R (x ∷ xs) all =
    let Turned : X → X → Type 0 = λ a b. R b a in
    let rest = AllPairs-turned R xs (λ i j d less lt. all (suc i) (suc j) d (omega arith) (omega arith)) in
    let first = All-turned (R x) xs (λ k d lt. all 0 (suc k) d (omega arith) (omega arith)) in
    subst (AllPairs Turned) (sym (reverse-append (x ∷ []) xs))
    (AllPairs-append Turned (reverse xs) (x ∷ []) rest (λ i j d less lt. absurd (omega arith)) (λ k d lt. All-cons (Turned (get_or (reverse xs) k d)) x [] (first k d lt) (All-nil (Turned (get_or (reverse xs) k d)))))

pub rise : StandingChunksRise
rise setting entries =
    let state = state_of setting entries in
    let rising = all_rising setting entries start_state (record { apart = λ i j d less lt. absurd (omega arith); below = λ k d lt. absurd (omega arith) }) in
    record {
      apart = AllPairs-map StandsBelow (chunks_of_slab setting) (reverse state.slabs) (AllPairs-turned (λ (a b : HeapSlab). b.first + rounds_of setting b ≤ a.first) state.slabs rising.apart);
      below = All-map (λ (r : ChunkRange). r.first + r.count ≤ made_by setting state.grown) (chunks_of_slab setting) (reverse state.slabs)
          (All-turned (λ (s : HeapSlab). s.first + rounds_of setting s ≤ made_by setting state.grown) state.slabs rising.below);
    }

-- ---- the slab of a chunk

pub chunks_found : ChunksAreFound
chunks_found setting entries slab index header legal stands lt =
    let state = state_of setting entries in
    let places = history_in_place setting entries header legal in
    let some = chunk_some setting state header places slab stands in
    record {
      slab_is = slab_found setting state header places slab index stands lt;
      number = ap (λ n. slab.first + n) (index_told setting slab index some lt).0;
    }
