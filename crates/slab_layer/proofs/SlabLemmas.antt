-- What a slab that is sound says of the rounds in its list.
use Rattle.std.proofs.Common.{◌≡◌, ℕ, ◌+◌, ◌^◌, ◌<◌, ◌≤◌, true, false, List, length, leb, ltb, refl, ap, ◌∙◌, arith, inl, inr}
use Rattle.std.specs.Prelude.{Contains, slice_index}
use Rattle.std.proofs.lemmas.Bool.{cases_Bool, eqb-true, eq-eqb, leb-true, ltb-true, le-leb, lt-ltb, and_parts, and_from, false_from_ne_true}
use Rattle.std.proofs.lemmas.List.FromFn.{length-range_with_len}
use Rattle.umem_base.specs.Ordered.{put_by}
use Rattle.umem_base.proofs.OrderedLemmas.{All-put_by, length-put_by}
use Rattle.slab_layer.specs.Rounds.{AreConsecutive}
use Rattle.slab_layer.specs.Slab.{HasChunk, IsComplete, IsSlab, Slab, has_chunk, is_complete, slab_of, with_chunk}
use Rattle.slab_layer.proofs.RoundsLemmas.{All-from_rises, Ends, Ends-consecutive, Rises, Rises-consecutive, Rises-from_increasing, increasing-put_by, increasing_from_Rises, length-rises, range_from_Rises}

pub Rises-list : (s : Slab) → IsSlab s → Rises s.first s.list
Rises-list s is = Rises-from_increasing s.first s.list (λ k d lt. (is.own k d lt).0) is.rising

pub Ends-list : (s : Slab) → IsSlab s → Ends (s.first + s.count) s.list
Ends-list s is k d lt = (is.own k d lt).1

-- it is complete where its list is as long as it has chunks
pub decides_complete : (s : Slab) → IsSlab s → (is_complete s ≡ true → IsComplete s) × (IsComplete s → is_complete s ≡ true)
decides_complete s is = (
  λ e. range_from_Rises s.first s.count s.list (Rises-list s is) (Ends-list s is) (eqb-true (length s.list) s.count e),
  λ e. eq-eqb (length s.list) s.count (ap length e ∙ length-range_with_len s.first s.count),
)

pub IsSlab-slab_of : (base : ℕ) (xs : List ℕ) → 0 < length xs → slice_index xs 0 + length xs ≤ 2 ^ 32 → AreConsecutive xs → IsSlab (slab_of base xs)
IsSlab-slab_of base xs some fits rising =
    let rises = Rises-consecutive xs rising in
    record {
      some = some;
      fits = fits;
      rising = increasing_from_Rises (slice_index xs 0) xs rises;
      own = λ k d lt. (All-from_rises (slice_index xs 0) xs rises k d lt, Ends-consecutive xs rising k d lt);
    }

-- one round more in its list
pub IsSlab-put_by : (s : Slab) (c : ℕ) → IsSlab s → HasChunk c s → (Contains s.list c → ⊥) → IsSlab (record s { list = put_by (λ number. number) s.list c })
IsSlab-put_by s c is own absent = record {
  some = is.some;
  fits = is.fits;
  rising = increasing-put_by s.list c is.rising absent;
  own = All-put_by (λ chunk. HasChunk chunk s) (λ number. number) s.list c own is.own;
}

pub room_for_one : (s : Slab) (c : ℕ) → IsSlab s → HasChunk c s → (Contains s.list c → ⊥) → length s.list < s.count
room_for_one s c is own absent =
    let more : Slab = record s { list = put_by (λ number. number) s.list c } in
    let sound : IsSlab more = IsSlab-put_by s c is own absent in
    omega (arith, length-rises s.first (s.first + s.count) more.list (omega arith) (Rises-list more sound) (Ends-list more sound), length-put_by (λ number. number) s.list c)

-- a chunk of the slab, and the test for it
pub HasChunk-from_test : (c : ℕ) (s : Slab) → has_chunk c s ≡ true → HasChunk c s
HasChunk-from_test c s e =
    let both = and_parts (leb s.first c) (ltb c (s.first + s.count)) e in
    (leb-true s.first c both.0, ltb-true c (s.first + s.count) both.1)

pub has_chunk-true : (c : ℕ) (s : Slab) → HasChunk c s → has_chunk c s ≡ true
has_chunk-true c s h = and_from (leb s.first c) (ltb c (s.first + s.count)) (le-leb s.first c h.0) (lt-ltb c (s.first + s.count) h.1)

pub has_chunk-false : (c : ℕ) (s : Slab) → (HasChunk c s → ⊥) → has_chunk c s ≡ false
has_chunk-false c s h = false_from_ne_true (has_chunk c s) (λ e. h (HasChunk-from_test c s e))

pub with_chunk-own : (s : Slab) (c : ℕ) → HasChunk c s → with_chunk c s ≡ record s { list = put_by (λ number. number) s.list c }
with_chunk-own s c own = rw (has_chunk-true c s own) refl

pub with_chunk-foreign : (s : Slab) (c : ℕ) → (HasChunk c s → ⊥) → with_chunk c s ≡ s
with_chunk-foreign s c foreign = rw (has_chunk-false c s foreign) refl

-- it has the chunks that it had
pub HasChunk-with_chunk : (c other : ℕ) (s : Slab) → HasChunk other s → HasChunk other (with_chunk c s)
HasChunk-with_chunk c other s own =
    elim (cases_Bool (has_chunk c s)) [
      | inl is_own ↦ rw is_own own
      | inr not_own ↦ rw not_own own
    ]
