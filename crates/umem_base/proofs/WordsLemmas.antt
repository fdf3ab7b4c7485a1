-- Bytes that are filled by one word.
use Rattle.std.proofs.Common.{rules, refl, ◌≡◌, ℕ, ◌+◌, ◌-◌, ◌%◌, ◌<◌, ◌≤◌, List, ◌++◌, length, get_or, take, sym, ap, ◌∙◌, length-take, arith, inl, inr}
use Rattle.std.specs.Int as int
use Rattle.std.specs.Int.{to_le_bytes}
use Rattle.std.proofs.lemmas.Bool.{cases_lt}
use Rattle.std.proofs.lemmas.List.{get_or_append_left, get_or-append_right, get_or-take, take_all}
use Rattle.std.proofs.lemmas.List.FromFn.{fill_by_all, get_or-map-range_with_len}
use Rattle.std.proofs.lemmas.Slice.{take-put_mid, overwrites}
use borrow.Rule.Slice.PartMut.{put_mid}
use Rattle.umem_base.specs.Words.{repeated}

-- whole words up to a place, and the front of one more behind it
filled_rest : (word bytes ys : List ℕ) (at rest : ℕ) → rest ≤ 8 → at % 8 ≡ 0 → at ≤ length bytes → ((k : ℕ) → k < at → get_or bytes k 0 ≡ get_or word (k % 8) 0) → ys ≡ take rest word → (k : ℕ) → k < at + rest → get_or (take at bytes ++ ys) k 0 ≡ get_or word (k % 8) 0
filled_rest word bytes ys at rest few whole within filled is k lt =
    let long : length (take at bytes) ≡ at = omega (arith, length-take at bytes) in
    elim (cases_lt k at) [
      | inl low ↦ rw (get_or_append_left (take at bytes) ys 0 k (omega arith), get_or-take at bytes k 0 low) (filled k low)
      | inr high ↦
          let place : k - at ≡ k % 8 = omega arith in
          rw (get_or-append_right (take at bytes) ys at k 0 long high, is, get_or-take rest word (k - at) 0 (omega arith), place) refl
    ]

pub repeated_rest : (bytes ys : List ℕ) (at value : ℕ) → length bytes - at < 8 → at % 8 ≡ 0 → at ≤ length bytes → ((k : ℕ) → k < at → get_or bytes k 0 ≡ get_or (to_le_bytes int.w64 value) (k % 8) 0) → length ys ≡ length bytes - at → ys ≡ take (length bytes - at) (to_le_bytes int.w64 value) → put_mid at (length bytes - at) bytes ys ≡ repeated (length bytes) value
repeated_rest bytes ys at value few whole within filled len is =
    let size : length (put_mid at (length bytes - at) bytes ys) ≡ length bytes = search (rules, overwrites) in
    let put : put_mid at (length bytes - at) bytes ys ≡ take at bytes ++ ys = sym (take_all _ _ (omega arith)) ∙ take-put_mid at (length bytes - at) bytes ys (length bytes) (omega arith) within in
    put ∙ fill_by_all (λ k. get_or (to_le_bytes int.w64 value) (k % 8) 0) (take at bytes ++ ys) (length bytes) 0 (ap length (sym put) ∙ size) (λ k lt. filled_rest (to_le_bytes int.w64 value) bytes ys at (length bytes - at) (omega arith) whole within filled is k (omega arith))

-- a byte of them
pub repeated_at : (count value k : ℕ) → k < count → get_or (repeated count value) k 0 ≡ get_or (to_le_bytes int.w64 value) (k % 8) 0
repeated_at count value k lt = get_or-map-range_with_len (λ (i : ℕ). get_or (to_le_bytes int.w64 value) (i % 8) 0) 0 count k k 0 (omega arith) (omega arith)
