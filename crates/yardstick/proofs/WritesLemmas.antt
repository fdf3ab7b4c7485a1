-- Bytes that are read one after another.
use Rattle.std.proofs.Common.{◌≡◌, ℕ, ◌+◌, List, [], ◌∷◌, ◌++◌, length, sym, ap, ◌∙◌, arith}
use Rattle.std.proofs.lemmas.List.FromFn.{length-map-range_with_len, map-range_with_len_more}
use Rattle.plain_heap.specs.Bytes.{Bytes, bytes_from}

-- one byte more
pub bytes_more : (bytes : Bytes) (at k n byte : ℕ) (old new : List ℕ) → old ≡ bytes_from bytes at k → n ≡ k → byte ≡ bytes (at + n)
    → new ≡ old ++ byte ∷ [] → new ≡ bytes_from bytes at (k + 1)
bytes_more bytes at k n byte old new before is read after =
    after ∙ ap (λ (front : List ℕ). front ++ byte ∷ []) before
    ∙ ap (λ (last : ℕ). bytes_from bytes at k ++ last ∷ []) (read ∙ ap (λ (m : ℕ). bytes (at + m)) is)
    ∙ sym (map-range_with_len_more (λ i. bytes (at + i)) 0 k k (omega arith))

-- there are so many
pub length-bytes_from : (bytes : Bytes) (at count : ℕ) → length (bytes_from bytes at count) ≡ count
length-bytes_from bytes at count = length-map-range_with_len (λ i. bytes (at + i)) 0 count
