-- One read from memory.
use Rattle.std.proofs.Common.{◌≡◌, ℕ, ◌+◌, ◌<◌, min, List, [], ◌++◌, length, take, drop, length-take, length-drop, length-append, sym, ap, arith}
use Rattle.std.proofs.lemmas.List.{take_at, take-append-drop, nil_from_length, drop-drop}

-- what was left is what was moved into the buffer's front, and what is left now
pub moves : (bytes buffer front : List ℕ) (at count : ℕ) → count ≡ min (length (drop at bytes)) (length buffer) → front ≡ take count (drop at bytes)
    → drop at bytes ≡ take count (front ++ drop count buffer) ++ drop (at + count) bytes
moves bytes buffer front at count is filled =
    let long : length front ≡ count = omega (arith, ap length filled, length-take count (drop at bytes)) in
    rw (take_at front (drop count buffer) count long, filled, ← drop-drop count at bytes) (sym (take-append-drop count (drop at bytes)))

-- no byte is moved only at the end, or where nothing fits
pub moves_none : (bytes buffer front : List ℕ) (at count : ℕ) → count ≡ min (length (drop at bytes)) (length buffer) → front ≡ take count (drop at bytes)
    → count ≡ 0 → 0 < length (front ++ drop count buffer) → drop (at + count) bytes ≡ []
moves_none bytes buffer front at count is filled none room =
    nil_from_length _ (omega (arith, length-drop (at + count) bytes, length-drop at bytes, length-append front (drop count buffer), ap length filled, length-take count (drop at bytes), length-drop count buffer))
