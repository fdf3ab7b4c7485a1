-- The lists that the yardstick keeps, and which state of a history they stand for.
use Rattle.std.specs.Prelude.{ℕ, ◌-◌, List, [], ◌∷◌, length, slice_index, Option, Some, None, if◌then◌else◌}
use Rattle.std.specs.Int as int
use Rattle.std.specs.Int.{to_le_bytes}
use Rattle.yardstick.specs.declared.kept.Kept.{Kept}
use Rattle.yardstick.specs.declared.write.Write.{Write}
use Rattle.yardstick.specs.declared.write.Write.TheVariants.{Made, Stored, Word, Zeros}
use Rattle.plain_heap.specs.Bytes.{Bytes, is_within, with_stored, with_word, with_zeros}
use Rattle.plain_heap.specs.Setting.{Setting, slab_bytes}
use Rattle.plain_heap.specs.State.{State, made_byte, with_made}

-- what a write makes of the bytes
abbrev pub after_kept_write : Setting → Bytes → Write → Bytes
after_kept_write setting bytes (Word at word) = with_word bytes at word
after_kept_write setting bytes (Zeros at count) = with_zeros bytes at count
after_kept_write setting bytes (Stored at stored) = with_stored bytes at stored
after_kept_write setting bytes (Made slab) = with_made setting bytes slab

-- the byte that a write leaves at an address, if it writes there
abbrev pub byte_of_write : Setting → Write → ℕ → Option ℕ
byte_of_write setting (Word at word) address =
    if is_within at 8 address then Some (slice_index (to_le_bytes int.w64 word) (address - at)) else None
byte_of_write setting (Zeros at count) address = if is_within at count address then Some 0 else None
byte_of_write setting (Stored at stored) address =
    if is_within at (length stored) address then Some (slice_index stored (address - at)) else None
byte_of_write setting (Made slab) address =
    if is_within slab.base (slab_bytes setting slab.cache) address then Some (made_byte setting slab address) else None

-- the bytes that writes leave, the newest of which is the first; before all of them each byte is 0
abbrev pub bytes_written : Setting → List Write → Bytes
bytes_written setting [] = λ _. 0
bytes_written setting (write ∷ earlier) = after_kept_write setting (bytes_written setting earlier) write

-- the state that the lists stand for: itself, but for its bytes, of which the writes are kept
abbrev pub state_kept : Setting → Kept → State
state_kept setting kept = record {
  live = kept.live.items;
  given = kept.given.items;
  slabs = kept.slabs.items;
  grown = kept.grown.items;
  bytes = bytes_written setting kept.writes.items;
}
