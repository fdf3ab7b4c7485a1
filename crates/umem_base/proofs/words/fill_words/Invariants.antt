use Rattle.std.proofs.Common.{◌≡◌, ℕ, ◌-◌, ◌<◌, ◌≤◌, ◌%◌, length, get_or}
use Rattle.std.specs.Int as int
use Rattle.std.specs.Int.{to_le_bytes}
use Rattle.umem_base.proofs.words.fill_words.Given as goal

abbrev pub invariant-loop-bytes : goal.invariant-loop-bytes
invariant-loop-bytes l = record {
  within : l.at ≤ length l.bytes;
  whole : l.at % 8 ≡ 0;
  filled : (k : ℕ) → k < l.at → get_or l.bytes k 0 ≡ get_or (to_le_bytes int.w64 l.fn.value) (k % 8) 0;
}

abbrev pub decreases-loop-bytes : goal.decreases-loop-bytes
decreases-loop-bytes l = length l.bytes - l.at
