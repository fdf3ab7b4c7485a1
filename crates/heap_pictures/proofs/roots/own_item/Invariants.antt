use Rattle.std.proofs.Common.{ℕ, ◌≡◌, ◌≤◌, ◌+◌, ◌*◌}
use Rattle.std.specs.Prelude.{map}
use Rattle.std.specs.List.{range_with_len}
use Rattle.umem_base.specs.declared.roots.TheConstants.{ROOT_WORDS}
use Rattle.umem_base.specs.Roots.{own_root}
use Rattle.plain_heap.specs.Bytes.{word_at}
use Rattle.heap_ledger.specs.Ledger.{run_state}
use Rattle.heap_pictures.proofs.roots.own_item.Given as goal

abbrev pub invariant-loop-slot : goal.invariant-loop-slot
invariant-loop-slot l = record {
  made : l.words.items ≡ map (λ (word : ℕ). word_at (run_state l.accounts).bytes (own_root l.thread + 8 * word)) (range_with_len 0 l.slot);
  within : l.slot ≤ ROOT_WORDS;
}
