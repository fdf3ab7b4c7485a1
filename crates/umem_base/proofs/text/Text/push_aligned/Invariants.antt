use Rattle.std.proofs.Common.{◌≡◌, ◌+◌, ◌≤◌, ◌++◌, replicate, vec_len, vec_capacity}
use Rattle.umem_base.proofs.text.Text.push_aligned.Given as goal

abbrev pub invariant-loop : goal.invariant-loop
invariant-loop l = record {
  padded : l.self-inside.bytes.items ≡ l.initial.self-inside.bytes.items ++ replicate l.counter 32;
  room : vec_len l.self-inside.bytes + l.blanks ≤ vec_capacity l.self-inside.bytes + l.counter;
}
