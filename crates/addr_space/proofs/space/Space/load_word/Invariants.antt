use Rattle.std.proofs.Common.{◌≡◌, ℕ, ◌<◌, length, get_or}
use Rattle.addr_space.specs.Space.{HasBytes}
use Rattle.addr_space.proofs.space.Space.load_word.Given as goal

abbrev pub invariant-loop-offset : goal.invariant-loop-offset
invariant-loop-offset l = record { len : length l.bytes ≡ 8; fits : (k : ℕ) → get_or l.bytes k 0 < 256; read : HasBytes l.self l.at l.offset (λ k. get_or l.bytes k 0) }
