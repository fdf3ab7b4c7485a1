use Rattle.std.proofs.Common.{◌≡◌, take}
use Rattle.std.specs.List.{list_all}
use Rattle.script.specs.Lines.{is_line_byte}
use Rattle.script.proofs.line_bytes.is_line.Given as goal

abbrev pub invariant-loop-byte : goal.invariant-loop-byte
invariant-loop-byte l = l.fine ≡ list_all is_line_byte (take l.byte-index l.bytes)
