use Rattle.std.proofs.Common.{◌≡◌, ◌++◌, take}
use Rattle.std.specs.List.{filter, flat_map}
use Rattle.dcmd.specs.Walks.{address_line, is_of_cache}
use Rattle.dcmd.proofs.walks.put_chunks_of.Given as goal

abbrev pub invariant-loop-buffer : goal.invariant-loop-buffer
invariant-loop-buffer l = l.out ≡ l.initial.out ++ flat_map address_line (filter (is_of_cache l.cache) (take l.buffer-index l.buffers))
