use Rattle.std.proofs.Common.{◌≡◌, take, None}
use Rattle.umem_base.specs.Files.{files_of}
use Rattle.umem_base.specs.MemFolder.{file_named}
use Rattle.umem_base.proofs.memory.table.place_of.Given as goal

abbrev pub invariant-loop-place : goal.invariant-loop-place
invariant-loop-place l = file_named (take l.place (files_of l.files)) l.name ≡ None
