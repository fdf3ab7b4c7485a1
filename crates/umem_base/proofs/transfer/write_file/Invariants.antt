use Rattle.std.proofs.Common.{◌≡◌, ◌-◌, ◌≤◌, Some, length, take}
use Rattle.umem_base.specs.Folder.{Sets}
use Rattle.umem_base.specs.Transfer.{IsWritingTo}
use Rattle.umem_base.proofs.transfer.write_file.Given as goal

abbrev pub invariant-loop-written : goal.invariant-loop-written
invariant-loop-written g l =
    let folder = g.F.Folder in
    record {
      within : l.written ≤ length l.bytes;
      written : Sets (folder.files l.fn.files) (folder.files l.files) l.name (Some (take l.written l.bytes));
      writing : IsWritingTo (folder.files l.fn.files) l.name (folder.activity l.files);
      write_faults : folder.write_faults l.files ≡ folder.write_faults l.fn.files;
      read_faults : folder.read_faults l.files ≡ folder.read_faults l.fn.files;
    }

abbrev pub decreases-loop-written : goal.decreases-loop-written
decreases-loop-written g l = length l.bytes - l.written
