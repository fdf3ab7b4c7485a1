use Rattle.std.proofs.Common.{◌≡◌, ◌+◌, ◌++◌, length, drop, Ok, sym, ap, subst}
use Rattle.umem_base.specs.declared.outside.failed.Failed.{Failed}
use Rattle.umem_base.specs.Folder.{Activity, ReadsOn}
use Rattle.umem_base.specs.Files.{activity_in}
use Rattle.umem_base.specs.declared.memory.open.Open.TheVariants as open_file
use Rattle.umem_base.specs.MemFolder.{MemFolder, activity_after_read}
use Rattle.umem_base.proofs.Lists.{slice_rest}
use Rattle.umem_base.proofs.FilesLemmas.{moved, read_onward}
use Rattle.umem_base.proofs.memory.folder.MemFolderFolder.read.Goals as goal

pub returns-clause-moved : goal.returns-clause-moved
returns-clause-moved c =
    let bytes = c.bytes_at.result.now in
    let at = c.in-Read.at in
    let count = c.min-count.result in
    let is = rw (slice_rest bytes at) at c.min-count.ensures in
    let filled = rw (slice_rest bytes at) at c.copy_from_slice.ensures.after in
    let front = c.copy_from_slice.new.self in
    let made = moved c.self.inside.files c.self.inside.opened c.in-Read.file at count bytes c.args.buffer.now front c.in-Read.is c.self.invariant c.bytes_at.ensures is filled in
    let activity = ap (λ (s : MemFolder). s.activity) c.self.view_is in
    subst (λ (a : Activity). ReadsOn {E = Failed} a (activity_in c.self.inside.files (open_file.Read c.in-Read.file (at + count))) (Ok count) (front ++ drop count c.args.buffer.now)) activity made

pub returns-clause-activity : goal.returns-clause-activity
returns-clause-activity c =
    let bytes = c.bytes_at.result.now in
    let at = c.in-Read.at in
    let count = c.min-count.result in
    let is = rw (slice_rest bytes at) at c.min-count.ensures in
    let made = read_onward c.self.inside.files c.self.inside.opened c.in-Read.file at count (length c.args.buffer.now) bytes c.in-Read.is c.self.invariant c.bytes_at.ensures is in
    let calm = sym c.if-fails_next.ensures.fails in
    subst (λ (s : MemFolder). activity_in c.self.inside.files (open_file.Read c.in-Read.file (at + count)) ≡ activity_after_read s (length c.args.buffer.now)) c.self.view_is (rw calm made)
