use Rattle.std.proofs.Common.{◌≡◌, List, ap, subst}
use Rattle.std.specs.Prelude.{IsSome, slice_get}
use Rattle.umem_base.specs.Folder.{Reading}
use Rattle.umem_base.specs.Files.{reading_at}
use Rattle.umem_base.specs.MemFolder.{MemoryFile, MemFolder, contents}
use Rattle.umem_base.proofs.MemFolderLemmas.{reads_first}
use Rattle.umem_base.proofs.FilesLemmas.{opens_read}
use Rattle.umem_base.proofs.memory.folder.MemFolderFolder.open_read.Goals as goal

pub invariant_of-self-2 : goal.invariant_of-self-2
invariant_of-self-2 c = opens_read c.self.inside.files c.args.name.now c.in-Some.file c.in-Some.ensures.first

pub returns-clause-opens : goal.returns-clause-opens
returns-clause-opens c =
    let files = ap (λ (s : MemFolder). s.files) c.self.view_is in
    let own = c.self.inside.files in
    subst (λ (fs : List MemoryFile). IsSome (contents fs c.args.name.now) × (reading_at (slice_get own c.in-Some.file) 0 ≡ Reading (contents fs c.args.name.now))) files (reads_first own c.args.name.now c.in-Some.file c.in-Some.ensures.first)
