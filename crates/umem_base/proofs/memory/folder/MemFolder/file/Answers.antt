use Rattle.std.proofs.Common.{◌≡◌, List, Some, ap, subst}
use Rattle.umem_base.specs.MemFolder.{MemoryFile, MemFolder, contents}
use Rattle.umem_base.proofs.MemFolderLemmas.{first_within}
use Rattle.umem_base.proofs.FilesLemmas.{bytes_first}
use Rattle.umem_base.proofs.memory.folder.MemFolder.file.Goals as goal

pub bytes_at-requires : goal.bytes_at-requires
bytes_at-requires c = first_within c.self.inside.files c.args.name.now c.in_ok-at.at c.in_ok-at.ensures.first

pub returns : goal.returns
returns c =
    let files = ap (λ (s : MemFolder). s.files) c.self.view_is in
    subst (λ (fs : List MemoryFile). Some c.bytes_at.result.now ≡ contents fs c.args.name.now) files (bytes_first c.self.inside.files c.args.name.now c.bytes_at.result.now c.in_ok-at.at c.in_ok-at.ensures.first c.bytes_at.ensures)
