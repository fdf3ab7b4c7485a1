use Rattle.std.proofs.Common.{◌++◌, ◌∙◌}
use Rattle.std.proofs.lemmas.List.{map-set}
use Rattle.umem_base.specs.Files.{file_of}
use Rattle.umem_base.proofs.MemFolderLemmas.{changed_at}
use Rattle.umem_base.proofs.memory.table.Table.append_at.Goals as goal

pub returns-clause-appended : goal.returns-clause-appended
returns-clause-appended c file at =
    let items = rw c.unwrap.ensures at c.extend_from_slice.ensures.items in
    map-set file_of c.self.inside.files.items c.args.place _
    ∙ changed_at c.self.inside.files.items c.args.place c.index_mut-file.result.now c.args.self.now (λ old. old ++ c.args.bytes.now) c.extend_from_slice.new.self.items c.self.view_is c.requires c.index_mut-file.ensures.value items file at
