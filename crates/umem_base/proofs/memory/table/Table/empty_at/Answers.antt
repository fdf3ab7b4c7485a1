use Rattle.std.proofs.Common.{[], ◌∙◌}
use Rattle.std.proofs.lemmas.List.{map-set}
use Rattle.umem_base.specs.Files.{file_of}
use Rattle.umem_base.proofs.MemFolderLemmas.{changed_at}
use Rattle.umem_base.proofs.memory.table.Table.empty_at.Goals as goal

pub returns : goal.returns
returns c file at =
    map-set file_of c.self.inside.files.items c.args.place _
    ∙ changed_at c.self.inside.files.items c.args.place c.index_mut-file.result.now c.args.self.now (λ _. []) c.clear.new.self.items c.self.view_is c.requires c.index_mut-file.ensures.value c.clear.ensures.items file at
