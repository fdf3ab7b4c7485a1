use Rattle.std.proofs.Common.{◌≡◌, false, List, Some, [], refl, ap, sym, subst}
use Rattle.umem_base.specs.Folder.{Sets}
use Rattle.umem_base.specs.MemFolder.{MemoryFile, MemFolder, contents, create_fails, with_file_bytes}
use Rattle.umem_base.proofs.MemFolderLemmas.{first_within}
use Rattle.umem_base.proofs.FilesLemmas.{emptied}
use Rattle.umem_base.proofs.memory.folder.MemFolderFolder.create.Goals as goal

pub empty_at-requires : goal.empty_at-requires
empty_at-requires c = first_within c.self.inside.files c.args.name.now c.in-false-Some.file (rw c.in-false-Some.is-1 at c.position-place.ensures.first)

pub invariant_of-self-2 : goal.invariant_of-self-2
invariant_of-self-2 c =
    (emptied c.self.inside.files c.empty_at.new.self c.args.name.now c.in-false-Some.file (rw c.in-false-Some.is-1 at c.position-place.ensures.first) c.empty_at.ensures).is_open

pub returns-clause-writing : goal.returns-clause-writing
returns-clause-writing c =
    (emptied c.self.inside.files c.empty_at.new.self c.args.name.now c.in-false-Some.file (rw c.in-false-Some.is-1 at c.position-place.ensures.first) c.empty_at.ensures).activity

pub returns-clause-emptied : goal.returns-clause-emptied
returns-clause-emptied c =
    let made = emptied c.self.inside.files c.empty_at.new.self c.args.name.now c.in-false-Some.file (rw c.in-false-Some.is-1 at c.position-place.ensures.first) c.empty_at.ensures in
    let files = ap (λ (s : MemFolder). s.files) c.self.view_is in
    subst (λ (fs : List MemoryFile). Sets (Some (contents fs)) (Some (contents c.empty_at.new.self)) c.args.name.now (Some [])) files made.sets

pub returns-clause-fails : goal.returns-clause-fails
returns-clause-fails c =
    let made = emptied c.self.inside.files c.empty_at.new.self c.args.name.now c.in-false-Some.file (rw c.in-false-Some.is-1 at c.position-place.ensures.first) c.empty_at.ensures in
    let calm = sym c.in-false-Some.ensures.fails in
    subst (λ (s : MemFolder). false ≡ create_fails s c.args.name.now) c.self.view_is (rw (calm, made.there) refl)

pub returns-clause-files : goal.returns-clause-files
returns-clause-files c =
    let made = emptied c.self.inside.files c.empty_at.new.self c.args.name.now c.in-false-Some.file (rw c.in-false-Some.is-1 at c.position-place.ensures.first) c.empty_at.ensures in
    let files = ap (λ (s : MemFolder). s.files) c.self.view_is in
    subst (λ (fs : List MemoryFile). c.empty_at.new.self ≡ with_file_bytes fs c.args.name.now []) files made.files_are
