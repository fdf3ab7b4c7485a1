use Rattle.std.proofs.Common.{◌≡◌, length, true, false, List, Some, refl, ap, sym, subst, ◌∙◌, arith}
use Rattle.std.specs.Prelude.{not}
use Rattle.std.proofs.lemmas.List.{take_all}
use Rattle.umem_base.specs.Folder.{Activity, Grows}
use Rattle.umem_base.specs.MemFolder.{MemoryFile, MemFolder, contents, append_fails, with_appended}
use Rattle.umem_base.proofs.FilesLemmas.{Appended, appended, fails_unless_fits}
use Rattle.umem_base.proofs.memory.folder.MemFolderFolder.write.Goals as goal
use Rattle.umem_base.proofs.memory.folder.MemFolderFolder.write.Goals.{Else-not-append_at, then-fails-via-then-fails, then-fails-via-else-fails+then-not-append_at}

made : (c : Else-not-append_at) → Appended c.self.inside.files c.append_at.new.self c.self.inside.opened c.args.bytes.now
made c = appended c.self.inside.files c.append_at.new.self c.self.inside.opened c.in-Written.file c.args.bytes.now c.in-Written.is c.self.invariant (rw c.if-not-append_at.false at c.append_at.ensures.appended)

pub invariant_of-self : goal.invariant_of-self
invariant_of-self c = (made c).is_open

pub returns-clause-activity : goal.returns-clause-activity
returns-clause-activity c = (made c).activity ∙ ap (λ (s : MemFolder). s.activity) c.self.view_is

pub returns-clause-grows : goal.returns-clause-grows
returns-clause-grows c =
    let files = ap (λ (s : MemFolder). s.files) c.self.view_is in
    let activity = ap (λ (s : MemFolder). s.activity) c.self.view_is in
    let own = subst (λ (a : Activity). Grows a (Some (contents c.self.inside.files)) (Some (contents c.append_at.new.self)) c.args.bytes.now) activity (made c).grows in
    let told = subst (λ (fs : List MemoryFile). Grows c.args.self.now.activity (Some (contents fs)) (Some (contents c.append_at.new.self)) c.args.bytes.now) files own in
    rw (take_all (length c.args.bytes.now) c.args.bytes.now (omega arith)) told

pub returns-clause-files : goal.returns-clause-files
returns-clause-files c =
    let files = ap (λ (s : MemFolder). s.files) c.self.view_is in
    let activity = ap (λ (s : MemFolder). s.activity) c.self.view_is in
    let own = subst (λ (a : Activity). c.append_at.new.self ≡ with_appended c.self.inside.files a c.args.bytes.now) activity (made c).files_are in
    subst (λ (fs : List MemoryFile). c.append_at.new.self ≡ with_appended fs c.args.self.now.activity c.args.bytes.now) files own

pub returns-clause-fails : goal.returns-clause-fails
returns-clause-fails c =
    let calm = sym c.if-fails.ensures.fails in
    let fails = fails_unless_fits _ c.append_at.result c.self.inside.files c.self.inside.opened c.in-Written.file (length c.args.bytes.now) c.in-Written.is c.self.invariant c.append_at.ensures.fits calm in
    subst (λ (s : MemFolder). false ≡ append_fails s c.args.bytes.now) c.self.view_is (sym (fails ∙ ap not c.if-not-append_at.false))

pub returns-then-fails-clause-fails : goal.returns-then-fails-clause-fails
returns-then-fails-clause-fails c =
    elim c.then-fails.branch [
      | then-fails-via-then-fails w ↦
          let planned = sym w.if-fails.ensures.fails in
          subst (λ (s : MemFolder). true ≡ append_fails s c.args.bytes.now) c.self.view_is (rw planned refl)
      | then-fails-via-else-fails+then-not-append_at w ↦
          let calm = sym w.if-fails.ensures.fails in
          let fails = fails_unless_fits _ w.append_at.result c.self.inside.files c.self.inside.opened c.in-Written.file (length c.args.bytes.now) c.in-Written.is c.self.invariant w.append_at.ensures.fits calm in
          subst (λ (s : MemFolder). true ≡ append_fails s c.args.bytes.now) c.self.view_is (sym (fails ∙ ap not w.if-not-append_at.true))
    ]
