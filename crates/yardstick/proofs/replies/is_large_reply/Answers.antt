use Rattle.std.proofs.Common.{◌≡◌, ◌<◌, not, ap, ◌∙◌, arith, rules}
use Rattle.std.proofs.lemmas.Bool.Decides.{Decides-at}
use Rattle.umem_base.specs.Pages.{pages_for}
use Rattle.plain_heap.specs.declared.reply.Report.TheVariants.{Clean}
use Rattle.yardstick.specs.Kept.{state_kept}
use Rattle.yardstick.specs.Tests.{has_run}
use Rattle.yardstick.proofs.LegalLemmas.{tells_no_run}
use Rattle.yardstick.proofs.RepliesLemmas.{tells_large_at}
use Rattle.yardstick.proofs.replies.is_large_reply.Goals as goal

pub returns-then-eq : goal.returns-then-eq
returns-then-eq c =
    let setting = c.args.setting.now in
    let clean : c.in-At.report ≡ Clean = search rules in
    let pages = c.pages_for-pages.ensures ∙ ap pages_for c.from.ensures in
    rw c.in-At.is (tells_large_at setting (state_kept setting c.args.kept.now) c.args.size c.pages_for-pages.result c.in-At.address c.in-At.report
    c.is_free_run.result clean pages c.is_free_run.ensures)

pub returns-in-NoSpace : goal.returns-in-NoSpace
returns-in-NoSpace c =
    let setting = c.args.setting.now in
    let state = state_kept setting c.args.kept.now in
    let pages : c.pages_for-pages.result ≡ pages_for c.args.size = c.pages_for-pages.ensures ∙ ap pages_for c.from.ensures in
    let none = ap not (c.has_run.ensures ∙ ap (has_run setting state) pages) in
    let some : 0 < pages_for c.args.size = omega arith in
    rw c.in-NoSpace.is (Decides-at (not c.has_run.result) (not (has_run setting state (pages_for c.args.size))) none
    (tells_no_run setting state (pages_for c.args.size) some))
