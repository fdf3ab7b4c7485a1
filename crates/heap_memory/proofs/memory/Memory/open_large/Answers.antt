use Rattle.std.proofs.Common.{◌≡◌, ap, ◌∙◌}
use Rattle.umem_base.specs.Pages.{pages_for}
use Rattle.heap_memory.proofs.PagesLemmas.{large_opened, lowest_told, want_told}
use Rattle.heap_memory.proofs.memory.Memory.open_large.Goals as goal

pub returns-clause-lowest : goal.returns-clause-lowest
returns-clause-lowest c =
    lowest_told c.open_run.result c.args.self.now c.open_run.new.self c.pages_for.result (pages_for c.args.size) c.open_run.ensures.opened
    (c.pages_for.ensures ∙ ap pages_for c.from.ensures)

pub returns-clause-opened : goal.returns-clause-opened
returns-clause-opened c =
    large_opened c.open_run.result c.args.self.now c.open_run.new.self c.pages_for.result c.args.size c.open_run.ensures.opened
    (c.pages_for.ensures ∙ ap pages_for c.from.ensures)

pub returns-clause-err : goal.returns-clause-err
returns-clause-err c = want_told c.open_run.result c.args.self.now c.open_run.new.self c.open_run.ensures.err
