use Rattle.std.proofs.Common.{◌∙◌, sym, arith}
use Rattle.std.proofs.lemmas.Bool.{le-ltb}
use Rattle.heap_slabs.proofs.StandingLemmas.{base_told, no_base}
use Rattle.heap_slabs.proofs.unused.has_base.Goals as goal

pub returns-then-count-gt0 : goal.returns-then-count-gt0
returns-then-count-gt0 c = base_told c.args.slabs.now c.args.base c.count_to-count.result _ c.requires c.count_to-count.ensures (λ none. omega arith)

pub returns-else-count-gt0 : goal.returns-else-count-gt0
returns-else-count-gt0 c =
    le-ltb 0 c.count_to-count.result (omega arith)
    ∙ sym (no_base c.args.slabs.now c.args.base (λ k d le lt. c.count_to-count.ensures.behind k d (omega arith) lt))
