use Rattle.std.proofs.Common.{ℕ, ◌+◌, List, length, ap, ◌∙◌}
use Rattle.case_table.specs.declared.slab_formulas.TheConstants.{TAG_BYTES}
use Rattle.yardstick.specs.Kept.{bytes_written}
use Rattle.yardstick.proofs.WritesLemmas.{length-bytes_from}
use Rattle.yardstick.proofs.frees.finding_at.Goals as goal

pub first_broken-requires-clause-chunk : goal.first_broken-requires-clause-chunk
first_broken-requires-clause-chunk c =
    ap (λ (bytes : List ℕ). length bytes) (c.deref-3.ensures.value ∙ c.in_ok-bytes.ensures)
    ∙ length-bytes_from (bytes_written c.args.setting.now c.deref-2.result.now) c.from-at.result (c.shape_of-shape.result.content + TAG_BYTES)
