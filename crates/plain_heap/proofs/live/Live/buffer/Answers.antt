use Rattle.std.proofs.Common.{ap, ◌∙◌, sym}
use Rattle.std.specs.FinMap as map
use Rattle.plain_heap.specs.Live.{Live}
use Rattle.plain_heap.proofs.LiveLemmas.{live_get}
use Rattle.plain_heap.proofs.live.Live.buffer.Goals as goal

pub returns : goal.returns
returns c =
    c.copied.ensures ∙ c.get.ensures.value ∙ sym (live_get c.self.inside.buffers.entries c.args.address) ∙ ap (λ (b : Live). map.get b.buffers c.args.address) c.self.view_is
