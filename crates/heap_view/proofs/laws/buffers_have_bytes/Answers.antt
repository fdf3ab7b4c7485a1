use Rattle.heap_view.proofs.BytesLemmas.{buffers_have_bytes}
use Rattle.heap_view.proofs.laws.buffers_have_bytes.Goals as goal

pub returns : goal.returns
returns c = buffers_have_bytes
