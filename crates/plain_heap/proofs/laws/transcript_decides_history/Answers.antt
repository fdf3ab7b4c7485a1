use Rattle.plain_heap.proofs.TranscriptLemmas.{same_history}
use Rattle.plain_heap.proofs.laws.transcript_decides_history.Goals as goal

pub returns : goal.returns
returns c = same_history
