use Rattle.heap_logs.proofs.GrowthLemmas.{saved_log_more}
use Rattle.heap_logs.proofs.laws.saved_logs_grow.Goals as goal

pub returns : goal.returns
returns c = saved_log_more
