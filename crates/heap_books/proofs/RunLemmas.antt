-- What is known of the state that a run left.
use Rattle.std.proofs.Common.{arith}
use Rattle.plain_heap.specs.State.{start_state}
use Rattle.plain_heap.proofs.RisingLemmas.{all_rising}
use Rattle.plain_heap.proofs.SeparateLemmas.{history_in_place}
use Rattle.heap_ledger.specs.Ledger.{IsLedger, Ledger, run_setting, run_state}
use Rattle.heap_accounts.proofs.FreeRoundLemmas.{IsGood}

-- its buffers and slabs are in place, and its chunks rise
pub good_run : (ledger : Ledger) → IsLedger ledger → IsGood (run_setting ledger) (run_state ledger)
good_run ledger is = record {
  header = is.plan.header;
  places = history_in_place (run_setting ledger) ledger.entries is.plan.header is.legal;
  rising =
      all_rising (run_setting ledger) ledger.entries start_state
      (record { apart = λ i j d less lt. absurd (omega arith); below = λ k d lt. absurd (omega arith) });
}
