use Rattle.std.proofs.Common.{[], Bool, sym, subst, arith}
use Rattle.script.specs.Plan.{plan_of}
use Rattle.umem_options.specs.Flags.{has_guards}
use Rattle.plain_heap.specs.Live.{HeldByAddress, TellsLive}
use Rattle.plain_heap.specs.Setting.{Setting}
use Rattle.plain_heap.specs.State.{start_state}
use Rattle.plain_heap.proofs.LiveLemmas.{tells_start}
use Rattle.heap_ledger.specs.Ledger.{Ledger}
use Rattle.heap_slabs.specs.HeapSlabs.{IsTableOf}
use Rattle.heap_accounts.specs.declared.tables.Tables.{Tables}
use Rattle.heap_accounts.specs.Accounts.{AreAccounts}
use Rattle.heap_accounts.proofs.accounts.Accounts.start.Goals as goal

pub invariant_of-result : goal.invariant_of-result
invariant_of-result c =
    let first : Ledger = record { plan = plan_of c.args.script.now; options = c.args.options.now; logging = c.args.logging.now; entries = [] } in
    let tables : Tables = record { memory = c.in_ok-memory.memory; live = c.in_ok-live.live; slabs = c.in_ok-slabs.slabs } in
    subst (λ (l : Ledger). AreAccounts l tables) (sym c.in_ok-ledger.ensures) (record {
      legal = record { plan = c.requires; legal = λ n entry at. absurd (cc at); follows = λ n entry at. absurd (cc at); tidy = λ n entry at. absurd (cc at) };
      are = record {
        bytes = c.in_ok-memory.ensures (has_guards c.args.options.now);
        buffers = subst (λ (b : HeldByAddress). TellsLive b start_state) (sym c.in_ok-live.ensures.empty) tells_start;
        slabs = subst (λ (g : Bool). let s : Setting = record { header = c.args.script.now.header; guards = g } in IsTableOf s start_state c.in_ok-slabs.slabs) c.has_guards.ensures c.in_ok-slabs.ensures.start;
      };
      room = omega (arith, c.in_ok-live.ensures.spare, c.calls_of.ensures.calls);
      grown = omega arith;
    })
