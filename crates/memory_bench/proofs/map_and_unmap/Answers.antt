use Rattle.umem_base.specs.declared.arena.TheConstants.{ARENA_BASE}
use Rattle.umem_base.specs.declared.span.Span.{Span}
use Rattle.umem_base.proofs.OrderedLemmas.{Gains-put_by}
use Rattle.memory_bench.specs.declared.TheConstants.{RUNS}
use Rattle.addr_space.specs.Space.{runs_of}
use Rattle.memory_bench.proofs.map_and_unmap.Goals as goal

pub unmap-requires : goal.unmap-requires
unmap-requires c =
    let run : Span = record { base = ARENA_BASE; pages = RUNS } in
    rw c.in-Ok.ensures.ok.runs (Gains-put_by (λ (r : Span). r.base) (runs_of c.loop-time.space) run).gained
