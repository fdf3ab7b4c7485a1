use Rattle.std.proofs.Common.{◌≡◌, Some, None, ◌∙◌, arith, map, refl, set, ⊎_elim}
use Rattle.std.proofs.Math.Seq.{map-set_same}
use Rattle.magazine.specs.CpuCache.{CpuCache}
use Rattle.shelf.specs.Shelf.{cpu_stock}
use Rattle.shelf.specs.Steps.{from_cpus}
use Rattle.shelf.proofs.CpusLemmas.{cpus_hand, from_cpu-taken, from_cpus-at, from_cpus-none, size-taken}
use Rattle.shelf.proofs.steps.take_first.Goals as goal

found : (c : goal.In-Some) → from_cpus (map cpu_stock c.loop-cpu.cpu-items) ≡ Some (cpus_hand c.in-Some.round (map cpu_stock (set c.loop-cpu.cpu-items c.loop-cpu.cpu-index c.take_any.new.self)))
found c = from_cpus-at c.loop-cpu.cpu-items c.loop-cpu.cpu-index c.cpu-item.result c.take_any.new.self c.in-Some.round (omega arith) c.cpu-item.is c.loop-cpu.invariant.none (from_cpu-taken c.cpu-item.result c.take_any.new.self c.in-Some.round (rw (← c.cpu-item.is) at c.in-Some.ensures.cases))

pub returns-in-Some-clause-round : goal.returns-in-Some-clause-round
returns-in-Some-clause-round c = rw (← c.loop-cpu.invariant.same, found c) refl

pub returns-in-Some-clause-left : goal.returns-in-Some-clause-left
returns-in-Some-clause-left c = rw (← c.loop-cpu.invariant.same, found c) refl

pub returns-in-Some-clause-sizes : goal.returns-in-Some-clause-sizes
returns-in-Some-clause-sizes c =
    rw (← c.loop-cpu.invariant.same)
    (map-set_same (λ (cpu : CpuCache). cpu.size) c.loop-cpu.cpu-items c.loop-cpu.cpu-index c.take_any.new.self c.cpu-item.result (size-taken _ _ c.in-Some.round c.in-Some.ensures.cases))

none : (c : goal.After-loop-cpu) → from_cpus (map cpu_stock c.args.cpus.now) ≡ None
none c = rw (← c.loop-cpu.invariant.same) (from_cpus-none c.loop-cpu.cpu-items (λ k d lt. c.loop-cpu.invariant.none k d (omega arith)))

pub returns-clause-round : goal.returns-clause-round
returns-clause-round c = rw (none c) refl

pub returns-clause-left : goal.returns-clause-left
returns-clause-left c = rw (none c, c.loop-cpu.invariant.same) refl
