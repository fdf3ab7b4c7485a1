use Rattle.std.proofs.Common.{◌≡◌, ◌+◌, List, ap, ◌∙◌, arith, get_or, sym, take}
use Rattle.std.specs.List.{flat_map}
use Rattle.std.proofs.lemmas.List.{get_or_default}
use Rattle.slab_layer.specs.Slabs.{Slabs}
use Rattle.slab_layer.proofs.SlabsLemmas.{after_puts-append}
use Rattle.magazine.specs.CpuCache.{CpuCache, drain_order}
use Rattle.shelf.specs.Shelf.{emptied}
use Rattle.shelf.proofs.Lists.{flat_map_take, get_mapped, set_mapped}
use Rattle.shelf.proofs.steps.drain_cpus.Goals as goal

-- the CPU as it was at the start
abbrev was : goal.After-drain_into → CpuCache
was c = get_or c.args.cpus.now c.loop-cpu.cpu-index c.cpu-item.result

now : (c : goal.After-drain_into) → get_or c.loop-cpu.cpu-items c.loop-cpu.cpu-index c.cpu-item.result ≡ was c
now c =
    ap (λ (l : List CpuCache). get_or l c.loop-cpu.cpu-index c.cpu-item.result) c.loop-cpu.invariant.emptied
    ∙ get_mapped emptied c.args.cpus.now c.loop-cpu.cpu-index c.cpu-item.result

pub loop-cpu-preserved : goal.loop-cpu-preserved
loop-cpu-preserved c =
    let i = c.loop-cpu.cpu-index in
    let cpus = c.args.cpus.now in
    let at = get_or_default cpus i c.cpu-item.result (was c) (omega arith) in
    record {
      emptied =
          rw (c.drain_into.ensures.emptied, now c, c.loop-cpu.invariant.emptied)
          (set_mapped emptied cpus i (i + 1) (was c) (omega arith) (omega arith) at);
      cache = ap (λ (s : Slabs). s.cache) c.drain_into.ensures.put ∙ c.loop-cpu.invariant.cache;
      spare = ap (λ (s : Slabs). s.spare) c.drain_into.ensures.put ∙ c.loop-cpu.invariant.spare;
      put =
          ap (λ (s : Slabs). s.slabs) c.drain_into.ensures.put
          ∙ rw (now c, c.loop-cpu.invariant.put, flat_map_take drain_order cpus i (i + 1) (was c) (omega arith) (omega arith) at)
          (sym (after_puts-append c.args.slabs.now.slabs (flat_map drain_order (take i cpus)) (drain_order (was c))));
    }
