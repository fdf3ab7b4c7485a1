use Rattle.std.proofs.Common.{◌≡◌, List, ap, arith, refl, replicate}
use Rattle.slab_layer.specs.Slab.{Slab}
use Rattle.slab_layer.specs.Slabs.{Slabs}
use Rattle.magazine.specs.CpuCache.{CpuCache}
use Rattle.shelf.specs.Shelf.{AreParts, stock_of}
use Rattle.shelf.proofs.PartsLemmas.{AreParts-new, new_cpu, shelf_of, stock_of-new}
use Rattle.shelf.proofs.shelf.Shelf.new.Goals as goal

pub invariant_of-result : goal.invariant_of-result
invariant_of-result c =
    let n : c.loop.counter ≡ c.args.cpus = omega arith in
    rw c.new-3.ensures.value
    (AreParts-new c.args.size c.args.cpus c.loop.magazines.items c.in_ok-new-2.field-0 c.requires (rw n at c.loop.invariant) c.in_ok-new-2.ensures)

pub returns : goal.returns
returns c =
    let n : c.loop.counter ≡ c.args.cpus = omega arith in
    let cpus : c.loop.magazines.items ≡ replicate c.args.cpus (new_cpu c.args.size) = rw n at c.loop.invariant in
    shelf_of (record { cache = c.new-3.result.cache; spare = c.new-3.result.spare; stock = stock_of c.loop.magazines.items c.in_ok-new-2.field-0 c.new-3.result.slabs }) _ _ _
    (ap (λ (s : Slabs). s.cache) c.new-3.ensures.value)
    (ap (λ (s : Slabs). s.spare) c.new-3.ensures.value)
    (rw (cpus, c.in_ok-new-2.ensures, c.new-3.ensures.value) (stock_of-new c.args.size c.args.cpus))
