use Rattle.std.proofs.Common.{◌≡◌, None, get_or, map, sym}
use Rattle.std.proofs.lemmas.List.{get_or_default}
use Rattle.magazine.specs.CpuCache.{CpuCache}
use Rattle.shelf.specs.Shelf.{cpu_stock, stock_of}
use Rattle.shelf.specs.Steps.{from_behind, from_cpus}
use Rattle.shelf.proofs.PartsLemmas.{any_behind, empty_at, none_found, sizes-set, sizes_kept, taken_of-parts}
use Rattle.shelf.proofs.steps.take_any.Goals as goal

pub returns-in-Some-clause-sizes : goal.returns-in-Some-clause-sizes
returns-in-Some-clause-sizes c = sizes_kept c.args.depot.now.size c.args.cpus.now c.take_first.new.cpus c.take_first.ensures.sizes c.requires.sizes

pub take_behind-requires-clause-empty : goal.take_behind-requires-clause-empty
take_behind-requires-clause-empty c =
    let same = none_found c.args.cpus.now c.take_first.new.cpus c.in_default.ensures.round c.in_default.ensures.left c.in_default.ensures.sizes in
    rw same.0 (empty_at c.args.cpus.now c.args.cpu c.index-cpus-cpu.result c.requires.cpu same.1)

pub take_behind-requires-clause-size : goal.take_behind-requires-clause-size
take_behind-requires-clause-size c =
    let same = none_found c.args.cpus.now c.take_first.new.cpus c.in_default.ensures.round c.in_default.ensures.left c.in_default.ensures.sizes in
    rw same.0 (sym (c.requires.sizes c.args.cpu c.index-cpus-cpu.result c.requires.cpu))

-- no CPU has a round, and each is as it was
same : (c : goal.After-take_behind) → (c.take_first.new.cpus ≡ c.args.cpus.now) × (from_cpus (map cpu_stock c.args.cpus.now) ≡ None)
same c = none_found c.args.cpus.now c.take_first.new.cpus c.in_default.ensures.round c.in_default.ensures.left c.in_default.ensures.sizes

-- the CPU of the number
abbrev cpu : goal.After-take_behind → CpuCache
cpu c = get_or c.args.cpus.now c.args.cpu c.index-cpus-cpu.result

pub returns-clause-left : goal.returns-clause-left
returns-clause-left c =
    let at = get_or_default c.args.cpus.now c.args.cpu c.index-cpus-cpu.result (cpu c) c.requires.cpu in
    rw ((same c).0, any_behind (stock_of c.args.cpus.now c.args.depot.now c.args.slabs.now.slabs) c.args.cpu (same c).1)
    (taken_of-parts from_behind c.args.cpus.now c.args.cpu (cpu c) c.take_behind.new.cpu c.args.depot.now c.take_behind.new.depot c.args.slabs.now c.take_behind.new.slabs c.requires.cpu at (rw (same c).0 at c.take_behind.ensures.sizes) (rw (same c).0 at c.take_behind.ensures.left))

pub returns-clause-sizes : goal.returns-clause-sizes
returns-clause-sizes c =
    let at = get_or_default c.args.cpus.now c.args.cpu c.index-cpus-cpu.result (cpu c) c.requires.cpu in
    rw (same c).0
    (sizes-set c.args.cpus.now c.args.cpu (cpu c) c.take_behind.new.cpu c.args.depot.now c.take_behind.new.depot c.args.slabs.now c.take_behind.new.slabs c.requires.cpu at (rw (same c).0 at c.take_behind.ensures.sizes) c.requires.sizes)
