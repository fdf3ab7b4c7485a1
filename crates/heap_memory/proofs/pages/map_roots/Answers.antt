use Rattle.std.proofs.Common.{◌∙◌}
use Rattle.heap_memory.proofs.StartLemmas.{roots_of_both, roots_of_one}
use Rattle.heap_memory.proofs.pages.map_roots.Goals as goal

pub returns-then-header-ne2 : goal.returns-then-header-ne2
returns-then-header-ne2 c =
    roots_of_one c.args.header.now c.new-space.result c.map_run.new.space c.new-space.ensures.bytes c.new-space.ensures.runs c.in_ok-map_run.ensures.ok
    c.if-header-ne2.true c.in_ok-map_run.ensures.sound

pub returns : goal.returns
returns c =
    roots_of_both c.args.header.now c.new-space.result c.map_run.new.space c.new-space.ensures.bytes c.new-space.ensures.runs c.in_ok-map_run.ensures.ok
    c.map_run-2.new.space c.from.result c.requires c.if-header-ne2.false c.from.ensures c.in_ok-map_run-2.ensures.ok c.in_ok-map_run-2.ensures.sound
