use Rattle.std.proofs.Common.{ap}
use Rattle.std.specs.Prelude.{codes}
use Rattle.core_format.specs.declared.whole.Core.{Core}
use Rattle.heap_view.specs.Whatis.{name_in}
use Rattle.heap_view.proofs.WhatisLemmas.{piece, pieces}
use Rattle.heap_view.proofs.whatis.put_gap.Goals as goal

pub returns : goal.returns
returns c =
    let name = name_in c.args.view.now c.args.cache in
    let two = piece c.put_name.new.out c.push_slice.new.self _ name c.in_ok-put_name.ensures (ap (λ (k : Core). name_in k c.args.cache) c.core.ensures.value) in
    pieces c.args.out.now c.push_slice.new.self c.put_name.new.out (codes "in a slab of ") name c.in_ok-push_slice.ensures.ok two
