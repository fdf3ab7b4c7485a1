use Rattle.std.specs.Prelude.{codes}
use Rattle.umem_base.specs.Numbers.{hexadecimal}
use Rattle.heap_view.proofs.WhatisLemmas.{pieces}
use Rattle.heap_view.proofs.whatis.put_tail.Goals as goal

pub returns : goal.returns
returns c = pieces c.args.out.now c.push_slice.new.self c.put_plain_hex.new.out (codes "past the end of ") (hexadecimal c.args.base) c.in_ok-push_slice.ensures.ok c.in_ok-put_plain_hex.ensures
