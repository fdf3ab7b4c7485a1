use Rattle.std.proofs.Common.{ap}
use Rattle.std.specs.Prelude.{codes}
use Rattle.heap_view.specs.Whatis.{numbered_text}
use Rattle.heap_view.proofs.WhatisLemmas.{piece, pieces}
use Rattle.heap_view.proofs.whatis.put_own.Goals as goal

pub returns : goal.returns
returns c =
    let a = numbered_text (codes "in the root segment of thread ") c.args.thread in
    let b = numbered_text (codes ", word ") c.args.word in
    let one = piece c.put_numbered.new.out c.args.out.now _ a c.in_ok-put_numbered.ensures (ap (numbered_text (codes "in the root segment of thread ")) c.from.ensures) in
    let two = piece c.put_numbered-2.new.out c.put_numbered.new.out _ b c.in_ok-put_numbered-2.ensures (ap (numbered_text (codes ", word ")) c.from-2.ensures) in
    pieces c.args.out.now c.put_numbered.new.out c.put_numbered-2.new.out a b one two
