use Rattle.std.proofs.Common.{ap}
use Rattle.std.specs.Prelude.{codes}
use Rattle.heap_view.specs.Whatis.{numbered_text, root_text}
use Rattle.heap_view.proofs.WhatisLemmas.{piece}
use Rattle.heap_view.proofs.whatis.put_root.Goals as goal

pub returns : goal.returns
returns c = piece c.put_numbered.new.out c.args.out.now _ (root_text c.args.word) c.in_ok-put_numbered.ensures (ap (numbered_text (codes "in the root segment, word ")) c.from.ensures)
