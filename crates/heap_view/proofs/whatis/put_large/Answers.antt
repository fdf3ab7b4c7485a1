use Rattle.std.proofs.Common.{◌∙◌, ◌++◌, ap}
use Rattle.std.specs.Prelude.{codes}
use Rattle.case_table.specs.declared.cache_name.TheConstants.{OVERSIZE_NAME}
use Rattle.core_format.specs.declared.whole.Core.{Core}
use Rattle.heap_view.specs.Whatis.{based_text, large_size_at, numbered_text}
use Rattle.heap_view.proofs.WhatisLemmas.{piece, pieces}
use Rattle.heap_view.proofs.whatis.put_large.Goals as goal

pub returns : goal.returns
returns c =
    let start = c.args.out.now in
    let core = c.args.view.now in
    let a = based_text c.args.base c.args.offset in
    let b = numbered_text (codes ", ") (large_size_at core c.args.address) in
    let size = c.large_size_at.ensures ∙ ap (λ (k : Core). large_size_at k c.args.address) c.core.ensures.value in
    let two = piece c.put_numbered.new.out c.put_based.new.out _ b c.in_ok-put_numbered.ensures (ap (numbered_text (codes ", ")) size) in
    let x = pieces start c.put_based.new.out c.put_numbered.new.out a b c.in_ok-put_based.ensures two in
    let y = pieces start c.put_numbered.new.out c.push_slice.new.self (a ++ b) (codes " bytes allocated from ") x c.in_ok-push_slice.ensures.ok in
    pieces start c.push_slice.new.self c.push_slice-2.new.self (a ++ b ++ codes " bytes allocated from ") OVERSIZE_NAME.now y c.in_ok-push_slice-2.ensures.ok
