use Rattle.std.proofs.Common.{◌∙◌, ◌++◌, [], ◌∷◌, Option, refl, ap}
use Rattle.std.specs.Prelude.{codes}
use Rattle.umem_base.specs.Numbers.{hexadecimal}
use Rattle.heap_view.specs.declared.hit.Hit.{Hit}
use Rattle.heap_view.specs.Hits.{hit_of}
use Rattle.heap_view.specs.Whatis.{found_text, whatis_line}
use Rattle.heap_view.proofs.WhatisLemmas.{piece, pieces}
use Rattle.heap_view.proofs.whatis.whatis_text.Goals as goal

pub returns : goal.returns
unfolding whatis_line
returns c =
    let core = c.args.view.now in
    let a = hexadecimal c.args.address in
    let b = codes " is " in
    let d = found_text core c.args.address (hit_of core c.args.address) in
    let one = piece c.put_plain_hex.new.out c.new-out.result a a c.in_ok-put_plain_hex.ensures refl in
    let start = one ∙ ap (λ xs. xs ++ a) c.new-out.ensures in
    let three = piece c.put_found.new.out c.push_slice.new.self _ d c.in_ok-put_found.ensures (ap (λ (h : Option Hit). found_text core c.args.address h) c.find.ensures) in
    let x = pieces [] c.put_plain_hex.new.out c.push_slice.new.self a b start c.in_ok-push_slice.ensures.ok in
    let y = pieces [] c.push_slice.new.self c.put_found.new.out (a ++ b) d x three in
    pieces [] c.put_found.new.out c.push_slice-2.new.self (a ++ b ++ d) (10 ∷ []) y c.in_ok-push_slice-2.ensures.ok
