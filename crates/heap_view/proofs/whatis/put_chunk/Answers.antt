use Rattle.std.proofs.Common.{◌-◌, ◌++◌, ℕ, ap}
use Rattle.std.specs.Prelude.{codes}
use Rattle.umem_base.specs.Numbers.{hexadecimal}
use Rattle.case_table.specs.Addresses.{bufctl_address}
use Rattle.core_format.specs.declared.whole.Core.{Core}
use Rattle.core_format.specs.Chunks.{is_held}
use Rattle.heap_view.specs.Whatis.{based_text, given_text, name_at}
use Rattle.heap_view.proofs.WhatisLemmas.{piece, pieces}
use Rattle.heap_view.proofs.whatis.put_chunk.Goals as goal

pub returns : goal.returns
returns c =
    let start = c.args.out.now in
    let core = c.args.view.now in
    let a = based_text (c.args.address - c.args.offset) c.args.offset in
    let b = codes ", bufctl " in
    let d = hexadecimal (bufctl_address c.args.chunk) in
    let e = given_text (is_held core c.args.chunk) in
    let f = name_at core c.args.address in
    let one = piece c.put_based.new.out start _ a c.in_ok-put_based.ensures (ap (λ (n : ℕ). based_text n c.args.offset) c.saturating_sub.ensures) in
    let three = piece c.put_plain_hex.new.out c.push_slice.new.self _ d c.in_ok-put_plain_hex.ensures (ap hexadecimal c.bufctl_address.ensures) in
    let four = piece c.put_given.new.out c.put_plain_hex.new.out _ e c.in_ok-put_given.ensures (ap given_text c.is_held.ensures) in
    let five = piece c.put_name_at.new.out c.put_given.new.out _ f c.in_ok-put_name_at.ensures (ap (λ (k : Core). name_at k c.args.address) c.core.ensures.value) in
    let x = pieces start c.put_based.new.out c.push_slice.new.self a b one c.in_ok-push_slice.ensures.ok in
    let y = pieces start c.push_slice.new.self c.put_plain_hex.new.out (a ++ b) d x three in
    let z = pieces start c.put_plain_hex.new.out c.put_given.new.out (a ++ b ++ d) e y four in
    pieces start c.put_given.new.out c.put_name_at.new.out (a ++ b ++ d ++ e) f z five
