use Rattle.std.proofs.Common.{◌∙◌, ◌++◌, refl, sym, arith}
use Rattle.buftag.proofs.WrittenLemmas.{request-within, room_in_parts, whole_from_parts, with_guard-None, with_guard-Some}
use Rattle.buftag.proofs.write.write_alloc.Goals as goal

pub write_fresh-requires : goal.write_fresh-requires
write_fresh-requires c =
    rw c.split_at_mut-content.ensures.front_len (request-within c.args.shape.now c.args.shape.now.class c.args.requested c.requires.shape refl c.requires.request)

pub write_redzone-requires-clause-small : goal.write_redzone-requires-clause-small
write_redzone-requires-clause-small c =
    let within = request-within c.args.shape.now c.args.shape.now.class c.args.requested c.requires.shape refl c.requires.request in
    omega (arith, c.requires.shape.words, c.requires.shape.small)

pub bounds-bytes-requested : goal.bounds-bytes-requested
bounds-bytes-requested c =
    room_in_parts c.args.shape.now c.args.requested c.args.zero c.write_fresh.new.content c.write_redzone.new.redzone c.write_bufctl.new.bufctl _
    c.requires.shape c.requires.request c.split_at_mut-content.ensures.front_len c.write_fresh.ensures c.write_bufctl.ensures.written

pub returns-then-is_some-clause-whole : goal.returns-then-is_some-clause-whole
returns-then-is_some-clause-whole c =
    whole_from_parts c.args.shape.now c.args.requested c.args.zero c.write_fresh.new.content c.write_redzone.new.redzone c.write_bufctl.new.bufctl _ _
    c.requires.shape c.requires.request c.write_bufctl.ensures.fits c.split_at_mut-content.ensures.front_len c.write_fresh.ensures c.write_redzone.ensures c.write_bufctl.ensures.written
    (with_guard-Some c.args.shape.now.class c.args.requested (c.write_fresh.new.content ++ (c.write_redzone.new.redzone ++ c.write_bufctl.new.bufctl)) (sym c.is_some.ensures ∙ c.if-is_some.true))

pub returns-else-is_some-clause-whole : goal.returns-else-is_some-clause-whole
returns-else-is_some-clause-whole c =
    whole_from_parts c.args.shape.now c.args.requested c.args.zero c.write_fresh.new.content c.write_redzone.new.redzone c.write_bufctl.new.bufctl _ _
    c.requires.shape c.requires.request c.write_bufctl.ensures.fits c.split_at_mut-content.ensures.front_len c.write_fresh.ensures c.write_redzone.ensures c.write_bufctl.ensures.written
    (with_guard-None c.args.shape.now.class c.args.requested (c.write_fresh.new.content ++ (c.write_redzone.new.redzone ++ c.write_bufctl.new.bufctl)) (sym c.is_some.ensures ∙ c.if-is_some.false))
