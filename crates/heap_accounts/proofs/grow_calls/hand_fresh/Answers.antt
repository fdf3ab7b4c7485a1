use Rattle.std.proofs.Common.{subst}
use Rattle.heap_accounts.specs.Grows.{OpensFresh}
use Rattle.heap_accounts.proofs.GrowLemmas.{can_hand_in, hands_first, not_missing}
use Rattle.heap_accounts.proofs.grow_calls.hand_fresh.Goals as goal

pub unreachable-requires : goal.unreachable-requires
unreachable-requires c =
    let opens = subst (OpensFresh c.args.tables.now c.open_fresh.new.tables c.args.request.cache) c.in-Some.is c.in_ok-fresh.ensures.ok in
    not_missing c.args.tables.now c.args.thread c.args.request c.next_slab-number.result c.next_slab-number.ensures.next c.open_fresh.new.tables c.in-Some.fresh opens
    c.requires c.in_default-chunk.ensures.numbered

pub hand_chunk-reply-requires : goal.hand_chunk-reply-requires
hand_chunk-reply-requires c =
    let opens = subst (OpensFresh c.args.tables.now c.open_fresh.new.tables c.args.request.cache) c.in-Some.is c.in_ok-fresh.ensures.ok in
    can_hand_in c.args.tables.now c.args.thread c.args.request c.next_slab-number.result c.next_slab-number.ensures.next c.open_fresh.new.tables c.in-Some.fresh opens
    c.in-Some-chunk.placed c.in-Some-chunk.ensures.numbered c.new_slabs_are_unused.ensures c.requires

pub returns-clause-ok : goal.returns-clause-ok
returns-clause-ok c =
    let opens = subst (OpensFresh c.args.tables.now c.open_fresh.new.tables c.args.request.cache) c.in-Some.is c.in_ok-fresh.ensures.ok in
    hands_first c.args.tables.now c.args.thread c.args.request c.next_slab-number.result c.next_slab-number.ensures.next c.open_fresh.new.tables c.in-Some.fresh opens
    c.in-Some-chunk.placed c.in-Some-chunk.ensures.numbered c.new_slabs_are_unused.ensures c.hand_chunk-reply.new.tables c.hand_chunk-reply.result c.hand_chunk-reply.ensures
