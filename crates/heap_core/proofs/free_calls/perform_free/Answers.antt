use Rattle.heap_core.proofs.FreeLemmas.{can_put, none_heap, put_heap, told_some}
use Rattle.heap_core.proofs.free_calls.perform_free.Goals as goal

pub returns-in_default-round-clause-heap : goal.returns-in_default-round-clause-heap
returns-in_default-round-clause-heap c =
    none_heap c.args.books.now c.commit_free-freed.new.self c.args.shelves.now c.args.thread c.args.call c.in-Made.reply c.requires.heap
    (record { legal = c.history.ensures.sound; few = c.history.ensures.few }) c.in-Made.round c.in-Made.ensures c.in_default-round.is

pub returns-in_default-cache_of-clause-heap : goal.returns-in_default-cache_of-clause-heap
returns-in_default-cache_of-clause-heap c =
    absurd (told_some c.args.books.now c.commit_free-freed.new.self c.args.shelves.now c.args.thread c.args.call c.in-Made.reply c.requires.heap
    (record { legal = c.history.ensures.sound; few = c.history.ensures.few }) c.in-Made.round c.cache_of.result c.in-Some.round c.chunk.result c.in-Made.ensures c.in-Some.is c.chunk.ensures
    c.cache_of.ensures c.in_default-cache_of.is)

pub put_back-requires : goal.put_back-requires
put_back-requires c =
    can_put c.args.books.now c.commit_free-freed.new.self c.args.shelves.now c.args.thread c.args.call c.in-Made.reply c.requires.heap
    (record { legal = c.history.ensures.sound; few = c.history.ensures.few }) c.in-Made.round c.cache_of.result c.in-Some.round c.chunk.result c.in-Made.ensures c.in-Some.is c.chunk.ensures
    c.cache_of.ensures c.in-Some-cache_of.cache c.in-Some-cache_of.is

pub returns-clause-heap : goal.returns-clause-heap
returns-clause-heap c =
    put_heap c.args.books.now c.commit_free-freed.new.self c.args.shelves.now c.args.thread c.args.call c.in-Made.reply c.requires.heap
    (record { legal = c.history.ensures.sound; few = c.history.ensures.few }) c.in-Made.round c.cache_of.result c.in-Some.round c.chunk.result c.in-Made.ensures c.in-Some.is c.chunk.ensures
    c.cache_of.ensures c.in-Some-cache_of.cache c.in-Some-cache_of.is c.put_back.new.shelves c.put_back.ensures
