use Rattle.std.proofs.Common.{arith, length, refl}
use Rattle.std.proofs.lemmas.Option.{slice_get_read}
use Rattle.plain_heap.proofs.HistoryLemmas.{number_at}
use Rattle.heap_summary.proofs.count.tally_of.Goals as goal

pub overflow_add-tally-in-HandedOut : goal.overflow_add-tally-in-HandedOut
overflow_add-tally-in-HandedOut c =
    let entries = c.args.entries.now in
    let i = c.loop-entry.entry-index in
    let entry = c.entry-item.result in
    let at = slice_get_read entries (length entries) i entry refl c.loop-entry-test.true c.entry-item.is in
    let number = number_at 0 i entries entry c.requires.numbered at in
    omega arith

pub overflow_add-tally-in-GivenBack-2 : goal.overflow_add-tally-in-GivenBack-2
overflow_add-tally-in-GivenBack-2 c =
    let entries = c.args.entries.now in
    let i = c.loop-entry.entry-index in
    let entry = c.entry-item.result in
    let at = slice_get_read entries (length entries) i entry refl c.loop-entry-test.true c.entry-item.is in
    let number = number_at 0 i entries entry c.requires.numbered at in
    omega arith
