use Rattle.heap_accounts.proofs.ReadLemmas.{cache_there}
use Rattle.heap_books.proofs.free_commits.note_chunk.Goals as goal

pub object_bytes-requires : goal.object_bytes-requires
object_bytes-requires c = cache_there c.args.accounts.now c.args.placed.now c.history.ensures.sound c.requires.there
