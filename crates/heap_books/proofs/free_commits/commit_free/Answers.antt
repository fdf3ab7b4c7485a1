use Rattle.std.proofs.Common.{◌∙◌, ap, length, subst}
use Rattle.plain_heap.specs.Calls.{due_call}
use Rattle.heap_accounts.specs.declared.freed.Freed.{Freed}
use Rattle.heap_accounts.specs.Kinds.{is_free}
use Rattle.heap_accounts.specs.Turns.{TakesFree}
use Rattle.heap_books.proofs.FreedLemmas.{began_there, due_whole, slot_freed}
use Rattle.heap_books.proofs.MadeLemmas.{due_kind}
use Rattle.heap_books.proofs.free_commits.commit_free.Goals as goal

pub enter_freed-requires : goal.enter_freed-requires
enter_freed-requires c =
    let old = c.args.accounts.now in
    let made = subst (λ (f : Freed). TakesFree old c.commit_free-freed.new.self c.args.thread c.args.call f) c.in-Made.is c.commit_free-freed.ensures in
    let frees = slot_freed made.call.op (due_kind is_free old c.args.thread c.args.call made.call made.due) in
    let due = due_whole is_free (due_call old.plan old.entries c.args.thread c.args.call) made.call made.due in
    record {
      old = old;
      books = c.note_freed-count.ensures.kept;
      thread = c.args.thread;
      call = made.call;
      slot = frees.slot;
      frees = frees.is;
      made = made.made;
      at = ap length (c.as_slice.ensures.slice ∙ c.history.ensures.entries);
      began = began_there old c.args.thread c.args.call frees.slot made.call c.freed_next-placed.result due frees.is c.freed_next-placed.ensures;
      noted = c.note_freed-count.ensures.noted;
    }
