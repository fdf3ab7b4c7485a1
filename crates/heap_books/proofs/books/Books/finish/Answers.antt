use Rattle.heap_accounts.proofs.FinishLemmas.{fewer_left, goes_still}
use Rattle.heap_books.proofs.FinishLemmas.{goes_further, next_makes, no_steps, one_step_more}
use Rattle.heap_books.proofs.books.Books.finish.Goals as goal

pub loop-due-init : goal.loop-due-init
loop-due-init c = record { goes_on = goes_still c.args.self.now; by_kind = no_steps c.args.self.now }

pub loop-due-smaller : goal.loop-due-smaller
loop-due-smaller c =
    let makes = c.in_ok-make_next.ensures.ok in
    fewer_left c.loop-due.self c.make_next.new.self makes.due.thread c.history.ensures.sound
    (next_makes c.loop-due.self c.make_next.new.self makes)

pub loop-due-preserved : goal.loop-due-preserved
loop-due-preserved c =
    let makes = c.in_ok-make_next.ensures.ok in
    record {
      goes_on =
          goes_further c.args.self.now c.loop-due.self c.make_next.new.self c.loop-due.invariant.goes_on makes;
      by_kind =
          one_step_more c.args.self.now c.loop-due.self c.make_next.new.self c.loop-due.invariant.by_kind makes;
    }
