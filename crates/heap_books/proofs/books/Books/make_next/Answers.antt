use Rattle.std.proofs.Common.{Some, sym, ap, ◌∙◌}
use Rattle.heap_accounts.specs.declared.asked.Asked.TheVariants as asked
use Rattle.heap_accounts.specs.Kinds.{is_large, is_plain_call}
use Rattle.heap_accounts.proofs.FinishLemmas.{next_is_due, none_is_asked}
use Rattle.heap_books.proofs.FinishLemmas.{free_made, last_made, made_as, reap_made, turn_made}
use Rattle.heap_books.proofs.books.Books.make_next.Goals as goal

pub unreachable-requires : goal.unreachable-requires
unreachable-requires c =
    none_is_asked c.args.self.now c.args.due.thread c.args.due.call (next_is_due c.args.self.now c.args.due c.requires)
    (sym c.in_default.ensures)

pub returns-in-Plain-clause-ok : goal.returns-in-Plain-clause-ok
returns-in-Plain-clause-ok c =
    made_as c.args.self.now c.commit_plain.new.self c.args.due asked.Plain c.requires
    (ap Some (sym c.in-Plain.is) ∙ c.in-Some.ensures)
    (λ is. turn_made c.args.self.now c.commit_plain.new.self c.args.due.thread c.args.due.call is_plain_call
    c.commit_plain.result is c.commit_plain.ensures)

pub returns-in_ok-commit_large-in-Large-clause-ok : goal.returns-in_ok-commit_large-in-Large-clause-ok
returns-in_ok-commit_large-in-Large-clause-ok c =
    made_as c.args.self.now c.commit_large.new.self c.args.due asked.Large c.requires
    (ap Some (sym c.in-Large.is) ∙ c.in-Some.ensures)
    (λ is. turn_made c.args.self.now c.commit_large.new.self c.args.due.thread c.args.due.call is_large
    c.in_ok-commit_large-in-Large.field-0 is c.in_ok-commit_large-in-Large.ensures.ok)

pub returns-in_ok-commit_last-in-Chunk-clause-ok : goal.returns-in_ok-commit_last-in-Chunk-clause-ok
returns-in_ok-commit_last-in-Chunk-clause-ok c =
    made_as c.args.self.now c.commit_last.new.self c.args.due (asked.Chunk c.in-Chunk.cache) c.requires
    (ap Some (sym c.in-Chunk.is) ∙ c.in-Some.ensures)
    (λ is. last_made c.args.self.now c.commit_last.new.self c.args.due.thread c.args.due.call c.in-Chunk.cache
    c.in_ok-commit_last-in-Chunk.field-0 is c.in_ok-commit_last-in-Chunk.ensures.ok)

pub returns-in-Free-clause-ok : goal.returns-in-Free-clause-ok
returns-in-Free-clause-ok c =
    made_as c.args.self.now c.commit_free.new.self c.args.due asked.Free c.requires
    (ap Some (sym c.in-Free.is) ∙ c.in-Some.ensures)
    (λ is. free_made c.args.self.now c.commit_free.new.self c.args.due.thread c.args.due.call c.commit_free.result is
    c.commit_free.ensures)

pub returns-in-Reap-clause-ok : goal.returns-in-Reap-clause-ok
returns-in-Reap-clause-ok c =
    made_as c.args.self.now c.commit_reap.new.self c.args.due asked.Reap c.requires
    (ap Some (sym c.in-Reap.is) ∙ c.in-Some.ensures)
    (λ is. reap_made c.args.self.now c.commit_reap.new.self c.args.due.thread c.args.due.call c.commit_reap.result is
    c.commit_reap.ensures)
