use Rattle.std.proofs.Common.{◌∙◌, ap, sym, arith}
use Rattle.umem_options.specs.Flags.{has_audit}
use Rattle.heap_ledger.specs.Ledger.{Ledger}
use Rattle.heap_books.specs.Freed.{saved_if}
use Rattle.heap_books.specs.Journal.{Journal}
use Rattle.heap_books.proofs.FreedLemmas.{acts_stay, back_is, books_with, books_without, freed_room, none_of, noted_back}
use Rattle.heap_books.proofs.free_commits.enter_freed.Goals as goal

pub enter-requires : goal.enter-requires
enter-requires c = freed_room c.args.accounts.now c.args.journal.now c.args.time c.args.reply c.args.placed c.args.count c.requires c.history.ensures.sound

pub returns-in_default : goal.returns-in_default
returns-in_default c =
    books_without c.args.accounts.now c.args.journal.now c.args.time c.args.reply c.args.placed c.args.count c.requires c.history.ensures.sound
    (sym c.chunk_back.ensures ∙ none_of c.chunk_back.result c.in_default.not-Some) c.enter.new.self c.enter.ensures

pub enter-requires-2 : goal.enter-requires-2
enter-requires-2 c =
    let room = freed_room c.args.accounts.now c.args.journal.now c.args.time c.args.reply c.args.placed c.args.count c.requires c.history.ensures.sound in
    omega (arith, room, ap (λ (j : Journal). j.acts.spare) c.save_freed.ensures, ap (λ a. a.spare) (acts_stay (has_audit c.args.accounts.now.options) c.args.journal.now c.args.time c.in-Some.placed.chunk.number c.args.count))

pub returns : goal.returns
returns c =
    let back = c.in-Some.placed in
    let some = sym c.chunk_back.ensures ∙ c.in-Some.is in
    let noted = noted_back c.requires.old c.args.journal.now c.args.count c.args.placed back (back_is c.args.reply c.args.placed back some) c.requires.noted in
    let options = ap (λ (l : Ledger). has_audit l.options) c.requires.made in
    books_with c.args.accounts.now c.args.journal.now c.args.time c.args.reply c.args.placed c.args.count c.requires c.history.ensures.sound back some noted c.save_freed.new.journal c.enter-2.new.self
    (c.save_freed.ensures ∙ ap (λ b. saved_if b c.args.journal.now c.args.time back.chunk.number c.args.count) options) c.enter-2.ensures
