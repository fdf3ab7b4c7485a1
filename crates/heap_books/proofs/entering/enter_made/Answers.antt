use Rattle.std.proofs.Common.{◌≡◌, ◌-◌, length, ap, ◌∙◌, arith}
use Rattle.heap_books.proofs.MadeLemmas.{made_inner, made_kept, made_room}
use Rattle.heap_books.proofs.entering.enter_made.Goals as goal

-- the inner entries that the call made
inner_count : (c : goal.After-enter-arg-1) → length c.as_slice-entries.result.now - c.args.before - 1 ≡ length c.requires.inner
inner_count c =
    omega (
      arith,
      ap length (c.as_slice-entries.ensures.slice ∙ c.history.ensures.entries),
      made_inner c.args.accounts.now c.args.journal.now c.args.before c.args.act c.requires c.history.ensures.sound,
    )

pub enter-requires : goal.enter-requires
enter-requires c =
    omega (arith, inner_count c, made_room c.args.accounts.now c.args.journal.now c.args.before c.args.act c.requires c.history.ensures.sound)

pub returns : goal.returns
returns c =
    made_kept c.args.accounts.now c.args.journal.now c.args.before c.args.act c.requires c.history.ensures.sound
    (length c.as_slice-entries.result.now - c.args.before - 1) c.enter.new.self (inner_count c.before) c.enter.ensures
