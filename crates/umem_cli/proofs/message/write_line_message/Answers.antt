use Rattle.umem_cli.proofs.message.write_line_message.Goals as goal

pub returns-clause-taken : goal.returns-clause-taken
returns-clause-taken g c = rw (← c.text.ensures) c.write_number.ensures.taken
