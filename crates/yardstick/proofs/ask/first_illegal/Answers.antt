use Rattle.yardstick.proofs.ask.first_illegal.Goals as goal

pub returns : goal.returns
returns c = rw (← c.in_ok-setting.ensures) c.first_illegal_in.ensures
