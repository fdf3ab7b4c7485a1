use Rattle.umem_options.proofs.ItemsLemmas.{no_setting, setting_is}
use Rattle.umem_options.proofs.debug.debug_item.Goals as goal

pub returns-in-None : goal.returns-in-None
returns-in-None c = rw (no_setting c.args.item.now c.in-None.ensures.parts) cc

pub returns-in-Some : goal.returns-in-Some
returns-in-Some c = rw (setting_is c.args.item.now c.in-Some.name.now c.in-Some.value.now c.in-Some.ensures.parts) cc
