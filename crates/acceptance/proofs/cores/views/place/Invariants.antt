use Rattle.acceptance.proofs.cores.views.place.Given as goal

abbrev pub ghosts-counted_place : goal.ghosts-counted_place
ghosts-counted_place a = record { name = a.blank.name; parts = a.blank.parts }
